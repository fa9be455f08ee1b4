mod AppendedRowLemmas
mod NextByteLemmas
mod PatternLemmas
mod KeyedLemmas
mod SharedLemmas
mod SameTextsLemmas
