mod AllowedLemmas
mod CommandLineLemmas
mod CutLemmas
mod DecimalLemmas
mod IdMapLemmas
mod LinesLemmas
mod SequenceLemmas
