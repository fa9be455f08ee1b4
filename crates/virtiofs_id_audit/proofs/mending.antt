mod ListedLemmas
mod MendsLemmas
