mod AgainLemmas
