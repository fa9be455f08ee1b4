mod PrependLemmas
