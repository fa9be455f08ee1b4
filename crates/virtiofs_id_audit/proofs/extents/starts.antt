mod StartLemmas
