mod EveryoneLemmas
mod RunningLemmas
