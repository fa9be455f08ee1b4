mod ClusterLemmas
mod GuestLemmas
mod GuestsLemmas
mod PartLemmas
mod ResultLemmas
mod SearchLemmas
mod TextLemmas
mod UnknownLemmas
