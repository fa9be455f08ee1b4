mod AclCapabilityLemmas
mod AclChangeLemmas
mod AclFaultLemmas
mod AclLawLemmas
mod AclMergeLemmas
mod AclWriteLemmas
