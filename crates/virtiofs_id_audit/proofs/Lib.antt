pub mod ForCallers
mod ApartLemmas
mod HeldLemmas
mod IdAuditLemmas
mod ImageLemmas
mod NamespaceLemmas
mod OutsideLemmas
mod PieceLemmas
mod RoundTripLemmas
mod SpanLemmas
