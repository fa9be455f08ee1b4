-- What callers may cite of this crate's proofs. All the rest is private and may change.
-- ids that are moved into a namespace and out of it
pub use Rattle.virtiofs_id_audit.proofs.HeldLemmas.{hold_one}
pub use Rattle.virtiofs_id_audit.proofs.OutsideLemmas.{among_moves, none_here, some_here}
