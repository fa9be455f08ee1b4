use Rattle.std.proofs.Common.{◌≡◌, ◌≢◌, ℕ, ◌<◌, length, rules}
use Rattle.std.proofs.lemmas.List.Elements.{All-nil}
use Rattle.virtiofs_map_c.proofs.ShownLemmas.{no_name, first_name}
use Rattle.virtiofs_map_c.proofs.names.shown.first_shown.Goals as goal

pub returns-then-is_empty-clause-first : goal.returns-then-is_empty-clause-first
returns-then-is_empty-clause-first c = λ map image.
    let passed = All-nil (λ (byte : ℕ). byte ≢ 0) in
    let none : length c.cut_name.result.0.now ≡ 0 = search rules in
    no_name map c.args.list.now _ _ (record { before = c.cut_name.ensures.name passed; after = c.cut_name.ensures.rest passed }) none

pub returns-clause-first : goal.returns-clause-first
returns-clause-first c = λ map image.
    let passed = All-nil (λ (byte : ℕ). byte ≢ 0) in
    let some : 0 < length c.cut_name.result.0.now = search rules in
    first_name map c.args.list.now _ _ (record { before = c.cut_name.ensures.name passed; after = c.cut_name.ensures.rest passed }) _ some
    (c.seen.ensures.shown map image)
