use Rattle.std.proofs.Common.{◌≡◌, ◌+◌, ◌<◌, ◌≤◌, Some, slice_get, refl, sym, ◌∙◌, arith}
use Rattle.std.proofs.lemmas.Bool.{false≢true}
use Rattle.std.proofs.lemmas.Option.{same_Some}
use Rattle.virtiofs_map.specs.Mapping.{first_of}
use Rattle.virtiofs_map.specs.WordParts.{Searches}
use Rattle.virtiofs_map.proofs.StretchLemmas.{range_at, next_above, no_next, IsStretch-covered}
use Rattle.virtiofs_map.proofs.StretchLemmas.{IsStretch-kept, IsStretch-below, IsStretch-after}
use Rattle.virtiofs_map.proofs.soft_idmap.stretches.stretch.Goals as goal

pub returns-then-len-eq0-clause-stretch : goal.returns-then-len-eq0-clause-stretch
returns-then-len-eq0-clause-stretch c = λ specs direction has.
    rw c.kept.ensures (IsStretch-kept specs direction c.args.ranges.now c.args.n 0 _ has (omega arith)
    (λ last some is. absurd (omega arith))
    (λ next is. absurd (no_next specs direction c.args.ranges.now 0 next has (omega arith) is))
    refl (omega arith) (omega arith) refl)

pub returns-then-covers-clause-stretch : goal.returns-then-covers-clause-stretch
returns-then-covers-clause-stretch c = λ specs direction has.
    let here : slice_get has.ranges c.index-index.result ≡ Some c.entry-range.result =
    range_at specs direction c.args.ranges.now c.index-index.result c.entry-range.result has (omega arith)
    c.entry-range.ensures in
    IsStretch-covered specs direction c.args.ranges.now c.args.n c.index-index.result c.entry-range.result
    c.covered.result has here (c.if-covers.ensures.0 refl) c.covered.ensures

pub returns-then-n-first-clause-stretch : goal.returns-then-n-first-clause-stretch
returns-then-n-first-clause-stretch c = λ specs direction has.
    let searches : Searches c.args.ranges.now c.args.n c.index-index.result (c.index-index.result + 1) =
    rw c.index-index.ensures c.last_from.ensures.found in
    let here : slice_get has.ranges c.index-index.result ≡ Some c.entry-range.result =
    range_at specs direction c.args.ranges.now c.index-index.result c.entry-range.result has (omega arith)
    c.entry-range.ensures in
    let within : c.first-then-n-first.result < 4294967296 = c.first-then-n-first.type_inv in
    rw c.kept-then-n-first.ensures
    (IsStretch-below specs direction c.args.ranges.now c.args.n c.index-index.result c.entry-range.result _ has searches
    here (omega arith) (omega arith) refl (omega arith) (omega arith) refl)

pub overflow_sub-next : goal.overflow_sub-next
overflow_sub-next c =
    let (specs, direction, has) = c.requires in
    let searches : Searches c.args.ranges.now c.args.n c.index-index.result (c.index-index.result + 1) =
    rw c.index-index.ensures c.last_from.ensures.found in
    let above : c.args.n < first_of c.entry.result =
    next_above specs direction c.args.ranges.now c.args.n c.index-index.result c.entry.result has searches
    (range_at specs direction c.args.ranges.now (c.index-index.result + 1) c.entry.result has (omega arith)
    c.entry.ensures) in
    omega arith

pub returns-then-index-len-clause-stretch : goal.returns-then-index-len-clause-stretch
returns-then-index-len-clause-stretch c = λ specs direction has.
    let searches : Searches c.args.ranges.now c.args.n c.index-index.result (c.index-index.result + 1) =
    rw c.index-index.ensures c.last_from.ensures.found in
    let here : slice_get has.ranges c.index-index.result ≡ Some c.entry-range.result =
    range_at specs direction c.args.ranges.now c.index-index.result c.entry-range.result has (omega arith)
    c.entry-range.ensures in
    let there : slice_get has.ranges (c.index-index.result + 1) ≡ Some c.entry.result =
    range_at specs direction c.args.ranges.now (c.index-index.result + 1) c.entry.result has (omega arith)
    c.entry.ensures in
    let above : c.args.n < first_of c.entry.result =
    next_above specs direction c.args.ranges.now c.args.n c.index-index.result c.entry.result has searches there in
    let begins : first_of c.entry-range.result ≤ c.args.n = omega arith in
    let within : c.first-next.result < 4294967296 = c.first-next.type_inv in
    rw c.kept-then-index-len.ensures
    (IsStretch-after specs direction c.args.ranges.now c.args.n c.index-index.result c.entry-range.result _ has
    (omega arith) here begins
    (λ covers. false≢true (c.if-covers.ensures.1 covers))
    (λ next is. (let same : c.entry.result ≡ next = same_Some _ _ (sym there ∙ is) in rw (← same) (omega arith)))
    refl (omega arith) (omega arith) refl)

pub returns-clause-stretch : goal.returns-clause-stretch
returns-clause-stretch c = λ specs direction has.
    let here : slice_get has.ranges c.index-index.result ≡ Some c.entry-range.result =
    range_at specs direction c.args.ranges.now c.index-index.result c.entry-range.result has (omega arith)
    c.entry-range.ensures in
    let begins : first_of c.entry-range.result ≤ c.args.n = omega arith in
    rw c.kept-2.ensures
    (IsStretch-after specs direction c.args.ranges.now c.args.n c.index-index.result c.entry-range.result _ has
    (omega arith) here begins
    (λ covers. false≢true (c.if-covers.ensures.1 covers))
    (λ next is. absurd (no_next specs direction c.args.ranges.now (c.index-index.result + 1) next has (omega arith) is))
    refl (omega arith) (omega arith) refl)
