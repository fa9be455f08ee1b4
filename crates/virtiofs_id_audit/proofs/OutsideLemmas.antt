-- Ids that are moved into a namespace and out of it.
use Rattle.std.proofs.Common.{◌≡◌, ◌≢◌, ◌⊎◌, ◌↔◌, inl, inr, ℕ, ◌+◌, ◌-◌, ◌<◌, ◌≤◌, min, max, List, [], ◌∷◌, ◌++◌}
use Rattle.std.proofs.Common.{length, take, get_or, eqb, Bool, true, false, Option, Some, None, refl, arith, rules}
use Rattle.std.proofs.lemmas.Bool.Decides.{nat_tests}
use Rattle.std.proofs.lemmas.List.{nil_from_length, take_more}
use Rattle.std.proofs.lemmas.List.Elements.{Contains-push, Contains-push_cases, Contains-append_left}
use Rattle.virtiofs_id_audit.specs.IdAudit.{Has, Hold}
use Rattle.virtiofs_id_audit.specs.declared.spans.Span.{Span}
use Rattle.virtiofs_map.specs.declared.idmap.UidMap.{UidMap}
use Rattle.virtiofs_id_audit.specs.Outside.{MovesBy, MovesTo, HasIf, AreMoved}
use Rattle.virtiofs_id_audit.specs.OutsideParts.{Moves, MovesAmong, AddsMoved}
use Rattle.virtiofs_id_audit.specs.declared.outside.Way.{Way}
use Rattle.virtiofs_id_audit.specs.declared.outside.Way.TheVariants.{Inwards, Outwards}
use Rattle.virtiofs_id_audit.proofs.HeldLemmas.{hold_push, push_hold, hold_none}

-- ---- whether there are ranges

pub none_here : (ranges : List UidMap) (r : Bool) → r ≡ eqb (length ranges) 0 → r ≡ true → ranges ≡ []
none_here ranges r e is_true = nil_from_length ranges (grind (arith, nat_tests))

pub some_here : (ranges : List UidMap) (r : Bool) → r ≡ eqb (length ranges) 0 → r ≡ false → ranges ≢ []
some_here ranges r e is_false none = search (rules, nat_tests)

-- ---- one span, moved

-- none of its ids is moved
pub moved_none : (span : Span) (from to count begin past : ℕ) → to ≤ 4294967295 → begin ≡ max span.first from
    → past ≡ min (min (span.last + 1) (from + count)) (min ((from + 4294967296) - to) 4294967296) → past ≤ begin
    → (moved : ℕ) → HasIf None moved ↔ ((id : ℕ) × Has span id × Moves from to count id moved)
moved_none span from to count begin past bound begins ends over moved = search rules

-- those from one to another are
pub moved_some : (span there : Span) (from to count begin past : ℕ) → to ≤ 4294967295
    → begin ≡ max span.first from
    → past ≡ min (min (span.last + 1) (from + count)) (min ((from + 4294967296) - to) 4294967296) → begin < past
    → there.first ≡ to + (begin - from) → there.last ≡ to + (past - 1 - from)
    → (moved : ℕ) → HasIf (Some there) moved ↔ ((id : ℕ) × Has span id × Moves from to count id moved)
moved_some span there from to count begin past bound begins ends some first last moved = (
  (λ (low, high). (
    from + (moved - to),
    omega (arith, begins, ends, some, first, last, low, high),
    omega (arith, begins, ends, some, first, last, low, high, bound),
  )),
  (λ (id, has, moves). omega (arith, begins, ends, first, last, bound, has, moves)),
)

-- the same of another way to say how ids are moved
same_moved : (r : Option Span) (span : Span) (P Q : ℕ → ℕ → Type 0) → ((id moved : ℕ) → P id moved → Q id moved)
    → ((id moved : ℕ) → Q id moved → P id moved)
    → ((moved : ℕ) → HasIf r moved ↔ ((id : ℕ) × Has span id × P id moved))
    → (moved : ℕ) → HasIf r moved ↔ ((id : ℕ) × Has span id × Q id moved)
same_moved r span P Q from back each moved = search rules

-- out of the namespace
pub moved_out : (r : Option Span) (range : UidMap) (span : Span)
    → ((moved : ℕ) → HasIf r moved
    ↔ ((id : ℕ) × Has span id × Moves range.inside_uid range.outside_uid range.count id moved))
    → (moved : ℕ) → HasIf r moved ↔ ((id : ℕ) × Has span id × MovesBy Outwards range id moved)
moved_out r range span = search (rules, same_moved)

-- into it
pub moved_in : (r : Option Span) (range : UidMap) (span : Span)
    → ((moved : ℕ) → HasIf r moved
    ↔ ((id : ℕ) × Has span id × Moves range.outside_uid range.inside_uid range.count id moved))
    → (moved : ℕ) → HasIf r moved ↔ ((id : ℕ) × Has span id × MovesBy Inwards range id moved)
moved_in r range span = search (rules, same_moved)

-- ---- one id, moved

-- it is not moved
pub id_stays : (way : Way) (range : UidMap) (one : Span) (id : ℕ) → one.first ≡ id → one.last ≡ id
    → ((moved : ℕ) → HasIf None moved ↔ ((n : ℕ) × Has one n × MovesBy way range n moved))
    → (moved : ℕ) → ¬ MovesBy way range id moved
id_stays way range one id first last each moved moves =
    (each moved).1 (id, (omega (arith, first), omega (arith, last)), moves)

-- it is
pub id_goes : (way : Way) (range : UidMap) (one there : Span) (id : ℕ) → one.first ≡ id → one.last ≡ id
    → there.first ≤ there.last
    → ((moved : ℕ) → HasIf (Some there) moved ↔ ((n : ℕ) × Has one n × MovesBy way range n moved))
    → MovesBy way range id there.first
id_goes way range one there id first last order each =
    let (n, has, moves) = (each there.first).0 (omega arith, order) in
    let same : n ≡ id = omega (arith, first, last, has) in
    rw same at moves

-- ---- spans, one by one

-- one more range
among_push : (way : Way) (ranges : List UidMap) (range : UidMap) (id moved : ℕ)
    → MovesAmong way (ranges ++ range ∷ []) id moved ↔ (MovesAmong way ranges id moved ⊎ MovesBy way range id moved)
among_push way ranges range id moved = (
  (λ (other, listed, moves). elim (Contains-push_cases ranges range other listed) [
    | inl before ↦ inl (other, before, moves)
    | inr same ↦ inr (rw same moves)
  ]),
  search (rules, Contains-append_left, Contains-push),
)

-- no range moves any at first
pub adds_none : (before : List Span) (way : Way) (ranges : List UidMap) (span : Span)
    → AddsMoved before way (take 0 ranges) span before
adds_none before way ranges span = search rules

-- a range that moves what the spans have more
pub adds_more : (before after more : List Span) (way : Way) (ranges : List UidMap) (span : Span) (r : Option Span) (i : ℕ)
    (d : UidMap) → i < length ranges → AddsMoved before way (take i ranges) span after
    → ((moved : ℕ) → Hold more moved ↔ (Hold after moved ⊎ HasIf r moved))
    → ((moved : ℕ) → HasIf r moved ↔ ((id : ℕ) × Has span id × MovesBy way (get_or ranges i d) id moved))
    → AddsMoved before way (take (i + 1) ranges) span more
adds_more before after more way ranges span r i d below so_far hold some = rw (take_more ranges i d below) (record {
  each = λ moved. (
    (λ held. elim ((hold moved).0 held) [
      | inl old ↦ elim ((so_far.each moved).0 old) [
        | inl first ↦ inl first
        | inr (id, has, moves) ↦
            inr (id, has, (among_push way (take i ranges) (get_or ranges i d) id moved).1 (inl moves))
      ]
      | inr has_one ↦ (let (id, has, moves) = (some moved).0 has_one in
          inr (id, has, (among_push way (take i ranges) (get_or ranges i d) id moved).1 (inr moves)))
    ]),
    (λ any. (hold moved).1 (elim any [
      | inl old ↦ inl ((so_far.each moved).1 (inl old))
      | inr (id, has, moves) ↦ elim ((among_push way (take i ranges) (get_or ranges i d) id moved).0 moves) [
        | inl before ↦ inl ((so_far.each moved).1 (inr (id, has, before)))
        | inr here ↦ inr ((some moved).1 (id, has, here))
      ]
    ])),
  );
})

-- ---- with ranges and without

-- where there are ranges, one of them moves the id
pub among_moves : (way : Way) (ranges : List UidMap) (id moved : ℕ) → ranges ≢ []
    → MovesAmong way ranges id moved ↔ MovesTo way ranges id moved
among_moves way ranges id moved some = grind arith

-- where there are none, it stays
stays_moves : (way : Way) (ranges : List UidMap) (id moved : ℕ) → ranges ≡ [] → (id ≡ moved) ↔ MovesTo way ranges id moved
stays_moves way ranges id moved none = grind arith

-- ---- all spans

pub moved_unmoved : (way : Way) (ranges : List UidMap) (spans all : List Span) → ranges ≡ [] → all ≡ spans
    → AreMoved way ranges spans all
moved_unmoved way ranges spans all none same = rw same (record {
  each = λ moved. (
    λ held. (moved, held, (stays_moves way ranges moved moved none).0 refl),
    λ (id, held, moves). (let is : id ≡ moved = (stays_moves way ranges id moved none).1 moves in rw is at held),
  );
})

pub moved_no_span : (way : Way) (ranges : List UidMap) (spans : List Span) → AreMoved way ranges (take 0 spans) []
moved_no_span way ranges spans = search (rules, hold_none)

pub moved_one_more : (way : Way) (ranges : List UidMap) (spans all more : List Span) (i : ℕ) (d : Span)
    → i < length spans → ranges ≢ [] → AreMoved way ranges (take i spans) all
    → AddsMoved all way ranges (get_or spans i d) more → AreMoved way ranges (take (i + 1) spans) more
moved_one_more way ranges spans all more i d below some so_far adds = rw (take_more spans i d below) (record {
  each = λ moved. (
    (λ held. elim ((adds.each moved).0 held) [
      | inl old ↦ (let (id, has, moves) = (so_far.each moved).0 old in
          (id, push_hold (take i spans) (get_or spans i d) id (inl has), moves))
      | inr (id, has, moves) ↦ (
        id,
        push_hold (take i spans) (get_or spans i d) id (inr has),
        (among_moves way ranges id moved some).0 moves,
      )
    ]),
    (λ (id, held, moves). (adds.each moved).1 (elim (hold_push (take i spans) (get_or spans i d) id held) [
      | inl old ↦ inl ((so_far.each moved).1 (id, old, moves))
      | inr has ↦ inr (id, has, (among_moves way ranges id moved some).1 moves)
    ])),
  );
})
