-- Neighbouring ids that are all of some kind, or of which none is.
use Rattle.std.proofs.Common.{◌≡◌, ◌≢◌, ◌↔◌, Bool, inl, inr, ℕ, zero, suc, ◌+◌, ◌-◌, ◌<◌, ◌≤◌, true, false, min, List}
use Rattle.std.proofs.Common.{Some, refl, sym, ◌∙◌, subst, arith, rules}
use Rattle.std.proofs.Math.Bool.{beq}
use Rattle.std.proofs.lemmas.Bool.{false≢true, true_from_ne_false, false_from_ne_true}
use Rattle.std.proofs.lemmas.Option.{same_Some}
use Rattle.virtiofs_id_audit.specs.IdAudit.{IsAstray, GoesInto, Hold}
use Rattle.virtiofs_id_audit.specs.IdAuditParts.{ReturnsBy, BecomesOne, IsMoved, IsSought, of_bad, IsRun, AreStarts}
use Rattle.virtiofs_id_audit.specs.declared.spans.Run.{Run}
use Rattle.virtiofs_id_audit.specs.declared.spans.Span.{Span}
use Rattle.virtiofs_map.specs.Build.{Accepted}
use Rattle.virtiofs_map.specs.Mapping.{Becomes}
use Rattle.virtiofs_map.specs.Pieces.{IsStretch, is_one_to_one, value_by, value_in, IsNamed}
use Rattle.virtiofs_map.specs.declared.cmdline.IdMap.{IdMap}
use Rattle.virtiofs_map.specs.declared.soft_idmap.entry.Direction.TheVariants.{GuestToHost, HostToGuest}
use Rattle.virtiofs_map.specs.declared.soft_idmap.piece.Outcome.{Outcome}
use Rattle.virtiofs_map.specs.declared.soft_idmap.piece.Outcome.TheVariants.{OneToOne}
use Rattle.virtiofs_map.specs.declared.soft_idmap.piece.Piece.{Piece}
use Rattle.virtiofs_id_audit.proofs.PieceLemmas.{value-each}
use Rattle.virtiofs_id_audit.proofs.RoundTripLemmas.{IsMoved-astray, astray-IsMoved}
use Rattle.virtiofs_map.proofs.ForCallers.{lookup_one_value}

-- ---- numbers of a piece

pub IsRun-each : (piece : Piece) (spans : List Span) (to : ℕ) (run : Run) → piece.first ≤ piece.last
    → is_one_to_one piece.becomes ≡ true → Some to ≡ value_in piece piece.first → IsRun (Hold spans) to 4294967295 run
    → IsRun (BecomesOne piece (Hold spans)) piece.first piece.last
    (record { last = piece.first + min (piece.last - piece.first) (run.last - to); all = run.all })
IsRun-each piece spans to run order each start is = record {
  from = omega arith;
  to = omega arith;
  each = λ n from to'.
      (let value = value-each piece to n each start from in
      let far = is.from in
      let at = is.each (to + (n - piece.first)) (omega arith) (omega arith) in (
        λ all. (to + (n - piece.first), value, at.0 all),
        λ (host, becomes, held). at.1 (rw (same_Some _ _ (sym becomes ∙ value)) at held),
      ));
}

-- all of them are ids
each_fits : (outcome : Outcome) (first last to : ℕ) → is_one_to_one outcome ≡ true
    → Some to ≡ value_by outcome first first → IsNamed outcome first last → first ≤ last → last ≤ 4294967295
    → to + (last - first) ≤ 4294967295
each_fits outcome first last to each start named order within = grind (arith, same_Some, false≢true)

-- where they become others one after the other, all do
pub IsRun-moved : (piece : Piece) (to : ℕ) → piece.becomes ≡ OneToOne to → piece.first ≤ piece.last
    → IsNamed piece.becomes piece.first piece.last
    → IsRun (IsMoved piece) piece.first piece.last (record { last = piece.last; all = true })
IsRun-moved piece to is order named =
    let named' = rw is at named in
    record {
      from = order;
      to = omega arith;
      each = λ n from below. (
        λ _. (to + (n - piece.first), rw is refl, λ same. named'.0 (omega arith)),
        λ _. refl,
      );
    }

-- ---- ids of the guest

pub IsRun-into : (specs : List IdMap) (hosts : ℕ → Type 0) (there : Piece) (n last : ℕ) (run : Run) → Accepted specs
    → IsStretch specs GuestToHost there → there.first ≡ n → n < 4294967295
    → IsRun (BecomesOne there hosts) there.first there.last run → last ≡ min run.last 4294967294
    → IsRun (GoesInto specs hosts) n 4294967294 (record { last = last; all = run.all })
IsRun-into specs hosts there n last run accepted stretch first is_id is last_is =
    record {
      from = omega (arith, is.from);
      to = omega arith;
      each = λ m from below.
          (let at = is.each m (omega arith) (omega arith) in
          let becomes = stretch.becomes m (omega arith) (omega (arith, is.to)) in (
            λ all. into m from below (at.0 all),
            λ goes. at.1
                (goes.host, lookup_one_value specs accepted GuestToHost m _ _ becomes goes.goes.becomes, goes.is_one),
          ));
    } where
      into : (m : ℕ) → n ≤ m → m ≤ last → BecomesOne there hosts m → GoesInto specs hosts m
      into m from below (host, becomes, is_one) = search rules

pub IsRun-trip : (specs : List IdMap) (trip : Piece) (n last : ℕ) (moved : Run) → Accepted specs → trip.first ≡ n
    → ReturnsBy specs trip → IsRun (IsMoved trip) trip.first trip.last moved → n < 4294967295
    → last ≡ min moved.last 4294967294
    → IsRun (IsAstray specs) n 4294967294 (record { last = last; all = moved.all })
IsRun-trip specs trip n last moved accepted first returns is is_id last_is = record {
  from = omega (arith, is.from);
  to = omega arith;
  each = λ m from to.
      (let at = is.each m (omega arith) (omega arith) in
      let back = returns m (omega arith) (omega (arith, is.to)) in (
        λ every. IsMoved-astray specs trip m accepted back (omega arith) (at.0 every),
        λ astray. at.1 (astray-IsMoved specs trip m accepted back astray),
      ));
}

-- those after one that is astray, up to a start
module _ (specs : List IdMap) (there : Piece) (n last : ℕ) (starts : List Span) (next : Run) (accepted : Accepted specs)
    (astray : IsAstray specs n) (stretch : IsStretch specs GuestToHost there) (first : there.first ≡ n)
    (each : is_one_to_one there.becomes ≡ true) (are : AreStarts specs starts)
    (free : IsRun (Hold starts) (n + 1) 4294967295 next) (none : next.all ≡ false)
    (last_is : last ≡ min (min there.last next.last) 4294967294) where
  start : Some astray.host ≡ value_in there there.first
  start =
      sym (lookup_one_value specs accepted GuestToHost there.first _ _
      (stretch.becomes there.first (omega arith) stretch.order)
      (subst (λ (k : ℕ). Becomes specs GuestToHost k (Some astray.host)) (sym first) astray.goes.becomes))

  goes : (d : ℕ) → n + d ≤ last → Becomes specs GuestToHost (n + d) (Some (astray.host + d))
  goes d below =
      let far : n + d - there.first ≡ d = omega arith in
      rw (value-each there astray.host (n + d) each start (omega arith), far)
      at (stretch.becomes (n + d) (omega arith) (omega arith))

  not_back : (d : ℕ) → n + d ≤ last → ¬ Becomes specs HostToGuest (astray.host + d) (Some (n + d))
  not_back zero below back =
      let host : astray.host + 0 ≡ astray.host = omega arith in
      let guest : n + 0 ≡ n = omega arith in
      astray.not_back (rw (host, guest) at back)
  not_back (suc d) below back =
      let fits : astray.host + (there.last - there.first) ≤ 4294967295 =
      each_fits there.becomes there.first there.last astray.host each start stretch.named stretch.order
      stretch.within in
      elim (are (astray.host + suc d) (n + suc d) (omega arith) (omega arith) back) [
        | inl listed ↦ absurd (cc (none, (free.each (n + suc d) (omega arith) (omega arith)).1 listed))
        | inr before ↦
            let host : (astray.host + suc d) - 1 ≡ astray.host + d = omega arith in
            let guest : (n + suc d) - 1 ≡ n + d = omega arith in
            not_back d (omega arith) (rw (host, guest) at before)
      ]

  pub IsRun-starts : IsRun (IsAstray specs) n 4294967294 (record { last = last; all = true })
  IsRun-starts = record {
    from = omega (arith, stretch.order, free.from, astray.goes.is_id);
    to = omega arith;
    each = λ m from below. (
      λ _.
          (let far : n + (m - n) ≡ m = omega arith in
          subst (λ (k : ℕ). IsAstray specs k) far (record {
            host = astray.host + (m - n);
            goes = record { is_id = omega arith; becomes = goes (m - n) (omega arith) };
            not_back = not_back (m - n) (omega arith);
          })),
      λ _. refl,
    );
  }

-- ---- what is known of two kinds

pub beq_is : (a b : Bool) → (beq a b ≡ true) ↔ (a ≡ b)
beq_is true true = (λ _. refl, λ _. refl)
beq_is true false = (λ e. absurd (cc), λ e. absurd (cc))
beq_is false true = (λ e. absurd (cc), λ e. absurd (cc))
beq_is false false = (λ _. refl, λ _. refl)

module _ (specs : List IdMap) (hosts : ℕ → Type 0) (n : ℕ) (astray : Run)
    (is_astray : IsRun (IsAstray specs) n 4294967294 astray) where
  -- those that do not come back are bad, and those that do are not astray
  pub IsRun-known : (bad : Bool) → astray.all ≡ bad → IsRun (IsSought (of_bad bad) specs hosts) n 4294967294 astray
  IsRun-known true every = record {
    from = is_astray.from;
    to = is_astray.to;
    each = λ m from to. (
      λ all.
          (let is = (is_astray.each m from to).0 all in
          record { host = is.host; goes = is.goes; why = inl is.not_back }),
      λ _. every,
    );
  }
  IsRun-known false never = record {
    from = is_astray.from;
    to = is_astray.to;
    each = λ m from to. (λ all. absurd (cc), λ (is, _). (is_astray.each m from to).1 is);
  }

  -- of the others it matters what they become
  pub IsRun-both : (bad : Bool) (into : Run) (last : ℕ) (all : Bool) → IsRun (GoesInto specs hosts) n 4294967294 into
      → last ≡ min astray.last into.last → astray.all ≢ bad → (all ≡ true) ↔ (into.all ≡ bad)
      → IsRun (IsSought (of_bad bad) specs hosts) n 4294967294 (record { last = last; all = all })
  IsRun-both bad into last all is last_is differ same = record {
    from = omega (arith, is_astray.from, is.from);
    to = omega (arith, is.to);
    each = λ m from to. of bad m (is_astray.each m from (omega arith)) (is.each m from (omega arith)) differ same;
  } where
    of : (bad : Bool) (m : ℕ) → (astray.all ≡ true) ↔ IsAstray specs m → (into.all ≡ true) ↔ GoesInto specs hosts m
        → astray.all ≢ bad → (all ≡ true) ↔ (into.all ≡ bad) → (all ≡ true) ↔ IsSought (of_bad bad) specs hosts m
    of true m stray goes differ same = (
      λ every. (let is = goes.0 (same.0 every) in record { host = is.host; goes = is.goes; why = inr is.is_one }),
      λ bad. same.1 (elim bad.why [
        | inl not_back ↦ absurd (differ (stray.1 (record { host = bad.host; goes = bad.goes; not_back = not_back })))
        | inr is_one ↦ goes.1 (record { host = bad.host; goes = bad.goes; is_one = is_one })
      ]),
    )
    of false m stray goes differ same = (
      λ every. (stray.0 (true_from_ne_false astray.all differ), λ is. absurd (cc (same.0 every, goes.1 is))),
      λ (_, not_into). same.1 (false_from_ne_true into.all (λ is. not_into (goes.0 is))),
    )
