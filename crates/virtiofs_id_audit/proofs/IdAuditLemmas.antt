-- The answers of the audits of ids.
use Rattle.std.proofs.Common.{◌≡◌, ◌≢◌, ◌↔◌, inl, inr, ℕ, ◌+◌, ◌≤◌, List, [], ◌∷◌, Option, refl, sym, arith}
use Rattle.std.proofs.Common.{rules}
use Rattle.std.proofs.lemmas.Bool.{cases_eq, cases_order}
use Rattle.virtiofs_id_audit.specs.IdAudit.{IsLeastId, IsLeastIfAny, GoesTo, ComesBack, IsAstray, IsAlone, IsShared}
use Rattle.virtiofs_id_audit.specs.IdAudit.{SharesWith, SharedAs, GoesInto, Between, ReachedBy, AreIdsApart, Hold}
use Rattle.virtiofs_id_audit.specs.IdAuditParts.{AreImages, times}
use Rattle.virtiofs_id_audit.specs.declared.answer.IdAudit.TheVariants.{Yes, No}
use Rattle.virtiofs_id_audit.specs.declared.spans.Span.{Span}
use Rattle.virtiofs_map.specs.Build.{Accepted}
use Rattle.virtiofs_map.specs.declared.cmdline.IdMap.{IdMap}
use Rattle.virtiofs_id_audit.proofs.HeldLemmas.{hold_one}
use Rattle.virtiofs_id_audit.proofs.HeldLemmas.{times_hold}
use Rattle.virtiofs_map.proofs.ForCallers.{Becomes-one}

-- ---- Yes and No

-- a No, where what is asked does not hold
pub no_where_bad : {T : Type 0} (bad : ℕ → Type 0) (Holds : Type 0) (n : ℕ) (told : T) → bad n
    → (Holds → (m : ℕ) → ¬ bad m) → (No told ≡ Yes) ↔ Holds
no_where_bad bad Holds n told is from = (λ e. absurd (cc), λ holds. absurd (from holds n is))

-- what is bad by one word is bad by another
pub IsLeastIfAny-same : (bad other : ℕ → Type 0) (least : Option ℕ) → ((n : ℕ) → bad n → other n)
    → ((n : ℕ) → other n → bad n) → IsLeastIfAny bad least → IsLeastIfAny other least
IsLeastIfAny-same bad other least to from none = grind arith

-- ---- comes back

pub ComesBack-none : (specs : List IdMap) → ComesBack specs → (n : ℕ) → ¬ IsAstray specs n
ComesBack-none specs all n astray = astray.not_back (all n astray.host astray.goes)

-- ---- is alone

-- what is reached twice is shared
pub IsAlone-none : (specs : List IdMap) → IsAlone specs → (n : ℕ) → ¬ IsShared specs n
IsAlone-none specs alone n (other, shares) =
    shares.differ (sym (alone n other shares.host shares.goes shares.other_goes))

pub IsAlone-all : (specs : List IdMap) → ((n : ℕ) → ¬ IsShared specs n) → IsAlone specs
IsAlone-all specs none guest other host goes other_goes =
    elim (cases_eq guest other) [
      | inl same ↦ same
      | inr differ ↦ absurd
          (none guest
          (other, record { host = host; differ = λ e. differ (sym e); goes = goes; other_goes = other_goes }))
    ]

module _ (specs : List IdMap) (images again : List Span) (are : AreImages specs images)
    (twice : (id : ℕ) → Hold again id ↔ (2 ≤ times images id)) where
  -- an id that goes where another one does shares with it
  two_share : (n m host : ℕ) → n ≢ m → GoesTo specs n host → GoesTo specs m host → Hold again host
  two_share n m host differ goes other_goes =
      (twice host).1 ((are host).two.1 (
      elim (cases_order n m) [
        | inl same ↦ absurd (differ same)
        | inr (inl before) ↦ (n, m, omega arith, before, omega (arith, other_goes), goes, other_goes)
        | inr (inr after) ↦ (m, n, omega arith, after, omega (arith, goes), other_goes, goes)
      ]
      ))

  IsShared-into : (n : ℕ) → IsShared specs n → GoesInto specs (Hold again) n
  IsShared-into n (other, shares) = search (rules, two_share)

  into-IsShared : (n : ℕ) → GoesInto specs (Hold again) n → IsShared specs n
  into-IsShared n goes =
      let (a, b, from, less, below, a_goes, b_goes) =
      (are goes.host).two.0 ((twice goes.host).0 goes.is_one) in
      elim (cases_eq a n) [
        | inl same ↦ search rules
        | inr differ ↦ (a, record { host = goes.host; differ = differ; goes = goes.goes; other_goes = a_goes })
      ]

  pub IsLeastIfAny-shared : (least : Option ℕ) → IsLeastIfAny (GoesInto specs (Hold again)) least
      → IsLeastIfAny (IsShared specs) least
  IsLeastIfAny-shared least found = search (rules, IsLeastIfAny-same, into-IsShared, IsShared-into)

-- the other one shares with it too, and goes where it goes
shares_back : (specs : List IdMap) (n m : ℕ) → SharesWith specs n m → SharesWith specs m n
shares_back specs n m shares = search rules

shares_host : (specs : List IdMap) (n m host : ℕ) → Accepted specs → GoesTo specs n host → SharesWith specs n m
    → GoesInto specs (λ id. id ≡ host) m
shares_host specs n m host accepted goes shares = search (rules, Becomes-one)

-- the least id that shares has no lesser one with which it does
pub SharedAs-next : (specs : List IdMap) (n other host : ℕ) → Accepted specs → IsLeastId (IsShared specs) n
    → GoesTo specs n host → IsLeastId (λ m. (n + 1 ≤ m) × GoesInto specs (λ id. id ≡ host) m) other
    → SharedAs specs n other host
SharedAs-next specs n other host accepted least goes next = record {
  least = record {
    is_bad = search rules;
    none_before = λ m before shares.
        elim (cases_order m n) [
          | inl same ↦ shares.differ same
          | inr (inl lesser) ↦ least.none_before m lesser (n, shares_back specs n m shares)
          | inr (inr later) ↦ next.none_before m before (omega arith, shares_host specs n m host accepted goes shares)
        ];
  };
  goes = goes;
}

-- and there is a greater one
pub shares_later : (specs : List IdMap) (n host : ℕ) → Accepted specs → IsLeastId (IsShared specs) n
    → GoesTo specs n host → ¬ ((m : ℕ) → ¬ ((n + 1 ≤ m) × GoesInto specs (λ id. id ≡ host) m))
shares_later specs n host accepted least goes none = later least.is_bad where
  later : IsShared specs n → ⊥
  later (m, shares) =
      elim (cases_order m n) [
        | inl same ↦ shares.differ same
        | inr (inl lesser) ↦ least.none_before m lesser (n, shares_back specs n m shares)
        | inr (inr after) ↦ none m (omega arith, shares_host specs n m host accepted goes shares)
      ]

-- ---- one span

-- the ids of one span alone
pub Hold-one : (span : Span) (id : ℕ) → Hold (span ∷ []) id ↔ Between span.first span.last id
Hold-one span id = (hold_one span id, λ has. (span, (0, omega arith, refl), has))

-- ids that become one of those of other words
pub GoesInto-same : (specs : List IdMap) (hosts others : ℕ → Type 0) (n : ℕ) → ((id : ℕ) → hosts id → others id)
    → GoesInto specs hosts n → GoesInto specs others n
GoesInto-same specs hosts others n to goes = search rules

-- the least one that does, by other words for the same ids of the host
into_like : (specs : List IdMap) (from : ℕ) (hosts others : ℕ → Type 0) (least : Option ℕ)
    → ((id : ℕ) → hosts id ↔ others id) → IsLeastIfAny (λ n. (from ≤ n) × GoesInto specs hosts n) least
    → IsLeastIfAny (λ n. (from ≤ n) × GoesInto specs others n) least
into_like specs from hosts others least same found = search (rules, IsLeastIfAny-same, GoesInto-same)

pub into_same : (specs : List IdMap) (hosts others : ℕ → Type 0) (least : Option ℕ)
    → ((id : ℕ) → hosts id ↔ others id) → IsLeastIfAny (GoesInto specs hosts) least
    → IsLeastIfAny (GoesInto specs others) least
into_same specs hosts others least same found = search (rules, IsLeastIfAny-same, GoesInto-same)

-- of all ids of the guest
pub into_any : (specs : List IdMap) (hosts others : ℕ → Type 0) (least : Option ℕ)
    → ((id : ℕ) → hosts id ↔ others id) → IsLeastIfAny (λ n. (0 ≤ n) × GoesInto specs hosts n) least
    → IsLeastIfAny (GoesInto specs others) least
into_any specs hosts others least same found = search (rules, IsLeastIfAny-same, GoesInto-same)

-- the same of one id
pub IsLeastIfAny-only : (specs : List IdMap) (from host : ℕ) (span : Span) (least : Option ℕ) → span.first ≡ host
    → span.last ≡ host → IsLeastIfAny (λ n. (from ≤ n) × GoesInto specs (Hold (span ∷ [])) n) least
    → IsLeastIfAny (λ n. (from ≤ n) × GoesInto specs (λ id. id ≡ host) n) least
IsLeastIfAny-only specs from host span least first_is last_is =
    into_like specs from (Hold (span ∷ [])) (λ id. id ≡ host) least
    (λ id. (λ held. omega (arith, hold_one span id held), λ same. (Hold-one span id).1 (omega arith)))

-- the same of all ids of the guest
pub IsLeastIfAny-range : (specs : List IdMap) (span : Span) (least : Option ℕ)
    → IsLeastIfAny (λ n. (0 ≤ n) × GoesInto specs (Hold (span ∷ [])) n) least
    → IsLeastIfAny (GoesInto specs (Between span.first span.last)) least
IsLeastIfAny-range specs span least = search (rules, into_any, Hold-one)

-- ---- ids apart

pub AreIdsApart-all : (specs others : List IdMap) → ((n : ℕ) → ¬ GoesInto specs (ReachedBy others) n)
    → AreIdsApart specs others
AreIdsApart-all specs others none guest host goes reached =
    none guest (record { host = host; goes = goes; is_one = reached })

pub AreIdsApart-none : (specs others : List IdMap) → AreIdsApart specs others → (n : ℕ)
    → ¬ GoesInto specs (ReachedBy others) n
AreIdsApart-none specs others apart n goes = apart n goes.host goes.goes goes.is_one

-- ---- what the guest reaches

-- the spans that come of the images of a map have the ids that it reaches
pub reached_all : (specs : List IdMap) (images merged : List Span) → AreImages specs images
    → ((id : ℕ) → Hold merged id ↔ Hold images id) → (host : ℕ) → Hold merged host ↔ ReachedBy specs host
reached_all specs images merged are same host =
    let counts = times_hold images host in
    let one = (are host).one in
    let held = same host in
    search rules
