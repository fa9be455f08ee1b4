-- Specifications of which the bad ids are cut out, and those that forbid them, are mended together.
use Rattle.std.proofs.Common.{◌≡◌, ◌⊎◌, ◌↔◌, inl, inr, ℕ, ◌+◌, ◌<◌, ◌≤◌, List, [], ◌∷◌, ◌++◌, length, take, get_or}
use Rattle.std.proofs.Common.{Contains, Option, Some, None, refl, sym, ap, ◌∙◌, arith, rules}
use Rattle.std.proofs.lemmas.Bool.{cases_lt}
use Rattle.std.proofs.lemmas.List.{get_or_default, get_or-take, length-take, nil_from_length, take_all, take_more}
use Rattle.std.proofs.lemmas.List.{append-nil}
use Rattle.std.proofs.lemmas.List.Elements.{All-contains, Contains-append_left, Contains-append_cases, Contains-push}
use Rattle.std.proofs.lemmas.List.Elements.{Contains-push_cases}
use Rattle.virtiofs_id_audit.specs.IdAudit.{GoesTo, ComesBack, IsAlone, Has, Hold, AreRuns}
use Rattle.virtiofs_id_audit.specs.Mending.{IsBad, Mends, EndsWith, OneEndsWith, IsEdge, IsShort, IsClean, StandsBefore}
use Rattle.virtiofs_id_audit.specs.Mending.{KeepsClean}
use Rattle.virtiofs_id_audit.specs.MendingParts.{AreCut, AreParts, IsRemnant, Listed, Stays}
use Rattle.virtiofs_id_audit.specs.declared.spans.Span.{Span}
use Rattle.virtiofs_map.specs.Build.{Accepted}
use Rattle.virtiofs_map.specs.Mapping.{Covers, Becomes}
use Rattle.virtiofs_map.specs.MappingLaws.{LeadsBack}
use Rattle.virtiofs_map.specs.declared.cmdline.IdMap.{IdMap}
use Rattle.virtiofs_map.specs.declared.cmdline.IdMap.TheVariants.{ForbidGuest}
use Rattle.virtiofs_map.specs.declared.soft_idmap.entry.Direction.{Direction}
use Rattle.virtiofs_map.specs.declared.soft_idmap.entry.Direction.TheVariants.{GuestToHost, HostToGuest}
use Rattle.virtiofs_id_audit.proofs.ApartLemmas.{free_after, held_or_not}
use Rattle.virtiofs_id_audit.proofs.mending.ListedLemmas.{StandsBefore-append, StandsBefore-push}
use Rattle.virtiofs_id_audit.proofs.mending.ListedLemmas.{StandsBefore-push_cases, Accepted-append, KeepApart}
use Rattle.virtiofs_id_audit.proofs.mending.ListedLemmas.{Listed-append, Listed-one, none_covers}
use Rattle.virtiofs_id_audit.proofs.RoundTripLemmas.{LeadsBack-stable, covered_maps}
use Rattle.virtiofs_map.proofs.ForCallers.{Becomes-forbidden, Becomes-one, Covers-maps}

-- ---- one specification more, cut

AreCut-more : (specs cut more parts : List IdMap) (bad : ℕ → Type 0) → AreCut specs bad cut → AreCut more bad parts
    → KeepApart specs more → AreCut (specs ++ more) bad (cut ++ parts)
AreCut-more specs cut more parts bad so_far is apart = record {
  accepted = Accepted-append cut parts so_far.accepted is.accepted
      (λ direction n value other listed listed'. apart direction n value other
      ((so_far.same direction n value).0 listed).0 ((is.same direction n other).0 listed').0);
  same = λ direction n value. (to direction n value, from direction n value);
} where
  to : (direction : Direction) (n : ℕ) (value : Option ℕ) → Listed (cut ++ parts) direction n value
      → Listed (specs ++ more) direction n value × Stays bad direction n
  to direction n value listed =
      elim ((Listed-append cut parts direction n value).0 listed) [
        | inl before ↦ (let (old, stays) = (so_far.same direction n value).0 before in
            ((Listed-append specs more direction n value).1 (inl old), stays))
        | inr after ↦ (let (new, stays) = (is.same direction n value).0 after in
            ((Listed-append specs more direction n value).1 (inr new), stays))
      ]

  from : (direction : Direction) (n : ℕ) (value : Option ℕ)
      → Listed (specs ++ more) direction n value × Stays bad direction n → Listed (cut ++ parts) direction n value
  from direction n value (listed, stays) =
      (Listed-append cut parts direction n value).1 (elim ((Listed-append specs more direction n value).0 listed) [
        | inl old ↦ inl ((so_far.same direction n value).1 (old, stays))
        | inr new ↦ inr ((is.same direction n value).1 (new, stays))
      ])

-- no number is mapped by an earlier one too
earlier_apart : (specs : List IdMap) (i : ℕ) (d : IdMap) → Accepted specs → i < length specs
    → KeepApart (take i specs) (get_or specs i d ∷ [])
earlier_apart specs i d accepted inside direction n value other (spec, (k, within, here), maps) listed =
    let count = length-take i specs in
    let before : k < i = omega (arith, count, within) in
    let at : get_or specs k d ≡ spec =
    get_or_default specs k d spec (omega arith) ∙ sym (get_or-take i specs k spec before) ∙ here in
    let first : Covers (get_or specs k d) direction n = rw at (Covers-maps spec direction n value maps) in
    let second : Covers (get_or specs i d) direction n =
    Covers-maps (get_or specs i d) direction n other ((Listed-one (get_or specs i d) direction n other).0 listed) in
    accepted.apart direction k i d before inside (n, first, second)

-- the specification covers no bad id
abbrev pub IsFree : (ℕ → Type 0) → IdMap → Type 0
IsFree bad spec = (n : ℕ) → Covers spec GuestToHost n → ¬ bad n

-- the first specifications, cut; those that cover no bad id are left as they are
pub record CutSoFar (specs : List IdMap) (bad : ℕ → Type 0) (i : ℕ) (out : List IdMap) : Type 0 where
  pub cut : AreCut (take i specs) bad out
  pub remnants : (remnant : IdMap) → Contains out remnant
      → (given : IdMap) × Contains (take i specs) given × IsRemnant given bad remnant
  pub clean : (spec : IdMap) → Contains (take i specs) spec → IsFree bad spec → Contains out spec
  pub order : (spec later : IdMap) → StandsBefore (take i specs) spec later → IsFree bad spec → IsFree bad later
      → StandsBefore out spec later
  pub unchanged : ((n : ℕ) → ¬ bad n) → out ≡ take i specs

pub CutSoFar-start : (specs : List IdMap) (bad : ℕ → Type 0) → CutSoFar specs bad 0 []
CutSoFar-start specs bad = search rules

pub CutSoFar-more : (specs : List IdMap) (bad : ℕ → Type 0) (i : ℕ) (d : IdMap) (out new : List IdMap)
    → Accepted specs → i < length specs → CutSoFar specs bad i out
    → ((parts : List IdMap) × (new ≡ out ++ parts) × AreCut (get_or specs i d ∷ []) bad parts)
    → ((remnant : IdMap) → Contains new remnant → Contains out remnant ⊎ IsRemnant (get_or specs i d) bad remnant)
    → (IsFree bad (get_or specs i d) → new ≡ out ++ get_or specs i d ∷ []) → CutSoFar specs bad (i + 1) new
CutSoFar-more specs bad i d out new accepted inside so_far (parts, new_is, are) remnants clean =
    let more = take_more specs i d inside in
    record {
      cut = rw (new_is, more)
          (AreCut-more (take i specs) out (get_or specs i d ∷ []) parts bad so_far.cut are
          (earlier_apart specs i d accepted inside));
      remnants = λ remnant listed. rw more (elim (remnants remnant listed) [
        | inl before ↦
            (let (given, within, is) = so_far.remnants remnant before in
            (given, Contains-append_left (take i specs) (get_or specs i d ∷ []) given within, is))
        | inr is ↦ (get_or specs i d, Contains-push (take i specs) (get_or specs i d), is)
      ]);
      clean = λ spec listed none. kept spec none
          (Contains-push_cases (take i specs) (get_or specs i d) spec (rw more at listed));
      order = λ spec later stands none none'. in_order spec later none none'
          (StandsBefore-push_cases (take i specs) (get_or specs i d) spec later (rw more at stands));
      unchanged = λ none. clean (λ n covers. none n)
          ∙ ap (λ xs. xs ++ get_or specs i d ∷ []) (so_far.unchanged none) ∙ sym more;
    } where
      kept : (spec : IdMap) → IsFree bad spec → Contains (take i specs) spec ⊎ (get_or specs i d ≡ spec)
          → Contains new spec
      kept spec none (inl before) = rw new_is (Contains-append_left out parts spec (so_far.clean spec before none))
      kept spec none (inr same) =
          rw (clean (rw (← same) at none), ← same) (Contains-push out (get_or specs i d))

      in_order : (spec later : IdMap) → IsFree bad spec → IsFree bad later
          → StandsBefore (take i specs) spec later ⊎ (Contains (take i specs) spec × (get_or specs i d ≡ later))
          → StandsBefore new spec later
      in_order spec later none none' (inl before) =
          rw new_is (StandsBefore-append out parts spec later (so_far.order spec later before none none'))
      in_order spec later none none' (inr (listed, same)) =
          rw (clean (rw (← same) at none'), ← same)
          (StandsBefore-push out spec (get_or specs i d) (so_far.clean spec listed none))

-- ---- all of them, and what is forbidden

-- where the same is listed of a number, it becomes the same
Becomes-same : (specs others : List IdMap) (direction : Direction) (n : ℕ) (value : Option ℕ)
    → ((other : Option ℕ) → Listed specs direction n other ↔ Listed others direction n other)
    → Becomes specs direction n value → Becomes others direction n value
Becomes-same specs others direction n value same (inl listed) = inl ((same value).0 listed)
Becomes-same specs others direction n value same (inr (uncovered, is)) = inr (
  none_covers others direction n (λ other listed.
      (let (spec, within, maps) = (same other).1 listed in
      uncovered spec within (Covers-maps spec direction n other maps))),
  is,
)

module _ (specs cut forbids : List IdMap) (bad_host : ℕ → Type 0) (spans : List Span) (accepted : Accepted specs)
    (found : (n : ℕ) → Hold spans n ↔ IsBad specs bad_host n) (are : AreCut specs (Hold spans) cut)
    (forbid : AreParts (ForbidGuest 0 4294967295) spans forbids) where
  forbidden_bad : (n : ℕ) (value : Option ℕ) → Listed forbids GuestToHost n value → Hold spans n
  forbidden_bad n value listed = ((forbid.guest n value).0 listed).1

  bad_forbidden : (n : ℕ) → Hold spans n → Listed forbids GuestToHost n None
  bad_forbidden n is =
      let is_id : n < 4294967295 = ((found n).0 is).goes.is_id in
      (forbid.guest n None).1 (((omega arith, omega arith), refl), is)

  apart : KeepApart cut forbids
  apart GuestToHost n value other listed forbidden =
      ((are.same GuestToHost n value).0 listed).1 (forbidden_bad n other forbidden)
  apart HostToGuest n value other listed forbidden = forbid.host n other forbidden

  all_accepted : Accepted (cut ++ forbids)
  all_accepted = Accepted-append cut forbids are.accepted forbid.accepted apart

  -- what becomes of a bad id
  bad_becomes : (n : ℕ) → Hold spans n → Becomes (cut ++ forbids) GuestToHost n None
  bad_becomes n is =
      inl ((Listed-append cut forbids GuestToHost n None).1 (inr (bad_forbidden n is)))

  -- what is not cut out is listed as it was
  same : (direction : Direction) (n : ℕ) → Stays (Hold spans) direction n
      → ((other : Option ℕ) → ¬ Listed forbids direction n other) → (other : Option ℕ)
      → Listed specs direction n other ↔ Listed (cut ++ forbids) direction n other
  same direction n stays none other = (
    (λ old. (Listed-append cut forbids direction n other).1 (inl ((are.same direction n other).1 (old, stays)))),
    (λ new. elim ((Listed-append cut forbids direction n other).0 new) [
      | inl old ↦ ((are.same direction n other).0 old).0
      | inr forbidden ↦ absurd (none other forbidden)
    ]),
  )

  -- so it becomes what it became
  becomes_same : (direction : Direction) (n : ℕ) (value : Option ℕ) → Stays (Hold spans) direction n
      → ((other : Option ℕ) → ¬ Listed forbids direction n other)
      → Becomes (cut ++ forbids) direction n value ↔ Becomes specs direction n value
  becomes_same direction n value stays none = (
    Becomes-same (cut ++ forbids) specs direction n value
        (λ other. let is = same direction n stays none other in (is.1, is.0)),
    Becomes-same specs (cut ++ forbids) direction n value (same direction n stays none),
  )

  not_forbidden : (n : ℕ) → ¬ Hold spans n → (other : Option ℕ) → ¬ Listed forbids GuestToHost n other
  not_forbidden n not other listed = not (forbidden_bad n other listed)

  -- what is none of the spans is not bad
  not_bad : (n : ℕ) → ¬ Hold spans n → ¬ IsBad specs bad_host n
  not_bad n not is = not ((found n).1 is)

  -- so it comes back, and does not become a bad id of the host
  is_good : (n host : ℕ) → GoesTo specs n host → ¬ Hold spans n
      → LeadsBack specs GuestToHost n host × (¬ bad_host host)
  is_good n host goes not = (
    LeadsBack-stable specs n host accepted
        (λ astray. not_bad n not (record { host = host; goes = goes; why = inl astray })),
    λ is. not_bad n not (record { host = host; goes = goes; why = inr is }),
  )

  -- what goes to an id of the host is good
  good_of : (n host : ℕ) → GoesTo (cut ++ forbids) n host → LeadsBack specs GuestToHost n host × (¬ bad_host host)
  good_of n host goes = by (held_or_not spans n) where
    by : Hold spans n ⊎ (¬ Hold spans n) → LeadsBack specs GuestToHost n host × (¬ bad_host host)
    by (inl is) =
        absurd (Becomes-forbidden (cut ++ forbids) GuestToHost n host all_accepted goes.becomes (bad_becomes n is))
    by (inr not) =
        is_good n host (record {
          is_id = goes.is_id;
          becomes = (becomes_same GuestToHost n (Some host) not (not_forbidden n not)).0 goes.becomes;
        }) not

  pub Mends-cut : Mends specs bad_host (cut ++ forbids)
  Mends-cut = record {
    accepted = all_accepted;
    forbids = λ guest. elim (held_or_not spans guest) [
      | inl is ↦ (λ becomes. inr ((found guest).0 is), λ either. bad_becomes guest is)
      | inr not ↦ (
        λ becomes. inl ((becomes_same GuestToHost guest None not (not_forbidden guest not)).0 becomes),
        λ either. elim either [
          | inl becomes ↦ (becomes_same GuestToHost guest None not (not_forbidden guest not)).1 becomes
          | inr is ↦ absurd (not_bad guest not is)
        ],
      )
    ];
    keeps = λ guest value not_bad.
        (let not : ¬ Hold spans guest = λ is. not_bad ((found guest).0 is) in
        becomes_same GuestToHost guest value not (not_forbidden guest not));
    leaves = λ host value. becomes_same HostToGuest host value tt (forbid.host host);
  }

  -- ---- what follows

  pub ComesBack-cut : ComesBack (cut ++ forbids)
  ComesBack-cut n host goes =
      (becomes_same HostToGuest host (Some n) tt (forbid.host host)).1 (good_of n host goes).0

  pub IsAlone-cut : IsAlone (cut ++ forbids)
  IsAlone-cut n other host goes other_goes =
      Becomes-one (cut ++ forbids) HostToGuest host n other all_accepted (ComesBack-cut n host goes)
      (ComesBack-cut other host other_goes)

  pub none_bad : (n : ℕ) → ¬ IsBad (cut ++ forbids) bad_host n
  none_bad n bad =
      elim bad.why [
        | inl astray ↦ astray (ComesBack-cut n bad.host bad.goes)
        | inr is_bad ↦ (good_of n bad.host bad.goes).1 is_bad
      ]

  -- ---- where ranges end

  pub IsShort-cut : AreRuns spans
      → ((remnant : IdMap) → Contains cut remnant
      → (given : IdMap) × Contains specs given × IsRemnant given (Hold spans) remnant)
      → IsShort specs bad_host (cut ++ forbids)
  IsShort-cut runs remnants = record {
    some = λ spec listed. elim (Contains-append_cases cut forbids spec listed) [
      | inl before ↦
          (let (given, within, is) = remnants spec before in
          elim is.some [
            | inl same ↦ inl (rw same within)
            | inr covers ↦ inr covers
          ])
      | inr after ↦
          (let (span, within, covered) = forbid.each spec after in
          let order : span.first ≤ span.last = All-contains (λ s. s.first ≤ s.last) spans span runs.some within in
          inr (GuestToHost, span.first, (covered span.first).1 (omega arith, order)))
    ];
    guest = λ spec n listed ends. guest_ends n spec ends (Contains-append_cases cut forbids spec listed);
    host = λ spec n listed ends. elim (Contains-append_cases cut forbids spec listed) [
      | inl before ↦ (let (given, within, is) = remnants spec before in (given, within, is.host n ends))
      | inr after ↦ absurd
          (let (value, maps) = covered_maps spec HostToGuest n ends.last in
          forbid.host n value (spec, after, maps))
    ];
  } where
    guest_ends : (n : ℕ) (spec : IdMap) → EndsWith spec GuestToHost n → Contains cut spec ⊎ Contains forbids spec
        → OneEndsWith specs GuestToHost n ⊎ IsEdge specs bad_host n
    guest_ends n spec ends (inl before) =
        let (given, within, is) = remnants spec before in
        elim (is.guest n ends) [
          | inl given_ends ↦ inl (given, within, given_ends)
          | inr (not, bad) ↦ inr (inr (not_bad n not, (found (n + 1)).0 bad))
        ]
    guest_ends n spec ends (inr after) =
        let (span, within, covered) = forbid.each spec after in
        let has : Has span n = (covered n).0 ends.last in
        elim (cases_lt span.last (n + 1)) [
          | inl over ↦
              (let at : n + 1 ≡ span.last + 1 = omega arith in
              inr (inl (
                (found n).0 (span, within, has),
                not_bad (n + 1) (λ held. free_after spans span runs within (rw at at held)),
              )))
          | inr under ↦ absurd (ends.end ((covered (n + 1)).1 (omega arith, under)))
        ]

  -- ---- what stays

  pub KeepsClean-cut : ((spec : IdMap) → Contains specs spec → IsFree (Hold spans) spec → Contains cut spec)
      → ((spec later : IdMap) → StandsBefore specs spec later → IsFree (Hold spans) spec
      → IsFree (Hold spans) later → StandsBefore cut spec later) → KeepsClean specs bad_host (cut ++ forbids)
  KeepsClean-cut kept order = record {
    each = λ spec listed clean. Contains-append_left cut forbids spec (kept spec listed (not_held spec clean));
    order = λ spec later stands clean clean'. StandsBefore-append cut forbids spec later
        (order spec later stands (not_held spec clean) (not_held later clean'));
  } where
    not_held : (spec : IdMap) → IsClean specs bad_host spec → IsFree (Hold spans) spec
    not_held spec clean n covers is = clean n covers ((found n).0 is)

  pub all_unchanged : AreRuns spans → (((n : ℕ) → ¬ Hold spans n) → cut ≡ specs)
      → ((n : ℕ) → ¬ IsBad specs bad_host n) → cut ++ forbids ≡ specs
  all_unchanged runs unchanged none =
      let free : (n : ℕ) → ¬ Hold spans n = λ n is. none n ((found n).0 is) in
      let nothing : forbids ≡ [] = nil_from_length forbids (forbid.count ∙ no_span spans runs free) in
      rw nothing (append-nil cut ∙ unchanged free) where
        no_span : (spans : List Span) → AreRuns spans → ((n : ℕ) → ¬ Hold spans n) → length spans ≡ 0
        no_span spans runs free =
            elim (cases_lt 0 (length spans)) [
              | inl some ↦ absurd
                  (let none : Span = record { first = 0; last = 0 } in
                  let span : Span = get_or spans 0 none in
                  free span.first
                  (span, (0, some, get_or_default spans 0 span none some), (omega arith, runs.some 0 none some)))
              | inr none ↦ omega arith
            ]

-- ---- all of it

-- what a caller is told of the mended list
pub record IsMended (specs : List IdMap) (bad_host : ℕ → Type 0) (mended : List IdMap) : Type 0 where
  pub mends : Mends specs bad_host mended
  pub none_bad : (guest : ℕ) → ¬ IsBad mended bad_host guest
  pub comes_back : ComesBack mended
  pub alone : IsAlone mended
  pub short : IsShort specs bad_host mended
  pub clean : KeepsClean specs bad_host mended
  pub unchanged : ((guest : ℕ) → ¬ IsBad specs bad_host guest) → mended ≡ specs

pub IsMended-cut : (specs items cut mended : List IdMap) (bad_host : ℕ → Type 0) (spans : List Span) (i : ℕ)
    → Accepted specs → items ≡ specs → length items ≤ i → CutSoFar items (Hold spans) i cut
    → ((n : ℕ) → Hold spans n ↔ IsBad specs bad_host n) → AreRuns spans → ((forbids : List IdMap) × (mended ≡ cut ++ forbids) × AreParts (ForbidGuest 0 4294967295) spans forbids)
    → IsMended specs bad_host mended
IsMended-cut specs items cut mended bad_host spans i accepted items_are end so_far found runs
    (forbids, mended_is, forbid) =
    let all : take i items ≡ specs = take_all i items end ∙ items_are in
    let are : AreCut specs (Hold spans) cut = rw all at so_far.cut in
    rw mended_is (record {
      mends = Mends-cut specs cut forbids bad_host spans accepted found are forbid;
      none_bad = none_bad specs cut forbids bad_host spans accepted found are forbid;
      comes_back = ComesBack-cut specs cut forbids bad_host spans accepted found are forbid;
      alone = IsAlone-cut specs cut forbids bad_host spans accepted found are forbid;
      short = IsShort-cut specs cut forbids bad_host spans accepted found are forbid runs
          (rw all at so_far.remnants);
      clean = KeepsClean-cut specs cut forbids bad_host spans accepted found are forbid (rw all at so_far.clean)
          (rw all at so_far.order);
      unchanged = all_unchanged specs cut forbids bad_host spans accepted found are forbid runs
          (rw all at so_far.unchanged);
    })
