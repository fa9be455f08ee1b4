-- What the options of a guest set up, and what is told of texts that are refused.
use Rattle.std.proofs.lemmas.Grind.{common_steps}
use Rattle.std.proofs.Common.{◌≡◌, inl, inr, ℕ, ◌+◌, ◌<◌, List, [], ◌∷◌, ◌++◌, length, take, get_or, rules}
use Rattle.std.proofs.Common.{Option, Some, None, Result, Ok, Err, OnOk, refl, sym, ap, ◌∙◌, subst, arith}
use Rattle.std.proofs.Common.{append-nil, string_bytes}
use Rattle.std.specs.Prelude.{Bool, IsSomeAnd, slice_get, slice_index_or, zero, suc}
use Rattle.std.specs.Borrow.{Bor}
use Rattle.std.specs.declared.string.String.{String}
use Rattle.std.specs.List.{AllZip}
use Rattle.std.specs.Option.{option_map, option_map_or}
use Rattle.std.specs.Str.{chars}
use Rattle.std.proofs.lemmas.List.{take-map, map_more, get_or-map, length-map}
use Rattle.std.proofs.lemmas.Option.{same_Some, slice_get-get_or}
use Rattle.std.proofs.lemmas.List.Elements.{Contains-get_or, All-contains}
use Rattle.virtiofs_map.specs.Build.{Accepted, BuildFault, build_fault_of}
use Rattle.virtiofs_map.specs.NamespaceText.{NamespaceFault, HasNamespaceFault}
use Rattle.virtiofs_map.specs.Printed.{build_error_text, rules_error_text}
use Rattle.virtiofs_map.specs.Refusal.{OutOfMemoryOr}
use Rattle.virtiofs_map.specs.RulesFault.{RulesFault, HasRulesFault, InRule, NotOfText, rule_fault_of, fault_at}
use Rattle.virtiofs_map.specs.RulesFault.{rules_fault_of}
use Rattle.virtiofs_map.specs.SpecificationText.{SpecificationFault, specification_fault_of}
use Rattle.virtiofs_map.specs.Specifications.{texts_of, AllSay, SpecsFault, Unread, Unbuilt, specs_fault_of}
use Rattle.virtiofs_map.specs.declared.cmdline.IdMap.{IdMap}
use Rattle.virtiofs_map.specs.declared.idmap.UidMap.{UidMap}
use Rattle.virtiofs_map.specs.declared.soft_idmap.errors.IdMapBuildError.{IdMapBuildError}
use Rattle.virtiofs_map.specs.declared.soft_idmap.errors.SpecsError.{SpecsError}
use Rattle.virtiofs_map.specs.declared.soft_idmap.errors.SpecsError.TheVariants as errors
use Rattle.virtiofs_map.specs.declared.xattrmap.errors.Error.{Error}
use Rattle.virtiofs_map.proofs.ForCallers.{AllZip-push, texts_no_fault, namespace_no_fault, rules_no_fault}
use Rattle.virtiofs_findings.specs.Guests.{SaysRange, HasNoRange, LeaveUnknown, ReadsText, is_by_another, specs_of, written_of}
use Rattle.virtiofs_findings.specs.Lists.{Adds}
use Rattle.virtiofs_findings.specs.Refusals.{refusal_of, IsReason, TellsSpecsFault, TellsIds}
use Rattle.virtiofs_findings.specs.Refusals.{TellsSpecs, TellsNoRange, TellsRanges, TellsNames, place_of}
use Rattle.virtiofs_findings.specs.declared.refusal.Refusal.{Refusal}
use Rattle.virtiofs_findings.specs.declared.refusal.Refused.TheVariants.{Spec, Range, Own, Rules}
use Rattle.virtiofs_findings.specs.declared.ids.kind.IdKind.{IdKind}
use Rattle.virtiofs_findings.specs.declared.guest.Guest.{Guest}
use Rattle.virtiofs_findings.specs.declared.setup.NamesSetUp.{NamesSetUp}
use Rattle.virtiofs_findings.proofs.ListLemmas.{in_two}

-- ---- what is told

-- what was added in two parts
adds_both : {T : Type 0} (P Q R : List T → Type 0) (before between after : List T) → Adds P before between
    → Adds Q between after → ((first second : List T) → P first → Q second → R (first ++ second)) → Adds R before after
adds_both P Q R before between after first second whole = grind (arith, common_steps, in_two)

-- a refusal of a specification
pub adds_fault : {A T E : Type 0} (r : Result T E) (error : SpecsError A) (place : ℕ) (before after : List (Refusal A))
    (number : ℕ) (kind : IdKind) (why : String A) → Some place ≡ option_map place_of (specs_fault_of error)
    → ((build : IdMapBuildError) → error ≡ errors.Build build → string_bytes why ≡ build_error_text build)
    → OnOk r (after ≡ before ++ refusal_of number (Spec kind place) why ∷ [])
    → OnOk r ((f : SpecsFault) × (specs_fault_of error ≡ Some f) × Adds (TellsSpecsFault number kind f) before after)
adds_fault (Err e) error place before after number kind why at says told = tt
adds_fault {A = A} (Ok x) error place before after number kind why is says added = by (specs_fault_of error) refl is where
  reason : (error : SpecsError A) (fault : SpecsFault) → specs_fault_of error ≡ Some fault
      → ((build : IdMapBuildError) → error ≡ errors.Build build → string_bytes why ≡ build_error_text build)
      → IsReason fault (string_bytes why)
  reason error (Unread index fault) same says = tt
  reason (errors.Spec index cause) (Unbuilt fault) same says = absurd (unread (specification_fault_of cause) same) where
    unread : (told : Option SpecificationFault) → option_map (Unread index) told ≡ Some (Unbuilt fault) → ⊥
    unread None e = cc
    unread (Some f) e = cc
  reason (errors.Build build) (Unbuilt fault) same says = (build, built (build_fault_of build) same, says build refl) where
    built : (told : Option BuildFault) → option_map Unbuilt told ≡ Some (Unbuilt fault) → told ≡ Some fault
    built None e = absurd (cc)
    built (Some f) e = cc

  by : (told : Option SpecsFault) → specs_fault_of error ≡ told → Some place ≡ option_map place_of told
      → (f : SpecsFault) × (specs_fault_of error ≡ Some f) × Adds (TellsSpecsFault number kind f) before after
  by None e is = absurd (cc)
  by (Some fault) e is = (
    fault,
    e,
    record {
      more = refusal_of number (Spec kind place) why ∷ [];
      is = record {
        why = why;
        reason = reason error fault e says;
        alone = ap (λ n. refusal_of number (Spec kind n) why ∷ []) (same_Some _ _ is);
      };
      added = added;
    },
  )

-- nothing is told of specifications of which a map is made
pub adds_no_specs : {A : Type 0} (number : ℕ) (kind : IdKind) (texts : List (List ℕ)) (specs : List IdMap)
    (before after : List (Refusal A))
    → after ≡ before → AllSay texts specs → Accepted specs → Adds (TellsSpecs number kind texts) before after
adds_no_specs number kind texts specs before after same say accepted = record {
  more = [];
  is = inl ((λ wrong. texts_no_fault texts specs wrong.0 say accepted wrong.1), refl);
  added = same ∙ sym (append-nil before);
}

-- ranges that all are read are not refused
pub ranges_right : (texts : List (List ℕ)) (ranges : List UidMap) → AllZip SaysRange texts ranges → ¬ HasNoRange texts
ranges_right texts ranges say (text, fault, within, wrong) =
    All-contains IsRight texts text (each texts ranges say) within fault wrong where
      IsRight : List ℕ → Type 0
      IsRight one = (f : NamespaceFault) → ¬ HasNamespaceFault one f

      each : (texts : List (List ℕ)) (ranges : List UidMap) → AllZip SaysRange texts ranges → (k : ℕ) (d : List ℕ)
          → k < length texts
          → IsRight (slice_index_or texts k d)
      each [] ranges say k d below = absurd (omega (below, arith))
      each (x ∷ texts) [] say k d below = absurd say
      each (x ∷ texts) (range ∷ ranges) say zero d below =
          λ f. namespace_no_fault x range.inside_uid range.outside_uid range.count f say.0
      each (x ∷ texts) (range ∷ ranges) say (suc k) d below = each texts ranges say.1 k d (omega (below, arith))

-- the first that is not read is told of
pub adds_range : {A : Type 0} (number : ℕ) (kind : IdKind) (why : String A) (texts : List (Bor (List ℕ)))
    (ranges : List UidMap) (i : ℕ) (d : Bor (List ℕ)) (fault : NamespaceFault) (before after : List (Refusal A))
    → i < length texts → AllZip SaysRange (take i (texts_of texts)) ranges
    → HasNamespaceFault (chars (get_or texts i d).now) fault
    → after ≡ before ++ refusal_of number (Range kind i) why ∷ []
    → Adds (TellsNoRange number kind (texts_of texts)) before after
adds_range number kind why texts ranges i d fault before after below say wrong added = record {
  more = refusal_of number (Range kind i) why ∷ [];
  is = inr (i, record { before = ranges; say = say; here = here }, (why, refl));
  added = added;
} where
  f : Bor (List ℕ) → List ℕ
  f = λ text. chars text.now

  here : IsSomeAnd (slice_get (texts_of texts) i) (λ text. (one : NamespaceFault) × HasNamespaceFault text one)
  here =
      rw (slice_get-get_or (texts_of texts) i (f d) (rw length-map below), get_or-map f texts i d (f d) below)
      (fault, wrong)

-- of rules that are read nothing is told
pub adds_no_rules : {A : Type 0} (number : ℕ) (rules : Option (Bor (List ℕ))) (text : Bor (List ℕ)) (set : NamesSetUp A)
    (before after : List (Refusal A))
    → rules ≡ Some text → after ≡ before → ReadsText (chars text.now) set → Adds (TellsNames number rules) before after
adds_no_rules {A = A} number rules text set before after is same read = record {
  more = [];
  is =
      subst (λ r. TellsNames {A = A} number r []) (sym is)
      (inl ((λ wrong. rules_no_fault (chars text.now) set.map wrong.0 read.0 wrong.1), refl));
  added = same ∙ sym (append-nil before);
}

-- of those that are refused their fault is told
pub adds_rules : {A : Type 0} (number : ℕ) (rules : Option (Bor (List ℕ))) (text : Bor (List ℕ)) (error : Error A)
    (why : String A) (before after : List (Refusal A))
    → rules ≡ Some text → OutOfMemoryOr (rules_fault_of error) (HasRulesFault (chars text.now))
    → ((f : RulesFault) × (rules_fault_of error ≡ Some f)) → string_bytes why ≡ rules_error_text error
    → after ≡ before ++ refusal_of number Rules why ∷ []
    → Adds (TellsNames number rules) before after
adds_rules number rules text error why before after is_text about (fault, is) reason added = record {
  more = refusal_of number Rules why ∷ [];
  is =
      subst (λ r. TellsNames number r (refusal_of number Rules why ∷ [])) (sym is_text)
      (inr (record {
        error = error;
        fault = fault;
        why = why;
        about = is;
        has = has (rules_fault_of error) is about;
        reason = reason;
        alone = refl;
      }));
  added = added;
} where
  has : (told : Option RulesFault) → told ≡ Some fault → OutOfMemoryOr told (HasRulesFault (chars text.now))
      → HasRulesFault (chars text.now) fault
  has None is about = absurd (cc)
  has (Some one) is about = subst (HasRulesFault (chars text.now)) (same_Some _ _ is) about

-- where it is not known as which id a daemon acts, that is told
pub adds_unknown : {A : Type 0} (number : ℕ) (kind : IdKind) (by_another : Bool) (texts : List (List ℕ))
    (before after : List (Refusal A)) (why : String A) → LeaveUnknown by_another texts
    → after ≡ before ++ refusal_of number (Own kind) why ∷ [] → Adds (TellsRanges number kind by_another texts) before after
adds_unknown number kind by_another texts before after why unknown is =
    record { more = refusal_of number (Own kind) why ∷ []; is = inr (unknown, (why, refl)); added = is }

-- what is told of both options of a kind
pub adds_ids : {A : Type 0} (number : ℕ) (kind : IdKind) (guest : Guest A) (specs ranges : List (List ℕ))
    (before between after : List (Refusal A)) → specs ≡ specs_of kind guest → ranges ≡ written_of kind guest
    → Adds (TellsSpecs number kind specs) before between
    → Adds (TellsRanges number kind (is_by_another guest) ranges) between after
    → Adds (TellsIds number kind guest) before after
adds_ids number kind guest specs ranges before between after is are first second =
    adds_both (TellsSpecs number kind (specs_of kind guest)) (TellsRanges number kind (is_by_another guest) (written_of kind guest))
    (TellsIds number kind guest) before between after (rw is at first) (rw are at second)
    (λ one other tells too. record {
      of_specs = one;
      of_ranges = other;
      tells_specs = tells;
      tells_ranges = too;
      whole = refl;
    })

-- ---- faults

-- an error that blames a rule tells a fault
pub rule_fault : {A : Type 0} (error : Error A) (number : ℕ) → error.rule ≡ Some number
    → (f : RulesFault) × (rules_fault_of error ≡ Some f)
rule_fault error number is = (
  option_map_or (InRule number) (rule_fault_of error.cause) NotOfText,
  ap (λ (k : Option ℕ). fault_at k error.cause) is,
)

-- ---- ranges

-- one more text that says a range
pub says_more : (texts : List (Bor (List ℕ))) (ranges : List UidMap) (i : ℕ) (d : Bor (List ℕ)) (range : UidMap)
    → i < length texts
    → AllZip SaysRange (take i (texts_of texts)) ranges → SaysRange (chars (get_or texts i d).now) range
    → AllZip SaysRange (take (i + 1) (texts_of texts)) (ranges ++ range ∷ [])
says_more texts ranges i d range below say here =
    let f : Bor (List ℕ) → List ℕ = λ text. chars text.now in
    let more : take (i + 1) (texts_of texts) ≡ take i (texts_of texts) ++ f (get_or texts i d) ∷ [] =
    take-map f (i + 1) texts ∙ map_more f texts i d below
    ∙ ap (λ (front : List (List ℕ)). front ++ f (get_or texts i d) ∷ []) (sym (take-map f i texts)) in
    rw more (AllZip-push SaysRange (take i (texts_of texts)) ranges (f (get_or texts i d)) range say here)

-- a text that says none
pub refuses_range : (texts : List (Bor (List ℕ))) (i : ℕ) (d : Bor (List ℕ)) (fault : NamespaceFault) → i < length texts
    → HasNamespaceFault (chars (get_or texts i d).now) fault → HasNoRange (texts_of texts)
refuses_range texts i d fault below wrong =
    let f : Bor (List ℕ) → List ℕ = λ text. chars text.now in
    let is = get_or-map f texts i d (f d) below in
    (f (get_or texts i d), fault, rw (← is) (Contains-get_or (texts_of texts) i (f d) (rw length-map below)), wrong)
