-- Names that have a fault: what the code tests of them, and that a name has it without its last byte where it is not
-- tried.
use Rattle.std.proofs.Common.{◌≡◌, ◌≢◌, ℕ, ◌<◌, true, List, [], ◌∷◌, ◌++◌, length, drop, ◌↔◌}
use Rattle.std.proofs.Common.{Some, inl, inr, refl, sym, ap, ◌∙◌, subst, append_assoc, All, Contains}
use Rattle.std.proofs.lemmas.Bool.{false≢true}
use Rattle.std.proofs.lemmas.List.{drop_at}
use Rattle.std.proofs.lemmas.List.Sorted.{Contains-permutation}
use Rattle.std.proofs.lemmas.List.Elements.{All-head}
use Rattle.virtiofs_map.specs.Audit.{HasFault, Within}
use Rattle.virtiofs_map.specs.AuditParts.{FailsAs, IsOneByte, IsTried, added_prefix, ends_of, side_of}
use Rattle.virtiofs_map.specs.MapRule.{IsName}
use Rattle.virtiofs_map.specs.Names.{begins, Passes, client_answer}
use Rattle.virtiofs_map.specs.Rule.{MappingRule, HasNoZero}
use Rattle.virtiofs_map.specs.declared.audit.asking.NameFault.{NameFault}
use Rattle.virtiofs_map.specs.declared.audit.asking.NameFault.TheVariants.{Lost, Stray, Seen, Shared}
use Rattle.virtiofs_map.specs.declared.xattrmap.scopes.Side.{Side}
use Rattle.virtiofs_map.specs.declared.xattrmap.scopes.Side.TheVariants.{Client, Server}
use Rattle.virtiofs_map.proofs.AuditAddedLemmas.{passes_added, added_passes, cut_listed, listed_cut, cut_begins, hidden_same}
use Rattle.virtiofs_map.proofs.AuditAlikeLemmas.{added_among, added_less, begins_less, decides_less}
use Rattle.virtiofs_map.proofs.AuditAlikeLemmas.{front_is_cut, front_is_name}
use Rattle.virtiofs_map.proofs.BeginsLemmas.{begins-append, begins_split}
use Rattle.virtiofs_map.proofs.audit.AuditGatheredLemmas.{AreGathered}
use Rattle.virtiofs_map.proofs.audit.AuditLeastLemmas.{Shortens}
use Rattle.virtiofs_map.proofs.audit.AuditLostLemmas.{longer, lost_as}
use Rattle.virtiofs_map.proofs.audit.AuditPassLemmas.{host_not_empty}
use Rattle.virtiofs_map.proofs.audit.AuditSeenLemmas.{seen_as}
use Rattle.virtiofs_map.proofs.audit.AuditSharedLemmas.{reached_less, shared_as}

-- ---- the test

-- a name of the guest that has a fault passes
pub record PassesFaulty (rules : List MappingRule) (name : List ℕ) : Type 0 where
  pub is_name : IsName name
  pub added : List ℕ
  pub puts : added_prefix Client rules name ≡ Some added

passes_faulty : (rules : List MappingRule) (name host : List ℕ) → IsName name → client_answer rules name ≡ Passes host
    → PassesFaulty rules name
passes_faulty rules name host is passes =
    let by = passes_added rules name host passes in record { is_name = is; added = by.added; puts = by.is }

pub fault_passes : (fault : NameFault) (rules others : List MappingRule) (name : List ℕ) → fault ≢ Stray
    → HasFault fault rules others name → PassesFaulty rules name
fault_passes Lost rules others name guest bad = passes_faulty rules name bad.host bad.is_name bad.passes
fault_passes Stray rules others name guest bad = absurd (guest refl)
fault_passes Seen rules others name guest bad = passes_faulty rules name bad.host bad.is_name bad.passes
fault_passes Shared rules others name guest bad = passes_faulty rules name bad.host bad.is_name bad.passes

pub fault_as : (fault : NameFault) (rules others : List MappingRule) (name added : List ℕ) → fault ≢ Stray
    → All HasNoZero rules → IsName name → added_prefix Client rules name ≡ Some added
    → HasFault fault rules others name ↔ FailsAs fault rules others (added ++ name) (length added)
fault_as Lost rules others name added guest no_zero is e = lost_as rules name added no_zero is e
fault_as Stray rules others name added guest no_zero is e = absurd (guest refl)
fault_as Seen rules others name added guest no_zero is e = seen_as rules others name added is e
fault_as Shared rules others name added guest no_zero is e = shared_as rules others name added is e

-- ---- one byte less

shorter_name : (front : List ℕ) (last : ℕ) → IsName (front ++ last ∷ []) → IsName front
shorter_name front last is = front_is_name front (front ++ last ∷ []) (begins-append front (last ∷ [])) is

fails_less : (fault : NameFault) (rules others : List MappingRule) (front : List ℕ) (last added : ℕ) → front ≢ []
    → added < length front → ¬ Contains (ends_of fault rules others) (front ++ last ∷ [])
    → FailsAs fault rules others (front ++ last ∷ []) added → FailsAs fault rules others front added
fails_less Lost rules others front last added some less none (more, fails) = (
  less,
  λ (cut, at, long). fails (cut, added_less Server rules front last none ∙ at, long),
)
fails_less Stray rules others front last added some less none fails = fails
fails_less Seen rules others front last added some less none (is, more, shown) = (
  shorter_name front last is,
  some,
  λ hidden. shown
      (hidden_same others front (front ++ last ∷ []) (decides_less Server others front last none) hidden),
)
fails_less Shared rules others front last added some less none fails =
    reached_less others front last some none fails

-- what is left of a name of more than one byte
front_some : (front : List ℕ) (last : ℕ) → IsName (front ++ last ∷ []) → ¬ IsOneByte (front ++ last ∷ []) → front ≢ []
front_some [] last is more none =
    let bounds = All-head (λ byte. (0 < byte) × (byte < 256)) last [] is in more (last, bounds.0, bounds.1, refl)
front_some (x ∷ front) last is more none = cc

begins_none : (front : List ℕ) → begins front [] ≡ true → [] ≡ front
begins_none [] e = refl
begins_none (x ∷ front) e = absurd (false≢true e)

module _ (rules others : List MappingRule) (beginning : List ℕ) (patterns fronts ends : List (List ℕ))
    (no_zero : All HasNoZero rules) where
  -- a name that has the fault, and is not tried, has it without its last byte
  abbrev Less : NameFault → Side → Type 0
  Less fault side =
      AreGathered side rules (ends_of fault rules others) patterns fronts ends → (front : List ℕ) (last : ℕ)
      → HasFault fault rules others (front ++ last ∷ [])
      → ¬ IsTried side rules beginning patterns fronts ends (front ++ last ∷ []) → HasFault fault rules others front

  guest_less : (fault : NameFault) → fault ≢ Stray → Less fault Client
  guest_less fault guest are front last bad untried =
      let name = front ++ last ∷ [] in
      let by = fault_passes fault rules others name guest bad in
      let added = by.added in
      let some = front_some front last by.is_name (λ byte. untried (inr (inr (inr byte)))) in
      let puts : added_prefix Client rules front ≡ Some added =
      sym (added_less Client rules front last
      (λ key. untried (inr (inl (name, Contains-permutation _ patterns name are.are_patterns key, refl))))) ∙ by.puts in
      let split = append_assoc added front (last ∷ []) in
      let none : ¬ Contains (ends_of fault rules others) ((added ++ front) ++ last ∷ []) =
      λ end. untried (inr (inr (inl (
        added,
        Contains-permutation _ fronts added are.are_fronts (added_among Client rules name added by.puts),
        (
          (added ++ front) ++ last ∷ [],
          Contains-permutation _ ends _ are.are_ends end,
          (split, added_passes rules name added by.puts ∙ ap Passes (sym split)),
        ),
      )))) in
      let fails : FailsAs fault rules others ((added ++ front) ++ last ∷ []) (length added) =
      subst (λ host. FailsAs fault rules others host (length added)) (sym split)
      ((fault_as fault rules others name added guest no_zero by.is_name by.puts).0 bad) in
      (fault_as fault rules others front added guest no_zero (shorter_name front last by.is_name) puts).1
      (fails_less fault rules others (added ++ front) last (length added) (host_not_empty added front some)
      (longer added front some) none fails)

  host_less : Less Stray Server
  host_less are front last stray untried =
      let host = front ++ last ∷ [] in
      let by = listed_cut rules host stray.name stray.listed in
      let cut = by.cut in
      let cuts : added_prefix Server rules front ≡ Some cut =
      sym (added_less Server rules front last
      (λ prepend. untried (inr (inl (host, Contains-permutation _ patterns host are.are_patterns prepend, refl))))) ∙ by.is in
      let rest = drop (length cut) front in
      let parted : host ≡ cut ++ (rest ++ last ∷ []) =
      ap (λ front. front ++ last ∷ []) (begins_split cut front (cut_begins rules front cut cuts))
      ∙ append_assoc cut rest (last ∷ []) in
      let name_is : stray.name ≡ rest ++ last ∷ [] =
      by.name_is ∙ ap (drop (length cut)) parted ∙ drop_at cut (rest ++ last ∷ []) (length cut) refl in
      let same =
      added_less Client rules rest last
      (λ key. untried (inr (inr (inl (
        cut,
        Contains-permutation _ fronts cut are.are_fronts (added_among Server rules host cut by.is),
        (front_is_cut rules host cut by.is, (_, Contains-permutation _ ends _ are.are_ends key, parted)),
      ))))) in
      record {
        is_name = shorter_name front last stray.is_name;
        not_empty = front_some front last stray.is_name (λ byte. untried (inr (inr (inr byte))));
        name = rest;
        listed = cut_listed rules front cut cuts;
        not_opened = λ opens.
            (let passes = passes_added rules rest front opens in
            stray.not_opened
            (ap (client_answer rules) name_is
            ∙ added_passes rules (rest ++ last ∷ []) passes.added (same ∙ passes.is)
            ∙ ap Passes (sym (append_assoc passes.added rest (last ∷ []))
            ∙ ap (λ front. front ++ last ∷ []) (sym passes.host_is))));
      }

  fault_less : (fault : NameFault) → Less fault (side_of fault)
  fault_less Lost = guest_less Lost (λ same. cc)
  fault_less Stray = host_less
  fault_less Seen = guest_less Seen (λ same. cc)
  fault_less Shared = guest_less Shared (λ same. cc)

  pub shortens : (fault : NameFault) → AreGathered (side_of fault) rules (ends_of fault rules others) patterns fronts ends
      → Shortens (Within beginning (HasFault fault rules others))
      (IsTried (side_of fault) rules beginning patterns fronts ends)
  shortens fault are = record {
    empty = λ bad. inl (begins_none beginning bad.front);
    less = λ front last bad untried. record {
      is_bad = fault_less fault are front last bad.is_bad untried;
      front = sym (begins_less beginning front last (λ same. untried (inl (sym same)))) ∙ bad.front;
    };
  }
