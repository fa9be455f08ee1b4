-- Names that pass and do not list back, and what the code tests of them.
use Rattle.std.proofs.Common.{◌≡◌, ◌≢◌, ◌⊎◌, ◌<◌, ℕ, ◌==◌, List, [], ◌∷◌, ◌++◌, length, drop, Option}
use Rattle.std.proofs.Common.{Some, None, inl, inr, refl, sym, ap, ◌∙◌, subst, arith, ◌↔◌}
use Rattle.std.specs.List.{All}
use Rattle.std.proofs.lemmas.Bool.{cases_Bool, true≢false, eqb-true, eq-eqb}
use Rattle.std.proofs.lemmas.List.{length-append, length-drop, drop_at}
use Rattle.virtiofs_map.specs.Audit.{Sound, IsLost}
use Rattle.virtiofs_map.specs.AuditParts.{added_prefix, CutsAt}
use Rattle.virtiofs_map.specs.MapRule.{IsName}
use Rattle.virtiofs_map.specs.Names.{HostAnswer, IsListed, IsHidden, IsUndecided, host_answer, server_answer}
use Rattle.virtiofs_map.specs.Names.{ListsBack}
use Rattle.virtiofs_map.specs.Rule.{MappingRule, HasNoZero}
use Rattle.virtiofs_map.specs.declared.xattrmap.scopes.Side.TheVariants.{Client, Server}
use Rattle.virtiofs_map.proofs.AuditAddedLemmas.{passes_added, added_passes, listed_cut, cut_listed, answer_to_one}
use Rattle.virtiofs_map.proofs.AuditAddedLemmas.{server_one}
use Rattle.virtiofs_map.proofs.audit.AuditPassLemmas.{host_is, host_no_zero, host_not_empty}

-- ---- listed back

length_back : (added name cut : List ℕ) → name ≢ [] → length (drop (length cut) (added ++ name)) ≡ length name
    → length cut ≡ length added
length_back added [] cut some e = absurd (some refl)
length_back added (x ∷ xs) cut some e = grind (arith, length-drop, length-append)

one_longer : (m n : List ℕ) → m ++ 0 ∷ [] ≡ n ++ 0 ∷ [] → length m ≡ length n
one_longer m n e = omega (arith, ap length e, length-append m (0 ∷ []), length-append n (0 ∷ []))

-- what the guest gets for the host name is the list of the name
listed_as : (answer : HostAnswer) (name : List ℕ) → name ≢ [] → answer_to_one answer ≡ Some (name ++ 0 ∷ [])
    → (shown : List ℕ) × (answer ≡ IsListed shown) × (length shown ≡ length name)
listed_as (IsListed shown) name some e =
    (shown, refl, one_longer shown name (let same : shown ++ 0 ∷ [] ≡ name ++ 0 ∷ [] = cc in same))
listed_as IsHidden [] some e = absurd (some refl)
listed_as IsHidden (x ∷ xs) some e =
    let same : 0 ∷ [] ≡ x ∷ xs ++ 0 ∷ [] = cc in absurd (omega (arith, ap length same, length-append xs (0 ∷ [])))
listed_as IsUndecided name some e = absurd (cc)

pub longer : (added name : List ℕ) → name ≢ [] → length added < length (added ++ name)
longer added [] some = absurd (some refl)
longer added (x ∷ xs) some = omega (arith, length-append added (x ∷ xs))

some_longer : (added name : List ℕ) → length added < length (added ++ name) → name ≢ []
some_longer added name more none = omega (arith, length-append added name, ap length none)

module _ (rules : List MappingRule) (name added : List ℕ) (no_zero : All HasNoZero rules) (is : IsName name)
    (e : added_prefix Client rules name ≡ Some added) where
  -- a name of which just as much is taken off as was put before it lists back
  back_where_cut : name ≢ [] → CutsAt rules (added ++ name) (length added) → ListsBack rules name
  back_where_cut some (cut, at, long) =
      let listed = cut_listed rules (added ++ name) cut at in
      let rest : drop (length cut) (added ++ name) ≡ name = drop_at added name (length cut) (sym long) in
      record {
        becomes = added ++ name;
        passes = added_passes rules name added e;
        lists = grind (arith, server_one, host_not_empty, host_no_zero, answer_to_one);
      }

  -- a name that lists back is one of which just as much is taken off
  cut_where_back : name ≢ [] → ListsBack rules name → CutsAt rules (added ++ name) (length added)
  cut_where_back some back =
      let same = host_is rules name back.becomes added back.passes e in
      let lists = subst (λ host. server_answer rules (host ++ 0 ∷ []) ≡ Some (name ++ 0 ∷ [])) same back.lists in
      let one =
      server_one rules (added ++ name) (host_not_empty added name some) (host_no_zero rules name added no_zero is e) in
      let (shown, listed, long) = listed_as (host_answer rules (added ++ name)) name some (sym one ∙ lists) in
      let by = listed_cut rules (added ++ name) shown listed in
      (by.cut, by.is, length_back added name by.cut some (sym (ap length by.name_is) ∙ long))

  -- ---- the test

  lost_where : name ≢ [] → (CutsAt rules (added ++ name) (length added) → ⊥) → IsLost rules name
  lost_where some fails = record {
    is_name = is;
    not_empty = some;
    host = added ++ name;
    passes = added_passes rules name added e;
    not_back = λ back. fails (cut_where_back some back);
  }

  pub lost_as : IsLost rules name
      ↔ ((length added < length (added ++ name)) × (¬ CutsAt rules (added ++ name) (length added)))
  lost_as = (
    λ lost. (longer added name lost.not_empty, λ cuts. lost.not_back (back_where_cut lost.not_empty cuts)),
    λ (more, fails). lost_where (some_longer added name more) fails,
  )

-- ---- sound

cuts_or : (added : List ℕ) (o : Option (List ℕ))
    → ((cut : List ℕ) × (o ≡ Some cut) × (length cut ≡ length added))
    ⊎ (((cut : List ℕ) × (o ≡ Some cut) × (length cut ≡ length added)) → ⊥)
cuts_or added None = inr (λ (cut, e, long). cc)
cuts_or added (Some cut) =
    elim (cases_Bool (length cut == length added)) [
      | inl equal ↦ inl (cut, refl, eqb-true (length cut) (length added) equal)
      | inr differ ↦ inr (λ (other, e, long).
          true≢false (sym (eq-eqb (length cut) (length added) (let one : cut ≡ other = cc in ap length one ∙ long))
          ∙ differ))
    ]

pub sound_where_none : (rules : List MappingRule) → All HasNoZero rules → ((name : List ℕ) → ¬ IsLost rules name)
    → Sound rules
sound_where_none rules no_zero none name host is some passes =
    let by = passes_added rules name host passes in
    elim (cuts_or by.added (added_prefix Server rules (by.added ++ name))) [
      | inl cuts ↦ back_where_cut rules name by.added no_zero is by.is some cuts
      | inr fails ↦ absurd (none name (lost_where rules name by.added no_zero is by.is some fails))
    ]
