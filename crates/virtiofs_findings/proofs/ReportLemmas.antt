-- What is found of guests.
use Rattle.std.proofs.lemmas.Grind.{common_steps}
use Rattle.std.proofs.Common.{◌≡◌, ◌∙◌, ℕ, ◌+◌, ◌<◌, ◌≤◌, List, [], ◌∷◌, ◌++◌, length, take, get_or}
use Rattle.std.proofs.Common.{refl, sym, ap, subst, arith, append_assoc, append-nil}
use Rattle.std.proofs.lemmas.List.{take_all, length-take-le}
use Rattle.virtiofs_findings.proofs.ListLemmas.{in_two, more_at}
use Rattle.virtiofs_findings.specs.Findings.{Each}
use Rattle.virtiofs_findings.specs.Lists.{Adds}

-- ---- what is told of each, one after the other

-- of one more
each_push : {S F : Type 0} (Tells : ℕ → S → List F → Type 0) (number : ℕ) (sets : List S) (set : S)
    (told one : List F) → Each Tells number sets told → Tells (number + length sets) set one
    → Each Tells number (sets ++ set ∷ []) (told ++ one)
each_push Tells number [] set told one none tells = (
  one,
  [],
  subst (λ n. Tells n set one) (omega arith) tells,
  refl,
  ap (λ t. t ++ one) none ∙ sym (append-nil one),
)
each_push Tells number (it ∷ sets) set told one (first, rest, is, others, whole) tells =
    grind (arith, each_push Tells (number + 1) sets set rest one others, append_assoc)

-- nothing is added of none
pub adds_none : {S F : Type 0} (Tells : ℕ → S → List F → Type 0) (number : ℕ) (before after : List F) → after ≡ before
    → Adds (Each Tells number []) before after
adds_none Tells number before after same = record { more = []; is = refl; added = same ∙ sym (append-nil before) }

-- one more was added
pub adds_more : {S F : Type 0} (Tells : ℕ → S → List F → Type 0) (sets : List S) (place number : ℕ) (set : S)
    (before between after : List F) → set ≡ get_or sets place set → place < length sets → number ≡ place + 1
    → Adds (Each Tells 1 (take place sets)) before between → Adds (Tells number set) between after
    → Adds (Each Tells 1 (take (place + 1) sets)) before after
adds_more Tells sets place number set before between after is below one so_far tells =
    grind (arith, common_steps, more_at, each_push, length-take-le, in_two)

-- all were added
pub adds_all : {S F : Type 0} (Tells : ℕ → S → List F → Type 0) (sets : List S) (place : ℕ) (before after : List F)
    → length sets ≤ place → Adds (Each Tells 1 (take place sets)) before after → Adds (Each Tells 1 sets) before after
adds_all Tells sets place before after over adds = grind (arith, take_all)
