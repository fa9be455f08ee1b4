-- The least bad name of those tried is the least of all, where each bad name has a bad front that is tried.
use Rattle.std.proofs.Common.{◌≡◌, ◌↔◌, ◌⊎◌, ℕ, zero, suc, ◌+◌, ◌≤◌, true, false, List, [], ◌∷◌, ◌++◌, length}
use Rattle.std.proofs.Common.{Option, Some, Result, refl, subst, ap, arith}
use Rattle.std.specs.Ordering.{is_lt}
use Rattle.std.specs.Result.{IfOk}
use Rattle.std.specs.declared.cmp.Ordering.{Ordering}
use Rattle.std.specs.declared.cmp.Ordering.TheVariants.{Less}
use Rattle.std.proofs.lemmas.Bool.{false≢true, true≢false}
use Rattle.std.proofs.lemmas.List.{length-append}
use Rattle.std.proofs.lemmas.Result.{IfOk-weaker}
use Rattle.std.proofs.lemmas.Cmp.{nat_list_cmp_total, tied_itself}
use Rattle.virtiofs_map.specs.Audit.{IsBefore, AnswersLeast, Within}
use Rattle.virtiofs_map.specs.AuditParts.{TriedSoFar, none_tried, is_first, told, Handled, Tries}
use Rattle.virtiofs_map.specs.Steps.{count_after}
use Rattle.virtiofs_map.specs.declared.audit.answer.Audit.{Audit}
use Rattle.virtiofs_map.specs.declared.audit.answer.Audit.TheVariants.{Yes, No}

-- ---- byte order

-- where a name comes before another, so does each front of it
before_by : (p rest other : List ℕ) → IsBefore (p ++ rest) other → IsBefore p other
before_by [] [] [] e = absurd (cc)
before_by [] (x ∷ rest) [] e = absurd (cc)
before_by [] rest (y ∷ other) e = refl
before_by (x ∷ p) rest [] e = absurd (cc)
before_by (x ∷ p) rest (y ∷ other) e = grind (arith, before_by p rest other)

pub is_lt-true : (o : Ordering) → is_lt o ≡ true → o ≡ Less
is_lt-true o e = grind (arith, false≢true)

pub is_lt-false : (o : Ordering) → is_lt o ≡ false → o ≡ Less → ⊥
is_lt-false o e k = grind (arith, true≢false)

-- ---- one name

pub not_first : (least : Option (List ℕ)) (name : List ℕ) → is_first least name ≡ false
    → (found : List ℕ) × (least ≡ Some found) × (¬ IsBefore name found)
not_first least name e = grind (arith, true≢false, is_lt-false)

pub tries_none : {Bad names : List ℕ → Type 0} {most : ℕ} (tried : TriedSoFar)
    → ((name : List ℕ) → names name → Handled Bad tried.least name) → Tries Bad names most tried tried
tries_none tried handled = grind arith

-- it does not come before the least bad one
pub tries_late : (Bad : List ℕ → Type 0) (tried : TriedSoFar) (name : List ℕ) → is_first tried.least name ≡ false
    → Tries Bad (λ one. one ≡ name) 0 tried tried
tries_late Bad tried name late = tries_none tried (λ one same bad. rw same (not_first tried.least name late))

-- it is not bad
pub tries_fine : (Bad : List ℕ → Type 0) (tried : TriedSoFar) (name : List ℕ) → (Bad name → ⊥)
    → Tries Bad (λ one. one ≡ name) 0 tried tried
tries_fine Bad tried name fine = tries_none tried (λ one same bad. absurd (fine (subst Bad same bad)))

pub tries_found : (Bad : List ℕ → Type 0) (old new : TriedSoFar) (name : List ℕ) → is_first old.least name ≡ true
    → Bad name → new.least ≡ Some name → new.count ≡ old.count → Tries Bad (λ one. one ≡ name) 0 old new
tries_found Bad old new name first bad e same = grind (arith, tied_itself, nat_list_cmp_total, is_lt-true)

-- it is counted first
pub tries_counted : {Bad names : List ℕ → Type 0} {old mid new : TriedSoFar} → mid.least ≡ old.least
    → mid.count ≡ count_after old.count 1 → Tries Bad names 0 mid new → Tries Bad names 1 old new
tries_counted same e tries = grind arith

-- ---- many names

pub tries_both : {Bad names others : List ℕ → Type 0} {m n : ℕ} {a b c : TriedSoFar} → Tries Bad names m a b
    → Tries Bad others n b c → Tries Bad (λ name. names name ⊎ others name) (m + n) a c
tries_both first then = grind arith

pub tries_fewer : {Bad names all : List ℕ → Type 0} {m most : ℕ} {a b : TriedSoFar} → Tries Bad names m a b
    → ((name : List ℕ) → all name → names name) → m ≤ most → Tries Bad all most a b
tries_fewer tries cover l = grind arith

-- ---- the answer

-- of a bad name that is not tried, what is left without its last byte is bad
pub record Shortens (Bad tried : List ℕ → Type 0) : Type 0 where
  pub empty : Bad [] → tried []
  pub less : (front : List ℕ) (last : ℕ) → Bad (front ++ last ∷ []) → ¬ tried (front ++ last ∷ []) → Bad front

last_byte : (x : ℕ) (xs : List ℕ) → (front : List ℕ) × (last : ℕ) × (x ∷ xs ≡ front ++ last ∷ [])
last_byte x [] = ([], x, refl)
last_byte x (y ∷ ys) = let (front, last, e) = last_byte y ys in (x ∷ front, last, ap (λ more. x ∷ more) e)

-- so no bad name comes before the least of those that were tried
none_before : (Bad tried : List ℕ → Type 0) (least : Option (List ℕ)) → Shortens Bad tried
    → ((name : List ℕ) → tried name → Handled Bad least name) → (n : ℕ) (name : List ℕ) → length name ≡ n → Bad name
    → ((found : List ℕ) → least ≡ Some found → IsBefore name found) → ⊥
none_before Bad tried least shorter handled n [] long bad early =
    let (found, some, late) = handled [] (shorter.empty bad) bad in late (early found some)
none_before Bad tried least shorter handled zero (x ∷ xs) long bad early = omega arith
none_before Bad tried least shorter handled (suc n) (x ∷ xs) long bad early =
    let (front, last, e) = last_byte x xs in
    none_before Bad tried least shorter handled n front
    (omega (arith, ap length e, length-append front (last ∷ [])))
    (shorter.less front last (subst Bad e bad)
    (λ is.
    (let (found, some, late) = handled (front ++ last ∷ []) is (subst Bad e bad) in
    late (subst (λ name. IsBefore name found) e (early found some)))))
    (λ found some. before_by front (last ∷ []) found (subst (λ name. IsBefore name found) e (early found some)))

pub answers_least : {A : Type 0} (Bad tried : List ℕ → Type 0) (most : ℕ) (end : TriedSoFar) (answer : Audit A)
    → Tries Bad tried most none_tried end → Shortens Bad tried → told answer ≡ end.least → AnswersLeast Bad answer
answers_least Bad tried most end Yes tries shorter e = λ name bad.
    none_before Bad tried end.least shorter tries.handled (length name) name refl bad (λ found some. absurd (cc))
answers_least Bad tried most end (No name) tries shorter e = record {
  is_bad = grind arith;
  none_before = λ other bad less.
      none_before Bad tried end.least shorter tries.handled (length other) other refl bad
      (λ found some. (let same : name ≡ found = cc in subst (IsBefore other) same less));
}

-- Yes where no name is bad, and only there
pub yes_where_none : {A : Type 0} (Bad : List ℕ → Type 0) (Holds : Type 0) (answer : Audit A) → AnswersLeast Bad answer
    → (((name : List ℕ) → ¬ Bad name) → Holds) → (Holds → (name : List ℕ) → ¬ Bad name) → (answer ≡ Yes) ↔ Holds
yes_where_none Bad Holds answer least to from = grind arith

-- all names begin with no bytes
pub answers_all : {A : Type 0} (Bad : List ℕ → Type 0) (answer : Audit A) → AnswersLeast (Within [] Bad) answer
    → AnswersLeast Bad answer
answers_all Bad answer none = grind arith

-- the same of a call that may run out of memory
pub answers_ok : {A E : Type 0} (r : Result (Audit A) E) (Bad : List ℕ → Type 0)
    → IfOk r (AnswersLeast (Within [] Bad)) → IfOk r (AnswersLeast Bad)
answers_ok r Bad least = IfOk-weaker r _ _ (answers_all Bad) least

pub holds_ok : {A E : Type 0} (r : Result (Audit A) E) (Bad : List ℕ → Type 0) (Holds : Type 0)
    → (((name : List ℕ) → ¬ Bad name) → Holds) → (Holds → (name : List ℕ) → ¬ Bad name)
    → IfOk r (AnswersLeast (Within [] Bad)) → IfOk r (λ audit. (audit ≡ Yes) ↔ Holds)
holds_ok r Bad Holds to from least =
    IfOk-weaker r _ _ (λ answer none. yes_where_none Bad Holds answer (answers_all Bad answer none) to from) least
