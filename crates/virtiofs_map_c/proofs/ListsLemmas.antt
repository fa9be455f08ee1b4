-- An array of which each element says a specification says one list at most, and has one fault at most.
use Rattle.std.proofs.Common.{◌≡◌, ℕ, ◌+◌, ◌<◌, zero, suc, List, [], ◌∷◌, ◌++◌, length, take, get_or, slice_get, Option}
use Rattle.std.proofs.Common.{Some, None, IsSomeAnd, arith, rules}
use Rattle.std.proofs.lemmas.Bool.{cases_order}
use Rattle.std.proofs.lemmas.List.{take_more}
use Rattle.std.proofs.lemmas.Option.{slice_get-get_or}
use Rattle.std.specs.List.{AllZip}
use Rattle.virtiofs_map.specs.declared.cmdline.IdMap.{IdMap as Specification}
use Rattle.virtiofs_map.proofs.ForCallers.{AllZip-push, AllZip-one, build_no_fault, build_one_fault}
use Rattle.virtiofs_map_c.specs.Arrays.{ListFault, Unread, Unbuilt, HasListFault, HasUnread, SaysAccepted}

module _ {X F : Type 0} (Says : X → Specification → Type 0) (Has : X → F → Type 0) where
  -- one more
  pub says_more : (xs : List X) (list : List Specification) (i : ℕ) (d : X) (one : Specification) → i < length xs
      → AllZip Says (take i xs) list → Says (get_or xs i d) one → AllZip Says (take (i + 1) xs) (list ++ one ∷ [])
  says_more xs list i d one below are here =
      rw (take_more xs i d below) (AllZip-push Says (take i xs) list (get_or xs i d) one are here)

  -- one that says none, after those that do
  pub unread_here : (xs : List X) (list : List Specification) (i : ℕ) (d : X) (fault : F) → i < length xs
      → AllZip Says (take i xs) list → Has (get_or xs i d) fault → HasUnread Says Has xs i fault
  unread_here xs list i d fault below are wrong = search (rules, slice_get-get_or)

  module _ (never : (x : X) (one : Specification) (fault : F) → Says x one → ¬ Has x fault) where
    -- where each element says one, none has a fault
    none_bad : (xs : List X) (ys : List Specification) (i : ℕ) (fault : F) → AllZip Says xs ys
        → ¬ IsSomeAnd (slice_get xs i) (λ x. Has x fault)
    none_bad [] ys i fault all here = absurd here
    none_bad (x ∷ xs) [] i fault all here = absurd all
    none_bad (x ∷ xs) (y ∷ ys) zero fault all here = never x y fault all.0 here
    none_bad (x ∷ xs) (y ∷ ys) (suc i) fault all here = none_bad xs ys i fault all.1 here

    -- where each of a front does, none of that front has
    none_earlier : (xs : List X) (ys : List Specification) (i j : ℕ) (fault : F) → i < j → AllZip Says (take j xs) ys
        → ¬ IsSomeAnd (slice_get xs i) (λ x. Has x fault)
    none_earlier [] ys i j fault before all here = absurd here
    none_earlier (x ∷ xs) ys i zero fault before all here = absurd (omega arith)
    none_earlier (x ∷ xs) [] i (suc j) fault before all here = absurd all
    none_earlier (x ∷ xs) (y ∷ ys) zero (suc j) fault before all here = never x y fault all.0 here
    none_earlier (x ∷ xs) (y ∷ ys) (suc i) (suc j) fault before all here =
        none_earlier xs ys i j fault (omega arith) all.1 here

    module _ (one_said : (x : X) (one other : Specification) → Says x one → Says x other → one ≡ other)
        (one_has : (x : X) (fault other : F) → Has x fault → Has x other → fault ≡ other) where
      one_list : (xs : List X) (list others : List Specification) → AllZip Says xs list → AllZip Says xs others
          → list ≡ others
      one_list = AllZip-one Says one_said

      -- an array that says an accepted list has no fault
      pub accepted_no_fault : (xs : List X) → SaysAccepted Says xs → (fault : ListFault F)
          → ¬ HasListFault Says Has xs fault
      accepted_no_fault xs is (Unread i fault) wrong = none_bad xs is.list i fault is.are wrong.here
      accepted_no_fault xs is (Unbuilt fault) wrong = search (rules, build_no_fault, one_list)

      one_here : (o : Option X) (fault other : F) → IsSomeAnd o (λ x. Has x fault) → IsSomeAnd o (λ x. Has x other)
          → fault ≡ other
      one_here None fault other first second = absurd first
      one_here (Some x) fault other first second = one_has x fault other first second

      one_unread : (xs : List X) (i j : ℕ) (fault other : F) → HasUnread Says Has xs i fault
          → HasUnread Says Has xs j other → Unread i fault ≡ Unread j other
      one_unread xs i j fault other first second =
          let same : i ≡ j = search (rules, cases_order, none_earlier) in
          let there : IsSomeAnd (slice_get xs i) (λ x. Has x other) = rw same second.here in
          let one : fault ≡ other = one_here (slice_get xs i) fault other first.here there in
          cc

      -- an array has at most one fault
      pub one_fault : (xs : List X) (fault other : ListFault F) → HasListFault Says Has xs fault
          → HasListFault Says Has xs other → fault ≡ other
      one_fault xs (Unread i fault) (Unread j other) first second = one_unread xs i j fault other first second
      one_fault xs (Unread i fault) (Unbuilt other) first second =
          absurd (none_bad xs second.list i fault second.are first.here)
      one_fault xs (Unbuilt fault) (Unread j other) first second =
          absurd (none_bad xs first.list j other first.are second.here)
      one_fault xs (Unbuilt fault) (Unbuilt other) first second = search (rules, build_one_fault, one_list)
