-- Guests, one after another.
use Rattle.std.proofs.Common.{◌≡◌, ◌+◌, ℕ, List, [], ◌∷◌, ◌++◌, Option, Some, None, Bor, length, refl, sym, ap, subst, ◌∙◌, arith, append_assoc}
use Rattle.std.proofs.lemmas.List.{append-nil}
use Rattle.virtiofs_options.specs.GuestOptions.{HasNoOption}
use Rattle.virtiofs_options.specs.Guests.{GuestsThen, IsGuest, Told}
use Rattle.virtiofs_options.specs.Parts.{WrongOnly}
use Rattle.virtiofs_options.specs.declared.fault.Fault.{Fault}
use Rattle.virtiofs_options.specs.declared.fault.ReadError.{ReadError}
use Rattle.virtiofs_options.specs.declared.guest.Guest.{Guest}
use Rattle.virtiofs_options.specs.declared.options.Options.{Options}

-- one guest more
pub GuestsThen-more : {A : Type 0} (options : Options) (n : ℕ) (first : Guest A)
    (guests : List (Guest A)) (words : Option (List (Bor (List ℕ)))) (told : Told) (left : List (Bor (List ℕ)))
    (next : Guest A) (number : ℕ) (guest : Guest A) (here : Told) (after : Option (List (Bor (List ℕ)))) (none : Guest A)
    → GuestsThen options n first guests words told (Some left) next
    → number ≡ n + length guests → IsGuest options number next left guest here after → HasNoOption none
    → GuestsThen options n first (guests ++ guest ∷ []) words (told ++ here) after none
GuestsThen-more {A} options n first [] words told left next number guest here after none so_far is_number is lacks =
    let (same, empty, start) = so_far in
    subst (λ (ws : Option (List (Bor (List ℕ)))). GuestsThen options n first (guest ∷ []) ws (told ++ here) after none)
    (sym same) (
      none,
      here,
      [],
      after,
      subst (λ (f : Guest A). IsGuest options n f left guest here after) (sym start)
          (subst (λ (k : ℕ). IsGuest options k next left guest here after) (omega (arith, is_number)) is),
      lacks,
      ap (λ (it : Told). it ++ here) empty ∙ sym (append-nil here),
      (refl, refl, refl),
    )
GuestsThen-more options n first (one ∷ guests) None told left next number guest here after none so_far is_number is lacks =
    absurd so_far
GuestsThen-more options n first (one ∷ guests) (Some words) told left next number guest here after none so_far is_number is lacks =
    let (empty, now, then, rest, first_is, empty_is, told_is, more) = so_far in (
      empty,
      now,
      then ++ here,
      rest,
      first_is,
      empty_is,
      ap (λ (it : Told). it ++ here) told_is ∙ append_assoc now then here,
      GuestsThen-more options (n + 1) empty guests rest then left next number guest here after none more
          (omega (arith, is_number)) is lacks,
    )

-- what is wrong, in other words
pub WrongOnly-map : (P Q : Fault → Type 0) (error : ReadError) → ((fault : Fault) → P fault → Q fault)
    → WrongOnly P error → WrongOnly Q error
WrongOnly-map x0 x1 x2 leads wrong = grind arith

-- there is nothing where there is no element
pub none-left : {A : Type 0} (o : Option A) → ((x : A) → o ≡ Some x → ⊥) → o ≡ None
none-left x0 lacks = grind arith
