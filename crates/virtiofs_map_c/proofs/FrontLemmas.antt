-- What is written byte by byte, as far as there is room, is one text.
use Rattle.std.proofs.Common.{◌≡◌, ◌+◌, ◌<◌, ◌≤◌, ◌∙◌, ℕ, suc, min, List, [], ◌∷◌, ◌++◌, length, take, drop, set, refl}
use Rattle.std.proofs.Common.{sym, ap, arith, append_assoc, append-nil, take_all, take_at, drop_at, drop-drop}
use Rattle.std.proofs.Common.{drop_of_length-le, length-set, rules}
use Rattle.std.proofs.lemmas.List.{take-append-le, set_split, length_push}
use Rattle.virtiofs_map_c.specs.Faults.{ok, no_room}
use Rattle.virtiofs_map_c.specs.Replies.{IsFront, TellsFront, cut_text}

-- the buffer before the first byte
pub IsFront-start : (out : List ℕ) → IsFront out 0 out
IsFront-start out = record {
  text = [];
  length_told = refl;
  same = refl;
  fits = λ _. refl;
  does_not_fit = λ none. nothing out none;
} where
  nothing : (out : List ℕ) → length out ≤ 0 → out ≡ take (length out) []
  nothing [] none = refl
  nothing (x ∷ out) none = absurd (omega (arith, none))

module _ (first : List ℕ) (len after byte : ℕ) (old : List ℕ) (is : IsFront first len old)
    (small : length old ≤ 18446744073709551615) (more : after ≡ min (len + 1) 18446744073709551615) where
  -- a byte for which there is no room
  pub byte-none : length old ≤ len → IsFront first after old
  byte-none full =
      let all : length first ≤ length is.text = omega (arith, full, is.same, is.length_told) in
      record {
        text = is.text ++ byte ∷ [];
        length_told = omega (arith, more, is.length_told, length_push is.text byte);
        same = is.same;
        fits = λ room. absurd (omega (arith, room, all, length_push is.text byte));
        does_not_fit = λ _. is.does_not_fit all ∙ sym (take-append-le (length first) is.text (byte ∷ []) all);
      }

  -- one for which there is room
  pub byte-fits : len < length old → IsFront first after (set old len byte)
  byte-fits room =
      let long : length is.text ≡ len = omega (arith, room, small, is.length_told) in
      let stood : old ≡ is.text ++ drop (length is.text) first = is.fits (omega (arith, room, is.same, long)) in
      let front : take len old ≡ is.text =
      ap (take len) stood ∙ take_at is.text (drop (length is.text) first) len long in
      let next : suc len ≡ len + 1 = omega arith in
      let behind : drop (suc len) old ≡ drop (suc len) first =
      ap (λ (n : ℕ). drop n old) next ∙ sym (drop-drop 1 len old)
      ∙ ap (drop 1) (ap (drop len) stood ∙ drop_at is.text (drop (length is.text) first) len long)
      ∙ drop-drop 1 (length is.text) first ∙ ap (λ (n : ℕ). drop (n + 1) first) long
      ∙ ap (λ (n : ℕ). drop n first) (sym next) in
      let now : set old len byte ≡ (is.text ++ byte ∷ []) ++ drop (suc len) first =
      set_split old len byte room ∙ ap (λ (s : List ℕ). s ++ byte ∷ drop (suc len) old) front
      ∙ ap (λ (s : List ℕ). is.text ++ byte ∷ s) behind
      ∙ sym (append_assoc is.text (byte ∷ []) (drop (suc len) first)) in
      let longer : length (is.text ++ byte ∷ []) ≡ suc len = omega (arith, length_push is.text byte, long) in
      search (rules, length_push, length-set, drop_of_length-le, append-nil, take_all)

module _ (old new : List ℕ) (len : ℕ) (is : IsFront old len new) where
  -- a text is told, with the code that says whether there is room for it, in a buffer as long as any may be
  pub front-told : length new < 18446744073709551615 → len ≤ length new → TellsFront is.text old ok len new
  front-told small room = search rules

  -- the same where there is none for all of it, once it is cut
  pub front-cut : length new < len → TellsFront is.text old no_room len (cut_text new)
  front-cut short = search rules
