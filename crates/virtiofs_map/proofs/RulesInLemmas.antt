-- The rules that an image has are those of which it is one.
use Rattle.std.proofs.Common.{◌≡◌, ℕ, ◌≤◌, List, length, take, drop, sym, ap, subst, ◌∙◌}
use Rattle.std.proofs.Math.Seq.{drop-append_seam, take-append_seam}
use Rattle.virtiofs_map.specs.NamesImage.{IsImage, IsMapOf, image_length, part}
use Rattle.virtiofs_map.specs.NamesImageParts.{Holds, IsMap, IsWholeImage, rules_in, rules_of}
use Rattle.virtiofs_map.specs.Rule.{MappingRule}
use Rattle.virtiofs_map.specs.declared.xattrmap.view.XattrMapRef.{XattrMapRef}
use Rattle.virtiofs_map.proofs.RuleRowLemmas.{stored_are}

-- an image has the rules of which it is one
pub rules_in_image : (rules : List MappingRule) (image : List ℕ) → IsImage rules image → rules_in image ≡ rules
unfolding rules_in
rules_in_image rules image is = stored_are rules (part image 2) (part image 3) is.stored

-- the rules that a map has are those of which it is one
pub rules_of_map : (rules : List MappingRule) (map : XattrMapRef) → IsMapOf rules map → rules_of map ≡ rules
rules_of_map rules map is = rules_in_image rules map.bytes.now is

pub is_map : (rules : List MappingRule) (map : XattrMapRef) → IsMapOf rules map → IsMap map
is_map rules map is = subst (λ (l : List MappingRule). IsMapOf l map) (sym (rules_of_map rules map is)) is

-- ---- the bytes of a map

-- they are the image of their own rules
pub of_its_own : (rules : List MappingRule) (bytes : List ℕ) → IsWholeImage rules bytes
    → IsWholeImage (rules_in bytes) bytes
of_its_own rules bytes is = subst (λ (l : List MappingRule). IsWholeImage l bytes)
    (sym (rules_in_image rules bytes is.image)) is

-- copied to the front of some bytes, they are an image of the rules
module _ (rules : List MappingRule) (bytes old new : List ℕ) (is : IsWholeImage (rules_in bytes) bytes)
    (are : rules_in bytes ≡ rules) (room : length bytes ≤ length old) (holds : Holds bytes old new) where
  pub image_copied : (length bytes ≡ image_length rules) × (length bytes ≤ length old)
      × IsImage rules (take (length bytes) new)
      × (drop (length bytes) new ≡ drop (length bytes) old)
  image_copied =
      let whole = holds.are room in
      let rest : List ℕ = drop (length bytes) old in
      let front : take (length bytes) new ≡ bytes = ap (take (length bytes)) whole ∙ take-append_seam bytes rest in (
        subst (λ (l : List MappingRule). length bytes ≡ image_length l) are is.whole,
        room,
        subst (λ (l : List MappingRule). IsImage l (take (length bytes) new)) are
            (subst (IsImage (rules_in bytes)) (sym front) is.image),
        ap (drop (length bytes)) whole ∙ drop-append_seam bytes rest,
      )
