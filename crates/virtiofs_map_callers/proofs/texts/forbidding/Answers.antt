use Rattle.std.proofs.Common.{ℕ, ◌≡◌, ◌^◌, ◌<◌, List, [], ◌∷◌, Result, Ok, Err, IfOk, All, string_bytes, sym, subst}
use Rattle.std.proofs.Common.{arith}
use Rattle.std.specs.Str.{chars}
use Rattle.std.proofs.lemmas.List.Elements.{All-nil, All-cons}
use Rattle.virtiofs_map.specs.Printed.{specification_text}
use Rattle.virtiofs_map.specs.SpecificationText.{Says}
use Rattle.virtiofs_map.specs.declared.cmdline.IdMap.{IdMap}
use Rattle.virtiofs_map.specs.declared.cmdline.IdMap.TheVariants.{ForbidGuest}
use Rattle.virtiofs_map_callers.proofs.texts.forbidding.Goals as goal

says_it : {S E : Type 0} (bytes : S → List ℕ) (spec : IdMap) (r : Result S E)
    → Says (chars (specification_text spec)) spec → IfOk r (λ text. bytes text ≡ specification_text spec)
    → IfOk r (λ text. Says (chars (bytes text)) spec)
says_it bytes spec (Ok text) says same = subst (λ (bs : List ℕ). Says (chars bs) spec) (sym same) says
says_it bytes spec (Err e) says same = tt

small_two : (m n : ℕ) → m < 2 ^ 32 → n < 2 ^ 32 → All (λ k. k < 2 ^ 32) (m ∷ n ∷ [])
small_two m n first second =
    All-cons (λ k. k < 2 ^ 32) m (n ∷ []) first (All-cons (λ k. k < 2 ^ 32) n [] second (All-nil (λ k. k < 2 ^ 32)))

pub returns : goal.returns
returns c =
    let spec : IdMap = ForbidGuest c.args.from_guest c.args.count in
    says_it string_bytes spec c.to_string.result
    (c.reads_back.ensures spec (small_two c.args.from_guest c.args.count (omega arith) (omega arith)))
    c.to_string.ensures.ok
