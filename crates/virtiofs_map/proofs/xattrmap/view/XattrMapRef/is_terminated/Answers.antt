use Rattle.std.proofs.Common.{◌≡◌, ◌+◌, ◌∷◌, [], is_some, true, false, refl, sym, ◌∙◌, subst, arith, rules as steps}
use Rattle.std.proofs.lemmas.Bool.{true≢false}
use Rattle.virtiofs_map.specs.declared.xattrmap.scopes.Side.TheVariants.{Client, Server}
use Rattle.virtiofs_map.specs.Names.{deciding}
use Rattle.virtiofs_map.proofs.xattrmap.TerminatedLemmas.{BytesDecided, bytes_more, terminated_from, empty_from}
use Rattle.virtiofs_map.proofs.xattrmap.TerminatedLemmas.{byte_from}
use Rattle.virtiofs_map.proofs.xattrmap.view.XattrMapRef.is_terminated.Goals as goal

pub returns-then-not-is_decided : goal.returns-then-not-is_decided
returns-then-not-is_decided c = λ rules is.
    let fails : c.is_decided.result ≡ false = search steps in
    let none : is_some (deciding Client rules []) ≡ false = sym (c.is_decided.ensures rules is) ∙ fails in
    (λ h. absurd (cc), λ terminated. absurd (true≢false (sym (empty_from rules terminated) ∙ none)))

pub returns-then-not-is_decided-2 : goal.returns-then-not-is_decided-2
returns-then-not-is_decided-2 c = λ rules is.
    let byte = c.loop-byte.byte in
    let fails : c.is_decided-in-loop-byte.result ≡ false = search steps in
    let none : is_some (deciding Server rules (byte ∷ [])) ≡ false =
    sym (c.is_decided-in-loop-byte.ensures rules is) ∙ fails in (
      λ h. absurd (cc),
      λ terminated. absurd (true≢false (sym (byte_from rules terminated byte (omega arith) (omega arith)) ∙ none)),
    )

pub returns-else-not-is_decided-2 : goal.returns-else-not-is_decided-2
returns-else-not-is_decided-2 c = λ rules is.
    let byte = c.loop-byte.byte in
    let holds : c.is_decided.result ≡ true = search steps in
    let empty : is_some (deciding Client rules []) ≡ true = sym (c.is_decided.ensures rules is) ∙ holds in
    let holds_last : c.is_decided-in-loop-byte.result ≡ true = search steps in
    let last : is_some (deciding Server rules (byte ∷ [])) ≡ true =
    sym (c.is_decided-in-loop-byte.ensures rules is) ∙ holds_last in
    let end : byte + 1 ≡ 256 = omega arith in (
      λ _. terminated_from rules empty
          (subst (BytesDecided rules) end (bytes_more rules byte (c.loop-byte.invariant rules is) last)),
      λ _. refl,
    )
