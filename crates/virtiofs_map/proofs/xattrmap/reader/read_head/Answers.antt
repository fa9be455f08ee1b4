use Rattle.std.proofs.Common.{◌≡◌, ◌∷◌, [], inr, refl, subst, sym, ◌∙◌, codes}
use Rattle.std.proofs.lemmas.Bool.{false≢true}
use Rattle.std.specs.Char.{encode_utf8}
use Rattle.std.specs.Str.{chars}
use Rattle.virtiofs_map.specs.RuleParts.{type_of}
use Rattle.virtiofs_map.specs.RuleText.{Fields, type_word}
use Rattle.virtiofs_map.proofs.CutLemmas.{field_here}
use Rattle.virtiofs_map.proofs.RuleFieldLemmas.{unfinished_none, unfinished_type, fields_append}
use Rattle.virtiofs_map.proofs.xattrmap.RuleWordLemmas.{chars_word, word_from_chars, is_word}
use Rattle.virtiofs_map.proofs.xattrmap.reader.read_head.Goals as goal

pub returns-in_default-clause-err : goal.returns-in_default-clause-err
returns-in_default-clause-err g c = inr ([], chars c.args.text.now, refl, unfinished_none, c.in_default.ensures.absent)

pub returns-then-eq-clause-ok : goal.returns-then-eq-clause-ok
unfolding chars
returns-then-eq-clause-ok g c =
    subst (λ w. Fields c.args.delimiter (chars c.args.text.now) (w ∷ []) (chars c.in-Some.rest.now))
    (chars_word c.in-Some.word.now (codes "map") refl ((is_word _ _ _ c.eq.ensures).0 c.if-eq.true))
    (field_here _ _ _ _ c.in-Some.ensures.whole c.in-Some.ensures.first)

pub returns-in_default-kind_of-clause-err : goal.returns-in_default-kind_of-clause-err
unfolding chars encode_utf8
returns-in_default-kind_of-clause-err g c =
    let not_map : chars c.in-Some.word.now ≡ codes "map" → ⊥ =
    λ e. false≢true
    (sym c.if-eq.false
    ∙ (is_word _ _ _ c.eq.ensures).1
    (word_from_chars c.in-Some.word.now (codes "map") c.in-Some.ensures.text.0 refl e)) in
    inr (rw c.in_ok-got.ensures.ok (
      chars c.in-Some.rest.now,
      (field_here _ _ _ _ c.in-Some.ensures.whole c.in-Some.ensures.first),
      c.in_default-kind_of.ensures.none,
      not_map,
      refl,
    ))

pub returns-in_default-cut_at-clause-err : goal.returns-in_default-cut_at-clause-err
returns-in_default-cut_at-clause-err g c =
    inr (
      type_word (type_of c.in-Some-kind_of.kind) ∷ [],
      chars c.in-Some.rest.now,
      subst (λ w. Fields c.args.delimiter (chars c.args.text.now) (w ∷ []) (chars c.in-Some.rest.now))
          c.in-Some-kind_of.ensures.found (field_here _ _ _ _ c.in-Some.ensures.whole c.in-Some.ensures.first),
      unfinished_type (type_of c.in-Some-kind_of.kind),
      c.in_default-cut_at.ensures.absent,
    )

pub returns-in_default-scope_word_of-clause-err : goal.returns-in_default-scope_word_of-clause-err
unfolding chars
returns-in_default-scope_word_of-clause-err g c =
    let first : Fields c.args.delimiter (chars c.args.text.now) (type_word (type_of c.in-Some-kind_of.kind) ∷ [])
    (chars c.in-Some.rest.now) =
    subst (λ w. Fields c.args.delimiter (chars c.args.text.now) (w ∷ []) (chars c.in-Some.rest.now))
    c.in-Some-kind_of.ensures.found (field_here _ _ _ _ c.in-Some.ensures.whole c.in-Some.ensures.first) in
    inr (rw c.in_ok-got-2.ensures.ok (
      type_of c.in-Some-kind_of.kind,
      chars c.in-Some-cut_at.rest.now,
      fields_append _ _ (type_word (type_of c.in-Some-kind_of.kind) ∷ []) (chars c.in-Some-cut_at.word.now ∷ []) _ _
          first (field_here _ _ _ _ c.in-Some-cut_at.ensures.whole c.in-Some-cut_at.ensures.first),
      c.in_default-scope_word_of.ensures.none,
      refl,
    ))
