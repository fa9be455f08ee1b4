use Rattle.std.proofs.Common.{◌≡◌, sym, subst}
use Rattle.std.proofs.lemmas.Bool.Decides.{Decides-eqb}
use Rattle.std.proofs.lemmas.Slice.Eq.{slice_eq-Decides}
use Rattle.std.specs.Str.{chars}
use Rattle.virtiofs_map.specs.RuleText.{SaysRules}
use Rattle.virtiofs_map_callers.proofs.names.say_the_same.Goals as goal

pub returns : goal.returns
returns c = λ is rules more says too.
    (let same : c.args.one.now ≡ c.args.other.now =
    (slice_eq-Decides (λ a b. Decides-eqb a b) c.args.one.now c.args.other.now _ c.eq.ensures).0 is in
    c.one_value.ensures (chars c.args.one.now) rules more says
    (subst (λ text. SaysRules (chars text) more) (sym same) too))
