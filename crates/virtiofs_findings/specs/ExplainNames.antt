-- What the rules make of one name, and which written rule decides.
use Rattle.std.specs.Prelude.{⊤, ◌≡◌, ◌-◌, ◌↔◌, ℕ, min, List, [], ◌∷◌, Option, None, option_map, Result, Ok, Err, IsSomeAnd, IsTrue}
use Rattle.std.specs.Global.{Global}
use Rattle.std.specs.Option.{option_map_or}
use Rattle.virtiofs_map.specs.Listing.{listing}
use Rattle.virtiofs_map.specs.LookupAnswers.{meaning}
use Rattle.virtiofs_map.specs.Names.{ClientAnswer, Passes, IsUnterminated, client_answer, first}
use Rattle.virtiofs_map.specs.Rule.{MappingRule}
use Rattle.virtiofs_map.specs.declared.xattrmap.client.AppliedRule.{AppliedRule}
use Rattle.virtiofs_map.specs.declared.xattrmap.errors.Error.{Error}
use Rattle.virtiofs_map.specs.declared.xattrmap.scopes.Side.{Side}
use Rattle.virtiofs_map.specs.declared.xattrmap.scopes.Side.TheVariants.{Client, Server}
use Rattle.virtiofs_findings.specs.declared.explain.names.GuestName.{GuestName}
use Rattle.virtiofs_findings.specs.declared.explain.names.HostName.{HostName}
use Rattle.virtiofs_findings.specs.declared.explain.names.Listed.{Listed}
use Rattle.virtiofs_findings.specs.declared.explain.names.Listed.TheVariants.{Under, Hidden, Undecided}

-- the place of the written rule that decides the name on that side, which is the first that fits: each of that many
-- written rules stands for the rule of the map at its own place, and the last one for all from its place on
abbrev pub rule_of : Side → List MappingRule → ℕ → List ℕ → Option ℕ
rule_of side rules written name = option_map (λ part. min part (written - 1)) (first side rules name)

-- how a name stands in a list of it alone, by what is given for that list
abbrev pub StandsAs : List (Result (List ℕ) (Error Global)) → Listed → Type 0
StandsAs (Ok name ∷ rest) (Under listed) = listed.items ≡ name
StandsAs (Err error ∷ rest) Undecided = ⊤
StandsAs [] Hidden = ⊤
StandsAs given listed = ⊥

-- the explanation of a name of the host
pub record ExplainsHostName (rules : List MappingRule) (written : ℕ) (name : List ℕ) (it : HostName) : Type 0 where
  pub rule : it.rule ≡ rule_of Server rules written name
  pub listed : StandsAs (listing rules name) it.listed

-- what a rule, if one decides, makes of a name that the guest uses
abbrev pub answer_of : Option (AppliedRule Global) → ClientAnswer
answer_of becomes = option_map_or meaning becomes IsUnterminated

-- the explanation of what a name of the guest became, if that is a name of the host
abbrev pub ExplainsBack : List MappingRule → ℕ → ClientAnswer → Option HostName → Type 0
ExplainsBack rules written (Passes host) back = IsSomeAnd back (ExplainsHostName rules written host)
ExplainsBack rules written answer back = back ≡ None

-- a name of the host, if there is one, is listed as that name
abbrev pub IsListedAs : Option HostName → List ℕ → Type 0
IsListedAs host name = IsSomeAnd host (λ it. StandsAs (Ok name ∷ []) it.listed)

-- the explanation of a name that the guest uses, there and back
pub record ExplainsGuestName (rules : List MappingRule) (written : ℕ) (name : List ℕ) (it : GuestName) : Type 0 where
  pub rule : it.rule ≡ rule_of Client rules written name
  pub becomes : answer_of it.becomes ≡ client_answer rules name
  pub back : ExplainsBack rules written (answer_of it.becomes) it.back
  pub round : IsTrue it.is_round ↔ IsListedAs it.back name
