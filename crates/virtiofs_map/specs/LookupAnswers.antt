-- What the lookups of names hand out, and the error that they answer.
use Rattle.std.specs.Prelude.{◌≡◌, ⊤, ℕ, List, Some, None}
use Rattle.std.specs.Option.{option_map}
use Rattle.virtiofs_map.specs.Names.{ClientAnswer, Passes, IsDenied, IsUnsupported, deciding}
use Rattle.virtiofs_map.specs.Rule.{RuleType, MappingRule}
use Rattle.virtiofs_map.specs.declared.xattrmap.scopes.Side.TheVariants.{Client}
use Rattle.virtiofs_map.specs.declared.xattrmap.errors.Error.{Error}
use Rattle.virtiofs_map.specs.declared.xattrmap.errors.ErrorKind.{ErrorKind}
use Rattle.virtiofs_map.specs.declared.xattrmap.client.AppliedRule.{AppliedRule}
use Rattle.virtiofs_map.specs.declared.xattrmap.client.AppliedRule.TheVariants.{Pass, Deny, Unsupported}
use Rattle.virtiofs_map.specs.declared.xattrmap.client.PassedName.{PassedName}
use Rattle.virtiofs_map.specs.declared.xattrmap.client.PassedName.TheVariants.{Borrowed, Owned}

-- the bytes of a name that passes
abbrev pub passed_bytes : {A : Type 0} → PassedName A → List ℕ
passed_bytes (Borrowed name) = name.bytes.now
passed_bytes (Owned name) = name

-- what the answer says
abbrev pub meaning : {A : Type 0} → AppliedRule A → ClientAnswer
meaning (Pass name) = Passes (passed_bytes name)
meaning Deny = IsDenied
meaning Unsupported = IsUnsupported

-- an error that blames no rule
abbrev pub of_no_rule : {A : Type 0} → ErrorKind A → Error A
of_no_rule cause = record { cause = cause; rule = None }

-- the first rule that fits the guest's name is of that type
abbrev pub IsDecidedBy : RuleType → List MappingRule → List ℕ → Type 0
IsDecidedBy kind rules name = option_map (λ rule. rule.kind) (deciding Client rules name) ≡ Some kind

-- the answer passes a name with memory of its own
abbrev pub IsOwned : {A : Type 0} → AppliedRule A → Type 0
IsOwned (Pass (Owned name)) = ⊤
IsOwned (Pass (Borrowed name)) = ⊥
IsOwned Deny = ⊥
IsOwned Unsupported = ⊥
