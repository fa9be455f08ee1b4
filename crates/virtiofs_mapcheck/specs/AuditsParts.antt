-- How the answer of an audit is said. Only private functions cite these words.
use Rattle.std.specs.Prelude.{ℕ, List, ◌++◌, codes}
use Rattle.virtiofs_map.specs.declared.audit.answer.Audit.{Audit}
use Rattle.virtiofs_map.specs.declared.audit.answer.Audit.TheVariants.{Yes, No}
use Rattle.virtiofs_output.specs.Written.{written}

-- `yes`, or `no` and the name
abbrev pub audit_text : {A : Type 0} → Audit A → List ℕ
audit_text Yes = codes "yes"
audit_text (No name) = codes "no " ++ written name
