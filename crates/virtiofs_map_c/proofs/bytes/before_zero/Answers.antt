use Rattle.std.proofs.Common.{◌≢◌, ℕ, rules}
use Rattle.std.proofs.lemmas.List.{take_all}
use Rattle.std.proofs.lemmas.List.Elements.{All-nil}
use Rattle.virtiofs_map_c.proofs.ZeroLemmas.{all_before}
use Rattle.virtiofs_map_c.proofs.bytes.before_zero.Goals as goal

pub returns-then-not-contains : goal.returns-then-not-contains
returns-then-not-contains c = search (rules, take_all, all_before)

pub returns : goal.returns
returns c = c.cut_name.ensures.name (All-nil (λ (byte : ℕ). byte ≢ 0))
