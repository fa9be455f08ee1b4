-- All guests of an audit.
use Rattle.std.proofs.Common.{Option, ◌≡◌, ℕ, ◌+◌, List, [], ◌∷◌, ◌++◌, length, refl, subst, sym, arith}
use Rattle.std.specs.Global.{Global}
use Rattle.virtiofs_findings.specs.declared.guest.Guest.{Guest}
use Rattle.virtiofs_host.specs.declared.runner.Runner.{Runner}
use Rattle.virtiofs_mapaudit.specs.Everyone.{AddsProcess, AddsProcesses, AreStarted, IsStarted, starter_at}
use Rattle.virtiofs_mapaudit.specs.declared.guests.Everyone.{Everyone}
use Rattle.virtiofs_mapaudit.specs.declared.guests.HostProcess.{HostProcess}
use Rattle.virtiofs_options.specs.declared.guest.Guest as options_guest
use Rattle.virtiofs_options.specs.declared.options.Options.{Options}

-- one more command line
pub started_more : (starters : List (Option (Runner Global))) (place : ℕ) (given : List (options_guest.Guest Global))
    (guests : List (Guest Global)) (options : options_guest.Guest Global) (guest : Guest Global) (n : ℕ)
    → AreStarted starters place given guests → place + length guests ≡ n
    → IsStarted (starter_at starters n) options guest
    → AreStarted starters place (given ++ options ∷ []) (guests ++ guest ∷ [])
started_more starters place [] [] options guest n all sum is =
    (subst (λ k. IsStarted (starter_at starters k) options guest) (omega (arith, sum)) is, tt)
started_more starters place [] (y ∷ ys) options guest n all sum is = absurd all
started_more starters place (x ∷ xs) [] options guest n all sum is = absurd all
started_more starters place (x ∷ xs) (y ∷ ys) options guest n all sum is =
    (all.0, started_more starters (place + 1) xs ys options guest n all.1 (omega (arith, sum)) is)

-- one more process
pub adds_more : (of_daemon : Options) (processes : List HostProcess) (process : HostProcess)
    (before between after : Everyone) → AddsProcesses of_daemon processes before between
    → AddsProcess of_daemon process between after → AddsProcesses of_daemon (processes ++ process ∷ []) before after
adds_more of_daemon [] process before between after same adds =
    (after, subst (λ it. AddsProcess of_daemon process it after) (sym same) adds, refl)
adds_more of_daemon (p ∷ ps) process before between after (first, one, rest) adds =
    (first, one, adds_more of_daemon ps process first between after rest adds)
