-- The guests of an audit: those of command lines, each with who starts its daemon, and those of processes.
use Rattle.std.specs.Prelude.{◌≡◌, ◌⊎◌, ⊤, ℕ, ◌+◌, List, [], ◌∷◌, ◌++◌, length, map, slice_get, option_map, Option, Some}
use Rattle.std.specs.Borrow.{Bor}
use Rattle.std.specs.Global.{Global}
use Rattle.std.specs.Option.{option_and_then}
use Rattle.std.specs.declared.vec.Vec.{Vec}
use Rattle.virtiofs_findings.specs.declared.guest.Guest.{Guest}
use Rattle.virtiofs_host.specs.CommandLine.{AreWords, HasWrongWord}
use Rattle.virtiofs_host.specs.declared.runner.Runner.{Runner}
use Rattle.virtiofs_mapaudit.specs.declared.guests.Everyone.{Everyone}
use Rattle.virtiofs_mapaudit.specs.declared.guests.HostProcess.{HostProcess}
use Rattle.virtiofs_mapaudit.specs.declared.guests.ProcessFault.{ProcessFault}
use Rattle.virtiofs_mapaudit.specs.declared.guests.ProcessFault.TheVariants.{NotText, NoDaemon, Words}
use Rattle.virtiofs_options.specs.Guests as options
use Rattle.virtiofs_options.specs.declared.guest.Guest as options_guest
use Rattle.virtiofs_options.specs.declared.guests.Guests.{Guests}
use Rattle.virtiofs_options.specs.declared.guests.Process.TheVariants as process_is
use Rattle.virtiofs_options.specs.declared.options.Options.{Options}
use Rattle.virtiofs_options.specs.declared.unknown.UnknownWord.{UnknownWord}

-- who starts the daemon of the command line at a place, if it is known
abbrev pub starter_at : List (Option (Runner Global)) → ℕ → Option (Runner Global)
starter_at starters place = option_and_then (λ it. it) (slice_get starters place)

-- the guest has these options, and that one starts its daemon
pub record IsStarted (starter : Option (Runner Global)) (options : options_guest.Guest Global) (guest : Guest Global)
    : Type 0 where
  pub has : guest.options ≡ options
  pub runner : option_map (λ it. it.now) guest.runner ≡ starter

-- so are the guests of command lines, of which the first has that place
abbrev pub AreStarted : List (Option (Runner Global)) → ℕ → List (options_guest.Guest Global) → List (Guest Global) → Type 0
AreStarted starters place [] [] = ⊤
AreStarted starters place [] (guest ∷ guests) = ⊥
AreStarted starters place (options ∷ more) [] = ⊥
AreStarted starters place (options ∷ more) (guest ∷ guests) =
    IsStarted (starter_at starters place) options guest × AreStarted starters (place + 1) more guests

-- the words of a process
abbrev pub HasWords : HostProcess → List (Bor (List ℕ)) → Type 0
HasWords process words = AreWords process.cmdline.items (map (λ word. word.now) words)

-- the guest of that number of a process, and what is not known of its words
pub record IsOfProcess (of_daemon : Options) (number : ℕ) (process : HostProcess) (guest : Guest Global)
    (unknown : Vec UnknownWord Global) : Type 0 where
  pub words : List (Bor (List ℕ))
  pub has : HasWords process words
  pub is : options.IsProcess of_daemon number words (process_is.OfGuest guest.options unknown)
  pub runner : option_map (λ it. it.now) guest.runner ≡ Some process.runner

-- why a process makes no guest
abbrev pub IsProcessFault : Options → HostProcess → ProcessFault → Type 0
IsProcessFault of_daemon process (NotText pid) =
    (pid ≡ process.pid) × ((place : ℕ) × HasWrongWord process.cmdline.items place)
IsProcessFault of_daemon process (NoDaemon pid) =
    (pid ≡ process.pid) × ((words : List (Bor (List ℕ))) × HasWords process words
    × options.IsProcess of_daemon 1 words process_is.NoDaemon)
IsProcessFault of_daemon process (Words pid fault) =
    (pid ≡ process.pid) × ((words : List (Bor (List ℕ))) × HasWords process words
    × options.IsProcessFault of_daemon words fault)

-- the guest of a process was added
pub record AddsGuest (of_daemon : Options) (process : HostProcess) (before after : Everyone) : Type 0 where
  pub guest : Guest Global
  pub unknown : Vec UnknownWord Global
  pub is : IsOfProcess of_daemon (length before.guests.items + 1) process guest unknown
  pub guests : after.guests.items ≡ before.guests.items ++ guest ∷ []
  pub told : after.unknown.items ≡ before.unknown.items ++ unknown.items
  pub faults : after.faults ≡ before.faults

-- why a process makes none was added
pub record AddsFault (of_daemon : Options) (process : HostProcess) (before after : Everyone) : Type 0 where
  pub fault : ProcessFault
  pub is : IsProcessFault of_daemon process fault
  pub guests : after.guests ≡ before.guests
  pub unknown : after.unknown ≡ before.unknown
  pub told : after.faults.items ≡ before.faults.items ++ fault ∷ []

abbrev pub AddsProcess : Options → HostProcess → Everyone → Everyone → Type 0
AddsProcess of_daemon process before after =
    AddsGuest of_daemon process before after ⊎ AddsFault of_daemon process before after

-- those of processes were added
abbrev pub AddsProcesses : Options → List HostProcess → Everyone → Everyone → Type 0
AddsProcesses of_daemon [] before after = before ≡ after
AddsProcesses of_daemon (process ∷ more) before after =
    (between : Everyone) × AddsProcess of_daemon process before between × AddsProcesses of_daemon more between after

-- all guests: those of command lines, which these start, and then those of processes, or why one makes none
pub record AreEveryone (of_daemon : Options) (given : Guests) (starters : List (Option (Runner Global)))
    (processes : List HostProcess) (all : Everyone) : Type 0 where
  pub before : Everyone
  pub started : AreStarted starters 0 given.guests.items before.guests.items
  pub unknown : before.unknown.items ≡ given.unknown.items
  pub none : before.faults.items ≡ []
  pub adds : AddsProcesses of_daemon processes before all
