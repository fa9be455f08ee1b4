-- The guests that command lines of the daemon make.
use Rattle.std.specs.Prelude.{◌≡◌, ◌⊎◌, ◌==◌, ◌+◌, ◌++◌, ℕ, List, [], ◌∷◌, Bool, ◌&&◌, Option, Some, None, option_map, unwrap_or, map, find, drop, take, length, if◌then◌else◌}
use Rattle.std.specs.Borrow.{Bor}
use Rattle.std.specs.Global.{Global}
use Rattle.std.specs.Option.{option_or}
use Rattle.virtiofs_options.specs.Clusters.{plain, split_words}
use Rattle.virtiofs_options.specs.GuestOptions.{HasNoOption, TakesIn, has_any}
use Rattle.virtiofs_options.specs.Lines.{beginning, first_daemon, line_of, after_line}
use Rattle.virtiofs_options.specs.Parts.{AreParts, HasFault}
use Rattle.virtiofs_options.specs.Starters.{IsStarter}
use Rattle.virtiofs_options.specs.Unknown.{AreRight, IsPartsFault, told, unknown_of}
use Rattle.virtiofs_options.specs.Whole.{is_line}
use Rattle.virtiofs_options.specs.declared.fault.Fault.{Fault}
use Rattle.virtiofs_options.specs.declared.fault.Fault.TheVariants.{Whole, Nothing}
use Rattle.virtiofs_options.specs.declared.command.Part.{Part}
use Rattle.virtiofs_options.specs.declared.guest.Guest.{Guest}
use Rattle.virtiofs_options.specs.declared.guests.Guests.{Guests}
use Rattle.virtiofs_options.specs.declared.guests.Process.{Process}
use Rattle.virtiofs_options.specs.declared.guests.Process.TheVariants.{OfGuest, NoDaemon}
use Rattle.virtiofs_options.specs.declared.options.Options.{Options}
use Rattle.virtiofs_options.specs.declared.command.Word.{Word}

-- what is not known of a command line: the number of the guest, whether it is a part of `-o`, and the text
abbrev pub Told : Type 0
Told = List (ℕ × Bool × List ℕ)

-- where the command line of a guest begins; one that has options already may lack a command line
abbrev pub start_of : Options → Bool → List (Bor (List ℕ)) → Option ℕ
start_of options given words =
    option_or (beginning options words) (if given && (length (line_of words) == 0) then Some 0 else None)

-- what is wrong with words in which no command line begins: one of them holds a command line, or there is nothing to audit
abbrev pub lacking_fault : Options → ℕ → List (Bor (List ℕ)) → Fault
lacking_fault options number words =
    unwrap_or (option_map Whole (find (λ word. is_line options word.now) words)) (Nothing number)

-- the words, once joined short options are words of their own, are these parts
abbrev pub AreSplitParts : Options → List (Bor (List ℕ)) → List Part → Type 0
AreSplitParts options line parts =
    (words : List Word) × (map plain words ≡ split_words options line) × AreParts options words parts

-- what the words of one command line make of a guest, and what of them is not known
abbrev pub IsLine : {A : Type 0} → Options → ℕ → Guest A → List (Bor (List ℕ)) → Guest A → Told → Type 0
IsLine options number first line guest told =
    (parts : List Part) × AreSplitParts options line parts × AreRight options parts
    × TakesIn options first guest parts × (told ≡ unknown_of options number parts)

-- what is wrong with the words of one command line: a word, or a part
abbrev pub IsLineFault : Options → List (Bor (List ℕ)) → Fault → Type 0
IsLineFault options line fault =
    ((words : List Word) × (map plain words ≡ split_words options line) × HasFault options words fault)
    ⊎ ((parts : List Part) × AreSplitParts options line parts × IsPartsFault options parts fault)

-- the guest that words begin with; what follows the `--` that ends its command line is left, and what stands before the
-- line says who starts the daemon
abbrev pub IsGuest : {A : Type 0} → Options → ℕ → Guest A → List (Bor (List ℕ)) → Guest A → Told
    → Option (List (Bor (List ℕ))) → Type 0
IsGuest options number first words guest told left =
    (start : ℕ) × (start_of options (has_any first) words ≡ Some start)
    × IsLine options number first (line_of (drop start words)) guest told
    × IsStarter options (take start words) guest.starter
    × (left ≡ after_line (drop start words))

-- one guest more, which words begin with
abbrev pub AddsGuest : Options → Guest Global → List (Bor (List ℕ)) → Guests → Guests → Option (List (Bor (List ℕ)))
    → Type 0
AddsGuest options first words old new left =
    (guest : Guest Global) × (here : Told)
    × IsGuest options (length old.guests.items + 1) first words guest here left
    × (new.guests.items ≡ old.guests.items ++ guest ∷ [])
    × (map told new.unknown.items ≡ map told old.unknown.items ++ here)

-- words that begin with no guest, and what is wrong with them
abbrev pub IsGuestFault : {A : Type 0} → Options → ℕ → Guest A → List (Bor (List ℕ)) → Fault → Type 0
IsGuestFault options number first words fault =
    ((start_of options (has_any first) words ≡ None) × (fault ≡ lacking_fault options number words))
    ⊎ ((start : ℕ) × (start_of options (has_any first) words ≡ Some start)
    × IsLineFault options (line_of (drop start words)) fault)

-- the words of a process are those of the daemon of the guest of that number, from the daemon's word on; or there is no
-- such word
abbrev pub IsProcess : Options → ℕ → List (Bor (List ℕ)) → Process → Type 0
IsProcess options number words (OfGuest guest unknown) =
    (start : ℕ) × (first_daemon words ≡ Some start)
    × ((none : Guest Global) × HasNoOption none
    × IsLine options number none (line_of (drop start words)) guest (map told unknown.items))
IsProcess options number words NoDaemon = first_daemon words ≡ None

-- what is wrong with the command line in the words of a process
abbrev pub IsProcessFault : Options → List (Bor (List ℕ)) → Fault → Type 0
IsProcessFault options words fault =
    (start : ℕ) × (first_daemon words ≡ Some start) × IsLineFault options (line_of (drop start words)) fault

-- words are these guests, and what is left begins a further one, whose daemon has the options of `next`
abbrev pub GuestsThen : {A : Type 0} → Options → ℕ → Guest A → List (Guest A) → Option (List (Bor (List ℕ))) → Told
    → Option (List (Bor (List ℕ))) → Guest A → Type 0
GuestsThen options number first [] words told left next = (words ≡ left) × (told ≡ []) × (first ≡ next)
GuestsThen options number first (guest ∷ guests) None told left next = ⊥
GuestsThen {A} options number first (guest ∷ guests) (Some words) told left next =
    (none : Guest A) × (here there : Told) × (after : Option (List (Bor (List ℕ))))
    × IsGuest options number first words guest here after × HasNoOption none × (told ≡ here ++ there)
    × GuestsThen options (number + 1) none guests after there left next

-- the words after the first `--` are these guests, of which the first has the options of `first`
abbrev pub AreGuests : {A : Type 0} → Options → Guest A → List (Bor (List ℕ)) → List (Guest A) → Told → Type 0
AreGuests {A} options first words guests told =
    (next : Guest A) × GuestsThen options 1 first guests (Some words) told None next

-- what is wrong with the first guest that words do not make
abbrev pub HasGuestFault : {A : Type 0} → Options → Guest A → List (Bor (List ℕ)) → Fault → Type 0
HasGuestFault {A} options first words fault =
    (guests : List (Guest A)) × (told : Told) × (left : List (Bor (List ℕ))) × (next : Guest A)
    × GuestsThen options 1 first guests (Some words) told (Some left) next
    × IsGuestFault options (length guests + 1) next left fault
