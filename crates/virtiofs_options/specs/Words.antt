-- What the program's words come to.
use Rattle.std.specs.Prelude.{◌≡◌, ◌⊎◌, ◌==◌, ◌||◌, ◌&&◌, ℕ, List, [], Bool, true, false, not, None, Some, is_some, map, unwrap_or, length, nat_lt, if◌then◌else◌}
use Rattle.std.specs.Borrow.{Bor}
use Rattle.std.specs.Global.{Global}
use Rattle.virtiofs_options.specs.AskedOptions.{AreValues, IsAsked, IsAskedWrongly, told_last, not_shown, mixes, is_beside}
use Rattle.virtiofs_options.specs.Clusters.{plain, split_words}
use Rattle.virtiofs_options.specs.GuestOptions.{HasNoOption, TakesIn, has_any}
use Rattle.virtiofs_options.specs.Guests.{AreGuests, HasGuestFault, Told}
use Rattle.virtiofs_options.specs.Lines.{after_line, first_daemon, line_of}
use Rattle.virtiofs_options.specs.Parts.{AreParts, HasFault, is_option, known_of}
use Rattle.virtiofs_options.specs.Unknown.{told}
use Rattle.virtiofs_options.specs.Whole.{is_line}
use Rattle.virtiofs_options.specs.declared.command.Part.{Part}
use Rattle.virtiofs_options.specs.declared.fault.Fault.{Fault}
use Rattle.virtiofs_options.specs.declared.fault.Fault.TheVariants.{Unknown, Whole, BeforeDashes}
use Rattle.virtiofs_options.specs.declared.guest.Guest.{Guest}
use Rattle.virtiofs_options.specs.declared.options.Options.{Options}
use Rattle.virtiofs_options.specs.declared.front.Asked.{Asked}
use Rattle.virtiofs_options.specs.declared.values.Values.{Values}
use Rattle.virtiofs_options.specs.declared.command.Word.{Word}
use Rattle.virtiofs_options.specs.declared.words.Front.{Front}
use Rattle.virtiofs_options.specs.declared.words.Front.TheVariants.{Tell, Audit}
use Rattle.virtiofs_options.specs.declared.words.Words.{Words}
use Rattle.virtiofs_options.specs.declared.words.Words.TheVariants as words_are

-- the guest whose daemon has the options of these parts, and no other
abbrev pub IsGuestOf : {A : Type 0} → Options → List Part → Guest A → Type 0
IsGuestOf {A} options parts guest = (none : Guest A) × HasNoOption none × TakesIn options none guest parts

-- what the words before the first `--` come to
abbrev pub IsFront : Options → List Word → Front → Type 0
IsFront options words (Tell telling) =
    (parts : List Part) × AreParts options words parts × (told_last parts ≡ Some telling)
IsFront options words (Audit asked values guest) =
    (parts : List Part) × AreParts options words parts × (told_last parts ≡ None) × (not_shown parts ≡ None)
    × (mixes parts ≡ false) × (is_beside parts ≡ false) × IsAsked parts asked × AreValues parts values
    × IsGuestOf options parts guest

-- what is wrong with these words: a word, or what they ask for
abbrev pub HasFrontFault : Options → List Word → Fault → Type 0
HasFrontFault options words fault =
    HasFault options words fault
    ⊎ ((parts : List Part) × AreParts options words parts × (told_last parts ≡ None) × IsAskedWrongly parts fault)

-- a word that is not known before the first `--` belongs to a command line of the daemon: it is an option of the daemon,
-- or no option where a word is the daemon's
abbrev pub belongs : Options → List (Bor (List ℕ)) → List ℕ → Bool
belongs options words word =
    if is_option word then is_some (known_of options word) else is_some (first_daemon words)

-- what is told of a fault of the words before the first `--`
abbrev pub front_fault : Options → List (Bor (List ℕ)) → Fault → Fault
front_fault options words (Unknown word) =
    if is_line options word.now then Whole word
    else (if belongs options words word.now then BeforeDashes word else Unknown word)
front_fault options words other = other

-- the words after the first `--`; without one, there are none
abbrev pub rest_of : List (Bor (List ℕ)) → List (Bor (List ℕ))
rest_of words = unwrap_or (after_line words) []

-- processes are named, or those that run are asked for, and no command line
abbrev pub names_processes : {A : Type 0} → Asked → Values → Guest A → List (Bor (List ℕ)) → Bool
names_processes asked values first words =
    (asked.running || nat_lt 0 (length values.pid.items)) && not (has_any first) && (length words == 0)

-- the guests of the words after the first `--`, none where only processes are named
abbrev pub AreGuestsUnless : Bool → Options → Guest Global → List (Bor (List ℕ)) → List (Guest Global) → Told → Type 0
AreGuestsUnless true of_daemon first words guests unknown = (guests ≡ []) × (unknown ≡ [])
AreGuestsUnless false of_daemon first words guests unknown = AreGuests of_daemon first words guests unknown

-- what the words after the first `--` come to, where the first guest has the options before it
abbrev pub IsAudit : Options → Asked → Values → Guest Global → List (Bor (List ℕ)) → Words → Type 0
IsAudit of_daemon asked values first words (words_are.Audit asked_for all read) =
    (asked_for ≡ asked) × (all ≡ values)
    × AreGuestsUnless (names_processes asked values first words) of_daemon first words read.guests.items
    (map told read.unknown.items)
IsAudit of_daemon asked values first words _ = ⊥

-- what is wrong with them
abbrev pub IsAuditFault : Options → Asked → Values → Guest Global → List (Bor (List ℕ)) → Fault → Type 0
IsAuditFault of_daemon asked values first words fault =
    (names_processes asked values first words ≡ false) × HasGuestFault of_daemon first words fault

-- the words before the first `--`, once joined short options are words of their own
abbrev pub AreFrontWords : Options → List (Bor (List ℕ)) → List Word → Type 0
AreFrontWords of_daemon words front = map plain front ≡ split_words of_daemon (line_of words)

-- what the program's words come to: an audit, or what the program is to tell of itself
abbrev pub AreWords : Options → Options → List (Bor (List ℕ)) → Words → Type 0
AreWords own of_daemon words (words_are.Tell telling) =
    (front : List Word) × AreFrontWords of_daemon words front × IsFront own front (Tell telling)
AreWords own of_daemon words (words_are.Audit asked_for all read) =
    (front : List Word) × (asked : Asked) × (values : Values) × (first : Guest Global)
    × AreFrontWords of_daemon words front × IsFront own front (Audit asked values first)
    × IsAudit of_daemon asked values first (rest_of words) (words_are.Audit asked_for all read)

-- what is wrong with the program's words: before the first `--`, or after it
abbrev pub AreWrongWords : Options → Options → List (Bor (List ℕ)) → Fault → Type 0
AreWrongWords own of_daemon words fault =
    ((front : List Word) × (it : Fault) × AreFrontWords of_daemon words front × HasFrontFault own front it
    × (fault ≡ front_fault of_daemon words it))
    ⊎ ((front : List Word) × (asked : Asked) × (values : Values) × (first : Guest Global)
    × AreFrontWords of_daemon words front × IsFront own front (Audit asked values first)
    × IsAuditFault of_daemon asked values first (rest_of words) fault)
