-- What the command line of a process that runs says.
use Rattle.std.specs.Prelude.{◌≡◌, ◌==◌, ◌-◌, ℕ, List, Option, map, slice_get, length, codes}
use Rattle.std.specs.Borrow.{Bor}
use Rattle.std.specs.List.{before_first}
use Rattle.std.specs.Option.{option_or}
use Rattle.virtiofs_options.specs.Clusters.{plain, split_words}
use Rattle.virtiofs_options.specs.GuestOptions.{AreOlder, values_of}
use Rattle.virtiofs_options.specs.Guests.{AreSplitParts}
use Rattle.virtiofs_options.specs.Lines.{line_of}
use Rattle.virtiofs_options.specs.Parts.{HasFault}
use Rattle.virtiofs_options.specs.declared.command.Part.{Part}
use Rattle.virtiofs_options.specs.declared.fault.Fault.{Fault}
use Rattle.virtiofs_options.specs.declared.options.Options.{Options}
use Rattle.virtiofs_options.specs.declared.command.Word.{Word}

-- the first word of a command line, which a zero byte ends
abbrev pub first_word : List ℕ → List ℕ
first_word text = before_first (λ byte. byte == 0) text

-- the last of some values
abbrev pub last_of : List (Bor (List ℕ)) → Option (Bor (List ℕ))
last_of values = slice_get values (length values - 1)

-- the directory that is shared, if the parts say one: the older form counts more, and of each form the last
abbrev pub IsDirectoryIn : Options → List Part → Option (Bor (List ℕ)) → Type 0
IsDirectoryIn options parts directory =
    (older : List Part) × AreOlder options parts older
    × (directory ≡ option_or (last_of (values_of (codes "source=") older)) (last_of (values_of (codes "--shared-dir") parts)))

-- the words say this directory, or none
abbrev pub Shares : Options → List (Bor (List ℕ)) → Option (Bor (List ℕ)) → Type 0
Shares options words directory =
    (parts : List Part) × AreSplitParts options (line_of words) parts × IsDirectoryIn options parts directory

-- what is wrong with a word
abbrev pub IsWordFault : Options → List (Bor (List ℕ)) → Fault → Type 0
IsWordFault options words fault =
    (split : List Word) × (map plain split ≡ split_words options (line_of words)) × HasFault options split fault
