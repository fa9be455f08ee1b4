-- Which attributes have values with ids in them. A name is a list of bytes.
use Rattle.std.specs.Prelude.{◌≡◌, ◌⊎◌, ℕ, List, codes}

-- the name is one of the two whose values are access control lists
abbrev pub HasLists : List ℕ → Type 0
HasLists name = (name ≡ codes "system.posix_acl_access") ⊎ (name ≡ codes "system.posix_acl_default")

-- the name is the one whose values are capabilities
abbrev pub HasCapability : List ℕ → Type 0
HasCapability name = name ≡ codes "security.capability"
