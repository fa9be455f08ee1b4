-- The texts of /etc/passwd and /etc/group.
use Rattle.std.specs.Prelude.{◌≡◌, ◌≢◌, ℕ, ◌<◌, List, ◌∷◌, length, slice_index}
use Rattle.virtiofs_host.specs.Decimal.{IsDecimal}
use Rattle.virtiofs_host.specs.Lines.{colon_fields}
use Rattle.virtiofs_host.specs.declared.users.Named.{Named}
use Rattle.virtiofs_host.specs.declared.users.User.{User}

-- the name of a user or a group: it does not begin with `#`, as a comment does, nor with `+` or `-`, as a line for NIS does
pub record IsUserName (name : List ℕ) : Type 0 where
  pub some : 0 < length name
  pub no_comment : slice_index name 0 ≢ 35
  pub not_added : slice_index name 0 ≢ 43
  pub not_taken_away : slice_index name 0 ≢ 45

-- the line is `NAME:PASSWORD:UID:GID`, with or without further fields, and the number is that uid
pub record SaysUser (uid : ℕ) (line : List ℕ) (user : User) : Type 0 where
  pub password : List ℕ
  pub uid_field : List ℕ
  pub gid_field : List ℕ
  pub more : List (List ℕ)
  pub fields : colon_fields line ≡ user.name.now ∷ password ∷ uid_field ∷ gid_field ∷ more
  pub named : IsUserName user.name.now
  pub is_user : IsDecimal uid_field uid
  pub group : IsDecimal gid_field user.gid

-- the line begins with `NAME:PASSWORD:NUMBER`, of a user or of a group
pub record SaysName (line : List ℕ) (named : Named) : Type 0 where
  pub password : List ℕ
  pub id_field : List ℕ
  pub more : List (List ℕ)
  pub fields : colon_fields line ≡ named.name.now ∷ password ∷ id_field ∷ more
  pub is_name : IsUserName named.name.now
  pub is_id : IsDecimal id_field named.id
