-- Stat records and how they are spelled (stat(5) of the Plan 9 manual).
use Rattle.std.specs.Prelude.{◌≡◌, ℕ, ◌+◌, ◌<◌, ◌^◌, List, [], ◌∷◌, length}
use Rattle.nine_fields.specs.Field.{Two, Four, Eight, Plain, Number, Text, Id, TextFits, stat_bytes, StatFits}
use Rattle.nine_stat.specs.declared.stat.Stat.{Stat}

-- the fields in their order
abbrev pub stat_fields : Stat → List Plain
stat_fields s = Number Two s.kind ∷ Number Four s.dev ∷ Id s.qid ∷ Number Four s.mode ∷ Number Four s.atime ∷ Number Four s.mtime ∷ Number Eight s.length ∷ Text s.name ∷ Text s.uid ∷ Text s.gid ∷ Text s.muid ∷ []

-- size[2] and the fields
unfoldable pub spelling : Stat → List ℕ
spelling s = stat_bytes (stat_fields s)

-- What a stat needs beyond its types to have a spelling.
pub record IsSpellable (s : Stat) : Type 0 where
  pub name_fits : TextFits s.name
  pub uid_fits : TextFits s.uid
  pub gid_fits : TextFits s.gid
  pub muid_fits : TextFits s.muid
  pub size_fits : 47 + length s.name + length s.uid + length s.gid + length s.muid < 2 ^ 16

-- The bytes are the record that says this.
pub record IsRecord (bytes : List ℕ) (s : Stat) : Type 0 where
  pub spelled : bytes ≡ spelling s
  pub fits : StatFits (stat_fields s)
