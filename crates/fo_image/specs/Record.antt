-- Records and root blocks, each by its fields in their order and the condition on its values.
use Rattle.std.specs.Prelude.{◌≡◌, ℕ, ◌+◌, ◌^◌, ◌<◌, ◌≤◌, ◌↔◌, List, [], ◌∷◌, ◌++◌, length, codes, Result, IfOk, IfErr, MatchResult}
use Rattle.fo_base.specs.Text.{IsText}
use Rattle.fo_image.specs.declared.types.Bad.TheVariants as bad
use Rattle.fo_image.specs.declared.record.Record.{Record}
use Rattle.fo_image.specs.declared.record.RootBlock.{RootBlock}
use Rattle.fo_image.specs.declared.record.RecordError.{RecordError}
use Rattle.fo_image.specs.declared.record.RecordError.TheVariants as why
use Rattle.fo_image.specs.Field.{Two, Four, Field, Number, Fixed, Text, Spells}
use Rattle.fo_image.specs.Format.{IsEpoch, EntryHolds, entry_fields}

-- UTF-8 without NUL, of one byte up to so many
pub record IsTextWithin (limit : ℕ) (bytes : List ℕ) : Type 0 where
  pub some : 1 ≤ length bytes
  pub within : length bytes ≤ limit
  pub is_text : IsText bytes

pub record RecordHolds (r : Record) : Type 0 where
  pub name_is : IsTextWithin 255 r.name
  pub uid_is : IsTextWithin 64 r.uid
  pub gid_is : IsTextWithin 64 r.gid
  pub muid_is : IsTextWithin 64 r.muid

-- how many bytes the whole record takes
abbrev pub record_len : Record → ℕ
record_len r = 34 + length r.name + length r.uid + length r.gid + length r.muid

abbrev pub record_fields : Record → List Field
record_fields r =
    Number Two (record_len r) ∷ Number Four r.number ∷ Number Four r.slot ∷ Number Four r.generation ∷ Number Four r.vers ∷ Number Four r.mode ∷ Number Four r.atime ∷ Number Four r.mtime
    ∷ Text r.name ∷ Text r.uid ∷ Text r.gid ∷ Text r.muid ∷ []

abbrev pub SpellsRecord : Record → List ℕ → Type 0
SpellsRecord r bytes = Spells (record_len r) record_fields RecordHolds r bytes

-- the record of a root directory: its name is `/`, and it has no number, slot or generation
pub record RootRecordHolds (r : Record) : Type 0 where
  pub holds : RecordHolds r
  pub name_is : r.name ≡ codes "/"
  pub number_is : r.number ≡ 0
  pub slot_is : r.slot ≡ 0
  pub generation_is : r.generation ≡ 0

-- The epochs are below 2^31. A root has both the epoch and the address of the root before it, or neither.
pub record RootHolds (r : RootBlock) : Type 0 where
  pub epoch_is : IsEpoch r.epoch
  pub prev_epoch_is : r.prev_epoch < 2 ^ 31
  pub prev_is : (r.prev_epoch ≡ 0) ↔ (r.prev ≡ 0)
  pub entries_hold : EntryHolds r.entries
  pub meta_holds : EntryHolds r.meta
  pub own_holds : RootRecordHolds r.own

abbrev pub root_head : ℕ → ℕ → ℕ → ℕ → List Field
root_head epoch time prev_epoch prev = Fixed 8 (codes "FOSSILRT") ∷ Number Four epoch ∷ Number Four time ∷ Number Four prev_epoch ∷ Number Four prev ∷ []

abbrev pub root_fields : RootBlock → List Field
root_fields r = root_head r.epoch r.time r.prev_epoch r.prev ++ (entry_fields r.entries ++ (entry_fields r.meta ++ record_fields r.own))

abbrev pub SpellsRoot : RootBlock → List ℕ → Type 0
SpellsRoot = Spells 8192 root_fields RootHolds

-- What a call that reads and takes memory answers: the one value that the bytes spell; the refusal exactly where they spell none; or want of memory.
abbrev pub RefusedBy : {V : Type 0} → (V → Type 0) → RecordError → Type 0
RefusedBy {V} Spelled (why.Bad b) = (b ≡ bad.Entry) × ((value : V) → ¬ Spelled value)
RefusedBy Spelled why.Memory = Unit {0}

pub record ReadsInMemory {V : Type 0} (Spelled : V → Type 0) (result : Result V RecordError) : Type 0 where
  pub found : IfOk result Spelled
  pub only : (value : V) → Spelled value → MatchResult result (λ read. read ≡ value) (λ e. e ≡ why.Memory)
  pub refused : IfErr result (RefusedBy Spelled)
