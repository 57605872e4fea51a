-- Flags of blocks, and what they say of the device.
use Rattle.std.specs.Prelude.{◌≡◌, ◌<◌, ◌&&◌, not, ℕ, Bool, true, false, cond, nat_eq, List, length, slice_index_or, Result, is_err}
use Rattle.fo_disk.specs.Disk.{versions_of, latest_of, IsSettled}
use Rattle.fo_disk.specs.Disk.{Content as Holds}
use Rattle.fo_cells.specs.Device.{Mind}

pub record Flags : Type 0 where
  -- to be written
  pub dirty : ℕ → Bool
  -- written since it was settled, and the last write answered Ok; or it failed
  pub wrote : ℕ → Bool
  pub failed : ℕ → Bool

-- a block was written with this answer, with all that memory has or not
abbrev pub marked : ℕ → Bool → Bool → Flags → Flags
marked at ok is_complete f = record {
  dirty = λ b. cond (nat_eq b at) (not (ok && is_complete)) (f.dirty b);
  wrote = λ b. cond (nat_eq b at) ok (f.wrote b);
  failed = λ b. cond (nat_eq b at) (not ok) (f.failed b);
}

-- a sync was answered
abbrev pub after_sync_flags : {E : Type 0} → Result Unit E → Flags → Flags
after_sync_flags result f = cond (is_err result) f (record f { wrote = λ b. false })

-- What is not dirty stands as the last version; what has no flag of a write has one version; the last write of what counts as written
-- answered Ok.
pub record FlagsFit (m : Mind) (f : Flags) (unsure : List Bool) (holds : Holds) : Type 0 where
  pub clean : (b : ℕ) → b < length holds → f.dirty b ≡ false → m.read b (latest_of (versions_of holds b)) ≡ m.memory b
  pub settled : (b : ℕ) → b < length holds → f.wrote b ≡ false → f.failed b ≡ false → IsSettled holds b
  pub sure : (b : ℕ) → f.wrote b ≡ true → slice_index_or unsure b false ≡ false
  pub some : (b : ℕ) → b < length holds → 0 < length (versions_of holds b)

-- A block has no flag.
pub record IsUnmarked (f : Flags) (b : ℕ) : Type 0 where
  pub clean : f.dirty b ≡ false
  pub unwritten : f.wrote b ≡ false
  pub sound : f.failed b ≡ false

-- Where a block of labels is not dirty, its last version has each label as memory has it.
pub record LabelsFit (m : Mind) (f : Flags) (holds : Holds) : Type 0 where
  pub clean : (t : ℕ) → m.label_block t < length holds → f.dirty (m.label_block t) ≡ false → m.label_in t (latest_of (versions_of holds (m.label_block t))) ≡ m.label t
