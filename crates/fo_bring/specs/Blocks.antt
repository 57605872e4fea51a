-- What is asked of the bytes of a block before they are held.
use Rattle.std.specs.Prelude.{◌≡◌, ◌<◌, ◌≤◌, ℕ, zero, suc, List, drop, length}
use Rattle.fo_image.specs.declared.types.Kind.{Kind}
use Rattle.fo_image.specs.declared.types.Kind.TheVariants.{Data, Dir, Root}
use Rattle.fo_image.specs.declared.types.Pointer.TheVariants.{Local}
use Rattle.fo_buffers.specs.of_crash.Images.{target}
use Rattle.fo_buffers.specs.of_ports.Blocks.{AreZeros, IsFormed, Reads, ReadsSlots, slots_to}
use Rattle.fo_buffers.specs.of_slots.Read.{read}

-- the addresses of data blocks
abbrev pub IsData : ℕ → ℕ → ℕ → Type 0
IsData first count b = (first ≤ b) × (b < count)

-- Each slot leads to a data block, if to any.
pub record LeadsWithin (first count : ℕ) (kind : Kind) (bytes : List ℕ) : Type 0 where
  pub each : (j b : ℕ) → target ((read kind bytes).slot j) ≡ Local b → IsData first count b

-- behind pointers and entries there are zeros
abbrev pub HasZeros : Kind → List ℕ → Type 0
HasZeros (Data zero) bytes = Unit {0}
HasZeros (Data (suc level)) bytes = AreZeros (drop (slots_to (Data (suc level))) bytes)
HasZeros (Dir level) bytes = AreZeros (drop (slots_to (Dir level)) bytes)
HasZeros Root bytes = Unit {0}

-- These bytes of a block of this kind spell its slots, which lead to data blocks.
pub record Good (first count : ℕ) (kind : Kind) (bytes : List ℕ) : Type 0 where
  pub long : length bytes ≡ 8192
  pub slots : ReadsSlots kind (read kind bytes) bytes
  pub within : LeadsWithin first count kind bytes
  pub zeros : HasZeros kind bytes

-- What `get` answers of a block of these bytes.
pub record Gets (kind : Kind) (rank : ℕ) (bytes into : List ℕ) : Type 0 where
  pub reads : Reads kind (read kind bytes) into
  pub slots : ReadsSlots kind (read kind bytes) into
  pub formed : IsFormed kind rank into
  pub same : into ≡ bytes
