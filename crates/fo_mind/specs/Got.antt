-- What `get` answers.
use Rattle.std.specs.Prelude.{◌≡◌, ℕ, List, Option, Some, None}
use Rattle.fo_disk.specs.Disk.{Content as Holds}
use Rattle.fo_image.specs.declared.types.Kind.{Kind}
use Rattle.fo_image.specs.declared.types.Pointer.TheVariants.{Local}
use Rattle.fo_buffers.specs.declared.block.Buffer.{Buffer}
use Rattle.fo_buffers.specs.Held.{Held, held_at}
use Rattle.fo_crash.specs.Images.{target}
use Rattle.fo_ports.specs.Blocks.{IsFormed, Reads, ReadsSlots}
use Rattle.fo_bring.specs.Blocks.{IsData}
use Rattle.fo_bring.specs.Holds.{IsFrom, StaysClean}
use Rattle.fo_mind.specs.Parts.{Parts, memory}

-- The bytes of a block as memory has it, of its format, with slots that lead to data blocks.
pub record Got (first count : ℕ) (kind : Kind) (rank : ℕ) (p : Parts) (at : ℕ) (into : List ℕ) : Type 0 where
  pub reads : Reads kind (memory p at) into
  pub slots : ReadsSlots kind (memory p at) into
  pub formed : IsFormed kind rank into
  pub names : (i below : ℕ) → target ((memory p at).slot i) ≡ Local below → IsData first count below

-- These bytes are held.
abbrev pub IsHeldAs : Option Buffer → List ℕ → Type 0
IsHeldAs None bytes = ⊥
IsHeldAs (Some x) bytes = bytes ≡ x.block

-- What is held now was held, else clean, else is one of the versions of the device.
abbrev pub IsSource : Holds → ℕ → Held → Option Buffer → Type 0
IsSource disk at old None = ⊥
IsSource disk at old (Some y) = IsFrom disk at old y.block

-- What is held of a block now was held with these bytes, else it was clean with them, else they are one of the versions of the device.
-- What is clean of any block was clean, or is one of the versions.
pub record ComesFrom (disk : Holds) (at : ℕ) (old new : Held) : Type 0 where
  pub held : (x : Buffer) → held_at new at ≡ Some x → IsFrom disk at old x.block
  pub clean : StaysClean disk old new
