-- What is held of blocks, as memory.
use Rattle.std.specs.Prelude.{◌≡◌, ℕ, List, length, Some}
use Rattle.fo_buffers.specs.declared.block.Buffer.{Buffer}
use Rattle.fo_buffers.specs.Held.{Held, held_at}
use Rattle.fo_labels.specs.Region.{IsDataBlock, Region, label_of}
use Rattle.fo_buffers.specs.of_crash.Images.{Image}
use Rattle.fo_buffers.specs.of_ports.Blocks.{ReadsSlots}
use Rattle.fo_buffers.specs.of_slots.Read.{read}
use Rattle.fo_takeout.specs.declared.pair.Below.{Below}
use Rattle.fo_takeout.specs.Meeting.{IsContent}

-- A held block is a data block, with bytes that spell the slots of its label's kind.
pub record IsHeldGood (region : Region) (b : ℕ) (x : Buffer) : Type 0 where
  pub block : IsDataBlock region b
  pub long : length x.block ≡ 8192
  pub slots : ReadsSlots (label_of region b).kind (read (label_of region b).kind x.block) x.block

pub record AreGood (region : Region) (held : Held) : Type 0 where
  pub each : (b : ℕ) (x : Buffer) → held_at held b ≡ Some x → IsHeldGood region b x

-- It has of each held block what is held.
pub record Shows (now : Image) (region : Region) (held : Held) : Type 0 where
  pub each : (b : ℕ) (x : Buffer) → held_at held b ≡ Some x → now b ≡ read (label_of region b).kind x.block

-- The block is not held, or its label is of another kind.
abbrev pub IsMissing : Region → Held → Below → Type 0
IsMissing region held x = (y : Buffer) → held_at held x.at ≡ Some y → (label_of region x.at).kind ≡ x.kind → ⊥

-- These are the bytes that are held of the block, of its kind.
pub record IsHeldAs (region : Region) (h : Held) (x : Below) (bytes : List ℕ) : Type 0 where
  pub content : IsContent x bytes
  pub buffer : Buffer
  pub held : held_at h x.at ≡ Some buffer
  pub bytes_are : buffer.block ≡ bytes
  pub kind : (label_of region x.at).kind ≡ x.kind
