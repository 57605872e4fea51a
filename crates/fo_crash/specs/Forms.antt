-- The images of a cache, read off what it has: the versions on the disk, memory, and what waits.
use Rattle.std.specs.Prelude.{◌≡◌, ◌⊎◌, ℕ, Bool, true, false, List}
use Rattle.fo_crash.specs.declared.slot.Slot.{Slot}
use Rattle.fo_crash.specs.Images.{Image}
use Rattle.fo_crash.specs.Steps.{cleared}
use Rattle.fo_crash.specs.Names.{SameUse}

pub record Waiting : Type 1 where
  -- slot i of a version of a block, and the bytes of a version
  pub SlotOnDisk : ℕ → ℕ → Slot → Type 0
  pub BytesOnDisk : ℕ → List ℕ → Type 0
  -- Waits leaf on j: the leaf is not written before slot j of `on` is settled in the use that memory has
  pub Waits : ℕ → ℕ → ℕ → Type 0
  -- Clearing at i leaf: the slot is cleared when the leaf is settled; BytesSince at i leaf: bytes of the leaf written since
  pub Clearing : ℕ → ℕ → ℕ → Type 0
  pub BytesSince : ℕ → ℕ → ℕ → List ℕ → Type 0

-- In this image a slot that waits for a leaf is cleared, and the leaf is that of memory, or was written since it waits.
-- `fresh` says of which blocks the bytes are those of memory.
pub record IsCleared (memory : Image) (w : Waiting) (image : Image) (fresh : ℕ → Bool) (b i : ℕ) : Type 0 where
  pub leaf : ℕ
  pub waits : w.Clearing b i leaf
  pub slot : (image b).slot i ≡ cleared ((memory b).slot i)
  pub since : (fresh leaf ≡ true) ⊎ ((fresh leaf ≡ false) × w.BytesSince b i leaf ((image leaf).bytes))

-- An image: of each block the bytes of a version or those of memory, and of each slot one on the disk, that of memory, or the
-- cleared one. A leaf has the bytes of memory only with each entry for which it waits in the use that memory has, or cleared.
pub record MayLeave (memory : Image) (w : Waiting) (image : Image) : Type 0 where
  pub fresh : ℕ → Bool
  pub slots : (b i : ℕ) → w.SlotOnDisk b i ((image b).slot i) ⊎ (((image b).slot i ≡ (memory b).slot i) ⊎ IsCleared memory w image fresh b i)
  pub old_bytes : (b : ℕ) → fresh b ≡ false → w.BytesOnDisk b ((image b).bytes)
  pub new_bytes : (b : ℕ) → fresh b ≡ true → (image b).bytes ≡ (memory b).bytes
  pub used : (b on j : ℕ) → fresh b ≡ true → w.Waits b on j → SameUse ((image on).slot j) ((memory on).slot j) ⊎ IsCleared memory w image fresh on j

-- A block was written with what memory has, or with some slots as they were on the disk; what it waited for is over.
pub record Written (at : ℕ) (memory : Image) (old new : Waiting) : Type 0 where
  pub slots : (b i : ℕ) (s : Slot) → new.SlotOnDisk b i s → old.SlotOnDisk b i s ⊎ ((b ≡ at) × (s ≡ (memory at).slot i))
  pub bytes : (b : ℕ) (bytes : List ℕ) → new.BytesOnDisk b bytes → old.BytesOnDisk b bytes ⊎ ((b ≡ at) × (bytes ≡ (memory at).bytes))
  pub over : (on j : ℕ) → old.Waits at on j → (s : Slot) → old.SlotOnDisk on j s → SameUse s ((memory on).slot j)
  pub waits : (leaf on j : ℕ) → old.Waits leaf on j → new.Waits leaf on j
  pub clearing : (b i leaf : ℕ) → new.Clearing b i leaf → old.Clearing b i leaf
  pub since : (b i leaf : ℕ) (bytes : List ℕ) → new.BytesSince b i leaf bytes → old.BytesSince b i leaf bytes ⊎ ((leaf ≡ at) × (bytes ≡ (memory at).bytes))

-- A slot begins to wait for a leaf. What was written of the leaf since is what memory has of it.
pub record Begins (at i leaf : ℕ) (memory : Image) (old new : Waiting) : Type 0 where
  pub slots : (b j : ℕ) (s : Slot) → new.SlotOnDisk b j s → old.SlotOnDisk b j s
  pub bytes : (b : ℕ) (bytes : List ℕ) → new.BytesOnDisk b bytes → old.BytesOnDisk b bytes
  pub waits : (a on j : ℕ) → old.Waits a on j → new.Waits a on j
  pub clearing : (b j l : ℕ) → new.Clearing b j l → old.Clearing b j l ⊎ ((b ≡ at) × (j ≡ i) × (l ≡ leaf))
  pub none : (l : ℕ) → old.Clearing at i l → ⊥
  pub since : (b j l : ℕ) (bytes : List ℕ) → old.Clearing b j l → new.BytesSince b j l bytes → old.BytesSince b j l bytes
  pub begins : (bytes : List ℕ) → new.BytesSince at i leaf bytes → bytes ≡ (memory leaf).bytes
