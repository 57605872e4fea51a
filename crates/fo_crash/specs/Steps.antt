-- What one call does to memory, and what it adds to the images that a crash may leave, now or after whatever is flushed later.
use Rattle.std.specs.Prelude.{◌≡◌, ◌≢◌, ◌⊎◌, ◌<◌, ◌≤◌, ℕ, List, ◌∷◌, ◌++◌, false}
use Rattle.fo_image.specs.declared.types.Pointer.TheVariants.{Nil, Local}
use Rattle.fo_crash.specs.declared.slot.Slot.{Slot}
use Rattle.fo_crash.specs.declared.slot.Slot.TheVariants.{Pointer as To, Entry as Head, Prev}
use Rattle.fo_crash.specs.Images.{Content, Image, SameContent, SameImage, Reaches, target, walk, to_block, with_slot, with_bytes, with_block}

-- In memory this slot is put, and all else stays.
pub record PutsSlot (at i : ℕ) (s : Slot) (old new : Image) : Type 0 where
  pub bytes : (b : ℕ) → (new b).bytes ≡ (old b).bytes
  pub here : (new at).slot i ≡ s
  pub others : (b j : ℕ) → (b ≢ at) ⊎ (j ≢ i) → (new b).slot j ≡ (old b).slot j

-- In memory these bytes are put, and all else stays.
pub record PutsBytes (at : ℕ) (bytes : List ℕ) (old new : Image) : Type 0 where
  pub slots : (b j : ℕ) → (new b).slot j ≡ (old b).slot j
  pub here : (new at).bytes ≡ bytes
  pub others : (b : ℕ) → b ≢ at → (new b).bytes ≡ (old b).bytes

-- In memory this block is new, and all else stays.
pub record PutsBlock (at : ℕ) (c : Content) (old new : Image) : Type 0 where
  pub here : SameContent (new at) c
  pub others : (b : ℕ) → b ≢ at → SameContent (new b) (old b)

-- a cleared slot, which keeps its generation alone
abbrev pub cleared : Slot → Slot
cleared (Head e) = Head (record { generation = e.generation; active = false; dir = false; depth = 0; tag = 0; size = 0; top = Nil })
cleared (To p) = To Nil
cleared (Prev epoch at) = Prev 0 0

-- In memory some slots that waited for it are cleared, and all else stays.
pub record Clears (waiting : ℕ → ℕ → Type 0) (old new : Image) : Type 0 where
  pub bytes : (b : ℕ) → (new b).bytes ≡ (old b).bytes
  pub slots : (b j : ℕ) → ((new b).slot j ≡ (old b).slot j) ⊎ (waiting b j × ((new b).slot j ≡ cleared ((old b).slot j)))

-- An image is another one, but for slots that were cleared: some of these slots are as memory had them cleared.
pub record IsCleared (slots : ℕ → ℕ → Type 0) (now image other : Image) : Type 0 where
  pub bytes : (b : ℕ) → (other b).bytes ≡ (image b).bytes
  pub each : (b j : ℕ) → ((other b).slot j ≡ (image b).slot j) ⊎ (slots b j × ((other b).slot j ≡ cleared ((now b).slot j)))

-- Slots that waited were cleared: each image that is left would be one of before with any of them cleared, so none is left in which a
-- record still names one.
pub record Fills (slots : ℕ → ℕ → Type 0) (now : Image) (old new : Image → Type 0) : Type 0 where
  pub each : (image other : Image) → new image → IsCleared slots now image other → old other

-- Every image has the bytes of this block as memory has them.
pub record HasBytes (now : Image) (at : ℕ) (images : Image → Type 0) : Type 0 where
  pub each : (image : Image) → images image → (image at).bytes ≡ (now at).bytes

-- No image was added.
pub record AddsNothing (old new : Image → Type 0) : Type 0 where
  pub each : (image : Image) → new image → old image

-- A slot was put: each new image is one of before, or it has this slot and would be one of before with what memory had in its
-- place. `beside` says what else an image with the slot has.
pub record AddsSlot (now : Image) (at i : ℕ) (s : Slot) (beside : Image → Type 0) (old new : Image → Type 0) : Type 0 where
  pub each : (image : Image) → new image → old image ⊎ (((image at).slot i ≡ s) × old (with_slot image at i ((now at).slot i)) × beside image)

-- Bytes were put: the same for the bytes of a block.
pub record AddsBytes (now : Image) (at : ℕ) (bytes : List ℕ) (beside : Image → Type 0) (old new : Image → Type 0) : Type 0 where
  pub each : (image : Image) → new image → old image ⊎ (((image at).bytes ≡ bytes) × old (with_bytes image at ((now at).bytes)) × beside image)

-- A block was given out: no path from a top leads to it in any image, each image has in it what it was given out with, and would
-- be one of before with another content of that block.
pub record AddsBlock (tops : ℕ → Type 0) (at : ℕ) (c : Content) (old new : Image → Type 0) : Type 0 where
  pub apart : (image : Image) → new image → (t : ℕ) → tops t → Reaches image (to_block t) at → ⊥
  pub holds : (image : Image) → new image → SameContent (image at) c
  pub before : (image : Image) → new image → (d : Content) × old (with_block image at d)

-- The super block was written, or tried: each new image is one of before, or would be one with the super block of memory.
pub record AddsSuper (now : Image) (beside : Image → Type 0) (old new : Image → Type 0) : Type 0 where
  pub each : (image : Image) → new image → old image ⊎ (old (with_block image 1 (now 1)) × beside image)

-- In every image this block holds what memory has.
pub record IsSure (now : Image) (at : ℕ) (images : Image → Type 0) : Type 0 where
  pub each : (image : Image) → images image → SameContent (image at) (now at)

-- Every image is what memory has.
pub record AllAre (now : Image) (images : Image → Type 0) : Type 0 where
  pub each : (image : Image) → images image → SameImage image now

-- In every image the super block is that of memory or the doubt: the one that was last tried, and is not known to be settled or
-- overruled.
pub record HasSuper (now : Image) (doubt : Content → Type 0) (images : Image → Type 0) : Type 0 where
  pub each : (image : Image) → images image → SameContent (image 1) (now 1) ⊎ ((c : Content) × doubt c × SameContent (image 1) c)

-- This slot leads below it only to blocks of which this holds, in memory.
pub record Brings (now : Image) (s : Slot) (P : ℕ → Type 0) : Type 0 where
  pub each : (b : ℕ) → Reaches now s b → P b

-- A path leads from a slot to a block, through blocks of this sort alone.
pub record Through (on : ℕ → Type 0) (now : Image) (s : Slot) (b : ℕ) : Type 0 where
  pub path : List ℕ
  pub leads : target (walk now s path) ≡ Local b
  pub within : (front : List ℕ) (i : ℕ) (rest : List ℕ) (x : ℕ) → path ≡ front ++ (i ∷ rest) → target (walk now s front) ≡ Local x → on x

-- A slot that was `s` was put or cleared: what hung below it through blocks of pointers and hangs from block 1 no more is to be closed,
-- and so is what was; no other block is that did not hang from this slot. (A removal follows no entry: what hangs from an entry of a leaf
-- that leaves is closed with that entry, or was named by nobody.)
pub record Covers (inner : ℕ → Type 0) (s : Slot) (old_now new_now : Image) (old new : ℕ → Type 0) : Type 0 where
  pub leaves : (b : ℕ) → Through inner old_now s b → Reaches old_now (to_block 1) b → (Reaches new_now (to_block 1) b → ⊥) → new b
  pub still : (b : ℕ) → old b → new b
  pub only : (b : ℕ) → (old b → ⊥) → (Reaches old_now s b → ⊥) → new b → ⊥

-- The image is the same as another in each block that a path from these tops reaches in it.
pub record SameFrom (tops : ℕ → Type 0) (image other : Image) : Type 0 where
  pub each : (t b : ℕ) → tops t → Reaches image (to_block t) b → SameContent (image b) (other b)

-- An image is one of these, as far as paths from these tops lead.
pub record IsOneOf (tops : ℕ → Type 0) (images : Image → Type 0) (image : Image) : Type 0 where
  pub other : Image
  pub is : images other
  pub same : SameFrom tops image other

-- Moments pass: what came before stays, and every image of a moment within is one of these, as far as paths from the tops lead.
pub record Passes (tops : ℕ → Type 0) (images : Image → Type 0) (first last : ℕ) (old new : ℕ → Image → Type 0) : Type 0 where
  pub later : first ≤ last
  pub before : (k : ℕ) (image : Image) → k ≤ first → new k image → old k image
  pub within : (k : ℕ) (image : Image) → first < k → k ≤ last → new k image → IsOneOf tops images image

-- P says nothing of blocks that no path from the tops reaches.
pub record Respects (tops : ℕ → Type 0) (P : Image → Type 0) : Type 0 where
  pub each : (image other : Image) → SameFrom tops image other → P other → P image

-- Every image of every moment of a stretch has P.
pub record Throughout (P : Image → Type 0) (first last : ℕ) (left : ℕ → Image → Type 0) : Type 0 where
  pub each : (k : ℕ) (image : Image) → first < k → k ≤ last → left k image → P image
