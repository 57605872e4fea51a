-- Slots that may not be put.
use Rattle.std.specs.Prelude.{◌≡◌, ◌≢◌, ◌<◌, ℕ}
use Rattle.fo_image.specs.declared.types.Pointer.TheVariants.{Nil, Local}
use Rattle.fo_crash.specs.declared.slot.Slot.{Slot}
use Rattle.fo_crash.specs.Images.{Reaches, depth_of, target, to_block}
use Rattle.fo_ports.specs.Blocks.{IsInner}
use Rattle.fo_ports.specs.State.{State, IsHeld, MayPutSlot, MayRemoveSlot}

-- A slot that leads nowhere isn't led to a block that hangs from block 1, but slot 0 of a new block of pointers: a new top is raised over it.
pub record LinksOnce (s : State) : Type 0 where
  pub each : (at i b : ℕ) (slot : Slot) → target ((s.now at).slot i) ≡ Nil → target slot ≡ Local b → Reaches s.now (to_block 1) b → (IsInner (s.label at).kind → s.apart at → ⊥) → MayPutSlot s at i slot → ⊥

-- A slot that leads nowhere isn't led to a block that hangs from made blocks alone, below the one that is apart.
pub record RaisesOnce (s : State) : Type 0 where
  pub each : (at i b : ℕ) (slot : Slot) → target ((s.now at).slot i) ≡ Nil → target slot ≡ Local b → (s.apart b → ⊥) → (Reaches s.now (to_block 1) b → ⊥) → MayPutSlot s at i slot → ⊥

-- Slot 0 of a block of pointers leads to a block if it led to one, and isn't cleared.
pub record KeepsFirst (s : State) : Type 0 where
  pub put : (at x : ℕ) (slot : Slot) → IsInner (s.label at).kind → target ((s.now at).slot 0) ≡ Local x → ((b : ℕ) → target slot ≢ Local b) → MayPutSlot s at 0 slot → ⊥
  pub cleared : (at : ℕ) → IsInner (s.label at).kind → MayRemoveSlot s at 0 → ⊥

-- What is to be closed is put nowhere, and nothing is put into it or cleared in it.
pub record KeepsOutClosed (s : State) : Type 0 where
  pub put : (at i b : ℕ) (slot : Slot) → target slot ≡ Local b → s.covered b → MayPutSlot s at i slot → ⊥
  pub into : (at i : ℕ) (slot : Slot) → s.covered at → MayPutSlot s at i slot → ⊥
  pub cleared : (at i : ℕ) → s.covered at → MayRemoveSlot s at i → ⊥

-- Nothing is put into a block, or cleared in it, that hangs from no block that is apart and not from block 1.
pub record KeepsInTree (s : State) : Type 0 where
  pub put : (at i : ℕ) (slot : Slot) → (IsHeld s at → ⊥) → MayPutSlot s at i slot → ⊥
  pub cleared : (at i : ℕ) → (IsHeld s at → ⊥) → MayRemoveSlot s at i → ⊥

-- A slot that leads to a block that doesn't hang from block 1 leads there still, and isn't cleared.
pub record LetsNoneGo (s : State) : Type 0 where
  pub put : (at i c : ℕ) (slot : Slot) → target ((s.now at).slot i) ≡ Local c → (Reaches s.now (to_block 1) c → ⊥) → target slot ≢ Local c → MayPutSlot s at i slot → ⊥
  pub cleared : (at i c : ℕ) → target ((s.now at).slot i) ≡ Local c → (Reaches s.now (to_block 1) c → ⊥) → MayRemoveSlot s at i → ⊥

-- Nothing leaves that a made block is to come in the place of, unless it comes with the slot that is put.
pub record KeepsCopies (s : State) : Type 0 where
  pub put : (at i y x : ℕ) (slot : Slot) → s.instead y x → Reaches s.now ((s.now at).slot i) x → (Reaches s.now slot x → ⊥) → (Reaches s.now slot y → ⊥) → MayPutSlot s at i slot → ⊥
  pub cleared : (at i y x : ℕ) → s.instead y x → Reaches s.now ((s.now at).slot i) x → MayRemoveSlot s at i → ⊥

-- Nothing is cut in a block that doesn't hang from block 1: no slot of it that leads to a block is led to none or cleared, no source
-- loses levels there, and no entry is led from a block to another.
pub record CutsInTree (s : State) : Type 0 where
  pub put : (at i c : ℕ) (slot : Slot) → target ((s.now at).slot i) ≡ Local c → ((b : ℕ) → target slot ≢ Local b) → (Reaches s.now (to_block 1) at → ⊥) → MayPutSlot s at i slot → ⊥
  pub entries : (at i c : ℕ) (slot : Slot) → (IsInner (s.label at).kind → ⊥) → target ((s.now at).slot i) ≡ Local c → target slot ≢ Local c → (Reaches s.now (to_block 1) at → ⊥) → MayPutSlot s at i slot → ⊥
  pub levels : (at i : ℕ) (slot : Slot) → depth_of slot < depth_of ((s.now at).slot i) → (Reaches s.now (to_block 1) at → ⊥) → MayPutSlot s at i slot → ⊥
  pub cleared : (at i c : ℕ) → target ((s.now at).slot i) ≡ Local c → (Reaches s.now (to_block 1) at → ⊥) → MayRemoveSlot s at i → ⊥
