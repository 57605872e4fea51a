-- What a change of one directory leaves of all blocks.
use Rattle.std.specs.Prelude.{◌≡◌, ◌≢◌, ◌⊎◌, ◌+◌, ◌≤◌, ℕ}
use Rattle.fo_image.specs.declared.types.Label.{Label}
use Rattle.fo_image.specs.declared.types.Entry.{Entry}
use Rattle.fo_crash.specs.declared.slot.Slot.TheVariants.{Entry as Head}
use Rattle.fo_ports.specs.State.{State, KeepsSlot, KeepsNumbers, StaysKnown}
use Rattle.fo_ports.specs.Sources.{Made}

-- A block that may have been put into: that with the entries, one of the current epoch with a label of these, or one of these.
abbrev pub MayPut : (at : ℕ) (puts : Label → Type 0) (but : ℕ → Type 0) → State → ℕ → Type 0
MayPut at puts but s b = (b ≡ at) ⊎ ((((s.label b).epoch ≡ s.high) × puts (s.label b)) ⊎ but b)

-- An entry is of the use that it was of.
abbrev pub KeepsUse : State → State → (at k : ℕ) → Type 0
KeepsUse s u at k = (e : Entry) → (s.now at).slot k ≡ Head e → (f : Entry) × ((u.now at).slot k ≡ Head f) × (f.generation ≡ e.generation) × (f.active ≡ e.active) × (f.dir ≡ e.dir) × (f.tag ≡ e.tag)

-- Blocks were looked at; blocks of sources of these tags were given out; and blocks were put into, of the current epoch with labels of these,
-- some leaves, and these slots of block `at`, whose entries stay of their use. All else stays that was pinned, but that slots that waited to
-- be cleared may have been: a settling may have come in between. As many blocks fewer are usable at most as may be made.
pub record Alters (at : ℕ) (slots tags : ℕ → Type 0) (puts : Label → Type 0) (but : ℕ → Type 0) (s u : State) : Type 0 where
  pub labels : (b : ℕ) → (Made s u b → ⊥) → u.label b ≡ s.label b
  pub marks : (b : ℕ) → (Made s u b → ⊥) → (s.pinned b → u.pinned b) × (s.sealed b → u.sealed b)
  pub made : (b : ℕ) → Made s u b → (b ≢ 1) × ((u.label b).epoch ≡ s.high) × tags (u.label b).tag × u.pinned b
  pub known : (b : ℕ) → s.pinned b → (Made s u b → ⊥) → (MayPut at puts but s b → ⊥) → StaysKnown s u b
  pub bytes : (u.now at).bytes ≡ (s.now at).bytes
  pub others : (k : ℕ) → (slots k → ⊥) → KeepsSlot s u at k
  pub uses : (k : ℕ) → (s.clearing at k → ⊥) → KeepsUse s u at k
  pub clearing : (b j : ℕ) → u.clearing b j → (Made s u b → ⊥) × s.clearing b j
  pub usable : s.usable + u.spare ≤ u.usable + s.spare
  pub numbers : KeepsNumbers s u
