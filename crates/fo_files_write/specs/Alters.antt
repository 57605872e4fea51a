-- What a change of one source leaves, which may settle.
use Rattle.std.specs.Prelude.{◌≡◌, ◌≢◌, ◌⊎◌, ◌+◌, ◌≤◌, ℕ}
use Rattle.fo_image.specs.declared.types.Kind.{Kind}
use Rattle.fo_image.specs.declared.types.Kind.TheVariants.{Data}
use Rattle.fo_ports.specs.State.{State, StaysKnown, KeepsSlot, KeepsNumbers, AddsNoWait, none}
use Rattle.fo_ports.specs.Sources.{Made}

-- the kinds of blocks of a source of data that are no leaves, and all kinds
abbrev pub is_above : Kind → Type 0
is_above kind = kind ≢ Data 0

abbrev pub any_kind : Kind → Type 0
any_kind kind = Unit {0}

-- A block that may have been put into: the one with the source's entry, or one of the current epoch, of the source's tag, and of such a kind.
abbrev pub MayChange : (at tag : ℕ) → (Kind → Type 0) → State → ℕ → Type 0
MayChange at tag kinds s b = (b ≡ at) ⊎ (((s.label b).epoch ≡ s.high) × ((s.label b).tag ≡ tag) × kinds (s.label b).kind)

-- A block keeps its label, stays pinned, and stays sealed.
pub record StaysAsIs (s u : State) (b : ℕ) : Type 0 where
  pub label : u.label b ≡ s.label b
  pub is_pinned : s.pinned b → u.pinned b
  pub still_sealed : s.sealed b → u.sealed b

-- A source of this tag was changed, whose entry stands in slot j of block `at`, and all may have been settled in between. Blocks were given out;
-- a pinned one that may not have been put into has what it had, but for slots that waited to be cleared and were; and so has block `at`, but
-- for slot j.
pub record Alters (at j tag : ℕ) (kinds : Kind → Type 0) (s u : State) : Type 0 where
  pub made : (b : ℕ) → Made s u b → (b ≢ 1) × ((u.label b).epoch ≡ s.high) × ((u.label b).tag ≡ tag) × u.pinned b
  pub others : (b : ℕ) → (Made s u b → ⊥) → StaysAsIs s u b
  pub memory : (b : ℕ) → s.pinned b → (Made s u b → ⊥) → (MayChange at tag kinds s b → ⊥) → StaysKnown s u b
  pub beside : (k : ℕ) → k ≢ j → KeepsSlot s u at k
  pub bytes : (u.now at).bytes ≡ (s.now at).bytes
  pub no_wait : AddsNoWait none s u
  pub clearing : (b k : ℕ) → u.clearing b k → (Made s u b → ⊥) × s.clearing b k
  pub usable : s.usable + u.spare ≤ u.usable + s.spare
  pub numbers : KeepsNumbers s u
