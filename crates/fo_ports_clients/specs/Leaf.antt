-- A leaf of names in small: byte i is the generation of the entry that name i has, or 0 where there is no such name.
use Rattle.std.specs.Prelude.{◌≡◌, ◌≢◌, ◌↔◌, ◌+◌, ◌%◌, ◌<◌, ℕ, List, [], ◌∷◌, length, slice_index, true}
use Rattle.fo_image.specs.declared.types.Entry.{Entry}
use Rattle.fo_image.specs.declared.types.Kind.TheVariants.{Data, Dir}
use Rattle.fo_image.specs.declared.types.Pointer.TheVariants.{Nil}
use Rattle.fo_crash.specs.declared.place.Place.{Place}
use Rattle.fo_crash.specs.declared.slot.Slot.TheVariants.{Entry as Head}
use Rattle.fo_crash.specs.Names.{NamesFit, InAll, IsInUse}
use Rattle.fo_ports.specs.Blocks.{slot_count, SlotFits, put_at}
use Rattle.fo_ports.specs.State.{State, IsHeld, IsRooted}

abbrev pub Lists : List ℕ → ℕ → ℕ → Type 0
Lists bytes i generation = (slice_index bytes i ≡ generation) × (0 < generation)

-- Both blocks stand at places, one of a lower rank than the other.
pub record StandsBelow (stands : ℕ → Place → Type 0) (lower upper : ℕ) : Type 0 where
  pub lower_at : Place
  pub upper_at : Place
  pub lower_stands : stands lower lower_at
  pub upper_stands : stands upper upper_at
  pub falls : lower_at.rank < upper_at.rank

-- A name and its entry may be added once the leaf of names is sealed, where it hangs in memory: name i fits the entries, whose entry i is free, is the first of its
-- pair, and is to be one in use that names nothing yet.
pub record MayAddName (s : State) (leaf entries i : ℕ) (entry : Entry) (generation : ℕ) : Type 0 where
  pub fit : InAll (NamesFit Lists leaf entries) s.may_leave
  pub leaf_pinned : s.pinned leaf
  pub leaf_current : (s.label leaf).epoch ≡ s.high
  pub leaf_kind : (s.label leaf).kind ≡ Data 0
  pub leaf_long : length ((s.now leaf).bytes) ≡ 8192
  pub leaf_place : s.tells → (p : Place) → s.stands leaf p → (p.kind ≡ Data 0) × (p.rank % 32 ≢ 16)
  pub entries_pinned : s.pinned entries
  pub entries_current : (s.label entries).epoch ≡ s.high
  pub entries_kind : (s.label entries).kind ≡ Dir 0
  pub lower : s.tells → StandsBelow s.stands entries leaf
  pub uncovered : (s.covered leaf → ⊥) × (s.covered entries → ⊥)
  pub held : s.tells → IsHeld s entries × IsRooted s leaf
  pub first : i % 2 ≡ 0
  pub slots : i < slot_count (s.label entries).kind
  pub room : 0 < s.room
  pub free : (g : ℕ) → IsInUse ((s.now entries).slot i) g → ⊥
  pub settled : s.clearing entries i → ⊥
  pub spelled : SlotFits (s.label entries).kind i (Head entry)
  pub empty : entry.top ≡ Nil
  pub active : entry.active ≡ true
  pub same : entry.generation ≡ generation

-- Name i was added with its entry, and each name has its entry in use in every image.
pub record AddsName (leaf entries i : ℕ) (entry : Entry) (generation : ℕ) (old new : State) : Type 0 where
  pub fit : InAll (NamesFit Lists leaf entries) new.may_leave
  pub name : (new.now leaf).bytes ≡ put_at i (generation ∷ []) ((old.now leaf).bytes)
  pub entry_is : (new.now entries).slot i ≡ Head entry
  pub blocks : (b : ℕ) → (new.label b ≡ old.label b) × (old.pinned b → new.pinned b)
  pub order : (b j : ℕ) → new.clearing b j ↔ old.clearing b j
  pub usable : (new.spare ≡ old.spare) × (new.usable ≡ old.usable)
  pub place : old.tells → (p : Place) → old.stands leaf p → new.stands leaf p
  pub instead : (y x : ℕ) → new.instead y x → old.instead y x
  pub room : new.room + 1 ≡ old.room
