-- What a cache changes of what it keeps, as steps of what is known, over any device.
use Rattle.std.specs.Prelude.{◌≡◌, ◌≢◌, ◌⊎◌, ◌<◌, ℕ, true, false, List, length}
use Rattle.std.specs.List.{Contains}
use Rattle.fo_disk.specs.Disk.{Block, IsSettled}
use Rattle.fo_disk.specs.Disk.{Content as Holds}
use Rattle.fo_image.specs.declared.types.Label.{Label}
use Rattle.fo_image.specs.declared.types.Pointer.TheVariants.{Local}
use Rattle.fo_image.specs.Usable.{is_usable}
use Rattle.fo_crash.specs.declared.slot.Slot.{Slot}
use Rattle.fo_crash.specs.declared.place.Place.{Place}
use Rattle.fo_crash.specs.Images.{Content, target}
use Rattle.fo_crash.specs.Places.{place_below}
use Rattle.fo_crash.specs.Names.{SameUse}
use Rattle.fo_crash.specs.Steps.{PutsSlot, PutsBytes, PutsBlock, cleared}
use Rattle.fo_cells.specs.Known.{Top, IsWait, HasSlot, Stands, seen}
use Rattle.fo_cells.specs.Writes.{Puts, Gives, Fires, Ends}
use Rattle.fo_cells.specs.Calls.{PutsInto, Awaits, WaitsMore}
use Rattle.fo_cells.specs.Device.{Clearing, Mind, known}
use Rattle.fo_cells_queue.specs.Queue.{NewLabel}

-- The format stays, and what is known of writes.
pub record SameWrites (m n : Mind) : Type 0 where
  pub read : n.read ≡ m.read
  pub label_in : n.label_in ≡ m.label_in
  pub label_block : n.label_block ≡ m.label_block
  pub newborn : n.newborn ≡ m.newborn
  pub complete : n.complete ≡ m.complete
  pub low : n.low ≡ m.low

-- `put_bytes`: bytes alone change
pub record RefillsMind (at : ℕ) (bytes : List ℕ) (m n : Mind) : Type 0 where
  pub writes : SameWrites m n
  pub memory : PutsBytes at bytes m.memory n.memory
  pub tops : n.tops ≡ m.tops
  pub label : n.label ≡ m.label
  pub waits : n.waits ≡ m.waits
  pub clears : n.clears ≡ m.clears
  pub free : m.newborn at ≡ true → (on j : ℕ) → IsWait m.waits at on j → ⊥

abbrev pub BytesStep : Type 0
BytesStep = (at : ℕ) (bytes : List ℕ) (m n : Mind) (holds : Holds) → RefillsMind at bytes m n → PutsInto at bytes (known m holds) (known n holds)

-- `put_slot`, `remove_slot` at once: one slot changes, and tops become fewer
pub record PutsMind (at i : ℕ) (s : Slot) (m n : Mind) : Type 0 where
  pub writes : SameWrites m n
  pub memory : PutsSlot at i s m.memory n.memory
  pub tops : (t : Top) → Contains n.tops t → Contains m.tops t
  pub label : n.label ≡ m.label
  pub waits : n.waits ≡ m.waits
  pub clears : n.clears ≡ m.clears
  pub unclear : (k : Clearing) → Contains m.clears k → k.at ≡ at → k.slot ≡ i → ⊥
  pub same_use : (a : ℕ) → IsWait m.waits a at i → SameUse s ((m.memory at).slot i)
  pub free : m.newborn at ≡ true → (on j : ℕ) → IsWait m.waits at on j → ⊥

abbrev pub SlotStep : Type 0
SlotStep = (at i : ℕ) (s : Slot) (m n : Mind) (holds : Holds) → PutsMind at i s m n → ((p : Place) (b : ℕ) → Stands (known m holds) at p → target s ≡ Local b → Stands (known m holds) b (place_below p i s) × ((place_below p i s).rank < p.rank)) → Puts at i s (known m holds) (known n holds)

-- `remove_slot` that waits: one slot that waits more, whose leaf was not written since
pub record AwaitsMind (at i leaf : ℕ) (m n : Mind) : Type 0 where
  pub writes : SameWrites m n
  pub memory : n.memory ≡ m.memory
  pub tops : n.tops ≡ m.tops
  pub label : n.label ≡ m.label
  pub waits : n.waits ≡ m.waits
  pub none : (k : Clearing) → Contains m.clears k → k.at ≡ at → k.slot ≡ i → ⊥
  pub clears : (k : Clearing) → Contains n.clears k → Contains m.clears k ⊎ ((k.at ≡ at) × (k.slot ≡ i) × (k.leaf ≡ leaf) × (k.wrote ≡ false))

abbrev pub AwaitStep : Type 0
AwaitStep = (at i leaf : ℕ) (m n : Mind) (holds : Holds) → AwaitsMind at i leaf m n → Awaits at i leaf (known m holds) (known n holds)

-- waits alone change
pub record WaitsMind (m n : Mind) : Type 0 where
  pub writes : SameWrites m n
  pub memory : n.memory ≡ m.memory
  pub tops : n.tops ≡ m.tops
  pub label : n.label ≡ m.label
  pub clears : n.clears ≡ m.clears

abbrev pub WaitStep : Type 0
WaitStep = (m n : Mind) (holds : Holds) → WaitsMind m n → ((leaf on j : ℕ) → IsWait m.waits leaf on j → IsWait n.waits leaf on j) → WaitsMore (known m holds) (known n holds)

-- a wait ends where its slot is in the use of memory in all that may be on the device
abbrev pub EndStep : Type 0
EndStep = (m n : Mind) (holds : Holds) → WaitsMind m n → ((leaf on j : ℕ) → IsWait m.waits leaf on j → IsWait n.waits leaf on j ⊎ ((s : Slot) → HasSlot (seen (known m holds) on) j s → SameUse s ((m.memory on).slot j))) → Ends (known m holds) (known n holds)

-- A slot that waited is cleared: its leaf was written since, and is settled; whoever waited for the slot finds it in use.
pub record FiresMind (at i leaf : ℕ) (m n : Mind) : Type 0 where
  pub writes : SameWrites m n
  pub memory : PutsSlot at i (cleared ((m.memory at).slot i)) m.memory n.memory
  pub tops : n.tops ≡ m.tops
  pub label : n.label ≡ m.label
  pub settled : (m.newborn at ≡ false) × (m.newborn leaf ≡ false)
  pub waited : Clearing
  pub among : Contains m.clears waited
  pub is : (waited.at ≡ at) × (waited.slot ≡ i) × (waited.leaf ≡ leaf) × (waited.wrote ≡ true)
  pub clears : (k : Clearing) → Contains n.clears k → Contains m.clears k × ((k.at ≢ at) ⊎ (k.slot ≢ i))
  pub waits : (a on j : ℕ) → IsWait m.waits a on j → IsWait n.waits a on j ⊎ ((on ≡ at) × (j ≡ i))
  -- of the leaf the bytes that spell no slot are read as they are
  pub raw : (x : Block) → (m.read leaf x).bytes ≡ x

abbrev pub ClearingStep : Type 0
ClearingStep = (at i leaf : ℕ) (m n : Mind) (holds : Holds) → FiresMind at i leaf m n → IsSettled holds leaf → ((a : ℕ) → IsWait m.waits a at i → (s : Slot) → HasSlot (seen (known m holds) at) i s → SameUse s ((m.memory at).slot i)) → Fires at i leaf (known m holds) (known n holds)

-- `new_block`, `copy`: a block of the device is given out for this place
pub record GivesMind (at : ℕ) (content : Content) (p : Place) (m n : Mind) : Type 0 where
  pub read : n.read ≡ m.read
  pub label_in : n.label_in ≡ m.label_in
  pub label_block : n.label_block ≡ m.label_block
  pub low : n.low ≡ m.low
  pub memory : PutsBlock at content m.memory n.memory
  pub born : (n.newborn at ≡ true) × (n.complete at ≡ false)
  pub others : (b : ℕ) → b ≢ at → (n.newborn b ≡ m.newborn b) × (n.complete b ≡ m.complete b) × (n.label b ≡ m.label b)
  pub tops : (t : Top) → Contains n.tops t → Contains m.tops t ⊎ ((t.at ≡ at) × (t.place ≡ p))
  pub label : ((n.label at).kind ≡ p.kind) × ((n.label at).tag ≡ p.tag) × (is_usable m.low (n.label at) ≡ false)
  pub waits : (leaf on j : ℕ) → IsWait m.waits leaf on j → IsWait n.waits leaf on j × (leaf ≢ at) × (on ≢ at)
  pub clears : (k : Clearing) → Contains n.clears k → Contains m.clears k × (k.at ≢ at) × (k.leaf ≢ at)

abbrev pub GivingStep : Type 0
GivingStep = (at : ℕ) (content : Content) (p : Place) (m n : Mind) (holds : Holds) → GivesMind at content p m n → (0 < length ((known m holds).versions at)) × (0 < length ((known m holds).labels at)) → ((q : Place) → Stands (known m holds) at q → ⊥) → ((i t : ℕ) → target (content.slot i) ≡ Local t → Stands (known m holds) t (place_below p i (content.slot i)) × ((place_below p i (content.slot i)).rank < p.rank)) → Gives at content p (known m holds) (known n holds)

-- a label changes, and nothing else
pub record LabelsMind (b : ℕ) (l : Label) (m n : Mind) : Type 0 where
  pub writes : SameWrites m n
  pub memory : n.memory ≡ m.memory
  pub tops : n.tops ≡ m.tops
  pub waits : n.waits ≡ m.waits
  pub clears : n.clears ≡ m.clears
  pub here : n.label b ≡ l
  pub others : (a : ℕ) → a ≢ b → n.label a ≡ m.label a

abbrev pub LabelStep : Type 0
LabelStep = (b : ℕ) (l : Label) (m n : Mind) (holds : Holds) → LabelsMind b l m n → NewLabel b l (known m holds) (known n holds)
