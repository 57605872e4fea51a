-- A source below the root block, over blocks in memory.
use Rattle.std.specs.Prelude.{◌≡◌, ◌≢◌, ◌^◌, ◌≤◌, ℕ, false}
use Rattle.fo_image.specs.declared.types.Entry.{Entry}
use Rattle.fo_image.specs.declared.types.Kind.TheVariants.{Root}
use Rattle.fo_image.specs.declared.types.Pointer.TheVariants.{Nil, Local}
use Rattle.fo_image.specs.declared.types.State.TheVariants.{Live}
use Rattle.fo_crash.specs.declared.place.Place.{Place}
use Rattle.fo_crash.specs.declared.slot.Slot.TheVariants.{Entry as Head}
use Rattle.fo_crash.specs.Images.{Reaches, to_block}
use Rattle.fo_crash.specs.Places.{super_place, IsPlaced, OnePlace}
use Rattle.fo_ports.specs.State.{State}
use Rattle.fo_ports.specs.Sources.{ComesFor}
use Rattle.fo_tree_look.specs.declared.ways.Ways.{Ways}
use Rattle.fo_tree_look.specs.Source.{Over}
use Rattle.fo_tree_link.specs.Link.{entry_of}
use Rattle.fo_tree_link.specs.Change.{HangsInTree}
use Rattle.test_tree.specs.Rig.{data_tree}

-- Blocks in memory tell what they hold, no slot waits to be cleared, and pins are left for all.
pub record IsInMemory (s : State) : Type 0 where
  pub told : s.tells
  pub quiet : (b j : ℕ) → s.clearing b j → ⊥
  pub pins : 2 ^ 32 ≤ s.pins_left

-- Nothing is to come in the place of another block.
pub record NoneComes (s : State) : Type 0 where
  pub each : (y x : ℕ) → s.instead y x → ⊥

-- What blocks that tell have of the root block.
pub record Ground (s : State) : Type 0 where
  pub told : s.tells
  pub not_one : s.is_block 1 → ⊥
  pub placed : IsPlaced s.stands s.now
  pub one : OnePlace s.stands
  pub super_stands : s.stands 1 super_place
  pub labelled : (b : ℕ) (p : Place) → b ≢ 1 → s.stands b p → s.is_block b × ((s.label b).kind ≡ p.kind) × ((s.label b).tag ≡ p.tag)
  pub live : (b : ℕ) → b ≢ 1 → Reaches s.now (to_block 1) b → ((s.label b).state ≡ Live) × ((s.label b).epoch ≤ s.high) × (s.covered b → ⊥)
  pub root_named : (s.now 1).slot 0 ≡ to_block s.root
  pub root_block : s.is_block s.root
  pub root_is : ((s.label s.root).state ≡ Live) × ((s.label s.root).kind ≡ Root) × ((s.label s.root).epoch ≡ s.high)

-- the entry of a source of data without bytes
abbrev pub blank_entry : Entry
blank_entry = entry_of (data_tree 0 0 Nil) 1

-- The root block is pinned, and has that entry.
pub record HasBlank (s : State) : Type 0 where
  pub is_pinned : s.pinned s.root
  pub entry : (s.now s.root).slot 0 ≡ Head blank_entry

-- A source that was begun so, and is linked nowhere yet: its top comes where none stood, and nothing else comes in the place of a block.
pub record Apart (s : State) (w : Ways) : Type 0 where
  pub generation : w.generation ≡ 1
  pub tag : w.tree.tag ≡ 40
  pub comes : ComesFor s w.tree.top Nil
  pub only : (y x : ℕ) → s.instead y x → w.tree.top ≡ Local y
  pub begun : HasBlank s

-- A source stands over the blocks, and hangs from its entry in the root block, which is pinned.
pub record Linked (s : State) (w : Ways) : Type 0 where
  pub over : Over s w.tree w.kept.items w.limit
  pub plain : w.tree.dir ≡ false
  pub tag : w.tree.tag ≡ 40
  pub rank : w.tree.rank ≡ 2112
  pub wide : w.limit ≡ 2 ^ 40
  pub is_pinned : s.pinned s.root
  pub entry : (s.now s.root).slot 0 ≡ Head (entry_of w.tree w.generation)
  pub hangs : HangsInTree s w.tree s.root 0
