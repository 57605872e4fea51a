-- What blocks in memory have, and what is known of the root directory there.
use Rattle.std.specs.Prelude.{◌≡◌, ◌≢◌, ◌*◌, ◌^◌, ◌<◌, ◌≤◌, ℕ, length}
use Rattle.fo_crash.specs.declared.place.Place.{Place}
use Rattle.fo_crash.specs.declared.slot.Slot.TheVariants.{Entry as Head}
use Rattle.fo_crash.specs.Images.{Reaches, to_block}
use Rattle.fo_ports.specs.State.{State}
use Rattle.fo_tree.specs.declared.source.Source.{Source}
use Rattle.fo_tree_read.specs.Tree.{kind_at}
use Rattle.fo_tree_look.specs.Source.{Over, Prepared}
use Rattle.fo_tree_down.specs.Clear.{EndsClear}
use Rattle.fo_tree_link.specs.Link.{entry_of}
use Rattle.fo_tree_link.specs.Change.{HangsInTree}
use Rattle.fo_dir_read.specs.Names.{leaf_count}
use Rattle.test_names.specs.declared.parts.Part.{Part}
use Rattle.test_names.specs.Parts.{slot_of, is_dir_of, tag_of, rank_of, limit_of}

-- Blocks in memory tell what they hold; each of them is sealed, no slot waits to be cleared, and pins are left for all.
pub record IsInMemory (s : State) : Type 0 where
  pub told : s.tells
  pub seals : (b : ℕ) → s.sealed b
  pub quiet : (b j : ℕ) → s.clearing b j → ⊥
  pub pins : 2 ^ 32 ≤ s.pins_left

-- Nothing is to come in the place of another block.
pub record NoneComes (s : State) : Type 0 where
  pub each : (y x : ℕ) → s.instead y x → ⊥

-- All addresses up to this one are those of data blocks.
pub record HasBlocks (count : ℕ) (s : State) : Type 0 where
  pub each : (b : ℕ) → 1 < b → b < count → s.is_block b

-- A source of the root directory stands over the blocks: the root block is pinned, and has its entry, from which it hangs.
pub record IsSource (s : State) (p : Part) (x : Source) : Type 0 where
  pub over : Over s x.ways.tree x.ways.kept.items x.ways.limit
  pub dir : x.ways.tree.dir ≡ is_dir_of p
  pub tag : x.ways.tree.tag ≡ tag_of p
  pub ranked : x.ways.tree.rank ≡ rank_of p
  pub limit : x.ways.limit ≡ limit_of p
  pub is_pinned : s.pinned s.root
  pub entry : (s.now s.root).slot (slot_of p) ≡ Head (entry_of x.ways.tree x.ways.generation)
  pub hangs : HangsInTree s x.ways.tree s.root (slot_of p)

-- The same source: it was only looked at.
pub record SameSource (x y : Source) : Type 0 where
  pub tree : y.ways.tree ≡ x.ways.tree
  pub generation : y.ways.generation ≡ x.ways.generation
  pub limit : y.ways.limit ≡ x.ways.limit

-- Leaf i of a source, or the one behind its last leaf, is prepared, and nothing stands behind the source's end.
pub record IsReadyFor (s : State) (x : Source) (i : ℕ) : Type 0 where
  pub within : i ≤ leaf_count x.ways.tree.size
  pub prepared : Prepared s x.ways.tree x.ways.kept.items x.ways.limit (8192 * i) 8192
  pub clear : EndsClear s x.ways.tree x.ways.kept.items

-- A leaf of a source of the root directory that may be changed: pinned, whole, of the current epoch, and in the tree, at a place of its rank.
pub record IsLeafOf (s : State) (p : Part) (at : ℕ) : Type 0 where
  pub is_pinned : s.pinned at
  pub current : (s.label at).epoch ≡ s.high
  pub leaf_kind : (s.label at).kind ≡ kind_at (is_dir_of p) 0
  pub whole : length ((s.now at).bytes) ≡ 8192
  pub linked : Reaches s.now (to_block 1) at
  pub uncovered : s.covered at → ⊥
  pub other : at ≢ 1
  pub there : Place
  pub stands : s.stands at there
  pub rank : there.rank ≡ rank_of p
