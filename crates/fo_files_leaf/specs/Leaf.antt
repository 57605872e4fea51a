-- A leaf of a source that may be changed.
use Rattle.std.specs.Prelude.{◌≡◌, ◌≢◌, ◌+◌, ◌*◌, ◌%◌, ◌^◌, ◌<◌, ◌≤◌, ℕ, false, Bool, length, Some, None, max}
use Rattle.fo_image.specs.declared.types.Label.{Label}
use Rattle.fo_image.specs.declared.types.State.TheVariants.{Live}
use Rattle.fo_crash.specs.Images.{SameContent}
use Rattle.fo_crash.specs.declared.slot.Slot.TheVariants.{Entry as Head}
use Rattle.fo_ports.specs.Blocks.{blank}
use Rattle.fo_ports.specs.State.{State, Looks, none}
use Rattle.fo_ports.specs.Sources.{IsPlain}
use Rattle.fo_tree.specs.declared.source.Source.{Source}
use Rattle.fo_tree_read.specs.Tree.{kind_at}
use Rattle.fo_tree_look.specs.Source.{Over, Prepared, address_here, held_here, form_of}
use Rattle.fo_tree_shorten.specs.of_tree_down.Clear.{EndsClear}
use Rattle.fo_tree_shorten.specs.of_tree_open.Open.{HasEntry}
use Rattle.fo_tree_shorten.specs.Shorten.{EntryAt}
use Rattle.fo_tree_shorten.specs.of_tree_link.Link.{entry_of}
use Rattle.fo_files_leaf.specs.declared.open.LeafOf.{LeafOf}
use Rattle.fo_files_leaf.specs.Alters.{Alters}

-- The block in which a source's entry stands: a data block, pinned, live, and of the current epoch, which is a root block or a leaf of
-- entries.
pub record IsHolder (s : State) (at j : ℕ) : Type 0 where
  pub is_one : s.is_block at
  pub is_pinned : s.pinned at
  pub live : (s.label at).state ≡ Live
  pub current : (s.label at).epoch ≡ s.high
  pub leaf : HasEntry (s.label at).kind j

-- A source's entry stands in slot j of this block, which doesn't wait to be cleared.
pub record IsEntryIn (s : State) (x : Source) (at j : ℕ) : Type 0 where
  pub is : (s.now at).slot j ≡ Head (entry_of x.ways.tree x.ways.generation)
  pub leaf : HasEntry (s.label at).kind j
  pub settled : s.clearing at j → ⊥

-- A block has what another had, and no slot waits to be cleared that didn't.
pub record Carries (s u : State) (b c : ℕ) : Type 0 where
  pub same : SameContent (u.now c) (s.now b)
  pub clearing : (j : ℕ) → u.clearing c j → s.clearing b j

-- Leaves of such a rank and up to such a length: those of a source without entries hold records.
pub record IsWanted (w : LeafOf) : Type 0 where
  pub low : (w.rank < 2 ^ 31) × (w.limit ≤ 2 ^ 47)
  pub records : w.is_dir ≡ false → w.rank % 32 ≡ 16

-- a label of such a source that is none of its leaves'
abbrev pub IsAbove : (tag : ℕ) (dir : Bool) → Label → Type 0
IsAbove tag dir l = (l.tag ≡ tag) × (l.kind ≢ kind_at dir 0)

-- A leaf that may be changed: a data block that is pinned, live and whole, of the current epoch, and of this tag.
pub record IsOwnLeaf (s : State) (tag : ℕ) (dir : Bool) (leaf : ℕ) : Type 0 where
  pub is_one : s.is_block leaf
  pub is_pinned : s.pinned leaf
  pub live : (s.label leaf).state ≡ Live
  pub current : (s.label leaf).epoch ≡ s.high
  pub tagged : (s.label leaf).tag ≡ tag
  pub leaf_kind : (s.label leaf).kind ≡ kind_at dir 0
  pub whole : length ((s.now leaf).bytes) ≡ 8192

-- A source stands over its blocks, and the way to leaf i of it is prepared, or where it ends before the leaf does that to its last. It is
-- none of plain data.
pub record IsFor (s : State) (x : Source) (i : ℕ) : Type 0 where
  pub over : Over s x.ways.tree x.ways.kept.items x.ways.limit
  pub prepared : Prepared s x.ways.tree x.ways.kept.items x.ways.limit (8192 * i) 8192
  pub other : IsPlain (form_of x.ways.tree x.ways.generation x.ways.limit) → ⊥

-- nothing is named behind the end of a source that grows to the end of leaf i
abbrev pub MayGrow : State → Source → ℕ → Type 0
MayGrow s x i = x.ways.tree.size < 8192 * (i + 1) → EndsClear s x.ways.tree x.ways.kept.items

-- Leaf i of a source was owned, and the source linked in slot j of block `at`: the leaf has what stood there, or is a new one without
-- anything, and the source ends with it or behind it. No other slot of block `at` is put, and no leaf that was there.
pub record OwnsLeaf (s u : State) (x y : Source) (i at j leaf : ℕ) : Type 0 where
  pub alters : Alters at (λ k. k ≡ j) (λ t. t ≡ x.ways.tree.tag) (IsAbove x.ways.tree.tag x.ways.tree.dir) none s u
  pub own : IsOwnLeaf u x.ways.tree.tag x.ways.tree.dir leaf
  pub carries : (b : ℕ) → address_here s x.ways.tree i ≡ Some b → Carries s u b leaf
  pub blank_is : address_here s x.ways.tree i ≡ None → held_here s x.ways.tree x.ways.kept.items i ≡ None → SameContent (u.now leaf) (blank (kind_at x.ways.tree.dir 0))
  pub size : y.ways.tree.size ≡ max x.ways.tree.size (8192 * (i + 1))
  pub there : address_here u y.ways.tree i ≡ Some leaf
  pub entry : EntryAt u y.ways.tree y.ways.generation at j
  pub form : form_of y.ways.tree y.ways.generation y.ways.limit ≡ form_of x.ways.tree x.ways.generation x.ways.limit
  pub room : u.room ≡ s.room
  pub pins : u.pins_left ≡ s.pins_left

-- A leaf that was wanted was owned: its source was opened from its entry, and prepared by looks alone; then it was owned, and its source
-- linked. The source had the leaf, or ended with the one before.
pub record Readied (s m u : State) (w : LeafOf) (leaf : ℕ) : Type 0 where
  pub before : Source
  pub after : Source
  pub looks : Looks s m
  pub entry : IsEntryIn s before w.at w.slot
  pub tag_is : before.ways.tree.tag ≡ w.tag
  pub dir_is : before.ways.tree.dir ≡ w.is_dir
  pub rank_is : before.ways.tree.rank ≡ w.rank
  pub within : 8192 * w.leaf < before.ways.tree.size + 8192
  pub owned : OwnsLeaf m u before after w.leaf w.at w.slot leaf

-- The source whose entry stands where a leaf of it is wanted may grow to have the leaf.
pub record IsTrimmedFor (s : State) (w : LeafOf) : Type 0 where
  pub source : Source
  pub entry : EntryAt s source.ways.tree source.ways.generation w.at w.slot
  pub may : MayGrow s source w.leaf

-- The entry of a source that ends before a leaf was put with the length that the source has with that leaf, and with all else that it had.
pub record TakesIn (s u : State) (w : LeafOf) : Type 0 where
  pub source : Source
  pub entry : IsEntryIn s source w.at w.slot
  pub short : source.ways.tree.size < 8192 * (w.leaf + 1)
  pub longer : EntryAt u (record source.ways.tree { size = 8192 * (w.leaf + 1) }) source.ways.generation w.at w.slot

-- All that is left to be written need not be yet.
abbrev pub IsClean : State → Type 0
IsClean s = (b : ℕ) → s.dirty b → s.newborn b
