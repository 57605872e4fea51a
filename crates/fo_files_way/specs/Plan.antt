-- Leaves that are to be owned, with what has to be linked for it.
use Rattle.std.specs.Prelude.{◌≡◌, ◌+◌, ◌*◌, ◌/◌, ◌%◌, ◌^◌, ◌<◌, ◌≤◌, ℕ, true, false, List, [], ◌∷◌, ◌++◌, length, slice_index, Some}
use Rattle.fo_image.specs.declared.types.State.TheVariants.{Live}
use Rattle.fo_image.specs.declared.types.Kind.TheVariants.{Dir, Root}
use Rattle.fo_crash.specs.declared.slot.Slot.TheVariants.{Entry as Head}
use Rattle.fo_ports.specs.State.{State}
use Rattle.fo_ports.specs.Sources.{IsPlain, most_to_own}
use Rattle.fo_files_at.specs.of_tree.declared.source.Source.{Source}
use Rattle.fo_tree_look.specs.Source.{Over, Prepared, address_here, form_of}
use Rattle.fo_tree_shorten.specs.of_tree_open.Open.{HasEntry}
use Rattle.fo_tree_shorten.specs.of_tree_link.Link.{entry_of}
use Rattle.fo_image.specs.declared.types.Entry.{Entry}
use Rattle.fo_files_way.specs.declared.add.Wanted.{Wanted}
use Rattle.fo_files_at.specs.declared.file.File.{File}
use Rattle.fo_files_way.specs.declared.plan.Level.{Level}
use Rattle.fo_files_way.specs.declared.plan.Plan.{Plan}

-- A block whose slots may be put, once it is of the current epoch: pinned, live, and of this tag.
pub record IsHeld (s : State) (tag at : ℕ) : Type 0 where
  pub is_pinned : s.pinned at
  pub live : (s.label at).state ≡ Live
  pub tagged : (s.label at).tag ≡ tag

-- A source stands over its blocks, and the way to leaf i of it is prepared, which stands at this address and ends within the source. It is
-- none of plain data.
pub record IsLeafReady (s : State) (x : Source) (i at : ℕ) : Type 0 where
  pub over : Over s x.ways.tree x.ways.kept.items x.ways.limit
  pub prepared : Prepared s x.ways.tree x.ways.kept.items x.ways.limit (8192 * i) 8192
  pub within : 8192 * (i + 1) ≤ x.ways.tree.size
  pub there : address_here s x.ways.tree i ≡ Some at
  pub other : IsPlain (form_of x.ways.tree x.ways.generation x.ways.limit) → ⊥

-- A source's entry stands in slot j of this block, which doesn't wait to be cleared.
pub record IsEntryIn (s : State) (x : Source) (at j : ℕ) : Type 0 where
  pub is : (s.now at).slot j ≡ Head (entry_of x.ways.tree x.ways.generation)
  pub leaf : HasEntry (s.label at).kind j
  pub settled : s.clearing at j → ⊥

-- Level k may be owned: its leaf is ready, and its entry stands in a block of those before it.
pub record IsLevel (s : State) (at tag : ℕ → ℕ) (k : ℕ) (l : Level) : Type 0 where
  pub ready : IsLeafReady s l.source l.leaf (at (k + 1))
  pub tagged : l.source.ways.tree.tag ≡ tag (k + 1)
  pub above : l.above ≤ k
  pub entry : IsEntryIn s l.source (at l.above) l.slot

-- so may each of these, the first of which is level k
abbrev pub AreLevels : State → (at tag : ℕ → ℕ) → ℕ → List Level → Type 0
AreLevels s at tag k [] = Unit {0}
AreLevels s at tag k (l ∷ rest) = IsLevel s at tag k l × AreLevels s at tag (k + 1) rest

-- Levels from number k on may be owned: block 0 is the root block, and block n + 1 the leaf of level n. They are held, their tags differ,
-- and up to block k all are of the current epoch.
pub record MayOwnAll (s : State) (k : ℕ) (at tags : List ℕ) (levels : List Level) : Type 0 where
  pub count : length at ≡ k + length levels + 1
  pub tag_count : length tags ≡ length at
  pub held : (i : ℕ) → i < length at → IsHeld s (slice_index tags i) (slice_index at i)
  pub differ : (i j : ℕ) → i < length at → j < length at → slice_index tags i ≡ slice_index tags j → i ≡ j
  pub current : (i : ℕ) → i ≤ k → (s.label (slice_index at i)).epoch ≡ s.high
  pub each : AreLevels s (λ i. slice_index at i) (λ i. slice_index tags i) k levels

-- how many blocks it takes at most to own these
abbrev pub most_for_levels : List Level → ℕ
most_for_levels [] = 0
most_for_levels (l ∷ rest) = most_to_own l.source.ways.tree.size l.leaf + most_for_levels rest

-- An entry names entries or records, as is wanted, and has the whole leaf.
pub record IsWanted (e : Entry) (wanted : Wanted) : Type 0 where
  pub is_dir : e.dir ≡ wanted.is_dir
  pub within : 8192 * (wanted.leaf + 1) ≤ e.size

-- each block of a plan is a data block
abbrev pub AreBlocks : State → List ℕ → Type 0
AreBlocks s at = (i : ℕ) → i < length at → s.is_block (slice_index at i)

-- A level is what was wanted.
pub record Fulfils (wanted : Wanted) (l : Level) : Type 0 where
  pub above : l.above ≡ wanted.above
  pub slot : l.slot ≡ wanted.slot
  pub leaf : l.leaf ≡ wanted.leaf
  pub tag : l.source.ways.tree.tag ≡ wanted.tag

-- A level was put behind the others.
pub record IsAdded (wanted : Wanted) (old new : List Level) : Type 0 where
  pub level : Level
  pub is : new ≡ old ++ level ∷ []
  pub fulfils : Fulfils wanted level

-- A plan of leaves of entries, one for each directory on a way: it may be owned, and its blocks are a root block and leaves of entries.
pub record IsPlanned (s : State) (p : Plan) : Type 0 where
  pub may : MayOwnAll s 0 p.at.items p.tags.items p.levels.items
  pub blocks : AreBlocks s p.at.items
  pub root : (s.label (slice_index p.at.items 0)).kind ≡ Root
  pub dirs : (i : ℕ) → 0 < i → i < length p.at.items → (s.label (slice_index p.at.items i)).kind ≡ Dir 0

-- The slot of a file's first entry in block `above` of such a plan: where the file's pair says, and the first of a root block.
pub record IsFirstSlot (above pair slot : ℕ) : Type 0 where
  pub root : above ≡ 0 → slot ≡ 0
  pub below : 0 < above → slot ≡ 2 * (pair % 102)

-- Wanted is the leaf of a directory's entries that has pair `pair`.
pub record IsEntries (above : ℕ) (dir : File) (pair : ℕ) (w : Wanted) : Type 0 where
  pub above_is : w.above ≡ above
  pub slot : IsFirstSlot above dir.named.slot w.slot
  pub kind : w.is_dir ≡ true
  pub tag : w.tag ≡ 32 + 2 * dir.named.number
  pub rank : w.rank + 32 ≡ dir.rank
  pub limit : w.limit ≡ 2 ^ 38
  pub leaf : w.leaf ≡ pair / 102

-- a level was put behind the others for one that was wanted so
abbrev pub AddsWanted : (Wanted → Type 0) → List Level → List Level → Type 0
AddsWanted is old new = (w : Wanted) × is w × IsAdded w old new
