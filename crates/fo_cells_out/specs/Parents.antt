-- Who may lead to a block of memory's tree, and what leaves this tree when a slot is put or cleared.
use Rattle.std.specs.Prelude.{◌≡◌, ◌≢◌, ◌⊎◌, ℕ, zero, suc, true, List, [], ◌∷◌, ◌++◌}
use Rattle.std.specs.List.{Contains}
use Rattle.fo_image.specs.declared.types.Pointer.TheVariants.{Local}
use Rattle.fo_crash.specs.declared.slot.Slot.{Slot}
use Rattle.fo_crash.specs.declared.place.Place.{Place}
use Rattle.fo_crash.specs.Images.{Content, target}
use Rattle.fo_cells.specs.Known.{Known, Top, IsClear, MaySlot, Stands}
use Rattle.fo_cells_out.specs.Removals.{Pending, AreBehind, IsCovered}

-- How the blocks that stand are divided.
pub record Tree : Type 1 where
  -- reached from block 1 in memory
  pub Within : ℕ → Type 0
  -- made, and not yet in that tree
  pub Made : ℕ → Type 0
  -- left by a removal
  pub Covered : ℕ → Type 0
  -- of an epoch before that of the active tree
  pub Older : ℕ → Type 0
  -- of a level above the leaves of its source
  pub Pointers : ℕ → Type 0

-- with one block more that was made
abbrev pub making : Tree → ℕ → Tree
making t at = record t { Made = λ a. t.Made a ⊎ (a ≡ at) }

-- in memory slot i of block a leads to block b
abbrev pub Points : Known → ℕ → ℕ → ℕ → Type 0
Points k a i b = target ((k.memory a).slot i) ≡ Local b

-- In memory some slot of a, and then n slots 0 of pointer blocks of the tree, lead to b: n is 0 for a parent, and more where the source
-- of b grew below the slot of a.
abbrev pub Over : Known → Tree → ℕ → ℕ → ℕ → Type 0
Over k t zero a b = (i : ℕ) × Points k a i b
Over k t (suc n) a b = (c : ℕ) × t.Within c × t.Pointers c × Points k c 0 b × Over k t n a c

-- Block a of the tree leads to b in memory, or led to it before its source grew. An older block has no second parent in the tree.
pub record Holds (k : Known) (t : Tree) (a b : ℕ) : Type 0 where
  pub within : t.Within a
  pub levels : ℕ
  pub over : Over k t levels a b
  pub older : t.Older b → levels ≡ 0

-- Nothing of the block is on the device or may come there, and none of its slots waits.
pub record IsUnwritten (k : Known) (a : ℕ) : Type 0 where
  pub newborn : k.newborn a ≡ true
  pub late : (c : Content) → Contains (k.late a) c → ⊥
  pub clears : (i leaf : ℕ) → IsClear k.clears a i leaf → ⊥

-- THE PARENT FACT: who has a slot that may lead to a block of memory's tree, or to one that was made.
pub record Parents (k : Known) (t : Tree) : Type 0 where
  pub tree : (a i b : ℕ) (s : Slot) (p : Place) → Stands k a p → MaySlot k a i s → target s ≡ Local b → t.Within b → Holds k t a b ⊎ (t.Covered a ⊎ t.Made a)
  pub made : (a i b : ℕ) (s : Slot) (p : Place) → Stands k a p → MaySlot k a i s → target s ≡ Local b → t.Made b → t.Made a
  pub unwritten : (a : ℕ) → t.Made a → IsUnwritten k a

-- Memory's tree is one: each of its blocks has one parent and one slot there, and epochs don't rise along slots.
pub record IsTree (k : Known) (t : Tree) : Type 0 where
  pub one : (a c i j b : ℕ) → t.Within a → t.Within c → Points k a i b → Points k c j b → (a ≡ c) × (i ≡ j)
  pub closed : (a i b : ℕ) → t.Within a → Points k a i b → t.Within b
  pub older : (a i b : ℕ) → t.Within a → Points k a i b → t.Older a → t.Older b
  pub apart : (a : ℕ) → t.Made a → t.Within a → ⊥
  pub gone : (a : ℕ) → t.Covered a → t.Within a → ⊥

-- Slot i of block `at` became s in memory; no other slot that may be there is new. Both a put and a clearing are this.
pub record Moves (at i : ℕ) (s : Slot) (old new : Known) : Type 0 where
  pub here : (new.memory at).slot i ≡ s
  pub others : (a j : ℕ) → (a ≢ at) ⊎ (j ≢ i) → (new.memory a).slot j ≡ (old.memory a).slot j
  pub stands : (b : ℕ) (q : Place) → Stands new b q → Stands old b q
  pub may : (a j : ℕ) (x : Slot) → MaySlot new a j x → MaySlot old a j x ⊎ ((a ≡ at) × (j ≡ i) × (x ≡ s))
  pub unwritten : (a : ℕ) → IsUnwritten old a → IsUnwritten new a
  pub tops : (x : Top) → Contains new.tops x → Contains old.tops x

-- What a put or a clearing does to the division of blocks.
pub record Takes (at i : ℕ) (s : Slot) (old new : Known) (t u : Tree) : Type 0 where
  pub moves : Moves at i s old new
  -- the block put into is in the tree, or was made and stays so
  pub holder : (t.Within at × u.Within at) ⊎ u.Made at
  -- what came into the tree was made
  pub was : (b : ℕ) → u.Within b → t.Within b ⊎ t.Made b
  pub made : (b : ℕ) → u.Made b → t.Made b
  pub linked : (b : ℕ) → t.Made b → u.Within b ⊎ u.Made b
  pub covered : (b : ℕ) → t.Covered b → u.Covered b
  -- who held a block that stays in the tree stays there too, or is to be closed; where it stays, it holds it
  pub left : (n a b : ℕ) → t.Within a → Over old t n a b → u.Within b → u.Within a ⊎ u.Covered a
  pub carried : (n a b : ℕ) → t.Within a → t.Within b → u.Within a → u.Within b → Over old t n a b → (t.Older b → n ≡ 0) → Holds new u a b

-- One removal that a put or a clearing queues: blocks of the old tree, of which only the root hangs from elsewhere.
pub record Leaving (s : Slot) (old new : Known) (t : Tree) (earlier : List ℕ) (r : Pending) : Type 0 where
  pub root : ℕ
  pub inside : (b : ℕ) → Contains r.blocks b → t.Within b
  pub below : (a j b : ℕ) → t.Within a → Points old a j b → Contains r.blocks b → (b ≡ root) ⊎ Contains r.blocks a
  -- who held the root is the block after which the removal comes, or was taken out before
  pub above : (n a : ℕ) → t.Within a → Over old t n a root → (t.Older root → n ≡ 0) → Contains earlier a ⊎ (a ≡ r.after)
  -- of made blocks only that one leads there
  pub made : (a j b : ℕ) → t.Made a → Points old a j b → Contains r.blocks b → Contains earlier a ⊎ (a ≡ r.after)
  pub unput : (b : ℕ) → target s ≡ Local b → Contains r.blocks b → ⊥
  pub away : (j b : ℕ) → Points new r.after j b → Contains r.blocks b → ⊥
  pub tops : (x : Top) → Contains new.tops x → Contains r.blocks x.at → ⊥

-- the removals that one call queues, in order
abbrev pub AllLeaving : Slot → Known → Known → Tree → List ℕ → List Pending → Type 0
AllLeaving s old new t earlier [] = Unit {0}
AllLeaving s old new t earlier (r ∷ rs) = Leaving s old new t earlier r × AllLeaving s old new t (earlier ++ r.blocks) rs

-- the blocks that removals have left
abbrev pub blocks_of : List Pending → List ℕ
blocks_of [] = []
blocks_of (r ∷ rs) = r.blocks ++ blocks_of rs

-- WHO HOLDS A BLOCK AFTER A PUT
-- What was said of who held a block b, said of the block c that has its place now.
pub record HoldsNow (new : Known) (u : Tree) (n a c : ℕ) : Type 0 where
  pub levels : ℕ
  pub over : Over new u levels a c
  pub same : n ≡ 0 → u.Older c → levels ≡ 0

-- the block that has the parent's place now leads on by the same slot
pub record Follows (Place_of : ℕ → ℕ → Type 0) (new : Known) (a j c : ℕ) : Type 0 where
  pub now : ℕ
  pub is : Place_of a now
  pub points : Points new now j c

-- `Place_of b c`: block c of the new tree has the place that b had in the old one; it is b, or its copy. Each block that has a place still
-- hangs from the place of its parent; or, at the end of the levels that a source gained or lost, all that held it is said at once.
pub record Carries (old new : Known) (t u : Tree) (Place_of : ℕ → ℕ → Type 0) : Type 0 where
  pub stays : (b : ℕ) → t.Within b → u.Within b → Place_of b b
  pub itself : (b c : ℕ) → Place_of b c → u.Within b → c ≡ b
  pub within : (b c : ℕ) → Place_of b c → u.Within c
  pub pointers : (b c : ℕ) → Place_of b c → t.Pointers b → u.Pointers c
  pub older : (b : ℕ) → u.Older b → t.Older b
  pub up : (b c : ℕ) → Place_of b c → (a j : ℕ) → t.Within a → Points old a j b → Follows Place_of new a j c ⊎ ((n d : ℕ) → t.Within d → u.Within d → Over old t n d b → HoldsNow new u n d c)

-- Blocks of a tree that hang together from x: a source whole, or a set of which x is the root.
pub record HangsTogether (k : Known) (t : Tree) (x : ℕ) (blocks : List ℕ) : Type 0 where
  pub only : (b : ℕ) → Contains blocks b → (b ≡ x) ⊎ ((a : ℕ) × (j : ℕ) × Contains blocks a × Points k a j b)
  pub inside : (b : ℕ) → Contains blocks b → t.Within b

-- Slot i of `at` leads to x, and is no slot 0 of a pointer block.
pub record IsHead (k : Known) (t : Tree) (at i x : ℕ) : Type 0 where
  pub within : t.Within at
  pub points : Points k at i x
  pub head : t.Pointers at → i ≡ 0 → ⊥

-- REMOVED: slot i of a block of the tree leads nowhere now. `Leaves` is all that hung from it; `blocks` is what the removal closes: the
-- blocks of its source, and not what hangs from the entries of this source, which is lost.
pub record Removes (at i : ℕ) (s : Slot) (old new : Known) (t u : Tree) (x : ℕ) (Leaves : ℕ → Type 0) (blocks : List ℕ) : Type 0 where
  pub moves : Moves at i s old new
  pub nowhere : (b : ℕ) → target s ≡ Local b → ⊥
  pub head : IsHead old t at i x
  pub stays : u.Within at
  pub first : Leaves x
  pub next : (a j b : ℕ) → Leaves a → Points old a j b → Leaves b
  pub only : (b : ℕ) → Leaves b → (b ≡ x) ⊎ ((a : ℕ) × (j : ℕ) × Leaves a × Points old a j b)
  pub inside : (b : ℕ) → Leaves b → t.Within b
  pub parts : (b : ℕ) → t.Within b → u.Within b ⊎ Leaves b
  pub away : (b : ℕ) → u.Within b → Leaves b → ⊥
  pub within : (b : ℕ) → u.Within b → t.Within b
  pub whole : HangsTogether old t x blocks
  pub leaves : (b : ℕ) → Contains blocks b → Leaves b
  pub covered : (b : ℕ) → u.Covered b → t.Covered b ⊎ Contains blocks b
  pub cover : (b : ℕ) → t.Covered b ⊎ Contains blocks b → u.Covered b
  pub pointers : (b : ℕ) → t.Pointers b → u.Pointers b
  pub older : (b : ℕ) → u.Older b → t.Older b
  pub still : (b : ℕ) → t.Older b → u.Older b
  pub made : (b : ℕ) → u.Made b → t.Made b
  pub made_still : (b : ℕ) → t.Made b → u.Made b
  -- no block that was made and is not in the tree leads to what leaves
  pub free : (a j b : ℕ) → t.Made a → Points old a j b → Leaves b → ⊥
  pub tops : (y : Top) → Contains old.tops y → Contains blocks y.at → ⊥

-- What was made and is not in the tree leads to blocks of the tree and to made ones, of which each hangs from one made slot at most.
pub record IsForest (k : Known) (t : Tree) : Type 0 where
  pub leads : (a j b : ℕ) → t.Made a → Points k a j b → t.Within b ⊎ t.Made b
  pub one : (a c j l b : ℕ) → t.Made a → t.Made c → t.Made b → Points k a j b → Points k c l b → (a ≡ c) × (j ≡ l)
  pub young : (a : ℕ) → t.Made a → t.Older a → ⊥
  pub uncovered : (a : ℕ) → t.Made a → t.Covered a → ⊥

-- REPLACED: slot i of `at` leads to another block now, and what hangs from it comes into the tree. `Copy_of b c`: b leaves, and c, its
-- copy, comes. `Gone b`: b leaves without one, to be closed; or it is `Lost`, as what hangs from the entries of a source that leaves.
-- `Turns b`: b is the highest block that a source keeps which gained or lost levels, in the slot that is put or in one of a copy below;
-- where b itself stays it hangs from slot j of a now, `From b a j`: the lowest new level, or the block whose slot leads to the source.
pub record Replaces (at i : ℕ) (s : Slot) (old new : Known) (t u : Tree) (Copy_of : ℕ → ℕ → Type 0) (Gone Lost Turns : ℕ → Type 0) (From : ℕ → ℕ → ℕ → Type 0) : Type 0 where
  pub moves : Moves at i s old new
  pub within : t.Within at
  pub current : t.Older at → ⊥
  pub stays : u.Within at
  -- the old tree: each block stays, has a copy, or leaves without one
  pub parts : (b : ℕ) → t.Within b → u.Within b ⊎ (((c : ℕ) × Copy_of b c) ⊎ Gone b)
  pub was : (b : ℕ) → u.Within b → t.Within b ⊎ t.Made b
  -- copies: of older blocks, made, linked now
  pub copied : (b c : ℕ) → Copy_of b c → t.Within b × t.Older b × (u.Within b → ⊥) × t.Made c × u.Within c × (t.Pointers b → u.Pointers c)
  pub copy_one : (b c d : ℕ) → Copy_of b c → Copy_of b d → c ≡ d
  -- a block with a copy was in the slot that is put, and its copy is there; or hangs from one with a copy, and so does the copy, by the
  -- same slot; or its source turns there
  pub hangs : (a j b c : ℕ) → Copy_of b c → t.Within a → Points old a j b → Turns b ⊎ (((a ≡ at) × (j ≡ i) × Points new a j c) ⊎ ((d : ℕ) × Copy_of a d × Points new d j c))
  -- what stays below a block with a copy hangs from the copy by the same slot
  pub shared : (a d j b : ℕ) → Copy_of a d → Points old a j b → u.Within b → Turns b ⊎ Points new d j b
  pub slot_was : (b : ℕ) → Points old at i b → u.Within b → Turns b
  -- what leaves without a copy leaves with all below it, but for what a source keeps that lost levels
  pub gone : (b : ℕ) → Gone b → (u.Within b → ⊥) × ((c : ℕ) → Copy_of b c → ⊥) × t.Within b
  pub gone_below : (a j b : ℕ) → Gone a → Points old a j b → Gone b ⊎ Turns b
  pub gone_above : (a j b : ℕ) → Gone b → t.Within a → Points old a j b → Gone a ⊎ (((d : ℕ) × Copy_of a d) ⊎ ((a ≡ at) × (j ≡ i)))
  pub gone_copy : (a d j b : ℕ) → Gone b → Copy_of a d → Points old a j b → Points new d j b → ⊥
  pub lost : (b : ℕ) → Gone b → u.Covered b ⊎ Lost b
  pub lost_below : (a j b : ℕ) → Lost a → Points old a j b → Lost b
  pub lost_out : (b : ℕ) → Lost b → u.Within b → ⊥
  -- where a source turns: who held that block and stays holds what has its place; what held it in a slot let it go
  pub turns : (b c : ℕ) → Turns b → ((b ≡ c) × u.Within b) ⊎ Copy_of b c → (n a : ℕ) → t.Within a → u.Within a → Over old t n a b → HoldsNow new u n a c
  pub parent : (p j b : ℕ) → Turns b → t.Within b → t.Within p → Points old p j b → ((p ≡ at) × (j ≡ i)) ⊎ (Gone p ⊎ ((d : ℕ) × Copy_of p d × (Points new d j b → ⊥)))
  pub from_one : (b a c j l : ℕ) → From b a j → From b c l → (a ≡ c) × (j ≡ l)
  -- what came leads into the tree only where its original leads, or where a source turns
  pub brings : (a j b : ℕ) → t.Made a → u.Within a → Points old a j b → t.Within b → ((o : ℕ) × Copy_of o a × Points old o j b) ⊎ (Turns b × u.Within b × From b a j)
  pub put : (b : ℕ) → target s ≡ Local b → u.Within b × ((t.Within b × Turns b × u.Within b × From b at i) ⊎ (t.Made b × ((a j : ℕ) → t.Made a → Points old a j b → ⊥)))
  pub links : (a j b : ℕ) → t.Made a → u.Within a → Points old a j b → t.Made b → u.Within b
  pub made : (b : ℕ) → u.Made b → t.Made b
  pub linked : (b : ℕ) → t.Made b → u.Within b ⊎ u.Made b
  pub apart : (b : ℕ) → u.Made b → u.Within b → ⊥
  pub covered : (b : ℕ) → u.Covered b → t.Covered b ⊎ (((c : ℕ) × Copy_of b c) ⊎ Gone b)
  pub cover : (b : ℕ) → t.Covered b ⊎ ((c : ℕ) × Copy_of b c) → u.Covered b
  pub pointers : (b : ℕ) → t.Pointers b → u.Pointers b
  pub older : (b : ℕ) → u.Older b → t.Older b
  pub still : (b : ℕ) → t.Older b → u.Older b
  -- what leaves hangs from no made block that is not linked now
  pub free : (a j b : ℕ) → u.Made a → Points old a j b → (u.Within b → ⊥) → t.Within b → ⊥

-- Slots of memory stay, nothing stands anew, and no slot that leads on may be there that could not before: a write, a sync, the end of a
-- wait, other bytes, a slot that begins to wait, a label.
pub record Stays (old new : Known) (t : Tree) : Type 0 where
  pub slots : (a j : ℕ) → (new.memory a).slot j ≡ (old.memory a).slot j
  pub stands : (b : ℕ) (q : Place) → Stands new b q → Stands old b q
  pub may : (a i b : ℕ) (s : Slot) → MaySlot new a i s → target s ≡ Local b → MaySlot old a i s
  pub unwritten : (a : ℕ) → t.Made a → IsUnwritten old a → IsUnwritten new a
  pub tops : (y : Top) → Contains new.tops y → Contains old.tops y

-- ALL TOGETHER, over the trees of the active epoch: the tree of memory, what was made, who may lead there, and the removals queued since this
-- epoch began, in order, behind what the removals of before have left. What either has is covered.
pub record IsDivided (k : Known) (t : Tree) (before : List ℕ) (queue : List Pending) : Type 0 where
  pub tree : IsTree k t
  pub forest : IsForest k t
  pub parents : Parents k t
  pub behind : AreBehind k before queue
  pub listed : (b : ℕ) → t.Covered b → Contains (before ++ blocks_of queue) b
  pub covered : (b : ℕ) → Contains before b ⊎ IsCovered queue b → t.Covered b

-- THE SIMPLEST PUT: an older block x in slot i of `at` is replaced by y, its copy, whose slots lead where those of x lead.
pub record CopiesOnce (at i : ℕ) (s : Slot) (old new : Known) (t : Tree) (x y : ℕ) : Type 0 where
  pub moves : Moves at i s old new
  pub within : t.Within at
  pub current : t.Older at → ⊥
  pub points : Points old at i x
  pub put : target s ≡ Local y
  pub apart : x ≢ at
  pub older : t.Older x
  pub made : t.Made y
  pub unhung : (a j : ℕ) → t.Made a → Points old a j y → ⊥
  pub same : (j b : ℕ) → Points old x j b → Points old y j b
  pub back : (j b : ℕ) → Points old y j b → Points old x j b
  pub pointers : t.Pointers x → t.Pointers y
  pub free : (a j : ℕ) → t.Made a → Points old a j x → ⊥
  pub tops : (z : Top) → Contains old.tops z → z.at ≡ x → ⊥

abbrev pub copied_once : Tree → ℕ → ℕ → Tree
copied_once t x y = record {
  Within = λ b. (t.Within b × (b ≢ x)) ⊎ (b ≡ y);
  Made = λ b. t.Made b × (b ≢ y);
  Covered = λ b. t.Covered b ⊎ (b ≡ x);
  Older = t.Older;
  Pointers = t.Pointers;
}

-- LEVELS GAINED: the top x of a source moved below a new top y, into its slot 0, and y is put in its place.
pub record GainsOnce (at i : ℕ) (s : Slot) (old new : Known) (t : Tree) (x y : ℕ) : Type 0 where
  pub moves : Moves at i s old new
  pub head : IsHead old t at i x
  pub current : t.Older at → ⊥
  pub young : t.Older x → ⊥
  pub put : target s ≡ Local y
  pub made : t.Made y
  pub pointers : t.Pointers y
  pub unhung : (a j : ℕ) → t.Made a → Points old a j y → ⊥
  pub leads : Points old y 0 x
  pub only : (j b : ℕ) → Points old y j b → (j ≡ 0) × (b ≡ x)

abbrev pub gained_once : Tree → ℕ → Tree
gained_once t y = record t { Within = λ b. t.Within b ⊎ (b ≡ y); Made = λ b. t.Made b × (b ≢ y) }

-- LEVELS LOST: the top x of a source has no block but b, in its slot 0, and b is put in its place.
pub record LosesOnce (at i : ℕ) (s : Slot) (old new : Known) (t : Tree) (x b : ℕ) : Type 0 where
  pub moves : Moves at i s old new
  pub head : IsHead old t at i x
  pub current : t.Older at → ⊥
  pub put : target s ≡ Local b
  pub leads : Points old x 0 b
  pub only : (j c : ℕ) → Points old x j c → (j ≡ 0) × (c ≡ b)
  pub apart : (x ≢ at) × (b ≢ x)
  pub free : (a j : ℕ) → t.Made a → Points old a j x → ⊥
  pub tops : (z : Top) → Contains old.tops z → z.at ≡ x → ⊥

abbrev pub lost_once : Tree → ℕ → Tree
lost_once t x = record t { Within = λ b. t.Within b × (b ≢ x); Covered = λ b. t.Covered b ⊎ (b ≡ x) }

-- The same, seen from fewer tops: for what is queued at an epoch, from block 1, what was made, and the roots of epochs from that one on.
abbrev pub view : Known → List Top → Known
view k ts = record k { tops = ts }

-- A NEW BLOCK: slot i of `at` led nowhere, and leads to a made block now, which comes into the tree with all that hangs from it (`Linked`).
pub record Links (at i : ℕ) (s : Slot) (old new : Known) (t : Tree) (Linked : ℕ → Type 0) (y : ℕ) : Type 0 where
  pub moves : Moves at i s old new
  pub within : t.Within at
  pub current : t.Older at → ⊥
  pub empty : (b : ℕ) → Points old at i b → ⊥
  pub put : target s ≡ Local y
  pub unhung : (a j : ℕ) → t.Made a → Points old a j y → ⊥
  pub first : Linked y
  pub made : (b : ℕ) → Linked b → t.Made b
  pub next : (a j b : ℕ) → Linked a → Points old a j b → Linked b
  pub decided : (b : ℕ) → t.Made b → Linked b ⊎ (Linked b → ⊥)

abbrev pub linked : Tree → (ℕ → Type 0) → Tree
linked t Linked = record t { Within = λ b. t.Within b ⊎ Linked b; Made = λ b. t.Made b × (Linked b → ⊥) }

-- THE SAME BLOCK: the slot changes, and leads where it led.
pub record Same (at i : ℕ) (s : Slot) (old new : Known) (t : Tree) : Type 0 where
  pub moves : Moves at i s old new
  pub holder : t.Within at ⊎ t.Made at
  pub there : (b : ℕ) → target s ≡ Local b → Points old at i b
  pub back : (b : ℕ) → Points old at i b → target s ≡ Local b

-- A block that was made and hangs nowhere is queued alone: a new root before block 1 names it, after block 1.
abbrev pub set_aside : Tree → ℕ → Tree
set_aside t b = record t { Made = λ a. t.Made a × (a ≢ b); Covered = λ a. t.Covered a ⊎ (a ≡ b) }
