-- A source's entry, and where it may be put.
use Rattle.std.specs.Prelude.{◌≡◌, ◌⊎◌, ◌<◌, ℕ, true}
use Rattle.fo_image.specs.declared.types.Entry.{Entry}
use Rattle.fo_image.specs.declared.types.Pointer.TheVariants.{Local}
use Rattle.fo_crash.specs.declared.slot.Slot.{Slot}
use Rattle.fo_crash.specs.declared.slot.Slot.TheVariants.{Entry as Head}
use Rattle.fo_crash.specs.declared.place.Place.{Place}
use Rattle.fo_crash.specs.Images.{Reaches, target, walk, to_block}
use Rattle.fo_ports.specs.Blocks.{dropped, zeros}
use Rattle.fo_ports.specs.State.{State}
use Rattle.fo_ports.specs.Sources.{ComesFor}
use Rattle.fo_tree_read.specs.declared.tree.Tree.{Tree}
use Rattle.fo_tree_read.specs.Tree.{block_at}
use Rattle.fo_tree_open.specs.Open.{NamesRank}

-- the entry of a source, in use
abbrev pub entry_of : Tree → ℕ → Entry
entry_of t generation = record { generation = generation; active = true; dir = t.dir; depth = t.depth; tag = t.tag; size = t.size; top = t.top }

-- where the entry leads that stands in slot i, below the levels that the source loses with a new one
abbrev pub led_from : State → (at i : ℕ) → Entry → Slot
led_from s at i e = walk s.now ((s.now at).slot i) (zeros (dropped ((s.now at).slot i) (Head e)))

-- The source has no bytes left, and so no top; and no slot of what hangs from its entry, all of which leaves, waits.
pub record IsEmptied (s : State) (t : Tree) (at i : ℕ) : Type 0 where
  pub none : t.size ≡ 0
  pub still : (b j : ℕ) → s.clearing b j → Reaches s.now ((s.now at).slot i) b → ⊥

-- What a device that tells has where a source's entry is put. The block with its entry hangs from block 1, at a place from which the leaves
-- have this rank. The source's top comes in the place of what the entry leads to, below levels that go, or the source was emptied; and
-- nothing else comes in the place of what hangs there. What its entries name hangs from block 1. Where levels go, they go down to a block,
-- if the source has one, and no slot that waits goes with them.
pub record CanLink (s : State) (t : Tree) (generation at i : ℕ) : Type 0 where
  pub in_tree : Reaches s.now (to_block 1) at
  pub ranked : (p : Place) → s.stands at p → NamesRank p.kind p.rank i t.dir t.rank
  pub comes : IsEmptied s t at i ⊎ ComesFor s t.top (target (led_from s at i (entry_of t generation)))
  pub only : (y x : ℕ) → s.instead y x → Reaches s.now ((s.now at).slot i) x → t.top ≡ Local y
  pub names : t.dir ≡ true → (k a j b : ℕ) → block_at s t t.depth k ≡ Local a → target ((s.now a).slot j) ≡ Local b → Reaches s.now (to_block 1) b
  pub down : 0 < dropped ((s.now at).slot i) (Head (entry_of t generation)) → (b : ℕ) → t.top ≡ Local b → (y : ℕ) × (target (led_from s at i (entry_of t generation)) ≡ Local y)
  pub still : 0 < dropped ((s.now at).slot i) (Head (entry_of t generation)) → (b j : ℕ) → s.clearing b j → Reaches s.now ((s.now at).slot i) b → Reaches s.now (led_from s at i (entry_of t generation)) b
