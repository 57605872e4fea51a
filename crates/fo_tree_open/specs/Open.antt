-- What a source needs of its entry, and of where that stands.
use Rattle.std.specs.Prelude.{◌≡◌, ◌+◌, ◌%◌, ◌<◌, ◌≤◌, ℕ, zero, suc, Bool, true, cond, nat_eq}
use Rattle.fo_image.specs.declared.types.Kind.{Kind}
use Rattle.fo_image.specs.declared.types.Kind.TheVariants.{Data, Dir, Root}
use Rattle.fo_image.specs.declared.types.Entry.{Entry}
use Rattle.fo_image.specs.declared.types.Pointer.TheVariants.{Nil}
use Rattle.fo_tree_look.specs.of_crash.declared.slot.Slot.TheVariants.{Entry as Head}
use Rattle.fo_tree_look.specs.of_crash.declared.place.Place.{Place}
use Rattle.fo_tree_look.specs.of_crash.Images.{Reaches, to_block}
use Rattle.fo_tree_look.specs.of_ports.State.{State}
use Rattle.fo_tree_look.specs.of_tree_read.declared.tree.Tree.{Tree}
use Rattle.fo_tree_look.specs.Source.{IsPlainTree, NoneHeld}

-- Slot i of a block of this kind is an entry.
abbrev pub HasEntry : Kind → ℕ → Type 0
HasEntry (Data level) i = ⊥
HasEntry (Dir zero) i = i < 204
HasEntry (Dir (suc level)) i = ⊥
HasEntry Root i = i < 2

-- how many ranks the leaves of a source are below the leaf of entries that has its entry in slot i: entries, the data of files and the
-- entries of directories in the even slots, records in the odd ones
abbrev pub ranks_below : ℕ → Bool → ℕ
ranks_below i dir = cond dir 32 (cond (nat_eq (i % 2) 0) 8 24)

-- Slot i of a block of this kind and rank names sources whose leaves have this rank.
abbrev pub NamesRank : Kind → (high i : ℕ) → Bool → (rank : ℕ) → Type 0
NamesRank (Data level) high i dir rank = ⊥
NamesRank (Dir zero) high i dir rank = rank + ranks_below i dir ≡ high
NamesRank (Dir (suc level)) high i dir rank = ⊥
NamesRank Root high i dir rank = rank + ranks_below i dir + 24 ≡ high

-- the tree of the source that an entry names
abbrev pub tree_of : Entry → ℕ → Tree
tree_of e rank = record { dir = e.dir; tag = e.tag; rank = rank; depth = e.depth; size = e.size; top = e.top }

-- An entry is one of a source of this tag and up to this length: in use, and with a top only where there are bytes. That its depth is the
-- least for its size is known of each entry that a block has.
pub record IsFit (e : Entry) (tag limit : ℕ) : Type 0 where
  pub used : e.active ≡ true
  pub tagged : e.tag ≡ tag
  pub within : e.size ≤ limit
  pub empty : e.size ≡ 0 → e.top ≡ Nil

-- What a device that tells has where a source is opened: the block with its entry hangs from block 1, at a place from which the leaves have
-- this rank; nothing was made to come in the place of what hangs below the entry; and no leaf of entries or of records is under a score.
pub record CanOpen (s : State) (at i : ℕ) (e : Entry) (rank : ℕ) : Type 0 where
  pub in_tree : Reaches s.now (to_block 1) at
  pub ranked : (p : Place) → s.stands at p → NamesRank p.kind p.rank i e.dir rank
  pub alone : (y x : ℕ) → s.instead y x → Reaches s.now (Head e) x → ⊥
  pub unheld : (IsPlainTree (tree_of e rank) → ⊥) → NoneHeld s (tree_of e rank)

-- Memory has an entry where a source may be opened from it.
pub record StandsIn (s : State) (e : Entry) (rank : ℕ) : Type 0 where
  pub at : ℕ
  pub i : ℕ
  pub is : (s.now at).slot i ≡ Head e
  pub can : CanOpen s at i e rank
