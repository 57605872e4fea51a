-- What the entry of a source would lead to, once its way was made current.
use Rattle.std.specs.Prelude.{◌≡◌, ◌⊎◌, ◌+◌, ◌<◌, ℕ}
use Rattle.fo_image.specs.declared.types.Entry.{Entry}
use Rattle.fo_image.specs.declared.types.Kind.TheVariants.{Dir, Root}
use Rattle.fo_tree_own.specs.of_crash.declared.slot.Slot.TheVariants.{Entry as Head}
use Rattle.fo_tree_own.specs.of_crash.declared.place.Place.{Place}
use Rattle.fo_tree_own.specs.of_crash.Images.{Reaches, to_block}
use Rattle.fo_tree_own.specs.of_crash.Places.{place, place_below}
use Rattle.fo_tree_own.specs.of_shown.Alike.{LeadsAlike}
use Rattle.fo_tree_look.specs.of_ports.State.{State}
use Rattle.fo_tree_look.specs.of_tree_read.declared.tree.Tree.{Tree}
use Rattle.fo_tree_look.specs.of_tree_read.Tree.{kind_at}

-- An entry is one of a source of this form, whatever its top and its size.
abbrev pub IsFormed : Tree → Entry → Type 0
IsFormed t e = (e.dir ≡ t.dir) × (e.depth ≡ t.depth) × (e.tag ≡ t.tag)

-- Slot i of block `at`, which hangs from block 1, is one of entries above the blocks of a source, and names a source of this form.
pub record HoldsEntry (s : State) (t : Tree) (at i : ℕ) : Type 0 where
  pub there : Place
  pub stands : s.stands at there
  pub names : (there.kind ≡ Dir 0) ⊎ (there.kind ≡ Root)
  pub below : (e : Entry) → IsFormed t e → place_below there i (Head e) ≡ place (kind_at t.dir t.depth) t.tag 0 (t.rank + t.depth)
  pub above : t.rank + 4 < there.rank
  pub in_tree : Reaches s.now (to_block 1) at
  pub uncovered : s.covered at → ⊥

-- An entry with the source's top leads from this slot to no more of leaves of records than memory's slot.
abbrev pub EntryAlike : State → Tree → (at i : ℕ) → Type 0
EntryAlike s t at i = (e : Entry) → IsFormed t e → e.top ≡ t.top → LeadsAlike s.may_leave s.now at i (Head e)

-- Where an entry with the source's top led to no more than memory's slot, one with the new top doesn't either.
pub record KeepsAlike (s u : State) (t new : Tree) : Type 0 where
  pub each : s.tells → (at i : ℕ) → HoldsEntry s t at i → EntryAlike s t at i → HoldsEntry u new at i × EntryAlike u new at i
