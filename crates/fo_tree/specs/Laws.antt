-- Why a source in a tree keeps the laws.
use Rattle.std.specs.Prelude.{◌≡◌, ◌+◌, ◌*◌, ◌≤◌, ◌↔◌, ℕ, List, Some, None}
use Rattle.std.proofs.Common.{arith}
use Rattle.fo_image.specs.declared.types.Pointer.TheVariants.{Local}
use Rattle.fo_image.specs.declared.types.State.TheVariants.{Live}
use Rattle.fo_crash.specs.declared.place.Place.{Place}
use Rattle.fo_crash.specs.Places.{place, IsPlaced, OnePlace, super_place}
use Rattle.fo_ports.specs.State.{State, KeepsAll}
use Rattle.fo_ports.specs.Sources.{IsReady, StaysReady, Undisturbed}
use Rattle.fo_tree_read.specs.declared.tree.Tree.{Tree}
use Rattle.fo_tree_read.specs.Tree.{kind_at}
use Rattle.fo_tree_look.specs.declared.ways.Kept.{Kept}
use Rattle.fo_tree_look.specs.Source.{Over, IsPlainTree, HasBlock, Prepared, IsTopCurrent, address_here, held_here, leaves_of}
use Rattle.fo_tree_look.proofs.Places.{is_here, here_owned, none_here, leaf_there, leaves_apart, leaf_at_place, block_tag}
use Rattle.fo_tree_look.proofs.Shown.{address_past, held_past}
use Rattle.fo_tree_look.proofs.Still.{Says, part_prepared, source_prepared, top_stays, address_kept, held_kept, blocks_back, blocks_on, over_stays}
use Rattle.fo_tree_link.specs.of_tree_down.Clear.{EndsClear}
use Rattle.fo_tree_trim.proofs.Holding.{clear_on, holds_stays}

pub none_held_at : (s : State) (t : Tree) (kept : List Kept) (limit : ℕ) → Over s t kept limit → s.tells → (IsPlainTree t → ⊥) → (i : ℕ) → held_here s t kept i ≡ None
none_held_at s t kept limit over told other i = none_here s t kept over.held told (over.unheld told other) i

pub none_from : (s : State) (t : Tree) (kept : List Kept) (i : ℕ) → t.size ≤ 8192 * i → (address_here s t i ≡ None) × (held_here s t kept i ≡ None)
none_from s t kept i past = (address_past s t i past, held_past s t kept i past)

pub leaf_has : (s : State) (t : Tree) (i at : ℕ) → address_here s t i ≡ Some at → HasBlock s t at
leaf_has s t i at e = here_owned (is_here s t i at e)

pub top_has : (s : State) (t : Tree) (at : ℕ) → t.top ≡ Local at → HasBlock s t at
top_has s t at e = record { down = 0; index = 0; within = omega arith; is = e }

pub stands_at : (s : State) (t : Tree) (kept : List Kept) (limit : ℕ) → IsPlaced s.stands s.now → Over s t kept limit → s.tells → (i at : ℕ) → address_here s t i ≡ Some at → (p : Place) × s.stands at p
stands_at s t kept limit placed over told i at e = (place (kind_at t.dir 0) t.tag i t.rank, leaf_there s t placed over.hangs told i at (is_here s t i at e))

pub two_apart : (s : State) (t : Tree) (kept : List Kept) (limit : ℕ) → IsPlaced s.stands s.now → OnePlace s.stands → Over s t kept limit → s.tells → (i j at : ℕ) → address_here s t i ≡ Some at → address_here s t j ≡ Some at → i ≡ j
two_apart s t kept limit placed one over told i j at e f = leaves_apart s t placed one over.hangs told i j at e f

pub place_at : (s : State) (t : Tree) (kept : List Kept) (limit : ℕ) → IsPlaced s.stands s.now → OnePlace s.stands → Over s t kept limit → s.tells → (i at : ℕ) (p : Place) → address_here s t i ≡ Some at → s.stands at p → (p.kind ≡ kind_at t.dir 0) × (p.tag ≡ t.tag) × (p.rank ≡ t.rank)
place_at s t kept limit placed one over told i at p e stands = leaf_at_place s t placed one over.hangs told i at p e stands

pub tag_at : (s : State) (t : Tree) (kept : List Kept) (limit : ℕ) → IsPlaced s.stands s.now → OnePlace s.stands → Over s t kept limit → s.tells → (at : ℕ) (p : Place) → HasBlock s t at → s.stands at p → p.tag ≡ t.tag
tag_at s t kept limit placed one over told at p has stands = block_tag s t placed one over.hangs told at p has stands

pub live_at : (s : State) (t : Tree) (kept : List Kept) (limit : ℕ) → Over s t kept limit → s.tells → (at : ℕ) → HasBlock s t at → ((s.label at).state ≡ Live) × ((s.label at).epoch ≤ s.high) × (s.covered at → ⊥)
live_at s t kept limit over told at has = let is = over.told told at has in (is.live, is.up_to, is.uncovered)

pub says_of : (s : State) → IsPlaced s.stands s.now → OnePlace s.stands → s.stands 1 super_place → ((at : ℕ) (p : Place) → (at ≡ 1 → ⊥) → s.stands at p → (s.label at).kind ≡ p.kind) → s.tops 1 → Says s
says_of s placed one super labelled active = record { placed = placed; one = one; super_stands = super; labelled = labelled; active = active }

pub keeps_over : (a b : State) (t : Tree) (kept : List Kept) (limit : ℕ) → KeepsAll a b → Over a t kept limit → (a.tells → Says a) → (a.tells → Undisturbed (leaves_of a t kept limit) t.size a b) → Over b t kept limit
keeps_over a b t kept limit all over says still = over_stays a b t kept limit all over says still

pub keeps_leaves : (a b : State) (t : Tree) (kept : List Kept) (limit : ℕ) → KeepsAll a b → Over a t kept limit → a.tells → Says a → Undisturbed (leaves_of a t kept limit) t.size a b
    → ((i : ℕ) → (address_here b t i ≡ address_here a t i) × (held_here b t kept i ≡ held_here a t kept i)) × ((at : ℕ) → HasBlock b t at ↔ HasBlock a t at)
keeps_leaves a b t kept limit all over told says still = (
  λ i. (address_kept a b t kept limit all over told says still i, held_kept a b t kept limit all over told says still i),
  λ at. (blocks_back a b t kept limit all over told says still at, blocks_on a b t kept limit all over told says still at),
)

pub keeps_current : (a b : State) (t : Tree) → KeepsAll a b → ((at : ℕ) → HasBlock a t at → b.label at ≡ a.label at) → IsTopCurrent a t → IsTopCurrent b t
keeps_current a b t all same top = top_stays a b t all same top

pub keeps_clear : (a b : State) (t : Tree) (kept : List Kept) → KeepsAll a b → ((at : ℕ) → IsReady t.tag a at → StaysReady a b at) → EndsClear a t kept → EndsClear b t kept
keeps_clear a b t kept all ready clear = clear_on (holds_stays a b t kept all ready) clear

pub keeps_prepared : (a b : State) (t : Tree) (kept : List Kept) (limit : ℕ) → KeepsAll a b → ((at : ℕ) → IsReady t.tag a at → StaysReady a b at) → (o n : ℕ) → Prepared a t kept limit o n → Prepared b t kept limit o n
keeps_prepared a b t kept limit all ready o n was = source_prepared t kept a b all ready limit o n was

pub part_of : (s : State) (t : Tree) (kept : List Kept) (limit o n p m : ℕ) → Prepared s t kept limit o n → o ≤ p → p + m ≤ o + n → Prepared s t kept limit p m × (o + n ≤ limit)
part_of s t kept limit o n p m was from to = (part_prepared p m was from to, was.end)
