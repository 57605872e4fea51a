-- A source is seen with a size past its end: nothing stands between that end and it, and it has the levels for it.
use Rattle.std.specs.Prelude.{◌≡◌, ◌⊎◌, ◌+◌, ◌^◌, ◌<◌, ◌≤◌, ℕ, List, map}
use Rattle.std.specs.List.{range_with_len}
use Rattle.fo_image.specs.declared.types.Pointer.{Pointer}
use Rattle.fo_image.specs.declared.types.Pointer.TheVariants.{Local}
use Rattle.fo_ports.specs.State.{State}
use Rattle.fo_ports.specs.Sources.{Made, ComesFor}
use Rattle.fo_tree_read.specs.declared.tree.Tree.{Tree}
use Rattle.fo_tree_look.specs.declared.ways.Kept.{Kept}
use Rattle.fo_tree_look.specs.Source.{HasBlock, Over, Prepared, WayReady, IsTopCurrent, leaves_of}
use Rattle.fo_tree_clear.specs.of_tree_down.Way.{OnWay}
use Rattle.fo_tree_clear.specs.of_tree_down.Clear.{EndsClear}
use Rattle.fo_tree_lift.specs.of_tree_raise.Levels.{Adds}
use Rattle.fo_tree_lift.specs.Lift.{InSteadOf}
use Rattle.fo_tree_clear.specs.Put.{byte_here}
use Rattle.fo_tree_append.specs.Rises.{Rises}

-- What both have in common: the source with its new tree stands over the blocks and has what it had.
pub record Sees (s m : State) (t new : Tree) (kept : List Kept) : Type 0 where
  pub deeper : t.depth ≤ new.depth
  pub over : (limit : ℕ) → new.size ≤ limit → Over s t kept limit → Over m new kept limit
  pub still : (limit o n : ℕ) → Prepared s t kept limit o n → Prepared m new kept limit o n
  pub clear : EndsClear m new kept
  pub ways : (j b : ℕ) → j < 409 ^ new.depth → (j < 409 ^ t.depth → WayReady s t kept t.depth j) → OnWay m new new.depth j b → ((j < 409 ^ t.depth) × OnWay s t t.depth j b) ⊎ Made s m b
  pub owns : s.tells → (b : ℕ) → (HasBlock m new b → HasBlock s t b ⊎ Made s m b) × (Made s m b → HasBlock m new b)
  pub stays : s.tells → (b : ℕ) → HasBlock s t b → (s.label b).epoch ≡ s.high → HasBlock m new b
  pub comes : s.tells → (from : Pointer) → ComesFor s t.top from → ComesFor m new.top from
  pub only : s.tells → (y x : ℕ) → m.instead y x → (new.top ≡ Local y) ⊎ (s.instead y x × (t.top ≡ Local y → ⊥))

-- Levels were put above the source's top, or none had to be.
pub record RaisedTo (s m : State) (t new : Tree) (kept : List Kept) : Type 0 where
  pub sees : Sees s m t new kept
  pub bytes : s.tells → (k : ℕ) → byte_here m new kept k ≡ byte_here s t kept k
  pub adds : Adds t.tag (λ b. t.top ≡ Local b) s m
  pub stead : (b x : ℕ) → Made s m b → m.instead b x → InSteadOf s t x
  pub spent : ((s.spare ≤ m.spare) × (IsTopCurrent s t → IsTopCurrent m new)) ⊎ (IsTopCurrent m new × (s.spare + t.depth ≤ m.spare + (new.depth + 1)) × (IsTopCurrent s t → s.spare + t.depth ≤ m.spare + new.depth))

-- The end was zeroed first, within the leaf in which it stood.
pub record GrownTo (s m : State) (t new : Tree) (kept : List Kept) : Type 0 where
  pub sees : Sees s m t new kept
  pub bytes : s.tells → (limit : ℕ) → map (λ k. byte_here m new kept k) (range_with_len 0 t.size) ≡ (leaves_of s t kept limit).bytes
  pub zeros : s.tells → (k : ℕ) → t.size ≤ k → byte_here m new kept k ≡ 0
  pub rises : Rises t.tag (HasBlock s t) (HasBlock s t) s m
  pub spent : (s.spare ≤ m.spare) ⊎ (IsTopCurrent m new × (s.spare ≤ m.spare + (new.depth + 1)))
