-- A leaf of any source is owned.
use Rattle.std.specs.Prelude.{◌≡◌, ◌⊎◌, ◌+◌, ◌*◌, ◌%◌, ◌≤◌, ℕ, List, max}
use Rattle.fo_sparse.specs.Written.{resized}
use Rattle.fo_ports.specs.State.{State}
use Rattle.fo_ports.specs.Sources.{Changes, Grows, Owned, Dirties, MayZero, most_to_own}
use Rattle.fo_tree_read.specs.declared.tree.Tree.{Tree}
use Rattle.fo_tree_look.specs.declared.ways.Kept.{Kept}
use Rattle.fo_tree_look.specs.Source.{Over, HasBlock, IsPlainTree, IsTopCurrent, form_of, leaves_of}
use Rattle.fo_tree_clear.specs.of_tree_down.Way.{IsTopOf}
use Rattle.fo_tree_clear.specs.of_tree_down.Clear.{EndsClear}

-- A leaf of a source was owned, and this is its tree now. Where a plain source grew, zeros stand behind the end that it had.
pub record OwnsZeroed (s u : State) (t new : Tree) (kept : List Kept) (i top at : ℕ) : Type 0 where
  pub owned : (generation limit : ℕ) → Owned (form_of t generation limit) t.size i at s u (leaves_of s t kept limit) (leaves_of u new kept limit)
  pub bytes : s.tells → IsPlainTree t ⊎ ((t.size % 8192 ≡ 0) ⊎ (8192 * (i + 1) ≤ t.size)) → (limit : ℕ) → (leaves_of u new kept limit).bytes ≡ resized ((leaves_of s t kept limit).bytes) (max t.size (8192 * (i + 1)))
  pub top_of : IsTopOf s u t top
  pub over : (limit : ℕ) → 8192 * (i + 1) ≤ limit → Over s t kept limit → Over u new kept limit
  pub grows : (limit : ℕ) → Grows s u (leaves_of s t kept limit) (leaves_of u new kept limit)
  pub changes : (generation limit : ℕ) → Changes t.tag (HasBlock s t) (MayZero (form_of t generation limit) t.size i s (leaves_of s t kept limit)) s u
  pub most : s.spare ≤ u.spare + most_to_own t.size i
  pub less : IsTopCurrent s t → s.spare + 1 ≤ u.spare + most_to_own t.size i
  pub dirties : Dirties (2 * most_to_own t.size i) (λ b. b ≡ at) s u
  pub current : IsTopCurrent u new
  pub clear : s.tells ⊎ (t.size ≤ 8192 * (i + 1)) → EndsClear s t kept → EndsClear u new kept
  pub room : u.room ≡ s.room
