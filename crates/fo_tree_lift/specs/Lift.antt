-- A source gets more levels, of which an older top is copied first.
use Rattle.std.specs.Prelude.{◌≡◌, ◌≢◌, ◌⊎◌, ◌+◌, ◌^◌, ◌<◌, ℕ, List, length}
use Rattle.fo_image.specs.declared.types.Pointer.{Pointer}
use Rattle.fo_image.specs.declared.types.Pointer.TheVariants.{Local}
use Rattle.fo_ports.specs.of_crash.Images.{SameContent}
use Rattle.fo_ports.specs.State.{State}
use Rattle.fo_ports.specs.Sources.{Made, ComesFor}
use Rattle.fo_tree_read.specs.declared.tree.Tree.{Tree}
use Rattle.fo_tree_read.specs.Tree.{block_at}
use Rattle.fo_tree_look.specs.declared.ways.Kept.{Kept}
use Rattle.fo_tree_look.specs.Source.{HasBlock, Prepared}
use Rattle.fo_tree_grow.specs.of_tree_down.Clear.{EndsClear}
use Rattle.fo_tree_grow.specs.of_tree_raise.Raise.{Bears}
use Rattle.fo_tree_grow.specs.of_tree_raise.Levels.{Adds, KeepsWays, grown}

-- The only leaf of a source is its top, was an older one, and was copied.
pub record IsCopied (s m : State) (t : Tree) (top old new : Pointer) : Type 0 where
  pub at : ℕ
  pub copy : ℕ
  pub only : t.depth ≡ 0
  pub was : old ≡ Local at
  pub is : new ≡ Local copy
  pub other : top ≢ Local copy
  pub older : (s.label at).epoch < s.high
  pub long : length ((s.now at).bytes) ≡ 8192
  pub made : Made s m copy
  pub content : SameContent (m.now copy) (s.now at)

-- The new top was given out, and is put nowhere yet.
pub record IsNewTop (s m : State) (top : Pointer) : Type 0 where
  pub at : ℕ
  pub is : top ≡ Local at
  pub made : Made s m at
  pub is_apart : m.apart at

-- What a new block comes in the place of: the source's top, where that was put into a slot or is older, or what that came in the place of.
abbrev pub InSteadOf : State → Tree → ℕ → Type 0
InSteadOf s t x = (c : ℕ) × (t.top ≡ Local c) × (((c ≡ x) × ((s.apart c → ⊥) ⊎ ((s.label c).epoch < s.high))) ⊎ s.instead c x)

-- So many levels were put above the top of a source, of which an older one was copied first. Only blocks differ that were given out. The
-- source stands over the blocks with its levels, and has the leaves that it had.
pub record Lifts (s m : State) (t : Tree) (kept : List Kept) (levels : ℕ) (top : Pointer) : Type 0 where
  pub adds : Adds t.tag (λ b. t.top ≡ Local b) s m
  pub new : IsNewTop s m top
  pub instead : (b x : ℕ) → Made s m b → m.instead b x → InSteadOf s t x
  pub comes : s.tells → (from : Pointer) → ComesFor s t.top from → ComesFor m top from
  pub only : s.tells → (y x : ℕ) → m.instead y x → (top ≡ Local y) ⊎ (s.instead y x × (t.top ≡ Local y → ⊥))
  pub bears : Bears m (grown t levels top) kept
  pub still : (limit o n : ℕ) → Prepared s t kept limit o n → Prepared m (grown t levels top) kept limit o n
  pub clear : EndsClear m (grown t levels top) kept
  pub ways : KeepsWays s m t kept levels top
  pub owns : s.tells → (b : ℕ) → (HasBlock m (grown t levels top) b → HasBlock s t b ⊎ Made s m b) × (Made s m b → HasBlock m (grown t levels top) b)
  pub stays : s.tells → (b : ℕ) → HasBlock s t b → (s.label b).epoch ≡ s.high → HasBlock m (grown t levels top) b
  pub leaves : s.tells → (k : ℕ) → k < 409 ^ t.depth → (block_at m (grown t levels top) (t.depth + levels) k ≡ block_at s t t.depth k) ⊎ IsCopied s m t top (block_at s t t.depth k) (block_at m (grown t levels top) (t.depth + levels) k)
