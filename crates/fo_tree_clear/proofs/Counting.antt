-- What is put into a leaf leaves its block to be written.
use Rattle.std.specs.List.{Contains}
use Rattle.std.proofs.Common.{◌≡◌, ℕ, List, inl}
use Rattle.fo_ports.specs.of_crash.Images.{Image}
use Rattle.fo_image.specs.declared.types.Pointer.TheVariants.{Local}
use Rattle.fo_ports.specs.State.{State}
use Rattle.fo_ports.specs.Sources.{Dirties, DirtiesIn}
use Rattle.fo_tree_leaf.proofs.of_looks.Dirtied.{dirties_put}
use Rattle.fo_tree_leaf.specs.of_tree_read.declared.tree.Tree.{Tree}
use Rattle.fo_tree_leaf.specs.of_tree_read.Tree.{block_at}
use Rattle.fo_tree_leaf.specs.of_tree_down.Way.{OnWay, AddsWay}
use Rattle.fo_tree_leaf.proofs.of_tree_down.Next.{on_way_last}
use Rattle.fo_tree_clear.proofs.Putting.{BytesPut, label_same, same_slots}
use Rattle.fo_tree_clear.proofs.Same.{way_back}

module _ {s m u : State} {at : ℕ} {bytes : List ℕ} {beside : Image → Type 0} (put : BytesPut at bytes beside m u) (t : Tree) (n k : ℕ) (leads : block_at m t n k ≡ Local at) where
  counted : {blocks : List ℕ} → DirtiesIn blocks s m → ((b : ℕ) → OnWay m t n k b → Contains blocks b) → DirtiesIn blocks s u
  counted p has = dirties_put at put.all p (has at (on_way_last m t n k at leads)) put.calm.frame.dirty (label_same put) (λ b j h. inl (put.calm.order.clearing b j h).1)

  pub way_put : {most : ℕ} → Dirties most (λ b. OnWay m t n k b) s m → Dirties most (λ b. OnWay u t n k b) s u
  way_put p = record { blocks = p.blocks; few = p.few; within = counted p.within p.each; each = λ b on. p.each b (way_back (same_slots put) t n k b on) }

  pub ways_put : {most : ℕ} {blocks : List ℕ} → AddsWay most blocks s m t n k → AddsWay most blocks s u t n k
  ways_put p = record { more = p.more; few = p.few; within = counted p.within p.way; way = λ b on. p.way b (way_back (same_slots put) t n k b on) }
