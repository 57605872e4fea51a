-- A leaf is prepared, and then owned.
use Rattle.std.proofs.Common.{◌≡◌, ◌≢◌, ◌+◌, ◌*◌, ◌≤◌, ℕ, Bool, true, false, cond, nat_le, sym, ap, subst, ◌∙◌, arith}
use Rattle.fo_image.specs.declared.types.Label.{Label}
use Rattle.fo_ports.specs.State.{State, KeepsAll, Looks, none}
use Rattle.fo_ports.specs.Sources.{most_to_own, way_for}
use Rattle.fo_tree.specs.declared.source.Source.{Source}
use Rattle.fo_tree_read.specs.Tree.{kind_at}
use Rattle.fo_tree_shorten.specs.of_tree_open.Open.{HasEntry}
use Rattle.fo_tree_shorten.specs.Shorten.{EntryAt}
use Rattle.fo_tree_shorten.proofs.of_tree_trim.Least.{few_for}
use Rattle.fo_files_leaf.specs.declared.open.LeafOf.{LeafOf}
use Rattle.fo_files_leaf.specs.Alters.{Alters}
use Rattle.fo_files_leaf.specs.Leaf.{IsHolder, IsEntryIn, IsAbove, IsOwnLeaf, OwnsLeaf}
use Rattle.fo_files_leaf.proofs.Altering.{alters_looks, alters_wider, alters_joins}

-- how many blocks it takes at most to own a leaf
pub most_ten : (size i : ℕ) → most_to_own size i ≤ 10
most_ten size i = by (nat_le (8192 * (i + 1)) size)
  where
    by : (b : Bool) → cond b (way_for size) (2 * way_for (8192 * (i + 1))) ≤ 10
    by true = let few = few_for size in omega (arith, few)
    by false = let few = few_for (8192 * (i + 1)) in omega (arith, few)

pub enough_ten : (size i spare left : ℕ) → 10 ≤ spare → left ≡ spare → most_to_own size i ≤ left
enough_ten size i spare left ten same = let most = most_ten size i in omega (arith, most, ten, same)

pub took_ten : (size i old mid new : ℕ) → mid ≡ old → mid ≤ new + most_to_own size i → old ≤ new + 10
took_ten size i old mid new same took = let most = most_ten size i in omega (arith, most, same, took)

-- the entry of a source that was opened, after a look
pub entry_at : (s u : State) (w : LeafOf) (x : Source) → KeepsAll s u → Looks s u → IsHolder s w.at w.slot → IsEntryIn s x w.at w.slot → x.ways.tree.tag ≡ w.tag → (s.label w.at).tag ≢ w.tag → EntryAt u x.ways.tree x.ways.generation w.at w.slot
entry_at s u w x all looks holder entry tag apart =
    let same = looks.stays.labels w.at (λ n. n) in
    record {
      is = (looks.known w.at holder.is_pinned).slots w.slot ∙ entry.is;
      is_pinned = (looks.stays.marks w.at (λ n. n)).0 holder.is_pinned;
      live = ap (λ (l : Label). l.state) same ∙ holder.live;
      current = ap (λ (l : Label). l.epoch) same ∙ holder.current ∙ sym all.same_high;
      apart = λ e. apart (sym (ap (λ (l : Label). l.tag) same) ∙ e ∙ tag);
      leaf = subst (λ (l : Label). HasEntry l.kind w.slot) (sym same) holder.leaf;
      settled = λ h. entry.settled (looks.order.clearing w.at w.slot h).1;
    }

-- what a change leaves before which the source was looked at
pub looked_alters : (s m u : State) (w : LeafOf) (x : Source) → KeepsAll s m → s.pinned w.at → Looks s m → x.ways.tree.tag ≡ w.tag → x.ways.tree.dir ≡ w.is_dir
    → Alters w.at (λ k. k ≡ w.slot) (λ t. t ≡ x.ways.tree.tag) (IsAbove x.ways.tree.tag x.ways.tree.dir) none m u → Alters w.at (λ k. k ≡ w.slot) (λ t. t ≡ w.tag) (IsAbove w.tag w.is_dir) none s u
looked_alters s m u w x all pinned looks tag dir change = alters_joins all
    (alters_looks w.at (λ k. k ≡ w.slot) (λ t. t ≡ w.tag) (IsAbove w.tag w.is_dir) none s m pinned looks)
    (alters_wider (λ k h. h) (λ t h. h ∙ tag) (λ l h. (h.0 ∙ tag, λ e. h.1 (e ∙ sym (ap (λ d. kind_at d 0) dir)))) (λ b h. h) change)

-- what a leaf that was prepared and owned leaves
pub readied_alters : (s m u : State) (w : LeafOf) (x y : Source) (leaf : ℕ) → KeepsAll s m → s.pinned w.at → Looks s m → x.ways.tree.tag ≡ w.tag → x.ways.tree.dir ≡ w.is_dir
    → OwnsLeaf m u x y w.leaf w.at w.slot leaf → Alters w.at (λ k. k ≡ w.slot) (λ t. t ≡ w.tag) (IsAbove w.tag w.is_dir) none s u
readied_alters s m u w x y leaf all pinned looks tag dir owned = looked_alters s m u w x all pinned looks tag dir owned.alters

pub own_leaf_of : (u : State) (w : LeafOf) (x : Source) (leaf : ℕ) → x.ways.tree.tag ≡ w.tag → x.ways.tree.dir ≡ w.is_dir → IsOwnLeaf u x.ways.tree.tag x.ways.tree.dir leaf → IsOwnLeaf u w.tag w.is_dir leaf
own_leaf_of u w x leaf tag dir own = subst (λ t. IsOwnLeaf u t w.is_dir leaf) tag (subst (λ d. IsOwnLeaf u x.ways.tree.tag d leaf) dir own)
