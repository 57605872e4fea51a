-- What a test has of a source.
use Rattle.std.proofs.Common.{◌≡◌, ◌≢◌, ◌⊎◌, ◌+◌, ◌-◌, ◌*◌, ◌/◌, ◌%◌, ◌^◌, ◌<◌, ◌≤◌, ℕ, zero, suc, cond, nat_le, Bool, true, false, List, [], refl, sym, ◌∙◌, ap, subst, arith}
use Rattle.fo_image.specs.declared.types.Pointer.{Pointer}
use Rattle.fo_image.specs.declared.types.Pointer.TheVariants.{Nil, Local, Score as Held}
use Rattle.fo_image.specs.declared.types.Kind.TheVariants.{Data}
use Rattle.fo_image.specs.Format.{PointerHolds, kind_code}
use Rattle.fo_ports.specs.State.{State}
use Rattle.fo_ports.specs.Sources.{depth_for, way_for, most_for, most_to_own}
use Rattle.fo_tree_read.specs.declared.tree.Tree.{Tree}
use Rattle.fo_tree_read.specs.Tree.{kind_at, kind_down, below, block_at}
use Rattle.fo_tree_read.proofs.Walk.{held_apart}
use Rattle.fo_tree_look.specs.declared.ways.Kept.{Kept}
use Rattle.fo_tree_look.specs.Source.{Over, Prepared, WayReady, IsPlainTree}
use Rattle.fo_tree_down.specs.Clear.{EndsClear, last_leaf}
use Rattle.fo_tree_trim.proofs.Least.{few_for}
use Rattle.fo_image.specs.declared.types.Score.{Score}
use Rattle.fo_tree_look.specs.declared.ways.Ways.{Ways}
use Rattle.test_tree.specs.Rig.{Stands, Rig, IsNew, data_tree}

-- a top that stands on no device leads to no block there
module _ (s : State) (t : Tree) (off : (b : ℕ) → t.top ≢ Local b) where
  nil_local : (b : ℕ) → Nil ≢ Local b
  nil_local b e = cc

  step : (n : ℕ) (p : Pointer) (i b : ℕ) → ((a : ℕ) → p ≢ Local a) → below s (kind_down t n) p i ≢ Local b
  step n Nil i b none = nil_local b
  step n (Local a) i b none = λ e. none a refl
  step n (Held score) i b none = held_apart (s.held score (kind_code (kind_down t n))) i b

  never : (n k b : ℕ) → block_at s t n k ≢ Local b
  never zero k b = off b
  never (suc n) k b = step n (block_at s t n (k / 409)) (k % 409) b (never n (k / 409))

  pub over_off : t.depth ≤ 4 → t.size ≤ 8192 * 409 ^ t.depth → t.rank < 2 ^ 31 → t.depth ≡ depth_for t.size → t.size ≤ 2 ^ 40 → (t.size ≡ 0 → t.top ≡ Nil) → PointerHolds t.top → IsPlainTree t → Over s t [] (2 ^ 40)
  over_off few room low least within empty holds plain = record {
    hangs = record { few = few; room = room; low = low; is_one = λ b e. absurd (off b e); told = λ told b e. absurd (off b e); rooted = λ told b e. absurd (off b e) };
    least = least;
    within = within;
    low = omega arith;
    empty = empty;
    holds = holds;
    free = λ told b e. absurd (off b e);
    told = λ told b has. absurd (never has.down has.index b has.is);
    unheld = λ told other. absurd (other plain);
    held = tt;
  }

module _ {s : State} {t : Tree} {kept : List Kept} (limit : ℕ) (clear : EndsClear s t kept) where
  -- the way to what is put past the end, and to the last byte
  pub past_prepared : (i : ℕ) → t.size < 8192 * (i + 1) → 8192 * (i + 1) ≤ limit → Prepared s t kept limit (8192 * i) 8192
  past_prepared i past within = record {
    each = λ k from to lt. let e : last_leaf t.size ≡ k / 8192 = omega (arith, from, to, lt, past) in subst (λ y. WayReady s t kept t.depth y) e (clear.way (omega (arith, lt)));
    last = λ over some. clear.way some;
    end = omega (arith, within);
  }

  pub last_prepared : 0 < t.size → t.size ≤ limit → Prepared s t kept limit (t.size - 1) 1
  last_prepared some within = record {
    each = λ k from to lt. let e : last_leaf t.size ≡ k / 8192 = ap (λ y. y / 8192) (let is : t.size - 1 ≡ k = omega (arith, from, to, some) in is) in subst (λ y. WayReady s t kept t.depth y) e (clear.way some);
    last = λ over more. clear.way more;
    end = omega (arith, some, within);
  }

pub most_one : (size : ℕ) → most_for size 1 ≤ 15
most_one size = let few = few_for size in omega (arith, few)

pub most_own : (size i : ℕ) → most_to_own size i ≤ 10
most_own size i = by (nat_le (8192 * (i + 1)) size)
  where
    by : (b : Bool) → cond b (way_for size) (2 * way_for (8192 * (i + 1))) ≤ 10
    by true = let few = few_for size in omega (arith, few)
    by false = let few = few_for (8192 * (i + 1)) in omega (arith, few)

-- ---- a source as it is made

off_nil : (b : ℕ) → Nil ≢ Local b
off_nil b e = cc

off_held : (score : Score) (b : ℕ) → Held score ≢ Local b
off_held score b e = cc

over_new : (s : State) (t : Tree) (w : Ways) → IsNew t w → Over s t [] (2 ^ 40) → Over s w.tree w.kept.items w.limit
over_new s t w n over =
    subst (λ l. Over s w.tree w.kept.items l) (sym n.wide) (subst (λ (k : List Kept). Over s w.tree k (2 ^ 40)) (sym n.none) (subst (λ (y : Tree). Over s y [] (2 ^ 40)) (sym n.is) over))

stands_new : (s : State) (depth size : ℕ) (top : Pointer) (w : Ways) → IsNew (data_tree depth size top) w → Over s (data_tree depth size top) [] (2 ^ 40) → Stands s w
stands_new s depth size top w n over = record {
  over = over_new s (data_tree depth size top) w n over;
  plain = ap (λ (y : Tree). y.dir) n.is;
  rank = ap (λ (y : Tree). y.rank) n.is;
  wide = n.wide;
}

pub rig_new : (s : State) (w : Ways) → IsNew (data_tree 0 0 Nil) w → Rig s w
rig_new s w n = record {
  stands = stands_new s 0 0 Nil w n (over_off s (data_tree 0 0 Nil) off_nil (omega arith) (omega arith) (omega arith) refl (omega arith) (λ none. refl) tt (refl, λ e. absurd (omega (arith, e))));
  clear = subst (λ (y : Tree). EndsClear s y w.kept.items) (sym n.is) (record {
    empty = λ none. refl;
    way = λ (some : 0 < 0). absurd (omega (arith, some));
    behind = λ (some : 0 < 0). absurd (omega (arith, some));
  });
}

pub stands_held : (s : State) (score : Score) (w : Ways) → PointerHolds (Held score) → IsNew (data_tree 1 16389 (Held score)) w → Stands s w
stands_held s score w holds n = stands_new s 1 16389 (Held score) w n (over_off s (data_tree 1 16389 (Held score)) (off_held score) (omega arith) (omega arith) (omega arith) refl (omega arith) (λ (none : 16389 ≡ 0). absurd (omega (arith, none))) holds (refl, λ e. absurd (omega (arith, e))))
