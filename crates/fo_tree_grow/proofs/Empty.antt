-- A source that has no block.
use Rattle.std.proofs.Common.{◌≡◌, ◌≢◌, ◌⊎◌, ◌+◌, ◌-◌, ◌*◌, ◌/◌, ◌%◌, ◌^◌, ◌<◌, ◌≤◌, ℕ, zero, suc, Bool, true, false, cond, nat_le, nat_lt, List, Option, None, inl, inr, ⊎_elim, refl, sym, ◌∙◌, ap, subst, arith}
use Rattle.std.proofs.lemmas.Bool.{cases_lt, leb-false}
use Rattle.fo_image.specs.declared.types.Pointer.{Pointer}
use Rattle.fo_image.specs.declared.types.Pointer.TheVariants.{Nil, Local, Score as Held}
use Rattle.fo_image.specs.Format.{IsDepth}
use Rattle.fo_ports.specs.State.{State}
use Rattle.fo_ports.specs.Sources.{depth_for, byte_at}
use Rattle.fo_tree_raise.specs.of_tree_read.declared.tree.Tree.{Tree}
use Rattle.fo_tree_raise.specs.of_tree_read.Tree.{kind_at, kind_down, below, block_at, leaf_at, address_of, held_of}
use Rattle.fo_tree_leaf.specs.of_tree_look.declared.ways.Kept.{Kept}
use Rattle.fo_tree_leaf.specs.of_tree_look.Source.{HasBlock, NoneHeld, Over, Prepared, address_here, held_here, seen}
use Rattle.fo_tree_leaf.specs.of_tree_down.Alike.{KeepsAlike}
use Rattle.fo_tree_leaf.proofs.of_tree_down.Alikes.{alike_empty}
use Rattle.fo_tree_leaf.specs.of_tree_down.Clear.{EndsClear, last_leaf}
use Rattle.fo_tree_raise.proofs.Clear.{nothing_there, way_nothing}
use Rattle.fo_tree_grow.specs.Grow.{shaped, TailClear}
use Rattle.fo_tree_grow.proofs.Sizing.{room_for}

-- the least depth, as the format says it
pub least_for : (z : ℕ) → z ≤ 2 ^ 47 → IsDepth z (depth_for z)
least_for z low = record { room = room_for z low; least = by (nat_le z 8192) (nat_le z (8192 * 409)) (nat_le z (8192 * 409 ^ 2)) (nat_le z (8192 * 409 ^ 3)) refl refl refl refl }
  where
    few : (n : ℕ) → n < 4 → (8192 * 409 ^ n ≤ 8192) ⊎ (n ≢ 0)
    few n lt = ⊎_elim (λ some. inr (omega (arith, some))) (λ none. let zero_is : n ≡ 0 = omega (arith, none) in inl (subst (λ d. 8192 * 409 ^ d ≤ 8192) (sym zero_is) (omega arith))) (cases_lt 0 n)

    at : (n a : ℕ) → n ≡ a → 8192 * 409 ^ a < z → 8192 * 409 ^ n < z
    at n a e lt = subst (λ d. 8192 * 409 ^ d < z) (sym e) lt

    zero_lt : nat_le z 8192 ≡ false → 8192 * 409 ^ 0 < z
    zero_lt e = let lt = leb-false z 8192 e in omega (arith, lt)

    by : (a b c d : Bool) → nat_le z 8192 ≡ a → nat_le z (8192 * 409) ≡ b → nat_le z (8192 * 409 ^ 2) ≡ c → nat_le z (8192 * 409 ^ 3) ≡ d → (n : ℕ) → n < cond a 0 (cond b 1 (cond c 2 (cond d 3 4))) → 8192 * 409 ^ n < z
    by true b c d e f g h n lt = absurd (omega (arith, lt))
    by false true c d e f g h n lt = at n 0 (omega (arith, lt)) (zero_lt e)
    by false false true d e f g h n lt = ⊎_elim
        (λ small. at n 0 (omega (arith, small)) (zero_lt e))
        (λ big. at n 1 (omega (arith, big, lt)) (let past = leb-false z (8192 * 409) f in omega (arith, past)))
        (cases_lt n 1)
    by false false false true e f g h n lt = ⊎_elim
        (λ small. at n 0 (omega (arith, small)) (zero_lt e))
        (λ big. ⊎_elim
        (λ one. at n 1 (omega (arith, big, one)) (let past = leb-false z (8192 * 409) f in omega (arith, past)))
        (λ two. at n 2 (omega (arith, two, lt)) (let past = leb-false z (8192 * 409 ^ 2) g in omega (arith, past)))
        (cases_lt n 2))
        (cases_lt n 1)
    by false false false false e f g h n lt = ⊎_elim
        (λ small. at n 0 (omega (arith, small)) (zero_lt e))
        (λ big. ⊎_elim
        (λ one. at n 1 (omega (arith, big, one)) (let past = leb-false z (8192 * 409) f in omega (arith, past)))
        (λ two. ⊎_elim
        (λ small. at n 2 (omega (arith, two, small)) (let past = leb-false z (8192 * 409 ^ 2) g in omega (arith, past)))
        (λ three. at n 3 (omega (arith, three, lt)) (let past = leb-false z (8192 * 409 ^ 3) h in omega (arith, past)))
        (cases_lt n 3))
        (cases_lt n 2))
        (cases_lt n 1)

nil_local : (b : ℕ) → Nil ≡ Local b → ⊥
nil_local b e = cc

module _ (s : State) (t : Tree) (empty : t.top ≡ Nil) where
  pub clear_none : (kept : List Kept) → EndsClear s t kept
  clear_none kept = record {
    empty = λ none. empty;
    way = λ some. way_nothing s t kept empty t.depth (last_leaf t.size);
    behind = λ some n a b is lt few. nothing_there s t kept empty n b;
  }

  pub none_at : (n k : ℕ) → block_at s t n k ≡ Nil
  none_at zero k = empty
  none_at (suc n) k = ap (λ (p : Pointer). below s (kind_down t n) p (k % 409)) (none_at n (k / 409))

  pub has_none : (b : ℕ) → HasBlock s t b → ⊥
  has_none b has = nil_local b (sym (none_at has.down has.index) ∙ has.is)

  leaf_none : (j : ℕ) → leaf_at s t j ≡ Nil
  leaf_none j = by (nat_lt j (409 ^ t.depth))
    where
      by : (c : Bool) → cond c (block_at s t t.depth j) Nil ≡ Nil
      by true = none_at t.depth j
      by false = refl

  pub address_none : (j : ℕ) → address_here s t j ≡ None
  address_none j = by (nat_lt (8192 * j) t.size) (address_of (leaf_at s t j)) (ap (λ (p : Pointer). address_of p) (leaf_none j))
    where
      by : (c : Bool) (a : Option ℕ) → a ≡ None → cond c a None ≡ None
      by true a e = e
      by false a e = refl

  pub unheld_none : NoneHeld s t
  unheld_none i score e = let f : Nil ≡ Held score = sym (none_at t.depth i) ∙ e in cc

pub held_none : (s : State) (t : Tree) (kept : List Kept) → t.top ≡ Nil → (j : ℕ) → held_here s t kept j ≡ None
held_none s t kept empty j = by (nat_lt (8192 * j) t.size) (held_of (seen s kept) (kind_at t.dir 0) (leaf_at (seen s kept) t j)) (ap (λ (p : Pointer). held_of (seen s kept) (kind_at t.dir 0) p) (leaf_none (seen s kept) t empty j))
  where
    by : (c : Bool) (h : Option (List ℕ)) → h ≡ None → cond c h None ≡ None
    by true h e = e
    by false h e = refl

module _ (s : State) (t : Tree) (kept : List Kept) (empty : t.top ≡ Nil) where
  pub over_shaped : (limit d z : ℕ) → 0 < z → z ≤ limit → d ≡ depth_for z → d ≤ 4 → Over s t kept limit → Over s (shaped t d z) kept limit
  over_shaped limit d z some within least few over = record {
    hangs = record {
      few = few;
      room = let low = over.low in subst (λ e. z ≤ 8192 * 409 ^ e) (sym least) (room_for z (omega (arith, within, low)));
      low = over.hangs.low;
      is_one = λ at e. absurd (nil_local at (sym empty ∙ e));
      told = λ told at e. absurd (nil_local at (sym empty ∙ e));
      rooted = λ told at e. absurd (nil_local at (sym empty ∙ e));
    };
    least = least;
    within = within;
    low = over.low;
    empty = λ none. empty;
    holds = over.holds;
    free = over.free;
    told = λ told at has. absurd (has_none s (shaped t d z) empty at has);
    unheld = λ told other. unheld_none s (shaped t d z) empty;
    held = over.held;
  }

  pub prepared_any : (d z limit o n : ℕ) → o + n ≤ limit → Prepared s (shaped t d z) kept limit o n
  prepared_any d z limit o n end = record {
    each = λ k from to inside. way_nothing s (shaped t d z) kept empty d (k / 8192);
    last = λ past some. way_nothing s (shaped t d z) kept empty d ((z - 1) / 8192);
    end = end;
  }

  pub tail_none : TailClear s t kept
  tail_none plain k past =
      ap (λ a. byte_at s.now a (held_here s t kept (k / 8192)) (k % 8192)) (address_none s t empty (k / 8192))
      ∙ ap (λ h. byte_at s.now None h (k % 8192)) (held_none s t kept empty (k / 8192))

  pub byte_none : (k : ℕ) → byte_at s.now (address_here s t (k / 8192)) (held_here s t kept (k / 8192)) (k % 8192) ≡ 0
  byte_none k =
      ap (λ a. byte_at s.now a (held_here s t kept (k / 8192)) (k % 8192)) (address_none s t empty (k / 8192))
      ∙ ap (λ h. byte_at s.now None h (k % 8192)) (held_none s t kept empty (k / 8192))

-- up to four levels
pub few_for : (z : ℕ) → depth_for z ≤ 4
few_for z = by (nat_le z 8192) (nat_le z (8192 * 409)) (nat_le z (8192 * 409 ^ 2)) (nat_le z (8192 * 409 ^ 3))
  where
    by : (a b c d : Bool) → cond a 0 (cond b 1 (cond c 2 (cond d 3 4))) ≤ 4
    by true b c d = omega arith
    by false true c d = omega arith
    by false false true d = omega arith
    by false false false true = omega arith
    by false false false false = omega arith

-- A source without a block got other levels and another size, and then a way.
pub alike_first : {s u : State} {t new : Tree} (depth size : ℕ) → t.top ≡ Nil → KeepsAlike s u (shaped t depth size) new → KeepsAlike s u t new
alike_first depth size none keeps = record {
  each = λ told at i holds alike. let on = (alike_empty depth size none).each told at i holds alike in keeps.each told at i on.0 on.1;
}
