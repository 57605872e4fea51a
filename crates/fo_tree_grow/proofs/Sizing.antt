-- A tree seen with another size.
use Rattle.std.proofs.Common.{◌≡◌, ◌+◌, ◌-◌, ◌*◌, ◌/◌, ◌%◌, ◌^◌, ◌<◌, ◌≤◌, ℕ, zero, suc, Bool, true, false, cond, nat_le, nat_lt, List, None, ⊎_elim, refl, sym, ◌∙◌, ap, subst, arith}
use Rattle.std.proofs.lemmas.Bool.{cases_lt, leb-true, lt-ltb, le-ltb}
use Rattle.fo_image.specs.declared.types.Pointer.{Pointer}
use Rattle.fo_image.specs.declared.types.Pointer.TheVariants.{Nil, Local, Score as Held}
use Rattle.fo_ports.specs.State.{State}
use Rattle.fo_ports.specs.Sources.{depth_for}
use Rattle.fo_tree_raise.specs.of_tree_read.declared.tree.Tree.{Tree}
use Rattle.fo_tree_raise.specs.of_tree_read.Tree.{kind_at, kind_down, below, block_at, leaf_at, address_of, held_of}
use Rattle.fo_tree_leaf.specs.of_tree_look.declared.ways.Kept.{Kept}
use Rattle.fo_tree_leaf.specs.of_tree_look.Source.{HasBlock, Over, Prepared, Ready, WayReady, IsTopCurrent, address_here, held_here, seen}
use Rattle.fo_tree_leaf.proofs.of_tree_look.Held.{seen_address}
use Rattle.fo_tree_leaf.proofs.of_tree_down.Beside.{index_last, index_within}
use Rattle.fo_tree_leaf.proofs.of_tree_down.Stilling.{index_at}
use Rattle.fo_tree_leaf.proofs.of_tree_down.Ending.{index_order}
use Rattle.fo_tree_leaf.specs.of_tree_down.Clear.{EndsClear, last_leaf}
use Rattle.fo_tree_raise.proofs.Clear.{way_past, nothing_there}
use Rattle.fo_tree_grow.specs.Grow.{sized}

-- the least levels have room
pub room_for : (z : ℕ) → z ≤ 2 ^ 47 → z ≤ 8192 * 409 ^ depth_for z
room_for z low = by (nat_le z 8192) (nat_le z (8192 * 409)) (nat_le z (8192 * 409 ^ 2)) (nat_le z (8192 * 409 ^ 3)) refl refl refl refl
  where
    by : (a b c d : Bool) → nat_le z 8192 ≡ a → nat_le z (8192 * 409) ≡ b → nat_le z (8192 * 409 ^ 2) ≡ c → nat_le z (8192 * 409 ^ 3) ≡ d → z ≤ 8192 * 409 ^ (cond a 0 (cond b 1 (cond c 2 (cond d 3 4))))
    by true b c d e f g h = let le = leb-true z 8192 e in omega (arith, le)
    by false true c d e f g h = let le = leb-true z (8192 * 409) f in omega (arith, le)
    by false false true d e f g h = let le = leb-true z (8192 * 409 ^ 2) g in omega (arith, le)
    by false false false true e f g h = let le = leb-true z (8192 * 409 ^ 3) h in omega (arith, le)
    by false false false false e f g h = omega (arith, low)

module _ (s : State) (t : Tree) (z : ℕ) where
  pub sized_block : (n k : ℕ) → block_at s (sized t z) n k ≡ block_at s t n k
  sized_block zero k = refl
  sized_block (suc n) k = ap (λ (p : Pointer). below s (kind_down t n) p (k % 409)) (sized_block n (k / 409))

  pub has_sized : (b : ℕ) → HasBlock s t b → HasBlock s (sized t z) b
  has_sized b has = record { down = has.down; index = has.index; within = has.within; is = sized_block has.down has.index ∙ has.is }

  pub has_back : (b : ℕ) → HasBlock s (sized t z) b → HasBlock s t b
  has_back b has = record { down = has.down; index = has.index; within = has.within; is = sym (sized_block has.down has.index) ∙ has.is }

  pub top_sized : IsTopCurrent s t → IsTopCurrent s (sized t z)
  top_sized top = record { at = top.at; is = top.is; current = top.current }

  pub top_back : IsTopCurrent s (sized t z) → IsTopCurrent s t
  top_back top = record { at = top.at; is = top.is; current = top.current }

module _ (s : State) (t : Tree) (z : ℕ) (kept : List Kept) where
  ready_sized : (n : ℕ) (p : Pointer) → Ready s t kept n p → Ready s (sized t z) kept n p
  ready_sized n Nil is = is
  ready_sized n (Local b) is = is
  ready_sized n (Held score) is = is

  pub way_sized : (n k : ℕ) → WayReady s t kept n k → WayReady s (sized t z) kept n k
  way_sized zero k way = ready_sized zero t.top way
  way_sized (suc n) k way = (
    way_sized n (k / 409) way.0,
    subst (λ (p : Pointer). Ready s (sized t z) kept (suc n) p) (sym (sized_block (seen s kept) t z (suc n) k)) (ready_sized (suc n) (block_at (seen s kept) t (suc n) k) way.1),
  )

  pub over_sized : (limit : ℕ) → 0 < z → z ≤ limit → t.depth ≡ depth_for z → Over s t kept limit → Over s (sized t z) kept limit
  over_sized limit some within least over = record {
    hangs = record {
      few = over.hangs.few;
      room = let low = over.low in subst (λ d. z ≤ 8192 * 409 ^ d) (sym least) (room_for z (omega (arith, within, low)));
      low = over.hangs.low;
      is_one = over.hangs.is_one;
      told = over.hangs.told;
      rooted = over.hangs.rooted;
    };
    least = least;
    within = within;
    low = over.low;
    empty = λ (none : z ≡ 0). absurd (omega (arith, none, some));
    holds = over.holds;
    free = over.free;
    told = λ told at has. over.told told at (has_back s t z at has);
    unheld = λ told other i score e. over.unheld told other i score (sym (sized_block s t z t.depth i) ∙ e);
    held = over.held;
  }

  module _ (clear : EndsClear s t kept) (more : t.size ≤ z) (room : z ≤ 8192 * 409 ^ t.depth) where
    -- a leaf behind the last one was prepared
    pub way_to : (i : ℕ) → t.size ≤ 8192 * (i + 1) → i < 409 ^ t.depth → WayReady s (sized t z) kept t.depth i
    way_to i le few = way_sized t.depth i (way_past s t kept clear i le few)

    pub prepared_sized : (limit o n : ℕ) → Prepared s t kept limit o n → Prepared s (sized t z) kept limit o n
    prepared_sized limit o n was = record {
      each = λ k from to inside. ⊎_elim
          (λ lt. way_sized t.depth (k / 8192) (was.each k from to lt))
          (λ ge. way_to (k / 8192) (omega (arith, ge)) (omega (arith, inside, room)))
          (cases_lt k t.size);
      last = λ past some. way_to ((z - 1) / 8192) (omega (arith, more, some)) (omega (arith, some, room));
      end = was.end;
    }

    -- nothing stands behind the later end, either
    pub clear_sized : 0 < z → EndsClear s (sized t z) kept
    clear_sized some = record {
      empty = λ (none : z ≡ 0). absurd (omega (arith, none, some));
      way = λ again. way_to ((z - 1) / 8192) (omega (arith, more, some)) (omega (arith, some, room));
      behind = λ again n a b is lt few.
          sized_block (seen s kept) t z n b
          ∙ ⊎_elim
          (λ old.
          let first = index_at t.depth (last_leaf t.size) n (index_within t.depth (last_leaf z) n a is) in
          let le = index_order t.depth (last_leaf t.size) (last_leaf z) n first.0 a (omega (arith, more)) first.1 is in
          clear.behind old n first.0 b first.1 (omega (arith, le, lt)) few)
          (λ none. nothing_there s t kept (clear.empty (omega (arith, none))) n b)
          (cases_lt 0 t.size);
    }

    -- no leaf stands behind the end
    pub none_past : (j : ℕ) → t.size ≤ 8192 * j → j < 409 ^ t.depth → block_at (seen s kept) t t.depth j ≡ Nil
    none_past j past few = ⊎_elim
        (λ some. clear.behind some t.depth (last_leaf t.size) j (index_last t.depth (last_leaf t.size)) (omega (arith, past, some)) few)
        (λ none. nothing_there s t kept (clear.empty (omega (arith, none))) t.depth j)
        (cases_lt 0 t.size)

    leaf_past : (j : ℕ) → t.size ≤ 8192 * j → leaf_at (seen s kept) (sized t z) j ≡ Nil
    leaf_past j past = ⊎_elim
        (λ few. ap (λ c. cond c (block_at (seen s kept) (sized t z) t.depth j) Nil) (lt-ltb j (409 ^ t.depth) few) ∙ sized_block (seen s kept) t z t.depth j ∙ none_past j past few)
        (λ beyond. ap (λ c. cond c (block_at (seen s kept) (sized t z) t.depth j) Nil) (le-ltb j (409 ^ t.depth) beyond))
        (cases_lt j (409 ^ t.depth))

    seen_leaf_address : (j : ℕ) → address_of (leaf_at s (sized t z) j) ≡ address_of (leaf_at (seen s kept) (sized t z) j)
    seen_leaf_address j = by (nat_lt j (409 ^ t.depth))
      where
        by : (c : Bool) → address_of (cond c (block_at s (sized t z) t.depth j) Nil) ≡ address_of (cond c (block_at (seen s kept) (sized t z) t.depth j) Nil)
        by true = sym (seen_address s kept (sized t z) t.depth j)
        by false = refl

    both_none : (c : Bool) (p : Pointer) → p ≡ Nil → cond c (address_of p) None ≡ None
    both_none true p e = ap (λ (q : Pointer). address_of q) e
    both_none false p e = refl

    held_none : (c : Bool) (p : Pointer) → p ≡ Nil → cond c (held_of (seen s kept) (kind_at t.dir 0) p) None ≡ None
    held_none true p e = ap (λ (q : Pointer). held_of (seen s kept) (kind_at t.dir 0) q) e
    held_none false p e = refl

    -- the leaves of the source are those that it had
    pub address_sized : (j : ℕ) → address_here s (sized t z) j ≡ address_here s t j
    address_sized j = ⊎_elim
        (λ lt.
        let small : 8192 * j < z = omega (arith, lt, more) in
        ap (λ c. cond c (address_of (leaf_at s (sized t z) j)) None) (lt-ltb (8192 * j) z small)
        ∙ ap (λ (p : Pointer). address_of (cond (nat_lt j (409 ^ t.depth)) p Nil)) (sized_block s t z t.depth j)
        ∙ sym (ap (λ c. cond c (address_of (leaf_at s t j)) None) (lt-ltb (8192 * j) t.size lt)))
        (λ past.
        ap (λ a. cond (nat_lt (8192 * j) z) a None) (seen_leaf_address j)
        ∙ both_none (nat_lt (8192 * j) z) (leaf_at (seen s kept) (sized t z) j) (leaf_past j past)
        ∙ sym (ap (λ c. cond c (address_of (leaf_at s t j)) None) (le-ltb (8192 * j) t.size past)))
        (cases_lt (8192 * j) t.size)

    pub held_sized : (j : ℕ) → held_here s (sized t z) kept j ≡ held_here s t kept j
    held_sized j = ⊎_elim
        (λ lt.
        let small : 8192 * j < z = omega (arith, lt, more) in
        ap (λ c. cond c (held_of (seen s kept) (kind_at t.dir 0) (leaf_at (seen s kept) (sized t z) j)) None) (lt-ltb (8192 * j) z small)
        ∙ ap (λ (p : Pointer). held_of (seen s kept) (kind_at t.dir 0) (cond (nat_lt j (409 ^ t.depth)) p Nil)) (sized_block (seen s kept) t z t.depth j)
        ∙ sym (ap (λ c. cond c (held_of (seen s kept) (kind_at t.dir 0) (leaf_at (seen s kept) t j)) None) (lt-ltb (8192 * j) t.size lt)))
        (λ past.
        held_none (nat_lt (8192 * j) z) (leaf_at (seen s kept) (sized t z) j) (leaf_past j past)
        ∙ sym (ap (λ c. cond c (held_of (seen s kept) (kind_at t.dir 0) (leaf_at (seen s kept) t j)) None) (le-ltb (8192 * j) t.size past)))
        (cases_lt (8192 * j) t.size)
