-- What is clear behind the end of a source stays so where a way below the end is made current.
use Rattle.std.proofs.Common.{◌≡◌, ◌⊎◌, ◌+◌, ◌-◌, ◌*◌, ◌/◌, ◌%◌, ◌^◌, ◌<◌, ◌≤◌, ℕ, zero, suc, List, inr, ⊎_elim, sym, ◌∙◌, ap, subst, arith}
use Rattle.std.proofs.lemmas.Bool.{cases_eq}
use Rattle.std.proofs.Math.Nat.{pow-succ'}
use Rattle.fo_image.specs.declared.types.Pointer.{Pointer}
use Rattle.fo_image.specs.declared.types.Pointer.TheVariants.{Nil}
use Rattle.fo_tree_look.specs.of_ports.State.{State}
use Rattle.fo_tree_look.specs.of_tree_read.declared.tree.Tree.{Tree}
use Rattle.fo_tree_look.specs.of_tree_read.Tree.{kind_down, below, block_at}
use Rattle.fo_tree_look.specs.declared.ways.Kept.{Kept}
use Rattle.fo_tree_look.specs.Source.{AllHeld, WayReady, Prepared, seen}
use Rattle.fo_tree_look.proofs.Held.{seen_block}
use Rattle.fo_tree_down.specs.Way.{IsWayIndex, StaysBeside, with_top}
use Rattle.fo_tree_down.specs.Clear.{EndsClear, last_leaf}
use Rattle.fo_tree_down.proofs.Next.{local_seen}
use Rattle.fo_tree_down.proofs.Beside.{index_last, index_within, way_step}
use Rattle.fo_tree_down.proofs.Stilling.{WasOwned, index_one, prepared_still}

-- the block above one of the way is one, too
pub index_above : (n k m a : ℕ) → IsWayIndex n k (suc m) a → IsWayIndex n k m (a / 409)
index_above zero k m a is = absurd (let e : suc m ≡ 0 = is.0 in omega (arith, e))
index_above (suc n) k m a is = ⊎_elim
    (λ here.
    let e = here.0 in
    let level : n ≡ m = omega (arith, e) in
    inr (subst (λ x. IsWayIndex n (k / 409) x (a / 409)) level (subst (λ y. IsWayIndex n (k / 409) n (y / 409)) (sym here.1) (index_last n (k / 409)))))
    (λ up. inr (index_above n (k / 409) m a up))
    is

-- a way to a later block goes by later ones
pub index_order : (n k l m i j : ℕ) → k ≤ l → IsWayIndex n k m i → IsWayIndex n l m j → i ≤ j
index_order zero k l m i j le first second = let a = first.1 in let b = second.1 in omega (arith, le, a, b)
index_order (suc n) k l m i j le first second = ⊎_elim
    (λ here. ⊎_elim
    (λ there. let a = here.1 in let b = there.1 in omega (arith, le, a, b))
    (λ up. let low = index_within n (l / 409) m j up in let e = here.0 in absurd (omega (arith, low, e)))
    second)
    (λ up. ⊎_elim
    (λ there. let low = index_within n (k / 409) m i up in let e = there.0 in absurd (omega (arith, low, e)))
    (λ more. index_order n (k / 409) (l / 409) m i j (omega (arith, le)) up more)
    second)
    first

module _ {s u : State} {t : Tree} {kept : List Kept} {top n k at : ℕ} (x : WasOwned s u t kept top n k at) (whole : n ≡ t.depth) (inside : 8192 * k < t.size) (clear : EndsClear s t kept) where
  some : 0 < t.size
  some = omega (arith, inside)

  way_on : WayReady u (with_top t top) kept t.depth (last_leaf t.size)
  way_on =
      let was : Prepared s t kept t.size (t.size - 1) 1 = record {
        each = λ i from to below. let e : t.size - 1 ≡ i = omega (arith, from, to, inside) in subst (λ y. WayReady s t kept t.depth (y / 8192)) e (clear.way some);
        last = λ past less. clear.way less;
        end = omega (arith, inside);
      } in
      (prepared_still x t.size (t.size - 1) 1 was).each (t.size - 1) (omega arith) (omega (arith, inside)) (omega (arith, inside))

  -- where the way to the last leaf itself was made current, over any device
  behind_last : k ≡ last_leaf t.size → (m a b : ℕ) → IsWayIndex t.depth (last_leaf t.size) m a → a < b → b < 409 ^ m → block_at (seen u kept) (with_top t top) m b ≡ Nil
  behind_last is zero a b way lt few = absurd (omega (arith, lt, few))
  behind_last is (suc m) a b way lt few =
      let more : 409 ^ suc m ≡ 409 * 409 ^ m = pow-succ' 409 m in
      let above = index_above t.depth (last_leaf t.size) m a way in
      let low = index_within t.depth (last_leaf t.size) (suc m) a way in
      ⊎_elim
      (λ e.
      let on : IsWayIndex n k m (a / 409) = subst (λ d. IsWayIndex d k m (a / 409)) (sym whole) (subst (λ l. IsWayIndex t.depth l m (a / 409)) (sym is) above) in
      let end : IsWayIndex n k (suc m) a = subst (λ d. IsWayIndex d k (suc m) a) (sym whole) (subst (λ l. IsWayIndex t.depth l (suc m) a) (sym is) way) in
      let w = way_step s u t kept top n k at m (a / 409) x.leads x.last on in
      let index : 409 * (a / 409) + b % 409 ≡ b = omega (arith, e) in
      ap (λ y. below (seen u kept) (kind_down t m) (block_at (seen u kept) (with_top t top) m y) (b % 409)) (sym e)
      ∙ ap (λ (p : Pointer). below (seen u kept) (kind_down t m) p (b % 409)) (local_seen u kept (with_top t top) m (a / 409) w.at w.is)
      ∙ w.beside (omega (arith, low)) (b % 409) (omega arith) (λ own. let same : a ≡ b = index_one n k (suc m) a b end (subst (λ y. IsWayIndex n k (suc m) y) index own) in omega (arith, same, lt))
      ∙ ap (λ y. below (seen s kept) (kind_down t m) (block_at (seen s kept) t m y) (b % 409)) e
      ∙ clear.behind some (suc m) a b way lt few)
      (λ ne.
      ap (λ (p : Pointer). below (seen u kept) (kind_down t m) p (b % 409)) (behind_last is m (a / 409) (b / 409) above (omega (arith, lt, ne)) (omega (arith, few, more))))
      (cases_eq (a / 409) (b / 409))

  -- where the device tells, no block stands at two places
  behind_told : s.tells → u.tells → StaysBeside s u t (with_top t top) n k → AllHeld s kept → AllHeld u kept → (m a b : ℕ) → IsWayIndex t.depth (last_leaf t.size) m a → a < b → b < 409 ^ m → block_at (seen u kept) (with_top t top) m b ≡ Nil
  behind_told told now beside held still m a b way lt few =
      let low = index_within t.depth (last_leaf t.size) m a way in
      let order : k ≤ last_leaf t.size = omega (arith, inside) in
      seen_block u kept still now (with_top t top) m b
      ∙ beside.each m b low few (λ on.
      let le = index_order t.depth k (last_leaf t.size) m b a order (subst (λ d. IsWayIndex d k m b) whole on) way in
      omega (arith, le, lt))
      ∙ sym (seen_block s kept held told t m b)
      ∙ clear.behind some m a b way lt few

  pub clear_end : (s.tells → StaysBeside s u t (with_top t top) n k) → AllHeld s kept → AllHeld u kept → s.tells ⊎ (k ≡ last_leaf t.size) → EndsClear u (with_top t top) kept
  clear_end beside held still which = record {
    empty = λ none. absurd (omega (arith, none, inside));
    way = λ again. way_on;
    behind = λ again. ⊎_elim (λ told. behind_told told (x.all.still_tells.1 told) (beside told) held still) (λ is. behind_last is) which;
  }
