-- How many blocks of a way are not current.
use Rattle.std.proofs.Common.{◌≡◌, ◌⊎◌, ◌+◌, ◌/◌, ◌<◌, ◌≤◌, ℕ, zero, suc, inl, inr, ⊎_elim, refl, subst, arith}
use Rattle.std.proofs.lemmas.Bool.{cases_eq}
use Rattle.fo_tree_look.specs.of_ports.State.{State}
use Rattle.fo_tree_look.specs.of_tree_read.declared.tree.Tree.{Tree}
use Rattle.fo_tree_look.specs.of_tree_read.Tree.{above}
use Rattle.fo_tree_look.specs.Source.{IsTopCurrent}
use Rattle.fo_tree_down.specs.Way.{WayCurrent, CurrentBut}

pub but_top : (s : State) (t : Tree) (c k : ℕ) → CurrentBut s t c zero k → IsTopCurrent s t ⊎ (0 < c)
but_top s t zero k is = inl (record { at = is.0; is = is.1; current = is.2 })
but_top s t (suc c) k is = inr (omega arith)

-- One block less of the way above the block at its end.
pub record Above (s : State) (t : Tree) (c n k : ℕ) : Type 0 where
  pub less : ℕ
  pub is : c ≡ suc less
  pub but : CurrentBut s t less n (k / 409)

pub but_down : (s : State) (t : Tree) (c n k : ℕ) → CurrentBut s t c (suc n) k → WayCurrent s t (suc n) k ⊎ Above s t c n k
but_down s t zero n k is = inl is
but_down s t (suc c) n k is = inr (record { less = c; is = refl; but = is })

-- a way to the block beside one whose way is current
pub record Beside (s : State) (t : Tree) (n j k : ℕ) : Type 0 where
  pub count : ℕ
  pub but : CurrentBut s t count n k
  pub is : count + (j + above n j) ≡ k + above n k

pub but_beside : (s : State) (t : Tree) (n j k : ℕ) → WayCurrent s t n j → j ≤ k → k ≤ j + 1 → Beside s t n j k
but_beside s t zero j k way le next = ⊎_elim
    (λ e. record { count = 0; but = subst (λ i. WayCurrent s t zero i) e way; is = omega (arith, e) })
    (λ ne. record { count = 1; but = tt; is = omega (arith, le, next, ne) })
    (cases_eq j k)
but_beside s t (suc n) j k way le next = ⊎_elim
    (λ e. record { count = 0; but = subst (λ i. WayCurrent s t (suc n) i) e way; is = subst (λ i. 0 + (j + above (suc n) j) ≡ i + above (suc n) i) e (omega arith) })
    (λ ne.
    let up = but_beside s t n (j / 409) (k / 409) way.0 (omega (arith, le)) (omega (arith, next)) in
    let is = up.is in
    record { count = suc up.count; but = up.but; is = one up.count j k (above n (j / 409)) (above n (k / 409)) (omega (arith, le, next, ne)) is })
    (cases_eq j k)
  where
    one : (c j k x y : ℕ) → k ≡ j + 1 → c + (j / 409 + x) ≡ k / 409 + y → suc c + (j + (j / 409 + x)) ≡ k + (k / 409 + y)
    one c j k x y next is = omega (arith, next, is)

-- all but the top, or all of a way
pub but_whole : (s : State) (t : Tree) (n k : ℕ) → IsTopCurrent s t → CurrentBut s t n n k
but_whole s t zero k top = (top.at, top.is, top.current)
but_whole s t (suc n) k top = but_whole s t n (k / 409) top

pub but_any : (s : State) (t : Tree) (n k : ℕ) → CurrentBut s t (suc n) n k
but_any s t zero k = tt
but_any s t (suc n) k = but_any s t n (k / 409)

pub but_more : (s : State) (t : Tree) (n k : ℕ) → CurrentBut s t (n + 1) n k
but_more s t n k = let e : suc n ≡ n + 1 = omega arith in subst (λ c. CurrentBut s t c n k) e (but_any s t n k)
