-- A step lowers the work that is left.
use Rattle.std.proofs.Common.{◌≡◌, ◌≢◌, ℕ, zero, suc, ◌+◌, ◌-◌, ◌*◌, ◌<◌, ◌≤◌, Bool, true, false, cond, nat_lt, Some, None, List, [], ◌∷◌, ◌++◌, length, drop, slice_get, refl, arith, length-append}
use Rattle.std.proofs.lemmas.Bool.{ltb-true, ltb-false}
use Rattle.fo_image.specs.declared.types.Kind.{Kind}
use Rattle.fo_image.specs.declared.types.Kind.TheVariants.{Data, Dir, Root}
use Rattle.fo_slots.specs.of_ports.Blocks.{slot_count}
use Rattle.fo_takeout.specs.declared.pair.Pair.{Pair}
use Rattle.fo_takeout.specs.declared.pair.Change.{Change}
use Rattle.fo_takeout.specs.declared.pair.Change.TheVariants.{Copied, Gained, Lost, Apart}
use Rattle.fo_takeout.specs.declared.pair.Met.{Met}
use Rattle.fo_takeout.specs.declared.pair.Met.TheVariants.{Nothing, Alone, Whole, Follows}
use Rattle.fo_takeout.specs.Meeting.{change, items, items_of}
use Rattle.fo_takeout.specs.Walking.{Walking, work, added, passed, first_pair}
use Rattle.fo_takeout.specs.Kept.{HasItem}

count_most : (k : Kind) → slot_count k ≤ 409
count_most (Data zero) = omega arith
count_most (Data (suc l)) = omega arith
count_most (Dir zero) = omega arith
count_most (Dir (suc l)) = omega arith
count_most Root = omega arith

most_of : (c : Change) (p : Pair) → items_of c p ≤ 410
most_of Copied p = omega (arith, count_most p.old.kind)
most_of Lost p = omega (arith, count_most p.old.kind)
most_of Gained p = omega arith
most_of Apart p = omega arith

pub items_most : (p : Pair) → items p ≤ 410
items_most p = most_of (change p) p

either_is : (b : Bool) (u v : Walking) (n : ℕ) → (b ≡ true → work u ≡ n) → (b ≡ false → work v ≡ n) → work (cond b u v) ≡ n
either_is true u v n f g = f refl
either_is false u v n f g = g refl

either_less : (b : Bool) (u v : Walking) (n : ℕ) → (b ≡ true → work u < n) → (b ≡ false → work v < n) → work (cond b u v) < n
either_less true u v n f g = f refl
either_less false u v n f g = g refl

-- a pair that comes uses up room
pub add_same : (w : Walking) (m : Met) → work (added w m) ≡ work w
add_same w Nothing = refl
add_same w (Alone x) = refl
add_same w (Whole x) = refl
add_same w (Follows p) = either_is (nat_lt 0 w.room) (record w { pairs = w.pairs ++ p ∷ []; room = w.room - 1 }) w (work w) (λ some. omega (arith, ltb-true 0 w.room some, length-append w.pairs (p ∷ []))) (λ none. refl)

pass_fewer : (pairs : List Pair) (done room after epoch : ℕ) (p : Pair) → slice_get pairs 0 ≡ Some p → HasItem pairs done → work (passed (record { pairs = pairs; done = done; room = room; after = after; epoch = epoch }) p) < work (record { pairs = pairs; done = done; room = room; after = after; epoch = epoch })
pass_fewer [] done room after epoch p is has = cc
pass_fewer (q ∷ qs) done room after epoch p is has =
    let w : Walking = record { pairs = q ∷ qs; done = done; room = room; after = after; epoch = epoch } in
    let same : q ≡ p = cc in
    let less : done < items p = rw (← same) has in
    either_less (nat_lt (done + 1) (items p)) (record w { done = done + 1 }) (record w { pairs = qs; done = 0 }) (work w) (λ more. omega (arith, less, items_most p)) (λ last. omega (arith, less, items_most p))

pub pass_less : (w : Walking) (p : Pair) → first_pair w ≡ Some p → HasItem w.pairs w.done → work (passed w p) < work w
pass_less w p is has = pass_fewer w.pairs w.done w.room w.after w.epoch p is has

pub step_less : (w : Walking) (p : Pair) (m : Met) → first_pair w ≡ Some p → HasItem w.pairs w.done → work (added (passed w p) m) < work w
step_less w p m is has = omega (arith, add_same (passed w p) m, pass_less w p is has)
