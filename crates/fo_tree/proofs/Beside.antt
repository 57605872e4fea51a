-- The leaves beside a piece stay.
use Rattle.std.proofs.Common.{◌≡◌, ◌≢◌, ◌+◌, ◌-◌, ◌/◌, ◌^◌, ◌<◌, ℕ, zero, suc, List, Some, ⊎_elim, refl, ap, subst, arith}
use Rattle.fo_crash.specs.declared.place.Place.{Place}
use Rattle.fo_crash.specs.Places.{place, IsPlaced, OnePlace}
use Rattle.fo_ports.specs.State.{State}
use Rattle.fo_ports.specs.Sources.{Touched, Changes}
use Rattle.fo_tree_read.specs.declared.tree.Tree.{Tree}
use Rattle.fo_tree_read.specs.Tree.{kind_down, Hangs}
use Rattle.fo_tree_look.specs.declared.ways.Kept.{Kept}
use Rattle.fo_tree_look.specs.Source.{HasBlock, Over, address_here}
use Rattle.fo_tree_look.proofs.Places.{IsHere, is_here, here_owned, block_place}
use Rattle.fo_tree_link.specs.of_tree_down.Way.{OnWay, IsWayIndex}
use Rattle.fo_tree_link.proofs.of_tree_down.Beside.{index_within, way_block}
use Rattle.fo_tree_append.specs.Append.{OnPiece}
use Rattle.fo_tree.specs.Writes.{IsBeside, LeavesBeside}

-- the block at the end of a way is that of its index
index_end : (n k j : ℕ) → IsWayIndex n k n j → j ≡ k
index_end zero k j is = is.1
index_end (suc n) k j is = ⊎_elim (λ here. here.1) (λ above. let le = index_within n (k / 409) (suc n) j above in absurd (omega (arith, le))) is

-- a leaf stands on no way to another
leaf_off : (s : State) (t : Tree) → IsPlaced s.stands s.now → OnePlace s.stands → Hangs s t → s.tells → (j b k : ℕ) → IsHere s t j b → k < 409 ^ t.depth → j ≢ k → OnWay s t t.depth k b → ⊥
leaf_off s t placed one hangs told j b k here few other on =
    let w = way_block s t t.depth k b few on in
    let low = index_within t.depth k w.down w.index w.is_way in
    let first : Place = place (kind_down t w.down) t.tag w.index (t.rank + (t.depth - w.down)) in
    let second : Place = place (kind_down t t.depth) t.tag j (t.rank + (t.depth - t.depth)) in
    let same : first ≡ second = one.each b first second (block_place s t placed hangs told w.down w.index b low w.few w.is) (block_place s t placed hangs told t.depth j b (omega arith) here.few here.is) in
    let rank : t.rank + (t.depth - w.down) ≡ t.rank + (t.depth - t.depth) = ap (λ (p : Place). p.rank) same in
    let index : w.index ≡ j = ap (λ (p : Place). p.index) same in
    let down : w.down ≡ t.depth = omega (arith, rank, low) in
    other (index_end t.depth k j (subst (λ y. IsWayIndex t.depth k t.depth y) index (subst (λ y. IsWayIndex t.depth k y w.index) down w.is_way)))

-- a leaf beside a piece is none of what may change
beside_off : (s : State) (t : Tree) → IsPlaced s.stands s.now → OnePlace s.stands → Hangs s t → s.tells → (offset n j b : ℕ) → IsHere s t j b → IsBeside t.size offset n j → OnPiece s t offset n b → ⊥
beside_off s t placed one hangs told offset n j b here is = ⊎_elim
    (λ way.
    let from = way.from in
    let to = way.to in
    leaf_off s t placed one hangs told j b way.leaf here way.few (λ e. ⊎_elim (λ le. omega (arith, from, e, le)) (λ le. omega (arith, to, e, le)) is.beside) way.on)
    (λ end.
    let past = end.0 in
    let within = end.1.within in
    let room = hangs.room in
    leaf_off s t placed one hangs told j b (t.size / 8192) here (omega (arith, within, room)) (λ e. ⊎_elim (λ le. omega (arith, past, le)) (λ le. omega (arith, e, within, le)) is.whole) end.1.on)

pub leaves_beside : (s u : State) (t : Tree) (kept : List Kept) (limit offset n : ℕ) → (s.tells → IsPlaced s.stands s.now) → OnePlace s.stands → Over s t kept limit → Changes t.tag (HasBlock s t) (λ b. OnPiece s t offset n b) s u → LeavesBeside s u t offset n
leaves_beside s u t kept limit offset n placed one over x = record {
  now = λ told j b at is. x.memory b (untouched told j b at is);
  images = λ told image left. let e = x.images image left in (e.other, e.was, λ j b at is. e.same b (untouched told j b at is));
}
  where
    untouched : s.tells → (j b : ℕ) → address_here s t j ≡ Some b → IsBeside t.size offset n j → Touched s u t.tag (λ y. OnPiece s t offset n y) b → ⊥
    untouched told j b at is =
        let here = is_here s t j b at in
        ⊎_elim
        (λ made. made.0 (over.told told b (here_owned here)).live)
        (λ own. beside_off s t (placed told) one over.hangs told offset n j b here is own.0)

-- nothing was put
pub beside_none : (s : State) (t : Tree) (offset n : ℕ) → LeavesBeside s s t offset n
beside_none s t offset n = record {
  now = λ told j b at is. record { bytes = refl; slots = λ i. refl };
  images = λ told image left. (image, left, λ j b at is. record { bytes = refl; slots = λ i. refl });
}
