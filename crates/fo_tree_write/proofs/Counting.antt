-- How many blocks are left to be written where leaves are written one after another.
use Rattle.std.proofs.Common.{◌≡◌, ◌+◌, ◌-◌, ◌*◌, ◌/◌, ◌%◌, ◌<◌, ◌≤◌, ℕ, zero, suc, List, [], ◌++◌, length, length-append, inl, inr, ⊎_elim, refl, sym, ap, subst, arith}
use Rattle.std.proofs.lemmas.List.Elements.{Contains-append_left}
use Rattle.fo_image.specs.declared.types.Pointer.{Pointer}
use Rattle.fo_ports.specs.State.{State, none}
use Rattle.fo_ports.specs.Sources.{Dirties, DirtiesIn}
use Rattle.fo_tree_read.proofs.of_looks.Dirtied.{dirties_joins}
use Rattle.fo_tree_read.specs.declared.tree.Tree.{Tree}
use Rattle.fo_tree_read.specs.Tree.{above}
use Rattle.fo_tree_read.specs.Reading.{passed, most}
use Rattle.fo_tree_clear.specs.of_tree_down.Way.{OnWay, HasWay, AddsWay, WayCurrent, with_top}
use Rattle.fo_tree_clear.proofs.of_tree_down.Dirtying.{dirties_none, dirties_on}
use Rattle.fo_tree_write.specs.Write.{at_top, Counted}
use Rattle.fo_tree_write.proofs.Writing.{last_of, most_passed}

above_least : (d k l : ℕ) → k ≤ l → above d k ≤ above d l
above_least zero k l le = omega arith
above_least (suc d) k l le = let up = above_least d (k / 409) (l / 409) (omega (arith, le)) in omega (arith, up, le)

pub counted_none : (s : State) (t : Tree) (offset : ℕ) → Counted s s t offset 0
counted_none s t offset = record { blocks = []; within = dirties_none s; is = inl (refl, refl) }

pub counted_more : {s u v : State} (t : Tree) {top : Pointer} {next offset done n : ℕ} → 0 < n → n ≤ 8192 - (offset + done) % 8192
    → WayCurrent v (with_top t next) t.depth ((offset + done) / 8192)
    → Dirties (2 * (t.depth + 1)) (λ b. OnWay v (with_top t next) t.depth ((offset + done) / 8192) b) u v
    → ((blocks : List ℕ) (j : ℕ) → WayCurrent u (at_top t top) t.depth j → HasWay blocks u (at_top t top) t.depth j → j ≤ (offset + done) / 8192 → (offset + done) / 8192 ≤ j + 1 → AddsWay (2 * ((offset + done) / 8192 + above t.depth ((offset + done) / 8192) - (j + above t.depth j))) blocks u v (with_top t next) t.depth ((offset + done) / 8192))
    → Counted s u (at_top t top) offset done → Counted s v (with_top t next) offset (done + n)
counted_more {s} {u} {v} t {top} {next} {offset} {done} {n} some part way whole used before = ⊎_elim
    (λ h.
    let none = h.0 in
    let empty = h.1 in
    let few = whole.few in
    let long = length-append whole.blocks before.blocks in
    let here : offset / 8192 ≡ (offset + done) / 8192 = omega (arith, none) in
    let e : passed t.depth (offset / 8192) ≡ passed t.depth ((offset + done) / 8192) = ap (λ i. passed t.depth i) here in
    ended (whole.blocks ++ before.blocks) (dirties_joins before.within whole.within)
    (λ b on. Contains-append_left whole.blocks before.blocks b (whole.each b on))
    (first (length whole.blocks) (length before.blocks) (length (whole.blocks ++ before.blocks)) t.depth (passed t.depth (offset / 8192)) (passed t.depth ((offset + done) / 8192)) few empty long e))
    (λ h.
    let one = h.0 in
    let le : (offset + done - 1) / 8192 ≤ (offset + done) / 8192 = omega arith in
    let step = used before.blocks ((offset + done - 1) / 8192) h.1 h.2 le (omega (arith, one)) in
    let long = length-append step.more before.blocks in
    let up = above_least t.depth ((offset + done - 1) / 8192) ((offset + done) / 8192) le in
    ended (step.more ++ before.blocks) (dirties_on before.blocks step.more before.within step.within) step.way
    (more (length step.more) (length before.blocks) (length (step.more ++ before.blocks)) t.depth (passed t.depth (offset / 8192)) ((offset + done - 1) / 8192) (above t.depth ((offset + done - 1) / 8192)) ((offset + done) / 8192) (above t.depth ((offset + done) / 8192)) step.few h.3 long le up))
    before.is
  where
    last_is : (offset + (done + n) - 1) / 8192 ≡ (offset + done) / 8192
    last_is = omega (arith, some, part)

    Ends : List ℕ → ℕ → Type 0
    Ends blocks i = WayCurrent v (with_top t next) t.depth i × HasWay blocks v (with_top t next) t.depth i × (length blocks + 2 * passed t.depth (offset / 8192) ≤ 2 * (t.depth + 1) + 2 * passed t.depth i)

    ended : (blocks : List ℕ) → DirtiesIn blocks s v → HasWay blocks v (with_top t next) t.depth ((offset + done) / 8192) → length blocks + 2 * passed t.depth (offset / 8192) ≤ 2 * (t.depth + 1) + 2 * passed t.depth ((offset + done) / 8192) → Counted s v (with_top t next) offset (done + n)
    ended blocks within has few =
        let e : Ends blocks ((offset + (done + n) - 1) / 8192) = subst (λ i. Ends blocks i) (sym last_is) (way, has, few) in
        record { blocks = blocks; within = within; is = inr (omega (arith, some), e.0, e.1, e.2) }

    first : (a b all d x y : ℕ) → a ≤ 2 * (d + 1) → b ≡ 0 → all ≡ a + b → x ≡ y → all + 2 * x ≤ 2 * (d + 1) + 2 * y
    first a b all d x y few empty long same = omega (arith, few, empty, long, same)

    more : (a b all d x j up k wide : ℕ) → a ≤ 2 * (k + wide - (j + up)) → b + 2 * x ≤ 2 * (d + 1) + 2 * (j + up) → all ≡ a + b → j ≤ k → up ≤ wide → all + 2 * x ≤ 2 * (d + 1) + 2 * (k + wide)
    more a b all d x j up k wide few was long le rise = omega (arith, few, was, long, le, rise)

-- what is left to be written in all
pub counted_end : {s u : State} {t : Tree} {offset len : ℕ} → Counted s u t offset len → Dirties (2 * (t.depth + 1 + (passed t.depth ((offset + len - 1) / 8192) - passed t.depth (offset / 8192)))) none s u
counted_end {s} {u} {t} {offset} {len} x = record {
  blocks = x.blocks;
  few = ⊎_elim
      (λ h. let empty = h.1 in omega (arith, empty))
      (λ h. sum (length x.blocks) t.depth (passed t.depth (offset / 8192)) (passed t.depth ((offset + len - 1) / 8192)) h.3)
      x.is;
  within = x.within;
  each = λ b h. absurd h;
}
  where
    sum : (a d x y : ℕ) → a + 2 * x ≤ 2 * (d + 1) + 2 * y → a ≤ 2 * (d + 1 + (y - x))
    sum a d x y few = omega (arith, few)

pub counted_most : {s u : State} {t : Tree} {offset len : ℕ} → t.depth ≤ 4 → Counted s u t offset len → Dirties (2 * most t.depth len) none s u
counted_most {s} {u} {t} {offset} {len} few x = record {
  blocks = x.blocks;
  few = ⊎_elim
      (λ h. let empty = h.1 in omega (arith, empty))
      (λ h.
      let some = h.0 in
      let last = last_of offset len len some (omega arith) in
      let p = most_passed t.depth (offset / 8192) ((offset + len - 1) / 8192) len few last.0 last.1 in
      sum (length x.blocks) t.depth (passed t.depth (offset / 8192)) (passed t.depth ((offset + len - 1) / 8192)) (most t.depth len) h.3 p)
      x.is;
  within = x.within;
  each = λ b h. absurd h;
}
  where
    sum : (a d x y all : ℕ) → a + 2 * x ≤ 2 * (d + 1) + 2 * y → 2 * d + 2 + y ≤ x + all → a ≤ 2 * all
    sum a d x y all few bound = omega (arith, few, bound)
