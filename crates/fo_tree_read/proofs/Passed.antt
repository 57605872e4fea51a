-- Bytes that are read leaf by leaf, and the pins that it takes.
use Rattle.std.proofs.Common.{◌≡◌, ◌⊎◌, ◌+◌, ◌-◌, ◌*◌, ◌/◌, ◌%◌, ◌^◌, ◌<◌, ◌≤◌, ℕ, zero, suc, Bool, true, false, cond, nat_lt, List, Option, None, slice_index, inl, inr, ⊎_elim, refl, sym, ap, ◌∙◌, subst, arith}
use Rattle.std.proofs.lemmas.Bool.{cases_lt}
use Rattle.fo_looks.specs.of_image.declared.types.Kind.{Kind}
use Rattle.fo_looks.specs.of_image.declared.types.Score.{Score}
use Rattle.fo_looks.specs.of_image.declared.types.Pointer.{Pointer}
use Rattle.fo_looks.specs.of_image.declared.types.Pointer.TheVariants.{Nil, Local, Score as Held}
use Rattle.fo_looks.specs.of_image.Format.{kind_code}
use Rattle.fo_looks.specs.of_ports.State.{State, KeepsAll, Looks}
use Rattle.fo_looks.specs.of_ports.Sources.{byte_at}
use Rattle.fo_tree_read.specs.declared.tree.Tree.{Tree}
use Rattle.fo_tree_read.specs.Tree.{kind_at, block_at, leaf_at, address, address_of, held_of, byte, Got, above}
use Rattle.fo_tree_read.specs.Reading.{LeafWay, passed, IsNext, HasLeafPins, IsLeafFound, most, Prepared, HasPassed}
use Rattle.fo_tree_read.proofs.Walk.{way_same, told_same, way_looks, got_looks}

-- ---- how many blocks stand above leaves

slack : ℕ → ℕ → ℕ
slack zero m = 0
slack (suc d) m = (m / 409 + 1) + slack d (m / 409 + 1)

above_more : (d k l m : ℕ) → k ≤ l → l ≤ k + m → above d l ≤ above d k + slack d m
unfolding slack
above_more zero k l m le few = omega arith
above_more (suc d) k l m le few =
    let more : above d (l / 409) ≤ above d (k / 409) + slack d (m / 409 + 1) = above_more d (k / 409) (l / 409) (m / 409 + 1) (omega (arith, le)) (omega (arith, few)) in
    omega (arith, more, few)

above_rises : (d k l : ℕ) → k ≤ l → above d k ≤ above d l
above_rises zero k l le = omega arith
above_rises (suc d) k l le = let more = above_rises d (k / 409) (l / 409) (omega (arith, le)) in omega (arith, more, le)

slack_few : (d n : ℕ) → d ≤ 4 → slack d (n / 8192 + 1) ≤ n / 2 ^ 21 + 2 * d + 1
unfolding slack
slack_few zero n few = omega arith
slack_few (suc zero) n few = omega arith
slack_few (suc (suc zero)) n few = omega arith
slack_few (suc (suc (suc zero))) n few = omega arith
slack_few (suc (suc (suc (suc zero)))) n few = omega arith
slack_few (suc (suc (suc (suc (suc d))))) n few = absurd (omega (arith, few))

most_passed : (d first last n : ℕ) → d ≤ 4 → first ≤ last → last ≤ first + (n / 8192 + 1) → d + 1 + passed d last ≤ passed d first + most d n
most_passed d first last n few le more =
    let a = above_more d first last (n / 8192 + 1) le more in
    let b = slack_few d n few in
    omega (arith, a, b, le, more)

passed_rises : (d k l : ℕ) → k ≤ l → passed d k ≤ passed d l
passed_rises d k l le = let more = above_rises d k l le in omega (arith, more, le)

-- ---- leaves that were got stay so

pub leaf_way_looks : {a b : State} {t : Tree} {i : ℕ} → KeepsAll a b → Looks a b → LeafWay a t i → LeafWay b t i
leaf_way_looks {b = b} {t = t} {i = i} all looks leaf = record {
  way = way_looks all looks t t.depth i leaf.way;
  leaf = subst (λ (p : Pointer). Got b (kind_at t.dir 0) p) (sym (way_same all looks t t.depth i leaf.way)) (got_looks looks (kind_at t.dir 0) _ leaf.leaf);
}

byte_kept : (a b : State) (kind : Kind) (p : Pointer) (r : ℕ) → ((score : Score) (k : ℕ) → b.held score k ≡ a.held score k) → ((at : ℕ) → p ≡ Local at → (b.now at).bytes ≡ (a.now at).bytes) → byte_at b.now (address_of p) (held_of b kind p) r ≡ byte_at a.now (address_of p) (held_of a kind p) r
byte_kept a b kind Nil r held same = refl
byte_kept a b kind (Local at) r held same = ap (λ bytes. slice_index bytes r) (same at refl)
byte_kept a b kind (Held score) r held same = ap (λ (h : Option (List ℕ)). byte_at a.now None h r) (held score (kind_code kind))

pub byte_looks : (a b : State) (t : Tree) (k : ℕ) → KeepsAll a b → Looks a b → a.tells ⊎ LeafWay a t (k / 8192) → byte b t k ≡ byte a t k
byte_looks a b t k all looks known =
    let i : ℕ = k / 8192 in
    let kd : Kind = kind_at t.dir 0 in
    let same : block_at b t t.depth (k / 8192) ≡ block_at a t t.depth (k / 8192) = ⊎_elim (λ told. told_same all looks told t t.depth (k / 8192)) (λ leaf. way_same all looks t t.depth (k / 8192) leaf.way) known in
    ap (λ (p : Pointer). byte_at b.now (address_of (cond (nat_lt (k / 8192) (409 ^ t.depth)) p Nil)) (held_of b (kind_at t.dir 0) (cond (nat_lt (k / 8192) (409 ^ t.depth)) p Nil)) (k % 8192)) same
    ∙ byte_kept a b (kind_at t.dir 0) (leaf_at a t (k / 8192)) (k % 8192) all.same_held (by (nat_lt (k / 8192) (409 ^ t.depth)))
  where
    at_leaf : (at : ℕ) → block_at a t t.depth (k / 8192) ≡ Local at → (b.now at).bytes ≡ (a.now at).bytes
    at_leaf at e = ⊎_elim (λ told. ((looks.memory told).each at).bytes) (λ leaf. (looks.known at (leaf.leaf at e).is_pinned).bytes) known

    nil_local : (at : ℕ) → Nil ≡ Local at → (b.now at).bytes ≡ (a.now at).bytes
    nil_local at e = absurd (let h = e in cc)

    by : (test : Bool) (at : ℕ) → cond test (block_at a t t.depth (k / 8192)) Nil ≡ Local at → (b.now at).bytes ≡ (a.now at).bytes
    by true at e = at_leaf at e
    by false at e = nil_local at e

pub address_looks : (a b : State) (t : Tree) (i : ℕ) → KeepsAll a b → Looks a b → a.tells ⊎ LeafWay a t i → address b t i ≡ address a t i
address_looks a b t i all looks known =
    ap (λ (p : Pointer). address_of (cond (nat_lt i (409 ^ t.depth)) p Nil))
    (⊎_elim (λ told. told_same all looks told t t.depth i) (λ leaf. way_same all looks t t.depth i leaf.way) known)

-- ---- one leaf after another

module _ (mid new : State) (t : Tree) (before offset done n len : ℕ) (few : t.depth ≤ 4) (some : 0 < n) (part : n ≤ 8192 - (offset + done) % 8192) (inside : done + n ≤ len)
    (pins : mid.pins_left ≤ new.pins_left + t.depth + 1)
    (near : (j : ℕ) → IsNext mid t j ((offset + done) / 8192) → mid.pins_left + passed t.depth j ≤ new.pins_left + passed t.depth ((offset + done) / 8192))
    (been : HasPassed mid t before offset done) where
  next : 0 < done → LeafWay mid t ((offset + done - 1) / 8192) → IsNext mid t ((offset + done - 1) / 8192) ((offset + done) / 8192)
  next lt way = record { from = omega (arith, lt); to = omega (arith, lt); way = way }

  first_last : passed t.depth ((offset + done) / 8192) + t.depth + 1 ≤ passed t.depth (offset / 8192) + most t.depth len
  first_last = let p = most_passed t.depth (offset / 8192) ((offset + done) / 8192) len few (omega arith) (omega (arith, some, inside)) in omega (arith, p)

  rises : passed t.depth ((offset + done - 1) / 8192) ≤ passed t.depth ((offset + done) / 8192)
  rises = passed_rises t.depth ((offset + done - 1) / 8192) ((offset + done) / 8192) (omega arith)

  pub pins_here : before ≤ new.pins_left + most t.depth len
  pins_here = by been.is
    where
      by : ((done ≡ 0) × (before ≤ mid.pins_left)) ⊎ ((0 < done) × ((before + passed t.depth (offset / 8192) ≤ t.depth + 1 + passed t.depth ((offset + done - 1) / 8192)) ⊎ (LeafWay mid t ((offset + done - 1) / 8192) × (before + passed t.depth (offset / 8192) ≤ mid.pins_left + (t.depth + 1) + passed t.depth ((offset + done - 1) / 8192))))) → before ≤ new.pins_left + most t.depth len
      by (inl h) = let le = h.1 in omega (arith, le, pins)
      by (inr h) = ⊎_elim
          (λ out. omega (arith, out, first_last, rises))
          (λ walk. let le = walk.1 in let p = near ((offset + done - 1) / 8192) (next h.0 walk.0) in omega (arith, le, p, first_last))
          h.1

  -- the leaf that was read last
  last : (offset + (done + n) - 1) / 8192 ≡ (offset + done) / 8192
  last = omega (arith, some, part)

  abbrev Passed : ℕ → Type 0
  Passed i = (before + passed t.depth (offset / 8192) ≤ t.depth + 1 + passed t.depth i) ⊎ (LeafWay new t i × (before + passed t.depth (offset / 8192) ≤ new.pins_left + (t.depth + 1) + passed t.depth i))

  pub passed_more : (HasLeafPins mid t ((offset + done) / 8192) → LeafWay new t ((offset + done) / 8192)) → HasPassed new t before offset (done + n)
  passed_more way = record { is = inr (omega (arith, some), subst Passed (sym last) (by been.is)) }
    where
      by : ((done ≡ 0) × (before ≤ mid.pins_left)) ⊎ ((0 < done) × ((before + passed t.depth (offset / 8192) ≤ t.depth + 1 + passed t.depth ((offset + done - 1) / 8192)) ⊎ (LeafWay mid t ((offset + done - 1) / 8192) × (before + passed t.depth (offset / 8192) ≤ mid.pins_left + (t.depth + 1) + passed t.depth ((offset + done - 1) / 8192))))) → Passed ((offset + done) / 8192)
      by (inl h) =
          let zero_done = h.0 in
          let le = h.1 in
          let here : offset / 8192 ≡ (offset + done) / 8192 = omega (arith, zero_done) in
          let same : passed t.depth (offset / 8192) ≡ passed t.depth ((offset + done) / 8192) = ap (λ i. passed t.depth i) here in
          ⊎_elim
          (λ (lt : mid.pins_left < t.depth + 1). inl (omega (arith, lt, le, same)))
          (λ (ge : t.depth + 1 ≤ mid.pins_left). inr (way (inl ge), omega (arith, le, pins, same)))
          (cases_lt mid.pins_left (t.depth + 1))
      by (inr h) = ⊎_elim
          (λ out. inl (omega (arith, out, rises)))
          (λ walk.
          let le = walk.1 in
          let from = next h.0 walk.0 in
          let p = near ((offset + done - 1) / 8192) from in
          ⊎_elim
          (λ (lt : mid.pins_left + passed t.depth ((offset + done - 1) / 8192) < passed t.depth ((offset + done) / 8192)). inl (omega (arith, lt, le)))
          (λ (ge : passed t.depth ((offset + done) / 8192) ≤ mid.pins_left + passed t.depth ((offset + done - 1) / 8192)). inr (way (inr ((offset + done - 1) / 8192, from, ge)), omega (arith, le, p)))
          (cases_lt (mid.pins_left + passed t.depth ((offset + done - 1) / 8192)) (passed t.depth ((offset + done) / 8192))))
          h.1

  -- what is found where there were pins enough
  pub found_next : most t.depth len ≤ before → ((k : ℕ) → offset ≤ k → k < offset + done → mid.tells ⊎ LeafWay mid t (k / 8192)) → IsLeafFound mid t ((offset + done) / 8192)
  found_next enough known = by been.is
    where
      by : ((done ≡ 0) × (before ≤ mid.pins_left)) ⊎ ((0 < done) × ((before + passed t.depth (offset / 8192) ≤ t.depth + 1 + passed t.depth ((offset + done - 1) / 8192)) ⊎ (LeafWay mid t ((offset + done - 1) / 8192) × (before + passed t.depth (offset / 8192) ≤ mid.pins_left + (t.depth + 1) + passed t.depth ((offset + done - 1) / 8192))))) → IsLeafFound mid t ((offset + done) / 8192)
      by (inl h) = let le = h.1 in inr (inl (omega (arith, le, enough)))
      by (inr h) = ⊎_elim
          (λ told. inl told)
          (λ leaf. inr (inr ((offset + done - 1) / 8192, next h.0 leaf, ⊎_elim (λ out. omega (arith, out, first_last, enough)) (λ walk. let le = walk.1 in omega (arith, le, first_last, enough)) h.1)))
          (known (offset + done - 1) (let lt = h.0 in omega (arith, lt)) (let lt = h.0 in omega (arith, lt)))

  -- the leaf before was got, and there were pins enough
  pub has_next : most t.depth len ≤ before → (0 < done → LeafWay mid t ((offset + done - 1) / 8192)) → HasLeafPins mid t ((offset + done) / 8192)
  has_next enough got = by been.is
    where
      by : ((done ≡ 0) × (before ≤ mid.pins_left)) ⊎ ((0 < done) × ((before + passed t.depth (offset / 8192) ≤ t.depth + 1 + passed t.depth ((offset + done - 1) / 8192)) ⊎ (LeafWay mid t ((offset + done - 1) / 8192) × (before + passed t.depth (offset / 8192) ≤ mid.pins_left + (t.depth + 1) + passed t.depth ((offset + done - 1) / 8192))))) → HasLeafPins mid t ((offset + done) / 8192)
      by (inl h) = let le = h.1 in inl (omega (arith, le, enough))
      by (inr h) = inr ((offset + done - 1) / 8192, next h.0 (got h.0), ⊎_elim (λ out. omega (arith, out, first_last, enough)) (λ walk. let le = walk.1 in omega (arith, le, first_last, enough)) h.1)

pub pins_last : (new : State) (t : Tree) (before offset len : ℕ) → t.depth ≤ 4 → HasPassed new t before offset len → before ≤ new.pins_left + most t.depth len
pins_last new t before offset len few been = by been.is
  where
    by : ((len ≡ 0) × (before ≤ new.pins_left)) ⊎ ((0 < len) × ((before + passed t.depth (offset / 8192) ≤ t.depth + 1 + passed t.depth ((offset + len - 1) / 8192)) ⊎ (LeafWay new t ((offset + len - 1) / 8192) × (before + passed t.depth (offset / 8192) ≤ new.pins_left + (t.depth + 1) + passed t.depth ((offset + len - 1) / 8192))))) → before ≤ new.pins_left + most t.depth len
    by (inl h) = let le = h.1 in omega (arith, le)
    by (inr h) =
        let lt = h.0 in
        let p = most_passed t.depth (offset / 8192) ((offset + len - 1) / 8192) len few (omega (arith, lt)) (omega (arith, lt)) in
        ⊎_elim (λ out. omega (arith, out, p)) (λ walk. let le = walk.1 in omega (arith, le, p)) h.1

-- the leaf was prepared
pub found_prepared : (s : State) (t : Tree) (i : ℕ) → LeafWay s t i → IsLeafFound s t i
found_prepared s t i leaf = inr (inr (i, record { from = omega arith; to = omega arith; way = leaf }, omega arith))

pub part_prepared : {s : State} {t : Tree} {o n : ℕ} (p m : ℕ) → Prepared s t o n → o ≤ p → p + m ≤ o + n → Prepared s t p m
part_prepared p m prepared from to = record { each = λ k at below. prepared.each k (omega (arith, from, at)) (omega (arith, below, to)) }
