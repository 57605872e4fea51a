-- How many blocks it takes to put a piece leaf by leaf.
use Rattle.std.proofs.Common.{◌≡◌, ◌+◌, ◌-◌, ◌*◌, ◌/◌, ◌%◌, ◌^◌, ◌<◌, ◌≤◌, ℕ, zero, suc, inl, inr, ⊎_elim, refl, sym, ap, subst, arith}
use Rattle.fo_ports.specs.State.{State}
use Rattle.fo_tree_read.specs.declared.tree.Tree.{Tree}
use Rattle.fo_tree_read.specs.Tree.{above}
use Rattle.fo_tree_read.specs.Reading.{passed, most}
use Rattle.fo_tree_clear.specs.of_tree_down.Way.{WayCurrent, CurrentBut}
use Rattle.fo_tree_clear.proofs.of_tree_down.Sparing.{but_beside}
use Rattle.fo_tree_append.specs.Append.{SpendsBut}

slack : ℕ → ℕ → ℕ
slack zero m = 0
slack (suc d) m = (m / 409 + 1) + slack d (m / 409 + 1)

above_more : (d k l m : ℕ) → k ≤ l → l ≤ k + m → above d l ≤ above d k + slack d m
unfolding slack
above_more zero k l m le few = omega arith
above_more (suc d) k l m le few =
    let more : above d (l / 409) ≤ above d (k / 409) + slack d (m / 409 + 1) = above_more d (k / 409) (l / 409) (m / 409 + 1) (omega (arith, le)) (omega (arith, few)) in
    omega (arith, more, few)

slack_few : (d n : ℕ) → d ≤ 4 → slack d (n / 8192 + 1) ≤ n / 2 ^ 21 + d
unfolding slack
slack_few zero n few = omega arith
slack_few (suc zero) n few = omega arith
slack_few (suc (suc zero)) n few = omega arith
slack_few (suc (suc (suc zero))) n few = omega arith
slack_few (suc (suc (suc (suc zero)))) n few = omega arith
slack_few (suc (suc (suc (suc (suc d))))) n few = absurd (omega (arith, few))

-- the ways to all leaves that so many bytes touch, and two ways more
pub most_passed : (d first last n : ℕ) → d ≤ 4 → first ≤ last → last ≤ first + (n / 8192 + 1) → 2 * d + 2 + passed d last ≤ passed d first + most d n
most_passed d first last n few le more =
    let a = above_more d first last (n / 8192 + 1) le more in
    let b = slack_few d n few in
    omega (arith, a, b, le, more)

above_least : (d k l : ℕ) → k ≤ l → above d k ≤ above d l
above_least zero k l le = omega arith
above_least (suc d) k l le = let up = above_least d (k / 409) (l / 409) (omega (arith, le)) in omega (arith, up, le)

pub passed_least : (d k l : ℕ) → k ≤ l → passed d k ≤ passed d l
passed_least d k l le = let up = above_least d k l le in omega (arith, up, le)

-- a leaf of a piece
pub last_of : (offset len : ℕ) → 0 < len → (offset / 8192 ≤ (offset + len - 1) / 8192) × ((offset + len - 1) / 8192 ≤ offset / 8192 + (len / 8192 + 1))
last_of offset len some = (omega (arith, some), omega (arith, some))

-- as many blocks are left as the way to the next leaf takes
pub enough_but : (c : ℕ) (u : State) (t : Tree) (before offset done len : ℕ) → done < len → c + passed t.depth ((offset + len - 1) / 8192) ≤ before + passed t.depth (offset / 8192) → SpendsBut c u t before offset done
    → (n : ℕ) × CurrentBut u t n t.depth ((offset + done) / 8192) × (n ≤ u.spare)
enough_but c u t before offset done len lt enough spent = ⊎_elim
    (λ h.
    let none = h.0 in
    let le = h.1 in
    let here : offset / 8192 ≡ (offset + done) / 8192 = omega (arith, none) in
    let more = passed_least t.depth (offset / 8192) ((offset + len - 1) / 8192) (omega (arith, lt)) in
    (c, subst (λ k. CurrentBut u t c t.depth k) here h.2, first c before u.spare (passed t.depth (offset / 8192)) (passed t.depth ((offset + len - 1) / 8192)) le enough more))
    (λ h.
    let some = h.0 in
    let beside = but_beside u t t.depth ((offset + done - 1) / 8192) ((offset + done) / 8192) h.1 (omega (arith, some)) (omega (arith, some)) in
    let is : beside.count + passed t.depth ((offset + done - 1) / 8192) ≡ passed t.depth ((offset + done) / 8192) = beside.is in
    let more = passed_least t.depth ((offset + done) / 8192) ((offset + len - 1) / 8192) (omega (arith, lt)) in
    (beside.count, beside.but, next c before u.spare beside.count (passed t.depth (offset / 8192)) (passed t.depth ((offset + done - 1) / 8192)) (passed t.depth ((offset + done) / 8192)) (passed t.depth ((offset + len - 1) / 8192)) h.2 enough is more))
    spent.is
  where
    first : (c before spare x z : ℕ) → before ≤ spare → c + z ≤ before + x → x ≤ z → c ≤ spare
    first c before spare x z le enough more = omega (arith, le, enough, more)

    next : (c before spare n x p k z : ℕ) → before + x ≤ spare + c + p → c + z ≤ before + x → n + p ≡ k → k ≤ z → n ≤ spare
    next c before spare n x p k z left enough is more = omega (arith, left, enough, is, more)

pub spends_more : (c : ℕ) (u v : State) (t new : Tree) (before offset done n : ℕ) → new.depth ≡ t.depth → 0 < n → n ≤ 8192 - (offset + done) % 8192
    → ((b : ℕ) → CurrentBut u t b t.depth ((offset + done) / 8192) → u.spare ≤ v.spare + b)
    → ((j : ℕ) → WayCurrent u t t.depth j → j ≤ (offset + done) / 8192 → (offset + done) / 8192 ≤ j + 1 → u.spare + (j + above t.depth j) ≤ v.spare + ((offset + done) / 8192 + above t.depth ((offset + done) / 8192)))
    → WayCurrent v new t.depth ((offset + done) / 8192) → SpendsBut c u t before offset done → SpendsBut c v new before offset (done + n)
spends_more c u v t new before offset done n same some part few used way spent =
    subst (λ d. Spends d ((offset + (done + n) - 1) / 8192) → SpendsBut c v new before offset (done + n)) same (λ is. record { is = inr (omega (arith, some), is.0, is.1) })
    (subst (λ i. Spends t.depth i) (sym last) (way, left))
  where
    last : (offset + (done + n) - 1) / 8192 ≡ (offset + done) / 8192
    last = omega (arith, some, part)

    Spends : ℕ → ℕ → Type 0
    Spends d i = WayCurrent v new d i × (before + passed d (offset / 8192) ≤ v.spare + c + passed d i)

    left : before + passed t.depth (offset / 8192) ≤ v.spare + c + passed t.depth ((offset + done) / 8192)
    left = ⊎_elim
        (λ h.
        let none = h.0 in
        let le = h.1 in
        let here : offset / 8192 ≡ (offset + done) / 8192 = omega (arith, none) in
        let e : passed t.depth (offset / 8192) ≡ passed t.depth ((offset + done) / 8192) = ap (λ i. passed t.depth i) here in
        let taken = few c (subst (λ k. CurrentBut u t c t.depth k) here h.2) in
        omega (arith, le, taken, e))
        (λ h.
        let one = h.0 in
        let le = h.2 in
        let p = used ((offset + done - 1) / 8192) h.1 (omega (arith, one)) (omega (arith, one)) in
        omega (arith, le, p))
        spent.is

pub spends_none : (c : ℕ) (s : State) (t : Tree) (offset : ℕ) → CurrentBut s t c t.depth (offset / 8192) → SpendsBut c s t s.spare offset 0
spends_none c s t offset but = record { is = inl (refl, omega arith, but) }

-- what it took in all
pub spends_end : (c : ℕ) (u : State) (t : Tree) (before offset len : ℕ) → 0 < len → SpendsBut c u t before offset len → before + passed t.depth (offset / 8192) ≤ u.spare + c + passed t.depth ((offset + len - 1) / 8192)
spends_end c u t before offset len some spent = ⊎_elim (λ h. let none = h.0 in absurd (omega (arith, none, some))) (λ h. h.2) spent.is
