-- Fewer blocks are pinned with each block that is unpinned.
use Rattle.std.proofs.Common.{◌≡◌, ⊎_elim, ℕ, zero, suc, ◌≤◌, ◌<◌, Bool, true, false, cond, refl, sym, ap, ◌∙◌, subst, arith}
use Rattle.std.proofs.lemmas.Bool.{cases_eq}
use Rattle.fo_buffers.specs.Held.{Held}
use Rattle.fo_labels.specs.Region.{Region}
use Rattle.fo_closing.specs.of_bring.Blocks.{IsData}
use Rattle.fo_closing.specs.of_mind.Laws.{pinned_held}
use Rattle.fo_buffers.specs.Held.{held_at}
use Rattle.fo_closing.specs.of_mind.Parts.{IsBlock, IsPinned, Parts, count_of}
use Rattle.fo_closing.specs.of_mind.Sound.{Holding, Placed}
use Rattle.fo_closing.specs.of_mind.Turning.{Unpinned, is_pinned_at}
use Rattle.fo_reserving.specs.Steps.{Lets, pins_below}

never : {A : Type 0} → false ≡ true → A
never e = cc

one_at_most : (a b : Bool) → (a ≡ true → b ≡ true) → cond {A = ℕ} a 1 0 ≤ cond b 1 0
one_at_most true true h = omega arith
one_at_most true false h = never (h refl)
one_at_most false true h = omega arith
one_at_most false false h = omega arith

pub no_more : (h g : Held) → ((b : ℕ) → IsPinned g b → IsPinned h b) → (n : ℕ) → pins_below g n ≤ pins_below h n
no_more h g sub zero = omega arith
no_more h g sub (suc n) =
    let one = one_at_most (is_pinned_at g n) (is_pinned_at h n) (sub n) in
    let rest = no_more h g sub n in
    omega (arith, one, rest)

pub fewer : (h g : Held) (at : ℕ) → ((b : ℕ) → IsPinned g b → IsPinned h b) → IsPinned h at → (IsPinned g at → ⊥) → (n : ℕ) → at < n → pins_below g n < pins_below h n
fewer h g at sub was free zero lt = absurd (omega (arith, lt))
fewer h g at sub was free (suc n) lt = ⊎_elim
    (λ e.
    let rest = no_more h g sub n in
    let now = ap (λ (b : Bool). cond {A = ℕ} b 1 0) (sym (ap (is_pinned_at h) e) ∙ was) in
    let then = ap (λ (b : Bool). cond {A = ℕ} b 1 0) (sym (ap (is_pinned_at g) e) ∙ off (is_pinned_at g at) free) in
    omega (arith, rest, now, then))
    (λ ne.
    let one = one_at_most (is_pinned_at g n) (is_pinned_at h n) (sub n) in
    let rest = fewer h g at sub was free n (omega (arith, lt, ne)) in
    omega (arith, one, rest))
    (cases_eq at n)
  where
    off : (b : Bool) → (b ≡ true → ⊥) → b ≡ false
    off true never_so = absurd (never_so refl)
    off false never_so = refl

-- what is pinned is one of the addresses
pub pinned_within : (p : Parts) (at : ℕ) {first count : ℕ} → Placed p.region p.turns p.facts first count → Holding p.one.low first count p.region p.held → IsPinned p.held at → at < count_of p.region
pinned_within p at {first} {count} placed holding pinned =
    let x = pinned_held (held_at p.held at) pinned in
    let hi = (holding.block at x.0 x.1).1 in
    let n = placed.is_count in
    omega (arith, hi, n)

pub fewer_pins : (p q : Parts) (at : ℕ) {first count : ℕ} → Placed p.region p.turns p.facts first count → Holding p.one.low first count p.region p.held → Lets p q → IsPinned p.held at → (IsPinned q.held at → ⊥) → pins_below q.held (count_of q.region) < pins_below p.held (count_of p.region)
fewer_pins p q at placed holding l was free = subst (λ (r : Region). pins_below q.held (count_of r) < pins_below p.held (count_of p.region)) (sym (ap (λ (z : Parts). z.region) l.rest))
    (fewer p.held q.held at l.pinned was free (count_of p.region) (pinned_within p at placed holding was))

pub unpinned_block : (p q : Parts) (at : ℕ) {first count : ℕ} → Placed p.region p.turns p.facts first count → Holding p.one.low first count p.region p.held → Unpinned at p q → IsBlock q at
unpinned_block p q at placed holding u =
    let x = pinned_held (held_at p.held at) u.pinned in
    let lo = (holding.block at x.0 x.1).0 in
    let hi = (holding.block at x.0 x.1).1 in
    let f = placed.is_first in
    let n = placed.is_count in
    let is : IsBlock p at = (omega (arith, lo, f), omega (arith, hi, n)) in
    subst (λ (r : Region). IsData r.first (count_of r) at) (sym (ap (λ (z : Parts). z.region) u.rest)) is
