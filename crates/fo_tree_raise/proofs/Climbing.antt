-- A tree with levels more.
use Rattle.std.proofs.Common.{◌≡◌, ◌⊎◌, ◌+◌, ◌-◌, ◌*◌, ◌^◌, ◌<◌, ◌≤◌, ℕ, zero, suc, inl, inr, ⊎_elim, sym, ◌∙◌, ap, subst, arith}
use Rattle.std.proofs.lemmas.Bool.{cases_eq}
use Rattle.std.proofs.Math.Nat.{pow-succ'}
use Rattle.fo_image.specs.declared.types.Pointer.{Pointer}
use Rattle.fo_image.specs.declared.types.Pointer.TheVariants.{Local}
use Rattle.fo_ports.specs.State.{State}
use Rattle.fo_ports.specs.Sources.{Made}
use Rattle.fo_tree_read.specs.declared.tree.Tree.{Tree}
use Rattle.fo_tree_read.specs.Tree.{block_at}
use Rattle.fo_tree_raise.specs.Raise.{CanRaise, Raises, SameBelow, raised}
use Rattle.fo_tree_raise.specs.Levels.{Adds, IsTopAfter, InStead, grown}

pub grown_none : (t : Tree) (levels : ℕ) → levels ≡ 0 → t ≡ grown t levels t.top
grown_none t levels none = let same : t.depth ≡ t.depth + levels = omega (arith, none) in ap (λ d. record t { depth = d; top = t.top }) same

pub grown_more : (t : Tree) (levels top : ℕ) (p : Pointer) → 0 < levels → raised (grown t (levels - 1) p) top ≡ grown t levels (Local top)
grown_more t levels top p some = let same : t.depth + (levels - 1) + 1 ≡ t.depth + levels = omega (arith, some) in ap (λ d. record t { depth = d; top = Local top }) same

-- there is room with more levels
pub room_more : (size depth levels : ℕ) → size ≤ 8192 * 409 ^ depth → size ≤ 8192 * 409 ^ (depth + levels)
room_more size depth zero le = let same : depth ≡ depth + zero = omega arith in subst (λ d. size ≤ 8192 * 409 ^ d) same le
room_more size depth (suc levels) le =
    let before : size ≤ 8192 * 409 ^ (depth + levels) = room_more size depth levels le in
    let more : 409 ^ suc (depth + levels) ≡ 409 * 409 ^ (depth + levels) = pow-succ' 409 (depth + levels) in
    let same : suc (depth + levels) ≡ depth + suc levels = omega arith in
    subst (λ d. size ≤ 8192 * 409 ^ d) same (omega (arith, before, more))

pub local_eq : {a b : ℕ} → Local a ≡ Local b → a ≡ b
local_eq e = cc

-- what a level is put over
pub over_by : {s m : State} {t : Tree} {levels : ℕ} {p : Pointer} → CanRaise s t → IsTopAfter s m t levels p → (b : ℕ) → p ≡ Local b → ((t.top ≡ Local b) × (Made s m b → ⊥)) ⊎ (Made s m b × m.apart b)
over_by {s = s} {m = m} {t = t} {levels = levels} can is b e = ⊎_elim
    (λ none. let here : t.top ≡ Local b = sym (is.same none).0 ∙ e in inl (here, λ made. made.0 (can.under b here).live))
    (λ some.
    let new = is.new (omega (arith, some)) in
    let here : new.0 ≡ b = local_eq (sym new.1 ∙ e) in
    inr (subst (λ y. Made s m y) here new.2, subst (λ y. m.apart y) here new.3))
    (cases_eq levels 0)

-- what a new top comes in the place of
pub stead_by : {s m u : State} {t : Tree} {levels top : ℕ} {p : Pointer} → CanRaise s t → IsTopAfter s m t levels p → Adds t.tag (λ b. t.top ≡ Local b) s m → Raises (grown t levels p) top m u
    → ((b y : ℕ) → Made s m b → m.instead b y → InStead s t y) → (y : ℕ) → u.instead top y → InStead s t y
stead_by {s = s} {m = m} {t = t} {levels = levels} can is first step before y h =
    let r = step.raises y h in
    ⊎_elim
    (λ none.
    let same = is.same none in
    let here : t.top ≡ Local r.0 = sym same.0 ∙ r.1 in (
      r.0,
      here,
      ⊎_elim
          (λ own. inl (own.0, λ apart. own.1 (same.1 r.0 apart)))
          (λ was. ⊎_elim (λ old. inr old.1) (λ made. absurd (made.0.0 (can.under r.0 here).live)) (first.instead r.0 y was))
          r.2,
    ))
    (λ some.
    let new = is.new (omega (arith, some)) in
    let here : new.0 ≡ r.0 = local_eq (sym new.1 ∙ r.1) in
    ⊎_elim
    (λ own. absurd (own.1 (subst (λ b. m.apart b) here new.3)))
    (λ was. before r.0 y (subst (λ b. Made s m b) here new.2) was)
    r.2)
    (cases_eq levels 0)

-- ---- leaves

pub leaves_none : (s : State) (t : Tree) (levels : ℕ) → levels ≡ 0 → (k : ℕ) → block_at s (grown t levels t.top) (t.depth + levels) k ≡ block_at s t t.depth k
leaves_none s t levels none k = let same : t.depth ≡ t.depth + levels = omega (arith, none) in sym (ap (λ d. block_at s (record t { depth = d; top = t.top }) d k) same)

pub leaves_more : (s m u : State) (t : Tree) (levels top : ℕ) (p : Pointer) → 0 < levels → SameBelow m u (grown t (levels - 1) p) top
    → ((k : ℕ) → k < 409 ^ t.depth → block_at m (grown t (levels - 1) p) (t.depth + (levels - 1)) k ≡ block_at s t t.depth k)
    → (k : ℕ) → k < 409 ^ t.depth → block_at u (grown t levels (Local top)) (t.depth + levels) k ≡ block_at s t t.depth k
leaves_more s m u t levels top p some below first k few =
    let room : 8192 * (k + 1) ≤ 8192 * 409 ^ (t.depth + (levels - 1)) = room_more (8192 * (k + 1)) t.depth (levels - 1) (omega (arith, few)) in
    let level : suc (t.depth + (levels - 1)) ≡ t.depth + levels = omega (arith, some) in
    subst (λ (x : Tree). block_at u x (t.depth + levels) k ≡ block_at s t t.depth k) (grown_more t levels top p some)
    (subst (λ n. block_at u (raised (grown t (levels - 1) p) top) n k ≡ block_at s t t.depth k) level
    (below.each (t.depth + (levels - 1)) k (omega arith) (omega (arith, room)) ∙ first k few))
