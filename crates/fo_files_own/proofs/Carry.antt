-- What was made ready stays so.
use Rattle.std.proofs.Common.{◌≡◌, ◌⊎◌, ◌+◌, ◌≤◌, ℕ, List, length, take, drop, inl, inr, ⊎_elim, refl, sym, ap, subst, ◌∙◌, arith}
use Rattle.fo_image.specs.declared.types.Label.{Label}
use Rattle.fo_image.specs.declared.record.Record.{Record}
use Rattle.fo_ports.specs.State.{State, KeepsAll, Looks}
use Rattle.fo_ports.specs.Sources.{Made}
use Rattle.fo_files_ready.specs.of_files_leaf.Alters.{Alters, MayPut}
use Rattle.fo_files_record.specs.Own.{HasRoot}
use Rattle.fo_files_record.specs.Stays.{Rewrites}
use Rattle.fo_files_ready.proofs.Steps.{leaf_kept}
use Rattle.fo_files_own.specs.declared.at.OwnAt.{OwnAt}
use Rattle.fo_files_own.specs.declared.at.OwnAt.TheVariants as place
use Rattle.fo_files_own.specs.declared.at.ReadyOwn.{ReadyOwn}
use Rattle.fo_files_own.specs.Own.{AltersOwn, HasOwnLeaf, HasReady, IsBlockOf, MayPutOwn, blocks_for, pins_for, removals_for}

-- ---- over any call that leaves the block's label, pin and bytes

pub may_put_on : {s u : State} (r : ReadyOwn) → KeepsAll s u → u.label r.at ≡ s.label r.at → (s.pinned r.at → u.pinned r.at) → (u.now r.at).bytes ≡ (s.now r.at).bytes → MayPutOwn s r → MayPutOwn u r
may_put_on r all same pin bytes is = record {
  is_one = (all.same_blocks r.at).1 is.is_one;
  is_pinned = pin is.is_pinned;
  live = ap (λ (l : Label). l.state) same ∙ is.live;
  current = ap (λ (l : Label). l.epoch) same ∙ is.current ∙ sym all.same_high;
  kind_is = ⊎_elim (λ h. inl (h.0, ap (λ (l : Label). l.kind) same ∙ h.1)) (λ h. inr (h.0, ap (λ (l : Label). l.kind) same ∙ h.1)) is.kind_is;
  whole = ap (λ (xs : List ℕ). length xs) bytes ∙ is.whole;
  long = is.long;
}

pub root_bytes_on : {s u : State} (root : ℕ) (bytes : List ℕ) → (u.now root).bytes ≡ (s.now root).bytes → HasRoot s root bytes → HasRoot u root bytes
root_bytes_on root bytes same has = record { head = has.head ∙ sym (ap (λ (xs : List ℕ). take 16 xs) same); own = has.own ∙ sym (ap (λ (xs : List ℕ). drop 104 xs) same) }

-- of a root block it is asked that what was made ready is for it
pub has_ready_on : (s u : State) (at : OwnAt) (named : Record) (r : ReadyOwn) → ((root : ℕ) → at ≡ place.Root root → r.at ≡ root) → (u.now r.at).bytes ≡ (s.now r.at).bytes → HasReady s at named r → HasReady u at named r
has_ready_on s u (place.Root root) named r is same has =
    let e = is root refl in
    record { old = has.old; had = root_bytes_on root has.old (subst (λ b. (u.now b).bytes ≡ (s.now b).bytes) e same) has.had; own = has.own }
has_ready_on s u (place.Below b) named r is same has = subst (λ xs. HasOwnLeaf named xs r.bytes) (sym same) has

-- what it is for stays, too
pub block_on : (s u : State) (at : OwnAt) (r : ReadyOwn) → KeepsAll s u → u.label r.at ≡ s.label r.at → (s.pinned r.at → u.pinned r.at) → (u.now r.at).bytes ≡ (s.now r.at).bytes → IsBlockOf s at r → IsBlockOf u at r
block_on s u (place.Root root) r all same pin bytes is = is
block_on s u (place.Below b) r all same pin bytes is = (leaf_kept s u b.dir r.at all same pin (ap (λ (xs : List ℕ). length xs) bytes ∙ is.0.whole) is.0, is.1)

-- a block of a root is that root's
pub of_root : (s : State) (at : OwnAt) (r : ReadyOwn) → IsBlockOf s at r → (root : ℕ) → at ≡ place.Root root → r.at ≡ root
of_root s at r is root e = (subst (λ o. IsBlockOf s o r) e is).0

-- ---- over single steps

pub ready_looks : {s u : State} (r : ReadyOwn) → KeepsAll s u → Looks s u → MayPutOwn s r → MayPutOwn u r × ((u.now r.at).bytes ≡ (s.now r.at).bytes)
ready_looks r all looks is =
    let same = (looks.known r.at is.is_pinned).bytes in
    (may_put_on r all (looks.stays.labels r.at (λ n. n)) (looks.stays.marks r.at (λ n. n)).0 same is, same)

pub ready_rewrites : {s u : State} {leaves : ℕ → Type 0} {clears : ℕ → ℕ → Type 0} (r : ReadyOwn) → KeepsAll s u → Rewrites leaves clears s u → (leaves r.at → ⊥) → MayPutOwn s r → MayPutOwn u r × ((u.now r.at).bytes ≡ (s.now r.at).bytes)
ready_rewrites r all x other is =
    let same = x.bytes r.at is.is_pinned other in
    (may_put_on r all (x.labels r.at) (x.marks r.at).0 same is, same)

-- the block with the entries of the source that changes keeps its bytes, too
pub ready_alters : {at : ℕ} {slots tags : ℕ → Type 0} {puts : Label → Type 0} {but : ℕ → Type 0} {s u : State} (r : ReadyOwn) → KeepsAll s u → Alters at slots tags puts but s u
    → (r.at ≡ at) ⊎ (MayPut at puts but s r.at → ⊥) → MayPutOwn s r → MayPutOwn u r × ((u.now r.at).bytes ≡ (s.now r.at).bytes)
ready_alters {at = at} {s = s} {u = u} r all x other is =
    let none : Made s u r.at → ⊥ = λ made. made.0 is.live in
    let same : (u.now r.at).bytes ≡ (s.now r.at).bytes = ⊎_elim
    (λ here. subst (λ b. (u.now b).bytes ≡ (s.now b).bytes) (sym here) x.bytes)
    (λ away. (x.known r.at is.is_pinned none away).bytes)
    other in
    (may_put_on r all (x.labels r.at none) (x.marks r.at none).0 same is, same)

-- ---- what is taken at most

more_usable : (s_usable s_spare m_usable m_spare u_usable u_spare : ℕ) → s_usable + m_spare ≤ m_usable + s_spare → u_spare ≡ m_spare → m_usable ≤ u_usable → s_usable + u_spare ≤ u_usable + s_spare
more_usable s_usable s_spare m_usable m_spare u_usable u_spare a b c = omega (arith, a, b, c)

same_usable : (s_usable s_spare u_usable u_spare : ℕ) → u_usable ≡ s_usable → u_spare ≡ s_spare → s_usable + u_spare ≤ u_usable + s_spare
same_usable s_usable s_spare u_usable u_spare a b = omega (arith, a, b)

-- no more blocks are used than were reserved
pub own_usable : (B : Type 0) (state : B → State) (keeps : B → B → Type 0) (old new : B) (at : OwnAt) → AltersOwn B state keeps old new at → (state old).usable + (state new).spare ≤ (state new).usable + (state old).spare
own_usable B state keeps old new (place.Root root) x = same_usable (state old).usable (state old).spare (state new).usable (state new).spare x.usable.0 x.room.0
own_usable B state keeps old new (place.Below b) x = more_usable (state old).usable (state old).spare (state x.0).usable (state x.0).spare (state new).usable (state new).spare x.1.usable x.4.left.0 x.4.left.2

pub few_blocks : (at : OwnAt) → blocks_for at ≤ 11
few_blocks (place.Root root) = omega arith
few_blocks (place.Below b) = omega arith

pub few_pins : (at : OwnAt) → pins_for at ≤ 60
few_pins (place.Root root) = omega arith
few_pins (place.Below b) = omega arith

pub few_removals : (at : OwnAt) → removals_for at ≤ 1637
few_removals (place.Root root) = omega arith
few_removals (place.Below b) = omega arith
