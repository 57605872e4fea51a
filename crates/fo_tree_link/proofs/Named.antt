-- What the leaves of a source name once a way was made current.
use Rattle.std.proofs.Common.{◌≡◌, ◌≢◌, ◌⊎◌, ◌+◌, ◌-◌, ◌*◌, ◌/◌, ◌%◌, ◌^◌, ◌<◌, ℕ, zero, suc, Bool, true, false, List, inl, inr, ⊎_elim, refl, sym, ◌∙◌, ap, subst, arith}
use Rattle.std.proofs.lemmas.Bool.{cases_eq}
use Rattle.std.proofs.Math.Nat.{pow-succ'}
use Rattle.fo_image.specs.declared.types.Kind.TheVariants.{Data, Root}
use Rattle.fo_image.specs.declared.types.Pointer.{Pointer}
use Rattle.fo_image.specs.declared.types.Pointer.TheVariants.{Nil, Local, Score as Held}
use Rattle.fo_crash.specs.declared.slot.Slot.{Slot}
use Rattle.fo_crash.specs.Images.{SameContent, target}
use Rattle.fo_ports.specs.State.{State}
use Rattle.fo_ports.specs.Sources.{Changes}
use Rattle.fo_tree_read.specs.declared.tree.Tree.{Tree}
use Rattle.fo_tree_read.specs.Tree.{kind_at, kind_down, below, block_at}
use Rattle.fo_tree_look.specs.declared.ways.Kept.{Kept}
use Rattle.fo_tree_look.specs.Source.{HasBlock, Over}
use Rattle.fo_tree_look.proofs.Held.{seen_block}
use Rattle.fo_tree_down.specs.of_tree_own.Step.{Becomes}
use Rattle.fo_tree_down.proofs.of_tree_own.Link.{blank_leads}
use Rattle.fo_tree_down.specs.Way.{IsWayIndex, Comes, StaysBeside, with_top}
use Rattle.fo_tree_down.proofs.Beside.{index_within}
use Rattle.fo_tree_link.specs.Change.{KeepsEntries}
use Rattle.fo_tree_link.proofs.Walks.{local_eq}

-- an index within the room of its level
abbrev pub index_of : ℕ → ℕ → ℕ
index_of zero j = 0
index_of (suc m) j = 409 * index_of m (j / 409) + j % 409

pub index_few : (m j : ℕ) → index_of m j < 409 ^ m
index_few zero j = omega arith
index_few (suc m) j =
    let more : 409 ^ suc m ≡ 409 * 409 ^ m = pow-succ' 409 m in
    less (index_of m (j / 409)) (j % 409) (409 ^ m) (409 ^ suc m) (index_few m (j / 409)) (omega arith) more
  where
    less : (a r p q : ℕ) → a < p → r < 409 → q ≡ 409 * p → 409 * a + r < q
    less a r p q lt few is = omega (arith, lt, few, is)

pub index_same : (s : State) (t : Tree) (m j : ℕ) → block_at s t m (index_of m j) ≡ block_at s t m j
index_same s t zero j = refl
index_same s t (suc m) j =
    let up : (409 * index_of m (j / 409) + j % 409) / 409 ≡ index_of m (j / 409) = omega arith in
    let rest : (409 * index_of m (j / 409) + j % 409) % 409 ≡ j % 409 = omega arith in
    ap (λ y. below s (kind_down t m) (block_at s t m y) ((409 * index_of m (j / 409) + j % 409) % 409)) up
    ∙ ap (λ y. below s (kind_down t m) (block_at s t m (index_of m (j / 409))) y) rest
    ∙ ap (λ (p : Pointer). below s (kind_down t m) p (j % 409)) (index_same s t m (j / 409))

-- the last block of a way
pub index_one : (n k j : ℕ) → IsWayIndex n k n j → j ≡ k
index_one zero k j is = is.1
index_one (suc n) k j is = ⊎_elim (λ here. here.1) (λ above. let le = index_within n (k / 409) (suc n) j above in absurd (omega (arith, le))) is

pub nil_local : (b : ℕ) → Nil ≢ Local b
nil_local b e = cc

pub not_plain : (dir : Bool) → dir ≡ true → kind_at dir 0 ≡ Data 0 → ⊥
not_plain true is e = cc
not_plain false is e = absurd (let h = is in cc)

pub leaf_not_root : (dir : Bool) (level : ℕ) → kind_at dir level ≡ Root → ⊥
leaf_not_root true level e = cc
leaf_not_root false level e = cc

pub leaf_is : (dir : Bool) (n : ℕ) → kind_at dir (n - n) ≡ kind_at dir 0
leaf_is dir n = let none : n - n ≡ 0 = omega arith in ap (λ l. kind_at dir l) none

-- The way to a leaf was made current, over a device that tells.
pub record Named (s u : State) (t : Tree) (kept : List Kept) (limit i top at : ℕ) : Type 0 where
  pub over : Over s t kept limit
  pub told : s.tells
  pub few : i < 409 ^ t.depth
  pub comes : Comes s u t kept t.depth i at
  pub leads : block_at u (with_top t top) t.depth i ≡ Local at
  pub beside : StaysBeside s u t (with_top t top) t.depth i
  pub changes : Changes t.tag (HasBlock s t) (λ b. HasBlock s t b × ((s.label b).kind ≢ kind_at t.dir 0)) s u
  pub leaf_kind : (k a : ℕ) → block_at s t t.depth k ≡ Local a → (s.label a).kind ≡ kind_at t.dir 0

module _ {s u : State} {t : Tree} {kept : List Kept} {limit i top at : ℕ} (x : Named s u t kept limit i top at) where
  abbrev Was : ℕ → Type 0
  Was a = ((m b : ℕ) × (block_at s t t.depth m ≡ Local b) × ((j : ℕ) → (u.now a).slot j ≡ (s.now b).slot j)) ⊎ ((j b : ℕ) → target ((u.now a).slot j) ≢ Local b)

  -- the leaf at the end of the way
  here : t.dir ≡ true → (p : Pointer) → block_at s t t.depth i ≡ p → Becomes s u t kept (t.depth - t.depth) p at → Was at
  here dir Nil is content = inr (λ j b e. nil_local b (sym (ap (λ (q : Slot). target q) (content.slots j) ∙ blank_leads t.dir (t.depth - t.depth) j) ∙ e))
  here dir (Local b) is content = inl (i, b, is, content.slots)
  here dir (Held score) is content = absurd (x.over.unheld x.told (λ plain. not_plain t.dir dir plain.0) i score is)

  -- another leaf stays
  stays : (m a : ℕ) → block_at s t t.depth m ≡ Local a → SameContent (u.now a) (s.now a)
  stays m a is =
      let own = x.over.told x.told a (record { down = t.depth; index = m; within = omega arith; is = is }) in
      x.changes.memory a (λ touched. ⊎_elim (λ made. made.0 own.live) (λ inner. inner.0.1 (x.leaf_kind m a is)) touched)

  pub same_named : KeepsEntries s u t (with_top t top)
  same_named = record {
    each = λ dir k a is.
        let m : ℕ = index_of t.depth k in
        let within : m < 409 ^ t.depth = index_few t.depth k in
        let now : block_at u (with_top t top) t.depth m ≡ Local a = index_same u (with_top t top) t.depth k ∙ is in
        ⊎_elim
        (λ e.
        let same : at ≡ a = local_eq (sym x.leads ∙ ap (λ n. block_at u (with_top t top) t.depth n) (sym e) ∙ now) in
        subst (λ b. Was b) same (here dir (block_at s t t.depth i) refl (subst (λ (p : Pointer). Becomes s u t kept (t.depth - t.depth) p at) (seen_block s kept x.over.held x.told t t.depth i) x.comes.content)))
        (λ ne.
        let was : block_at s t t.depth m ≡ Local a = sym (x.beside.each t.depth m (omega arith) within (λ way. ne (index_one t.depth i m way))) ∙ now in
        inl (m, a, was, (stays m a was).slots))
        (cases_eq m i);
  }
