-- What the leaves of a source of entries name once one of them was owned.
use Rattle.std.proofs.Common.{◌≡◌, ◌≢◌, ◌⊎◌, ◌+◌, ◌*◌, ◌^◌, ◌<◌, ◌≤◌, ℕ, zero, suc, true, cond, List, Option, Some, None, MatchOption, inl, inr, ⊎_elim, refl, sym, ◌∙◌, ap, subst, arith}
use Rattle.std.proofs.lemmas.Bool.{cases_eq, cases_lt, lt-ltb}
use Rattle.fo_image.specs.declared.types.Pointer.{Pointer}
use Rattle.fo_image.specs.declared.types.Pointer.TheVariants.{Nil, Local}
use Rattle.fo_crash.specs.declared.slot.Slot.{Slot}
use Rattle.fo_crash.specs.Images.{SameContent, target}
use Rattle.fo_ports.specs.Blocks.{blank}
use Rattle.fo_ports.specs.State.{State, KeepsAll}
use Rattle.fo_ports.specs.Sources.{Changes, EndsWithin, IsCut, MayZero, Owned, Renewed, StaysLeaf}
use Rattle.fo_tree_read.specs.declared.tree.Tree.{Tree}
use Rattle.fo_tree_read.specs.Tree.{kind_at, block_at, address, address_of}
use Rattle.fo_tree_look.specs.declared.ways.Kept.{Kept}
use Rattle.fo_tree_look.specs.Source.{HasBlock, Over, AllHeld, address_here, held_here, form_of, leaves_of}
use Rattle.fo_tree_look.proofs.Held.{seen_block}
use Rattle.fo_tree_look.proofs.Places.{is_here, none_here}
use Rattle.fo_tree_look.proofs.Shown.{address_past}
use Rattle.fo_tree_down.proofs.of_tree_own.Link.{blank_leads}
use Rattle.fo_tree_down.specs.Way.{IsWayIndex}
use Rattle.fo_tree_down.specs.Clear.{EndsClear, last_leaf}
use Rattle.fo_tree_link.specs.Change.{KeepsEntries}
use Rattle.fo_tree_link.proofs.Named.{index_of, index_few, index_same, nil_local, not_plain}

some_eq : {a b : ℕ} → Some a ≡ Some b → a ≡ b
some_eq e = cc

none_some : {a : ℕ} → None ≡ Some a → ⊥
none_some e = cc

-- a block stands on the way to itself
way_end : (n k : ℕ) → IsWayIndex n k n k
way_end zero k = (refl, refl)
way_end (suc n) k = inl (refl, refl)

-- A leaf of a source was owned, over a device that tells, and nothing stands behind its end.
pub record Taken (s u : State) (t new : Tree) (kept later : List Kept) (limit generation i at : ℕ) : Type 0 where
  pub over : Over s t kept limit
  pub all : KeepsAll s u
  pub told : s.tells
  pub owned : Owned (form_of t generation limit) t.size i at s u (leaves_of s t kept limit) (leaves_of u new later limit)
  pub changes : Changes t.tag (HasBlock s t) (MayZero (form_of t generation limit) t.size i s (leaves_of s t kept limit)) s u
  pub clear : EndsClear u new later
  pub held : AllHeld u later
  pub leaf_kind : (k a : ℕ) → block_at s t t.depth k ≡ Local a → (s.label a).kind ≡ kind_at t.dir 0

module _ {s u : State} {t new : Tree} {kept later : List Kept} {limit generation i at : ℕ} (x : Taken s u t new kept later limit generation i at) where
  abbrev Was : ℕ → Type 0
  Was a = ((m b : ℕ) × (block_at s t t.depth m ≡ Local b) × ((j : ℕ) → (u.now a).slot j ≡ (s.now b).slot j)) ⊎ ((j b : ℕ) → target ((u.now a).slot j) ≢ Local b)

  some : 0 < new.size
  some = ⊎_elim (λ lt. lt) (λ none. absurd (none_some (sym (address_past u new i (omega (arith, none))) ∙ x.owned.is))) (cases_lt 0 new.size)

  none_held : t.dir ≡ true → (j : ℕ) → held_here s t kept j ≡ None
  none_held dir j = none_here s t kept x.over.held x.told (x.over.unheld x.told (λ plain. not_plain t.dir dir plain.0)) j

  no_end : t.dir ≡ true → (j : ℕ) → EndsWithin (form_of t generation limit) t.size j → ⊥
  no_end dir j ends = not_plain t.dir dir ends.0.0

  -- the leaf that was owned
  owned_leaf : t.dir ≡ true → Was at
  owned_leaf dir = by (address_here s t i) refl (held_here s t kept i) (none_held dir i) x.owned.content
    where
      by : (o : Option ℕ) → address_here s t i ≡ o → (h : Option (List ℕ)) → h ≡ None → MatchOption o (MatchOption h (SameContent (u.now at) (blank (kind_at t.dir 0))) (λ bytes. IsCut (form_of t generation limit) t.size i ((u.now at).bytes) bytes)) (λ b. IsCut (form_of t generation limit) t.size i ((u.now at).bytes) ((s.now b).bytes) × ((k : ℕ) → (u.now at).slot k ≡ (s.now b).slot k)) → Was at
      by (Some b) e h none c = inl (i, b, (is_here s t i b e).is, c.1)
      by None e None none c = inr (λ j b leads. nil_local b (sym (ap (λ (q : Slot). target q) (c.slots j) ∙ blank_leads t.dir 0 j) ∙ leads))
      by None e (Some bytes) none c = absurd (let h = none in cc)

  -- another leaf stays
  same_leaf : t.dir ≡ true → (m a : ℕ) → block_at s t t.depth m ≡ Local a → SameContent (u.now a) (s.now a)
  same_leaf dir m a is =
      let own = x.over.told x.told a (record { down = t.depth; index = m; within = omega arith; is = is }) in
      x.changes.memory a (λ touched. ⊎_elim
      (λ made. made.0 own.live)
      (λ inner. ⊎_elim (λ own. own.1 (x.leaf_kind m a is)) (λ ends. no_end dir ends.0 ends.1) inner.0)
      touched)

  other_leaf : t.dir ≡ true → (m a : ℕ) → m ≢ i → address_here u new m ≡ Some a → Was a
  other_leaf dir m a ne is = ⊎_elim stays renewed (x.owned.others x.told m ne)
    where
      stays : StaysLeaf (leaves_of s t kept limit) (leaves_of u new later limit) m → Was a
      stays h =
          let was = (is_here s t m a (sym h.at ∙ is)).is in
          inl (m, a, was, (same_leaf dir m a was).slots)

      renewed : (t.size < 8192 * (i + 1)) × Renewed (form_of t generation limit) t.size m s u (leaves_of s t kept limit) (leaves_of u new later limit) → Was a
      renewed h = subst (λ y. Was y) (some_eq (sym h.1.is.0 ∙ is)) (by (address_here s t m) refl (held_here s t kept m) (none_held dir m) h.1.content)
        where
          by : (o : Option ℕ) → address_here s t m ≡ o → (bytes : Option (List ℕ)) → bytes ≡ None
              → MatchOption o (MatchOption bytes ⊥ (λ bytes. EndsWithin (form_of t generation limit) t.size m × IsCut (form_of t generation limit) t.size m ((u.now h.1.block).bytes) bytes)) (λ b. ((s.label b).epoch < s.high) × IsCut (form_of t generation limit) t.size m ((u.now h.1.block).bytes) ((s.now b).bytes) × ((k : ℕ) → (u.now h.1.block).slot k ≡ (s.now b).slot k))
              → Was h.1.block
          by (Some b) e bytes none c = inl (m, b, (is_here s t m b e).is, c.2)
          by None e None none c = absurd c
          by None e (Some bytes) none c = absurd (no_end dir m c.0)

  -- a leaf below the end is at its address
  address_is : (m a : ℕ) → 8192 * m < new.size → m < 409 ^ new.depth → block_at u new new.depth m ≡ Local a → address_here u new m ≡ Some a
  address_is m a inside few is =
      ap (λ b. cond b (address u new m) None) (lt-ltb (8192 * m) new.size inside)
      ∙ ap (λ b. address_of (cond b (block_at u new new.depth m) Nil)) (lt-ltb m (409 ^ new.depth) few)
      ∙ ap (λ (p : Pointer). address_of p) is

  -- none stands behind it
  none_past : (m a : ℕ) → new.size ≤ 8192 * m → m < 409 ^ new.depth → block_at u new new.depth m ≡ Local a → ⊥
  none_past m a past few is =
      let size = some in
      let none = x.clear.behind some new.depth (last_leaf new.size) m (way_end new.depth (last_leaf new.size)) (omega (arith, size, past)) few in
      nil_local a (sym none ∙ seen_block u later x.held (x.all.still_tells.1 x.told) new new.depth m ∙ is)

  pub owned_entries : KeepsEntries s u t new
  owned_entries = record {
    each = λ dir k a is.
        let m : ℕ = index_of new.depth k in
        let few : m < 409 ^ new.depth = index_few new.depth k in
        let now : block_at u new new.depth m ≡ Local a = index_same u new new.depth k ∙ is in
        ⊎_elim
        (λ inside.
        let here : address_here u new m ≡ Some a = address_is m a inside few now in
        ⊎_elim
        (λ e. subst (λ y. Was y) (some_eq (sym x.owned.is ∙ ap (λ y. address_here u new y) (sym e) ∙ here)) (owned_leaf dir))
        (λ ne. other_leaf dir m a ne here)
        (cases_eq m i))
        (λ past. absurd (none_past m a past few now))
        (cases_lt (8192 * m) new.size);
  }
