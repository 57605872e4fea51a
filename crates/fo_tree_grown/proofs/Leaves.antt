-- What the end of a source was cleared of, and a leaf past it that was owned then: what the source's leaves are.
use Rattle.std.proofs.Common.{◌≡◌, ◌≢◌, ◌⊎◌, ◌+◌, ◌*◌, ◌/◌, ◌%◌, ◌^◌, ◌<◌, ◌≤◌, ℕ, Bool, true, false, cond, nat_lt, List, Option, Some, None, MatchOption, inl, inr, ⊎_elim, refl, sym, ◌∙◌, ap, subst, arith}
use Rattle.std.proofs.lemmas.Bool.{cases_eq}
use Rattle.fo_image.specs.declared.types.Label.{Label}
use Rattle.fo_image.specs.declared.types.Pointer.{Pointer}
use Rattle.fo_image.specs.declared.types.Pointer.TheVariants.{Nil, Local}
use Rattle.fo_ports.specs.of_crash.Images.{SameContent}
use Rattle.fo_ports.specs.Blocks.{blank, zero_bytes}
use Rattle.fo_ports.specs.State.{State, KeepsAll}
use Rattle.fo_ports.specs.Sources.{Made, Changes, IsCut, EndsWithin, StaysLeaf, Renewed, Owned}
use Rattle.fo_tree_read.specs.declared.tree.Tree.{Tree}
use Rattle.fo_tree_read.specs.Tree.{kind_at, block_at, held_of}
use Rattle.fo_tree_look.specs.declared.ways.Kept.{Kept}
use Rattle.fo_tree_look.specs.Source.{HasBlock, IsPlainTree, address_here, held_here, seen, form_of, leaves_of}
use Rattle.fo_tree_look.proofs.Places.{is_here}
use Rattle.fo_tree_look.proofs.Shown.{address_past, held_past}
use Rattle.fo_tree_clear.specs.of_tree_down.Way.{with_top}
use Rattle.fo_tree_clear.proofs.of_tree_down.Next.{local_seen}

none_some : {T : Type 0} (x : T) → None ≡ Some x → ⊥
none_some x e = cc

-- a leaf that stands on the device is under no score
held_apart : (s : State) (t : Tree) (kept : List Kept) (i at : ℕ) → address_here s t i ≡ Some at → held_here s t kept i ≡ None
held_apart s t kept i at e = by (nat_lt (8192 * i) t.size) (nat_lt i (409 ^ t.depth)) (block_at (seen s kept) t t.depth i) (local_seen s kept t t.depth i at (is_here s t i at e).is)
  where
    by : (c d : Bool) (p : Pointer) → p ≡ Local at → cond c (held_of (seen s kept) (kind_at t.dir 0) (cond d p Nil)) None ≡ None
    by true true p is = ap (λ (q : Pointer). held_of (seen s kept) (kind_at t.dir 0) q) is
    by true false p is = refl
    by false d p is = refl

held_both : (a b c : Option (List ℕ)) → (b ≡ a) ⊎ ((a ≡ Some zero_bytes) × (b ≡ None)) → (c ≡ b) ⊎ ((b ≡ Some zero_bytes) × (c ≡ None)) → (c ≡ a) ⊎ ((a ≡ Some zero_bytes) × (c ≡ None))
held_both a b c p q = ⊎_elim
    (λ e. ⊎_elim (λ f. inl (e ∙ f)) (λ z. inr (z.0, e ∙ z.1)) p)
    (λ z. ⊎_elim (λ f. inr (sym f ∙ z.0, z.1)) (λ w. absurd (none_some zero_bytes (sym w.1 ∙ z.0))) p)
    q

-- The last leaf of a plain source was cleared behind the end.
pub record Cleared (s m : State) (t : Tree) (kept : List Kept) (limit top at : ℕ) : Type 0 where
  pub all : KeepsAll s m
  pub plain : IsPlainTree t
  pub some : 0 < t.size % 8192
  pub there : address_here s t (t.size / 8192) ≡ None → held_here s t kept (t.size / 8192) ≡ None → ⊥
  pub owned : Owned (form_of t 0 limit) t.size (t.size / 8192) at s m (leaves_of s t kept limit) (leaves_of m (with_top t top) kept limit)
  pub labels : (b : ℕ) → (Made s m b → ⊥) → m.label b ≡ s.label b

-- A leaf of a source was owned.
pub record Second (m u : State) (t new : Tree) (kept : List Kept) (limit i at : ℕ) : Type 0 where
  pub owned : Owned (form_of t 0 limit) t.size i at m u (leaves_of m t kept limit) (leaves_of u new kept limit)
  pub changes : Changes t.tag (HasBlock m t) (λ b. HasBlock m t b × ((m.label b).kind ≢ kind_at t.dir 0)) m u

module _ {s m u : State} {t new : Tree} {kept : List Kept} {limit top at i end : ℕ} (x : Cleared s m t kept limit top at) (y : Second m u (with_top t top) new kept limit i end) (past : t.size < 8192 * (i + 1)) where
  abbrev last : ℕ
  last = t.size / 8192

  pub made_on : (b : ℕ) → Made s m b → Made s u b
  made_on b made = (made.0, ap (λ (l : Label). l.state) (y.changes.others b (λ n. n.0 made.1)).label ∙ made.1)

  pub made_later : (b : ℕ) → Made m u b → Made s u b
  made_later b made = (λ live. made.0 (ap (λ (l : Label). l.state) (x.labels b (λ n. n.0 live)) ∙ live), made.1)

  same_end : SameContent (u.now at) (m.now at)
  same_end = y.changes.memory at (λ touched. ⊎_elim (λ made. made.0 x.owned.label.0) (λ own. own.0.1 x.owned.label.1) touched)

  ends : (j : ℕ) → j ≡ last → (8192 * j < t.size) × (t.size < 8192 * (j + 1))
  ends j e = let some = x.some in (omega (arith, e, some), omega (arith, e, some))

  cut_on : (generation l j : ℕ) (now was : List ℕ) → IsCut (form_of t 0 limit) t.size j now was → IsCut (form_of t generation l) t.size j now was
  cut_on generation l j now was c = record { whole = λ no. c.whole no; cut = λ ends. c.cut ends }

  -- ---- other leaves

  first_stays : s.tells → (j : ℕ) → j ≢ last → (address_here m (with_top t top) j ≡ address_here s t j) × ((held_here m (with_top t top) kept j ≡ held_here s t kept j) ⊎ ((held_here s t kept j ≡ Some zero_bytes) × (held_here m (with_top t top) kept j ≡ None)))
  first_stays told j ne = ⊎_elim
      (λ z. (z.at, z.held))
      (λ r. let a = r.1.last.0 in let b = r.1.last.1 in let some = x.some in absurd (ne (omega (arith, a, b, some))))
      (x.owned.others told j ne)

  abbrev First : Option ℕ → Option (List ℕ) → Type 0
  First leaf held = MatchOption leaf (MatchOption held (SameContent (m.now at) (blank (kind_at t.dir 0))) (λ bytes. IsCut (form_of t 0 limit) t.size last ((m.now at).bytes) bytes)) (λ b. IsCut (form_of t 0 limit) t.size last ((m.now at).bytes) ((s.now b).bytes) × ((k : ℕ) → (m.now at).slot k ≡ (s.now b).slot k))

  abbrev Copied : Option ℕ → Type 0
  Copied leaf = MatchOption leaf (Made s m at) (λ b. ((b ≡ at) × ((s.label b).epoch ≡ s.high)) ⊎ (((s.label b).epoch < s.high) × Made s m at))

  abbrev Stays : ℕ → ℕ → ℕ → Type 0
  Stays generation l j = StaysLeaf (leaves_of s t kept l) (leaves_of u new kept l) j ⊎ ((t.size < 8192 * (i + 1)) × Renewed (form_of t generation l) t.size j s u (leaves_of s t kept l) (leaves_of u new kept l))

  abbrev Fresh : ℕ → ℕ → Option ℕ → Option (List ℕ) → Type 0
  Fresh generation l leaf held = MatchOption leaf (MatchOption held ⊥ (λ bytes. EndsWithin (form_of t generation l) t.size last × IsCut (form_of t generation l) t.size last ((u.now at).bytes) bytes)) (λ b. ((s.label b).epoch < s.high) × IsCut (form_of t generation l) t.size last ((u.now at).bytes) ((s.now b).bytes) × ((k : ℕ) → (u.now at).slot k ≡ (s.now b).slot k))

  cut_end : (generation l : ℕ) (was : List ℕ) → IsCut (form_of t 0 limit) t.size last ((m.now at).bytes) was → IsCut (form_of t generation l) t.size last ((u.now at).bytes) was
  cut_end generation l was c = subst (λ xs. IsCut (form_of t generation l) t.size last xs was) (sym same_end.bytes) (cut_on generation l last ((m.now at).bytes) was c)

  renewed : (generation l : ℕ) → address_here u new last ≡ Some at → Made s m at → Fresh generation l (address_here s t last) (held_here s t kept last) → Stays generation l last
  renewed generation l is made fresh = inr (
    past,
    record {
      last = let some = x.some in (omega (arith, some), omega (arith, some));
      block = at;
      is = (is, held_apart u new kept last at is);
      made = made_on at made;
      content = fresh;
    },
  )

  last_stays : (generation l : ℕ) → address_here u new last ≡ Some at → Stays generation l last
  last_stays generation l is = by (address_here s t last) (held_here s t kept last) refl refl x.owned.content x.owned.copied
    where
      by : (leaf : Option ℕ) (held : Option (List ℕ)) → address_here s t last ≡ leaf → held_here s t kept last ≡ held → First leaf held → Copied leaf → Stays generation l last
      by (Some b) held e f content copied = ⊎_elim
          (λ same. inl (record {
            at = is ∙ ap (λ z. Some z) (sym same.0) ∙ sym e;
            held = inl (held_apart u new kept last at is ∙ sym (held_apart s t kept last b e));
          }))
          (λ old. renewed generation l is old.1 (subst (λ a. Fresh generation l a (held_here s t kept last)) (sym e) (old.0, cut_end generation l ((s.now b).bytes) content.0, λ k. same_end.slots k ∙ content.1 k)))
          copied
      by None (Some bytes) e f content copied = renewed generation l is copied
          (subst (λ a. Fresh generation l a (held_here s t kept last)) (sym e) (subst (λ h. Fresh generation l None h) (sym f) ((x.plain, (ends last refl).0, (ends last refl).1), cut_end generation l bytes content)))
      by None None e f content copied = absurd (x.there e f)

  abbrev Older : Option ℕ → Type 0
  Older leaf = MatchOption leaf (Unit {0}) (λ b. (m.label b).epoch < m.high)

  others_end : (generation l : ℕ) → s.tells → (j : ℕ) → j ≢ i → Stays generation l j
  others_end generation l told j ne = ⊎_elim
      (λ z. ⊎_elim
      (λ e. subst (λ j. Stays generation l j) (sym e) (last_stays generation l (subst (λ j. address_here u new j ≡ Some at) e (z.at ∙ subst (λ j. address_here m (with_top t top) j ≡ Some at) (sym e) x.owned.is))))
      (λ apart.
      let first = first_stays told j apart in
      inl (record {
        at = z.at ∙ first.0;
        held = held_both (held_here s t kept j) (held_here m (with_top t top) kept j) (held_here u new kept j) first.1 z.held;
      }))
      (cases_eq j last))
      (λ r.
      let a = r.1.last.0 in
      let b = r.1.last.1 in
      let some = x.some in
      let e : last ≡ j = omega (arith, a, b, some) in
      absurd (not_older r.1.block (subst (λ a. Older a) (subst (λ j. address_here m (with_top t top) j ≡ Some at) e x.owned.is) (older _ _ _ (address_here m (with_top t top) j) (held_here m (with_top t top) kept j) r.1.content))))
      (y.owned.others (x.all.still_tells.1 told) j ne)
    where
      older : (F : List ℕ → Type 0) (G H : ℕ → Type 0) (leaf : Option ℕ) (held : Option (List ℕ)) → MatchOption leaf (MatchOption held ⊥ F) (λ b. ((m.label b).epoch < m.high) × G b × H b) → Older leaf
      older F G H (Some b) held c = c.0
      older F G H None held c = tt

      not_older : (b : ℕ) → (m.label at).epoch < m.high → ⊥
      not_older b lt = let now = x.owned.label.3 in omega (arith, lt, now)

  -- ---- the leaf itself

  abbrev Has : ℕ → ℕ → State → ℕ → Option ℕ → Option (List ℕ) → Type 0
  Has generation l w j leaf held = MatchOption leaf (MatchOption held (SameContent (u.now end) (blank (kind_at t.dir 0))) (λ bytes. IsCut (form_of t generation l) t.size j ((u.now end).bytes) bytes)) (λ b. IsCut (form_of t generation l) t.size j ((u.now end).bytes) ((w.now b).bytes) × ((k : ℕ) → (u.now end).slot k ≡ (w.now b).slot k))

  abbrev From : State → Option ℕ → Type 0
  From w leaf = MatchOption leaf (Made w u end) (λ b. ((b ≡ end) × ((w.label b).epoch ≡ w.high)) ⊎ (((w.label b).epoch < w.high) × Made w u end))

  -- the last leaf, which was cleared, is the one that is owned
  end_at : i ≡ last → at ≡ end
  end_at e =
      let is : address_here m (with_top t top) i ≡ Some at = subst (λ j. address_here m (with_top t top) j ≡ Some at) (sym e) x.owned.is in
      let from : From m (Some at) = subst (λ a. From m a) is y.owned.copied in
      ⊎_elim (λ same. same.0) (λ old. let lt = old.0 in let now = x.owned.label.3 in absurd (omega (arith, lt, now))) from

  content_last : (generation l : ℕ) → i ≡ last → Has generation l s last (address_here s t last) (held_here s t kept last)
  content_last generation l e = subst (λ z. MatchOption (address_here s t last) (MatchOption (held_here s t kept last) (SameContent (u.now z) (blank (kind_at t.dir 0))) (λ bytes. IsCut (form_of t generation l) t.size last ((u.now z).bytes) bytes)) (λ b. IsCut (form_of t generation l) t.size last ((u.now z).bytes) ((s.now b).bytes) × ((k : ℕ) → (u.now z).slot k ≡ (s.now b).slot k))) (end_at e)
      (by (address_here s t last) (held_here s t kept last) x.there x.owned.content)
    where
      by : (leaf : Option ℕ) (held : Option (List ℕ)) → (leaf ≡ None → held ≡ None → ⊥) → First leaf held → MatchOption leaf (MatchOption held (SameContent (u.now at) (blank (kind_at t.dir 0))) (λ bytes. IsCut (form_of t generation l) t.size last ((u.now at).bytes) bytes)) (λ b. IsCut (form_of t generation l) t.size last ((u.now at).bytes) ((s.now b).bytes) × ((k : ℕ) → (u.now at).slot k ≡ (s.now b).slot k))
      by (Some b) held some c = (cut_end generation l ((s.now b).bytes) c.0, λ k. same_end.slots k ∙ c.1 k)
      by None (Some bytes) some c = cut_end generation l bytes c
      by None None some c = absurd (some refl refl)

  content_new : (generation l : ℕ) → t.size ≤ 8192 * i → Has generation l s i (address_here s t i) (held_here s t kept i)
  content_new generation l le =
      let first : Has 0 limit m i None None = subst (λ h. Has 0 limit m i None h) (held_past m (with_top t top) kept i le) (subst (λ a. Has 0 limit m i a (held_here m (with_top t top) kept i)) (address_past m (with_top t top) i le) y.owned.content) in
      subst (λ a. Has generation l s i a (held_here s t kept i)) (sym (address_past s t i le)) (subst (λ h. Has generation l s i None h) (sym (held_past s t kept i le)) first)

  content_end : (generation l : ℕ) → Has generation l s i (address_here s t i) (held_here s t kept i)
  content_end generation l = ⊎_elim
      (λ e. subst (λ j. Has generation l s j (address_here s t j) (held_here s t kept j)) (sym e) (content_last generation l e))
      (λ ne. content_new generation l (omega (arith, ne, past)))
      (cases_eq i last)

  copied_last : i ≡ last → From s (address_here s t last)
  copied_last e = by (address_here s t last) x.owned.copied
    where
      same : at ≡ end
      same = end_at e

      by : (leaf : Option ℕ) → Copied leaf → From s leaf
      by (Some b) c = ⊎_elim (λ own. inl (own.0 ∙ same, own.1)) (λ old. inr (old.0, subst (λ z. Made s u z) same (made_on at old.1))) c
      by None c = subst (λ z. Made s u z) same (made_on at c)

  copied_end : From s (address_here s t i)
  copied_end = ⊎_elim
      (λ e. subst (λ j. From s (address_here s t j)) (sym e) (copied_last e))
      (λ ne.
      let le : t.size ≤ 8192 * i = omega (arith, ne, past) in
      subst (λ a. From s a) (sym (address_past s t i le)) (made_later end (subst (λ a. From m a) (address_past m (with_top t top) i le) y.owned.copied)))
      (cases_eq i last)

  pub owned_end : (generation l : ℕ) → Owned (form_of t generation l) t.size i end s u (leaves_of s t kept l) (leaves_of u new kept l)
  owned_end generation l = record {
    is = y.owned.is;
    others = others_end generation l;
    content = content_end generation l;
    copied = copied_end;
    label = y.owned.label;
    ready = y.owned.ready;
  }
