-- What is known once nothing is left to be followed.
use Rattle.std.proofs.Common.{◌≡◌, ◌≢◌, ◌⊎◌, ⊎_elim, inl, inr, ℕ, zero, suc, ◌+◌, ◌<◌, ◌≤◌, Bool, true, false, not, List, [], ◌∷◌, ◌++◌, length, length-append, get_or, Option, refl, sym, ap, ◌∙◌, subst, arith}
use Rattle.std.specs.Prelude.{◌&&◌}
use Rattle.std.specs.List.{All, Any, Contains}
use Rattle.std.proofs.lemmas.Bool.{false≢true}
use Rattle.std.proofs.lemmas.List.{get_or_default}
use Rattle.fo_disk.specs.Disk.{Block}
use Rattle.fo_image.specs.declared.types.Kind.{Kind}
use Rattle.fo_image.specs.declared.types.Label.{Label}
use Rattle.fo_image.specs.declared.types.State.{State}
use Rattle.fo_image.specs.declared.types.State.TheVariants.{Free}
use Rattle.fo_image.specs.declared.types.Super.{Super}
use Rattle.fo_image.specs.declared.types.Score.{Score}
use Rattle.fo_image.specs.declared.types.Pointer.{Pointer}
use Rattle.fo_image.specs.declared.types.Pointer.TheVariants.{Nil, Local, Score as Held}
use Rattle.fo_image.specs.Place.{first_data}
use Rattle.fo_image.specs.Usable.{is_usable, is_usable_in}
use Rattle.fo_crash.specs.declared.place.Place.{Place}
use Rattle.fo_crash.specs.declared.slot.Slot.{Slot}
use Rattle.fo_crash.specs.Images.{Content, Image, Arena, Link, target, meant, found, step, goes, from_block, kind_below, nothing}
use Rattle.fo_crash.specs.Places.{place_below, root_place}
use Rattle.fo_good.specs.Means.{IsRead, Means}
use Rattle.fo_sound.specs.Image.{block_of, IsDataBlock, HasLabel}
use Rattle.fo_sound.specs.Sound.{root_label}
use Rattle.fo_good.specs.Trees.{MayHave, HasLabelBelow, HasTreeLabels, HasNoScores, IsTree, LeadsTo, at_path, place_of, place_along}
use Rattle.fo_good.specs.Sound.{Kept}
use Rattle.fo_good.specs.Lost.{IsUsed, IsLeaked, AreSoMany}
use Rattle.fo_check_tree.specs.declared.broken.Broken.{Broken}
use Rattle.fo_check_labels.specs.declared.labels.Known.{Known}
use Rattle.fo_check_tree.specs.Answer.{RefusesTree, RefusesCheck}
use Rattle.fo_check_labels.specs.Table.{RefusesTable}
use Rattle.fo_check_labels.specs.declared.error.TreeError.{TreeError}
use Rattle.fo_check_labels.specs.declared.error.TreeError.TheVariants.{Label as BadLabel, Read, Memory}
use Rattle.fo_check_labels.specs.Known.{reached, leaked}
use Rattle.fo_check_tree.specs.Lower.{level}
use Rattle.fo_check_tree.specs.Walking.{Reached, IsTaken, HasPath, place_under, tag_below, IsDone, Goes}
use Rattle.fo_check_tree.specs.Walking.IsDone.{nowhere, left, held, local}
use Rattle.fo_check_tree.proofs.Counting.{IsOne, so_many}
use Rattle.fo_check_tree.proofs.Going.{local_is}
use Rattle.fo_check_tree.proofs.Paths.{below_kind, below_tag, found_is, goes_end, slot_end, end_kind, end_tag}
use Rattle.fo_check_tree.proofs.Reaching.{is_known, one_index}
use Rattle.fo_check_tree.proofs.Spelled.{only_has}
use Rattle.fo_check_tree.proofs.Stepping.{taken_of}

nil_local : {a : ℕ} → Nil ≡ Local a → ⊥
nil_local e = cc

held_local : {a : ℕ} {x : Score} → Held x ≡ Local a → ⊥
held_local e = cc

nil_held : {x : Score} → Nil ≡ Held x → ⊥
nil_held e = cc

-- ---- the last slot of a path

record Last (xs : List ℕ) : Type 0 where
  front : List ℕ
  last : ℕ
  is : xs ≡ front ++ last ∷ []

view : (xs : List ℕ) → (xs ≡ []) ⊎ Last xs
view [] = inl refl
view (x ∷ xs) = inr (⊎_elim
    (λ (none : xs ≡ []). record { front = []; last = x; is = ap (λ (ys : List ℕ). x ∷ ys) none })
    (λ (l : Last xs). record { front = x ∷ l.front; last = l.last; is = ap (λ (ys : List ℕ). x ∷ ys) l.is })
    (view xs))

module _ (arena : Arena) (device : List Block) (image : Image) (s : Super) (k : Kept) (empty : (kind : Kind) (score : Score) → arena kind score ≡ nothing) (known : List Known) (noted : Option Broken) (n : ℕ → ℕ → ℕ)
    (g : Goes arena device image s k known noted n) (none : (b j : ℕ) → n b j ≡ 0) where
  -- ---- one slot more

  -- where a block leads on to
  record Leads (at : ℕ) (l : Label) (i below : ℕ) : Type 0 where
    label : Label
    reached' : Reached known below label
    may : MayHave k.root.epoch true (place_under l ((image at).slot i)) l label

  by_done : (at i below : ℕ) (l : Label) → target ((image at).slot i) ≡ Local below → IsDone image k known noted n at l i → Leads at l i below
  by_done at i below l is (nowhere nil) = absurd (nil_local (sym nil ∙ is))
  by_done at i below l is (left some) = absurd (omega (arith, some, none at i))
  by_done at i below l is (held x h most) = absurd (held_local (sym h ∙ is))
  by_done at i below l is (local b m h r may) = record { label = m; reached' = subst (λ (c : ℕ). Reached known c m) (local_is (sym h ∙ is)) r; may = may }

  leads_on : (at i below : ℕ) (l : Label) → Reached known at l → target ((image at).slot i) ≡ Local below → Leads at l i below
  leads_on at i below l r is = by_done at i below l is (g.done at l i r)

  -- ---- whole paths

  pub record Stands (w : Link) (p : Place) (at : ℕ) : Type 0 where
    pub label : Label
    pub leads : target w.slot ≡ Local at
    pub link : w.kind ≡ label.kind
    pub kind : p.kind ≡ label.kind
    pub tag : p.tag ≡ label.tag
    pub is : Reached known at label

  by_pointer : (kind : Kind) (p : Pointer) (i b : ℕ) → ((a : ℕ) → p ≢ Local a) → target ((meant arena image kind p).slot i) ≡ Local b → ⊥
  by_pointer kind Nil i b isnt e = nil_local e
  by_pointer kind (Local a) i b isnt e = isnt a refl
  by_pointer kind (Held x) i b isnt e = nil_local (sym (ap (λ (c : Content). target (c.slot i)) (empty kind x)) ∙ e)

  lost : (path : List ℕ) (w : Link) → ((a : ℕ) → target w.slot ≢ Local a) → (b : ℕ) → target ((goes arena image w path).slot) ≡ Local b → ⊥
  lost [] w isnt b e = isnt b e
  lost (i ∷ path) w isnt b e = lost path (step arena image w i) (λ a h. by_pointer w.kind (target w.slot) i a isnt h) b e

  stands_on : (w : Link) (p : Place) (at i below : ℕ) (l : Label) → target w.slot ≡ Local at → w.kind ≡ l.kind → p.kind ≡ l.kind → p.tag ≡ l.tag → Reached known at l → target ((found arena image w).slot i) ≡ Local below
      → Stands (step arena image w i) (place_below p i ((found arena image w).slot i)) below
  stands_on w p at i below l leads link kind tag r is =
      let here : (found arena image w).slot i ≡ (image at).slot i = ap (λ (c : Content). c.slot i) (found_is arena image w at leads) in
      let on = leads_on at i below l r (sym (ap target here) ∙ is) in
      record {
        label = on.label;
        leads = is;
        link = ap (λ (d : Kind). kind_below d ((found arena image w).slot i)) link ∙ ap (λ (x : Slot). kind_below l.kind x) here ∙ sym on.may.kind;
        kind = below_kind p i ((found arena image w).slot i) ∙ ap (λ (d : Kind). kind_below d ((found arena image w).slot i)) kind ∙ ap (λ (x : Slot). kind_below l.kind x) here ∙ sym on.may.kind;
        tag = below_tag p i ((found arena image w).slot i) ∙ ap (λ (d : Kind). tag_below d p.tag ((found arena image w).slot i)) kind ∙ ap (λ (t : ℕ). tag_below l.kind t ((found arena image w).slot i)) tag ∙ ap (λ (x : Slot). tag_below l.kind l.tag x) here ∙ sym on.may.tag;
        is = on.reached';
      }

  along : (path : List ℕ) (w : Link) (p : Place) (at below : ℕ) → Stands w p at → target ((goes arena image w path).slot) ≡ Local below → Stands (goes arena image w path) (place_along arena image p w path) below
  along [] w p at below st e = subst (λ (a : ℕ). Stands w p a) (local_is (sym st.leads ∙ e)) st
  along (i ∷ path) w p at below st e = by (target ((found arena image w).slot i)) refl (λ b on. along path (step arena image w i) (place_below p i ((found arena image w).slot i)) b below on e)
    where
      by : (q : Pointer) → target ((found arena image w).slot i) ≡ q → ((b : ℕ) → Stands (step arena image w i) (place_below p i ((found arena image w).slot i)) b → Stands (goes arena image (step arena image w i) path) (place_along arena image (place_below p i ((found arena image w).slot i)) (step arena image w i) path) below) → Stands (goes arena image (step arena image w i) path) (place_along arena image (place_below p i ((found arena image w).slot i)) (step arena image w i) path) below
      by Nil is on = absurd (lost path (step arena image w i) (λ a h. nil_local (sym is ∙ h)) below e)
      by (Held x) is on = absurd (lost path (step arena image w i) (λ a h. held_local (sym is ∙ h)) below e)
      by (Local b) is on = on b (stands_on w p at i b st.label st.leads st.link st.kind st.tag st.is is)

  pub whole : (path : List ℕ) (at : ℕ) → LeadsTo arena image k.at path at → Stands (at_path arena image k.at path) (place_of arena image k.at path) at
  whole path at e = along path (from_block k.at) root_place k.at at (record { label = root_label s; leads = refl; link = refl; kind = refl; tag = refl; is = g.root }) e

  pub has_of : (at : ℕ) (l : Label) → Reached known at l → IsDataBlock (length device) at × HasLabel device at l
  has_of at l r = taken_of device known at l g.table (is_known known at l r)

  -- ---- S4

  labelled : (path : List ℕ) (i at below : ℕ) (above : Label) → LeadsTo arena image k.at path at → HasLabel device at above → LeadsTo arena image k.at (path ++ i ∷ []) below
      → HasLabelBelow device k.root.epoch true (place_of arena image k.at (path ++ i ∷ [])) above below
  labelled path i at below above leads has down =
      let st = whole path at leads in
      let p : HasPath arena image k at st.label = record { path = path; leads = leads; kind = st.kind; tag = st.tag; link = st.link } in
      let slot : (at_path arena image k.at (path ++ i ∷ [])).slot ≡ (image at).slot i = slot_end arena image path (from_block k.at) i at leads in
      let on = leads_on at i below st.label st.is (sym (ap target slot) ∙ down) in
      let same : st.label ≡ above = only_has device at st.label above (has_of at st.label st.is).1 has in
      let below_has = has_of below on.label on.reached' in
      record {
        place = below_has.0;
        label = on.label;
        has = below_has.1;
        may = record {
          kind = on.may.kind ∙ sym (end_kind arena image k at i st.label p);
          tag = on.may.tag ∙ sym (end_tag arena image k at i st.label p);
          used = on.may.used;
          falls = subst (λ (l : Label). on.label.epoch ≤ l.epoch) same on.may.falls;
          begun = on.may.begun;
          not_closed = on.may.not_closed;
          live = on.may.live;
        };
      }

  of_format : 5 < level noted → (path : List ℕ) (at : ℕ) → LeadsTo arena image k.at path at → IsRead ((at_path arena image k.at path).kind) (image at) (block_of device at)
  of_format quiet path at leads = let st = whole path at leads in subst (λ (d : Kind). IsRead d (image at) (block_of device at)) (sym st.link) (g.read quiet at st.label st.is)

  pub tree_formats : 5 < level noted → Means arena device image (from_block k.at)
  tree_formats quiet = record { each = of_format quiet }

  pub tree_labels : HasTreeLabels arena device image k.at k.root.epoch true
  tree_labels = record { each = labelled }

  -- ---- S7 and S9

  -- the block that holds the last slot of a path
  record Holder' (path : List ℕ) (i : ℕ) (p : Pointer) : Type 0 where
    block : ℕ
    leads : LeadsTo arena image k.at path block
    is : target ((image block).slot i) ≡ p

  nil_meant : (kind : Kind) (q : Pointer) (i : ℕ) → ((a : ℕ) → q ≢ Local a) → target ((meant arena image kind q).slot i) ≡ Nil
  nil_meant kind Nil i isnt = refl
  nil_meant kind (Local a) i isnt = absurd (isnt a refl)
  nil_meant kind (Held x) i isnt = ap (λ (c : Content). target (c.slot i)) (empty kind x)

  holder : (path : List ℕ) (i : ℕ) (p : Pointer) → (Nil ≡ p → ⊥) → target ((at_path arena image k.at (path ++ i ∷ [])).slot) ≡ p → Holder' path i p
  holder path i p some e = by (target ((at_path arena image k.at path).slot)) refl
    where
      down : target ((meant arena image (at_path arena image k.at path).kind (target ((at_path arena image k.at path).slot))).slot i) ≡ p
      down = sym (ap (λ (v : Link). target v.slot) (goes_end arena image path (from_block k.at) i)) ∙ e

      lose : (q : Pointer) → target ((at_path arena image k.at path).slot) ≡ q → ((a : ℕ) → q ≢ Local a) → ⊥
      lose q is isnt = some (sym (nil_meant (at_path arena image k.at path).kind (target ((at_path arena image k.at path).slot)) i (λ a h. isnt a (sym is ∙ h))) ∙ down)

      by : (q : Pointer) → target ((at_path arena image k.at path).slot) ≡ q → Holder' path i p
      by Nil is = absurd (lose Nil is (λ a h. nil_local h))
      by (Held x) is = absurd (lose (Held x) is (λ a h. held_local h))
      by (Local a) is = record { block = a; leads = is; is = sym (ap target (slot_end arena image path (from_block k.at) i a is)) ∙ e }

  -- no slot leads to the root
  not_top : 7 < level noted → (path : List ℕ) (i : ℕ) → LeadsTo arena image k.at (path ++ i ∷ []) k.at → ⊥
  not_top quiet path i e =
      let h = holder path i (Local k.at) nil_local e in
      let st = whole path h.block h.leads in
      g.top quiet h.block i st.label st.is (none h.block i) h.is

  at_top : (p q : List ℕ) (at : ℕ) → q ≡ [] → LeadsTo arena image k.at q at → LeadsTo arena image k.at p at → LeadsTo arena image k.at p k.at
  at_top p q at nq lq lp = lp ∙ sym lq ∙ ap (λ (r : List ℕ). target ((at_path arena image k.at r).slot)) nq

  both_end : (bound : ℕ) → 7 < level noted → ((p q : List ℕ) (at : ℕ) → length p < bound → LeadsTo arena image k.at p at → LeadsTo arena image k.at q at → p ≡ q) → (p q : List ℕ) (at : ℕ) → length p < suc bound → LeadsTo arena image k.at p at → LeadsTo arena image k.at q at → Last p → Last q → p ≡ q
  both_end bound quiet before p q at most lp lq x y =
      let hx = holder x.front x.last (Local at) nil_local (subst (λ (r : List ℕ). LeadsTo arena image k.at r at) x.is lp) in
      let hy = holder y.front y.last (Local at) nil_local (subst (λ (r : List ℕ). LeadsTo arena image k.at r at) y.is lq) in
      let sx = whole x.front hx.block hx.leads in
      let sy = whole y.front hy.block hy.leads in
      let e = g.once quiet hx.block x.last hy.block y.last at sx.label sy.label sx.is sy.is (none hx.block x.last) (none hy.block y.last) hx.is hy.is in
      let long : length p ≡ length x.front + 1 = ap (λ (r : List ℕ). length r) x.is ∙ length-append x.front (x.last ∷ []) in
      let fronts : x.front ≡ y.front = before x.front y.front hy.block (omega (arith, most, long)) (subst (λ (a : ℕ). LeadsTo arena image k.at x.front a) e.0 hx.leads) hy.leads in
      x.is ∙ ap (λ (r : List ℕ). r ++ x.last ∷ []) fronts ∙ ap (λ (i : ℕ). y.front ++ i ∷ []) e.1 ∙ sym y.is

  only : (bound : ℕ) → 7 < level noted → (p q : List ℕ) (at : ℕ) → length p < bound → LeadsTo arena image k.at p at → LeadsTo arena image k.at q at → p ≡ q
  only zero quiet p q at most lp lq = absurd (omega (arith, most))
  only (suc bound) quiet p q at most lp lq = ⊎_elim
      (λ (np : p ≡ []). ⊎_elim
      (λ (nq : q ≡ []). np ∙ sym nq)
      (λ (y : Last q). absurd (not_top quiet y.front y.last (subst (λ (r : List ℕ). LeadsTo arena image k.at r k.at) y.is (at_top q p at np lp lq))))
      (view q))
      (λ (x : Last p). ⊎_elim
      (λ (nq : q ≡ []). absurd (not_top quiet x.front x.last (subst (λ (r : List ℕ). LeadsTo arena image k.at r k.at) x.is (at_top p q at nq lq lp))))
      (λ (y : Last q). both_end bound quiet (only bound quiet) p q at most lp lq x y)
      (view q))
      (view p)

  pub tree_once : 7 < level noted → IsTree arena image k.at
  tree_once quiet = record { once = λ p q at lp lq. only (suc (length p)) quiet p q at (omega arith) lp lq }

  no_score : 9 < level noted → (path : List ℕ) (x : Score) → target ((at_path arena image k.at path).slot) ≡ Held x → ⊥
  no_score quiet path x e = ⊎_elim
      (λ (np : path ≡ []). held_local (sym e ∙ ap (λ (r : List ℕ). target ((at_path arena image k.at r).slot)) np))
      (λ (l : Last path).
      let h = holder l.front l.last (Held x) nil_held (sym (ap (λ (r : List ℕ). target ((at_path arena image k.at r).slot)) l.is) ∙ e) in
      let st = whole l.front h.block h.leads in
      by h.block l.last st.label h.is (g.done h.block st.label l.last st.is))
      (view path)
    where
      by : (at i : ℕ) (l : Label) → target ((image at).slot i) ≡ Held x → IsDone image k known noted n at l i → ⊥
      by at i l is (nowhere nil) = nil_held (sym nil ∙ is)
      by at i l is (left some) = omega (arith, some, none at i)
      by at i l is (held y h most) = omega (arith, quiet, most)
      by at i l is (local b m h r may) = held_local (sym is ∙ h)

  pub tree_scores : 9 < level noted → HasNoScores arena image k.at
  tree_scores quiet = record { none = no_score quiet }

  -- ---- counts

  used_of : (at : ℕ) → Any (IsOne (λ (m : Known). m.reached) at) known → IsUsed arena image k [] at
  used_of at a =
      let r : Reached known at a.1.label = (a.0, a.1, a.2, a.3, record { address_is = a.4.address_is; label_is = refl; reached_is = a.4.passes }) in
      let p = g.paths at a.1.label r in
      record { kept = k; is_kept = (0, omega arith, refl); path = p.path; leads = p.leads }

  only_kept : (x : Kept) → Contains (k ∷ []) x → k ≡ x
  only_kept x (zero, lt, is) = is
  only_kept x (suc i, lt, is) = absurd (omega (arith, lt))

  is_used : (at : ℕ) → IsUsed arena image k [] at → (l : Label) × Reached known at l
  is_used at u =
      let st = whole u.path at (subst (λ (x : Kept). LeadsTo arena image x.at u.path at) (sym (only_kept u.kept u.is_kept)) u.leads) in
      (st.label, st.is)

  one_of : (at : ℕ) (l : Label) → Reached known at l → Any (IsOne (λ (m : Known). m.reached) at) known
  one_of at l a = (a.0, a.1, a.2, a.3, record { passes = a.4.reached_is; address_is = a.4.address_is })

  from_all : All (λ (m : Known). first_data (length device) ≤ m.address) known
  from_all i d lt = (g.table.right i d lt).place.from

  to_all : All (λ (m : Known). m.address < length device) known
  to_all i d lt = (g.table.right i d lt).place.to

  pub tree_used : (count : ℕ) → count ≡ reached known → AreSoMany (length device) (IsUsed arena image k []) count
  tree_used count is = so_many (λ (m : Known). m.reached) (IsUsed arena image k []) (length device) count known g.table.up from_all to_all is
      (λ at from to. ((λ a. used_of at a), (λ u. let r = is_used at u in one_of at r.0 r.1)))

  abbrev lost' : Known → Bool
  lost' m = not m.reached && not (is_usable s.low m.label)

  both_false : (a b : Bool) → (not a && not b) ≡ true → (a ≡ false) × (b ≡ false)
  both_false true b e = absurd (false≢true e)
  both_false false true e = absurd (false≢true e)
  both_false false false e = (refl, refl)

  both_true : (a b : Bool) → a ≡ false → b ≡ false → (not a && not b) ≡ true
  both_true a b x y = rw (x, y) refl

  not_free : (x : State) (l : Label) → is_usable_in x s.low l ≡ false → x ≡ Free → ⊥
  not_free x l e free = false≢true (sym e ∙ ap (λ (y : State). is_usable_in y s.low l) free)

  leaked_of : (at : ℕ) → Any (IsOne lost' at) known → IsLeaked arena device image s k [] at
  leaked_of at a =
      let e = both_false a.1.reached (is_usable s.low a.1.label) a.4.passes in
      let r : IsTaken device a.1 = subst (λ (x : Known). IsTaken device x) a.3 (g.table.right a.0 a.1 a.2) in
      record {
        place = subst (λ (b : ℕ). IsDataBlock (length device) b) a.4.address_is r.place;
        label = a.1.label;
        has = subst (λ (b : ℕ). HasLabel device b a.1.label) a.4.address_is r.has;
        taken = e.1;
        unused = λ u.
            let w = is_used at u in
            let q = w.1 in
            let same : q.0 ≡ a.0 = one_index known at q.0 a.0 q.1 g.table.up q.2 a.2 (ap (λ (x : Known). x.address) q.3 ∙ q.4.address_is) (ap (λ (x : Known). x.address) (get_or_default known a.0 q.1 a.1 a.2 ∙ a.3) ∙ a.4.address_is) in
            false≢true (sym e.0 ∙ ap (λ (x : Known). x.reached) (sym a.3 ∙ ap (λ (i : ℕ). get_or known i a.1) (sym same) ∙ get_or_default known q.0 a.1 q.1 q.2 ∙ q.3) ∙ q.4.reached_is);
      }

  by_reached : (t : Bool) → (t ≡ true → ⊥) → t ≡ false
  by_reached true isnt = absurd (isnt refl)
  by_reached false isnt = refl

  is_lost : (at : ℕ) → IsLeaked arena device image s k [] at → Any (IsOne lost' at) known
  is_lost at w =
      let a = g.table.listed at w.label w.place w.has (not_free w.label.state w.label w.taken) in
      let free : is_usable s.low a.1.label ≡ false = ap (λ (l : Label). is_usable s.low l) a.4.label_is ∙ w.taken in
      let unreached : a.1.reached ≡ false = by_reached a.1.reached (λ yes. w.unused (used_of at (a.0, a.1, a.2, a.3, record { passes = yes; address_is = a.4.address_is }))) in
      (a.0, a.1, a.2, a.3, record { passes = both_true a.1.reached (is_usable s.low a.1.label) unreached free; address_is = a.4.address_is })

  pub tree_leaked : (count : ℕ) → count ≡ leaked s.low known → AreSoMany (length device) (IsLeaked arena device image s k []) count
  tree_leaked count is = so_many lost' (IsLeaked arena device image s k []) (length device) count known g.table.up from_all to_all is
      (λ at from to. ((λ a. leaked_of at a), (λ w. is_lost at w)))

-- ---- the whole answer

pub refuses_table : (arena : Arena) (device : List Block) (image : Image) (k : Kept) (e : TreeError) → RefusesTable device e → RefusesCheck arena device image k e
refuses_table arena device image k (BadLabel at) h = inl h
refuses_table arena device image k Read h = tt
refuses_table arena device image k Memory h = tt

pub refuses_tree : (arena : Arena) (device : List Block) (image : Image) (k : Kept) (e : TreeError) → RefusesTree arena device image k e → RefusesCheck arena device image k e
refuses_tree arena device image k (BadLabel at) h = inr h
refuses_tree arena device image k Read h = tt
refuses_tree arena device image k Memory h = tt
