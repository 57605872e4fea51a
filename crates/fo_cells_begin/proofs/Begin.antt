-- A snapshot begins: the removals of the epoch that ended are of an earlier one, and the old root waits.
use Rattle.std.proofs.Common.{◌≡◌, ◌≢◌, ◌⊎◌, inl, inr, ⊎_elim, ℕ, suc, ◌<◌, ◌≤◌, List, [], ◌∷◌, ◌++◌, refl, sym, ◌∙◌, ap, subst, arith}
use Rattle.std.proofs.lemmas.Bool.{cases_eq}
use Rattle.std.proofs.lemmas.List.{append-nil}
use Rattle.std.proofs.lemmas.List.Elements.{Contains-append_cases}
use Rattle.std.specs.List.{Contains}
use Rattle.fo_image.specs.declared.types.Label.{Label}
use Rattle.fo_image.specs.declared.types.Pointer.{Pointer}
use Rattle.fo_image.specs.declared.types.Pointer.TheVariants.{Nil, Local, Score as Held}
use Rattle.fo_image.specs.declared.types.State.TheVariants.{Live}
use Rattle.fo_crash.specs.declared.slot.Slot.{Slot}
use Rattle.fo_crash.specs.declared.place.Place.{Place}
use Rattle.fo_crash.specs.Images.{Content, Reaches, target, local, walk, to_block}
use Rattle.fo_crash.proofs.Reach.{lost}
use Rattle.fo_crash.specs.Places.{super_place, root_place, place_below}
use Rattle.fo_cells.specs.Known.{Known, Top, MaySlot, Leads, Stands}
use Rattle.fo_cells.specs.Safe.{super_top, IsSafe}
use Rattle.fo_cells.proofs.Standing.{stands_by, stands_top, stands_below, among_cases, first_among, next_among}
use Rattle.fo_cells_out.specs.Removals.{Pending, IsBehind, AreBehind, IsCovered}
use Rattle.fo_cells_out.specs.Parents.{Tree, Points, IsTree, IsDivided, blocks_of, view}
use Rattle.fo_cells_out.proofs.Queue.{among_left, among_right, among_either, nothing_among}
use Rattle.fo_cells_out.proofs.Takeout.{same_block}
use Rattle.fo_cells_out.proofs.Dividing.{listed_one, covered_one}
use Rattle.fo_cells_epochs.specs.Epochs.{Root, root_top, tree_of, kept_root, HasTrees}
use Rattle.fo_cells_epochs.proofs.Trees.{only_one, tree_stands, active_stands}
use Rattle.fo_cells_queue.specs.Queue.{Queued, tops_from, past_blocks, ArePast, InOrder, IsOnce, IsQueue}
use Rattle.fo_cells_queue.proofs.Seen.{seen_cases, seen_tree, from_active, from_root, from_cases, past_each, block_among}
use Rattle.fo_cells_queue.proofs.Queue.{assoc, once_both}
use Rattle.fo_cells_begin.specs.Begin.{BeginsQueue, ended, old_root, begun_tree}

module _ {root next high : ℕ} {first new : Known} {t : Tree} {queue : List Pending} (x : BeginsQueue root next high first new t queue) (tree : IsTree first t) where
  led : Points first 1 0 root
  led = ap target x.was

  root_within : t.Within root
  root_within = tree.closed 1 0 root x.one led

  -- the old root has no parent but block 1
  root_once : (a i : ℕ) → t.Within a → Points first a i root → a ≡ 1
  root_once a i w e = (tree.one a 1 i 0 root w x.one e led).0

  next_other : next ≢ root
  next_other e = x.fresh.0 (subst (λ y. t.Within y) (sym e) root_within)

  -- where a block of the new tree leads: block 1 to the new root, the new root where the old one led, any other where it led
  record LedFrom (a i b : ℕ) : Type 0 where
    pub holder : ℕ
    pub within : t.Within holder
    pub points : Points first holder i b
    pub is : ((holder ≡ a) × (a ≢ 1) × (a ≢ next) × (a ≢ root)) ⊎ ((holder ≡ root) × (a ≡ next))

  leads : (a i b : ℕ) → (t.Within a × (a ≢ root)) ⊎ (a ≡ next) → Points new a i b → ((a ≡ 1) × (i ≡ 0) × (b ≡ next)) ⊎ LedFrom a i b
  leads a i b w e = ⊎_elim
      (λ one.
      let e_one : Points new 1 i b = subst (λ y. Points new y i b) one e in
      let i_is = x.now_only i b e_one in
      inl (one, i_is, same_block (subst (λ n. target ((new.memory 1).slot n) ≡ Local b) i_is e_one) (ap target x.now)))
      (λ ne. inr (⊎_elim
      (λ is. record { holder = root; within = root_within; points = sym (x.slots i) ∙ subst (λ y. Points new y i b) is e; is = inr (refl, is) })
      (λ far. ⊎_elim
      (λ was. record { holder = a; within = was.0; points = ap target (sym (x.memory a i ne far)) ∙ e; is = inl (refl, ne, far, was.1) })
      (λ is. absurd (far is))
      w)
      (cases_eq a next)))
      (cases_eq a 1)

  below_within : (a i b : ℕ) → LedFrom a i b → t.Within b × (b ≢ root)
  below_within a i b l = (
    tree.closed l.holder i b l.within l.points,
    λ e.
        let one = root_once l.holder i l.within (subst (λ y. Points first l.holder i y) e l.points) in
        ⊎_elim (λ y. y.1 (sym y.0 ∙ one)) (λ y. x.others.0 (sym y.0 ∙ one)) l.is,
  )

  -- in the new tree a block that led to next, or to a block of the old tree but the root
  next_in : (a i b : ℕ) → (t.Within a × (a ≢ root)) ⊎ (a ≡ next) → Points new a i b → (t.Within b × (b ≢ root)) ⊎ (b ≡ next)
  next_in a i b w e = ⊎_elim (λ y. inr y.2) (λ l. inl (below_within a i b l)) (leads a i b w e)

  -- it never leads to the old root, nor to what waited
  never_root : (a i b : ℕ) → (t.Within a × (a ≢ root)) ⊎ (a ≡ next) → Points new a i b → b ≢ root
  never_root a i b w e is = ⊎_elim (λ v. v.1 is) (λ n. next_other (sym n ∙ is)) (next_in a i b w e)

  never_covered : (a i b : ℕ) → (t.Within a × (a ≢ root)) ⊎ (a ≡ next) → Points new a i b → t.Covered b → ⊥
  never_covered a i b w e c = ⊎_elim (λ v. tree.gone b c v.0) (λ n. x.fresh.1 (subst (λ y. t.Covered y) n c)) (next_in a i b w e)

  -- what stands from block 1 is in the new tree
  in_path : (path : List (ℕ × Slot)) (a : ℕ) (p : Place) (b : ℕ) (q : Place) → Stands new a p → (t.Within a × (a ≢ root)) ⊎ (a ≡ next) → Leads new path a p b q → (t.Within b × (b ≢ root)) ⊎ (b ≡ next)
  in_path [] a p b q st w l = subst (λ y. (t.Within y × (y ≢ root)) ⊎ (y ≡ next)) l.0 w
  in_path ((i, s) ∷ path) a p b q st w l = in_path path l.1.0 (place_below p i s) b q (stands_below i s l.1.0 st l.0 l.1.1) (next_in a i l.1.0 w (ap target (sym (x.settled a i s p st l.0)) ∙ l.1.1)) l.1.2

  -- what hung from the old root hangs there still
  record InOld (a : ℕ) : Type 0 where
    pub within : t.Within a
    pub one : a ≢ 1
    pub next_not : a ≢ next

  old_next : (a i b : ℕ) → InOld a → Points new a i b → InOld b
  old_next a i b o e =
      let was : Points first a i b = ap target (sym (x.memory a i o.one o.next_not)) ∙ e in
      let w = tree.closed a i b o.within was in record {
        within = w;
        one = λ is. x.unled a i o.within (subst (λ y. Points first a i y) is was);
        next_not = λ is. x.fresh.0 (subst (λ y. t.Within y) is w);
      }

  root_in : InOld root
  root_in = record { within = root_within; one = x.others.0; next_not = λ e. next_other (sym e) }

  old_path : (path : List (ℕ × Slot)) (a : ℕ) (p : Place) (b : ℕ) (q : Place) → Stands new a p → InOld a → Leads new path a p b q → InOld b
  old_path [] a p b q st o l = subst (λ y. InOld y) l.0 o
  old_path ((i, s) ∷ path) a p b q st o l = old_path path l.1.0 (place_below p i s) b q (stands_below i s l.1.0 st l.0 l.1.1) (old_next a i l.1.0 o (ap target (sym (x.settled a i s p st l.0)) ∙ l.1.1)) l.1.2

  -- slots of a block that waited for
  after_was : (after i b : ℕ) → t.Covered b → Points new after i b → Points first after i b
  after_was after i b c e = ⊎_elim
      (λ one. absurd (never_covered 1 i b (inl (x.one, λ is. x.others.0 (sym is))) (subst (λ y. Points new y i b) one e) c))
      (λ ne. ⊎_elim
      (λ is. absurd (never_covered next i b (inr refl) (subst (λ y. Points new y i b) is e) c))
      (λ far. ap target (sym (x.memory after i ne far)) ∙ e)
      (cases_eq after next))
      (cases_eq after 1)

  -- THE TREE
  begun_is_tree : (before : List ℕ) → ((b : ℕ) → Contains before b → t.Covered b) → IsTree new (begun_tree t root next before)
  begun_is_tree before covered = record {
    one = λ a c i j b wa wc ea ec. ⊎_elim
        (λ p. ⊎_elim
        (λ q. (p.0 ∙ sym q.0, p.1 ∙ sym q.1))
        (λ l. absurd (x.fresh.0 (subst (λ y. t.Within y) p.2 (below_within c j b l).0)))
        (leads c j b wc ec))
        (λ k. ⊎_elim
        (λ q. absurd (x.fresh.0 (subst (λ y. t.Within y) q.2 (below_within a i b k).0)))
        (λ l.
        let same = tree.one k.holder l.holder i j b k.within l.within k.points l.points in (
          ⊎_elim
              (λ u. ⊎_elim
              (λ v. sym u.0 ∙ same.0 ∙ v.0)
              (λ v. absurd (u.3 (sym u.0 ∙ same.0 ∙ v.0)))
              l.is)
              (λ u. ⊎_elim
              (λ v. absurd (v.3 (sym v.0 ∙ sym same.0 ∙ u.0)))
              (λ v. u.1 ∙ sym v.1)
              l.is)
              k.is,
          same.1,
        ))
        (leads c j b wc ec))
        (leads a i b wa ea);
    closed = λ a i b w e. next_in a i b w e;
    older = λ a i b w e o. ⊎_elim
        (λ p. absurd (o.1 p.0))
        (λ l. let v = below_within a i b l in (v.0, λ is. x.unled l.holder i l.within (subst (λ y. Points first l.holder i y) is l.points), v.1))
        (leads a i b w e);
    apart = λ a m w. m;
    gone = λ a c w. ⊎_elim
        (λ old. ⊎_elim (λ v. tree.gone a (covered a old) v.0) (λ n. x.fresh.1 (subst (λ y. t.Covered y) n (covered a old))) w)
        (λ own. let is : a ≡ root = is_root a own in ⊎_elim (λ v. v.1 is) (λ n. next_other (sym n ∙ is)) w)
        c;
  }
    where
      is_root : (a : ℕ) → IsCovered (old_root root) a → a ≡ root
      is_root a own = ⊎_elim (λ h. ⊎_elim (λ e. sym e) (λ none. absurd (nothing_among a none)) (among_cases root [] a h)) (λ none. absurd none) own

  -- THE DIVISION
  pub begun_divided : (before : List ℕ) → ((b : ℕ) → Contains before b → t.Covered b) → Contains new.tops super_top → IsDivided (view new (super_top ∷ [])) (begun_tree t root next before) before (old_root root)
  begun_divided before covered top = record {
    tree = let b = begun_is_tree before covered in record { one = b.one; closed = b.closed; older = b.older; apart = b.apart; gone = b.gone };
    forest = record { leads = λ a j b m e. absurd m; one = λ a c j l b ma mc mb ea ec. absurd ma; young = λ a m o. m; uncovered = λ a m c. m };
    parents = record {
      tree = λ a i b s p st m e w. inl (record { within = in_tree a p st; levels = 0; over = (i, ap target (sym (x.settled a i s p (wide a p st) m)) ∙ e); older = λ _. refl });
      made = λ a i b s p st m e made. absurd made;
      unwritten = λ a m. absurd m;
    };
    behind = (
      record {
        only = λ a i b s p st m e is. absurd (never_root a i b (in_tree a p st) (ap target (sym (x.settled a i s p (wide a p st) m)) ∙ e) (root_is b is));
        away = λ i b e is. never_root 1 i b (inl (x.one, λ y. x.others.0 (sym y))) e (root_is b is);
        tops = λ y h is. x.others.0 (sym (root_is y.at is) ∙ ap (λ (z : Top). z.at) (sym (only_one super_top y h)));
      },
      tt,
    );
    listed = λ a c. ⊎_elim (λ l. among_left before (blocks_of (old_root root)) a l) (λ r. among_right before (blocks_of (old_root root)) a (listed_one (old_root root) a r)) c;
    covered = λ a c. c;
  }
    where
      wide : (a : ℕ) (p : Place) → Stands (view new (super_top ∷ [])) a p → Stands new a p
      wide a p st = stands_by (λ y h. stands_top y (subst (λ (z : Top). Contains new.tops z) (only_one super_top y h) top)) (λ b i s q c s_st m e. stands_below i s c s_st m e) a p st

      in_tree : (a : ℕ) (p : Place) → Stands (view new (super_top ∷ [])) a p → (t.Within a × (a ≢ root)) ⊎ (a ≡ next)
      in_tree a p st =
          let is = only_one super_top st.top st.is_top in
          in_path st.path 1 super_place a p (stands_top super_top top) (inl (x.one, λ y. x.others.0 (sym y))) (subst (λ (y : Top). Leads new st.path y.at y.place a p) (sym is) st.leads)

      root_is : (b : ℕ) → Contains (root ∷ []) b → b ≡ root
      root_is b h = ⊎_elim (λ e. sym e) (λ none. absurd (nothing_among b none)) (among_cases root [] b h)

-- LISTS
past_both : (xs ys : List Queued) → past_blocks (xs ++ ys) ≡ past_blocks xs ++ past_blocks ys
past_both [] ys = refl
past_both (r ∷ xs) ys = ap (λ (l : List ℕ). r.pending.blocks ++ l) (past_both xs ys) ∙ sym (assoc r.pending.blocks (past_blocks xs) (past_blocks ys))

ended_blocks : (high : ℕ) (queue : List Pending) → past_blocks (ended high queue) ≡ blocks_of queue
ended_blocks high [] = refl
ended_blocks high (r ∷ rs) = ap (λ (l : List ℕ). r.blocks ++ l) (ended_blocks high rs)

all_blocks : (high : ℕ) (past : List Queued) (queue : List Pending) → past_blocks (past ++ ended high queue) ≡ past_blocks past ++ blocks_of queue
all_blocks high past queue = past_both past (ended high queue) ∙ ap (λ (l : List ℕ). past_blocks past ++ l) (ended_blocks high queue)

among_both : (xs ys : List Queued) (r : Queued) → Contains (xs ++ ys) r → Contains xs r ⊎ Contains ys r
among_both xs ys r h = Contains-append_cases xs ys r h

ended_is : (high : ℕ) (queue : List Pending) (r : Queued) → Contains (ended high queue) r → Contains queue r.pending × (r.epoch ≡ high)
ended_is high [] r h = absurd (none h)
  where
    none : Contains [] r → ⊥
    none (n, lt, e) = omega (arith, lt)
ended_is high (p ∷ ps) r h = ⊎_elim
    (λ e. (subst (λ (y : Queued). Contains (p ∷ ps) y.pending) e (first_among p ps), ap (λ (y : Queued). y.epoch) (sym e)))
    (λ more. let y = ended_is high ps r more in (next_among p r.pending ps y.0, y.1))
    (among_cases (record { pending = p; epoch = high }) (ended high ps) r h)

ended_order : (high : ℕ) (queue : List Pending) → InOrder high (ended high queue)
ended_order high [] = tt
ended_order high (r ∷ rs) = (omega arith, ended_order high rs)

order_both : (high epoch : ℕ) (past : List Queued) (queue : List Pending) → ((r : Queued) → Contains past r → r.epoch < high) → epoch ≤ high → InOrder epoch past → InOrder epoch (past ++ ended high queue)
order_both high epoch [] [] less le h = tt
order_both high epoch [] (r ∷ rs) less le h = (le, ended_order high rs)
order_both high epoch (r ∷ rs) queue less le h = (h.0, order_both high r.epoch rs queue (λ y is. less y (next_among r y rs is)) (let lt = less r (first_among r rs) in omega (arith, lt)) h.1)

-- removals in a row
past_rows : (k : Known) (active : List Top) (roots : List Root) (earlier : List ℕ) (xs ys : List Queued) → ArePast k active roots earlier xs → ArePast k active roots (earlier ++ past_blocks xs) ys → ArePast k active roots earlier (xs ++ ys)
past_rows k active roots earlier [] ys h i = subst (λ (l : List ℕ). ArePast k active roots l ys) (append-nil earlier) i
past_rows k active roots earlier (r ∷ xs) ys h i = (h.0, past_rows k active roots (earlier ++ r.pending.blocks) xs ys h.1 (subst (λ (l : List ℕ). ArePast k active roots l ys) (sym (assoc earlier r.pending.blocks (past_blocks xs))) i))

ended_rows : (k : Known) (active : List Top) (roots : List Root) (high : ℕ) (earlier : List ℕ) (queue : List Pending) → ((r : Pending) (before : List ℕ) → Contains queue r → IsBehind (view k (tops_from active roots high)) before r) → ArePast k active roots earlier (ended high queue)
ended_rows k active roots high earlier [] each = tt
ended_rows k active roots high earlier (r ∷ rs) each = (each r earlier (first_among r rs), ended_rows k active roots high (earlier ++ r.blocks) rs (λ y before is. each y before (next_among r y rs is)))

behind_of : (k : Known) (earlier : List ℕ) (queue : List Pending) (r : Pending) → AreBehind k earlier queue → Contains queue r → (before : List ℕ) × IsBehind k before r
behind_of k earlier [] r h is = absurd (none is)
  where
    none : Contains [] r → ⊥
    none (n, lt, e) = omega (arith, lt)
behind_of k earlier (p ∷ ps) r h is = ⊎_elim
    (λ e. (earlier, subst (λ (y : Pending). IsBehind k earlier y) e h.0))
    (λ more. behind_of k (earlier ++ p.blocks) ps r h.1 more)
    (among_cases p ps r is)

covered_of : (queue : List Pending) (r : Pending) (b : ℕ) → Contains queue r → Contains r.blocks b → IsCovered queue b
covered_of [] r b is own = absurd (none is)
  where
    none : Contains [] r → ⊥
    none (n, lt, e) = omega (arith, lt)
covered_of (p ∷ ps) r b is own = ⊎_elim
    (λ e. inl (subst (λ (y : Pending). Contains y.blocks b) (sym e) own))
    (λ more. inr (covered_of ps r b more own))
    (among_cases p ps r is)

-- REMOVALS
module _ {root next high : ℕ} {first new : Known} {t : Tree} {queue : List Pending} (x : BeginsQueue root next high first new t queue) {doubt : Content → Type 0} {roots : List Root} {past : List Queued} (safe : IsSafe first high doubt) (trees : HasTrees first high (super_top ∷ []) roots) (after : HasTrees new (suc high) (super_top ∷ []) (kept_root root high ∷ roots)) (q : IsQueue first t high (super_top ∷ []) roots past queue) where
  the_tree : IsTree first t
  the_tree = record { one = q.now.tree.one; closed = q.now.tree.closed; older = q.now.tree.older; apart = q.now.tree.apart; gone = q.now.tree.gone }

  top_in : Contains new.tops super_top
  top_in = Rattle.fo_cells_epochs.proofs.Trees.active_among after super_top after.top

  covered_past : (r : Queued) → Contains past r → (b : ℕ) → Contains r.pending.blocks b → t.Covered b
  covered_past r is b own = q.now.covered b (inl (block_among past r b is own))

  -- nothing that waits hangs in the new tree, or below the old root
  never_active : (a i b : ℕ) (s : Slot) (p : Place) → Stands (view new (super_top ∷ [])) a p → MaySlot new a i s → target s ≡ Local b → t.Covered b → ⊥
  never_active a i b s p st m e c =
      let is = only_one super_top st.top st.is_top in
      let w = in_path x the_tree st.path 1 super_place a p (stands_top super_top top_in) (inl (x.one, λ y. x.others.0 (sym y))) (subst (λ (y : Top). Leads new st.path y.at y.place a p) (sym is) st.leads) in
      never_covered x the_tree a i b w (ap target (sym (x.settled a i s p (active_stands after a p st) m)) ∙ e) c

  never_below : (a i b : ℕ) (s : Slot) (p : Place) → Stands (tree_of new (kept_root root high)) a p → MaySlot new a i s → target s ≡ Local b → t.Covered b → ⊥
  never_below a i b s p st m e c =
      let is = only_one (root_top (kept_root root high)) st.top st.is_top in
      let here : Stands new root root_place = tree_stands after (kept_root root high) (first_among (kept_root root high) roots) root root_place (stands_top (root_top (kept_root root high)) (first_among (root_top (kept_root root high)) [])) in
      let o = old_path x the_tree st.path root root_place a p here (root_in x the_tree) (subst (λ (y : Top). Leads new st.path y.at y.place a p) (sym is) st.leads) in
      let was = ap target (sym (x.memory a i o.one o.next_not)) ∙ ap target (sym (x.settled a i s p (tree_stands after (kept_root root high) (first_among (kept_root root high) roots) a p st) m)) ∙ e in
      q.now.tree.gone b c (q.now.tree.closed a i b o.within was)

  -- older kept trees are what they were
  older_slot : (r : Root) → Contains roots r → (a i : ℕ) (s : Slot) (p : Place) → Stands (tree_of new r) a p → MaySlot new a i s → MaySlot first a i s
  older_slot r among a i s p st m =
      let in_new = next_among (kept_root root high) r roots among in
      let l = after.late r a p in_new st in
      let lt = (trees.kept r among).1 in
      let begun = l.1.begun in
      inr (inl (x.settled a i s p (tree_stands after r in_new a p st) m ∙ x.memory a i l.0 (λ e. let up : (new.label a).epoch ≡ suc high = ap (λ y. (new.label y).epoch) e ∙ x.epoch in omega (arith, up, begun, lt))))

  older_along : (r : Root) → Contains roots r → (path : List (ℕ × Slot)) (a : ℕ) (p : Place) (b : ℕ) (w : Place) → Stands (tree_of new r) a p → Stands (tree_of first r) a p → Leads (tree_of new r) path a p b w → Stands (tree_of first r) b w
  older_along r among [] a p b w st was l = subst (λ y. Stands (tree_of first r) y w) l.0 (subst (λ y. Stands (tree_of first r) a y) l.1 was)
  older_along r among ((i, s) ∷ path) a p b w st was l = older_along r among path l.1.0 (place_below p i s) b w (stands_below i s l.1.0 st l.0 l.1.1) (stands_below i s l.1.0 was (older_slot r among a i s p st l.0) l.1.1) l.1.2

  older_tree : (r : Root) → Contains roots r → (b : ℕ) (w : Place) → Stands (tree_of new r) b w → Stands (tree_of first r) b w
  older_tree r among b w st = older_along r among st.path st.top.at st.top.place b w (stands_top st.top st.is_top) (stands_top st.top st.is_top) st.leads

  -- a top that is not the old root was one
  top_was : (epoch : ℕ) (y : Top) → Contains (tops_from (super_top ∷ []) (kept_root root high ∷ roots) epoch) y → t.Covered y.at → Contains (tops_from (super_top ∷ []) roots epoch) y
  top_was epoch y is c = ⊎_elim
      (λ a. from_active (super_top ∷ []) roots epoch y a)
      (λ z. ⊎_elim
      (λ e. absurd (q.now.tree.gone y.at c (subst (λ n. t.Within n) (ap (λ (r : Root). r.at) e ∙ ap (λ (w : Top). w.at) z.is) (root_within x the_tree))))
      (λ more. subst (λ (w : Top). Contains (tops_from (super_top ∷ []) roots epoch) w) z.is (from_root (super_top ∷ []) roots epoch z.root more z.from))
      (among_cases (kept_root root high) roots z.root z.among))
      (from_cases (super_top ∷ []) (kept_root root high ∷ roots) epoch y is)

  begun_past : ArePast new (super_top ∷ []) (kept_root root high ∷ roots) [] (past ++ ended high queue)
  begun_past = past_rows new (super_top ∷ []) (kept_root root high ∷ roots) [] past (ended high queue)
      (past_each first new (super_top ∷ []) (super_top ∷ []) roots (kept_root root high ∷ roots) past [] (λ r is. record {
        led = λ a i b s p st m e own. ⊎_elim
            (λ act. absurd (never_active a i b s p act m e (covered_past r is b own)))
            (λ y. ⊎_elim
            (λ same. absurd (never_below a i b s p (subst (λ z. Stands (tree_of new z) a p) (sym same) y.stands) m e (covered_past r is b own)))
            (λ more. ((p, seen_tree first (super_top ∷ []) roots r.epoch a p (record { root = y.root; among = more; from = y.from; stands = older_tree y.root more a p y.stands })), older_slot y.root more a i s p y.stands m))
            (among_cases (kept_root root high) roots y.root y.among))
            (seen_cases new (super_top ∷ []) (kept_root root high ∷ roots) r.epoch a p st);
        memory = λ i b e own. after_was x the_tree r.pending.after i b (covered_past r is b own) e;
        tops = λ y in_y own. top_was r.epoch y in_y (covered_past r is y.at own);
      }) q.behind)
      (ended_rows new (super_top ∷ []) (kept_root root high ∷ roots) high (past_blocks past) queue (λ r before is.
      let h = behind_of (view first (super_top ∷ [])) (past_blocks past) queue r q.now.behind is in record {
        only = λ a i b s p st m e own.
            let c = q.now.covered b (inr (covered_of queue r b is own)) in ⊎_elim
            (λ act. absurd (never_active a i b s p act m e c))
            (λ y. ⊎_elim
            (λ same. absurd (never_below a i b s p (subst (λ z. Stands (tree_of new z) a p) (sym same) y.stands) m e c))
            (λ more. let from = y.from in let lt = (trees.kept y.root more).1 in absurd (omega (arith, from, lt)))
            (among_cases (kept_root root high) roots y.root y.among))
            (seen_cases new (super_top ∷ []) (kept_root root high ∷ roots) high a p st);
        away = λ i b e own. h.1.away i b (after_was x the_tree r.after i b (q.now.covered b (inr (covered_of queue r b is own))) e) own;
        tops = λ y in_y own. ⊎_elim
            (λ a. h.1.tops y a own)
            (λ z. let from = z.from in let lt = (trees.kept z.root z.among).1 in omega (arith, from, lt))
            (from_cases (super_top ∷ []) roots high y (top_was high y in_y (q.now.covered y.at (inr (covered_of queue r y.at is own)))));
      }))

  -- what is within is reached
  old_first : (a i b : ℕ) → InOld x the_tree a → Points first a i b → InOld x the_tree b
  old_first a i b o e =
      let w = q.now.tree.closed a i b o.within e in record {
        within = w;
        one = λ is. x.unled a i o.within (subst (λ y. Points first a i y) is e);
        next_not = λ is. x.fresh.0 (subst (λ y. t.Within y) is w);
      }

  same_step : (i : ℕ) (p : Pointer) → ((b : ℕ) → p ≡ Local b → InOld x the_tree b) → target ((local new.memory p).slot i) ≡ target ((local first.memory p).slot i)
  same_step i Nil good = refl
  same_step i (Held score) good = refl
  same_step i (Local a) good = let o = good a refl in ap target (x.memory a i o.one o.next_not)

  good_step : (i : ℕ) (p : Pointer) → ((b : ℕ) → p ≡ Local b → InOld x the_tree b) → (b : ℕ) → target ((local first.memory p).slot i) ≡ Local b → InOld x the_tree b
  good_step i Nil good b e = absurd (cc)
  good_step i (Held score) good b e = absurd (cc)
  good_step i (Local a) good b e = old_first a i b (good a refl) e

  walk_same : (path : List ℕ) (s u : Slot) → target s ≡ target u → ((b : ℕ) → target u ≡ Local b → InOld x the_tree b) → target (walk new.memory s path) ≡ target (walk first.memory u path)
  walk_same [] s u e good = e
  walk_same (i ∷ path) s u e good = walk_same path ((local new.memory (target s)).slot i) ((local first.memory (target u)).slot i) (ap (λ p. target ((local new.memory p).slot i)) e ∙ same_step i (target u) good) (good_step i (target u) good)

  begun_reached : (b : ℕ) → (t.Within b × (b ≢ root)) ⊎ (b ≡ next) → Reaches new.memory (to_block 1) b
  begun_reached b w = ⊎_elim
      (λ v. let r = q.within b v.0 in by v.1 r.path r.leads)
      (λ is. record { path = 0 ∷ []; leads = ap target x.now ∙ ap (λ y. Local y) (sym is) })
      w
    where
      by : b ≢ root → (path : List ℕ) → target (walk first.memory (to_block 1) path) ≡ Local b → Reaches new.memory (to_block 1) b
      by ne [] e = record { path = []; leads = e }
      by ne (i ∷ []) e = absurd (ne (same_block (subst (λ n. target ((first.memory 1).slot n) ≡ Local b) (x.was_only i b e) e) (led x the_tree)))
      by ne (i ∷ j ∷ rest) e = ⊎_elim
          (λ zero.
          let at_root : target ((first.memory 1).slot i) ≡ Local root = ap (λ n. target ((first.memory 1).slot n)) zero ∙ led x the_tree in
          let was : target (walk first.memory ((first.memory root).slot j) rest) ≡ Local b = ap (λ p. target (walk first.memory ((local first.memory p).slot j) rest)) (sym at_root) ∙ e in
          record {
            path = 0 ∷ j ∷ rest;
            leads = ap (λ p. target (walk new.memory ((local new.memory p).slot j) rest)) (ap target x.now) ∙ walk_same rest ((new.memory next).slot j) ((first.memory root).slot j) (x.slots j) (λ c l. old_first root j c (root_in x the_tree) l) ∙ was;
          })
          (λ far. absurd (lost first.memory (j ∷ rest) ((first.memory 1).slot i) (λ c l. far (x.was_only i c l)) b e))
          (cases_eq i 0)

  before_covered : (b : ℕ) → Contains (past_blocks (past ++ ended high queue)) b → t.Covered b
  before_covered b is = q.now.covered b (⊎_elim
      (λ l. inl l)
      (λ r. inr (covered_one queue b r))
      (among_either (past_blocks past) (blocks_of queue) b (subst (λ (l : List ℕ). Contains l b) (all_blocks high past queue) is)))

  still_label : (b : ℕ) → t.Covered b → new.label b ≡ first.label b
  still_label b c = x.label b (λ e. x.fresh.1 (subst (λ y. t.Covered y) e c))

  -- ALL REMOVALS
  pub begun_queue : IsQueue new (begun_tree t root next (past_blocks (past ++ ended high queue))) (suc high) (super_top ∷ []) (kept_root root high ∷ roots) (past ++ ended high queue) (old_root root)
  begun_queue = record {
    now = begun_divided x the_tree (past_blocks (past ++ ended high queue)) before_covered top_in;
    behind = begun_past;
    order = order_both high 0 past queue q.before (omega arith) q.order;
    before = λ r is. ⊎_elim
        (λ was. let lt = q.before r was in omega (arith, lt))
        (λ e. let h : r.epoch ≡ high = (ended_is high queue r e).1 in omega (arith, h))
        (among_both past (ended high queue) r is);
    within = begun_reached;
    once = once_both (past_blocks (past ++ ended high queue)) (root ∷ []) (subst (λ (l : List ℕ). IsOnce l) (sym (all_blocks high past queue)) q.once) ((λ none. nothing_among root none), tt) (λ b l r. q.now.tree.gone b (before_covered b l) (subst (λ y. t.Within y) (⊎_elim (λ e. e) (λ none. absurd (nothing_among b none)) (among_cases root [] b r)) (root_within x the_tree)));
    live = λ b is. ⊎_elim
        (λ c. ⊎_elim
        (λ old. let cov = before_covered b old in ap (λ (l : Label). l.state) (still_label b cov) ∙ q.live b (inl cov))
        (λ own.
        let is_root : root ≡ b = ⊎_elim (λ h. ⊎_elim (λ e. e) (λ none. absurd (nothing_among b none)) (among_cases root [] b h)) (λ none. absurd none) own in
        subst (λ y. (new.label y).state ≡ Live) is_root (ap (λ (l : Label). l.state) (x.label root (λ e. next_other x the_tree (sym e))) ∙ (safe.live root x.others.0 (q.within root (root_within x the_tree))).0))
        c)
        (λ m. absurd m)
        is;
    begun = λ r b is own. ⊎_elim
        (λ was. subst (λ (l : Label). l.epoch ≤ r.epoch) (sym (still_label b (covered_past r was b own))) (q.begun r b was own))
        (λ e.
        let y = ended_is high queue r e in
        let cov = covered_of queue r.pending b y.0 own in
        subst (λ n. (new.label b).epoch ≤ n) (sym y.1) (subst (λ (l : Label). l.epoch ≤ high) (sym (still_label b (q.now.covered b (inr cov)))) (x.begun b cov)))
        (among_both past (ended high queue) r is);
  }
