-- Puts of one shape each: what the general lemma asks, from what the caller of a put can show.
use Rattle.std.proofs.Common.{◌≡◌, ◌≢◌, ◌⊎◌, inl, inr, ⊎_elim, ℕ, zero, suc, List, [], ◌∷◌, ◌++◌, refl, sym, ◌∙◌, ap, subst, arith}
use Rattle.std.proofs.lemmas.Bool.{cases_eq}
use Rattle.std.specs.List.{Contains}
use Rattle.fo_image.specs.declared.types.Pointer.TheVariants.{Local}
use Rattle.fo_crash.specs.declared.slot.Slot.{Slot}
use Rattle.fo_crash.specs.Images.{target}
use Rattle.fo_cells.specs.Known.{Known, Top, MaySlot}
use Rattle.fo_cells_out.specs.Removals.{Pending}
use Rattle.fo_cells_out.specs.Parents.{Tree, Points, Over, IsTree, HoldsNow, IsHead, Replaces, IsDivided, CopiesOnce, copied_once, GainsOnce, gained_once, LosesOnce, lost_once, Links, linked, Same, Takes, set_aside, blocks_of}
use Rattle.fo_cells.proofs.Standing.{among_cases}
use Rattle.fo_cells_out.proofs.Queue.{nothing_among, among_either}
use Rattle.fo_cells_out.proofs.Takeout.{cell, same_block, held_once, held_through, copied_leaving, level_leaving, first_level}
use Rattle.fo_cells_out.proofs.Dividing.{replaced_divided, moves_pass, more_listed, less_covered}
use Rattle.fo_cells_out.proofs.Queue.{behind_still}
use Rattle.fo_cells_out.proofs.Parents.{parents_taken, made_slot, append_behind}

-- WHERE A SOURCE TURNS
-- Whoever held block b was g, or leaves; g holds what has its place now.
pub turns_by : (old new : Known) (t u : Tree) (g b c l : ℕ) → ((n a : ℕ) → t.Within a → Over old t n a b → (a ≡ g) ⊎ (u.Within a → ⊥)) → Over new u l g c → (u.Older c → l ≡ 0) → (n a : ℕ) → t.Within a → u.Within a → Over old t n a b → HoldsNow new u n a c
turns_by old new t u g b c l holders over young n a w v o = ⊎_elim
    (λ e. record { levels = l; over = subst (λ y. Over new u l y c) (sym e) over; same = λ _ q. young q })
    (λ out. absurd (out v))
    (holders n a w o)

-- gained, and the first level that is lost: the slot that is put, or one of a copy below, held it
pub turn_first : {k : Known} {t : Tree} (u : Tree) {g i b : ℕ} → IsTree k t → IsHead k t g i b → (n a : ℕ) → t.Within a → Over k t n a b → (a ≡ g) ⊎ (u.Within a → ⊥)
turn_first u tree head n a w o = inl (held_once tree head n a w o)

-- the next level: the one above left, and who held that one
pub turn_next : {k : Known} {t : Tree} (u : Tree) {g c b : ℕ} → IsTree k t → t.Within c → Points k c 0 b → (u.Within c → ⊥) → ((n a : ℕ) → t.Within a → Over k t n a c → (a ≡ g) ⊎ (u.Within a → ⊥)) → (n a : ℕ) → t.Within a → Over k t n a b → (a ≡ g) ⊎ (u.Within a → ⊥)
turn_next {k} {t} u {g} tree w e out above = held_through {P = λ a. (a ≡ g) ⊎ (u.Within a → ⊥)} tree w e (inr out) above

-- A NEW BLOCK
module _ {at i : ℕ} {s : Slot} {old new : Known} {t : Tree} {Linked : ℕ → Type 0} {y : ℕ} (k : Links at i s old new t Linked y) (tree : IsTree old t) where
  pub link_replaces : Replaces at i s old new t (linked t Linked) (λ b c. ⊥) (λ b. ⊥) (λ b. ⊥) (λ b. ⊥) (λ b a j. ⊥)
  link_replaces = record {
    moves = k.moves;
    within = k.within;
    current = k.current;
    stays = inl k.within;
    parts = λ b w. inl (inl w);
    was = λ b v. ⊎_elim (λ w. inl w) (λ l. inr (k.made b l)) v;
    copied = λ b c p. absurd p;
    copy_one = λ b c d p q. absurd p;
    hangs = λ a j b c p w e. absurd p;
    shared = λ a d j b p e v. absurd p;
    slot_was = λ b e v. absurd (k.empty b e);
    gone = λ b g. absurd g;
    gone_below = λ a j b g e. absurd g;
    gone_above = λ a j b g w e. absurd g;
    gone_copy = λ a d j b g p e n. g;
    lost = λ b g. absurd g;
    lost_below = λ a j b g e. g;
    lost_out = λ b g v. g;
    turns = λ b c g p n a w v o. absurd g;
    parent = λ p j b g wb wp e. absurd g;
    from_one = λ b a c j l f g. absurd f;
    brings = λ a j b m v e w. absurd (tree.apart b (k.made b (k.next a j b (is_linked a m v) e)) w);
    put = λ b e.
        let is : b ≡ y = same_block e k.put in
        let l : Linked b = subst (λ z. Linked z) (sym is) k.first in
        (inr l, inr (k.made b l, λ a j m q. k.unhung a j m (subst (λ z. Points old a j z) is q)));
    links = λ a j b m v e mb. inr (k.next a j b (is_linked a m v) e);
    made = λ b m. m.0;
    linked = λ b m. ⊎_elim (λ l. inl (inr l)) (λ no. inr (m, no)) (k.decided b m);
    apart = λ b m v. ⊎_elim (λ w. tree.apart b m.0 w) (λ l. m.1 l) v;
    covered = λ b c. inl c;
    cover = λ b c. ⊎_elim (λ was. was) (λ d. absurd d.1) c;
    pointers = λ b q. q;
    older = λ b q. q;
    still = λ b q. q;
    free = λ a j b m e out w. out (inl w);
  }
    where
      is_linked : (a : ℕ) → t.Made a → t.Within a ⊎ Linked a → Linked a
      is_linked a m v = ⊎_elim (λ w. absurd (tree.apart a m w)) (λ l. l) v

  -- nothing leaves
  pub link_divided : (before : List ℕ) (queue : List Pending) → IsDivided old t before queue → IsDivided new (linked t Linked) before (queue ++ [])
  link_divided before queue d = replaced_divided before queue [] link_replaces d tt (λ b c. inl c) (λ b c. absurd c)

-- THE SAME BLOCK
module _ {at i : ℕ} {s : Slot} {old new : Known} {t : Tree} (k : Same at i s old new t) where
  same_old : (a j b : ℕ) → Points new a j b → Points old a j b
  same_old a j b e = ⊎_elim
      (λ c. subst (λ z. Points old z j b) (sym c.0) (subst (λ n. Points old at n b) (sym c.1) (k.there b (ap target (sym k.moves.here) ∙ ap (λ z. target ((new.memory z).slot i)) (sym c.0) ∙ ap (λ n. target ((new.memory a).slot n)) (sym c.1) ∙ e))))
      (λ ne. ap target (sym (k.moves.others a j ne)) ∙ e)
      (cell at i a j)

  same_new : (a j b : ℕ) → Points old a j b → Points new a j b
  same_new a j b e = ⊎_elim
      (λ c. subst (λ z. Points new z j b) (sym c.0) (subst (λ n. Points new at n b) (sym c.1) (ap target k.moves.here ∙ k.back b (subst (λ n. Points old at n b) c.1 (subst (λ z. Points old z j b) c.0 e)))))
      (λ ne. ap target (k.moves.others a j ne) ∙ e)
      (cell at i a j)

  same_over : (n a b : ℕ) → Over old t n a b → Over new t n a b
  same_over zero a b o = (o.0, same_new a o.0 b o.1)
  same_over (suc n) a b o = (o.0, o.1, o.2, same_new o.0 0 b o.3, same_over n a o.0 o.4)

  pub same_divided : (before : List ℕ) (queue : List Pending) → IsDivided old t before queue → IsDivided new t before queue
  same_divided before queue d =
      let tree : IsTree new t = record {
        one = λ a c j l b wa wc ea ec. d.tree.one a c j l b wa wc (same_old a j b ea) (same_old c l b ec);
        closed = λ a j b w e. d.tree.closed a j b w (same_old a j b e);
        older = λ a j b w e q. d.tree.older a j b w (same_old a j b e) q;
        apart = d.tree.apart;
        gone = d.tree.gone;
      } in
      let takes : Takes at i s old new t t = record {
        moves = k.moves;
        holder = ⊎_elim (λ w. inl (w, w)) (λ m. inr m) k.holder;
        was = λ b w. inl w;
        left = λ n a b w o v. inl w;
        made = λ b m. m;
        linked = λ b m. inr m;
        covered = λ b c. c;
        carried = λ n a b w _ _ _ o older. record { within = w; levels = n; over = same_over n a b o; older = older };
      } in record {
        tree = tree;
        forest = record {
          leads = λ a j b m e. d.forest.leads a j b m (same_old a j b e);
          one = λ a c j l b ma mc mb ea ec. d.forest.one a c j l b ma mc mb (same_old a j b ea) (same_old c l b ec);
          young = d.forest.young;
          uncovered = d.forest.uncovered;
        };
        parents = parents_taken takes d.tree tree d.parents;
        behind = behind_still queue queue before (λ b c. c) (moves_pass queue k.moves (λ b e c. ⊎_elim
            (λ w. d.tree.gone b (d.covered b (inr c)) (d.tree.closed at i b w (k.there b e)))
            (λ m. ⊎_elim
            (λ w. d.tree.gone b (d.covered b (inr c)) w)
            (λ mb. d.forest.uncovered b mb (d.covered b (inr c)))
            (d.forest.leads at i b m (k.there b e)))
            k.holder)) d.behind;
        listed = d.listed;
        covered = d.covered;
      }

-- COPIED ONCE
module _ {at i : ℕ} {s : Slot} {old new : Known} {t : Tree} {x y : ℕ} (k : CopiesOnce at i s old new t x y) (tree : IsTree old t) where
  x_within : t.Within x
  x_within = tree.closed at i x k.within k.points

  y_outside : t.Within y → ⊥
  y_outside w = tree.apart y k.made w

  x_gone : (copied_once t x y).Within x → ⊥
  x_gone v = ⊎_elim (λ p. p.1 refl) (λ e. y_outside (subst (λ z. t.Within z) e x_within)) v

  y_other : y ≢ at
  y_other e = y_outside (subst (λ z. t.Within z) (sym e) k.within)

  new_y : (j b : ℕ) → Points old y j b → Points new y j b
  new_y j b e = ap target (k.moves.others y j (inl y_other)) ∙ e

  linked_is : (a : ℕ) → t.Made a → (copied_once t x y).Within a → a ≡ y
  linked_is a m v = ⊎_elim (λ p. absurd (tree.apart a m p.0)) (λ e. e) v

  keeps_within : (b : ℕ) → t.Within b → (copied_once t x y).Within b ⊎ (b ≡ x)
  keeps_within b w = ⊎_elim (λ e. inr e) (λ ne. inl (inl (w, ne))) (cases_eq b x)

  pub once_replaces : Replaces at i s old new t (copied_once t x y) (λ b c. (b ≡ x) × (c ≡ y)) (λ b. ⊥) (λ b. ⊥) (λ b. ⊥) (λ b a j. ⊥)
  once_replaces = record {
    moves = k.moves;
    within = k.within;
    current = k.current;
    stays = inl (k.within, λ e. k.apart (sym e));
    parts = λ b w. ⊎_elim (λ v. inl v) (λ e. inr (inl (y, (e, refl)))) (keeps_within b w);
    was = λ b v. ⊎_elim (λ p. inl p.0) (λ e. inr (subst (λ z. t.Made z) (sym e) k.made)) v;
    copied = λ b c p. (
      subst (λ z. t.Within z) (sym p.0) x_within,
      subst (λ z. t.Older z) (sym p.0) k.older,
      λ v. x_gone (subst (λ z. (copied_once t x y).Within z) p.0 v),
      subst (λ z. t.Made z) (sym p.1) k.made,
      inr p.1,
      λ q. subst (λ z. t.Pointers z) (sym p.1) (k.pointers (subst (λ z. t.Pointers z) p.0 q)),
    );
    copy_one = λ b c d p q. p.1 ∙ sym q.1;
    hangs = λ a j b c p w e.
        let same = tree.one a at j i x w k.within (subst (λ z. Points old a j z) p.0 e) k.points in
        inr (inl (same.0, same.1, ap (λ z. target ((new.memory z).slot j)) same.0 ∙ ap (λ n. target ((new.memory at).slot n)) same.1 ∙ ap target k.moves.here ∙ k.put ∙ ap (λ z. Local z) (sym p.1)));
    shared = λ a d j b p e v. inr (subst (λ z. Points new z j b) (sym p.1) (new_y j b (k.same j b (subst (λ z. Points old z j b) p.0 e))));
    slot_was = λ b e v. x_gone (subst (λ z. (copied_once t x y).Within z) (same_block e k.points) v);
    gone = λ b g. absurd g;
    gone_below = λ a j b g e. absurd g;
    gone_above = λ a j b g w e. absurd g;
    gone_copy = λ a d j b g p e n. g;
    lost = λ b g. absurd g;
    lost_below = λ a j b g e. g;
    lost_out = λ b g v. g;
    turns = λ b c g p n a w v o. absurd g;
    parent = λ p j b g wb wp e. absurd g;
    from_one = λ b a c j l f g. absurd f;
    brings = λ a j b m v e w.
        let is : a ≡ y = linked_is a m v in
        inl (x, (refl, is), k.back j b (subst (λ z. Points old z j b) is e));
    put = λ b e.
        let is : b ≡ y = same_block e k.put in
        (inr is, inr (subst (λ z. t.Made z) (sym is) k.made, λ a j m q. k.unhung a j m (subst (λ z. Points old a j z) is q)));
    links = λ a j b m v e mb.
        let is : a ≡ y = linked_is a m v in
        absurd (tree.apart b mb (tree.closed x j b x_within (k.back j b (subst (λ z. Points old z j b) is e))));
    made = λ b m. m.0;
    linked = λ b m. ⊎_elim (λ e. inl (inr e)) (λ ne. inr (m, ne)) (cases_eq b y);
    apart = λ b m v. ⊎_elim (λ p. tree.apart b m.0 p.0) (λ e. m.1 e) v;
    covered = λ b c. ⊎_elim (λ was. inl was) (λ e. inr (inl (y, (e, refl)))) c;
    cover = λ b c. ⊎_elim (λ was. inl was) (λ d. inr d.1.0) c;
    pointers = λ b q. q;
    older = λ b q. q;
    still = λ b q. q;
    free = λ a j b m e out w. ⊎_elim (λ v. out v) (λ is. k.free a j m.0 (subst (λ z. Points old a j z) is e)) (keeps_within b w);
  }

  -- The parent fact, the tree and the removals are kept, and x is queued alone.
  pub once_divided : (before : List ℕ) (queue : List Pending) → IsDivided old t before queue → IsDivided new (copied_once t x y) before (queue ++ record { blocks = x ∷ []; after = at } ∷ [])
  once_divided before queue d = replaced_divided before queue (record { blocks = x ∷ []; after = at } ∷ []) once_replaces d
      (copied_leaving once_replaces d.tree d.forest (before ++ blocks_of queue) at i x y at (refl, refl) k.within k.points (inr refl) (inl (k.within, λ e. k.apart (sym e))) k.tops, tt)
      (λ b c. ⊎_elim (λ was. inl was) (λ e. inr (inl (0, omega arith, sym e))) c)
      (λ b c. ⊎_elim (λ own. inr (⊎_elim (λ e. sym e) (λ none. absurd (nothing_among b none)) (among_cases x [] b own))) (λ none. absurd none) c)

-- LEVELS GAINED
module _ {at i : ℕ} {s : Slot} {old new : Known} {t : Tree} {x y : ℕ} (k : GainsOnce at i s old new t x y) (tree : IsTree old t) where
  g_within : t.Within x
  g_within = tree.closed at i x k.head.within k.head.points

  g_other : y ≢ at
  g_other e = tree.apart y k.made (subst (λ z. t.Within z) (sym e) k.head.within)

  g_is : (a : ℕ) → t.Made a → (gained_once t y).Within a → a ≡ y
  g_is a m v = ⊎_elim (λ w. absurd (tree.apart a m w)) (λ e. e) v

  g_here : Points new at i y
  g_here = ap target k.moves.here ∙ k.put

  pub gain_replaces : Replaces at i s old new t (gained_once t y) (λ b c. ⊥) (λ b. ⊥) (λ b. ⊥) (λ b. b ≡ x) (λ b a j. (b ≡ x) × (a ≡ y) × (j ≡ 0))
  gain_replaces = record {
    moves = k.moves;
    within = k.head.within;
    current = k.current;
    stays = inl k.head.within;
    parts = λ b w. inl (inl w);
    was = λ b v. ⊎_elim (λ w. inl w) (λ e. inr (subst (λ z. t.Made z) (sym e) k.made)) v;
    copied = λ b c p. absurd p;
    copy_one = λ b c d p q. absurd p;
    hangs = λ a j b c p w e. absurd p;
    shared = λ a d j b p e v. absurd p;
    slot_was = λ b e v. same_block e k.head.points;
    gone = λ b g. absurd g;
    gone_below = λ a j b g e. absurd g;
    gone_above = λ a j b g w e. absurd g;
    gone_copy = λ a d j b g p e n. g;
    lost = λ b g. absurd g;
    lost_below = λ a j b g e. g;
    lost_out = λ b g v. g;
    turns = λ b c top p. turns_by old new t (gained_once t y) at b c 1
        (λ n a w o. turn_first (gained_once t y) tree (subst (λ z. IsHead old t at i z) (sym top) k.head) n a w o)
        (y, inr refl, k.pointers, ap target (k.moves.others y 0 (inl g_other)) ∙ k.leads ∙ ap (λ z. Local z) (sym top ∙ ⊎_elim (λ q. q.0) (λ none. absurd none) p), (i, g_here))
        (λ q. absurd (k.young (subst (λ z. t.Older z) (sym (⊎_elim (λ e. e.0) (λ none. absurd none) p) ∙ top) q)));
    parent = λ p j b top wb wp e. inl (tree.one p at j i x wp k.head.within (subst (λ z. Points old p j z) top e) k.head.points);
    from_one = λ b a c j l f g. (f.1 ∙ sym g.1, f.2 ∙ sym g.2);
    brings = λ a j b m v e w.
        let is : a ≡ y = g_is a m v in
        let o = k.only j b (subst (λ z. Points old z j b) is e) in
        inr (o.1, inl w, (o.1, is, o.0));
    put = λ b e.
        let is : b ≡ y = same_block e k.put in
        (inr is, inr (subst (λ z. t.Made z) (sym is) k.made, λ a j m q. k.unhung a j m (subst (λ z. Points old a j z) is q)));
    links = λ a j b m v e mb. absurd (tree.apart b mb (subst (λ z. t.Within z) (sym (k.only j b (subst (λ z. Points old z j b) (g_is a m v) e)).1) g_within));
    made = λ b m. m.0;
    linked = λ b m. ⊎_elim (λ e. inl (inr e)) (λ ne. inr (m, ne)) (cases_eq b y);
    apart = λ b m v. ⊎_elim (λ w. tree.apart b m.0 w) (λ e. m.1 e) v;
    covered = λ b c. inl c;
    cover = λ b c. ⊎_elim (λ was. was) (λ d. absurd d.1) c;
    pointers = λ b q. q;
    older = λ b q. q;
    still = λ b q. q;
    free = λ a j b m e out w. out (inl w);
  }

  -- nothing leaves
  pub gain_divided : (before : List ℕ) (queue : List Pending) → IsDivided old t before queue → IsDivided new (gained_once t y) before (queue ++ [])
  gain_divided before queue d = replaced_divided before queue [] gain_replaces d tt (λ b c. inl c) (λ b c. absurd c)

-- LEVELS LOST
module _ {at i : ℕ} {s : Slot} {old new : Known} {t : Tree} {x b : ℕ} (k : LosesOnce at i s old new t x b) (tree : IsTree old t) where
  l_x : t.Within x
  l_x = tree.closed at i x k.head.within k.head.points

  l_b : t.Within b
  l_b = tree.closed x 0 b l_x k.leads

  l_keeps : (c : ℕ) → t.Within c → (lost_once t x).Within c ⊎ (c ≡ x)
  l_keeps c w = ⊎_elim (λ e. inr e) (λ ne. inl (w, ne)) (cases_eq c x)

  pub lose_replaces : Replaces at i s old new t (lost_once t x) (λ c d. ⊥) (λ c. c ≡ x) (λ c. ⊥) (λ c. c ≡ b) (λ c a j. (c ≡ b) × (a ≡ at) × (j ≡ i))
  lose_replaces = record {
    moves = k.moves;
    within = k.head.within;
    current = k.current;
    stays = (k.head.within, λ e. k.apart.0 (sym e));
    parts = λ c w. ⊎_elim (λ v. inl v) (λ e. inr (inr e)) (l_keeps c w);
    was = λ c v. inl v.0;
    copied = λ c d p. absurd p;
    copy_one = λ c d e p q. absurd p;
    hangs = λ a j c d p w e. absurd p;
    shared = λ a d j c p e v. absurd p;
    slot_was = λ c e v. absurd (v.1 (same_block e k.head.points));
    gone = λ c e. (λ v. v.1 e, λ d p. p, subst (λ z. t.Within z) (sym e) l_x);
    gone_below = λ a j c g e. inr (k.only j c (subst (λ z. Points old z j c) g e)).1;
    gone_above = λ a j c g w e. inr (inr (tree.one a at j i x w k.head.within (subst (λ z. Points old a j z) g e) k.head.points));
    gone_copy = λ a d j c g p e n. p;
    lost = λ c g. inl (inr g);
    lost_below = λ a j c g e. g;
    lost_out = λ c g v. g;
    turns = λ c d top p. turns_by old new t (lost_once t x) at c d 0
        (λ n a w o. turn_next (lost_once t x) tree l_x (k.leads ∙ ap (λ z. Local z) (sym top)) (λ v. v.1 refl) (λ m e v q. turn_first (lost_once t x) tree k.head m e v q) n a w o)
        (i, ap target k.moves.here ∙ k.put ∙ ap (λ z. Local z) (sym top ∙ ⊎_elim (λ q. q.0) (λ none. absurd none) p))
        (λ _. refl);
    parent = λ p j c top wc wp e. inr (inl (tree.one p x j 0 b wp l_x (subst (λ z. Points old p j z) top e) k.leads).0);
    from_one = λ c a d j l f g. (f.1 ∙ sym g.1, f.2 ∙ sym g.2);
    brings = λ a j c m v e w. absurd (tree.apart a m v.0);
    put = λ c e.
        let is : c ≡ b = same_block e k.put in
        let stays : (lost_once t x).Within c = (subst (λ z. t.Within z) (sym is) l_b, λ q. k.apart.1 (sym is ∙ q)) in
        (stays, inl (subst (λ z. t.Within z) (sym is) l_b, is, stays, (is, refl, refl)));
    links = λ a j c m v e mc. absurd (tree.apart a m v.0);
    made = λ c m. m;
    linked = λ c m. inr m;
    apart = λ c m v. tree.apart c m v.0;
    covered = λ c y. ⊎_elim (λ was. inl was) (λ e. inr (inr e)) y;
    cover = λ c y. ⊎_elim (λ was. inl was) (λ d. absurd d.1) y;
    pointers = λ c q. q;
    older = λ c q. q;
    still = λ c q. q;
    free = λ a j c m e out w. ⊎_elim (λ v. out v) (λ is. k.free a j m (subst (λ z. Points old a j z) is e)) (l_keeps c w);
  }

  -- x is queued alone
  pub lose_divided : (before : List ℕ) (queue : List Pending) → IsDivided old t before queue → IsDivided new (lost_once t x) before (queue ++ record { blocks = x ∷ []; after = at } ∷ [])
  lose_divided before queue d = replaced_divided before queue (record { blocks = x ∷ []; after = at } ∷ []) lose_replaces d
      (level_leaving lose_replaces d.tree d.forest (before ++ blocks_of queue) x at l_x (λ v. v.1 refl) (first_level (before ++ blocks_of queue) d.tree k.head) (k.head.within, λ e. k.apart.0 (sym e)) k.tops, tt)
      (λ c y. ⊎_elim (λ was. inl was) (λ e. inr (inl (0, omega arith, sym e))) y)
      (λ c y. ⊎_elim (λ own. inr (⊎_elim (λ e. sym e) (λ none. absurd (nothing_among c none)) (among_cases x [] c own))) (λ none. absurd none) y)

-- A DEVICE WITH NO SLOT THAT LEADS ON, with nothing made and nothing queued: the facts hold there.
abbrev pub lone : Tree
lone = record { Within = λ b. b ≡ 1; Made = λ b. ⊥; Covered = λ b. ⊥; Older = λ b. ⊥; Pointers = λ b. ⊥ }

pub lone_divided : (k : Known) → ((a i b : ℕ) (s : Slot) → MaySlot k a i s → target s ≡ Local b → ⊥) → IsDivided k lone [] []
lone_divided k none = record {
  tree = record {
    one = λ a c i j b wa wc ea ec. absurd (none a i b ((k.memory a).slot i) (inr (inl refl)) ea);
    closed = λ a i b w e. absurd (none a i b ((k.memory a).slot i) (inr (inl refl)) e);
    older = λ a i b w e q. q;
    apart = λ a m w. m;
    gone = λ a c w. c;
  };
  forest = record {
    leads = λ a j b m e. absurd m;
    one = λ a c j l b ma mc mb ea ec. absurd ma;
    young = λ a m q. m;
    uncovered = λ a m c. m;
  };
  parents = record {
    tree = λ a i b s p st may e w. absurd (none a i b s may e);
    made = λ a i b s p st may e m. m;
    unwritten = λ a m. absurd m;
  };
  behind = tt;
  listed = λ b c. absurd c;
  covered = λ b c. ⊎_elim (λ h. nothing_among b h) (λ x. x) c;
}

-- A NEW ROOT
pub aside_divided : (k : Known) (t : Tree) (before : List ℕ) (queue : List Pending) (b after : ℕ) → t.Made b → t.Within after → ((a j : ℕ) → t.Made a → Points k a j b → ⊥) → ((j c : ℕ) → Points k b j c → t.Within c) → ((x : Top) → Contains k.tops x → x.at ≡ b → ⊥) → IsDivided k t before queue → IsDivided k (set_aside t b) before (queue ++ record { blocks = b ∷ []; after = after } ∷ [])
aside_divided k t before queue b after made stays unhung leads tops d =
    let one : List Pending = record { blocks = b ∷ []; after = after } ∷ [] in record {
      tree = record {
        one = d.tree.one;
        closed = d.tree.closed;
        older = d.tree.older;
        apart = λ a m w. d.tree.apart a m.0 w;
        gone = λ a c w. ⊎_elim (λ was. d.tree.gone a was w) (λ e. d.tree.apart b made (subst (λ z. t.Within z) e w)) c;
      };
      forest = record {
        leads = λ a j c m e. ⊎_elim
            (λ w. inl w)
            (λ mc. ⊎_elim (λ is. absurd (unhung a j m.0 (subst (λ z. Points k a j z) is e))) (λ ne. inr (mc, ne)) (cases_eq c b))
            (d.forest.leads a j c m.0 e);
        one = λ a c j l x ma mc mx ea ec. d.forest.one a c j l x ma.0 mc.0 mx.0 ea ec;
        young = λ a m q. d.forest.young a m.0 q;
        uncovered = λ a m c. ⊎_elim (λ was. d.forest.uncovered a m.0 was) (λ e. m.1 e) c;
      };
      parents = record {
        tree = λ a i c s p st may e w. ⊎_elim
            (λ h. inl (record { within = h.within; levels = h.levels; over = aside_over h.levels a c h.over; older = h.older }))
            (λ y. inr (⊎_elim (λ cov. inl (inl cov)) (λ m. ⊎_elim (λ is. inl (inr is)) (λ ne. inr (m, ne)) (cases_eq a b)) y))
            (d.parents.tree a i c s p st may e w);
        made = λ a i c s p st may e m.
            let y = d.parents.made a i c s p st may e m.0 in (
              y,
              λ is.
                  let x : Points k a i c = ap target (sym (made_slot (d.parents.unwritten a y) i s may)) ∙ e in
                  d.tree.apart c m.0 (leads i c (subst (λ z. Points k z i c) is x)),
            );
        unwritten = λ a m. d.parents.unwritten a m.0;
      };
      behind = append_behind k queue one before (before ++ blocks_of queue) (λ c h. among_either before (blocks_of queue) c h) d.behind (
        record {
          only = λ a i c s p st may e is.
              let here : c ≡ b = ⊎_elim (λ q. sym q) (λ none. absurd (nothing_among c none)) (among_cases b [] c is) in
              let y = d.parents.made a i c s p st may e (subst (λ z. t.Made z) (sym here) made) in
              absurd (unhung a i y (subst (λ z. Points k a i z) here (ap target (sym (made_slot (d.parents.unwritten a y) i s may)) ∙ e)));
          away = λ i c e is.
              let here : c ≡ b = ⊎_elim (λ q. sym q) (λ none. absurd (nothing_among c none)) (among_cases b [] c is) in
              d.tree.apart b made (d.tree.closed after i b stays (subst (λ z. Points k after i z) here e));
          tops = λ x h is. tops x h (⊎_elim (λ q. sym q) (λ none. absurd (nothing_among x.at none)) (among_cases b [] x.at is));
        },
        tt,
      );
      listed = λ c y. more_listed before queue one c (⊎_elim (λ was. inl (d.listed c was)) (λ e. inr (inl (0, omega arith, sym e))) y);
      covered = λ c y. ⊎_elim (λ was. inl (d.covered c was)) (λ own. inr (⊎_elim (λ z. ⊎_elim (λ q. sym q) (λ none. absurd (nothing_among c none)) (among_cases b [] c z)) (λ none. absurd none) own)) (less_covered before queue one c y);
    }
  where
    aside_over : (n a c : ℕ) → Over k t n a c → Over k (set_aside t b) n a c
    aside_over zero a c o = o
    aside_over (suc n) a c o = (o.0, o.1, o.2, o.3, aside_over n a o.0 o.4)
