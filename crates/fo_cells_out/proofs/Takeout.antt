-- What a put or a clearing takes out: the shapes.
use Rattle.std.proofs.Common.{◌≡◌, ◌≢◌, ◌⊎◌, inl, inr, ⊎_elim, ℕ, zero, suc, List, [], ◌∷◌, refl, sym, ◌∙◌, ap, subst, arith}
use Rattle.std.proofs.lemmas.Bool.{cases_eq}
use Rattle.std.specs.List.{Contains}
use Rattle.fo_image.specs.declared.types.Pointer.{Pointer}
use Rattle.fo_image.specs.declared.types.Pointer.TheVariants.{Local}
use Rattle.fo_crash.specs.declared.slot.Slot.{Slot}
use Rattle.fo_crash.specs.Images.{target}
use Rattle.fo_cells.specs.Known.{Known, Top}
use Rattle.fo_cells_out.specs.Removals.{Pending, AreBehind}
use Rattle.fo_cells_out.specs.Parents.{Tree, Points, Over, Holds, Parents, IsTree, Takes, Leaving, AllLeaving, HoldsNow, Carries, HangsTogether, IsHead, Removes, IsForest, Replaces}
use Rattle.fo_cells.proofs.Standing.{among_cases}
use Rattle.fo_cells_out.proofs.Queue.{nothing_among}
use Rattle.fo_cells_out.proofs.Parents.{parents_taken, all_leave}

pub same_block : {a b : ℕ} {p : Pointer} → p ≡ Local a → p ≡ Local b → a ≡ b
same_block {a} {b} {p} x y = let e : Local a ≡ Local b = sym x ∙ y in cc

pub cell : (at i b j : ℕ) → ((b ≡ at) × (j ≡ i)) ⊎ ((b ≢ at) ⊎ (j ≢ i))
cell at i b j = ⊎_elim (λ x. ⊎_elim (λ y. inl (x, y)) (λ ne. inr (inr ne)) (cases_eq j i)) (λ ne. inr (inl ne)) (cases_eq b at)

-- WHO HOLDS A BLOCK AFTER A PUT
-- who held a block of which the parents' places hold on holds what has its place now
module _ {old new : Known} {t u : Tree} {Place_of : ℕ → ℕ → Type 0} (k : Carries old new t u Place_of) where
  held_on : (n a b c : ℕ) → Place_of b c → t.Within a → u.Within a → Over old t n a b → HoldsNow new u n a c
  held_on zero a b c is w v o = ⊎_elim
      (λ f. record { levels = 0; over = (o.0, subst (λ y. Points new y o.0 c) (k.itself a f.now f.is v) f.points); same = λ _ _. refl })
      (λ direct. direct zero a w v o)
      (k.up b c is a o.0 w o.1)
  held_on (suc n) a b c is w v o = ⊎_elim
      (λ f.
      let more = held_on n a o.0 f.now f.is w v o.4 in
      record { levels = suc more.levels; over = (f.now, k.within o.0 f.now f.is, k.pointers o.0 f.now f.is o.2, f.points, more.over); same = λ e _. absurd (omega (arith, e)) })
      (λ direct. direct (suc n) a w v o)
      (k.up b c is o.0 0 o.1 o.3)

  pub carried_by : (n a b : ℕ) → t.Within a → t.Within b → u.Within a → u.Within b → Over old t n a b → (t.Older b → n ≡ 0) → Holds new u a b
  carried_by n a b wa wb va vb o older =
      let h = held_on n a b b (k.stays b wb vb) wa va o in
      record { within = va; levels = h.levels; over = h.over; older = λ q. h.same (older (k.older b q)) q }

-- WHO HELD WHAT LEAVES
-- a slot that is no slot 0 of a pointer block has one holder
pub held_once : {k : Known} {t : Tree} {at i x : ℕ} → IsTree k t → IsHead k t at i x → (n a : ℕ) → t.Within a → Over k t n a x → a ≡ at
held_once {k} {t} {at} {i} {x} tree h zero a w o = (tree.one a at o.0 i x w h.within o.1 h.points).0
held_once {k} {t} {at} {i} {x} tree h (suc n) a w o =
    let e = tree.one o.0 at 0 i x o.1 h.within o.3 h.points in
    absurd (h.head (subst (λ y. t.Pointers y) e.0 o.2) (sym e.1))

-- and so has an older block
pub older_once : {k : Known} {t : Tree} {at x : ℕ} (i : ℕ) → IsTree k t → t.Within at → Points k at i x → t.Older x → (n a : ℕ) → t.Within a → Over k t n a x → (t.Older x → n ≡ 0) → a ≡ at
older_once {k} {t} {at} {x} i tree w e old zero a v o only = (tree.one a at o.0 i x v w o.1 e).0
older_once {k} {t} {at} {x} i tree w e old (suc n) a v o only = let z : suc n ≡ 0 = only old in absurd (omega (arith, z))

-- whoever holds a block in slot 0 of a pointer block is that block, or holds it
pub held_through : {k : Known} {t : Tree} {c x : ℕ} {P : ℕ → Type 0} → IsTree k t → t.Within c → Points k c 0 x → P c → ((n a : ℕ) → t.Within a → Over k t n a c → P a) → (n a : ℕ) → t.Within a → Over k t n a x → P a
held_through {k} {t} {c} {x} {P} tree w e own above zero a v o = subst P (sym (tree.one a c o.0 0 x v w o.1 e).0) own
held_through {k} {t} {c} {x} {P} tree w e own above (suc n) a v o = above n a v (subst (λ y. Over k t n a y) (tree.one o.0 c 0 0 x o.1 w o.3 e).0 o.4)

-- a whole set hangs from its root alone
pub whole_below : {k : Known} {t : Tree} {x : ℕ} {blocks : List ℕ} → IsTree k t → HangsTogether k t x blocks → (a j b : ℕ) → t.Within a → Points k a j b → Contains blocks b → (b ≡ x) ⊎ Contains blocks a
whole_below {k} {t} {x} {blocks} tree h a j b w e is = ⊎_elim
    (λ root. inl root)
    (λ p. inr (subst (λ y. Contains blocks y) (tree.one p.0 a p.1 j b (h.inside p.0 p.2) w p.3 e).0 p.2))
    (h.only b is)

-- REMOVED
module _ {at i : ℕ} {s : Slot} {old new : Known} {t u : Tree} {x : ℕ} {Leaves : ℕ → Type 0} {blocks : List ℕ} (r : Removes at i s old new t u x Leaves blocks) (tree : IsTree old t) where
  -- what leads on still leads where it led
  points_old : (a j b : ℕ) → Points new a j b → Points old a j b
  points_old a j b e = ⊎_elim
      (λ c. absurd (r.nowhere b (ap target (sym r.moves.here) ∙ ap (λ y. target ((new.memory y).slot i)) (sym c.0) ∙ ap (λ m. target ((new.memory a).slot m)) (sym c.1) ∙ e)))
      (λ ne. ap target (sym (r.moves.others a j ne)) ∙ e)
      (cell at i a j)

  points_new : (a j b : ℕ) → u.Within b → Points old a j b → Points new a j b
  points_new a j b w e = ⊎_elim
      (λ c.
      let is : x ≡ b = same_block r.head.points (ap (λ y. target ((old.memory y).slot i)) (sym c.0) ∙ ap (λ m. target ((old.memory a).slot m)) (sym c.1) ∙ e) in
      absurd (r.away b w (subst (λ y. Leaves y) is r.first)))
      (λ ne. ap target (r.moves.others a j ne) ∙ e)
      (cell at i a j)

  -- what leaves hangs from x alone, and all below it leaves
  leaves_below : (a j b : ℕ) → t.Within a → Points old a j b → Leaves b → (b ≡ x) ⊎ Leaves a
  leaves_below a j b w e is = ⊎_elim
      (λ root. inl root)
      (λ p. inr (subst (λ y. Leaves y) (tree.one p.0 a p.1 j b (r.inside p.0 p.2) w p.3 e).0 p.2))
      (r.only b is)

  leaves_over : (n a b : ℕ) → Leaves a → Over old t n a b → Leaves b
  leaves_over zero a b is o = r.next a o.0 b is o.1
  leaves_over (suc n) a b is o = r.next o.0 0 b (leaves_over n a o.0 is o.4) o.3

  pub removed_tree : IsTree new u
  removed_tree = record {
    one = λ a c j l b wa wc ea ec. tree.one a c j l b (r.within a wa) (r.within c wc) (points_old a j b ea) (points_old c l b ec);
    closed = λ a j b w e. ⊎_elim
        (λ stays. stays)
        (λ gone. ⊎_elim
        (λ root.
        let same = tree.one a at j i x (r.within a w) r.head.within (subst (λ y. Points old a j y) root (points_old a j b e)) r.head.points in
        absurd (r.nowhere b (ap target (sym r.moves.here) ∙ ap (λ y. target ((new.memory y).slot i)) (sym same.0) ∙ ap (λ m. target ((new.memory a).slot m)) (sym same.1) ∙ e)))
        (λ own. absurd (r.away a w own))
        (leaves_below a j b (r.within a w) (points_old a j b e) gone))
        (r.parts b (tree.closed a j b (r.within a w) (points_old a j b e)));
    older = λ a j b w e q. r.still b (tree.older a j b (r.within a w) (points_old a j b e) (r.older a q));
    apart = λ a m w. tree.apart a (r.made a m) (r.within a w);
    gone = λ a c w. ⊎_elim (λ was. tree.gone a was (r.within a w)) (λ is. r.away a w (r.leaves a is)) (r.covered a c);
  }

  same_place : ℕ → ℕ → Type 0
  same_place b c = (b ≡ c) × t.Within b × u.Within b

  removed_carries : Carries old new t u same_place
  unfolding same_place
  removed_carries = record {
    stays = λ b w v. (refl, w, v);
    itself = λ b c p v. sym p.0;
    within = λ b c p. subst (λ y. u.Within y) p.0 p.2;
    pointers = λ b c p q. r.pointers c (subst (λ y. t.Pointers y) p.0 q);
    older = r.older;
    up = λ b c p a j w e. inl (record {
      now = a;
      is = (refl, w, ⊎_elim (λ v. v) (λ own. absurd (r.away b p.2 (r.next a j b own e))) (r.parts a w));
      points = subst (λ y. Points new a j y) p.0 (points_new a j b p.2 e);
    });
  }

  pub removed_forest : IsForest old t → IsForest new u
  removed_forest forest = record {
    leads = λ a j b ma e.
        let o = points_old a j b e in ⊎_elim
        (λ w. ⊎_elim (λ v. inl v) (λ own. absurd (r.free a j b (r.made a ma) o own)) (r.parts b w))
        (λ mb. inr (r.made_still b mb))
        (forest.leads a j b (r.made a ma) o);
    one = λ a c j l b ma mc mb ea ec. forest.one a c j l b (r.made a ma) (r.made c mc) (r.made b mb) (points_old a j b ea) (points_old c l b ec);
    young = λ a m q. forest.young a (r.made a m) (r.older a q);
    uncovered = λ a m c. ⊎_elim (λ was. forest.uncovered a (r.made a m) was) (λ own. tree.apart a (r.made a m) (r.whole.inside a own)) (r.covered a c);
  }

  removed_takes : Takes at i s old new t u
  removed_takes = record {
    moves = r.moves;
    holder = inl (r.head.within, r.stays);
    was = λ b w. inl (r.within b w);
    left = λ n a b w o v. ⊎_elim (λ stays. inl stays) (λ own. absurd (r.away b v (leaves_over n a b own o))) (r.parts a w);
    made = r.made;
    linked = λ b m. inr (r.made_still b m);
    covered = λ b c. r.cover b (inl c);
    carried = carried_by removed_carries;
  }

  -- the removal comes after the block that lost the slot
  removed_leaving : (earlier : List ℕ) → Leaving s old new t earlier (record { blocks = blocks; after = at })
  removed_leaving earlier = record {
    root = x;
    inside = r.whole.inside;
    below = λ a j b w e is. whole_below tree r.whole a j b w e is;
    above = λ n a w o _. inr (held_once tree r.head n a w o);
    made = λ a j b m e is. absurd (r.free a j b m e (r.leaves b is));
    unput = λ b e _. r.nowhere b e;
    away = λ j b e is. ⊎_elim
        (λ root.
        let same = tree.one at at j i x r.head.within r.head.within (subst (λ y. Points old at j y) root (points_old at j b e)) r.head.points in
        r.nowhere b (ap target (sym r.moves.here) ∙ ap (λ m. target ((new.memory at).slot m)) (sym same.1) ∙ e))
        (λ own. r.away at r.stays (r.leaves at own))
        (whole_below tree r.whole at j b r.head.within (points_old at j b e) is);
    tops = λ y h is. r.tops y (r.moves.tops y h) is;
  }

  pub removed_keeps : Parents old t → Parents new u
  removed_keeps h = parents_taken removed_takes tree removed_tree h

  pub removed_behind : Parents old t → (earlier : List ℕ) → ((b : ℕ) → t.Covered b → Contains earlier b) → AreBehind new earlier (record { blocks = blocks; after = at } ∷ [])
  removed_behind h earlier covered = all_leave r.moves tree h (record { blocks = blocks; after = at } ∷ []) earlier covered (removed_leaving earlier, tt)

-- REPLACED
module _ {at i : ℕ} {s : Slot} {old new : Known} {t u : Tree} {Copy_of : ℕ → ℕ → Type 0} {Gone Lost Turns : ℕ → Type 0} {From : ℕ → ℕ → ℕ → Type 0} (r : Replaces at i s old new t u Copy_of Gone Lost Turns From) (tree : IsTree old t) (forest : IsForest old t) where
  put_points : (b : ℕ) → Points new at i b → target s ≡ Local b
  put_points b e = ap target (sym r.moves.here) ∙ e

  -- a pointer that memory has now is the one that was put, or was there
  points_case : (a j b : ℕ) → Points new a j b → ((a ≡ at) × (j ≡ i) × (target s ≡ Local b)) ⊎ Points old a j b
  points_case a j b e = ⊎_elim
      (λ c. inl (c.0, c.1, put_points b (ap (λ y. target ((new.memory y).slot i)) (sym c.0) ∙ ap (λ n. target ((new.memory a).slot n)) (sym c.1) ∙ e)))
      (λ ne. inr (ap target (sym (r.moves.others a j ne)) ∙ e))
      (cell at i a j)

  new_place : ℕ → ℕ → Type 0
  new_place b c = ((b ≡ c) × t.Within b × u.Within b) ⊎ Copy_of b c

  replaced_carries : Carries old new t u new_place
  unfolding new_place
  replaced_carries = record {
    stays = λ b w v. inl (refl, w, v);
    itself = λ b c p v. ⊎_elim (λ e. sym e.0) (λ y. absurd ((r.copied b c y).2 v)) p;
    within = λ b c p. ⊎_elim (λ e. subst (λ y. u.Within y) e.0 e.2) (λ y. (r.copied b c y).4) p;
    pointers = λ b c p q. ⊎_elim (λ e. r.pointers c (subst (λ y. t.Pointers y) e.0 q)) (λ y. (r.copied b c y).5 q) p;
    older = r.older;
    up = λ b c p a j w e. ⊎_elim
        (λ same. ⊎_elim
        (λ v. ⊎_elim
        (λ k. inr (turn b c p (r.slot_was b (ap (λ y. target ((old.memory y).slot i)) (sym k.0) ∙ ap (λ n. target ((old.memory a).slot n)) (sym k.1) ∙ e) same.2)))
        (λ o. inl (record { now = a; is = inl (refl, w, v); points = subst (λ y. Points new a j y) same.0 (ap target (r.moves.others a j o) ∙ e) }))
        (cell at i a j))
        (λ y. ⊎_elim
        (λ d. ⊎_elim
        (λ top. inr (turn b c p top))
        (λ q. inl (record { now = d.0; is = inr d.1; points = subst (λ y. Points new d.0 j y) same.0 q }))
        (r.shared a d.0 j b d.1 e same.2))
        (λ g. ⊎_elim
        (λ gb. absurd ((r.gone b gb).0 same.2))
        (λ top. inr (turn b c p top))
        (r.gone_below a j b g e))
        y)
        (r.parts a w))
        (λ y. ⊎_elim
        (λ top. inr (turn b c p top))
        (λ z. ⊎_elim
        (λ q. inl (record { now = a; is = inl (refl, w, subst (λ d. u.Within d) (sym q.0) r.stays); points = q.2 }))
        (λ d. inl (record { now = d.0; is = inr d.1; points = d.2 }))
        z)
        (r.hangs a j b c y w e))
        p;
  }
    where
      turn : (b c : ℕ) → new_place b c → Turns b → (n d : ℕ) → t.Within d → u.Within d → Over old t n d b → HoldsNow new u n d c
      turn b c p top n d w v o = r.turns b c top (⊎_elim (λ q. inl (q.0, q.2)) (λ y. inr y) p) n d w v o

  -- what is lost stays lost
  lost_over : (n a b : ℕ) → Lost a → Over old t n a b → Lost b
  lost_over zero a b is o = r.lost_below a o.0 b is o.1
  lost_over (suc n) a b is o = r.lost_below o.0 0 b (lost_over n a o.0 is o.4) o.3

  replaced_takes : Takes at i s old new t u
  replaced_takes = record {
    moves = r.moves;
    holder = inl (r.within, r.stays);
    was = r.was;
    left = λ n a b w o v. ⊎_elim
        (λ stays. inl stays)
        (λ y. ⊎_elim
        (λ d. inr (r.cover a (inr d)))
        (λ g. ⊎_elim (λ c. inr c) (λ q. absurd (r.lost_out b (lost_over n a b q o) v)) (r.lost a g))
        y)
        (r.parts a w);
    made = r.made;
    linked = r.linked;
    covered = λ b c. r.cover b (inl c);
    carried = carried_by replaced_carries;
  }

  -- who leads in memory to a block of the old tree that stays: who led there, its copy, or what a source that turns hangs from now
  comes : (a j b : ℕ) → u.Within a → t.Within b → Points new a j b → (t.Within a × Points old a j b) ⊎ (((o : ℕ) × Copy_of o a × Points old o j b) ⊎ (Turns b × u.Within b × From b a j))
  comes a j b v w e = ⊎_elim
      (λ n. ⊎_elim
      (λ y. inr (inr (y.1, y.2, subst (λ c. From b c j) (sym n.0) (subst (λ c. From b at c) (sym n.1) y.3))))
      (λ y. absurd (tree.apart b y.0 w))
      (r.put b n.2).1)
      (λ o. ⊎_elim (λ wa. inl (wa, o)) (λ ma. inr (r.brings a j b ma v o w)) (r.was a v))
      (points_case a j b e)

  apart_top : (a j b : ℕ) (l n : ℕ) → u.Within a → t.Within a × Points old a j b → t.Within b → Turns b × u.Within b × From b l n → Points new a j b → (a ≡ l) × (j ≡ n)
  apart_top a j b l n v p w top e = ⊎_elim
      (λ y. ⊎_elim
      (λ k. r.from_one b a l j n (subst (λ c. From b c j) (sym y.0) (subst (λ c. From b at c) (sym y.1) k.3)) top.2)
      (λ k. absurd (tree.apart b k.0 w))
      (r.put b (put_points b (ap (λ c. target ((new.memory c).slot i)) (sym y.0) ∙ ap (λ c. target ((new.memory a).slot c)) (sym y.1) ∙ e))).1)
      (λ q. ⊎_elim (λ g. absurd ((r.gone a g).0 v)) (λ d. absurd ((r.copied a d.0 d.1).2 v)) q)
      (r.parent a j b top.0 w p.0 p.1)

  -- where a source turns, the block hung from no block whose copy leads to it
  copy_not_top : (o a j b : ℕ) → Copy_of o a → Points old o j b → t.Within b → Turns b → Points new a j b → ⊥
  copy_not_top o a j b k e w top now = ⊎_elim
      (λ h. (r.copied o a k).2 (subst (λ y. u.Within y) (sym h.0) r.stays))
      (λ q. ⊎_elim (λ g. (r.gone o g).1 a k) (λ d. d.2 (subst (λ y. Points new y j b) (r.copy_one o a d.0 k d.1) now)) q)
      (r.parent o j b top w (r.copied o a k).0 e)

  -- two pointers to one block of the old tree are the same
  one_old : (a c j l b : ℕ) → u.Within a → u.Within c → t.Within b → Points new a j b → Points new c l b → (a ≡ c) × (j ≡ l)
  one_old a c j l b va vc w ea ec = ⊎_elim
      (λ p. ⊎_elim
      (λ q. tree.one a c j l b p.0 q.0 p.1 q.1)
      (λ q. ⊎_elim
      (λ k. let same = tree.one a k.0 j l b p.0 (r.copied k.0 c k.1).0 p.1 k.2 in absurd ((r.copied k.0 c k.1).2 (subst (λ y. u.Within y) same.0 va)))
      (λ top. apart_top a j b c l va p w top ea)
      q)
      (comes c l b vc w ec))
      (λ p. ⊎_elim
      (λ k. ⊎_elim
      (λ q. let same = tree.one c k.0 l j b q.0 (r.copied k.0 a k.1).0 q.1 k.2 in absurd ((r.copied k.0 a k.1).2 (subst (λ y. u.Within y) same.0 vc)))
      (λ q. ⊎_elim
      (λ n. let same = tree.one k.0 n.0 j l b (r.copied k.0 a k.1).0 (r.copied n.0 c n.1).0 k.2 n.2 in (r.copy_one n.0 a c (subst (λ y. Copy_of y a) same.0 k.1) n.1, same.1))
      (λ top. absurd (copy_not_top k.0 a j b k.1 k.2 w top.0 ea))
      q)
      (comes c l b vc w ec))
      (λ top. ⊎_elim
      (λ q. let z = apart_top c l b a j vc q w top ec in (sym z.0, sym z.1))
      (λ q. ⊎_elim
      (λ n. absurd (copy_not_top n.0 c l b n.1 n.2 w top.0 ec))
      (λ other. r.from_one b a c j l top.2 other.2)
      q)
      (comes c l b vc w ec))
      p)
      (comes a j b va w ea)

  -- who leads to a block that was made is a made one, or the block put into
  comes_made : (a j b : ℕ) → u.Within a → t.Made b → Points new a j b → ((a ≡ at) × (j ≡ i) × ((c l : ℕ) → t.Made c → Points old c l b → ⊥)) ⊎ (t.Made a × Points old a j b)
  comes_made a j b v mb e = ⊎_elim
      (λ n. ⊎_elim
      (λ y. absurd (tree.apart b mb y.0))
      (λ y. inl (n.0, n.1, y.1))
      (r.put b n.2).1)
      (λ o. ⊎_elim
      (λ wa. absurd (tree.apart b mb (tree.closed a j b wa o)))
      (λ ma. inr (ma, o))
      (r.was a v))
      (points_case a j b e)

  one_made : (a c j l b : ℕ) → u.Within a → u.Within c → t.Made b → Points new a j b → Points new c l b → (a ≡ c) × (j ≡ l)
  one_made a c j l b va vc mb ea ec = ⊎_elim
      (λ p. ⊎_elim
      (λ q. (p.0 ∙ sym q.0, p.1 ∙ sym q.1))
      (λ q. absurd (p.2 c l q.0 q.1))
      (comes_made c l b vc mb ec))
      (λ p. ⊎_elim
      (λ q. absurd (q.2 a j p.0 p.1))
      (λ q. forest.one a c j l b p.0 q.0 mb p.1 q.1)
      (comes_made c l b vc mb ec))
      (comes_made a j b va mb ea)

  -- what a block of the new tree leads to is in it
  closed_old : (a j b : ℕ) → u.Within a → t.Within a → Points old a j b → Points new a j b → u.Within b
  closed_old a j b v w e now = ⊎_elim
      (λ stays. stays)
      (λ y. ⊎_elim
      (λ d. ⊎_elim
      (λ top. ⊎_elim
      (λ here. by_slot here)
      (λ q. ⊎_elim (λ g. absurd ((r.gone a g).0 v)) (λ k. absurd ((r.copied a k.0 k.1).2 v)) q)
      (r.parent a j b top (tree.closed a j b w e) w e))
      (λ p. ⊎_elim (λ k. by_slot (k.0, k.1)) (λ k. absurd ((r.copied a k.0 k.1).2 v)) p)
      (r.hangs a j b d.0 d.1 w e))
      (λ g. ⊎_elim
      (λ up. absurd ((r.gone a up).0 v))
      (λ p. ⊎_elim (λ d. absurd ((r.copied a d.0 d.1).2 v)) (λ here. by_slot here) p)
      (r.gone_above a j b g w e))
      y)
      (r.parts b (tree.closed a j b w e))
    where
      by_slot : (a ≡ at) × (j ≡ i) → u.Within b
      by_slot h = (r.put b (put_points b (ap (λ c. target ((new.memory c).slot i)) (sym h.0) ∙ ap (λ c. target ((new.memory a).slot c)) (sym h.1) ∙ now))).0

  closed_made : (a j b : ℕ) → u.Within a → t.Made a → Points old a j b → Points new a j b → u.Within b
  closed_made a j b v ma e now = ⊎_elim
      (λ w. ⊎_elim
      (λ k. ⊎_elim
      (λ stays. stays)
      (λ y. ⊎_elim
      (λ d. ⊎_elim
      (λ top. absurd (copy_not_top k.0 a j b k.1 k.2 w top now))
      (λ z. ⊎_elim
      (λ h. absurd ((r.copied k.0 a k.1).2 (subst (λ c. u.Within c) (sym h.0) r.stays)))
      (λ p.
      let to : Points new a j d.0 = subst (λ c. Points new c j d.0) (r.copy_one k.0 p.0 a p.1 k.1) p.2 in
      absurd (tree.apart d.0 (r.copied b d.0 d.1).3 (subst (λ c. t.Within c) (same_block now to) w)))
      z)
      (r.hangs k.0 j b d.0 d.1 (r.copied k.0 a k.1).0 k.2))
      (λ g. absurd (r.gone_copy k.0 a j b g k.1 k.2 now))
      y)
      (r.parts b w))
      (λ top. top.1)
      (r.brings a j b ma v e w))
      (λ mb. r.links a j b ma v e mb)
      (forest.leads a j b ma e)

  pub replaced_tree : IsTree new u
  replaced_tree = record {
    one = λ a c j l b va vc ea ec. ⊎_elim
        (λ w. one_old a c j l b va vc w ea ec)
        (λ mb. one_made a c j l b va vc mb ea ec)
        (r.was b (closed a j b va ea));
    closed = closed;
    older = λ a j b v e q. ⊎_elim
        (λ n. absurd (r.current (r.older at (subst (λ y. u.Older y) n.0 q))))
        (λ o. ⊎_elim
        (λ w. r.still b (tree.older a j b w o (r.older a q)))
        (λ ma. absurd (forest.young a ma (r.older a q)))
        (r.was a v))
        (points_case a j b e);
    apart = λ a ma v. r.apart a ma v;
    gone = λ a c v. ⊎_elim
        (λ was. ⊎_elim (λ w. tree.gone a was w) (λ ma. forest.uncovered a ma was) (r.was a v))
        (λ y. ⊎_elim (λ d. (r.copied a d.0 d.1).2 v) (λ g. (r.gone a g).0 v) y)
        (r.covered a c);
  }
    where
      closed : (a j b : ℕ) → u.Within a → Points new a j b → u.Within b
      closed a j b v e = ⊎_elim
          (λ n. (r.put b n.2).0)
          (λ o. ⊎_elim (λ w. closed_old a j b v w o e) (λ ma. closed_made a j b v ma o e) (r.was a v))
          (points_case a j b e)

  pub replaced_forest : IsForest new u
  replaced_forest = record {
    leads = λ a j b ma e.
        let o = back a j b ma e in ⊎_elim
        (λ w. ⊎_elim
        (λ v. inl v)
        (λ y. absurd (r.free a j b ma o (⊎_elim (λ d. (r.copied b d.0 d.1).2) (λ g. (r.gone b g).0) y) w))
        (r.parts b w))
        (λ mb. r.linked b mb)
        (forest.leads a j b (r.made a ma) o);
    one = λ a c j l b ma mc mb ea ec. forest.one a c j l b (r.made a ma) (r.made c mc) (r.made b mb) (back a j b ma ea) (back c l b mc ec);
    young = λ a m q. forest.young a (r.made a m) (r.older a q);
    uncovered = λ a m c. ⊎_elim
        (λ was. forest.uncovered a (r.made a m) was)
        (λ y. tree.apart a (r.made a m) (⊎_elim (λ d. (r.copied a d.0 d.1).0) (λ g. (r.gone a g).2) y))
        (r.covered a c);
  }
    where
      back : (a j b : ℕ) → u.Made a → Points new a j b → Points old a j b
      back a j b m e = ⊎_elim
          (λ n. absurd (tree.apart at (r.made at (subst (λ y. u.Made y) n.0 m)) r.within))
          (λ o. o)
          (points_case a j b e)

  pub replaced_keeps : Parents old t → Parents new u
  replaced_keeps h = parents_taken replaced_takes tree replaced_tree h

  -- What leaves: blocks of the old tree that are not in the new one, each set hanging from its root, who held the root in `earlier` or the
  -- block after which the removal comes.
  pub replaced_leaving : (earlier : List ℕ) (p : Pending) (root : ℕ) → ((b : ℕ) → Contains p.blocks b → t.Within b × (u.Within b → ⊥)) → u.Within p.after → ((a j b : ℕ) → t.Within a → Points old a j b → Contains p.blocks b → (b ≡ root) ⊎ Contains p.blocks a) → ((n a : ℕ) → t.Within a → Over old t n a root → (t.Older root → n ≡ 0) → Contains earlier a ⊎ (a ≡ p.after)) → ((y : Top) → Contains old.tops y → Contains p.blocks y.at → ⊥) → Leaving s old new t earlier p
  replaced_leaving earlier p root out after below above tops = record {
    root = root;
    inside = λ b is. (out b is).0;
    below = below;
    above = above;
    made = λ a j b ma e is. absurd (⊎_elim
        (λ v. (out b is).1 (replaced_tree.closed a j b v (⊎_elim
        (λ k. absurd (tree.apart a ma (subst (λ y. t.Within y) (sym k.0) r.within)))
        (λ ne. ap target (r.moves.others a j ne) ∙ e)
        (cell at i a j))))
        (λ um. r.free a j b um e (out b is).1 (out b is).0)
        (r.linked a ma));
    unput = λ b e is. (out b is).1 (r.put b e).0;
    away = λ j b e is. (out b is).1 (replaced_tree.closed p.after j b after e);
    tops = λ y h is. tops y (r.moves.tops y h) is;
  }

  -- a block that has a copy leaves alone
  pub copied_leaving : (earlier : List ℕ) (g l b c after : ℕ) → Copy_of b c → t.Within g → Points old g l b → Contains earlier g ⊎ (g ≡ after) → u.Within after → ((y : Top) → Contains old.tops y → y.at ≡ b → ⊥) → Leaving s old new t earlier (record { blocks = b ∷ []; after = after })
  copied_leaving earlier g l b c after k w e held stays tops = replaced_leaving earlier (record { blocks = b ∷ []; after = after }) b
      (λ d is. subst (λ y. t.Within y × (u.Within y → ⊥)) (only_one d is) ((r.copied b c k).0, (r.copied b c k).2))
      stays
      (λ a j d w e is. inl (sym (only_one d is)))
      (λ n a v o older. subst (λ y. Contains earlier y ⊎ (y ≡ after)) (sym (older_once l tree w e (r.copied b c k).1 n a v o older)) held)
      (λ y h is. tops y h (sym (only_one y.at is)))
    where
      only_one : (d : ℕ) → Contains (b ∷ []) d → b ≡ d
      only_one d is = ⊎_elim (λ q. q) (λ none. absurd (nothing_among d none)) (among_cases b [] d is)

  -- what leaves whole hangs from a slot of a block that left before, or of the one that was put into
  pub whole_leaving : (earlier : List ℕ) (g l root after : ℕ) (blocks : List ℕ) → IsHead old t g l root → HangsTogether old t root blocks → ((b : ℕ) → Contains blocks b → u.Within b → ⊥) → Contains earlier g ⊎ (g ≡ after) → u.Within after → ((y : Top) → Contains old.tops y → Contains blocks y.at → ⊥) → Leaving s old new t earlier (record { blocks = blocks; after = after })
  whole_leaving earlier g l root after blocks head whole out held stays tops = replaced_leaving earlier (record { blocks = blocks; after = after }) root
      (λ b is. (whole.inside b is, out b is))
      stays
      (λ a j b w e is. whole_below tree whole a j b w e is)
      (λ n a v o _. subst (λ y. Contains earlier y ⊎ (y ≡ after)) (sym (held_once tree head n a v o)) held)
      tops

  -- a level that its source loses leaves alone: it hangs from the slot that is put, or in slot 0 of a level that left before
  pub level_leaving : (earlier : List ℕ) (root after : ℕ) → t.Within root → (u.Within root → ⊥) → ((n a : ℕ) → t.Within a → Over old t n a root → Contains earlier a ⊎ (a ≡ after)) → u.Within after → ((y : Top) → Contains old.tops y → y.at ≡ root → ⊥) → Leaving s old new t earlier (record { blocks = root ∷ []; after = after })
  level_leaving earlier root after w out above stays tops = replaced_leaving earlier (record { blocks = root ∷ []; after = after }) root
      (λ d is. subst (λ y. t.Within y × (u.Within y → ⊥)) (only_one d is) (w, out))
      stays
      (λ a j d w e is. inl (sym (only_one d is)))
      (λ n a v o _. above n a v o)
      (λ y h is. tops y h (sym (only_one y.at is)))
    where
      only_one : (d : ℕ) → Contains (root ∷ []) d → root ≡ d
      only_one d is = ⊎_elim (λ q. q) (λ none. absurd (nothing_among d none)) (among_cases root [] d is)

  -- the removals of one put, in order
  pub replaced_behind : Parents old t → (rs : List Pending) (earlier : List ℕ) → ((b : ℕ) → t.Covered b → Contains earlier b) → AllLeaving s old new t earlier rs → AreBehind new earlier rs
  replaced_behind h rs earlier covered l = all_leave r.moves tree h rs earlier covered l

-- the levels that a source loses: who held the first is the block put into, who held the next is that block or one of the levels before
pub first_level : {k : Known} {t : Tree} {at i x : ℕ} (earlier : List ℕ) → IsTree k t → IsHead k t at i x → (n a : ℕ) → t.Within a → Over k t n a x → Contains earlier a ⊎ (a ≡ at)
first_level earlier tree h n a w o = inr (held_once tree h n a w o)

pub next_level : {k : Known} {t : Tree} {c x : ℕ} (earlier : List ℕ) (after : ℕ) → IsTree k t → t.Within c → Points k c 0 x → Contains earlier c → ((n a : ℕ) → t.Within a → Over k t n a c → Contains earlier a ⊎ (a ≡ after)) → (n a : ℕ) → t.Within a → Over k t n a x → Contains earlier a ⊎ (a ≡ after)
next_level earlier after tree w e is above = held_through {P = λ a. Contains earlier a ⊎ (a ≡ after)} tree w e (inl is) above
