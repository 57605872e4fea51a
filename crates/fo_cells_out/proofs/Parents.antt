-- The parent fact is kept by each step, and with it what a put takes out meets what closing needs.
use Rattle.std.proofs.Common.{◌≡◌, ◌≢◌, ◌⊎◌, inl, inr, ⊎_elim, ℕ, zero, suc, List, [], ◌∷◌, ◌++◌, refl, sym, ◌∙◌, ap, subst, arith}
use Rattle.std.specs.List.{Contains}
use Rattle.fo_image.specs.declared.types.Pointer.TheVariants.{Local}
use Rattle.fo_crash.specs.declared.slot.Slot.{Slot}
use Rattle.fo_crash.specs.declared.place.Place.{Place}
use Rattle.fo_crash.specs.Images.{Content, target}
use Rattle.fo_cells.specs.Known.{Known, MaySlot, Stands}
use Rattle.fo_cells_out.specs.Removals.{Pending, IsBehind, AreBehind}
use Rattle.fo_cells_out.specs.Parents.{Tree, Points, Over, Holds, IsUnwritten, Parents, IsTree, Moves, Takes, Leaving, AllLeaving, Stays, blocks_of}
use Rattle.fo_cells.proofs.Standing.{seen_born, among_cases}
use Rattle.fo_cells_out.proofs.Queue.{among_left, among_right, among_either, nothing_among, without_block}

-- of a block of which nothing is on the device memory alone says what its slots may be
pub made_slot : {k : Known} {a : ℕ} → IsUnwritten k a → (i : ℕ) (s : Slot) → MaySlot k a i s → s ≡ (k.memory a).slot i
made_slot {k} {a} m i s h = ⊎_elim
    (λ has. ⊎_elim
    (λ first. sym has.is ∙ ap (λ (c : Content). c.slot i) (sym first))
    (λ more. absurd (m.late has.content more))
    (among_cases (k.memory a) (k.late a) has.content (subst (λ (cs : List Content). Contains cs has.content) (seen_born k a m.newborn) has.among)))
    (λ r. ⊎_elim (λ is. is) (λ c. absurd (m.clears i c.0 c.1)) r)
    h

-- STEPS AFTER WHICH FEWER SLOTS MAY BE THERE
-- the same slots of memory and the same tree, but for what is covered
over_same : (old new : Known) (t : Tree) (C : ℕ → Type 0) → ((a j : ℕ) → (new.memory a).slot j ≡ (old.memory a).slot j) → (n a b : ℕ) → Over old t n a b → Over new (record t { Covered = C }) n a b
over_same old new t C same zero a b o = (o.0, ap target (same a o.0) ∙ o.1)
over_same old new t C same (suc n) a b o = (o.0, o.1, o.2, ap target (same o.0 0) ∙ o.3, over_same old new t C same n a o.0 o.4)

-- What was covered is, or stands no more.
pub parents_still : {old new : Known} (t : Tree) (C : ℕ → Type 0) → Stays old new t → ((a : ℕ) (p : Place) → Stands new a p → t.Covered a → C a) → Parents old t → Parents new (record t { Covered = C })
parents_still {old} {new} t C k covered h = record {
  tree = λ a i b s p st m e within. ⊎_elim
      (λ x. inl (record { within = x.within; levels = x.levels; over = over_same old new t C k.slots x.levels a b x.over; older = x.older }))
      (λ r. inr (⊎_elim (λ c. inl (covered a p st c)) (λ y. inr y) r))
      (h.tree a i b s p (k.stands a p st) (k.may a i b s m e) e within);
  made = λ a i b s p st m e is. h.made a i b s p (k.stands a p st) (k.may a i b s m e) e is;
  unwritten = λ a is. k.unwritten a is (h.unwritten a is);
}

-- A PUT OR A CLEARING
module _ {at i : ℕ} {s : Slot} {old new : Known} {t u : Tree} (k : Takes at i s old new t u) (was_tree : IsTree old t) (is_tree : IsTree new u) (h : Parents old t) where
  -- a block that was made and is in the tree now is another one than the block put into
  linked_other : (a : ℕ) → t.Made a → u.Within a → a ≢ at
  linked_other a m w e = ⊎_elim
      (λ x. was_tree.apart a m (subst (λ y. t.Within y) (sym e) x.0))
      (λ x. is_tree.apart a (subst (λ y. u.Made y) (sym e) x) w)
      k.holder

  -- it leads where it may lead
  linked_points : (a j b : ℕ) (x : Slot) → t.Made a → u.Within a → MaySlot old a j x → target x ≡ Local b → Points new a j b
  linked_points a j b x m w may e = ap target (k.moves.others a j (inl (linked_other a m w))) ∙ ap target (sym (made_slot (h.unwritten a m) j x may)) ∙ e

  linked_holds : (a j b : ℕ) (x : Slot) → t.Made a → MaySlot old a j x → target x ≡ Local b → Holds new u a b ⊎ (u.Covered a ⊎ u.Made a)
  linked_holds a j b x m may e = ⊎_elim
      (λ w. inl (record { within = w; levels = 0; over = (j, linked_points a j b x m w may e); older = λ _. refl }))
      (λ y. inr (inr y))
      (k.linked a m)

  put_points : (a j b : ℕ) (x : Slot) → (a ≡ at) × (j ≡ i) × (x ≡ s) → target x ≡ Local b → Points new at i b
  put_points a j b x n e = ap target k.moves.here ∙ ap target (sym n.2) ∙ e

  -- The parent fact is kept.
  pub parents_taken : Parents new u
  parents_taken = record {
    tree = λ a j b x p st m e within. ⊎_elim
        (λ was. ⊎_elim
        (λ in_old. ⊎_elim
        (λ held. ⊎_elim
        (λ stays. inl (k.carried held.levels a b held.within in_old stays within held.over held.older))
        (λ gone. inr (inl gone))
        (k.left held.levels a b held.within held.over within))
        (λ r. ⊎_elim (λ c. inr (inl (k.covered a c))) (λ y. linked_holds a j b x y was e) r)
        (h.tree a j b x p (k.moves.stands a p st) was e in_old))
        (λ b_made. linked_holds a j b x (h.made a j b x p (k.moves.stands a p st) was e b_made) was e)
        (k.was b within))
        (λ n. ⊎_elim
        (λ y. inl (record { within = subst (λ z. u.Within z) (sym n.0) y.1; levels = 0; over = (i, subst (λ z. Points new z i b) (sym n.0) (put_points a j b x n e)); older = λ _. refl }))
        (λ y. inr (inr (subst (λ z. u.Made z) (sym n.0) y)))
        k.holder)
        (k.moves.may a j x m);
    made = λ a j b x p st m e is. ⊎_elim
        (λ was. let y = h.made a j b x p (k.moves.stands a p st) was e (k.made b is) in ⊎_elim
        (λ w. absurd (is_tree.apart b is (is_tree.closed a j b w (linked_points a j b x y w was e))))
        (λ stays. stays)
        (k.linked a y))
        (λ n. ⊎_elim
        (λ y. absurd (is_tree.apart b is (is_tree.closed at i b y.1 (put_points a j b x n e))))
        (λ y. subst (λ z. u.Made z) (sym n.0) y)
        k.holder)
        (k.moves.may a j x m);
    unwritten = λ a is. k.moves.unwritten a (h.unwritten a (k.made a is));
  }

-- WHAT LEAVES MEETS WHAT CLOSING NEEDS
module _ {at i : ℕ} {s : Slot} {old new : Known} {t : Tree} (moves : Moves at i s old new) (tree : IsTree old t) (h : Parents old t) where
  module _ (earlier : List ℕ) (r : Pending) (l : Leaving s old new t earlier r) where
    -- whoever holds a block of the set is in the set, or holds its root
    climb : (n a b : ℕ) → t.Within a → Over old t n a b → Contains r.blocks b → (t.Older b → n ≡ 0) → Contains r.blocks a ⊎ (Contains earlier a ⊎ (a ≡ r.after))
    climb zero a b w o is older = ⊎_elim
        (λ root. inr (l.above zero a w (subst (λ y. Over old t zero a y) root o) (λ _. refl)))
        (λ own. inl own)
        (l.below a o.0 b w o.1 is)
    climb (suc n) a b w o is older = ⊎_elim
        (λ root. inr (l.above (suc n) a w (subst (λ y. Over old t (suc n) a y) root o) (λ q. older (subst (λ y. t.Older y) (sym root) q))))
        (λ own. climb n a o.0 w o.4 own (λ q. let e : suc n ≡ 0 = older (tree.older o.0 0 b o.1 o.3 q) in absurd (omega (arith, e))))
        (l.below o.0 0 b o.1 o.3 is)

    pub leaves : ((b : ℕ) → t.Covered b → Contains earlier b) → IsBehind new earlier r
    leaves covered = record {
      only = λ a j b x p st may e is. ⊎_elim
          (λ was. ⊎_elim
          (λ held. ⊎_elim
          (λ own. inl (among_right earlier r.blocks a own))
          (λ y. ⊎_elim (λ c. inl (among_left earlier r.blocks a c)) (λ z. inr z) y)
          (climb held.levels a b held.within held.over is held.older))
          (λ y. ⊎_elim
          (λ c. inl (among_left earlier r.blocks a (covered a c)))
          (λ m. ⊎_elim
          (λ c. inl (among_left earlier r.blocks a c))
          (λ z. inr z)
          (l.made a j b m (ap target (sym (made_slot (h.unwritten a m) j x was)) ∙ e) is))
          y)
          (h.tree a j b x p (moves.stands a p st) was e (l.inside b is)))
          (λ n. absurd (l.unput b (ap target (sym n.2) ∙ e) is))
          (moves.may a j x may);
      away = l.away;
      tops = l.tops;
    }

  -- all removals of one call
  pub all_leave : (rs : List Pending) (earlier : List ℕ) → ((b : ℕ) → t.Covered b → Contains earlier b) → AllLeaving s old new t earlier rs → AreBehind new earlier rs
  all_leave [] earlier covered l = tt
  all_leave (r ∷ rs) earlier covered l = (leaves earlier r l.0 covered, all_leave rs (earlier ++ r.blocks) (λ b c. among_left earlier r.blocks b (covered b c)) l.1)

-- removals after removals
pub append_behind : (k : Known) (queue rs : List Pending) (earlier all : List ℕ) → ((b : ℕ) → Contains all b → Contains earlier b ⊎ Contains (blocks_of queue) b) → AreBehind k earlier queue → AreBehind k all rs → AreBehind k earlier (queue ++ rs)
append_behind k [] rs earlier all inside q l = without_block rs all earlier (λ a p st c. ⊎_elim (λ x. x) (λ none. absurd (nothing_among a none)) (inside a c)) l
append_behind k (r ∷ queue) rs earlier all inside q l = (
  q.0,
  append_behind k queue rs (earlier ++ r.blocks) all (λ b c. ⊎_elim
      (λ x. inl (among_left earlier r.blocks b x))
      (λ y. ⊎_elim (λ own. inl (among_right earlier r.blocks b own)) (λ more. inr more) (among_either r.blocks (blocks_of queue) b y))
      (inside b c)) q.1 l,
)
