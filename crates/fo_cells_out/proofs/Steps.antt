-- The parent fact over each step of a cache.
use Rattle.std.proofs.Common.{◌≡◌, ◌≢◌, ◌⊎◌, inl, inr, ⊎_elim, ℕ, zero, suc, true, List, [], ◌∷◌, ◌++◌, sym, ◌∙◌, ap, subst}
use Rattle.std.proofs.lemmas.Bool.{cases_eq}
use Rattle.std.specs.List.{Contains}
use Rattle.fo_image.specs.declared.types.Label.{Label}
use Rattle.fo_image.specs.declared.types.Pointer.TheVariants.{Local}
use Rattle.fo_crash.specs.declared.slot.Slot.{Slot}
use Rattle.fo_crash.specs.declared.slot.Slot.TheVariants.{Pointer as To, Entry as Head, Prev}
use Rattle.fo_crash.specs.declared.place.Place.{Place}
use Rattle.fo_crash.specs.Images.{Content, Image, target}
use Rattle.fo_crash.specs.Places.{place_below}
use Rattle.fo_crash.specs.Steps.{cleared}
use Rattle.fo_cells.specs.Known.{Known, Clear, Top, IsClear, MaySlot, IsKept, Stands}
use Rattle.fo_cells.specs.Calls.{PutsInto, Awaits, WaitsMore, TriesSuper}
use Rattle.fo_cells.specs.Writes.{Writes, WritesLabels, Syncs, Ends, Puts, Relabels, Gives, Fires}
use Rattle.fo_cells_out.specs.Removals.{Pending, AreBehind, IsCovered}
use Rattle.fo_cells_out.specs.Parents.{Tree, Points, Over, IsUnwritten, Parents, IsTree, IsForest, Moves, Takes, Stays, making, view}
use Rattle.fo_cells.proofs.Standing.{at_b, stands_by, stands_top, stands_below}
use Rattle.fo_cells.proofs.Keeping.{stands_fewer}
use Rattle.fo_cells.proofs.Settling.{Fewer, may_fewer, sync_fewer, labels_fewer, ends_fewer, same_seen}
use Rattle.fo_cells.proofs.Bytes.{may_bytes}
use Rattle.fo_cells.proofs.Waiting.{more_fewer}
use Rattle.fo_cells.proofs.Super.{super_stands, may_tried}
use Rattle.fo_cells.proofs.Putting.{may_put, stands_put}
use Rattle.fo_cells_out.proofs.Parents.{parents_taken}

cell : (at i b j : ℕ) → ((b ≡ at) × (j ≡ i)) ⊎ ((b ≢ at) ⊎ (j ≢ i))
cell at i b j = ⊎_elim (λ x. ⊎_elim (λ y. inl (x, y)) (λ ne. inr (inr ne)) (cases_eq j i)) (λ ne. inr (inl ne)) (cases_eq b at)

-- A PUT AND A CLEARING MOVE ONE SLOT
pub puts_moves : {at i : ℕ} {s : Slot} {old new : Known} → Puts at i s old new → IsKept old → Moves at i s old new
puts_moves {at} {i} {s} {old} {new} u kept = record {
  here = u.memory.here;
  others = u.memory.others;
  stands = stands_put u kept;
  may = may_put u;
  unwritten = λ a m. record {
    newborn = at_b a u.device.newborn ∙ m.newborn;
    late = λ c h. m.late c (subst (λ (xs : List Content). Contains xs c) (at_b a u.device.late) h);
    clears = λ j leaf h. m.clears j leaf (subst (λ (cs : List Clear). IsClear cs a j leaf) u.clears h);
  };
  tops = u.tops;
}

pub fires_moves : {at i leaf : ℕ} {old new : Known} → Fires at i leaf old new → Moves at i (cleared ((old.memory at).slot i)) old new
fires_moves {at} {i} {leaf} {old} {new} r = record {
  here = r.memory.here;
  others = r.memory.others;
  stands = stands_fewer (λ x h. subst (λ (ts : List Top). Contains ts x) r.tops h) (Rattle.fo_cells.proofs.Firing.may_old r);
  may = λ a j x h. inl (Rattle.fo_cells.proofs.Firing.may_old r a j x h);
  unwritten = λ a m. record {
    newborn = at_b a r.device.newborn ∙ m.newborn;
    late = λ c h. m.late c (subst (λ (xs : List Content). Contains xs c) (at_b a r.device.late) h);
    clears = λ j l h. m.clears j l (r.clears a j l h).0;
  };
  tops = λ x h. subst (λ (ts : List Top). Contains ts x) r.tops h;
}

-- WHAT ONLY TAKES AWAY
-- a block is written; none that was made and is not in the tree is ever written
pub write_stays : {at : ℕ} {f : Content} {old new : Known} (t : Tree) → Writes at f old new → (t.Made at → ⊥) → Stays old new t
write_stays {at} {f} {old} {new} t w linked = record {
  slots = λ a j. ap (λ (m : Image). (m a).slot j) w.same.memory;
  stands = stands_fewer (λ x k. subst (λ (ts : List Top). Contains ts x) w.same.tops k) (Rattle.fo_cells.proofs.Writing.may_old w);
  may = λ a i b s m e. Rattle.fo_cells.proofs.Writing.may_old w a i s m;
  unwritten = λ a is m. record {
    newborn = at_b a w.newborn ∙ m.newborn;
    late = λ c k. ⊎_elim (λ was. m.late c was) (λ n. linked (subst (λ y. t.Made y) n.0 is)) (w.late a c k);
    clears = λ j leaf k. m.clears j leaf (w.clears a j leaf k);
  };
  tops = λ y k. subst (λ (ts : List Top). Contains ts y) w.same.tops k;
}

fewer_stays : {old new : Known} (t : Tree) → Fewer old new → new.tops ≡ old.tops → ((a : ℕ) → t.Made a → IsUnwritten old a → IsUnwritten new a) → Stays old new t
fewer_stays {old} {new} t f tops unwritten = record {
  slots = λ a j. ap (λ (m : Image). (m a).slot j) f.memory;
  stands = stands_fewer (λ x k. subst (λ (ts : List Top). Contains ts x) tops k) (may_fewer f);
  may = λ a i b s m e. may_fewer f a i s m;
  unwritten = unwritten;
  tops = λ y k. subst (λ (ts : List Top). Contains ts y) tops k;
}

pub label_stays : {old new : Known} (t : Tree) → WritesLabels old new → Stays old new t
label_stays {old} {new} t w = fewer_stays t (labels_fewer w) w.same.tops (λ a is m. record {
  newborn = at_b a w.newborn ∙ m.newborn;
  late = λ c k. m.late c (w.late a c (at_b a w.newborn ∙ m.newborn) k);
  clears = λ j leaf k. m.clears j leaf (w.clears a j leaf k);
})

pub end_stays : {old new : Known} (t : Tree) → Ends old new → Stays old new t
end_stays {old} {new} t w = fewer_stays t (ends_fewer w) w.same.tops (λ a is m. record {
  newborn = at_b a w.device.newborn ∙ m.newborn;
  late = λ c k. m.late c (subst (λ (xs : List Content). Contains xs c) (at_b a w.device.late) k);
  clears = λ j leaf k. m.clears j leaf (subst (λ (cs : List Clear). IsClear cs a j leaf) w.clears k);
})

-- each block that was made has a version, as a block of the device has
pub sync_stays : {old new : Known} (t : Tree) → Syncs old new → ((b : ℕ) → t.Made b → (c : Content) × Contains (new.versions b) c) → Stays old new t
sync_stays {old} {new} t y some = fewer_stays t (sync_fewer y) y.same.tops (λ a is m. record {
  newborn = ⊎_elim (λ same. same.0 ∙ m.newborn) (λ n. absurd (m.late (some a is).0 (n.1.late (some a is).0 (some a is).1))) (y.newborn a);
  late = λ c k. ⊎_elim (λ same. m.late c (same.1 c k)) (λ n. m.late (some a is).0 (n.1.late (some a is).0 (some a is).1)) (y.newborn a);
  clears = λ j leaf k. m.clears j leaf (y.clears a j leaf k);
})

-- a label changes
pub relabel_stays : {b : ℕ} {l : Label} {old new : Known} (t : Tree) → Relabels b l old new → Stays old new t
relabel_stays {b} {l} {old} {new} t r = record {
  slots = λ a j. ap (λ (m : Image). (m a).slot j) r.memory;
  stands = Rattle.fo_cells.proofs.Closing.stands_old r;
  may = λ a i c s m e. Rattle.fo_cells.proofs.Closing.may_old r a i s m;
  unwritten = λ a is m. record {
    newborn = at_b a r.device.newborn ∙ m.newborn;
    late = λ c k. m.late c (subst (λ (xs : List Content). Contains xs c) (at_b a r.device.late) k);
    clears = λ j leaf k. m.clears j leaf (subst (λ (cs : List Clear). IsClear cs a j leaf) r.clears k);
  };
  tops = λ y k. subst (λ (ts : List Top). Contains ts y) r.tops k;
}

-- the tree and what was made stay where slots of memory stay and no more is covered
pub tree_still : {old new : Known} (t : Tree) (C : ℕ → Type 0) → Stays old new t → ((a : ℕ) → C a → t.Covered a) → IsTree old t → IsTree new (record t { Covered = C })
tree_still {old} {new} t C k less h = record {
  one = λ a c i j b wa wc ea ec. h.one a c i j b wa wc (back a i b ea) (back c j b ec);
  closed = λ a i b w e. h.closed a i b w (back a i b e);
  older = λ a i b w e q. h.older a i b w (back a i b e) q;
  apart = h.apart;
  gone = λ a c w. h.gone a (less a c) w;
}
  where
    back : (a i b : ℕ) → Points new a i b → Points old a i b
    back a i b e = ap target (sym (k.slots a i)) ∙ e

pub forest_still : {old new : Known} (t : Tree) (C : ℕ → Type 0) → Stays old new t → ((a : ℕ) → C a → t.Covered a) → IsForest old t → IsForest new (record t { Covered = C })
forest_still {old} {new} t C k less h = record {
  leads = λ a j b m e. h.leads a j b m (back a j b e);
  one = λ a c j l b ma mc mb ea ec. h.one a c j l b ma mc mb (back a j b ea) (back c l b ec);
  young = h.young;
  uncovered = λ a m c. h.uncovered a m (less a c);
}
  where
    back : (a i b : ℕ) → Points new a i b → Points old a i b
    back a i b e = ap target (sym (k.slots a i)) ∙ e

-- A MADE BLOCK IS PUT INTO
module _ {at i : ℕ} {s : Slot} {old new : Known} (t : Tree) (moves : Moves at i s old new) (tree : IsTree old t) (forest : IsForest old t) (made : t.Made at) (leads : (b : ℕ) → target s ≡ Local b → t.Within b ⊎ (t.Made b × ((a j : ℕ) → t.Made a → Points old a j b → ⊥))) where
  other : (a : ℕ) → t.Within a → a ≢ at
  other a w e = tree.apart at made (subst (λ y. t.Within y) e w)

  points_old : (a j b : ℕ) → a ≢ at → Points new a j b → Points old a j b
  points_old a j b ne e = ap target (sym (moves.others a j (inl ne))) ∙ e

  points_case : (a j b : ℕ) → Points new a j b → ((a ≡ at) × (j ≡ i) × (target s ≡ Local b)) ⊎ Points old a j b
  points_case a j b e = ⊎_elim
      (λ c. inl (c.0, c.1, ap target (sym moves.here) ∙ ap (λ y. target ((new.memory y).slot i)) (sym c.0) ∙ ap (λ n. target ((new.memory a).slot n)) (sym c.1) ∙ e))
      (λ ne. inr (ap target (sym (moves.others a j ne)) ∙ e))
      (cell at i a j)

  over_filled : (n a b : ℕ) → t.Within a → Over old t n a b → Over new t n a b
  over_filled zero a b w o = (o.0, ap target (moves.others a o.0 (inl (other a w))) ∙ o.1)
  over_filled (suc n) a b w o = (o.0, o.1, o.2, ap target (moves.others o.0 0 (inl (other o.0 o.1))) ∙ o.3, over_filled n a o.0 w o.4)

  pub filled_tree : IsTree new t
  filled_tree = record {
    one = λ a c j l b wa wc ea ec. tree.one a c j l b wa wc (points_old a j b (other a wa) ea) (points_old c l b (other c wc) ec);
    closed = λ a j b w e. tree.closed a j b w (points_old a j b (other a w) e);
    older = λ a j b w e q. tree.older a j b w (points_old a j b (other a w) e) q;
    apart = tree.apart;
    gone = tree.gone;
  }

  pub filled_forest : IsForest new t
  filled_forest = record {
    leads = λ a j b m e. ⊎_elim (λ n. ⊎_elim (λ w. inl w) (λ y. inr y.0) (leads b n.2)) (λ o. forest.leads a j b m o) (points_case a j b e);
    one = λ a c j l b ma mc mb ea ec. ⊎_elim
        (λ n. ⊎_elim
        (λ k. (n.0 ∙ sym k.0, n.1 ∙ sym k.1))
        (λ o. ⊎_elim (λ w. absurd (tree.apart b mb w)) (λ y. absurd (y.1 c l mc o)) (leads b n.2))
        (points_case c l b ec))
        (λ o. ⊎_elim
        (λ k. ⊎_elim (λ w. absurd (tree.apart b mb w)) (λ y. absurd (y.1 a j ma o)) (leads b k.2))
        (λ q. forest.one a c j l b ma mc mb o q)
        (points_case c l b ec))
        (points_case a j b ea);
    young = forest.young;
    uncovered = forest.uncovered;
  }

  pub filled_parents : Parents old t → Parents new t
  filled_parents h =
      let takes : Takes at i s old new t t = record {
        moves = moves;
        holder = inr made;
        was = λ b w. inl w;
        left = λ n a b w o v. inl w;
        made = λ b m. m;
        linked = λ b m. inr m;
        covered = λ b c. c;
        carried = λ n a b w _ _ _ o older. record { within = w; levels = n; over = over_filled n a b w o; older = older };
      } in
      parents_taken takes tree filled_tree h

-- A BLOCK IS GIVEN OUT
module _ {at : ℕ} {c : Content} {p : Place} {old new : Known} (t : Tree) (g : Gives at c p old new) (outside : t.Within at → ⊥) (unmade : t.Made at → ⊥) (inside : (j b : ℕ) → target (c.slot j) ≡ Local b → t.Within b) where
  other_within : (a : ℕ) → t.Within a → a ≢ at
  other_within a w e = outside (subst (λ y. t.Within y) e w)

  other_made : (a : ℕ) → t.Made a → a ≢ at
  other_made a m e = unmade (subst (λ y. t.Made y) e m)

  over_given : (n a b : ℕ) → t.Within a → Over old t n a b → Over new (making t at) n a b
  over_given zero a b w o = (o.0, ap target ((g.memory.others a (other_within a w)).slots o.0) ∙ o.1)
  over_given (suc n) a b w o = (o.0, o.1, o.2, ap target ((g.memory.others o.0 (other_within o.0 o.1)).slots 0) ∙ o.3, over_given n a o.0 w o.4)

  pub give_parents : Parents old t → Parents new (making t at)
  give_parents h = record {
    tree = λ a j b x q st may e w. ⊎_elim
        (λ was. ⊎_elim
        (λ k. inl (record { within = k.within; levels = k.levels; over = over_given k.levels a b k.within k.over; older = k.older }))
        (λ r. inr (⊎_elim (λ y. inl y) (λ m. inr (inl m)) r))
        (h.tree a j b x q was (Rattle.fo_cells.proofs.Giving.may_there g a j x (Rattle.fo_cells.proofs.Giving.stood g a q was) may) e w))
        (λ n. inr (inr (inr n.0)))
        (Rattle.fo_cells.proofs.Giving.stands_new g a q st);
    made = λ a j b x q st may e is. ⊎_elim
        (λ was.
        let m = Rattle.fo_cells.proofs.Giving.may_there g a j x (Rattle.fo_cells.proofs.Giving.stood g a q was) may in ⊎_elim
        (λ mb. inl (h.made a j b x q was m e mb))
        (λ here. absurd (g.nowhere (place_below q j x) (subst (λ y. Stands old y (place_below q j x)) here (stands_below j x b was m e))))
        is)
        (λ n. inr n.0)
        (Rattle.fo_cells.proofs.Giving.stands_new g a q st);
    unwritten = λ a is. ⊎_elim
        (λ m. let was = h.unwritten a m in
        let ne = other_made a m in record {
          newborn = g.newborn a ne ∙ was.newborn;
          late = λ d k. was.late d (subst (λ (xs : List Content). Contains xs d) (g.late a ne) k);
          clears = λ j leaf k. was.clears j leaf (g.clears a j leaf k).0;
        })
        (λ e. record {
          newborn = subst (λ y. new.newborn y ≡ true) (sym e) g.born;
          late = λ d k. g.unwritten d (subst (λ y. Contains (new.late y) d) e k);
          clears = λ j leaf k. (g.clears a j leaf k).1 e;
        })
        is;
  }

  pub give_tree : IsTree old t → IsTree new (making t at)
  give_tree tree = record {
    one = λ a d j l b wa wd ea ed. tree.one a d j l b wa wd (back a j b (other_within a wa) ea) (back d l b (other_within d wd) ed);
    closed = λ a j b w e. tree.closed a j b w (back a j b (other_within a w) e);
    older = λ a j b w e q. tree.older a j b w (back a j b (other_within a w) e) q;
    apart = λ a m w. ⊎_elim (λ y. tree.apart a y w) (λ e. other_within a w e) m;
    gone = tree.gone;
  }
    where
      back : (a j b : ℕ) → a ≢ at → Points new a j b → Points old a j b
      back a j b ne e = ap target (sym ((g.memory.others a ne).slots j)) ∙ e

  pub give_forest : (t.Older at → ⊥) → (t.Covered at → ⊥) → IsTree old t → IsForest old t → IsForest new (making t at)
  give_forest young uncovered tree f = record {
    leads = λ a j b m e. ⊎_elim
        (λ y. ⊎_elim (λ w. inl w) (λ k. inr (inl k)) (f.leads a j b y (back a j b (other_made a y) e)))
        (λ n. inl (inside j b (here a j b n e)))
        m;
    one = λ a d j l b ma md mb ea ed. ⊎_elim
        (λ x. ⊎_elim
        (λ y. ⊎_elim
        (λ k. f.one a d j l b x y k (back a j b (other_made a x) ea) (back d l b (other_made d y) ed))
        (λ n. absurd (led a j b x n (back a j b (other_made a x) ea)))
        mb)
        (λ n. absurd (not_made b mb (inside l b (here d l b n ed))))
        md)
        (λ n. absurd (not_made b mb (inside j b (here a j b n ea))))
        ma;
    young = λ a m q. ⊎_elim (λ y. f.young a y q) (λ e. young (subst (λ z. t.Older z) e q)) m;
    uncovered = λ a m q. ⊎_elim (λ y. f.uncovered a y q) (λ e. uncovered (subst (λ z. t.Covered z) e q)) m;
  }
    where
      back : (a j b : ℕ) → a ≢ at → Points new a j b → Points old a j b
      back a j b ne e = ap target (sym ((g.memory.others a ne).slots j)) ∙ e

      here : (a j b : ℕ) → a ≡ at → Points new a j b → target (c.slot j) ≡ Local b
      here a j b e q = ap target (sym (g.memory.here.slots j)) ∙ ap (λ y. target ((new.memory y).slot j)) (sym e) ∙ q

      not_made : (b : ℕ) → t.Made b ⊎ (b ≡ at) → t.Within b → ⊥
      not_made b m w = ⊎_elim (λ y. tree.apart b y w) (λ e. other_within b w e) m

      led : (a j b : ℕ) → t.Made a → b ≡ at → Points old a j b → ⊥
      led a j b m e q = ⊎_elim (λ w. other_within b w e) (λ k. other_made b k e) (f.leads a j b m q)

  -- removals stay behind
  pub behind_given : (queue all : List Pending) (earlier : List ℕ) → ((b : ℕ) → IsCovered queue b → IsCovered all b) → ((b : ℕ) → IsCovered all b → t.Within b ⊎ (b ≡ at) → ⊥) → AreBehind old earlier queue → AreBehind new earlier queue
  behind_given [] all earlier sub out h = tt
  behind_given (r ∷ rs) all earlier sub out h = (
    record {
      only = λ a j b x q st may e is. ⊎_elim
          (λ was. h.0.only a j b x q was (Rattle.fo_cells.proofs.Giving.may_there g a j x (Rattle.fo_cells.proofs.Giving.stood g a q was) may) e is)
          (λ n. absurd (out b (sub b (inl is)) (inl (inside j b (ap target (sym (Rattle.fo_cells.proofs.Giving.may_here g j x (subst (λ y. MaySlot new y j x) n.0 may))) ∙ e)))))
          (Rattle.fo_cells.proofs.Giving.stands_new g a q st);
      away = λ j b e is. ⊎_elim
          (λ n. out b (sub b (inl is)) (inl (inside j b (ap target (sym (g.memory.here.slots j)) ∙ ap (λ y. target ((new.memory y).slot j)) (sym n) ∙ e))))
          (λ ne. h.0.away j b (ap target (sym ((g.memory.others r.after ne).slots j)) ∙ e) is)
          (cases_eq r.after at);
      tops = λ x k is. ⊎_elim (λ was. h.0.tops x was is) (λ n. out x.at (sub x.at (inl is)) (inr n.0)) (g.tops x k);
    },
    behind_given rs all (earlier ++ r.blocks) (λ b k. sub b (inr k)) out h.1,
  )

-- FEWER TOPS
pub view_stands : (k : Known) (ts : List Top) → ((x : Top) → Contains ts x → Contains k.tops x) → (b : ℕ) (q : Place) → Stands (view k ts) b q → Stands k b q
view_stands k ts sub = stands_by (λ x h. stands_top x (sub x h)) (λ a i s p b st may e. stands_below i s b st may e)

pub view_kept : (k : Known) (ts : List Top) → ((x : Top) → Contains ts x → Contains k.tops x) → IsKept k → IsKept (view k ts)
view_kept k ts sub kept = record {
  one = λ b p q h l. kept.one b p q (view_stands k ts sub b p h) (view_stands k ts sub b q l);
  falls = λ a i b s p st may e. kept.falls a i b s p (view_stands k ts sub a p st) may e;
  labelled = λ b p ne st. kept.labelled b p ne (view_stands k ts sub b p st);
  named = λ a i b c p st h e. let n = kept.named a i b c p (view_stands k ts sub a p st) h e in (n.0, record { settled = n.1.settled; labels = n.1.labels });
}

-- A SLOT BEGINS TO WAIT
cleared_leads : (s : Slot) (b : ℕ) → target (cleared s) ≡ Local b → ⊥
cleared_leads (To p) b e = absurd (cc)
cleared_leads (Head x) b e = absurd (cc)
cleared_leads (Prev epoch at) b e = absurd (cc)

pub await_stays : {at i leaf : ℕ} {old new : Known} (t : Tree) → Awaits at i leaf old new → (t.Made at → ⊥) → Stays old new t
await_stays {at} {i} {leaf} {old} {new} t w linked = record {
  slots = λ a j. ap (λ (m : Image). (m a).slot j) w.same.memory;
  stands = stands_by (λ x h. stands_top x (subst (λ (ts : List Top). Contains ts x) w.same.tops h)) (λ a j s p b st may e. stands_below j s b st (back a j b s may e) e);
  may = back;
  unwritten = λ a is m. record {
    newborn = at_b a w.device.newborn ∙ m.newborn;
    late = λ c k. m.late c (subst (λ (xs : List Content). Contains xs c) (at_b a w.device.late) k);
    clears = λ j l k. ⊎_elim (λ was. m.clears j l was) (λ n. linked (subst (λ y. t.Made y) n.0 is)) (w.clears a j l k);
  };
  tops = λ y k. subst (λ (ts : List Top). Contains ts y) w.same.tops k;
}
  where
    back : (a j b : ℕ) (s : Slot) → MaySlot new a j s → target s ≡ Local b → MaySlot old a j s
    back a j b s may e = ⊎_elim
        (λ has. inl (record { content = has.content; among = subst (λ (cs : List Content). Contains cs has.content) (same_seen old new w.same.memory w.device.newborn w.device.late w.device.versions a) has.among; is = has.is }))
        (λ x. inr (⊎_elim
        (λ is. inl (is ∙ ap (λ (m : Image). (m a).slot j) w.same.memory))
        (λ c. absurd (cleared_leads ((new.memory a).slot j) b (ap target (sym c.2) ∙ e)))
        x))
        may

-- OTHER BYTES
pub bytes_stays : {at : ℕ} {bytes : List ℕ} {old new : Known} (t : Tree) → PutsInto at bytes old new → Stays old new t
bytes_stays {at} {bytes} {old} {new} t u = record {
  slots = u.memory.slots;
  stands = stands_by (λ x h. stands_top x (subst (λ (ts : List Top). Contains ts x) u.tops h)) (λ a j s p b st may e. stands_below j s b st (may_bytes u a j s may) e);
  may = λ a j b s may e. may_bytes u a j s may;
  unwritten = λ a is m. record {
    newborn = at_b a u.device.newborn ∙ m.newborn;
    late = λ c k. m.late c (subst (λ (xs : List Content). Contains xs c) (at_b a u.device.late) k);
    clears = λ j l k. m.clears j l (subst (λ (cs : List Clear). IsClear cs a j l) u.clears k);
  };
  tops = λ y k. subst (λ (ts : List Top). Contains ts y) u.tops k;
}

-- MORE WAITS
pub more_stays : {old new : Known} (t : Tree) → WaitsMore old new → Stays old new t
more_stays {old} {new} t w = fewer_stays t (more_fewer w) w.same.tops (λ a is m. record {
  newborn = at_b a w.device.newborn ∙ m.newborn;
  late = λ c k. m.late c (subst (λ (xs : List Content). Contains xs c) (at_b a w.device.late) k);
  clears = λ j leaf k. m.clears j leaf (subst (λ (cs : List Clear). IsClear cs a j leaf) w.clears k);
})

-- A SUPER BLOCK IS TRIED whose slots lead where those of memory lead, as for a new limit of file numbers
pub number_stays : {d : Content} {old new : Known} (t : Tree) → TriesSuper d old new → ((i : ℕ) → d.slot i ≡ (old.memory 1).slot i) → Stays old new t
number_stays {d} {old} {new} t w same = record {
  slots = λ a j. ⊎_elim
      (λ e. subst (λ y. (new.memory y).slot j ≡ (old.memory y).slot j) (sym e) (ap (λ (c : Content). c.slot j) w.here))
      (λ ne. ap (λ (c : Content). c.slot j) (w.same.memory a ne))
      (cases_eq a 1);
  stands = super_stands w;
  may = λ a j b s may e. ⊎_elim
      (λ was. was)
      (λ n. inr (inl (n.1 ∙ same j ∙ ap (λ y. (old.memory y).slot j) (sym n.0))))
      (may_tried w a j s may);
  unwritten = λ a is m. record {
    newborn = at_b a w.same.newborn ∙ m.newborn;
    late = λ c k. m.late c (subst (λ (xs : List Content). Contains xs c) (at_b a w.same.late) k);
    clears = λ j leaf k. m.clears j leaf (subst (λ (cs : List Clear). IsClear cs a j leaf) w.same.clears k);
  };
  tops = λ y k. subst (λ (ts : List Top). Contains ts y) w.same.tops k;
}
