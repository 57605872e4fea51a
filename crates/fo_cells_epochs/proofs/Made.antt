-- The trees where a block is given out, and where one that was made gets its index.
use Rattle.std.proofs.Common.{◌≡◌, ◌≢◌, inl, inr, ⊎_elim, ℕ, ◌≤◌, cond, List, ◌∷◌, ◌++◌, map, sym, ◌∙◌, ap, subst}
use Rattle.std.proofs.lemmas.Bool.{cases_eq}
use Rattle.std.specs.List.{Contains}
use Rattle.fo_image.specs.declared.types.Label.{Label}
use Rattle.fo_image.specs.declared.types.State.TheVariants.{Live}
use Rattle.fo_image.specs.declared.types.Pointer.TheVariants.{Local}
use Rattle.fo_crash.specs.declared.place.Place.{Place}
use Rattle.fo_crash.specs.Images.{Content, target}
use Rattle.fo_crash.specs.Places.{place_below}
use Rattle.fo_cells.specs.Known.{Known, Top, Stands, written}
use Rattle.fo_cells.specs.Writes.{Gives}
use Rattle.fo_cells.specs.Calls.{Indexes}
use Rattle.fo_cells.specs.Safe.{super_top}
use Rattle.fo_cells.proofs.Standing.{at_b, stands_by, stands_top, stands_below, written_born, among_cases, next_among}
use Rattle.fo_cells.proofs.Giving.{may_there, stood, stands_new}
use Rattle.fo_cells.proofs.Settling.{same_written}
use Rattle.fo_cells.proofs.Indexing.{may_index, stands_index}
use Rattle.fo_cells_out.specs.Parents.{view}
use Rattle.fo_cells_epochs.specs.Epochs.{Root, root_top, tree_of, IsHeldAt, HasTrees, MovesTop}
use Rattle.fo_cells_epochs.proofs.Trees.{active_stands, tree_stands}

-- A BLOCK IS GIVEN OUT
abbrev pub made_top : ℕ → Place → Top
made_top at p = record { at = at; place = p }

module _ {at : ℕ} {c : Content} {p : Place} {old new : Known} {high : ℕ} {active : List Top} {roots : List Root} (g : Gives at c p old new) (h : HasTrees old high active roots) (fits : (i t : ℕ) → target (c.slot i) ≡ Local t → Stands (view old active) t (place_below p i (c.slot i))) where
  -- it is a top of the active trees
  pub given_view : Gives at c p (view old active) (view new (made_top at p ∷ active))
  given_view = record {
    nowhere = λ q st. g.nowhere q (active_stands h at q st);
    of_device = g.of_device;
    memory = g.memory;
    versions = g.versions;
    labels = g.labels;
    low = g.low;
    born = g.born;
    unwritten = g.unwritten;
    newborn = g.newborn;
    late = g.late;
    tops = λ t is. ⊎_elim (λ e. inr (ap (λ (x : Top). x.at) (sym e), ap (λ (x : Top). x.place) (sym e))) (λ more. inl more) (among_cases (made_top at p) active t is);
    label = g.label;
    label_here = g.label_here;
    waits = g.waits;
    clears = g.clears;
    since = g.since;
    fits = fits;
    falls = g.falls;
  }

  pub given_tree : (r : Root) → Contains roots r → (b : ℕ) (q : Place) → Stands (tree_of new r) b q → Stands (tree_of old r) b q
  given_tree r among = stands_by (λ t is. stands_top t is) (λ a i x q b st m e. stands_below i x b st (may_there g a i x (stood g a q (tree_stands h r among a q st)) m) e)

  written_there : (a : ℕ) → a ≢ at → written new a ≡ written old a
  written_there a ne =
      ap (λ v. cond v (new.late a) (new.versions a)) (g.newborn a ne)
      ∙ ap (λ (xs : List Content). cond (old.newborn a) xs (new.versions a)) (g.late a ne)
      ∙ ap (λ (xs : List Content). cond (old.newborn a) (old.late a) xs) (at_b a g.versions)

  pub give_trees : new.tops ≡ made_top at p ∷ active ++ map root_top roots → (new.label at).state ≡ Live → HasTrees new high (made_top at p ∷ active) roots
  give_trees tops live = record {
    tops = tops;
    top = next_among (made_top at p) super_top active h.top;
    kept = λ r among. (subst (λ n. n ≤ r.epoch) (sym g.low) (h.kept r among).0, (h.kept r among).1);
    late = λ r b q among st.
        let was = given_tree r among b q st in
        let l = h.late r b q among was in (
          l.0,
          subst (λ (x : Label). IsHeldAt r.epoch x) (sym (g.label b (stood g b q (tree_stands h r among b q was)))) l.1,
          λ x is. l.2 x (subst (λ (f : ℕ → List Label). Contains (f b) x) g.labels is),
        );
    live = λ b q ne st. ⊎_elim
        (λ was. ap (λ (x : Label). x.state) (g.label b (stood g b q (active_stands h b q was))) ∙ h.live b q ne was)
        (λ n. ap (λ y. (new.label y).state) n.0 ∙ live)
        (stands_new given_view b q st);
    named = λ a i t d q st w e l is. ⊎_elim
        (λ one. absurd (g.unwritten d (subst (λ (cs : List Content). Contains cs d) (written_born new at g.born) (subst (λ y. Contains (written new y) d) one w))))
        (λ ne. ⊎_elim
        (λ was. h.named a i t d q was (subst (λ (cs : List Content). Contains cs d) (written_there a ne) w) e l (subst (λ (f : ℕ → List Label). Contains (f t) l) g.labels is))
        (λ n. absurd (ne n.0))
        (stands_new given_view a q st))
        (cases_eq a at);
  }

-- A BLOCK THAT WAS MADE GETS ITS INDEX
module _ {at : ℕ} {q : Place} {old new : Known} {high : ℕ} {active after : List Top} {roots : List Root} (x : Indexes at q old new) (h : HasTrees old high active roots) (moves : MovesTop at q active after) (stood_at : (r : Place) × Stands (view old active) at r) where
  index_view : Indexes at q (view old active) (view new after)
  index_view = record {
    of_device = x.of_device;
    memory = x.memory;
    device = record { versions = x.device.versions; newborn = x.device.newborn; late = x.device.late; labels = x.device.labels };
    label = x.label;
    low = x.low;
    waits = x.waits;
    clears = x.clears;
    tops = moves.each;
    unled = λ a i s p st m e. x.unled a i s p (active_stands h a p st) m e;
    empty = x.empty;
    fits = x.fits;
  }

  index_tree : (r : Root) → Contains roots r → (b : ℕ) (p : Place) → Stands (tree_of new r) b p → Stands (tree_of old r) b p
  index_tree r among = stands_by (λ t is. stands_top t is) (λ a i s p b st m e. stands_below i s b st (may_index x a i s m) e)

  pub index_trees : new.tops ≡ after ++ map root_top roots → HasTrees new high after roots
  index_trees all = record {
    tops = all;
    top = moves.top;
    kept = λ r among. (subst (λ n. n ≤ r.epoch) (sym x.low) (h.kept r among).0, (h.kept r among).1);
    late = λ r b p among st.
        let l = h.late r b p among (index_tree r among b p st) in (
          l.0,
          subst (λ (y : Label). IsHeldAt r.epoch y) (sym (at_b b x.label)) l.1,
          λ y is. l.2 y (subst (λ (f : ℕ → List Label). Contains (f b) y) x.device.labels is),
        );
    live = λ b p ne st. ap (λ (y : Label). y.state) (at_b b x.label) ∙ ⊎_elim
        (λ was. h.live b p ne was.0)
        (λ n. h.live b stood_at.0 ne (subst (λ y. Stands (view old active) y stood_at.0) (sym n.0) stood_at.1))
        (stands_index index_view b p st);
    named = λ a i t d p st w e l is.
        let was_written : Contains (written old a) d = subst (λ (cs : List Content). Contains cs d) (same_written old new x.device.newborn x.device.late x.device.versions a) w in
        let there : (r : Place) × Stands (view old active) a r = ⊎_elim (λ was. (p, was.0)) (λ n. (stood_at.0, subst (λ y. Stands (view old active) y stood_at.0) (sym n.0) stood_at.1)) (stands_index index_view a p st) in
        h.named a i t d there.0 there.1 was_written e l (subst (λ (f : ℕ → List Label). Contains (f t) l) x.device.labels is);
  }
