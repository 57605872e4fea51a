-- A cache opens over a device that is settled: all holds.
use Rattle.std.proofs.Common.{◌≡◌, ◌≢◌, inl, inr, ⊎_elim, ℕ, Bool, List, [], ◌∷◌, ◌++◌, refl, sym, ◌∙◌, ap, subst, arith}
use Rattle.std.specs.List.{Contains}
use Rattle.fo_disk.specs.Disk.{Content as Holds}
use Rattle.fo_image.specs.declared.types.Pointer.TheVariants.{Local}
use Rattle.fo_crash.specs.declared.slot.Slot.{Slot}
use Rattle.fo_crash.specs.declared.place.Place.{Place}
use Rattle.fo_crash.specs.Images.{target}
use Rattle.fo_crash.specs.Places.{place_below}
use Rattle.fo_crash.proofs.Reach.{reaches_on}
use Rattle.fo_cells.specs.Known.{Known, Top, Leads, Stands}
use Rattle.fo_cells.specs.Safe.{super_top}
use Rattle.fo_cells.specs.Device.{known}
use Rattle.fo_cells_out.specs.Removals.{Pending}
use Rattle.fo_cells_out.specs.Parents.{Tree, IsTree, IsDivided, blocks_of, view}
use Rattle.fo_cells_out.proofs.Queue.{nothing_among}
use Rattle.fo_cells_out.proofs.Asked.{nothing_made}
use Rattle.fo_cells_epochs.proofs.Trees.{only_one}
use Rattle.fo_cells_steps.specs.of_cells_queue.Queue.{Queued, IsQueue, past_blocks}
use Rattle.fo_cells_steps.specs.of_cells_all.All.{Kept, Format}
use Rattle.fo_cells_steps.proofs.of_cells_all.All.{together}
use Rattle.fo_cells_steps.specs.Division.{HoldsMade, division}
use Rattle.fo_cells_steps.proofs.Facts.{tree_stands, never_led}
use Rattle.fo_cells_turns.specs.Opening.{Opens, none_made, no_origins}

module _ {c : Kept} {f : Format} {unsure : List Bool} {holds : Holds} (o : Opens c f unsure holds) where
  abbrev K : Known
  K = known c.mind holds

  abbrev T : Tree
  T = division c none_made

  -- what stands in the active trees hangs from block 1
  reached : (b : ℕ) (q : Place) → Stands (view K c.active) b q → T.Within b
  reached b q st = along st.path st.top.at st.top.place (record { path = []; leads = ap (λ (y : Top). Local y.at) (only_one super_top st.top (subst (λ (ts : List Top). Contains ts st.top) o.active st.is_top)) }) st.leads
    where
      along : (path : List (ℕ × Slot)) (a : ℕ) (p : Place) → T.Within a → Leads (view K c.active) path a p b q → T.Within b
      along [] a p w l = subst (λ z. T.Within z) l.0 w
      along ((i, s) ∷ path) a p w l = along path l.1.0 (place_below p i s) (reaches_on i w (ap target (sym (o.settled a i s l.0)) ∙ l.1.1)) l.1.2

  none_covered : (b : ℕ) → T.Covered b → ⊥
  none_covered b is = nothing_among b (subst (λ (qs : List Pending). Contains (blocks_of qs) b) o.queue (subst (λ (ps : List Queued). Contains (past_blocks ps ++ blocks_of c.queue) b) o.past is))

  one_tree : IsTree (view K c.active) T
  one_tree = record {
    one = λ a b i j z wa wb ea eb. o.one a b i j z wa wb ea eb;
    closed = λ a i b w e. reaches_on i w e;
    older = λ a i b w e q.
        let ne : b ≢ 1 = λ is. never_led o.epochs.safe.kept o.epochs.safe.top a i w (e ∙ ap (λ z. Local z) is) in
        let live = o.epochs.safe.live b ne (reaches_on i w e) in
        let st = tree_stands o.epochs.safe.kept o.epochs.safe.top a w in
        let le = o.epochs.safe.epochs a i b ((c.mind.memory a).slot i) st.0 q.0 st.1 (inr (inl refl)) e in
        let lt = q.2 in
        (ne, live.0, omega (arith, le, lt));
    apart = λ a m w. m;
    gone = λ a is w. none_covered a is;
  }

  divided : IsDivided (view K c.active) T [] []
  divided = record {
    tree = one_tree;
    forest = record { leads = λ a j b m e. absurd m; one = λ a b j l z ma mb mz ea eb. absurd ma; young = λ a m q. m; uncovered = λ a m q. m };
    parents = record {
      tree = λ a i b s p st may e w.
          let led : target ((c.mind.memory a).slot i) ≡ Local b = ap target (sym (o.settled a i s may)) ∙ e in
          inl (record { within = reached a p st; levels = 0; over = (i, led); older = λ q. refl });
      made = λ a i b s p st may e m. absurd m;
      unwritten = λ a m. absurd m;
    };
    behind = tt;
    listed = λ b is. absurd (none_covered b is);
    covered = λ b is. absurd (⊎_elim (λ none. nothing_among b none) (λ none. none) is);
  }

  queue : IsQueue K T c.high c.active c.roots [] []
  queue = record {
    now = divided;
    behind = tt;
    order = tt;
    before = λ r is. absurd (nothing_among r is);
    within = λ b w. w;
    once = tt;
    live = λ b is. absurd (⊎_elim (λ cov. none_covered b cov) (λ m. m) is);
    begun = λ r b is own. absurd (nothing_among r is);
  }

  pub open_made : HoldsMade c f none_made no_origins unsure holds
  open_made = record {
    all = together o.epochs (subst (λ (ps : List Queued). IsQueue K T c.high c.active c.roots ps c.queue) (sym o.past) (subst (λ (qs : List Pending). IsQueue K T c.high c.active c.roots [] qs) (sym o.queue) queue)) o.beside;
    origins = nothing_made (view K c.active) T (λ a m. m);
    tops = λ y is. inl (ap (λ (z : Top). z.at) (sym (only_one super_top y (subst (λ (ts : List Top). Contains ts y) o.active is))));
    apart = λ b none. absurd none;
  }
