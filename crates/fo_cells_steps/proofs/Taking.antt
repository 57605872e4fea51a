-- A slot of the tree is cleared: all that hung from it leaves, and is queued.
use Rattle.std.proofs.Common.{◌≡◌, ◌≢◌, ◌⊎◌, inl, inr, ⊎_elim, ℕ, Bool, List, [], ◌∷◌, sym, ◌∙◌, ap, subst, arith}
use Rattle.std.specs.List.{Contains}
use Rattle.fo_disk.specs.Disk.{Content as Holds}
use Rattle.fo_image.specs.declared.types.Pointer.TheVariants.{Local}
use Rattle.fo_crash.specs.declared.slot.Slot.{Slot}
use Rattle.fo_crash.specs.Images.{Reaches, target, to_block}
use Rattle.fo_crash.proofs.Reach.{lost, reaches_on, reaches_from, reaches_joins}
use Rattle.fo_cells.specs.Known.{Known, Top}
use Rattle.fo_cells.specs.Safe.{KeepsSafe}
use Rattle.fo_cells.specs.Device.{known}
use Rattle.fo_cells.proofs.Standing.{at_b}
use Rattle.fo_cells_out.specs.Parents.{Tree, Points, IsTree, Moves, Removes, view}
use Rattle.fo_cells_out.specs.Origins.{Origins}
use Rattle.fo_cells_out.proofs.Takeout.{same_block, cell}
use Rattle.fo_cells_out.proofs.Queue.{nothing_among}
use Rattle.fo_cells_out.proofs.Dividing.{removed_divided}
use Rattle.fo_cells_out.proofs.Asked.{walk_keeps, cleared_free, removed_origins}
use Rattle.fo_cells_all.specs.of_cells_held.Room.{Used}
use Rattle.fo_cells_all.specs.of_cells_epochs.Epochs.{KeepsTrees}
use Rattle.fo_cells_all.specs.of_cells_queue.Queue.{past_blocks}
use Rattle.fo_cells_all.proofs.of_cells_queue.Queue.{moves_view, once_both}
use Rattle.fo_cells_all.specs.All.{Kept, Format}
use Rattle.fo_cells_steps.specs.Division.{SameTree, HoldsMade, division}
use Rattle.fo_cells_steps.specs.Calls.{KeepsTops, Beside}
use Rattle.fo_cells_steps.specs.Taking.{TakesOut, InTree}
use Rattle.fo_cells_steps.proofs.Still.{older_on, older_off, pointers_on, pointers_off}
use Rattle.fo_cells_steps.proofs.Paths.{last_step, last_use, still_there}
use Rattle.fo_cells_steps.proofs.Facts.{unled}
use Rattle.fo_cells_steps.proofs.Moving.{moved_made, listed_in, listed_from}

-- the same division
pub itself : (t : Tree) → SameTree t t
itself t = record {
  within = λ b w. w;
  within_back = λ b w. w;
  made = λ b m. m;
  made_back = λ b m. m;
  covered = λ b c. c;
  covered_back = λ b c. c;
  older = λ b is q. q;
  older_back = λ b is q. q;
  pointers = λ b is q. q;
  pointers_back = λ b is q. q;
}

-- the tops stay
pub tops_stay : {c d : Kept} {f : Format} {Made : ℕ → Type 0} {h : Origins} {unsure : List Bool} {holds : Holds} (Apart : ℕ → Type 0) → d.active ≡ c.active → KeepsTrees (known c.mind holds) (known d.mind holds) c.active d.active c.roots → HoldsMade c f Made h unsure holds → KeepsTops c d Made Apart
tops_stay {c = c} {d = d} Apart same trees all = record {
  fewer = trees.fewer;
  made = λ y is. all.tops y (subst (λ (ts : List Top). Contains ts y) same is);
  apart = λ y is a. subst (λ (ts : List Top). Contains ts y) (sym same) is;
}

module _ {c d : Kept} {f : Format} {u : Used} {Made : ℕ → Type 0} {h : Origins} {unsure : List Bool} {holds : Holds} {at i x : ℕ} {s : Slot} {blocks : List ℕ} (all : HoldsMade c f Made h unsure holds) (b : Beside c d f u holds) (step : InTree at c d (record { blocks = blocks; after = at } ∷ [])) (out : TakesOut at i c h x blocks) (moves : Moves at i s (known c.mind holds) (known d.mind holds)) (nowhere : (b : ℕ) → target s ≡ Local b → ⊥) (safe : KeepsSafe (known c.mind holds) (known d.mind holds) c.high) (trees : KeepsTrees (known c.mind holds) (known d.mind holds) c.active d.active c.roots) (labels : d.mind.label ≡ c.mind.label) where
  abbrev T : Tree
  T = division c Made

  abbrev U : Tree
  U = division d Made

  abbrev V : Known
  V = view (known c.mind holds) c.active

  abbrev W : Known
  W = view (known d.mind holds) d.active

  abbrev Leaves : ℕ → Type 0
  Leaves b = Reaches c.mind.memory ((c.mind.memory at).slot i) b

  tree : IsTree V T
  tree = all.all.queue.now.tree

  same_label : (b : ℕ) → d.mind.label b ≡ c.mind.label b
  same_label b = at_b b labels

  back : (a j : ℕ) → (a ≢ at) ⊎ (j ≢ i) → (c.mind.memory a).slot j ≡ (d.mind.memory a).slot j
  back a j ne = sym (moves.others a j ne)

  points_old : (a j b : ℕ) → Points W a j b → Points V a j b
  points_old a j b e = ⊎_elim
      (λ q. absurd (nowhere b (ap target (sym moves.here) ∙ ap (λ y. target ((d.mind.memory y).slot i)) (sym q.0) ∙ ap (λ m. target ((d.mind.memory a).slot m)) (sym q.1) ∙ e)))
      (λ ne. ap target (back a j ne) ∙ e)
      (cell at i a j)

  -- a path of now from the cleared slot leads nowhere
  no_path : (b : ℕ) → Reaches c.mind.memory ((d.mind.memory at).slot i) b → ⊥
  no_path b r = lost c.mind.memory r.path ((d.mind.memory at).slot i) (λ z e. nowhere z (ap target (sym moves.here) ∙ e)) b r.leads

  was : {v : Slot} {b : ℕ} → Reaches d.mind.memory v b → Reaches c.mind.memory v b
  was {v} {b} r = ⊎_elim (λ now. now) (λ none. absurd (no_path b none)) (last_use d.mind.memory c.mind.memory at i back r)

  inside : (b : ℕ) → Leaves b → T.Within b
  inside b l = reaches_joins step.within (reaches_from i l)

  only : (b : ℕ) → Leaves b → (b ≡ x) ⊎ ((a : ℕ) × (j : ℕ) × Leaves a × Points V a j b)
  only b l = ⊎_elim (λ e. inl (same_block e out.leads)) (λ p. inr (p.from, p.slot, p.reached, p.leads)) (last_step l)

  -- block 1 stays, and so does what hangs from what stays
  one_stays : Leaves 1 → ⊥
  one_stays l = ⊎_elim (λ e. unled all at i step.within e) (λ p. unled all p.from p.slot (inside p.from p.reached) p.leads) (last_step l)

  abbrev Stands_on : ℕ → Type 0
  Stands_on a = T.Within a × (Leaves a → ⊥)

  next_stays : (a j b : ℕ) → Stands_on a → Points W a j b → Stands_on b
  next_stays a j b q e =
      let e_old = points_old a j b e in (
        reaches_on j q.0 e_old,
        λ l. ⊎_elim
            (λ is.
            let k = tree.one a at j i x q.0 step.within (subst (λ z. Points V a j z) is e_old) out.leads in
            nowhere b (ap target (sym moves.here) ∙ ap (λ y. target ((d.mind.memory y).slot i)) (sym k.0) ∙ ap (λ m. target ((d.mind.memory a).slot m)) (sym k.1) ∙ e))
            (λ p. q.1 (subst (λ z. Leaves z) (tree.one p.0 a p.1 j b (inside p.0 p.2) q.0 p.3 e_old).0 p.2))
            (only b l),
      )

  away : (b : ℕ) → U.Within b → Leaves b → ⊥
  away b w = (walk_keeps d.mind.memory Stands_on next_stays w.path (to_block 1) b (λ a e. let is : 1 ≡ a = cc in (record { path = []; leads = e }, λ l. one_stays (subst (λ z. Leaves z) (sym is) l))) w.leads).1

  covered : (b : ℕ) → U.Covered b → T.Covered b ⊎ Contains blocks b
  covered b is = ⊎_elim (λ old. inl old) (λ own. inr (⊎_elim (λ y. y) (λ none. absurd none) own)) (listed_in {c = c} {d = d} (record { blocks = blocks; after = at } ∷ []) step.epoch step.queue b is)

  current : T.Older at → ⊥
  current q = let lt = q.2 in let e : (c.mind.label at).epoch ≡ c.high = step.current in omega (arith, lt, e)

  removes : Removes at i s V W T U x Leaves blocks
  removes = record {
    moves = moves_view moves trees;
    nowhere = nowhere;
    head = record { within = step.within; points = out.leads; head = out.first };
    stays = still_there c.mind.memory d.mind.memory at i moves.others step.within;
    first = record { path = []; leads = out.leads };
    next = λ a j b l e. reaches_on j l e;
    only = only;
    inside = inside;
    parts = λ b w. ⊎_elim (λ now. inl now) (λ l. inr (was l)) (last_use c.mind.memory d.mind.memory at i moves.others w);
    away = away;
    within = λ b w. was w;
    whole = record { only = out.only; inside = λ b is. inside b (out.below b is) };
    leaves = out.below;
    covered = covered;
    cover = λ b is. listed_from {c = c} {d = d} (record { blocks = blocks; after = at } ∷ []) step.epoch step.queue b (⊎_elim (λ old. inl old) (λ own. inr (inl own)) is);
    pointers = λ b q. pointers_on step.epoch Made Made b (same_label b) q;
    older = λ b q. older_off step.epoch Made Made b (same_label b) q;
    still = λ b q. older_on step.epoch Made Made b (same_label b) q;
    made = λ b m. m;
    made_still = λ b m. m;
    free = λ a j b m e l. cleared_free at i x Leaves tree all.origins step.within current out.leads only inside out.alone a j b m e l;
    tops = λ y is own. ⊎_elim
        (λ e. one_stays (subst (λ z. Leaves z) e (out.below y.at own)))
        (λ m. tree.apart y.at m (inside y.at (out.below y.at own)))
        (all.tops y is);
  }

  pub taken_made : HoldsMade d f Made h unsure holds
  taken_made = moved_made (record { blocks = blocks; after = at } ∷ []) step.epoch step.queue b safe trees (record {
    moves = moves;
    label = labels;
    uncovered = λ b e _. nowhere b e;
    now = removed_divided (past_blocks c.past) c.queue removes all.all.queue.now;
    reached = λ b w. w;
    made = λ b m. m;
    inside = λ b own. ⊎_elim (λ is. inside b (out.below b is)) (λ none. absurd none) own;
    once = once_both blocks [] out.once tt (λ z l r. nothing_among z r);
  }) (itself U) (removed_origins removes current (λ b q. pointers_off step.epoch Made Made b (same_label b) q) tree all.origins out.alone) (tops_stay {c = c} {d = d} h.Apart step.active trees all) (λ b a. a) all
