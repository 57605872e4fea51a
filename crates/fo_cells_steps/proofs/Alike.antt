-- A slot changes and leads where it led.
use Rattle.std.proofs.Common.{◌≡◌, ◌⊎◌, inl, ⊎_elim, ℕ, Bool, List, [], ◌∷◌, ◌++◌, refl, sym, ◌∙◌, ap, subst}
use Rattle.fo_disk.specs.Disk.{Content as Holds}
use Rattle.fo_image.specs.declared.types.Pointer.TheVariants.{Local}
use Rattle.fo_crash.specs.declared.slot.Slot.{Slot}
use Rattle.fo_crash.specs.Images.{Image, Reaches, target}
use Rattle.fo_crash.proofs.Reach.{reaches_on}
use Rattle.fo_cells.specs.Known.{Known}
use Rattle.fo_cells.specs.Safe.{KeepsSafe}
use Rattle.fo_cells.specs.Device.{known}
use Rattle.fo_cells.proofs.Standing.{at_b}
use Rattle.fo_cells_out.specs.Removals.{Pending}
use Rattle.fo_cells_out.specs.Parents.{Tree, Points, Moves, IsDivided, view}
use Rattle.fo_cells_out.specs.Origins.{Origins}
use Rattle.fo_cells_out.proofs.Takeout.{cell}
use Rattle.fo_cells_out.proofs.Shapes.{same_divided}
use Rattle.fo_cells_out.proofs.Asked.{walk_keeps}
use Rattle.fo_cells_all.specs.of_cells_held.Room.{Used}
use Rattle.fo_cells_all.specs.of_cells_epochs.Epochs.{KeepsTrees}
use Rattle.fo_cells_all.specs.of_cells_queue.Queue.{past_blocks}
use Rattle.fo_cells_all.proofs.of_cells_queue.Queue.{moves_view}
use Rattle.fo_cells_all.specs.All.{Kept, Format}
use Rattle.fo_cells_steps.specs.Division.{SameTree, HoldsMade, division}
use Rattle.fo_cells_steps.specs.Calls.{SameEpoch, KeepsTops, Beside}
use Rattle.fo_cells_steps.proofs.Same.{origins_alike}
use Rattle.fo_cells_steps.proofs.Still.{older_on, older_off, pointers_on, pointers_off}
use Rattle.fo_cells_steps.proofs.Moving.{moved_made, listed_in, listed_from}
use Rattle.fo_cells_steps.proofs.Taking.{itself}

-- where slots lead as they led, the same is reached
pub reaches_alike : (x y : Image) → ((a j b : ℕ) → target ((x a).slot j) ≡ Local b → target ((y a).slot j) ≡ Local b) → (s : Slot) (b : ℕ) → Reaches x s b → Reaches y s b
reaches_alike x y on s b r = walk_keeps x (λ a. Reaches y s a) (λ a j z q e. reaches_on j q (on a j z e)) r.path s b (λ a e. record { path = []; leads = e }) r.leads

pub none_more : (queue : List Pending) → queue ≡ queue ++ []
none_more [] = refl
none_more (r ∷ rs) = ap (λ (qs : List Pending). r ∷ qs) (none_more rs)

module _ {c d : Kept} {f : Format} {u : Used} {Made : ℕ → Type 0} {h : Origins} {unsure : List Bool} {holds : Holds} {at i : ℕ} {s : Slot} (all : HoldsMade c f Made h unsure holds) (b : Beside c d f u holds) (epoch : SameEpoch c d) (queue : d.queue ≡ c.queue ++ []) (tops : KeepsTops c d Made h.Apart) (holder : (division c Made).Within at ⊎ Made at) (there : (b : ℕ) → target s ≡ Local b → target ((c.mind.memory at).slot i) ≡ Local b) (back : (b : ℕ) → target ((c.mind.memory at).slot i) ≡ Local b → target s ≡ Local b) (moves : Moves at i s (known c.mind holds) (known d.mind holds)) (safe : KeepsSafe (known c.mind holds) (known d.mind holds) c.high) (trees : KeepsTrees (known c.mind holds) (known d.mind holds) c.active d.active c.roots) (labels : d.mind.label ≡ c.mind.label) where
  abbrev T : Tree
  T = division c Made

  abbrev U : Tree
  U = division d Made

  abbrev V : Known
  V = view (known c.mind holds) c.active

  abbrev W : Known
  W = view (known d.mind holds) d.active

  on : (a j z : ℕ) → Points V a j z → Points W a j z
  on a j z e = ⊎_elim
      (λ q. ap (λ y. target ((d.mind.memory y).slot j)) q.0 ∙ ap (λ m. target ((d.mind.memory at).slot m)) q.1 ∙ ap target moves.here ∙ back z (ap (λ y. target ((c.mind.memory y).slot i)) (sym q.0) ∙ ap (λ m. target ((c.mind.memory a).slot m)) (sym q.1) ∙ e))
      (λ ne. ap target (moves.others a j ne) ∙ e)
      (cell at i a j)

  off : (a j z : ℕ) → Points W a j z → Points V a j z
  off a j z e = ⊎_elim
      (λ q. ap (λ y. target ((c.mind.memory y).slot j)) q.0 ∙ ap (λ m. target ((c.mind.memory at).slot m)) q.1 ∙ there z (ap target (sym moves.here) ∙ ap (λ y. target ((d.mind.memory y).slot i)) (sym q.0) ∙ ap (λ m. target ((d.mind.memory a).slot m)) (sym q.1) ∙ e))
      (λ ne. ap target (sym (moves.others a j ne)) ∙ e)
      (cell at i a j)

  same_label : (a : ℕ) → d.mind.label a ≡ c.mind.label a
  same_label a = at_b a labels

  pub alike_same : SameTree T U
  alike_same = record {
    within = λ a w. reaches_alike c.mind.memory d.mind.memory on (Rattle.fo_crash.specs.Images.to_block 1) a w;
    within_back = λ a w. reaches_alike d.mind.memory c.mind.memory off (Rattle.fo_crash.specs.Images.to_block 1) a w;
    made = λ a m. m;
    made_back = λ a m. m;
    covered = λ a is. listed_from {c = c} {d = d} [] epoch queue a (inl is);
    covered_back = λ a is. ⊎_elim (λ old. old) (λ none. absurd none) (listed_in {c = c} {d = d} [] epoch queue a is);
    older = λ a is q. older_on epoch Made Made a (same_label a) q;
    older_back = λ a is q. older_off epoch Made Made a (same_label a) q;
    pointers = λ a is q. pointers_on epoch Made Made a (same_label a) q;
    pointers_back = λ a is q. pointers_off epoch Made Made a (same_label a) q;
  }

  uncovered : (z : ℕ) → target s ≡ Local z → T.Covered z → ⊥
  uncovered z e is = ⊎_elim
      (λ w. all.all.queue.now.tree.gone z is (all.all.queue.now.tree.closed at i z w (there z e)))
      (λ m. ⊎_elim
      (λ w. all.all.queue.now.tree.gone z is w)
      (λ made. all.all.queue.now.forest.uncovered z made is)
      (all.all.queue.now.forest.leads at i z m (there z e)))
      holder

  pub alike_made : HoldsMade d f Made h unsure holds
  alike_made = moved_made [] epoch queue b safe trees (record {
    moves = moves;
    label = labels;
    uncovered = uncovered;
    now = subst (λ (qs : List Pending). IsDivided W T (past_blocks c.past) qs) (none_more c.queue) (same_divided (record { moves = moves_view moves trees; holder = holder; there = there; back = back }) (past_blocks c.past) c.queue all.all.queue.now);
    reached = λ a w. alike_same.within a w;
    made = λ a m. m;
    inside = λ a none. absurd none;
    once = tt;
  }) alike_same (origins_alike V W on off (itself T) all.origins) tops (λ a q. q) all
