-- Blocks come into the tree, are put into made blocks, and leave with levels that are lost.
use Rattle.std.proofs.Common.{◌≡◌, ◌⊎◌, inl, inr, ⊎_elim, ℕ, zero, suc, Bool, List, [], ◌∷◌, ◌++◌, sym, ◌∙◌, ap, subst}
use Rattle.fo_disk.specs.Disk.{Content as Holds}
use Rattle.fo_image.specs.declared.types.Pointer.TheVariants.{Local}
use Rattle.fo_crash.specs.declared.slot.Slot.{Slot}
use Rattle.fo_crash.specs.Images.{Image, Reaches, target, to_block}
use Rattle.fo_crash.proofs.Reach.{reaches_on}
use Rattle.fo_cells.specs.Known.{Known}
use Rattle.fo_cells.specs.Device.{known}
use Rattle.fo_cells.proofs.Standing.{at_b}
use Rattle.fo_cells_out.specs.Removals.{Pending, IsCovered}
use Rattle.fo_cells_out.specs.Parents.{Tree, Points, IsTree, IsForest, Moves, AllLeaving, IsDivided}
use Rattle.fo_cells_out.specs.Origins.{Origins, Under, LinkedBy, Fills, filled}
use Rattle.fo_cells_out.proofs.Takeout.{same_block}
use Rattle.fo_cells_out.proofs.Dividing.{filled_divided}
use Rattle.fo_cells_out.proofs.Origins.{filled_origins}
use Rattle.fo_cells_out.proofs.Asked.{walk_keeps}
use Rattle.fo_cells_held.specs.Room.{Used}
use Rattle.fo_cells_epochs.specs.Epochs.{KeepsTrees}
use Rattle.fo_cells_steps.specs.of_cells_queue.Queue.{past_blocks}
use Rattle.fo_cells_steps.proofs.of_cells_queue.Queue.{moves_view}
use Rattle.fo_cells_steps.specs.of_cells_all.All.{Kept, Format}
use Rattle.fo_cells_steps.specs.Division.{SameTree, HoldsMade, division}
use Rattle.fo_cells_steps.specs.Calls.{Beside}
use Rattle.fo_cells_puts.specs.Putting.{PutsOne, AddsThat, seen_from}
use Rattle.fo_cells_steps.proofs.Still.{older_on, older_off, pointers_on, pointers_off}
use Rattle.fo_cells_steps.proofs.Paths.{first_use, still_there}
use Rattle.fo_cells_steps.proofs.Moving.{moved_made, listed_in, listed_from}
use Rattle.fo_cells_steps.proofs.Alike.{none_more}
use Rattle.fo_cells_puts.proofs.Puts.{put_is_safe, put_is_moves, put_keeps_trees, put_adds_that}

-- what is reached is within, where block 1 is
pub reached_within : {image : Image} {k : Known} (u : Tree) → ((a j b : ℕ) → target ((image a).slot j) ≡ Local b → Points k a j b) → IsTree k u → u.Within 1 → (b : ℕ) → Reaches image (to_block 1) b → u.Within b
reached_within {image} {k} u on tree one b r = walk_keeps image (λ a. u.Within a) (λ a j z w e. tree.closed a j z w (on a j z e)) r.path (to_block 1) b (λ a e. let is : 1 ≡ a = cc in subst (λ z. u.Within z) is one) r.leads

pub all_inside : (s : Slot) (old new : Known) (t : Tree) (earlier : List ℕ) (rs : List Pending) → AllLeaving s old new t earlier rs → (b : ℕ) → IsCovered rs b → t.Within b
all_inside s old new t earlier [] l b c = absurd c
all_inside s old new t earlier (r ∷ rs) l b c = ⊎_elim (λ own. l.0.inside b own) (λ more. all_inside s old new t (earlier ++ r.blocks) rs l.1 b more) c

module _ {c : Kept} {f : Format} {Made : ℕ → Type 0} {h : Origins} {unsure : List Bool} {holds : Holds} (all : HoldsMade c f Made h unsure holds) where
  abbrev T : Tree
  T = division c Made

  abbrev V : Known
  V = seen_from c holds

  tree : IsTree V T
  tree = all.all.queue.now.tree

  forest : IsForest V T
  forest = all.all.queue.now.forest

  -- A MADE BLOCK IS PUT INTO
  module _ {d : Kept} {x : Used} {at i : ℕ} {s : Slot} {Raises : ℕ → Type 0} (p : PutsOne at i s c d Made (filled h at s Raises).Apart [] holds) (b : Beside c d f x holds) (fills : Fills at i s V T h Raises) where
    fill_put : (z : ℕ) → target s ≡ Local z → T.Within z ⊎ (T.Made z × ((a j : ℕ) → T.Made a → Points V a j z → ⊥))
    fill_put z e = ⊎_elim
        (λ q. ⊎_elim (λ r. inl r.0) (λ r. inr (all.origins.made z r.0, λ a j m l. all.origins.unhung z a j r.0 m l)) q)
        (λ q. ⊎_elim
        (λ r. inr (all.origins.made z r.0, λ a j m l. all.origins.unhung z a j r.0 m l))
        (λ r. ⊎_elim (λ w. inl w.0) (λ w. inr (all.origins.made z w.0, λ a j m l. all.origins.unhung z a j w.0 m l)) r.3)
        q)
        (fills.put z e)

    fill_trees : KeepsTrees (known c.mind holds) (known d.mind holds) c.active d.active c.roots
    fill_trees = put_keeps_trees p all (λ z e. ⊎_elim (λ w. inl w) (λ m. inr m.0) (fill_put z e))

    pub fill_moves : Moves at i s (known c.mind holds) (known d.mind holds)
    fill_moves = put_is_moves p all

    pub fill_same : SameTree T (division d Made)
    fill_same = record {
      within = λ a w. ⊎_elim (λ now. now) (λ both. absurd (out (still_there d.mind.memory c.mind.memory at i (λ a j ne. sym (fill_moves.others a j ne)) both.0))) (first_use c.mind.memory d.mind.memory at i fill_moves.others w);
      within_back = λ a w. ⊎_elim (λ now. now) (λ both. absurd (out both.0)) (first_use d.mind.memory c.mind.memory at i (λ a j ne. sym (fill_moves.others a j ne)) w);
      made = λ a m. m;
      made_back = λ a m. m;
      covered = λ a is. listed_from {c = c} {d = d} [] p.epoch p.queue a (inl is);
      covered_back = λ a is. ⊎_elim (λ old. old) (λ none. absurd none) (listed_in {c = c} {d = d} [] p.epoch p.queue a is);
      older = λ a is q. older_on p.epoch Made Made a (at_b a p.puts.label) q;
      older_back = λ a is q. older_off p.epoch Made Made a (at_b a p.puts.label) q;
      pointers = λ a is q. pointers_on p.epoch Made Made a (at_b a p.puts.label) q;
      pointers_back = λ a is q. pointers_off p.epoch Made Made a (at_b a p.puts.label) q;
    }
      where
        out : Reaches c.mind.memory (to_block 1) at → ⊥
        out w = tree.apart at fills.made w

    pub filled_made : AddsThat at i s c d holds × HoldsMade d f Made (filled h at s Raises) unsure holds
    filled_made = (
      put_adds_that p all,
      moved_made [] p.epoch p.queue b (put_is_safe p all) fill_trees (record {
        moves = fill_moves;
        label = p.puts.label;
        uncovered = λ z e is. ⊎_elim (λ w. tree.gone z is w) (λ m. forest.uncovered z m.0 is) (fill_put z e);
        now = subst (λ (qs : List Pending). IsDivided (seen_from d holds) T (past_blocks c.past) qs) (none_more c.queue) (filled_divided T (past_blocks c.past) c.queue (moves_view fill_moves fill_trees) fills.made fill_put all.all.queue.now);
        reached = λ a w. fill_same.within a w;
        made = λ a m. m;
        inside = λ a none. absurd none;
        once = tt;
      }) fill_same (filled_origins (moves_view fill_moves fill_trees) fills tree forest all.origins) p.keeps (λ a q. q.0) all,
    )

  -- WHAT COMES WITH y
  module _ {d : Kept} {at i : ℕ} {s : Slot} {y : ℕ} {After Apart : ℕ → Type 0} {rs : List Pending} (p : PutsOne at i s c d After Apart rs holds) (within : Reaches c.mind.memory (to_block 1) at) (put : target s ≡ Local y) (made : Made y) where
    pub come_moves : Moves at i s (known c.mind holds) (known d.mind holds)
    come_moves = put_is_moves p all

    pub come_trees : KeepsTrees (known c.mind holds) (known d.mind holds) c.active d.active c.roots
    come_trees = put_keeps_trees p all (λ z e. inr (subst (λ a. Made a) (same_block put e) made))

    y_reached : Reaches d.mind.memory (to_block 1) y
    y_reached = reaches_on i (still_there c.mind.memory d.mind.memory at i come_moves.others within) (ap target come_moves.here ∙ put)

    made_stays : (a j z : ℕ) → T.Made a → Points V a j z → Points (seen_from d holds) a j z
    made_stays a j z m e = ap target (come_moves.others a j (inl (λ q. tree.apart a m (subst (λ v. T.Within v) (sym q) within)))) ∙ e

    under_reached : (n a : ℕ) → Under V T n y a → Reaches d.mind.memory (to_block 1) a
    under_reached zero a q = subst (λ z. Reaches d.mind.memory (to_block 1) z) (sym q) y_reached
    under_reached (suc n) a q = reaches_on q.1 (under_reached n q.0 q.4) (made_stays q.0 q.1 a q.2 q.3)

    pub linked_reached : (a : ℕ) → LinkedBy V T y a → Reaches d.mind.memory (to_block 1) a
    linked_reached a l = under_reached l.1.0 a l.1.1

    pub uncovered_put : (z : ℕ) → target s ≡ Local z → T.Covered z → ⊥
    uncovered_put z e is = forest.uncovered z (subst (λ a. Made a) (same_block put e) made) is
