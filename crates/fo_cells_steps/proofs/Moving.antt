-- A slot moves: the whole is kept, from what is said of the division after it.
use Rattle.std.proofs.Common.{◌≡◌, ◌⊎◌, inl, inr, ⊎_elim, ℕ, Bool, List, ◌++◌, sym, subst}
use Rattle.std.specs.List.{Contains}
use Rattle.fo_disk.specs.Disk.{Content as Holds}
use Rattle.fo_crash.specs.declared.slot.Slot.{Slot}
use Rattle.fo_cells.specs.Safe.{KeepsSafe}
use Rattle.fo_cells.specs.Device.{known}
use Rattle.fo_cells_out.specs.Removals.{Pending, IsCovered}
use Rattle.fo_cells_out.specs.Parents.{Tree, blocks_of, view}
use Rattle.fo_cells_out.specs.Origins.{Origins, HasOrigins}
use Rattle.fo_cells_out.proofs.Queue.{among_left, among_right, among_either}
use Rattle.fo_cells_out.proofs.Dividing.{listed_one, covered_one, covered_either, more_listed}
use Rattle.fo_cells_all.specs.of_cells_held.Room.{Used}
use Rattle.fo_cells_all.specs.of_cells_epochs.Epochs.{KeepsTrees}
use Rattle.fo_cells_all.proofs.of_cells_epochs.Epochs.{by_trees}
use Rattle.fo_cells_all.specs.of_cells_queue.Queue.{Queued, IsQueue, MovesQueue, past_blocks}
use Rattle.fo_cells_all.proofs.of_cells_queue.Queue.{queue_moves}
use Rattle.fo_cells_all.specs.All.{Kept, Format}
use Rattle.fo_cells_all.proofs.All.{beside, beside_step, together}
use Rattle.fo_cells_steps.specs.Division.{SameTree, HoldsMade, division}
use Rattle.fo_cells_steps.specs.Calls.{SameEpoch, KeepsTops, Beside}
use Rattle.fo_cells_steps.proofs.Same.{queue_same, origins_same}
use Rattle.fo_cells_steps.proofs.Still.{epochs_rest, queue_rest}

pub moved_made : {c d : Kept} {f : Format} {x : Used} {Made After : ℕ → Type 0} {h after : Origins} {unsure : List Bool} {holds : Holds} {at i : ℕ} {s : Slot} {u : Tree} (rs : List Pending) → SameEpoch c d → d.queue ≡ c.queue ++ rs → Beside c d f x holds → KeepsSafe (known c.mind holds) (known d.mind holds) c.high → KeepsTrees (known c.mind holds) (known d.mind holds) c.active d.active c.roots → MovesQueue at i s (known c.mind holds) (known d.mind holds) (division c Made) u d.active c.past c.queue rs → SameTree u (division d After) → HasOrigins (view (known d.mind holds) d.active) u after → KeepsTops c d After after.Apart → ((b : ℕ) → after.Apart b → h.Apart b) → HoldsMade c f Made h unsure holds → HoldsMade d f After after unsure holds
moved_made {c} {d} {f} {x} {Made} {After} {h} {after} {unsure} {holds} rs e queued b safe trees moves same origins tops apart all =
    let q = queue_same same (queue_moves moves trees all.all.epochs.safe all.all.queue) in
    record {
      all = together
          (epochs_rest f e (by_trees safe trees b.read all.all.epochs))
          (queue_rest e (subst (λ (qs : List Pending). IsQueue (known d.mind holds) (division d After) c.high d.active c.roots c.past qs) (sym queued) q))
          (beside_step b.steps (beside all.all));
      origins = origins_same (view (known d.mind holds) d.active) same origins;
      tops = tops.made;
      apart = λ a is. let y = all.apart a (apart a is) in (y.0, tops.apart y.0 y.1 (subst (λ z. after.Apart z) (sym y.2) is), y.2);
    }

-- what is covered, where removals are queued
pub listed_in : {c d : Kept} (rs : List Pending) → SameEpoch c d → d.queue ≡ c.queue ++ rs → (b : ℕ) → Contains (past_blocks d.past ++ blocks_of d.queue) b → Contains (past_blocks c.past ++ blocks_of c.queue) b ⊎ IsCovered rs b
listed_in {c} {d} rs e queued b is =
    let now : Contains (past_blocks c.past ++ blocks_of (c.queue ++ rs)) b = subst (λ (qs : List Pending). Contains (past_blocks c.past ++ blocks_of qs) b) queued (subst (λ (ps : List Queued). Contains (past_blocks ps ++ blocks_of d.queue) b) e.past is) in
    ⊎_elim
    (λ l. inl (among_left (past_blocks c.past) (blocks_of c.queue) b l))
    (λ r. ⊎_elim
    (λ was. inl (among_right (past_blocks c.past) (blocks_of c.queue) b (listed_one c.queue b was)))
    (λ own. inr own)
    (covered_either c.queue rs b (covered_one (c.queue ++ rs) b r)))
    (among_either (past_blocks c.past) (blocks_of (c.queue ++ rs)) b now)

pub listed_from : {c d : Kept} (rs : List Pending) → SameEpoch c d → d.queue ≡ c.queue ++ rs → (b : ℕ) → Contains (past_blocks c.past ++ blocks_of c.queue) b ⊎ IsCovered rs b → Contains (past_blocks d.past ++ blocks_of d.queue) b
listed_from {c} {d} rs e queued b is = subst (λ (ps : List Queued). Contains (past_blocks ps ++ blocks_of d.queue) b) (sym e.past) (subst (λ (qs : List Pending). Contains (past_blocks c.past ++ blocks_of qs) b) (sym queued) (more_listed (past_blocks c.past) c.queue rs b is))
