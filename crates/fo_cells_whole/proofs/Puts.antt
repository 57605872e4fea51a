-- Puts of slots.
use Rattle.std.proofs.Common.{inl, ℕ, Bool, List, sym, subst}
use Rattle.std.specs.List.{Contains}
use Rattle.fo_disk.specs.Disk.{Content as Holds}
use Rattle.fo_crash.specs.declared.slot.Slot.{Slot}
use Rattle.fo_cells.specs.Device.{known}
use Rattle.fo_cells_out.specs.Removals.{Pending}
use Rattle.fo_cells_out.specs.Origins.{Origins}
use Rattle.fo_cells_epochs.specs.Epochs.{Root}
use Rattle.fo_cells_held.specs.Room.{Used}
use Rattle.fo_cells_lost.specs.Lost.{AreShared}
use Rattle.fo_cells_all.specs.All.{Kept, Format}
use Rattle.fo_cells_steps.specs.Division.{HoldsMade, division}
use Rattle.fo_cells_steps.specs.Calls.{Beside}
use Rattle.fo_cells_puts.specs.Putting.{PutsOne}
use Rattle.fo_cells_shown.proofs.Closed.{move_closed}
use Rattle.fo_cells_whole.specs.Whole.{HoldsWhole}
use Rattle.fo_cells_whole.proofs.Certain.{KeepsMore, more_by, put_awaited}
use Rattle.fo_cells_whole.proofs.Calls.{current_kept}

-- what a put keeps of what kept trees share is said by what it loses
pub put_whole : {at i : ℕ} {s : Slot} {c d : Kept} {f : Format} {x : Used} {Made After Of Apart : ℕ → Type 0} {h after : Origins} {rs : List Pending} {unsure : List Bool} {holds : Holds} → PutsOne at i s c d Of Apart rs holds → Beside c d f x holds → HoldsMade d f After after unsure holds → (AreShared (known c.mind holds) (division c Made) c.high c.roots c.past c.queue → AreShared (known d.mind holds) (division d After) d.high d.roots d.past d.queue) → HoldsWhole c f Made h unsure holds → HoldsWhole d f After after unsure holds
put_whole {at} {i} {s} {c} {d} p b now shares all = let more : KeepsMore c d = more_by p.epoch b (put_awaited p.puts) in record {
  made = now;
  closed = move_closed all.made.all.epochs.safe all.made.all.epochs.trees (current_kept all.made d at p.current (λ a j ne. p.puts.memory.others a j (inl ne))) (λ r among. subst (λ (xs : List Root). Contains xs r) (sym p.epoch.roots) among) p.puts.low p.puts.label all.closed;
  shared = shares all.shared;
  certain = more.certain all.certain;
  awaited = more.awaited all.awaited;
}
