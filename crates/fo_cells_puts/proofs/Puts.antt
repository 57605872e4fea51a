-- What each put has in common, and a slot that leads where it led.
use Rattle.std.proofs.Common.{◌≡◌, ◌⊎◌, inl, ⊎_elim, ℕ, Bool, List, [], map, sym, subst, arith}
use Rattle.std.proofs.lemmas.List.Elements.{Contains-append_left}
use Rattle.std.specs.List.{Contains}
use Rattle.fo_disk.specs.Disk.{Content as Holds}
use Rattle.fo_image.specs.declared.types.Pointer.TheVariants.{Local}
use Rattle.fo_crash.specs.declared.slot.Slot.{Slot}
use Rattle.fo_crash.specs.Images.{Reaches, target, to_block}
use Rattle.fo_cells.specs.Known.{Top}
use Rattle.fo_cells.specs.Safe.{super_top, IsCurrent, KeepsSafe}
use Rattle.fo_cells.specs.Device.{known}
use Rattle.fo_cells.proofs.Putting.{put_adds}
use Rattle.fo_cells.proofs.Super.{remains_slot}
use Rattle.fo_cells.proofs.SafeSteps.{put_safe}
use Rattle.fo_cells_out.specs.Removals.{Pending}
use Rattle.fo_cells_out.specs.Parents.{Moves}
use Rattle.fo_cells_out.specs.Origins.{Origins}
use Rattle.fo_cells_out.proofs.Steps.{puts_moves}
use Rattle.fo_cells_held.specs.Room.{Used}
use Rattle.fo_cells_epochs.specs.Epochs.{KeepsTrees, root_top}
use Rattle.fo_cells_epochs.proofs.TreeSteps.{put_trees}
use Rattle.fo_cells_steps.specs.of_cells_all.All.{Kept, Format}
use Rattle.fo_cells_steps.specs.Division.{HoldsMade, division}
use Rattle.fo_cells_steps.specs.Calls.{Beside}
use Rattle.fo_cells_puts.specs.Putting.{PutsOne, AddsThat}
use Rattle.fo_cells_steps.proofs.Facts.{held_stands}
use Rattle.fo_cells_steps.proofs.Alike.{alike_made}

-- A PUT: what each has in common
module _ {c d : Kept} {f : Format} {Made : ℕ → Type 0} {h : Origins} {unsure : List Bool} {holds : Holds} {at i : ℕ} {s : Slot} {After Apart : ℕ → Type 0} {rs : List Pending} (p : PutsOne at i s c d After Apart rs holds) (all : HoldsMade c f Made h unsure holds) where
  put_current : IsCurrent (known c.mind holds) c.high at
  put_current = record { young = λ q ne st lt. let e : (c.mind.label at).epoch ≡ c.high = p.current in omega (arith, e, lt) }

  pub put_is_safe : KeepsSafe (known c.mind holds) (known d.mind holds) c.high
  put_is_safe = put_safe p.puts all.all.epochs.safe.kept (λ was. subst (λ (ts : List Top). Contains ts super_top) (sym p.tops) (Contains-append_left d.active (map root_top c.roots) super_top p.keeps.fewer.top)) put_current p.other p.current p.brings

  pub put_is_moves : Moves at i s (known c.mind holds) (known d.mind holds)
  put_is_moves = puts_moves p.puts all.all.epochs.safe.kept

  -- what is put is in the tree, or was made
  pub put_keeps_trees : ((z : ℕ) → target s ≡ Local z → (division c Made).Within z ⊎ Made z) → KeepsTrees (known c.mind holds) (known d.mind holds) c.active d.active c.roots
  put_keeps_trees put = put_trees all.all.epochs.trees p.puts all.all.epochs.safe.kept p.tops p.keeps.fewer p.current (λ z e. held_stands all z (put z e))

  pub put_adds_that : AddsThat at i s c d holds
  put_adds_that = remains_slot p.other (put_adds p.puts) put_is_safe.supers

pub same_made : {c d : Kept} {f : Format} {u : Used} {Made : ℕ → Type 0} {h : Origins} {unsure : List Bool} {holds : Holds} {at i : ℕ} {s : Slot} → PutsOne at i s c d Made h.Apart [] holds → Reaches c.mind.memory (to_block 1) at ⊎ Made at → ((z : ℕ) → target s ≡ Local z → target ((c.mind.memory at).slot i) ≡ Local z) → ((z : ℕ) → target ((c.mind.memory at).slot i) ≡ Local z → target s ≡ Local z) → Beside c d f u holds → HoldsMade c f Made h unsure holds → AddsThat at i s c d holds × HoldsMade d f Made h unsure holds
same_made {c} {d} {f} {u} {Made} {h} {unsure} {holds} {at} {i} {s} p holder there back b all = (
  put_adds_that p all,
  alike_made all b p.epoch p.queue p.keeps holder there back (put_is_moves p all) (put_is_safe p all) (put_keeps_trees p all (λ z e. ⊎_elim
      (λ w. inl (all.all.queue.now.tree.closed at i z w (there z e)))
      (λ m. all.all.queue.now.forest.leads at i z m (there z e))
      holder)) p.puts.label,
)
