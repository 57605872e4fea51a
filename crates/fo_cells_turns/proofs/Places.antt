-- What is held after a step stands where it stood.
use Rattle.std.proofs.Common.{◌⊎◌, ℕ, Bool, List, subst}
use Rattle.std.specs.List.{Contains}
use Rattle.fo_disk.specs.Disk.{Content as Holds}
use Rattle.fo_crash.specs.declared.place.Place.{Place}
use Rattle.fo_crash.specs.Images.{Reaches, to_block}
use Rattle.fo_cells.specs.Known.{Known, Top, IsKept, Stands}
use Rattle.fo_cells.specs.Device.{known}
use Rattle.fo_cells.proofs.Standing.{stands_by, stands_top, stands_below}
use Rattle.fo_cells.proofs.Keeping.{stands_fewer}
use Rattle.fo_cells.proofs.Settling.{may_fewer, labels_fewer, sync_fewer, ends_fewer}
use Rattle.fo_cells.proofs.Putting.{stands_put}
use Rattle.fo_cells.proofs.Bytes.{may_bytes}
use Rattle.fo_cells.proofs.Waiting.{may_await, more_fewer}
use Rattle.fo_cells.proofs.Super.{super_stands, counts_stands}
use Rattle.fo_cells_out.specs.Origins.{Origins}
use Rattle.fo_cells_epochs.proofs.Trees.{active_stands}
use Rattle.fo_cells_steps.specs.of_cells_all.All.{Kept, Format}
use Rattle.fo_cells_steps.specs.Division.{HoldsMade}
use Rattle.fo_cells_steps.proofs.Facts.{held_stands}
use Rattle.fo_cells_turns.specs.Places.{OneStep, FewerStand}

pub fewer_stand : (old new : Known) → OneStep old new → IsKept old → FewerStand old new
fewer_stand old new (OneStep.writes at f w) kept = stands_fewer (λ y k. subst (λ (ts : List Top). Contains ts y) w.same.tops k) (Rattle.fo_cells.proofs.Writing.may_old w)
fewer_stand old new (OneStep.labels w) kept = stands_fewer (λ y k. subst (λ (ts : List Top). Contains ts y) w.same.tops k) (may_fewer (labels_fewer w))
fewer_stand old new (OneStep.syncs w) kept = stands_fewer (λ y k. subst (λ (ts : List Top). Contains ts y) w.same.tops k) (may_fewer (sync_fewer w))
fewer_stand old new (OneStep.ends w) kept = stands_fewer (λ y k. subst (λ (ts : List Top). Contains ts y) w.same.tops k) (may_fewer (ends_fewer w))
fewer_stand old new (OneStep.clears at i leaf r) kept = stands_fewer (λ y k. subst (λ (ts : List Top). Contains ts y) r.tops k) (Rattle.fo_cells.proofs.Firing.may_old r)
fewer_stand old new (OneStep.closes b l r) kept = Rattle.fo_cells.proofs.Closing.stands_old r
fewer_stand old new (OneStep.puts at i s u) kept = stands_put u kept
fewer_stand old new (OneStep.refills at bytes u) kept = stands_by (λ y k. stands_top y (subst (λ (ts : List Top). Contains ts y) u.tops k)) (λ a j s p b st may e. stands_below j s b st (may_bytes u a j s may) e)
fewer_stand old new (OneStep.awaits at i leaf w) kept = stands_by (λ y k. stands_top y (subst (λ (ts : List Top). Contains ts y) w.same.tops k)) (λ a j s p b st may e. stands_below j s b st (may_await w a j s b may e) e)
fewer_stand old new (OneStep.more w) kept = stands_fewer (λ y k. subst (λ (ts : List Top). Contains ts y) w.same.tops k) (may_fewer (more_fewer w))
fewer_stand old new (OneStep.tries d t) kept = super_stands t
fewer_stand old new (OneStep.counts d t) kept = counts_stands t

pub places_stay : {c d : Kept} {f : Format} {Made After : ℕ → Type 0} {h k : Origins} {unsure later : List Bool} {holds after : Holds} → HoldsMade c f Made h unsure holds → HoldsMade d f After k later after → FewerStand (known c.mind holds) (known d.mind after) → (b : ℕ) (q : Place) → Reaches d.mind.memory (to_block 1) b ⊎ After b → Stands (known c.mind holds) b q → Stands (known d.mind after) b q
places_stay {c} {d} {holds = holds} {after = after} was now fewer b q is st =
    let x = held_stands now b is in
    let there = active_stands now.all.epochs.trees b x.0 x.1 in
    subst (λ (p : Place). Stands (known d.mind after) b p) (was.all.epochs.safe.kept.one b x.0 q (fewer b x.0 there) st) there
