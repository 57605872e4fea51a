-- The own record of the directory of a file.
use Rattle.std.proofs.Common.{◌≡◌, ◌-◌, ◌<◌, ℕ, List, length, get_or, Option, Some, None, sym, ap, subst, ◌∙◌, arith}
use Rattle.fo_image.specs.declared.record.Record.{Record}
use Rattle.fo_image.specs.Record.{RecordHolds, RootRecordHolds}
use Rattle.fo_ports.specs.State.{State}
use Rattle.fo_world.specs.Limits.{IsUser}
use Rattle.fo_files_edit.specs.of_files_at.declared.at.Step.{Step}
use Rattle.fo_files_edit.specs.of_files_at.declared.at.Way.{Way}
use Rattle.fo_files_edit.specs.of_files_at.Way.{IsWay}
use Rattle.fo_files_dir.specs.declared.dir.DirAt.{DirAt}
use Rattle.fo_files_own.specs.Own.{MayOwn, own_of}
use Rattle.fo_files_edit.specs.of_files_along.Along.{IsAboveOf, touched}
use Rattle.fo_files_edit.proofs.of_files_along.Ways.{step_at, steps_long, touched_holds, touched_root}
use Rattle.fo_files_edit.specs.Edit.{as_root}
use Rattle.fo_files_edit.proofs.Roots.{root_holds}
use Rattle.fo_files_rename.specs.Rename.{IsOwnOf, MayStand}

-- the record of a step's directory holds
pub step_named : (s : State) (root : ℕ) (trail : List ℕ) (w : Way) (k : ℕ) (step : Step) → IsWay s root trail w → k < length w.steps.items → step ≡ get_or w.steps.items k step → RecordHolds step.dir.named
step_named s root trail w k step way lt is = subst (λ (x : Step). RecordHolds x.dir.named) (sym is) (step_at s root trail w k step way lt).1.holds.named

last_within : (n : ℕ) → 0 < n → n - 1 < n
last_within n some = omega (arith, some)

-- it may stand where it does
pub own_stands : (s : State) (root : ℕ) (trail : List ℕ) (w : Way) (who : List ℕ) (now : ℕ) (named : Record) → IsWay s root trail w → IsUser who → 0 < length trail → IsOwnOf w.steps.items who now named → MayStand (length trail) named
own_stands s root trail w who now named way user some own =
    let long = steps_long s root trail w way in
    let holds = step_named s root trail w (length w.steps.items - 1) own.step way (last_within (length w.steps.items) (subst (λ n. 0 < n) (sym long) some)) own.step_is in
    record {
      at_root = λ one. subst (λ r. RootRecordHolds r) (sym (own.at_root (long ∙ one))) (touched_root who now (as_root own.step.dir.named) user (root_holds own.step.dir.named holds));
      below = λ more. subst (λ r. RecordHolds r) (sym (own.below (subst (λ n. 1 < n) (sym long) more))) (touched_holds who now own.step.dir.named user holds);
    }

-- ---- where it stands

count_one : (n : ℕ) → 0 < n → n - 1 ≡ 0 → n ≡ 1
count_one n some is = omega (arith, some, is)

count_more : (n : ℕ) → 0 < n - 1 → 1 < n
count_more n some = omega (arith, some)

pub may_own : (at : List ℕ) (steps : List Step) (count : ℕ) (dir : DirAt) (above : Option DirAt) (leaf spare : ℕ) (named : Record) → 0 < count → IsAboveOf at steps (count - 1) above → MayStand count named → MayOwn (own_of dir above leaf spare) named
may_own at steps count dir None leaf spare named some is stands = stands.at_root (count_one count some is)
may_own at steps count dir (Some a) leaf spare named some is stands = stands.below (count_more count is.0)

-- ---- what is found

pub own_root : (steps : List Step) (step : Step) (depth : ℕ) (who : List ℕ) (now : ℕ) (named : Record) → depth ≡ length steps → step ≡ get_or steps (depth - 1) step → depth ≡ 1 → named ≡ touched who now (as_root step.dir.named) → IsOwnOf steps who now named
own_root steps step depth who now named count is one same = record {
  step = step;
  step_is = is ∙ ap (λ n. get_or steps (n - 1) step) count;
  at_root = λ h. same;
  below = λ more. absurd (omega (arith, count, one, more));
}

pub own_below : (steps : List Step) (step : Step) (depth : ℕ) (who : List ℕ) (now : ℕ) (named : Record) → depth ≡ length steps → step ≡ get_or steps (depth - 1) step → (depth ≡ 1 → ⊥) → named ≡ touched who now step.dir.named → IsOwnOf steps who now named
own_below steps step depth who now named count is other same = record {
  step = step;
  step_is = is ∙ ap (λ n. get_or steps (n - 1) step) count;
  at_root = λ h. absurd (other (count ∙ h));
  below = λ more. same;
}

pub own_holds : (s : State) (root : ℕ) (trail : List ℕ) (w : Way) (who : List ℕ) (now : ℕ) (named : Record) → IsWay s root trail w → IsUser who → 0 < length trail → IsOwnOf w.steps.items who now named → 1 < length w.steps.items → RecordHolds named
own_holds s root trail w who now named way user some own more =
    let long = steps_long s root trail w way in
    (own_stands s root trail w who now named way user some own).below (subst (λ n. 1 < n) long more)
