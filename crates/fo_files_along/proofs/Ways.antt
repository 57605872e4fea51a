-- The way to a file whose record is another.
use Rattle.std.proofs.Common.{◌≡◌, ◌<◌, ℕ, List, [], ◌∷◌, length, get_or, refl, sym, subst, ◌∙◌}
use Rattle.fo_image.specs.declared.record.Record.{Record}
use Rattle.fo_image.specs.Record.{RecordHolds, RootRecordHolds}
use Rattle.fo_ports.specs.State.{State}
use Rattle.fo_world.specs.Limits.{IsUser}
use Rattle.fo_files_plan.specs.of_files_at.declared.at.Step.{Step}
use Rattle.fo_files_plan.specs.of_files_at.declared.at.Way.{Way}
use Rattle.fo_files_plan.specs.of_files_at.declared.file.File.{File}
use Rattle.fo_files_plan.specs.of_files_at.Held.{FileHolds}
use Rattle.fo_files_plan.specs.of_files_at.Way.{Follows, IsStep, IsWay, first_of}
use Rattle.fo_files_plan.proofs.of_files_at.Ways.{end_holds}
use Rattle.fo_files_plan.proofs.Trails.{step_in, steps_count}
use Rattle.fo_files_along.specs.Along.{touched}

-- a record that somebody wrote to holds
pub touched_holds : (who : List ℕ) (now : ℕ) (r : Record) → IsUser who → RecordHolds r → RecordHolds (touched who now r)
touched_holds who now r user holds = record {
  name_is = holds.name_is;
  uid_is = holds.uid_is;
  gid_is = holds.gid_is;
  muid_is = record { some = user.some; within = user.short; is_text = user.text };
}

-- a root directory's record stays one
pub touched_root : (who : List ℕ) (now : ℕ) (r : Record) → IsUser who → RootRecordHolds r → RootRecordHolds (touched who now r)
touched_root who now r user is = record { holds = touched_holds who now r user is.holds; name_is = is.name_is; number_is = is.number_is; slot_is = is.slot_is; generation_is = is.generation_is }

follows_named : (s : State) (rank : ℕ) (steps : List Step) (file : File) (r : Record) (trail : List ℕ) → RecordHolds r → r.number ≡ file.named.number → Follows s rank steps file trail → Follows s rank steps (record file { named = r }) trail
follows_named s rank [] file r [] holds number h = (record { named = holds; first = h.0.first; second = h.0.second; stands = h.0.stands; ranked = h.0.ranked; high = h.0.high }, h.1)
follows_named s rank [] file r (q ∷ trail) holds number h = absurd h
follows_named s rank (step ∷ steps) file r [] holds number h = absurd h
follows_named s rank (step ∷ []) file r (q ∷ trail) holds number h = (h.0, number ∙ h.1, (h.2.0, h.2.1, follows_named s h.2.0 [] file r trail holds number h.2.2))
follows_named s rank (step ∷ other ∷ steps) file r (q ∷ trail) holds number h = (h.0, h.1, (h.2.0, h.2.1, follows_named s h.2.0 (other ∷ steps) file r trail holds number h.2.2))

first_leaf : (steps : List Step) (file : File) (r : Record) → (first_of steps (record file { named = r })).leaf ≡ (first_of steps file).leaf
first_leaf [] file r = refl
first_leaf (step ∷ steps) file r = refl

pub way_named : (s : State) (root : ℕ) (trail : List ℕ) (w new : Way) (r : Record) → RecordHolds r → r.number ≡ w.file.named.number → new.steps.items ≡ w.steps.items → new.file ≡ record w.file { named = r } → IsWay s root trail w → IsWay s root trail new
way_named s root trail w new r holds number steps is way = record {
  follows = subst (λ xs. Follows s 2120 xs new.file trail) (sym steps) (subst (λ f. Follows s 2120 w.steps.items f trail) (sym is) (follows_named s 2120 w.steps.items w.file r trail holds number way.follows));
  starts = subst (λ xs. (first_of xs new.file).leaf ≡ root) (sym steps) (subst (λ f. (first_of w.steps.items f).leaf ≡ root) (sym is) (first_leaf w.steps.items w.file r ∙ way.starts));
}

-- the file at the end of a way holds
pub file_holds : (s : State) (root : ℕ) (trail : List ℕ) (w : Way) → IsWay s root trail w → FileHolds s w.file
file_holds s root trail w way = end_holds s 2120 w.steps.items w.file trail way.follows

-- as many steps as numbers
pub steps_long : (s : State) (root : ℕ) (trail : List ℕ) (w : Way) → IsWay s root trail w → length w.steps.items ≡ length trail
steps_long s root trail w way = steps_count s 2120 w.steps.items w.file trail way.follows

-- a step of it
pub step_at : (s : State) (root : ℕ) (trail : List ℕ) (w : Way) (k : ℕ) (d : Step) → IsWay s root trail w → k < length w.steps.items → (rank : ℕ) × IsStep s rank (get_or w.steps.items k d)
step_at s root trail w k d way lt = step_in s 2120 w.steps.items w.file trail k d lt way.follows
