use Rattle.std.proofs.Common.{⊎_elim, List, sym, ap, subst}
use Rattle.std.specs.List.{Contains}
use Rattle.fo_crash.specs.Images.{Image}
use Rattle.fo_cells.specs.Known.{Clear, Top, IsClear}
use Rattle.fo_cells.proofs.Still.{stands_still}
use Rattle.fo_cells.proofs.Known.{one_place, placed, ranked}
use Rattle.fo_cells.proofs.Super.{memory_remains}
use Rattle.fo_cells.proofs.Safe.{old_sure, safe_super}
use Rattle.fo_cells.proofs.Labels.{set_label_named}
use Rattle.fo_cells.proofs.Flags.{all_settled}
use Rattle.fo_cells.proofs.Removing.{shown}
use Rattle.fo_cells.proofs.Left.{device_left, latest_image}
use Rattle.fo_cells.proofs.laws.images_are_known.Goals as goal

pub returns : goal.returns
returns c = record {
  shown = λ high doubts k image labels tops safe left stand. shown tops safe left stand;
  device = λ m holds device is. device_left m holds device is;
  some = λ m f unsure holds fits. latest_image holds fits.some;
  memory = λ k. memory_remains k;
  places = λ high doubts k image safe r. (one_place safe.kept, placed k image r.cells, ranked safe.kept image r.cells);
  older = λ high b p doubts k safe ne st young. old_sure safe b p ne st young;
  super_known = λ high doubts k safe. safe_super safe;
  named = λ m f unsure holds t p fits labels kept ne st born none. set_label_named fits labels kept ne st born none;
  settled = λ m f unsure holds fits none born unclear. all_settled fits none born unclear;
  stay = λ at bytes old new step b q st. ⊎_elim
      (λ u. stands_still u.device u.memory.slots (λ a j leaf h. subst (λ (cs : List Clear). IsClear cs a j leaf) (sym u.clears) h) (λ t h. subst (λ (ts : List Top). Contains ts t) (sym u.tops) h) b q st)
      (λ w. stands_still w.device (λ a j. ap (λ (m : Image). (m a).slot j) w.same.memory) (λ a j leaf h. subst (λ (cs : List Clear). IsClear cs a j leaf) (sym w.clears) h) (λ t h. subst (λ (ts : List Top). Contains ts t) (sym w.same.tops) h) b q st)
      step;
}
