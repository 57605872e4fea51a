use Rattle.std.proofs.Common.{List, sym, subst}
use Rattle.std.proofs.lemmas.List.Elements.{Contains-append_left}
use Rattle.std.specs.List.{Contains}
use Rattle.fo_cells.specs.Known.{Top}
use Rattle.fo_cells.specs.Safe.{super_top}
use Rattle.fo_cells.proofs.SafeSteps.{put_safe, bytes_safe, await_safe, more_safe, close_safe}
use Rattle.fo_cells_epochs.proofs.TreeSteps.{put_trees, bytes_trees, await_trees, more_trees, close_trees}
use Rattle.fo_cells_epochs.proofs.Epochs.{by_trees, give_epochs, index_epochs, outside_memory}
use Rattle.fo_cells_epochs.specs.Epochs.{root_top}
use Rattle.fo_cells_epochs.proofs.laws.memory_keeps_epochs.Goals as goal

pub returns : goal.returns
returns c = record {
  slot = λ at i high s high_of doubts active after roots old new u tops fewer current other epoch brings stand read h. by_trees (put_safe u h.safe.kept (λ was. subst (λ (ts : List Top). Contains ts super_top) (sym tops) (Contains-append_left after (Rattle.std.proofs.Common.map root_top roots) super_top fewer.top)) current other epoch brings) (put_trees h.trees u h.safe.kept tops fewer epoch stand) read h;
  bytes = λ at high bytes high_of doubts active roots old new u current other read h. by_trees (bytes_safe u current other) (bytes_trees h.trees u) read h;
  begins = λ at i leaf high high_of doubts active roots old new w may read h. by_trees (await_safe w may) (await_trees h.trees w) read h;
  more = λ old new w waits high high_of doubts active roots read h. by_trees (more_safe w waits) (more_trees h.trees w) read h;
  given = λ at high d p high_of doubts active roots old new g other up live below tops waits read h. give_epochs g other up live below tops waits read h;
  indexed = λ at high q high_of doubts active after roots old new x moves tops epoch stand unwaited read h. index_epochs x moves tops epoch stand unwaited h;
  closed = λ b high l high_of doubts active roots old new r nowhere held unclear read h. by_trees (close_safe r (outside_memory h.safe h.trees b nowhere) unclear) (close_trees h.trees r nowhere held) read h;
}
