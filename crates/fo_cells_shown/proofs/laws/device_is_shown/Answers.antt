use Rattle.fo_cells_shown.proofs.Shown.{stands_within, device_shown, device_labelled}
use Rattle.fo_cells_shown.proofs.laws.device_is_shown.Goals as goal

pub returns : goal.returns
returns c = record {
  shown = λ high doubts m holds device tops safe stand is. (device_shown high doubts m holds device tops safe stand is, device_labelled high doubts m holds device tops safe stand is);
  within = stands_within;
}
