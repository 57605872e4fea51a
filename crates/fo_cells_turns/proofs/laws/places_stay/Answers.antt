use Rattle.fo_cells_turns.proofs.Hanging.{made_hangs, roots_stand}
use Rattle.fo_cells_turns.proofs.Places.{fewer_stand, places_stay}
use Rattle.fo_cells_turns.proofs.laws.places_stay.Goals as goal

pub returns : goal.returns
returns g c = record {
  steps = λ old new step kept. fewer_stand old new step kept;
  hangs = λ k f unsure holds all. (λ image t b remains is m r. made_hangs all image remains t b is m r, λ r among. roots_stand all r among);
  places = λ k d f unsure later holds after was now fewer b q is st. places_stay was now fewer b q is st;
}
