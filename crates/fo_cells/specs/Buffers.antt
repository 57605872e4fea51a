-- What buffers mean: the part of a mind that is read off them.
use Rattle.std.specs.Prelude.{ℕ, Bool, false, List, [], map, slice_index_or}
use Rattle.fo_cells.specs.declared.buffers.Buffer.{Buffer}
use Rattle.fo_cells.specs.Device.{Mind, noted}

abbrev pub bytes_in : Buffer → List ℕ
bytes_in x = x.bytes.items

abbrev pub newborn_in : Buffer → Bool
newborn_in x = x.newborn

abbrev pub complete_in : Buffer → Bool
complete_in x = x.complete

abbrev pub is_newborn : List Buffer → ℕ → Bool
is_newborn all at = slice_index_or (map newborn_in all) at false

-- `rest` has what isn't kept in buffers
abbrev pub mind_of : Mind → List Buffer → Mind
mind_of rest all = record rest {
  memory = λ b. rest.read b (slice_index_or (map bytes_in all) b []);
  newborn = λ b. slice_index_or (map newborn_in all) b false;
  complete = λ b. slice_index_or (map complete_in all) b false;
}

-- with waiting slots whose leaf was written
abbrev pub note : ℕ → Bool → Mind → Mind
note at ok rest = record rest { clears = map (noted at ok) rest.clears }
