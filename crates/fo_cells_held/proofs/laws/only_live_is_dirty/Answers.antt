use Rattle.std.proofs.Common.{sym, ◌∙◌, ◌≡◌, true, false}
use Rattle.fo_cells_held.proofs.Timed.{dirty_change, dirty_close}
use Rattle.fo_cells_held.proofs.laws.only_live_is_dirty.Goals as goal

pub returns : goal.returns
returns c = record {
  change = λ m n f g is_data high k h. dirty_change k h;
  closed = λ at epoch high m n f g is_data k le h. dirty_close k le h;
  begins = λ m f is_data high clean. record { dirty = λ b is d. let x : false ≡ true = sym (clean b) ∙ d in absurd (cc) };
}
