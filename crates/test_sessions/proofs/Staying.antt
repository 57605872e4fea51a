-- A call that only looks leaves the world, whatever it answers.
use Rattle.std.proofs.Common.{◌≡◌, ℕ, Result, Ok, Err}
use Rattle.std.specs.Prelude.{MatchResult}
use Rattle.fo_world.specs.declared.error.FileError.{FileError}
use Rattle.fo_world.specs.World.{World}
use Rattle.nine_fids.proofs.Staying.{Stays, seen}

pub answered_stays : {A : Type 0} (told : Result (A × World) FileError) (Q : FileError → Type 0) (w w' : World) (r : Result A FileError) → Stays w told → MatchResult r (λ x. told ≡ Ok (x, w')) (λ e. Q e × (w' ≡ w)) → w' ≡ w
answered_stays told Q w w' (Ok x) stays h = (seen told w w' x stays h).1
answered_stays told Q w w' (Err e) stays h = h.1

-- the same for bytes that are put into place
pub filled_stays : {A : Type 0} (told : Result (A × World) FileError) (given : ℕ → A) (fails : FileError → Type 0) (w w' : World) (r : Result ℕ FileError) → Stays w told → MatchResult r (λ n. told ≡ Ok (given n, w')) (λ e. fails e × (w' ≡ w)) → w' ≡ w
filled_stays told given fails w w' (Ok n) stays h = (seen told w w' (given n) stays h).1
filled_stays told given fails w w' (Err e) stays h = h.1
