-- What is told of files, and the worlds after changes, are within the limits.
use Rattle.std.proofs.Common.{◌≡◌, Result, Ok, Err}
use Rattle.std.specs.Prelude.{IfOk}
use Rattle.fo_world.specs.declared.error.FileError.{FileError}
use Rattle.fo_world.specs.World.{World}
use Rattle.fo_plain.specs.Kept.{Tells}

pub told-fits : {A : Type 0} (P : A → Type 0) (told : Result (A × World) FileError) (w : World) (r : Result A FileError) → ((x : A) (w' : World) → told ≡ Ok (x, w') → P x) → Tells told w r → IfOk r P
told-fits P told w (Ok x) law t = law x w t
told-fits P told w (Err e) law t = tt
