-- What a call that changes goes towards, at the end of a chain: the world that the chain is granted is that of the file step.
use Rattle.std.proofs.Common.{◌≡◌, Result, Ok, Err, refl}
use Rattle.fo_world.specs.declared.error.FileError.{FileError}
use Rattle.fo_world.specs.World.{World}
use Rattle.nine_fids.specs.declared.refusal.Refusal.{Refusal}
use Rattle.fo_world.specs.Chain.{and_then}
use Rattle.fo_world.specs.Answers.{granted_world, world_beside}
use Rattle.nine_files.specs.Answering.{world_told}
use Rattle.nine_fids.specs.Refusing.{changed}

-- where a value is told beside the world
pub given_granted : {A B : Type 0} (told : Result (A × World) FileError) (y : B) (w : World) → (let on : Result (B × World) Refusal = and_then (changed told) (λ p. Ok (y, p.1)) in granted_world world_beside on w) ≡ granted_world world_beside told w
given_granted (Ok p) y w = refl
given_granted (Err x) y w = refl

-- where nothing but the world is told
pub led_granted : {A : Type 0} (told : Result (A × World) FileError) (w : World) → (let on : Result World Refusal = and_then (changed told) (λ p. Ok p.1) in granted_world world_told on w) ≡ granted_world world_beside told w
led_granted (Ok p) w = refl
led_granted (Err x) w = refl

-- nothing is told beside the world
pub unit_given : (told : Result (Unit {0} × World) FileError) → (let on : Result (Unit {0} × World) Refusal = and_then (changed told) (λ p. Ok (tt, p.1)) in on) ≡ changed told
unit_given (Ok p) = refl
unit_given (Err x) = refl
