-- A look after another.
use Rattle.fo_ports.specs.State.{State, KeepsAll, Looks}
use Rattle.fo_dir_read.proofs.of_looks.Looks.{looks_joins}

pub looks_after : {B : Type 0} (state : B → State) (keeps : B → B → Type 0) → ((x y z : B) → keeps x y → keeps y z → keeps x z) → ((x y : B) → keeps x y → KeepsAll (state x) (state y)) → (a b c : B)
    → Looks (state a) (state b) × keeps a b → Looks (state b) (state c) × keeps b c → Looks (state a) (state c) × keeps a c
looks_after state keeps joins all a b c first second = (looks_joins (all a b first.1) first.0 second.0, joins a b c first.1 second.1)
