-- Where the device tells, no block was made to come in the place of another.
use Rattle.std.proofs.Common.{ℕ}
use Rattle.fo_ports.specs.State.{State, Rests, Looks, Calm, IsDoomed, KeepsAll}
use Rattle.test_blocks.specs.Change.{IsApartFromAll}

pub apart_doomed : {s : State} → (s.tells → IsApartFromAll s) → s.tells → (y x : ℕ) → s.instead y x → IsDoomed s x → ⊥
apart_doomed apart told y x h doomed = (apart told).each y x h

pub apart_rests : {s t : State} → KeepsAll s t → Rests s t → (s.tells → IsApartFromAll s) → t.tells → IsApartFromAll t
apart_rests all rests apart told = record { each = λ y x h. (apart (all.still_tells.0 told)).each y x ((rests.instead y x).0 h) }

pub apart_looks : {s t : State} → KeepsAll s t → Looks s t → (s.tells → IsApartFromAll s) → t.tells → IsApartFromAll t
apart_looks all looks apart told = record { each = λ y x h. (apart (all.still_tells.0 told)).each y x ((looks.stays.instead y x (λ n. n) (λ n. n)).0 h) }

pub apart_calm : {s t : State} {here : ℕ → Type 0} {removals : ℕ} → KeepsAll s t → Calm here removals s t → (s.tells → IsApartFromAll s) → t.tells → IsApartFromAll t
apart_calm all calm apart told = record { each = λ y x h. (apart (all.still_tells.0 told)).each y x ((calm.frame.stays.instead y x (λ n. n) (λ n. n)).0 h) }
