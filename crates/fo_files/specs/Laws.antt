-- Why files keep the laws of their calls.
use Rattle.std.specs.Prelude.{refl, ◌+◌, ◌≤◌, ℕ, Bool}
use Rattle.std.proofs.Common.{◌∙◌, arith, []}
use Rattle.fo_ports.specs.State.{State, KeepsAll, Looks}
use Rattle.fo_world.specs.Answers.{NotFewer}
use Rattle.fo_files_take.specs.of_files_along.Along.{HasRoom}
use Rattle.fo_files_take.specs.of_files_look.Told.{faults_of}
use Rattle.fo_files.specs.Kept.{AllSettled, Keeps, Takes}
use Rattle.fo_dirties.proofs.Adding.{dirties_both, dirties_fewer, dirties_none}
use Rattle.fo_dirties.proofs.Putting.{dirties_at_once}
use Rattle.fo_files_views.proofs.Once as once

pub looks_at_once : (s : State) → Looks s s
looks_at_once s = once.looks_at_once s

pub keeps_at_once : (s : State) (halted : Bool) {blocks : Type 0} → blocks → Keeps blocks s s halted halted
keeps_at_once s halted keeps = record { keeps = keeps; usable = omega arith; settled = λ h. (h, refl); dirties = dirties_none 0 (dirties_at_once s []); same_halted = refl }

pub keeps_joins : (a b c : State) (x y z : Bool) {first second both : Type 0} → (first → second → both) → Keeps first a b x y → Keeps second b c y z → Keeps both a c x z
keeps_joins a b c x y z joins p q = record {
  keeps = joins p.keeps q.keeps;
  usable = let le = p.usable in let more = q.usable in omega (arith, le, more);
  settled = λ h. let here = p.settled h in let there = q.settled here.0 in (there.0, there.1 ∙ here.1);
  dirties = dirties_fewer (omega arith) (λ x h. h) (dirties_both p.dirties q.dirties);
  same_halted = q.same_halted ∙ p.same_halted;
}

pub faults_kept : (a b : State) → KeepsAll a b → NotFewer (faults_of a) (faults_of b)
faults_kept a b all = record { main = all.more_faults; arena = all.more_arena_faults }

pub keeps_room : (a b : State) (x y : Bool) {blocks : Type 0} (n : ℕ) → Keeps blocks a b x y → HasRoom a n → HasRoom b n
keeps_room a b x y n p h = let here = p.settled h.0 in (here.0, here.1 ∙ h.1)

pub keeps_takes : (a b : State) (x y : Bool) {blocks : Type 0} → Keeps blocks a b x y → Takes 0 blocks a b x y
keeps_takes a b x y p = record { keeps = p.keeps; taken = let le = p.usable in omega (arith, le); dirties = dirties_fewer (omega arith) (λ x h. h) p.dirties; same_halted = p.same_halted }

pub keeps_then : (a b c : State) (x y z : Bool) {first second both : Type 0} (n : ℕ) → (first → second → both) → Keeps first a b x y → Takes n second b c y z → Takes n both a c x z
keeps_then a b c x y z n joins p q = record {
  keeps = joins p.keeps q.keeps;
  taken = let le = p.usable in let more = q.taken in omega (arith, le, more);
  dirties = dirties_fewer (omega arith) (λ x h. h) (dirties_both p.dirties q.dirties);
  same_halted = q.same_halted ∙ p.same_halted;
}

pub takes_more : (a b : State) (x y : Bool) {blocks : Type 0} (n m : ℕ) → n ≤ m → Takes n blocks a b x y → Takes m blocks a b x y
takes_more a b x y n m le p = record { keeps = p.keeps; taken = let taken = p.taken in omega (arith, le, taken); dirties = dirties_fewer (omega (arith, le)) (λ x h. h) p.dirties; same_halted = p.same_halted }

pub takes_room : (a b : State) (x y : Bool) {blocks : Type 0} (n r q : ℕ) → Takes n blocks a b x y → HasRoom a r → HasRoom b q → r ≤ q + n
takes_room a b x y n r q p h k = let taken = p.taken in omega (arith, taken, h.1, k.1)

pub room_settled : (s : State) (n : ℕ) → HasRoom s n → AllSettled s
room_settled s n h = record { settled = h.0.settled; clean = h.0.clean; cleared = h.0.cleared }
