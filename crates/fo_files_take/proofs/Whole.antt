-- A whole removal.
use Rattle.std.proofs.Common.{◌≡◌, ◌⊎◌, ℕ, List, sym, subst}
use Rattle.std.specs.Prelude.{Result, Ok, Err, OnOk, OnErr}
use Rattle.fo_ports.specs.State.{State, Looks, Rests}
use Rattle.fo_world.specs.declared.error.FileError.{FileError}
use Rattle.fo_files_along.specs.of_files_at.Way.{IsWay}
use Rattle.fo_files_along.proofs.Both.{on_ok, on_err}
use Rattle.fo_files_take.specs.declared.look.Found.{Found}
use Rattle.fo_files_take.specs.Take.{IsFound, IsLeft, Refused, Removes, TakesFile}

pub on_ok_always : {A E : Type 0} (r : Result A E) (P : Type 0) → P → OnOk r P
on_ok_always (Ok x) P h = h
on_ok_always (Err e) P h = tt

pub removes_as : (B : Type 0) (state : B → State) (old looked new : B) (root : ℕ) (trail was : List ℕ) (who : List ℕ) (now : ℕ) (f : Found) {A : Type 0} (r : Result A FileError) → trail ≡ was → Looks (state old) (state looked) → IsFound (state looked) root was who now f
    → OnOk r ((b : B) × Rests (state looked) (state b) × TakesFile B state b new root trail f.way who now) → OnOk r (Removes B state old new root was who now)
removes_as B state old looked new root trail was who now f r is looks found done = subst (λ t. OnOk r (Removes B state old new root t who now)) is
    (on_ok r _ _ (λ p. record { looked = looked; looks = looks; way = f.way; found = subst (λ t. IsWay (state looked) root t f.way) (sym is) found.way; rested = p.0; rests = p.1; takes = p.2 }) done)

pub refused_as : (B : Type 0) (state : B → State) (old looked new : B) (root : ℕ) (trail was : List ℕ) {A : Type 0} (r : Result A FileError) → trail ≡ was → Looks (state old) (state looked)
    → OnErr r ((b : B) × (Looks (state looked) (state b) ⊎ Rests (state looked) (state b)) × IsLeft B state b new root trail) → OnErr r (Refused B state old new root was)
refused_as B state old looked new root trail was r is looks left = subst (λ t. OnErr r (Refused B state old new root t)) is
    (on_err r _ _ (λ p. record { looked = looked; looks = looks; rested = p.0; rests = p.1; left = p.2 }) left)
