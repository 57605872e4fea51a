-- Steps of the file step, one after another: what holds of the answer, where there is one.
use Rattle.std.proofs.Common.{◌≡◌, Bool, true, false, Result, Ok, Err, subst, if◌then◌else◌}
use Rattle.std.specs.Prelude.{IfOk}
use Rattle.fo_world.specs.declared.error.FileError.{FileError}
use Rattle.fo_world.specs.declared.place.View.{View}
use Rattle.fo_world.specs.declared.place.View.TheVariants.{Active, Snap, Archive, Dated}
use Rattle.fo_world.specs.Chain.{and_then, refuse_if}
use Rattle.fo_world.specs.Step.{by_view}
use Rattle.std.specs.Prelude.{ℕ}

-- whatever it goes on from
pub goes : {A B : Type 0} (Q : B → Type 0) (r : Result A FileError) (f : A → Result B FileError) → ((x : A) → IfOk (f x) Q) → IfOk (and_then r f) Q
goes Q (Ok x) f g = g x
goes Q (Err e) f g = tt

-- from what it has
pub on : {A B : Type 0} (P : A → Type 0) (Q : B → Type 0) (r : Result A FileError) (f : A → Result B FileError) → IfOk r P → ((x : A) → P x → IfOk (f x) Q) → IfOk (and_then r f) Q
on P Q (Ok x) f h g = g x h
on P Q (Err e) f h g = tt

-- where it isn't refused
pub passed : {A : Type 0} (P : A → Type 0) (b : Bool) (e : FileError) (r : Result A FileError) → IfOk r P → IfOk (refuse_if b e r) P
passed P true e r h = tt
passed P false e r h = h

pub unless : {A : Type 0} (P : A → Type 0) (b : Bool) (r s : Result A FileError) → IfOk r P → IfOk s P → IfOk (if b then r else s) P
unless P true r s h g = h
unless P false r s h g = g

pub view-cases : {A : Type 0} (P : A → Type 0) (view : View) (tree : Result A FileError) (dated : Bool → ℕ → ℕ → Result A FileError) → IfOk tree P → ((a : Bool) (y m : ℕ) → IfOk (dated a y m) P) → IfOk (by_view view tree dated) P
view-cases P Active tree dated t d = t
view-cases P (Snap e) tree dated t d = t
view-cases P (Archive e) tree dated t d = t
view-cases P (Dated archive year monthday) tree dated t d = d archive year monthday

-- of the answer itself
pub from_ok : {A : Type 0} (P : A → Type 0) (r : Result A FileError) (x : A) → IfOk r P → r ≡ Ok x → P x
from_ok P (Ok y) x h e = let same : y ≡ x = cc in subst P same h
from_ok P (Err f) x h e = absurd (cc)
