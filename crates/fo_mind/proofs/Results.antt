-- What is said of results.
use Rattle.std.proofs.Common.{◌≡◌, ℕ, Result, Ok, Err, refl, subst, sym}
use Rattle.std.specs.Prelude.{Option, Some, None, IfSome}
use Rattle.std.specs.Result.{OnOk, IfErr}
use Rattle.fo_ports.specs.Causes.{Caused}
use Rattle.fo_ports.specs.declared.error.BlockError.{BlockError}
use Rattle.fo_ports.specs.declared.error.BlockError.TheVariants.{Damaged}

pub on_ok : {T E P Q : Type 0} (r : Result T E) → (P → Q) → OnOk r P → OnOk r Q
on_ok (Ok x) f p = f p
on_ok (Err e) f p = tt

pub any_ok : {T E P : Type 0} (r : Result T E) → P → OnOk r P
any_ok (Ok x) p = p
any_ok (Err e) p = tt

-- a block that is refused is damaged
pub damaged : {T : Type 0} (full fault arena : Type 0) (at : ℕ) (r : Result T BlockError) → IfErr r (λ e. e ≡ Damaged at) → IfErr r (Caused full (λ b. b ≡ at) fault arena)
damaged full fault arena at (Ok x) h = tt
damaged full fault arena at (Err e) h = subst (Caused full (λ b. b ≡ at) fault arena) (sym h) refl

-- what holds of some values holds of equal ones
pub both : {A B : Type 0} (P : A → B → Type 0) {a a2 : A} {b b2 : B} → a2 ≡ a → b2 ≡ b → P a b → P a2 b2
both P {a} {a2} {b} {b2} ea eb p = subst (λ x. P x b2) (sym ea) (subst (λ y. P a y) (sym eb) p)

pub three : {A B C : Type 0} (P : A → B → C → Type 0) {a a2 : A} {b b2 : B} {c c2 : C} → a2 ≡ a → b2 ≡ b → c2 ≡ c → P a b c → P a2 b2 c2
three P {a} {a2} {b} {b2} {c} {c2} ea eb ec p = subst (λ x. P x b2 c2) (sym ea) (subst (λ y. P a y c2) (sym eb) (subst (λ z. P a b z) (sym ec) p))

-- what is lent, if anything
pub any_some : {T P : Type 0} (o : Option T) → P → IfSome o (λ x. P)
any_some (Some x) p = p
any_some None p = tt

pub both_some : {T : Type 0} {P Q R : T → Type 0} (o : Option T) → ((x : T) → P x → Q x → R x) → IfSome o P → IfSome o Q → IfSome o R
both_some (Some x) f p q = f x p q
both_some None f p q = p
