-- What two calls of `fetch` say together.
use Rattle.std.proofs.Common.{◌≡◌, ℕ, List, sym, ◌∙◌}
use Rattle.std.specs.Prelude.{Result, Ok, Err, Option, Some, None, IfErr, OnOk}
use Rattle.fo_ports.specs.declared.error.BlockError.{BlockError}
use Rattle.fo_ports.specs.declared.error.BlockError.TheVariants.{Full, Damaged, Fault, Arena, Memory}
use Rattle.fo_ports.specs.Causes.{Caused}

pub same_twice : {T E Told : Type 0} (first second : List ℕ) (held later : Option (List ℕ)) (again : Result T E) → Told → held ≡ Some first → later ≡ held → OnOk again (Told → later ≡ Some second) → OnOk again (first ≡ second)
same_twice first second held later (Ok x) told one same two = let both : Some first ≡ Some second = sym one ∙ sym same ∙ two told in cc
same_twice first second held later (Err e) told one same two = tt

not_damaged : {Told : Type 0} (first : List ℕ) (held later : Option (List ℕ)) (arena : Type 0) (e : BlockError) → Told → held ≡ Some first → later ≡ held → Caused ⊥ (λ b. (b ≡ 1) × (Told → later ≡ None)) ⊥ arena e → (b : ℕ) → e ≡ Damaged b → ⊥
not_damaged first held later arena Full told one same cause b is = absurd cause
not_damaged first held later arena (Damaged at) told one same cause b is = let both : Some first ≡ None = sym one ∙ sym same ∙ cause.1 told in cc
not_damaged first held later arena (Fault which) told one same cause b is = absurd cause
not_damaged first held later arena (Arena which) told one same cause b is = cc
not_damaged first held later arena Memory told one same cause b is = cc

pub whole_twice : {T Told : Type 0} (first : List ℕ) (held later : Option (List ℕ)) (arena : Type 0) (again : Result T BlockError) → Told → held ≡ Some first → later ≡ held → IfErr again (Caused ⊥ (λ b. (b ≡ 1) × (Told → later ≡ None)) ⊥ arena) → IfErr again (λ e. (b : ℕ) → e ≡ Damaged b → ⊥)
whole_twice first held later arena (Ok x) told one same cause = tt
whole_twice first held later arena (Err e) told one same cause = not_damaged first held later arena e told one same cause
