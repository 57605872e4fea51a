-- A chain of steps that may be refused, link by link.
use Rattle.std.proofs.Common.{◌≡◌, Bool, true, false, Option, Some, None, Result, Ok, Err, refl, sym, ap, ◌∙◌, ⊎_elim, ℕ, inl, inr}
use Rattle.std.specs.Prelude.{IfErr, MatchResult, if◌then◌else◌}
use Rattle.std.proofs.lemmas.Result.{IfErr-at_err}
use Rattle.std.proofs.lemmas.Bool.{true≢false}
use Rattle.fo_world.specs.declared.error.FileError.{FileError}
use Rattle.fo_world.specs.World.{Faults}
use Rattle.fo_world.specs.Answers.{MayFail}
use Rattle.nine_fids.specs.declared.refusal.Refusal.{Refusal}
use Rattle.fo_world.specs.Chain.{and_then, refuse_if}
use Rattle.std.specs.Option.{ok_or}
use Rattle.nine_fids.specs.Refusing.{is_failure}
use Rattle.nine_fids.specs.Looking.{FilesState, Follows, HasCause, IsRefused, Looks, MayMiss}
use Rattle.nine_fids.proofs.Missing.{is_miss, fails_since, fails_by_missing}
use Rattle.nine_fids.proofs.Seeing.{Told, cause_since, looks_denied, plain_cause}
use Rattle.nine_files.specs.Answering.{Misses}

-- ---- what a chain is, once its first link is known

pub then_ok : {A B : Type 0} (r : Result A Refusal) (x : A) (f : A → Result B Refusal) → r ≡ Ok x → and_then r f ≡ f x
then_ok r x f h = ap (λ t. and_then t f) h

-- ---- two chains are one

pub past_then : {A B C : Type 0} (x : Result A Refusal) (f : A → Result B Refusal) (g : B → Result C Refusal) → and_then x (λ a. and_then (f a) g) ≡ and_then (and_then x f) g
past_then (Ok a) f g = refl
past_then (Err r) f g = refl

-- ---- what a chain that ends well says

pub refuse_ok : {A : Type 0} (b : Bool) (r : Refusal) (x : Result A Refusal) (y : A) → refuse_if b r x ≡ Ok y → (b ≡ false) × (x ≡ Ok y)
refuse_ok true r x y h = absurd cc
refuse_ok false r x y h = (refl, h)

pub then_ok_parts : {A B : Type 0} (x : Result A Refusal) (f : A → Result B Refusal) (y : B) → and_then x f ≡ Ok y → (a : A) × (x ≡ Ok a) × (f a ≡ Ok y)
then_ok_parts (Ok a) f y h = (a, refl, h)
then_ok_parts (Err r) f y h = absurd cc

-- ---- refusals

-- what is no failure is told
pub told_if_plain : {A : Type 0} (told : Result A Refusal) (f0 f1 : Faults) (h : Type 0) (r : Refusal) → is_failure r ≡ false → IsRefused told (MayMiss f0 f1 h) r → told ≡ Err r
told_if_plain told f0 f1 h r plain k = ⊎_elim (λ e. e) (λ p. absurd (true≢false (sym (ap is_failure p.1 ∙ is_miss f0 f1 h p.0 p.2) ∙ plain))) k

-- a failure has its cause, where none is told
pub miss_if_failure : {A : Type 0} (told : Result A Refusal) (f0 f1 : Faults) (h : Type 0) (r : Refusal) → IfErr told (λ e. is_failure e ≡ false) → is_failure r ≡ true → IsRefused told (MayMiss f0 f1 h) r → Misses (MayMiss f0 f1 h) r
miss_if_failure told f0 f1 h r plain failed k = ⊎_elim (λ e. absurd (true≢false (sym failed ∙ IfErr-at_err (λ v. is_failure v ≡ false) e plain))) (λ p. p) k

-- a call that only looked refuses a request that changes
pub refused_looking : {A B : Type 0} (part : Result A Refusal) (whole : Result B Refusal) (f0 f1 : Faults) (h : Type 0) (room : ℕ → Type 0) (need : ℕ) (granted : Bool) (r : Refusal) → (part ≡ Err r → whole ≡ Err r) → IsRefused part (MayMiss f0 f1 h) r → IsRefused whole (MayFail f0 f1 h room need granted) r
refused_looking part whole f0 f1 h room need granted r told p =
    ⊎_elim (λ e. inl (told e)) (λ q. inr (q.0, q.1, fails_by_missing f0 f1 h room need granted q.0 q.2)) p

-- why a step may fail, where it is granted and where it is not
abbrev pub FailsSo : Type 1
FailsSo = Bool → FileError → Type 0

-- ---- what is no failure

-- a refusal that is told is no failure
abbrev pub IsPlain : {A : Type 0} → Result A Refusal → Type 0
IsPlain r = IfErr r (λ e. is_failure e ≡ false)

pub refuse_plain : {A : Type 0} (b : Bool) (e : Refusal) (rest : Result A Refusal) → is_failure e ≡ false → IsPlain rest → IsPlain (refuse_if b e rest)
refuse_plain true e rest plain more = plain
refuse_plain false e rest plain more = more

pub if_plain : {A : Type 0} (b : Bool) (x y : Result A Refusal) → IsPlain x → IsPlain y → IsPlain (if b then x else y)
if_plain true x y p q = p
if_plain false x y p q = q

pub then_plain : {A B : Type 0} (x : Result A Refusal) (f : A → Result B Refusal) → IsPlain x → ((a : A) → IsPlain (f a)) → IsPlain (and_then x f)
then_plain (Ok a) f p q = q a
then_plain (Err r) f p q = p

pub some_plain : {A : Type 0} (o : Option A) (r : Refusal) → is_failure r ≡ false → IsPlain (ok_or o r)
some_plain (Some x) r p = tt
some_plain None r p = p

pub plain_at : {A : Type 0} (x : Result A Refusal) (r : Refusal) → IsPlain x → x ≡ Err r → is_failure r ≡ false
plain_at x r p e = IfErr-at_err (λ v. is_failure v ≡ false) e p

-- a plain refusal, after calls that looked
pub looks_plain : {A : Type 0} (a b : FilesState) (told : Told A) (r : Refusal) → (a.honest → told a.how a.world ≡ Err r) → (a.honest → b.world ≡ a.world) → is_failure r ≡ false → Looks a b told (Err r)
looks_plain a b told r is world plain = looks_denied a b told r is world (plain_cause a b 0 r plain)

-- what follows a walk along names, after calls that looked
pub looks_walked : {A : Type 0} (a b c : FilesState) (told : Told A) (x : A) (r : Result A Refusal) → Follows a b → (a.honest → b.world ≡ a.world) → (a.honest → told a.how a.world ≡ Ok x)
    → (a.honest → MatchResult r (λ y. y ≡ x) (Misses (MayMiss b.faults c.faults b.honest))) → (b.honest → c.world ≡ b.world) → IfErr r (HasCause b c 0) → Looks a c told r
looks_walked a b c told x (Ok y) f world is comes same cause = record { answer = λ h. is h ∙ ap Ok (sym (comes h)); world = λ h. same (f.honest h) ∙ world h; cause = tt }
looks_walked a b c told x (Err r) f world is comes same cause = record {
  answer = λ h. let m = comes h in inr (m.0, m.1, fails_since a.faults b.faults c.faults a.honest b.honest (λ n. ⊥) 0 false f.faults f.honest m.0 m.2);
  world = λ h. same (f.honest h) ∙ world h;
  cause = cause_since a b c 0 r f cause;
}
