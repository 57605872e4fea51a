-- Calls that look, one after the other: what refuses one of them refuses the whole.
use Rattle.std.proofs.Common.{◌≡◌, ℕ, ◌≤◌, ◌<◌, Bool, true, Option, Some, None, Result, Ok, Err, refl, sym, inl, inr, ⊎_elim, arith}
use Rattle.std.proofs.lemmas.Bool.{true≢false}
use Rattle.fo_base.specs.Cause.{Rose}
use Rattle.fo_world.specs.declared.error.FileError.{FileError}
use Rattle.fo_world.specs.declared.error.FileError.TheVariants as error
use Rattle.fo_world.specs.World.{Faults}
use Rattle.fo_world.specs.Answers.{MayFail, NotFewer}
use Rattle.nine_fids.specs.declared.refusal.Refusal.{Refusal}
use Rattle.nine_fids.specs.declared.refusal.Refusal.TheVariants as refusal
use Rattle.nine_fids.specs.Refusing.{is_failure}
use Rattle.nine_fids.specs.Looking.{MayMiss, IsRefused}

-- ---- causes

pub none_below : (n : ℕ) → n < 0 → ⊥
none_below n lt = omega (arith, lt)

-- a call that needs no block fails as one that only looks
pub misses : (f0 f1 : Faults) (h : Type 0) (room : ℕ → Type 0) (granted : Bool) (x : FileError) → MayFail f0 f1 h room 0 granted x → MayMiss f0 f1 h x
misses f0 f1 h room granted error.Full m = absurd (none_below m.1.0 m.1.2)
misses f0 f1 h room granted x m = m

-- what only looks has no want of room
pub fails_by_missing : (f0 f1 : Faults) (h : Type 0) (room : ℕ → Type 0) (need : ℕ) (granted : Bool) (x : FileError) → MayMiss f0 f1 h x → MayFail f0 f1 h room need granted x
fails_by_missing f0 f1 h room need granted error.Full m = absurd (true≢false (sym m.0))
fails_by_missing f0 f1 h room need granted x m = m

pub rose_before : (a b c : ℕ) → a ≤ b → Rose b c → Rose a c
rose_before a b c le r = omega (arith, le, r)

-- a cause since later is a cause since before
pub fails_since : (f0 f1 f2 : Faults) (h0 h1 : Type 0) (room : ℕ → Type 0) (need : ℕ) (granted : Bool) → NotFewer f0 f1 → (h0 → h1) → (x : FileError) → MayFail f1 f2 h1 room need granted x → MayFail f0 f2 h0 room need granted x
fails_since f0 f1 f2 h0 h1 room need granted n up error.MainRead m = rose_before _ _ _ n.main m
fails_since f0 f1 f2 h0 h1 room need granted n up error.MainWrite m = rose_before _ _ _ n.main m
fails_since f0 f1 f2 h0 h1 room need granted n up error.MainSync m = rose_before _ _ _ n.main m
fails_since f0 f1 f2 h0 h1 room need granted n up error.ArenaRead m = rose_before _ _ _ n.arena m
fails_since f0 f1 f2 h0 h1 room need granted n up error.ArenaWrite m = rose_before _ _ _ n.arena m
fails_since f0 f1 f2 h0 h1 room need granted n up error.ArenaSync m = rose_before _ _ _ n.arena m
fails_since f0 f1 f2 h0 h1 room need granted n up (error.Damaged b) m = λ h. m (up h)
fails_since f0 f1 f2 h0 h1 room need granted n up x m = m

-- what fails a call that looks is a failure
pub is_miss : (f0 f1 : Faults) (h : Type 0) (x : FileError) → MayMiss f0 f1 h x → is_failure (refusal.File x) ≡ true
is_miss f0 f1 h error.TooBig m = absurd m
is_miss f0 f1 h error.Exists m = absurd m
is_miss f0 f1 h error.Absent m = absurd m
is_miss f0 f1 h error.NotEmpty m = absurd m
is_miss f0 f1 h error.TooDeep m = absurd m
is_miss f0 f1 h error.NoNumbers m = absurd m
is_miss f0 f1 h error.NotDir m = absurd m
is_miss f0 f1 h error.IsDir m = absurd m
is_miss f0 f1 h error.ReadOnly m = absurd m
is_miss f0 f1 h error.Halted m = absurd m
is_miss f0 f1 h error.Gone m = absurd m
is_miss f0 f1 h error.DirFull m = absurd m
is_miss f0 f1 h x m = refl

-- ---- refusals

-- what refuses a part refuses the whole, where the whole tells a refusal that the part tells
pub refused_by : {A B : Type 0} (part : Result A Refusal) (whole : Result B Refusal) (P Q : FileError → Type 0) (r : Refusal) → (part ≡ Err r → whole ≡ Err r) → ((x : FileError) → P x → Q x) → IsRefused part P r → IsRefused whole Q r
refused_by part whole P Q r told fails h =
    ⊎_elim (λ e. inl (told e)) (λ p. inr (p.0, p.1, fails p.0 p.2)) h

-- where nothing is refused, a refusal is a failure
pub failed_by : {A B : Type 0} (part : Result A Refusal) (x : A) (whole : Result B Refusal) (P Q : FileError → Type 0) (r : Refusal) → part ≡ Ok x → ((y : FileError) → P y → Q y) → IsRefused part P r → IsRefused whole Q r
failed_by part x whole P Q r is fails h = refused_by part whole P Q r (λ e. absurd cc) fails h

pub ok_same : {A : Type 0} (x y : A) → (let a : Result A Refusal = Ok x in a) ≡ Ok y → x ≡ y
ok_same x y e = cc

pub none_if : {A : Type 0} (o : Option A) → ((x : A) → o ≡ Some x → ⊥) → o ≡ None
none_if None h = refl
none_if (Some x) h = absurd (h x refl)
