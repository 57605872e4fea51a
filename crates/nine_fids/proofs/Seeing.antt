-- Calls that look, over any devices, joined one after the other.
use Rattle.std.proofs.Common.{◌≡◌, ℕ, true, false, None, Result, Ok, Err, refl, sym, ap, subst, ◌∙◌, inl, inr, ⊎_elim, ◌⊎◌}
use Rattle.std.specs.Prelude.{is_ok, IfErr, IfOk, if◌then◌else◌, Bool, Option}
use Rattle.std.proofs.lemmas.Result.{IfErr-at_err}
use Rattle.fo_world.specs.declared.error.FileError.{FileError}
use Rattle.fo_world.specs.declared.error.FileError.TheVariants as error
use Rattle.fo_world.specs.World.{World}
use Rattle.fo_world.specs.Answers.{MayFail, NotFewer}
use Rattle.fo_world.specs.Answers as answers
use Rattle.nine_fids.specs.declared.refusal.Refusal.{Refusal}
use Rattle.nine_fids.specs.declared.refusal.Refusal.TheVariants as refusal
use Rattle.nine_fids.specs.Refusing.{looked, told_apart, is_failure}
use Rattle.nine_fids.specs.Rights.{found}
use Rattle.nine_fids.specs.Told.{Files, served}
use Rattle.nine_fids.specs.Looking.{FilesState, Follows, HasCause, Looks, MayMiss, Tells}
use Rattle.nine_fids.proofs.Missing.{fails_since, is_miss, misses, refused_by, rose_before}
use Rattle.nine_fids.proofs.Staying.{Stays, seen}

abbrev pub Told : Type 0 → Type 0
Told A = Files → World → Result A Refusal

-- ---- from one moment to a later one

pub follows : (a b : FilesState) → b.how.whole ≡ a.how.whole → b.how.largest ≡ a.how.largest → NotFewer a.faults b.faults → (a.honest → b.honest) → Follows a b
follows a b whole largest faults honest = record { how = ap (λ x. served x b.how.largest) whole ∙ ap (served a.how.whole) largest; faults = faults; honest = honest }

pub cause_since : (a b c : FilesState) (most : ℕ) (r : Refusal) → Follows a b → HasCause b c most r → HasCause a c most r
cause_since a b c most (refusal.File error.MainRead) f m = rose_before _ _ _ f.faults.main m
cause_since a b c most (refusal.File error.MainWrite) f m = rose_before _ _ _ f.faults.main m
cause_since a b c most (refusal.File error.MainSync) f m = rose_before _ _ _ f.faults.main m
cause_since a b c most (refusal.File error.ArenaRead) f m = rose_before _ _ _ f.faults.arena m
cause_since a b c most (refusal.File error.ArenaWrite) f m = rose_before _ _ _ f.faults.arena m
cause_since a b c most (refusal.File error.ArenaSync) f m = rose_before _ _ _ f.faults.arena m
cause_since a b c most (refusal.File (error.Damaged block)) f m = λ h. m (f.honest h)
cause_since a b c most r f m = m

-- what is no failure needs no cause
pub plain_cause : (a b : FilesState) (most : ℕ) (r : Refusal) → is_failure r ≡ false → HasCause a b most r
plain_cause a b most (refusal.File error.MainRead) plain = absurd cc
plain_cause a b most (refusal.File error.MainWrite) plain = absurd cc
plain_cause a b most (refusal.File error.MainSync) plain = absurd cc
plain_cause a b most (refusal.File error.ArenaRead) plain = absurd cc
plain_cause a b most (refusal.File error.ArenaWrite) plain = absurd cc
plain_cause a b most (refusal.File error.ArenaSync) plain = absurd cc
plain_cause a b most (refusal.File (error.Damaged block)) plain = absurd cc
plain_cause a b most (refusal.File error.Full) plain = absurd cc
plain_cause a b most r plain = tt

-- ---- what is told later of the world of before

fails_before : {A : Type 0} (a b c : FilesState) (told : Result A Refusal) (r : Result A Refusal) → Follows a b → Tells told (MayMiss b.faults c.faults b.honest) r → Tells told (MayMiss a.faults c.faults a.honest) r
fails_before a b c told (Ok x) f t = t
fails_before a b c told (Err r) f t = refused_by told told (MayMiss b.faults c.faults b.honest) (MayMiss a.faults c.faults a.honest) r (λ e. e) (fails_since a.faults b.faults c.faults a.honest b.honest (λ n. ⊥) 0 false f.faults f.honest) t

told_before : {A : Type 0} (a b : FilesState) (told later : Told A) → Follows a b → b.world ≡ a.world → later a.how a.world ≡ told a.how a.world → later b.how b.world ≡ told a.how a.world
told_before a b told later f world same = ap (λ e. later e b.world) f.how ∙ ap (later a.how) world ∙ same

cause_before : {A : Type 0} (a b c : FilesState) (r : Result A Refusal) → Follows a b → IfErr r (HasCause b c 0) → IfErr r (HasCause a c 0)
cause_before a b c (Ok x) f m = tt
cause_before a b c (Err r) f m = cause_since a b c 0 r f m

-- a last call that looks, after others that looked
pub looks_after : {A : Type 0} (a b c : FilesState) (told later : Told A) (r : Result A Refusal) → Follows a b → (a.honest → b.world ≡ a.world) → (a.honest → later a.how a.world ≡ told a.how a.world) → Looks b c later r → Looks a c told r
looks_after a b c told later r f world same l = record {
  answer = λ h.
      let P : Result _ Refusal → Type 0 = λ t. Tells t (MayMiss b.faults c.faults b.honest) r in
      fails_before a b c (told a.how a.world) r f (subst P (told_before a b told later f (world h) (same h)) (l.answer (f.honest h)));
  world = λ h. l.world (f.honest h) ∙ world h;
  cause = cause_before a b c r f l.cause;
}

-- what refuses a part refuses the whole
pub looks_refused : {A B : Type 0} (a b : FilesState) (part : Told A) (whole : Told B) (r : Refusal) → (a.honest → part a.how a.world ≡ Err r → whole a.how a.world ≡ Err r) → Looks a b part (Err r) → Looks a b whole (Err r)
looks_refused a b part whole r told l = record {
  answer = λ h. refused_by (part a.how a.world) (whole a.how a.world) (MayMiss a.faults b.faults a.honest) (MayMiss a.faults b.faults a.honest) r (told h) (λ x m. m) (l.answer h);
  world = l.world;
  cause = l.cause;
}

-- the same of a part that came after others that looked
pub refused_after : {A B : Type 0} (a b c : FilesState) (part : Told A) (whole : Told B) (r : Refusal) → Follows a b → (a.honest → b.world ≡ a.world) → (a.honest → part a.how a.world ≡ Err r → whole a.how a.world ≡ Err r) → Looks b c part (Err r) → Looks a c whole (Err r)
refused_after a b c part whole r f world told l = looks_refused a c part whole r told (looks_after a b c part part (Err r) f world (λ h. refl) l)

-- what is told later is told of the world of before
pub told_at : {A : Type 0} (b c : FilesState) (later : Told A) (x : A) (whole : Bool) (largest : ℕ) (w : World) → b.how.whole ≡ whole → b.how.largest ≡ largest → b.world ≡ w → Looks b c later (Ok x) → b.honest → later (served whole largest) w ≡ Ok x
told_at b c later x whole largest w same_whole same_largest world l h =
    sym (ap (λ t. later (served t b.how.largest) b.world) same_whole ∙ ap (λ n. later (served whole n) b.world) same_largest ∙ ap (later (served whole largest)) world) ∙ l.answer h

pub looks_denied : {A : Type 0} (a b : FilesState) (told : Told A) (r : Refusal) → (a.honest → told a.how a.world ≡ Err r) → (a.honest → b.world ≡ a.world) → HasCause a b 0 r → Looks a b told (Err r)
looks_denied a b told r is world cause = record { answer = λ h. inl (is h); world = world; cause = cause }

pub looks_ok : {A : Type 0} (a b : FilesState) (told : Told A) (x : A) → (a.honest → told a.how a.world ≡ Ok x) → (a.honest → b.world ≡ a.world) → Looks a b told (Ok x)
looks_ok a b told x is world = record { answer = is; world = world; cause = tt }

pub looks_no_memory : {A : Type 0} (a b : FilesState) (told : Told A) → (a.honest → b.world ≡ a.world) → Looks a b told (Err (refusal.File error.Memory))
looks_no_memory a b told world = record { answer = λ h. inr (error.Memory, refl, tt); world = world; cause = tt }

-- ---- calls on files

abbrev pub Stepped : Type 0 → Type 0
Stepped A = Files → World → Result (A × World) FileError

pub seen_looks : {A : Type 0} (a b : FilesState) (step : Stepped A) (x : A) → ((e : Files) (w : World) → Stays w (step e w)) → (a.honest → step a.how a.world ≡ Ok (x, b.world)) → Looks a b (λ e w. looked (step e w)) (Ok x)
seen_looks a b step x stays is = record {
  answer = λ h. (seen (step a.how a.world) a.world b.world x (stays a.how a.world) (is h)).0;
  world = λ h. (seen (step a.how a.world) a.world b.world x (stays a.how a.world) (is h)).1;
  cause = tt;
}

pub missed_looks : {A : Type 0} (a b : FilesState) (step : Stepped A) (x : FileError) → (a.honest → ((step a.how a.world ≡ Err x) ⊎ MayFail a.faults b.faults a.honest b.has_room 0 (is_ok (step a.how a.world)) x) × (b.world ≡ a.world)) → answers.HasCause a.faults b.faults a.honest b.has_room 0 x → Looks a b (λ e w. looked (step e w)) (Err (refusal.File x))
missed_looks a b step x is cause = record {
  answer = λ h. ⊎_elim (λ t. inl (ap looked t)) (λ m. inr (x, refl, misses a.faults b.faults a.honest b.has_room (is_ok (step a.how a.world)) x m)) (is h).0;
  world = λ h. (is h).1;
  cause = cause;
}

-- ---- what is there or not is never refused

apart_at : {A : Type 0} (told : Result A Refusal) (fails : FileError → Type 0) (r : Refusal) (b : Bool) → is_failure r ≡ b → Tells (Ok (found told)) fails (if b then Err r else Ok None) → Tells (Ok (found told)) fails (told_apart (Err r))
apart_at told fails r b is l =
    let P : Bool → Type 0 = λ v. Tells (Ok (found told)) fails (if v then Err r else Ok None) in
    subst P (sym is) l

apart_tells : {A : Type 0} (a b : FilesState) (told : Result A Refusal) (r : Result A Refusal) → IfErr told (λ e. is_failure e ≡ false) → Tells told (MayMiss a.faults b.faults a.honest) r → Tells (Ok (found told)) (MayMiss a.faults b.faults a.honest) (told_apart r)
apart_tells a b told (Ok x) plain l = ap (λ t. Ok (found t)) l
apart_tells a b told (Err r) plain l =
    ⊎_elim
    (λ e. apart_at told (MayMiss a.faults b.faults a.honest) r false (IfErr-at_err (λ v. is_failure v ≡ false) e plain) (ap (λ t. Ok (found t)) e))
    (λ p. apart_at told (MayMiss a.faults b.faults a.honest) r true (ap is_failure p.1 ∙ is_miss a.faults b.faults a.honest p.0 p.2) (inr p)) l

cause_at : (A : Type 0) (a b : FilesState) (r : Refusal) (v : Bool) → HasCause a b 0 r → IfErr (if v then Err r else (let out : Result (Option A) Refusal = Ok None in out)) (HasCause a b 0)
cause_at A a b r true m = m
cause_at A a b r false m = tt

apart_cause : {A : Type 0} (a b : FilesState) (r : Result A Refusal) → IfErr r (HasCause a b 0) → IfErr (told_apart r) (HasCause a b 0)
apart_cause a b (Ok x) m = tt
apart_cause a b (Err r) m = cause_at _ a b r (is_failure r) m

pub apart_looks : {A : Type 0} (a b : FilesState) (told : Told A) (r : Result A Refusal) → ((e : Files) (w : World) → IfErr (told e w) (λ e. is_failure e ≡ false)) → Looks a b told r → Looks a b (λ e w. Ok (found (told e w))) (told_apart r)
apart_looks a b told r plain l = record {
  answer = λ h. apart_tells a b (told a.how a.world) r (plain a.how a.world) (l.answer h);
  world = l.world;
  cause = apart_cause a b r l.cause;
}

-- ---- where what is told is known otherwise

pub looks_as : {A : Type 0} (a b : FilesState) (told part : Told A) (r : Result A Refusal) → (a.honest → part a.how a.world ≡ told a.how a.world) → Looks a b part r → Looks a b told r
looks_as a b told part r same l = record {
  answer = λ h. let P : Result _ Refusal → Type 0 = λ t. Tells t (MayMiss a.faults b.faults a.honest) r in subst P (same h) (l.answer h);
  world = l.world;
  cause = l.cause;
}

-- what is granted but for memory
pub looks_memory : {A : Type 0} (a b : FilesState) (told : Files → World → A) (x : A) (r : Result A Refusal) → (a.honest → told a.how a.world ≡ x) → (a.honest → b.world ≡ a.world) → IfOk r (λ y. y ≡ x) → IfErr r (λ e. e ≡ refusal.File error.Memory) → Looks a b (λ e w. Ok (told e w)) r
looks_memory a b told x (Ok y) same world is m = looks_ok a b (λ e w. Ok (told e w)) y (λ h. ap Ok (same h ∙ sym is)) world
looks_memory a b told x (Err r) same world is m =
    let P : Refusal → Type 0 = λ v. Looks a b (λ e w. Ok (told e w)) (Err v) in
    subst P (sym m) (looks_no_memory a b (λ e w. Ok (told e w)) world)

-- a part that is never refused by what is told
pub looks_failed : {A B : Type 0} (a b : FilesState) (part : Files → World → A) (whole : Told B) (r : Refusal) → Looks a b (λ e w. Ok (part e w)) (Err r) → Looks a b whole (Err r)
looks_failed a b part whole r l = looks_refused a b (λ e w. Ok (part e w)) whole r (λ h e. absurd cc) l

pub failed_after : {A B : Type 0} (a b c : FilesState) (part : Files → World → A) (whole : Told B) (r : Refusal) → Follows a b → (a.honest → b.world ≡ a.world) → Looks b c (λ e w. Ok (part e w)) (Err r) → Looks a c whole (Err r)
failed_after a b c part whole r f world l = refused_after a b c (λ e w. Ok (part e w)) whole r f world (λ h e. absurd cc) l
