-- Calls that change files, over any devices: the call itself, and the calls before it that look.
use Rattle.std.proofs.Common.{◌≡◌, ℕ, ◌≤◌, Bool, Result, Ok, Err, refl, sym, ap, subst, ◌∙◌, inl, inr, ⊎_elim, ◌⊎◌, arith}
use Rattle.std.specs.Prelude.{is_ok, if◌then◌else◌, IfErr}
use Rattle.fo_world.specs.declared.error.FileError.{FileError}
use Rattle.fo_world.specs.declared.error.FileError.TheVariants as error
use Rattle.fo_world.specs.World.{World, Faults}
use Rattle.fo_world.specs.Answers.{MayFail, is_fault, granted_world, world_beside, tried}
use Rattle.fo_world.specs.Answers as answers
use Rattle.nine_fids.specs.declared.refusal.Refusal.{Refusal}
use Rattle.nine_fids.specs.declared.refusal.Refusal.TheVariants as refusal
use Rattle.fo_world.specs.Chain.{and_then}
use Rattle.nine_fids.specs.Refusing.{changed}
use Rattle.nine_fids.specs.Told.{Files, served}
use Rattle.nine_fids.specs.Looking.{FilesState, Follows, HasCause, IsRefused, Looks}
use Rattle.nine_fids.proofs.Missing.{fails_since, none_below, refused_by}
use Rattle.nine_fids.proofs.Seeing.{Stepped, Told, cause_since, looks_denied}
use Rattle.nine_files.specs.Answering.{Changes, FailsBy, HadRoom, IsChanged, IsLed, Leads, world_told, is_file_fault}
use Rattle.nine_files.proofs.Links.{refused_looking}
use Rattle.nine_files.proofs.Touching.{given_granted, led_granted}

abbrev pub state_of : Bool → ℕ → World → Faults → Type 0 → (ℕ → Type 0) → FilesState
state_of whole largest world faults honest has_room = record { how = served whole largest; world = world; faults = faults; honest = honest; has_room = has_room }

abbrev pub Touches : Type 1
Touches = World → ℕ → Type 0

abbrev pub Needs : Type 0
Needs = Files → World → ℕ

-- ---- from one moment to a later one

-- what is said of the world later is said of the one before
pub carried : (a b : FilesState) (P : Files → World → Type 0) → Follows a b → b.world ≡ a.world → P b.how b.world → P a.how a.world
carried a b P f world p = subst (λ w. P a.how w) world (subst (λ e. P e b.world) f.how p)

pub cause_more : (a b : FilesState) (most : ℕ) (r : Refusal) → HasCause a b 0 r → HasCause a b most r
cause_more a b most (refusal.File error.Full) m = absurd (none_below m.0 m.2)
cause_more a b most r m = m

-- ---- a call that changes, by itself

abbrev pub led : {A : Type 0} → Stepped A → Told World
led step = λ e w. and_then (changed (step e w)) (λ p. Ok p.1)

abbrev pub gives : {A B : Type 0} → B → Stepped A → Told (B × World)
gives y step = λ e w. and_then (changed (step e w)) (λ p. Ok (y, p.1))

led_err : {A : Type 0} (told : Result (A × World) FileError) (fails : Bool → FileError → Type 0) (x : FileError) → (told ≡ Err x) ⊎ fails (is_ok told) x → (let on : Result World Refusal = and_then (changed told) (λ p. Ok p.1) in IsRefused on (fails (is_ok on)) (refusal.File x))
led_err (Ok p) fails x h = ⊎_elim (λ t. absurd cc) (λ m. inr (x, refl, m)) h
led_err (Err y) fails x h = ⊎_elim (λ t. inl cc) (λ m. inr (x, refl, m)) h

gives_err : {A B : Type 0} (y : B) (told : Result (A × World) FileError) (fails : Bool → FileError → Type 0) (x : FileError) → (told ≡ Err x) ⊎ fails (is_ok told) x → (let on : Result (B × World) Refusal = and_then (changed told) (λ p. Ok (y, p.1)) in IsRefused on (fails (is_ok on)) (refusal.File x))
gives_err y (Ok p) fails x h = ⊎_elim (λ t. absurd cc) (λ m. inr (x, refl, m)) h
gives_err y (Err z) fails x h = ⊎_elim (λ t. inl cc) (λ m. inr (x, refl, m)) h

module _ {A : Type 0} (b c : FilesState) (touches : Touches) (step : Stepped A) (need : Needs) (most : ℕ) where
  pub leads_err : (x : FileError)
      → (b.honest → ((step b.how b.world ≡ Err x) ⊎ MayFail b.faults c.faults b.honest c.has_room (need b.how b.world) (is_ok (step b.how b.world)) x) × (c.world ≡ b.world))
      → (b.honest → touches (if is_fault x then granted_world world_beside (step b.how b.world) b.world else b.world) (need b.how b.world))
      → answers.HasCause b.faults c.faults b.honest c.has_room most x
      → ((w : World) × touches w most)
      → Leads b c touches (led step) need most (Err (refusal.File x))
  leads_err x answer touched cause taken = record {
    answer = λ h. (led_err (step b.how b.world) (FailsBy b c (need b.how b.world)) x (answer h).0, (answer h).1);
    room = λ h. tt;
    touched = λ h. subst (λ g. touches (if is_fault x then g else b.world) (need b.how b.world)) (sym (led_granted (step b.how b.world) b.world)) (touched h);
    cause = cause;
    taken = taken;
  }

  pub leads_ok : (x : A)
      → (b.honest → step b.how b.world ≡ Ok (x, c.world))
      → (b.honest → (n : ℕ) → b.has_room n → need b.how b.world ≤ n)
      → (b.honest → touches (granted_world world_beside (step b.how b.world) b.world) (need b.how b.world))
      → ((w : World) × touches w most)
      → Leads b c touches (led step) need most (Ok tt)
  leads_ok x answer room touched taken = record {
    answer = λ h. ap (λ t. and_then (changed t) (λ p. Ok p.1)) (answer h);
    room = room;
    touched = λ h. subst (λ g. touches g (need b.how b.world)) (sym (led_granted (step b.how b.world) b.world)) (touched h);
    cause = tt;
    taken = taken;
  }

  module _ {B : Type 0} (y : B) where
    pub changes_err : (x : FileError)
        → (b.honest → ((step b.how b.world ≡ Err x) ⊎ MayFail b.faults c.faults b.honest c.has_room (need b.how b.world) (is_ok (step b.how b.world)) x) × (c.world ≡ b.world))
        → (b.honest → touches (if is_fault x then granted_world world_beside (step b.how b.world) b.world else b.world) (need b.how b.world))
        → answers.HasCause b.faults c.faults b.honest c.has_room most x
        → ((w : World) × touches w most)
        → Changes b c touches (gives y step) need most (Err (refusal.File x))
    changes_err x answer touched cause taken = record {
      answer = λ h. (gives_err y (step b.how b.world) (FailsBy b c (need b.how b.world)) x (answer h).0, (answer h).1);
      room = λ h. tt;
      touched = λ h. subst (λ g. touches (if is_fault x then g else b.world) (need b.how b.world)) (sym (given_granted (step b.how b.world) y b.world)) (touched h);
      cause = cause;
      taken = taken;
    }

    pub changes_ok : (x : A)
        → (b.honest → step b.how b.world ≡ Ok (x, c.world))
        → (b.honest → (n : ℕ) → b.has_room n → need b.how b.world ≤ n)
        → (b.honest → touches (granted_world world_beside (step b.how b.world) b.world) (need b.how b.world))
        → ((w : World) × touches w most)
        → Changes b c touches (gives y step) need most (Ok y)
    changes_ok x answer room touched taken = record {
      answer = λ h. ap (λ t. and_then (changed t) (λ p. Ok (y, p.1))) (answer h);
      room = room;
      touched = λ h. subst (λ g. touches g (need b.how b.world)) (sym (given_granted (step b.how b.world) y b.world)) (touched h);
      cause = tt;
      taken = taken;
    }

-- ---- in other words

led_as : (r : Result (Unit {0}) Refusal) (a b : FilesState) (t t' : Result World Refusal) (n n' : ℕ) → t ≡ t' → n ≡ n' → IsLed t (FailsBy a b n (is_ok t)) a.world b.world r → IsLed t' (FailsBy a b n' (is_ok t')) a.world b.world r
led_as r a b t t' n n' same even l =
    let P : Result World Refusal → Type 0 = λ u. IsLed u (FailsBy a b n' (is_ok u)) a.world b.world r in
    let Q : ℕ → Type 0 = λ k. IsLed t (FailsBy a b k (is_ok t)) a.world b.world r in
    subst P same (subst Q even l)

pub leads_as : (a b : FilesState) (touches : Touches) (told told' : Told World) (need need' : Needs) (most most' : ℕ) (r : Result (Unit {0}) Refusal)
    → (a.honest → told a.how a.world ≡ told' a.how a.world) → (a.honest → need a.how a.world ≡ need' a.how a.world) → most ≡ most'
    → Leads a b touches told need most r → Leads a b touches told' need' most' r
leads_as a b touches told told' need need' most most' r same even full l = record {
  answer = λ h. led_as r a b (told a.how a.world) (told' a.how a.world) (need a.how a.world) (need' a.how a.world) (same h) (even h) (l.answer h);
  room = λ h. subst (λ k. HadRoom a.has_room k r) (even h) (l.room h);
  touched = λ h. subst (λ u. touches (tried is_file_fault (granted_world world_told u a.world) a.world r) (need' a.how a.world)) (same h) (subst (λ k. touches (tried is_file_fault (granted_world world_told (told a.how a.world) a.world) a.world r) k) (even h) (l.touched h));
  cause = subst (λ k. IfErr r (HasCause a b k)) full l.cause;
  taken = subst (λ k. (w : World) × touches w k) full l.taken;
}

changed_as : {A : Type 0} (r : Result A Refusal) (a b : FilesState) (t t' : Result (A × World) Refusal) (n n' : ℕ) → t ≡ t' → n ≡ n' → IsChanged t (FailsBy a b n (is_ok t)) a.world b.world r → IsChanged t' (FailsBy a b n' (is_ok t')) a.world b.world r
changed_as r a b t t' n n' same even l =
    let P : Result (_ × World) Refusal → Type 0 = λ u. IsChanged u (FailsBy a b n' (is_ok u)) a.world b.world r in
    let Q : ℕ → Type 0 = λ k. IsChanged t (FailsBy a b k (is_ok t)) a.world b.world r in
    subst P same (subst Q even l)

pub changes_as : {A : Type 0} (a b : FilesState) (touches : Touches) (told told' : Told (A × World)) (need need' : Needs) (most most' : ℕ) (r : Result A Refusal)
    → (a.honest → told a.how a.world ≡ told' a.how a.world) → (a.honest → need a.how a.world ≡ need' a.how a.world) → most ≡ most'
    → Changes a b touches told need most r → Changes a b touches told' need' most' r
changes_as a b touches told told' need need' most most' r same even full l = record {
  answer = λ h. changed_as r a b (told a.how a.world) (told' a.how a.world) (need a.how a.world) (need' a.how a.world) (same h) (even h) (l.answer h);
  room = λ h. subst (λ k. HadRoom a.has_room k r) (even h) (l.room h);
  touched = λ h. subst (λ u. touches (tried is_file_fault (granted_world world_beside u a.world) a.world r) (need' a.how a.world)) (same h) (subst (λ k. touches (tried is_file_fault (granted_world world_beside (told a.how a.world) a.world) a.world r) k) (even h) (l.touched h));
  cause = subst (λ k. IfErr r (HasCause a b k)) full l.cause;
  taken = subst (λ k. (w : World) × touches w k) full l.taken;
}

-- ---- after calls that looked

pub had_before : {A : Type 0} (has_room has_room' : ℕ → Type 0) (need : ℕ) (r : Result A Refusal) → ((n : ℕ) → has_room n → has_room' n) → HadRoom has_room' need r → HadRoom has_room need r
had_before has_room has_room' need (Ok x) up h = λ n has. h n (up n has)
had_before has_room has_room' need (Err r) up h = tt

led_before : (a b c : FilesState) (told : Result World Refusal) (need : ℕ) (w : World) (r : Result (Unit {0}) Refusal) → Follows a b → IsLed told (FailsBy b c need (is_ok told)) w c.world r → IsLed told (FailsBy a c need (is_ok told)) w c.world r
led_before a b c told need w (Ok x) f l = l
led_before a b c told need w (Err r) f l = (refused_by told told (FailsBy b c need (is_ok told)) (FailsBy a c need (is_ok told)) r (λ t. t) (fails_since a.faults b.faults c.faults a.honest b.honest c.has_room need (is_ok told) f.faults f.honest) l.0, l.1)

led_cause : (a b c : FilesState) (most : ℕ) (r : Result (Unit {0}) Refusal) → Follows a b → IfErr r (HasCause b c most) → IfErr r (HasCause a c most)
led_cause a b c most (Ok x) f m = tt
led_cause a b c most (Err r) f m = cause_since a b c most r f m

pub leads_after : (a b c : FilesState) (touches touches' : Touches) (told : Told World) (need : Needs) (most : ℕ) (r : Result (Unit {0}) Refusal)
    → Follows a b → (a.honest → b.world ≡ a.world) → ((n : ℕ) → a.has_room n → b.has_room n) → ((w : World) (n : ℕ) → touches' w n → touches w n)
    → Leads b c touches' told need most r → Leads a c touches told need most r
leads_after a b c touches touches' told need most r f world room up l = record {
  answer = λ h. led_before a b c (told a.how a.world) (need a.how a.world) a.world r f
      (carried a b (λ e w. IsLed (told e w) (FailsBy b c (need e w) (is_ok (told e w))) w c.world r) f (world h) (l.answer (f.honest h)));
  room = λ h. had_before a.has_room b.has_room (need a.how a.world) r room (carried a b (λ e w. HadRoom b.has_room (need e w) r) f (world h) (l.room (f.honest h)));
  touched = λ h. up _ _ (carried a b (λ e w. touches' (tried is_file_fault (granted_world world_told (told e w) w) w r) (need e w)) f (world h) (l.touched (f.honest h)));
  cause = led_cause a b c most r f l.cause;
  taken = (l.taken.0, up _ _ l.taken.1);
}

-- what only looked refuses the whole
pub leads_looked : {B : Type 0} (a b : FilesState) (touches : Touches) (part : Told B) (told : Told World) (need : Needs) (most : ℕ) (r : Refusal)
    → (a.honest → part a.how a.world ≡ Err r → told a.how a.world ≡ Err r) → ((w : World) (n : ℕ) → touches w n)
    → Looks a b part (Err r) → Leads a b touches told need most (Err r)
leads_looked a b touches part told need most r up any l = record {
  answer = λ h. (refused_looking (part a.how a.world) (told a.how a.world) a.faults b.faults a.honest b.has_room (need a.how a.world) (is_ok (told a.how a.world)) r (up h) (l.answer h), l.world h);
  room = λ h. tt;
  touched = λ h. any _ _;
  cause = cause_more a b most r l.cause;
  taken = (a.world, any a.world most);
}

pub leads_denied : (a b : FilesState) (touches : Touches) (told : Told World) (need : Needs) (most : ℕ) (r : Refusal)
    → (a.honest → told a.how a.world ≡ Err r) → (a.honest → b.world ≡ a.world) → HasCause a b 0 r → ((w : World) (n : ℕ) → touches w n)
    → Leads a b touches told need most (Err r)
leads_denied a b touches told need most r is world cause any = leads_looked a b touches told told need most r (λ h e. e) any (looks_denied a b told r is world cause)

-- granted, and nothing changes
pub leads_still : (a b : FilesState) (touches : Touches) (told : Told World) (need : Needs) (most : ℕ)
    → (a.honest → told a.how a.world ≡ Ok a.world) → (a.honest → need a.how a.world ≡ 0) → (a.honest → b.world ≡ a.world) → ((w : World) (n : ℕ) → touches w n)
    → Leads a b touches told need most (Ok tt)
leads_still a b touches told need most is none world any = record {
  answer = λ h. is h ∙ ap Ok (sym (world h));
  room = λ h n has. let zero : need a.how a.world ≡ 0 = none h in omega arith;
  touched = λ h. any _ _;
  cause = tt;
  taken = (a.world, any a.world most);
}

pub changes_still : {A : Type 0} (a : FilesState) (touches : Touches) (told : Told (A × World)) (need : Needs) (most : ℕ) (x : A)
    → (a.honest → told a.how a.world ≡ Ok (x, a.world)) → (a.honest → need a.how a.world ≡ 0) → ((w : World) (n : ℕ) → touches w n)
    → Changes a a touches told need most (Ok x)
changes_still a touches told need most x is none any = record {
  answer = is;
  room = λ h n has. let zero : need a.how a.world ≡ 0 = none h in omega arith;
  touched = λ h. any _ _;
  cause = tt;
  taken = (a.world, any a.world most);
}
