-- What a method of a session does for a request, over any devices: one lemma for each way in which it comes out.
use Rattle.std.proofs.Common.{◌≡◌, ℕ, ◌≤◌, Bool, false, Result, Ok, Err, refl, sym, ap, subst, ◌∙◌, inl, inr, ⊎_elim, ◌⊎◌, arith}
use Rattle.std.specs.Prelude.{is_ok, IfErr, if◌then◌else◌}
use Rattle.nine_wire.specs.declared.message.Reply.{Reply}
use Rattle.fo_world.specs.declared.error.FileError.{FileError}
use Rattle.fo_world.specs.declared.error.FileError.TheVariants as error
use Rattle.fo_world.specs.World.{World}
use Rattle.fo_world.specs.Answers.{MayFail, is_fault, granted_world, tried, world_beside}
use Rattle.fo_world.specs.Answers as answers
use Rattle.nine_fids.specs.declared.refusal.Refusal.{Refusal}
use Rattle.nine_fids.specs.declared.refusal.Refusal.TheVariants as refusal
use Rattle.fo_world.specs.Chain.{and_then}
use Rattle.nine_fids.specs.Refusing.{changed, is_failure}
use Rattle.nine_fids.specs.Told.{Files}
use Rattle.nine_fids.specs.Fids.{State}
use Rattle.nine_fids.specs.Looking.{FilesState, Follows, HasCause, IsRefused, Looks}
use Rattle.nine_fids.proofs.Missing.{fails_since, refused_by}
use Rattle.nine_fids.proofs.Seeing.{Stepped, cause_since, looks_no_memory}
use Rattle.nine_files.specs.Answering.{Changes, FailsBy, HadRoom, IsChanged, Leads, is_file_fault, world_told}
use Rattle.nine_files.proofs.Links.{looks_plain, refused_looking}
use Rattle.nine_files.proofs.Making.{carried, cause_more, had_before}
use Rattle.nine_session.specs.Attempting.{Attempted, Attempts}
use Rattle.nine_session.specs.Session.{Kept, Told, Touches, in_files, kept_of, world_after}
use Rattle.nine_session.proofs.Ends.{end_refused}
use Rattle.nine_session.proofs.Links.{world_led, world_with}

-- the last link tells more than a world
pub chain_refused : {A : Type 0} (told : Result (A × World) Refusal) (rest : A × World → Reply × State) (fails : Bool → FileError → Type 0) (r : Refusal) → IsRefused told (fails (is_ok told)) r → (let on : Told = and_then told (λ p. Ok (rest p)) in IsRefused on (fails (is_ok on)) r)
chain_refused (Ok p) rest fails r h = ⊎_elim (λ t. absurd cc) (λ m. inr m) h
chain_refused (Err x) rest fails r h = ⊎_elim (λ t. inl cc) (λ m. inr m) h

module _ (a c : FilesState) (within : Touches) (k k' : Kept) (told : Files → State → Told) (need : Files → State → ℕ) (most : ℕ) (left : State → State) where
  left_so : k' ≡ kept_of (left (in_files k a.world)) → c.world ≡ (left (in_files k a.world)).world → in_files k' c.world ≡ left (in_files k a.world)
  left_so kept world = ap (λ (x : Kept). in_files x c.world) kept ∙ ap (λ (w : World). in_files (kept_of (left (in_files k a.world))) w) world

  -- ---- what only looked refuses the whole

  pub attempted_looked : {B : Type 0} (part : Files → World → Result B Refusal) (r : Refusal)
      → (a.honest → part a.how a.world ≡ Err r → told a.how (in_files k a.world) ≡ Err r)
      → Looks a c part (Err r)
      → k' ≡ kept_of (left (in_files k a.world)) → (left (in_files k a.world)).world ≡ a.world
      → ((w : World) (n : ℕ) → within w n)
      → Attempted a c within k k' told need most left (Err r)
  attempted_looked part r up l kept stays any = record {
    answer = λ h.
        let z = in_files k a.world in
        (refused_looking (part a.how a.world) (told a.how z) a.faults c.faults a.honest c.has_room (need a.how z) (is_ok (told a.how z)) r (up h) (l.answer h), left_so kept (l.world h ∙ sym stays));
    room = λ h. tt;
    touched = λ h. any _ _;
    cause = cause_more a c most r l.cause;
    left_is = kept;
    taken = (a.world, any a.world most);
  }

  -- refused by the definition, which is no failure
  pub attempted_denied : (r : Refusal)
      → (a.honest → told a.how (in_files k a.world) ≡ Err r) → (a.honest → c.world ≡ a.world) → is_failure r ≡ false
      → k' ≡ kept_of (left (in_files k a.world)) → (left (in_files k a.world)).world ≡ a.world
      → ((w : World) (n : ℕ) → within w n)
      → Attempted a c within k k' told need most left (Err r)
  attempted_denied r is world plain kept stays any =
      attempted_looked (λ e w. told e (in_files k w)) r (λ h e. e) (looks_plain a c (λ e w. told e (in_files k w)) r is world plain) kept stays any

  -- granted, and no block is needed
  pub attempted_still : (r : Reply)
      → (a.honest → told a.how (in_files k a.world) ≡ Ok (r, in_files k' c.world)) → (a.honest → need a.how (in_files k a.world) ≡ 0)
      → ((w : World) (n : ℕ) → within w n)
      → Attempted a c within k k' told need most left (Ok r)
  attempted_still r is none any = record {
    answer = is;
    room = λ h n has. let zero : need a.how (in_files k a.world) ≡ 0 = none h in omega arith;
    touched = λ h. any _ _;
    cause = tt;
    left_is = tt;
    taken = (a.world, any a.world most);
  }

  -- ---- a last call that leads to a world

  module _ (part : Files → World → Result World Refusal) (needs : Files → World → ℕ) (go : World → Reply × State)
      (is : a.honest → told a.how (in_files k a.world) ≡ and_then (part a.how a.world) (λ w. Ok (go w)))
      (same : (w : World) → (go w).1.world ≡ w)
      (even : a.honest → needs a.how a.world ≡ need a.how (in_files k a.world)) where
    pub led_refused : (r : Refusal) → Leads a c within part needs most (Err r)
        → k' ≡ kept_of (left (in_files k a.world)) → (left (in_files k a.world)).world ≡ a.world
        → Attempted a c within k k' told need most left (Err r)
    led_refused r l kept stays = record {
      answer = λ h.
          let z = in_files k a.world in
          let P : Told → Type 0 = λ t. IsRefused t (FailsBy a c (need a.how z) (is_ok t)) r in
          let Q : ℕ → Type 0 = λ n. IsRefused (part a.how a.world) (FailsBy a c n (is_ok (part a.how a.world))) r in
          (subst P (sym (is h)) (end_refused (part a.how a.world) go (FailsBy a c (need a.how z)) r (subst Q (even h) (l.answer h).0)), left_so kept ((l.answer h).1 ∙ sym stays));
      room = λ h. tt;
      touched = λ h.
          let z = in_files k a.world in
          let P : World → Type 0 = λ g. within (tried {A = Reply} is_file_fault g a.world (Err r)) (need a.how z) in
          let Q : ℕ → Type 0 = λ n. within (tried {A = Reply} is_file_fault (granted_world world_told (part a.how a.world) a.world) a.world (Err r)) n in
          subst P (sym (world_led (told a.how z) (part a.how a.world) go a.world (is h) same)) (subst Q (even h) (l.touched h));
      cause = l.cause;
      left_is = kept;
      taken = l.taken;
    }

    pub led_granted : (r : Reply) → Leads a c within part needs most (Ok tt) → (a.honest → go c.world ≡ (r, in_files k' c.world)) → Attempted a c within k k' told need most left (Ok r)
    led_granted r l end = record {
      answer = λ h. is h ∙ ap (λ t. and_then t (λ w. Ok (go w))) (l.answer h) ∙ ap Ok (end h);
      room = λ h n has. subst (λ m. m ≤ n) (even h) (l.room h n has);
      touched = λ h.
          let z = in_files k a.world in
          let P : World → Type 0 = λ g. within g (need a.how z) in
          let Q : ℕ → Type 0 = λ n. within (granted_world world_told (part a.how a.world) a.world) n in
          subst P (sym (world_led (told a.how z) (part a.how a.world) go a.world (is h) same)) (subst Q (even h) (l.touched h));
      cause = tt;
      left_is = tt;
      taken = l.taken;
    }

  -- ---- a last call that tells more than the world

  module _ {A : Type 0} (part : Files → World → Result (A × World) Refusal) (needs : Files → World → ℕ) (go : A × World → Reply × State)
      (is : a.honest → told a.how (in_files k a.world) ≡ and_then (part a.how a.world) (λ p. Ok (go p)))
      (same : (p : A × World) → (go p).1.world ≡ p.1)
      (even : a.honest → needs a.how a.world ≡ need a.how (in_files k a.world)) where
    pub changed_refused : (r : Refusal) → Changes a c within part needs most (Err r)
        → k' ≡ kept_of (left (in_files k a.world)) → (left (in_files k a.world)).world ≡ a.world
        → Attempted a c within k k' told need most left (Err r)
    changed_refused r l kept stays = record {
      answer = λ h.
          let z = in_files k a.world in
          let P : Told → Type 0 = λ t. IsRefused t (FailsBy a c (need a.how z) (is_ok t)) r in
          let Q : ℕ → Type 0 = λ n. IsRefused (part a.how a.world) (FailsBy a c n (is_ok (part a.how a.world))) r in
          (subst P (sym (is h)) (chain_refused (part a.how a.world) go (FailsBy a c (need a.how z)) r (subst Q (even h) (l.answer h).0)), left_so kept ((l.answer h).1 ∙ sym stays));
      room = λ h. tt;
      touched = λ h.
          let z = in_files k a.world in
          let P : World → Type 0 = λ g. within (tried {A = Reply} is_file_fault g a.world (Err r)) (need a.how z) in
          let Q : ℕ → Type 0 = λ n. within (tried {A = Reply} is_file_fault (granted_world world_beside (part a.how a.world) a.world) a.world (Err r)) n in
          subst P (sym (world_with (told a.how z) (part a.how a.world) go a.world (is h) same)) (subst Q (even h) (l.touched h));
      cause = l.cause;
      left_is = kept;
      taken = l.taken;
    }

    pub changed_done : (r : Reply) (x : A) → Changes a c within part needs most (Ok x) → (a.honest → go (x, c.world) ≡ (r, in_files k' c.world)) → Attempted a c within k k' told need most left (Ok r)
    changed_done r x l end = record {
      answer = λ h. is h ∙ ap (λ t. and_then t (λ p. Ok (go p))) (l.answer h) ∙ ap Ok (end h);
      room = λ h n has. subst (λ m. m ≤ n) (even h) (l.room h n has);
      touched = λ h.
          let z = in_files k a.world in
          let P : World → Type 0 = λ g. within g (need a.how z) in
          let Q : ℕ → Type 0 = λ n. within (granted_world world_beside (part a.how a.world) a.world) n in
          subst P (sym (world_with (told a.how z) (part a.how a.world) go a.world (is h) same)) (subst Q (even h) (l.touched h));
      cause = tt;
      left_is = tt;
      taken = l.taken;
    }

-- ---- a call that changes, after calls that looked

changed_before : {A : Type 0} (a b c : FilesState) (told : Result (A × World) Refusal) (need : ℕ) (w : World) (r : Result A Refusal) → Follows a b → IsChanged told (FailsBy b c need (is_ok told)) w c.world r → IsChanged told (FailsBy a c need (is_ok told)) w c.world r
changed_before a b c told need w (Ok x) f l = l
changed_before a b c told need w (Err r) f l = (refused_by told told (FailsBy b c need (is_ok told)) (FailsBy a c need (is_ok told)) r (λ t. t) (fails_since a.faults b.faults c.faults a.honest b.honest c.has_room need (is_ok told) f.faults f.honest) l.0, l.1)

changed_cause : {A : Type 0} (a b c : FilesState) (most : ℕ) (r : Result A Refusal) → Follows a b → IfErr r (HasCause b c most) → IfErr r (HasCause a c most)
changed_cause a b c most (Ok x) f m = tt
changed_cause a b c most (Err r) f m = cause_since a b c most r f m

pub changes_after : {A : Type 0} (a b c : FilesState) (touches touches' : Touches) (told : Files → World → Result (A × World) Refusal) (need : Files → World → ℕ) (most : ℕ) (r : Result A Refusal)
    → Follows a b → (a.honest → b.world ≡ a.world) → ((n : ℕ) → a.has_room n → b.has_room n) → ((w : World) (n : ℕ) → touches' w n → touches w n)
    → Changes b c touches' told need most r → Changes a c touches told need most r
changes_after a b c touches touches' told need most r f world room up l = record {
  answer = λ h. changed_before a b c (told a.how a.world) (need a.how a.world) a.world r f
      (carried a b (λ e w. IsChanged (told e w) (FailsBy b c (need e w) (is_ok (told e w))) w c.world r) f (world h) (l.answer (f.honest h)));
  room = λ h. had_before a.has_room b.has_room (need a.how a.world) r room (carried a b (λ e w. HadRoom b.has_room (need e w) r) f (world h) (l.room (f.honest h)));
  touched = λ h. up _ _ (carried a b (λ e w. touches' (tried is_file_fault (granted_world world_beside (told e w) w) w r) (need e w)) f (world h) (l.touched (f.honest h)));
  cause = changed_cause a b c most r f l.cause;
  taken = (l.taken.0, up _ _ l.taken.1);
}

-- ---- in other words

as_told : (told told' : Told) (fails : ℕ → Bool → FileError → Type 0) (n n' : ℕ) (left left' z' : State) (result : Result Reply Refusal) → told ≡ told' → n ≡ n' → left ≡ left' → Attempts told (fails n (is_ok told)) left z' result → Attempts told' (fails n' (is_ok told')) left' z' result
as_told told told' fails n n' left left' z' result same even leaves l =
    let P : Told → Type 0 = λ t. Attempts t (fails n' (is_ok t)) left' z' result in
    let Q : ℕ → Type 0 = λ m. Attempts told (fails m (is_ok told)) left' z' result in
    let R : State → Type 0 = λ s. Attempts told (fails n (is_ok told)) s z' result in
    subst P same (subst Q even (subst R leaves l))

-- where what is told, what is needed and what is left are known otherwise
pub attempted_as : (a c : FilesState) (within : Touches) (k k' : Kept) (told told' : Files → State → Told) (need need' : Files → State → ℕ) (most most' : ℕ) (left left' : State → State) (result : Result Reply Refusal)
    → (a.honest → told a.how (in_files k a.world) ≡ told' a.how (in_files k a.world))
    → (a.honest → need a.how (in_files k a.world) ≡ need' a.how (in_files k a.world))
    → most ≡ most'
    → left (in_files k a.world) ≡ left' (in_files k a.world)
    → Attempted a c within k k' told need most left result → Attempted a c within k k' told' need' most' left' result
attempted_as a c within k k' told told' need need' most most' left left' result same even full leaves l =
    let z = in_files k a.world in
    record {
      answer = λ h. as_told (told a.how z) (told' a.how z) (FailsBy a c) (need a.how z) (need' a.how z) (left z) (left' z) (in_files k' c.world) result (same h) (even h) leaves (l.answer h);
      room = λ h. subst (λ n. HadRoom a.has_room n result) (even h) (l.room h);
      touched = λ h. subst (λ (t : Told). within (tried is_file_fault (granted_world world_after t a.world) a.world result) (need' a.how z)) (same h) (subst (λ n. within (tried is_file_fault (granted_world world_after (told a.how z) a.world) a.world result) n) (even h) (l.touched h));
      cause = subst (λ n. IfErr result (HasCause a c n)) full l.cause;
      left_is = subst (λ (s : State). IfErr result (λ _. k' ≡ kept_of s)) leaves l.left_is;
      taken = subst (λ n. (w : World) × within w n) full l.taken;
    }

-- ---- a call of the files that changes, by itself

changed_granted : {A : Type 0} (told : Result (A × World) FileError) (w : World) → granted_world world_beside (changed told) w ≡ granted_world world_beside told w
changed_granted (Ok p) w = refl
changed_granted (Err x) w = refl

changed_err : {A : Type 0} (told : Result (A × World) FileError) (fails : Bool → FileError → Type 0) (x : FileError) → (told ≡ Err x) ⊎ fails (is_ok told) x → IsRefused (changed told) (fails (is_ok (changed told))) (refusal.File x)
changed_err (Ok p) fails x h = ⊎_elim (λ t. absurd cc) (λ m. inr (x, refl, m)) h
changed_err (Err y) fails x h = ⊎_elim (λ t. inl cc) (λ m. inr (x, refl, m)) h

module _ {A : Type 0} (b c : FilesState) (touches : Touches) (step : Stepped A) (need : Files → World → ℕ) (most : ℕ) where
  pub makes_err : (x : FileError)
      → (b.honest → ((step b.how b.world ≡ Err x) ⊎ MayFail b.faults c.faults b.honest c.has_room (need b.how b.world) (is_ok (step b.how b.world)) x) × (c.world ≡ b.world))
      → (b.honest → touches (if is_fault x then granted_world world_beside (step b.how b.world) b.world else b.world) (need b.how b.world))
      → answers.HasCause b.faults c.faults b.honest c.has_room most x
      → ((w : World) × touches w most)
      → Changes b c touches (λ e w. changed (step e w)) need most (Err (refusal.File x))
  makes_err x answer touched cause taken = record {
    answer = λ h. (changed_err (step b.how b.world) (FailsBy b c (need b.how b.world)) x (answer h).0, (answer h).1);
    room = λ h. tt;
    touched = λ h. subst (λ g. touches (if is_fault x then g else b.world) (need b.how b.world)) (sym (changed_granted (step b.how b.world) b.world)) (touched h);
    cause = cause;
    taken = taken;
  }

  pub makes_ok : (x : A)
      → (b.honest → step b.how b.world ≡ Ok (x, c.world))
      → (b.honest → (n : ℕ) → b.has_room n → need b.how b.world ≤ n)
      → (b.honest → touches (granted_world world_beside (step b.how b.world) b.world) (need b.how b.world))
      → ((w : World) × touches w most)
      → Changes b c touches (λ e w. changed (step e w)) need most (Ok x)
  makes_ok x answer room touched taken = record {
    answer = λ h. ap changed (answer h);
    room = room;
    touched = λ h. subst (λ g. touches g (need b.how b.world)) (sym (changed_granted (step b.how b.world) b.world)) (touched h);
    cause = tt;
    taken = taken;
  }

-- want of memory, after calls that looked
pub attempted_no_memory : (a c : FilesState) (within : Touches) (k k' : Kept) (told : Files → State → Told) (need : Files → State → ℕ) (most : ℕ) (left : State → State) (r : Refusal)
    → r ≡ refusal.File error.Memory → (a.honest → c.world ≡ a.world)
    → k' ≡ kept_of (left (in_files k a.world)) → (left (in_files k a.world)).world ≡ a.world
    → ((w : World) (n : ℕ) → within w n)
    → Attempted a c within k k' told need most left (Err r)
attempted_no_memory a c within k k' told need most left r is world kept stays any =
    let P : Refusal → Type 0 = λ v. Attempted a c within k k' told need most left (Err v) in
    subst P (sym is) (attempted_looked a c within k k' told need most left (λ e w. told e (in_files k w)) (refusal.File error.Memory) (λ h e. e) (looks_no_memory a c (λ e w. told e (in_files k w)) world) kept stays any)

-- ---- more blocks

cause_up : (a c : FilesState) (n m : ℕ) (r : Refusal) → n ≤ m → HasCause a c n r → HasCause a c m r
cause_up a c n m (refusal.File error.Full) le h = (h.0, h.1, omega (arith, le, h.2))
cause_up a c n m r le h = h

causes_up : (a c : FilesState) (n m : ℕ) (result : Result Reply Refusal) → n ≤ m → IfErr result (HasCause a c n) → IfErr result (HasCause a c m)
causes_up a c n m (Ok r) le h = tt
causes_up a c n m (Err r) le h = cause_up a c n m r le h

-- with no more blocks than these, no more than those
pub attempted_more : (a c : FilesState) (within : Touches) (k k' : Kept) (told : Files → State → Told) (need : Files → State → ℕ) (n m : ℕ) (left : State → State) (result : Result Reply Refusal)
    → n ≤ m → ((w : World) → within w n → within w m)
    → Attempted a c within k k' told need n left result → Attempted a c within k k' told need m left result
attempted_more a c within k k' told need n m left result le up l = record {
  answer = l.answer;
  room = l.room;
  touched = l.touched;
  cause = causes_up a c n m result le l.cause;
  left_is = l.left_is;
  taken = (l.taken.0, up l.taken.0 l.taken.1);
}
