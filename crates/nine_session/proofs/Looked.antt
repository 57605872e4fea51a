-- Exits of methods that only look.
use Rattle.std.proofs.Common.{◌≡◌, ℕ, List, false, Result, Ok, Err, refl, sym, ap, subst, ◌∙◌, inl, inr}
use Rattle.std.specs.Prelude.{IfErr}
use Rattle.fo_world.specs.World.{World}
use Rattle.fo_world.specs.declared.error.FileError.TheVariants as error
use Rattle.nine_wire.specs.declared.message.Reply.{Reply}
use Rattle.nine_fids.specs.declared.fid.Fid.{Fid}
use Rattle.nine_fids.specs.declared.refusal.Refusal.{Refusal}
use Rattle.nine_fids.specs.declared.refusal.Refusal.TheVariants as refusal
use Rattle.nine_fids.specs.Refusing.{is_failure}
use Rattle.nine_fids.specs.Told.{Files}
use Rattle.nine_fids.specs.Fids.{Fids, State, version_of, fid_at, opened_of, known}
use Rattle.nine_fids.specs.Looking.{FilesState, Follows, HasCause, IsRefused, Looks, MayMiss}
use Rattle.nine_fids.proofs.Missing.{fails_since, refused_by}
use Rattle.nine_fids.proofs.Seeing.{cause_since, looks_after, plain_cause}
use Rattle.nine_files.proofs.Links.{plain_at, some_plain}
use Rattle.nine_session.specs.Attempting.{Attempts, Looked, kept}
use Rattle.nine_session.specs.Session.{Kept, Told, in_files}
use Rattle.nine_session.proofs.Links.{attempts_same}

-- ---- what is asked for first is refused by no failure

pub version_plain : (z : State) (r : Refusal) → version_of z ≡ Err r → is_failure r ≡ false
version_plain z r h = plain_at (version_of z) r (some_plain z.session.msize refusal.NoVersion refl) h

pub fid_plain : (z : State) (k : ℕ) (r : Refusal) → fid_at z k ≡ Err r → is_failure r ≡ false
fid_plain z k r h = plain_at (fid_at z k) r (some_plain (known k z.session.fids) refusal.UnknownFid refl) h

pub opened_plain : (f : Fid) (r : Refusal) → opened_of f ≡ Err r → is_failure r ≡ false
opened_plain f r h = plain_at (opened_of f) r (some_plain f.opened refusal.FidIsNotOpen refl) h

-- ---- exits

-- a refusal that is told and no failure, with the world as it was
pub denied : (a b : FilesState) (k : Kept) (told : Files → State → Told) (r : Refusal) → (a.honest → b.world ≡ a.world) → (a.honest → told a.how (in_files k a.world) ≡ Err r) → is_failure r ≡ false → Looked a b k k told (Err r)
denied a b k told r world is plain = record {
  answer = λ h. (inl (is h), ap (in_files k) (world h));
  cause = plain_cause a b 0 r plain;
  left_is = refl;
}

-- what refuses a look refuses the request
pub missed : {A : Type 0} (a b : FilesState) (k : Kept) (part : Files → World → Result A Refusal) (told : Files → State → Told) (r : Refusal) → (a.honest → part a.how a.world ≡ Err r → told a.how (in_files k a.world) ≡ Err r) → Looks a b part (Err r) → Looked a b k k told (Err r)
missed a b k part told r is l = record {
  answer = λ h. (refused_by (part a.how a.world) (told a.how (in_files k a.world)) (MayMiss a.faults b.faults a.honest) (MayMiss a.faults b.faults a.honest) r (is h) (λ x m. m) (l.answer h), ap (in_files k) (l.world h));
  cause = l.cause;
  left_is = refl;
}

-- the same of a look after others
pub missed_later : {A : Type 0} (a b c : FilesState) (k : Kept) (part : Files → World → Result A Refusal) (told : Files → State → Told) (r : Refusal) → Follows a b → (a.honest → b.world ≡ a.world) → (a.honest → part a.how a.world ≡ Err r → told a.how (in_files k a.world) ≡ Err r) → Looks b c part (Err r) → Looked a c k k told (Err r)
missed_later a b c k part told r f world is l = missed a c k part told r is (looks_after a b c part part (Err r) f world (λ h. refl) l)

-- a look after others that nothing which is told refuses
pub failed_later : {A : Type 0} (a b c : FilesState) (k : Kept) (part : Files → World → A) (told : Files → State → Told) (r : Refusal) → Follows a b → (a.honest → b.world ≡ a.world) → Looks b c (λ e w. Ok (part e w)) (Err r) → Looked a c k k told (Err r)
failed_later a b c k part told r f world l = missed_later a b c k (λ e w. Ok (part e w)) told r f world (λ h e. absurd cc) l

-- memory is wanting
pub wants : (a b : FilesState) (k k' : Kept) (told : Files → State → Told) (r : Refusal) → r ≡ refusal.File error.Memory → k' ≡ k → (a.honest → b.world ≡ a.world) → Looked a b k k' told (Err r)
wants a b k k' told r memory same world =
    let P : Refusal → Type 0 = λ v. Looked a b k k told (Err v) in
    let Q : Kept → Type 0 = λ v. Looked a b k v told (Err r) in
    subst Q (sym same) (subst P (sym memory) (record { answer = λ h. (inr (error.Memory, refl, tt), ap (in_files k) (world h)); cause = tt; left_is = refl }))

-- a refusal or a failure, as a look has it
pub refused : (a b : FilesState) (k : Kept) (told : Files → State → Told) (r : Refusal) → (a.honest → IsRefused (told a.how (in_files k a.world)) (MayMiss a.faults b.faults a.honest) r) → (a.honest → b.world ≡ a.world) → HasCause a b 0 r → Looked a b k k told (Err r)
refused a b k told r is world cause = record { answer = λ h. (is h, ap (in_files k) (world h)); cause = cause; left_is = refl }

-- the reply and the state are those that are told
pub granted : (a b : FilesState) (k k' : Kept) (told : Files → State → Told) (r : Reply) → (a.honest → told a.how (in_files k a.world) ≡ Ok (r, in_files k' b.world)) → Looked a b k k' told (Ok r)
granted a b k k' told r is = record { answer = is; cause = tt; left_is = tt }

-- a last part that looks, after others that looked
pub looked_after : (a b c : FilesState) (k k' : Kept) (told later : Files → State → Told) (r : Result Reply Refusal) → Follows a b → (a.honest → b.world ≡ a.world) → (a.honest → told a.how (in_files k a.world) ≡ later a.how (in_files k a.world)) → Looked b c k k' later r → Looked a c k k' told r
looked_after a b c k k' told later r f world same l = record {
  answer = λ h.
      let P : Files → Type 0 = λ e. Attempts (later e (in_files k a.world)) (MayMiss b.faults c.faults b.honest) (in_files k a.world) (in_files k' c.world) r in
      let Q : World → Type 0 = λ w. Attempts (later b.how (in_files k w)) (MayMiss b.faults c.faults b.honest) (in_files k w) (in_files k' c.world) r in
      attempts_same (told a.how (in_files k a.world)) (later a.how (in_files k a.world)) (MayMiss b.faults c.faults b.honest) (MayMiss a.faults c.faults a.honest) (in_files k a.world) (in_files k' c.world) r (same h)
      (fails_since a.faults b.faults c.faults a.honest b.honest (λ n. ⊥) 0 false f.faults f.honest) (subst P f.how (subst Q (world h) (l.answer (f.honest h))));
  cause = cause_before_reply a b c r f l.cause;
  left_is = l.left_is;
}
  where
    cause_before_reply : (a b c : FilesState) (r : Result Reply Refusal) → Follows a b → IfErr r (HasCause b c 0) → IfErr r (HasCause a c 0)
    cause_before_reply a b c (Ok x) f m = tt
    cause_before_reply a b c (Err r) f m = cause_since a b c 0 r f m

-- fids that stay as they were, as their fields have them
pub same_fids : (inside now : Fids) (x : List ℕ) (fids : List Fid) → inside ≡ now → fids ≡ inside.fids → kept (record { msize = inside.msize; fids = fids }) x ≡ kept now x
same_fids inside now x fids view same = ap (λ (fs : List Fid). kept (record { msize = inside.msize; fids = fs }) x) same ∙ ap (λ (s : Fids). kept s x) view
