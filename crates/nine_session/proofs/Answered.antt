-- The end of a fid as a session answers it, and the least fid.
use Rattle.std.proofs.Common.{◌≡◌, ℕ, List, Bool, true, false, Option, Some, None, Result, Ok, Err, [], ◌∷◌, ◌==◌, refl, ap, subst, ⊎_elim, arith}
use Rattle.std.specs.Prelude.{is_ok, nat_lt, if◌then◌else◌, IfErr}
use Rattle.std.proofs.lemmas.Bool.Decides.{nat_tests}
use Rattle.std.proofs.lemmas.Bool.{eq-eqb}
use Rattle.nine_wire.specs.declared.message.Reply.{Reply}
use Rattle.fo_world.specs.declared.error.FileError.{FileError}
use Rattle.fo_world.specs.World.{World}
use Rattle.fo_world.specs.Answers.{granted_world, tried}
use Rattle.nine_fids.specs.declared.fid.Fid.{Fid}
use Rattle.nine_fids.specs.declared.refusal.Refusal.{Refusal}
use Rattle.nine_fids.specs.Fids.{State, fid_of, clunked, least, lesser}
use Rattle.nine_fids.specs.Looking.{FilesState, HasCause, IsRefused}
use Rattle.nine_files.specs.Answering.{FailsBy, HadRoom, is_file_fault}
use Rattle.nine_files.specs.Removing.{close_need, most_close}
use Rattle.nine_session.specs.Attempting.{Attempted, Attempts, error_of, let_go}
use Rattle.nine_session.specs.Removing.{clunk_fid}
use Rattle.nine_session.specs.Session as session
use Rattle.nine_session.specs.Session.{IsDropped, IsEnded, Kept, LetsGo, Told, Touches, in_files, kept_of, world_after}
use Rattle.nine_session.proofs.Trying.{had_told, touched_by, touched_none}

-- ---- the end of a fid

dropped_fid : (told : Told) (need : ℕ) (fails : FileError → Type 0) (has_room : ℕ → Type 0) (within : Touches) (old : World) (left z' : State) (why : Refusal) → IsRefused told fails why × (z' ≡ left) → within (tried {A = Reply} is_file_fault (granted_world world_after told old) old (Err why)) need → IsDropped told need fails has_room within old left (error_of (Err why)) z'
dropped_fid told need fails has_room within old left z' why h touched =
    ⊎_elim
    (λ (t : told ≡ Err why). session.refused why t refl h.1 (touched_none within need told old why t touched))
    (λ p. session.failed p.0 p.2 (ap (λ r. error_of (Err r)) p.1) h.1 (touched_by within need _ old why p.0 p.1 touched))
    h.0

dropped : (told : Told) (need : ℕ) (fails : FileError → Type 0) (has_room : ℕ → Type 0) (within : Touches) (old : World) (left z' : State) (answer : Result Reply Refusal) → Attempts told fails left z' answer → HadRoom has_room need answer → within (tried is_file_fault (granted_world world_after told old) old answer) need → IsDropped told need fails has_room within old left (error_of answer) z'
dropped told need fails has_room within old left z' (Ok r) h room touched = session.granted r h refl (had_told has_room need told room) (rw h at touched)
dropped told need fails has_room within old left z' (Err why) h room touched = dropped_fid told need fails has_room within old left z' why h touched

ended : (old new : FilesState) (most : ℕ) (answer : Result Reply Refusal) → IfErr answer (HasCause old new most) → IsEnded old new most (error_of answer)
ended old new most (Ok r) cause = tt
ended old new most (Err why) cause = (why, refl, cause)

pub lets_go : (old new : FilesState) (within : Touches) (k k' : Kept) (now : ℕ) (f : Fid) (answer : Result Reply Refusal)
    → k' ≡ kept_of (clunked (in_files k old.world) f)
    → Attempted old new within k k' (λ e z. clunk_fid e z now f) (λ e z. close_need e z.world f) (most_close f) (λ z. clunked z f) answer
    → LetsGo old new within k now f (error_of answer) k'
lets_go old new within k k' now f answer left a = record {
  answer_is = λ h.
      let told : Told = clunk_fid old.how (in_files k old.world) now f in
      dropped told (close_need old.how old.world f) (FailsBy old new (close_need old.how old.world f) (is_ok told)) old.has_room within old.world (clunked (in_files k old.world) f) (in_files k' new.world) answer (a.answer h) (a.room h) (a.touched h);
  ends = ended old new (most_close f) answer a.cause;
  left = left;
  taken = a.taken;
}

-- the fid of a number that is let go
pub gone_fid : (z : State) (number : ℕ) (f : Fid) → fid_of number z.session.fids ≡ Some f → let_go number z ≡ clunked z f
gone_fid z number f is = rw is refl

-- ---- the least fid

least_here : (g : Fid) (gs : List Fid) (h : Fid) (b : Bool) (f : Fid) → nat_lt h.number g.number ≡ b → (if b then Some h else Some g) ≡ Some f → fid_of h.number gs ≡ Some h → fid_of f.number (g ∷ gs) ≡ Some f
least_here g gs h true f below is found =
    let same : h ≡ f = cc in
    let P : Fid → Type 0 = λ x. fid_of x.number (g ∷ gs) ≡ Some x in
    let other : (g.number == h.number) ≡ false = grind (arith, nat_tests) in
    subst P same (rw other found)
least_here g gs h false f below is found =
    let same : g ≡ f = cc in
    let P : Fid → Type 0 = λ x. fid_of x.number (g ∷ gs) ≡ Some x in
    subst P same (rw (eq-eqb g.number g.number refl) refl)

least_of : (g : Fid) (gs : List Fid) (o : Option Fid) (f : Fid) → least gs ≡ o → lesser g o ≡ Some f → ((h : Fid) → least gs ≡ Some h → fid_of h.number gs ≡ Some h) → fid_of f.number (g ∷ gs) ≡ Some f
least_of g gs None f is h more =
    let same : g ≡ f = cc in
    let P : Fid → Type 0 = λ x. fid_of x.number (g ∷ gs) ≡ Some x in
    subst P same (rw (eq-eqb g.number g.number refl) refl)
least_of g gs (Some k) f is h more = least_here g gs k (nat_lt k.number g.number) f refl h (more k is)

-- the least fid is the first one with its number
pub least_found : (fids : List Fid) (f : Fid) → least fids ≡ Some f → fid_of f.number fids ≡ Some f
least_found [] f is = absurd cc
least_found (g ∷ gs) f is = least_of g gs (least gs) f refl is (least_found gs)
