-- The end of fids: what the steps tell, case by case.
use Rattle.std.proofs.Common.{◌≡◌, ℕ, List, Bool, true, false, Option, Some, None, Result, Ok, Err, [], ◌∷◌, ◌==◌, refl, subst, inl, inr, ⊎_elim, arith}
use Rattle.std.specs.Prelude.{is_ok, nat_lt, if◌then◌else◌}
use Rattle.std.proofs.lemmas.Bool.Decides.{nat_tests}
use Rattle.std.proofs.lemmas.Bool.{eq-eqb}
use Rattle.nine_wire.specs.declared.message.Reply.{Reply}
use Rattle.nine_wire.specs.declared.message.Reply.TheVariants as reply
use Rattle.fo_world.specs.declared.error.FileError.{FileError}
use Rattle.fo_world.specs.declared.place.Info.{Info}
use Rattle.fo_world.specs.World.{World}
use Rattle.nine_fids.specs.declared.fid.Fid.{Fid}
use Rattle.nine_fids.specs.declared.refusal.Refusal.{Refusal}
use Rattle.nine_fids.specs.declared.refusal.Refusal.TheVariants as refusal
use Rattle.fo_world.specs.Chain.{and_then}
use Rattle.std.specs.Option.{ok_or}
use Rattle.nine_fids.specs.Refusing.{is_failure}
use Rattle.nine_fids.specs.Fids.{State, known, fid_of, fid_at, version_of, without, released, clunked, in_world, least, lesser}
use Rattle.nine_fids.specs.Told.{Files, info_at}
use Rattle.nine_fids.specs.Looking.{IsRefused}
use Rattle.nine_files.specs.Removing.{closed, removed, removed_there}
use Rattle.nine_files.proofs.Links.{plain_at, some_plain}
use Rattle.nine_session.specs.Attempting.{let_go}
use Rattle.nine_session.specs.Removing.{clunk, clunk_fid, remove}
use Rattle.nine_session.specs.Session.{Told, without_fid}
use Rattle.nine_session.proofs.Kept.{fid_number}

-- ---- chains

pub some_err : {A : Type 0} (o : Option A) (r s : Refusal) → ok_or o r ≡ Err s → o ≡ None
some_err (Some y) r s h = absurd cc
some_err None r s h = refl

-- a refusal for want of a version, or of a fid, is no failure
pub version_plain : (z : State) (r : Refusal) → version_of z ≡ Err r → is_failure r ≡ false
version_plain z r h = plain_at (version_of z) r (some_plain z.session.msize refusal.NoVersion refl) h

pub fid_plain : (z : State) (fid : ℕ) (r : Refusal) → fid_at z fid ≡ Err r → is_failure r ≡ false
fid_plain z fid r h = plain_at (fid_at z fid) r (some_plain (known fid z.session.fids) refusal.UnknownFid refl) h

-- a world, and then a reply and a state
pub end_refused : (told : Result World Refusal) (rest : World → Reply × State) (fails : Bool → FileError → Type 0) (r : Refusal) → IsRefused told (fails (is_ok told)) r → (let on : Told = and_then told (λ w. Ok (rest w)) in IsRefused on (fails (is_ok on)) r)
end_refused (Ok w) rest fails r h = ⊎_elim (λ t. absurd cc) (λ m. inr m) h
end_refused (Err x) rest fails r h = ⊎_elim (λ t. inl cc) (λ m. inr m) h

-- ---- what a refusal leaves

pub left_as_was : (z : State) (m : Option ℕ) (o : Option Fid) (s r : Refusal) → ok_or m s ≡ Err r → without_fid z m o ≡ z
left_as_was z None o s r h = refl
left_as_was z (Some m) o s r h = absurd cc

pub left_unknown : (z : State) (m : Option ℕ) → without_fid z m None ≡ z
left_unknown z None = refl
left_unknown z (Some m) = refl

pub left_known : (z : State) (m : Option ℕ) (f : Fid) (s : Refusal) (n : ℕ) → ok_or m s ≡ Ok n → without_fid z m (Some f) ≡ clunked z f
left_known z None f s n h = absurd cc
left_known z (Some m) f s n h = refl

-- ---- fids that are let go

pub gone_is : (z : State) (number : ℕ) (f : Fid) → fid_of number z.session.fids ≡ Some f → let_go number z ≡ clunked z f
gone_is z number f is = rw is refl

pub gone_state : (z : State) (number : ℕ) (f : Fid) (fids : List Fid) (exclusive : List ℕ) → fid_of number z.session.fids ≡ Some f → fids ≡ without number z.session.fids → exclusive ≡ released f z.exclusive → (let after : State = record { session = record { msize = z.session.msize; fids = fids }; exclusive = exclusive; world = z.world } in after) ≡ let_go number z
gone_state z number f fids exclusive is at on =
    let same : f.number ≡ number = fid_number number z.session.fids f is in
    rw (is, same, at, on) refl

-- ---- Tclunk and Tremove

pub clunk_chain : (e : Files) (z : State) (now : ℕ) (f : Fid) → clunk_fid e z now f ≡ and_then (closed e z.world f now) (λ w. Ok (reply.Clunk, clunked (in_world z w) f))
unfolding clunk_fid
clunk_chain e z now f = refl

there_then : (told : Result Info Refusal) (rest : Result World Refusal) (go : World → Result (Reply × State) Refusal) → and_then told (λ _. and_then rest go) ≡ and_then (and_then told (λ _. rest)) go
there_then (Ok i) rest go = refl
there_then (Err r) rest go = refl

pub remove_known : (e : Files) (z : State) (now fid n : ℕ) (f : Fid) → version_of z ≡ Ok n → fid_at z fid ≡ Ok f → remove e z now fid ≡ and_then (removed_there e z.world f now) (λ w. Ok (reply.Remove, clunked (in_world z w) f))
unfolding remove
remove_known e z now fid n f h k = rw (h, k) (there_then (info_at e z.world f.place) (removed e z.world f now) (λ w. Ok (reply.Remove, clunked (in_world z w) f)))

pub clunk_no_version : (e : Files) (z : State) (now fid : ℕ) (r : Refusal) → version_of z ≡ Err r → clunk e z now fid ≡ Err r
unfolding clunk
clunk_no_version e z now fid r h = rw h refl

pub clunk_unknown : (e : Files) (z : State) (now fid n : ℕ) (r : Refusal) → version_of z ≡ Ok n → fid_at z fid ≡ Err r → clunk e z now fid ≡ Err r
unfolding clunk
clunk_unknown e z now fid n r h k = rw (h, k) refl

pub clunk_known : (e : Files) (z : State) (now fid n : ℕ) (f : Fid) → version_of z ≡ Ok n → fid_at z fid ≡ Ok f → clunk e z now fid ≡ clunk_fid e z now f
unfolding clunk
clunk_known e z now fid n f h k = rw (h, k) refl

pub remove_no_version : (e : Files) (z : State) (now fid : ℕ) (r : Refusal) → version_of z ≡ Err r → remove e z now fid ≡ Err r
unfolding remove
remove_no_version e z now fid r h = rw h refl

pub remove_unknown : (e : Files) (z : State) (now fid n : ℕ) (r : Refusal) → version_of z ≡ Ok n → fid_at z fid ≡ Err r → remove e z now fid ≡ Err r
unfolding remove
remove_unknown e z now fid n r h k = rw (h, k) refl

-- ---- the least fid

least_here : (g : Fid) (gs : List Fid) (h : Fid) (b : Bool) (f : Fid) → nat_lt h.number g.number ≡ b → (if b then Some h else Some g) ≡ Some f → fid_of h.number gs ≡ Some h → fid_of f.number (g ∷ gs) ≡ Some f
least_here g gs h true f below is found =
    let same : h ≡ f = cc in
    let P : Fid → Type 0 = λ x. fid_of x.number (g ∷ gs) ≡ Some x in
    let other : (g.number == h.number) ≡ false = grind (arith, nat_tests) in
    subst P same (rw other found)
least_here g gs h false f below is found =
    let same : g ≡ f = cc in
    let P : Fid → Type 0 = λ x. fid_of x.number (g ∷ gs) ≡ Some x in
    subst P same (rw (eq-eqb g.number g.number refl) refl)

least_of : (g : Fid) (gs : List Fid) (o : Option Fid) (f : Fid) → least gs ≡ o → lesser g o ≡ Some f → ((h : Fid) → least gs ≡ Some h → fid_of h.number gs ≡ Some h) → fid_of f.number (g ∷ gs) ≡ Some f
least_of g gs None f is h more =
    let same : g ≡ f = cc in
    let P : Fid → Type 0 = λ x. fid_of x.number (g ∷ gs) ≡ Some x in
    subst P same (rw (eq-eqb g.number g.number refl) refl)
least_of g gs (Some k) f is h more = least_here g gs k (nat_lt k.number g.number) f refl h (more k is)

-- the least fid is the first one with its number
pub least_found : (fids : List Fid) (f : Fid) → least fids ≡ Some f → fid_of f.number fids ≡ Some f
least_found [] f is = absurd cc
least_found (g ∷ gs) f is = least_of g gs (least gs) f refl is (least_found gs)
