-- Walks: the tests of a fid, and the walk from it.
use Rattle.std.proofs.Common.{◌≡◌, ℕ, ◌≤◌, List, [], ◌∷◌, length, Bool, true, false, not, ◌&&◌, Option, Some, None, Result, Ok, Err, ◌==◌, refl, ap, ◌∙◌, sym, subst, ⊎_elim}
use Rattle.std.proofs.lemmas.Result.{IfOk-at_ok}
use Rattle.std.specs.Prelude.{IfOk, IfSome, nat_lt, nat_le}
use Rattle.fo_world.specs.declared.error.FileError.TheVariants as error
use Rattle.fo_world.specs.declared.place.Info.{Info}
use Rattle.fo_world.specs.declared.place.Place.{Place}
use Rattle.fo_world.specs.World.{World}
use Rattle.nine_fields.specs.declared.qid.Qid.{Qid}
use Rattle.nine_wire.specs.declared.message.Reply.{Reply}
use Rattle.nine_wire.specs.declared.message.Reply.TheVariants as reply
use Rattle.nine_wire.specs.declared.message.Request.TheVariants as request
use Rattle.nine_fids.specs.Looking.{FilesState, HasCause, MayMiss}
use Rattle.nine_fids.specs.declared.fid.Fid.{Fid}
use Rattle.nine_fids.specs.declared.refusal.Refusal.{Refusal}
use Rattle.nine_fids.specs.declared.refusal.Refusal.TheVariants as refusal
use Rattle.fo_world.specs.Chain.{and_then, refuse_if}
use Rattle.nine_fids.specs.Refusing.{is_failure}
use Rattle.nine_fids.specs.Told.{Files, info_at}
use Rattle.nine_fids.specs.Fids.{State, version_of, fid_at, is_open, in_use, most_fids, known}
use Rattle.nine_fids.proofs.Seeing.{plain_cause}
use Rattle.nine_files.specs.declared.walking.Walked.{Walked}
use Rattle.nine_files.specs.Parts.{arrived}
use Rattle.nine_files.specs.Walking.{walked}
use Rattle.nine_files.proofs.Links.{IsPlain, plain_at, refuse_plain, some_plain, then_ok, then_plain}
use Rattle.nine_session.specs.Attempting.{Attempts, Looked, walked_fid}
use Rattle.nine_session.specs.Session.{Grants, Kept, Told, in_files, kept_of}
use Rattle.nine_session.specs.Walking.{ended, walk, walk_from}
use Rattle.nine_session.proofs.Links.{attempts_same, memory_misses, then_err}
use Rattle.nine_session.proofs.Looked.{granted}

-- ---- the request

from_start : {B : Type 0} (r : Result Info Refusal) (go : Info → Walked) (g : Walked → Result B Refusal) → and_then r (λ i. g (go i)) ≡ and_then (and_then r (λ i. let out : Result Walked Refusal = Ok (go i) in out)) g
from_start (Ok i) go g = refl
from_start (Err r) go g = refl

-- what is told of a walk from a fid
pub walk_ends : (e : Files) (z : State) (f : Fid) (newfid : ℕ) (names : List (List ℕ)) → walk_from e z f newfid names ≡ and_then (arrived e z.world f names) (λ w. ended z f newfid w.qids w.last w.stopped)
walk_ends e z f newfid [] = refl
walk_ends e z f newfid (name ∷ names) = from_start (info_at e z.world f.place) (walked e z.world f.user (name ∷ names)) (λ w. ended z f newfid w.qids w.last w.stopped)

four_tests : {B : Type 0} (a b c d : Bool) (f : Fid) (g : Fid → Result B Refusal) →
    refuse_if a refusal.TooManyNames (refuse_if b refusal.FidIsOpen (refuse_if c refusal.FidInUse (refuse_if d refusal.TooManyFids (g f))))
    ≡ and_then (refuse_if a refusal.TooManyNames (refuse_if b refusal.FidIsOpen (refuse_if c refusal.FidInUse (refuse_if d refusal.TooManyFids (let out : Result Fid Refusal = Ok f in out))))) g
four_tests true b c d f g = refl
four_tests false true c d f g = refl
four_tests false false true d f g = refl
four_tests false false false true f g = refl
four_tests false false false false f g = refl

two_links : {A B : Type 0} (v : Result ℕ Refusal) (r : Result Fid Refusal) (p : Fid → Result A Refusal) (q : Fid → Result B Refusal) (g : A → Result B Refusal) → ((f : Fid) → q f ≡ and_then (p f) g) → and_then v (λ _. and_then r q) ≡ and_then (and_then v (λ _. and_then r p)) g
two_links (Ok n) (Ok f) p q g same = same f
two_links (Ok n) (Err e) p q g same = refl
two_links (Err e) r p q g same = refl

-- a walk is the tests of its fid, and then the walk from it
pub walk_begins : (e : Files) (z : State) (fid newfid : ℕ) (names : List (List ℕ)) → walk e z fid newfid names ≡ and_then (walked_fid z fid newfid names) (λ f. walk_from e z f newfid names)
unfolding walk walked_fid
walk_begins e z fid newfid names =
    two_links (version_of z) (fid_at z fid) _ _ (λ f. walk_from e z f newfid names)
    (λ f. four_tests (nat_lt 16 (length names)) (is_open f) (not (newfid == fid) && in_use newfid z.session.fids) (not (newfid == fid) && nat_le most_fids (length z.session.fids)) f (λ f. walk_from e z f newfid names))

pub walk_refused : (e : Files) (z : State) (fid newfid : ℕ) (names : List (List ℕ)) (r : Refusal) → walked_fid z fid newfid names ≡ Err r → walk e z fid newfid names ≡ Err r
walk_refused e z fid newfid names r h = walk_begins e z fid newfid names ∙ then_err (walked_fid z fid newfid names) r (λ f. walk_from e z f newfid names) h

pub walk_goes : (e : Files) (z : State) (fid newfid : ℕ) (names : List (List ℕ)) (f : Fid) → walked_fid z fid newfid names ≡ Ok f → walk e z fid newfid names ≡ and_then (arrived e z.world f names) (λ w. ended z f newfid w.qids w.last w.stopped)
walk_goes e z fid newfid names f h = walk_begins e z fid newfid names ∙ then_ok (walked_fid z fid newfid names) f (λ f. walk_from e z f newfid names) h ∙ walk_ends e z f newfid names

pub walk_misses : (e : Files) (z : State) (fid newfid : ℕ) (names : List (List ℕ)) (f : Fid) (r : Refusal) → walked_fid z fid newfid names ≡ Ok f → arrived e z.world f names ≡ Err r → walk e z fid newfid names ≡ Err r
walk_misses e z fid newfid names f r h refused = walk_goes e z fid newfid names f h ∙ then_err (arrived e z.world f names) r (λ w. ended z f newfid w.qids w.last w.stopped) refused

pub walk_arrives : (e : Files) (z : State) (fid newfid : ℕ) (names : List (List ℕ)) (f : Fid) (v : Walked) → walked_fid z fid newfid names ≡ Ok f → arrived e z.world f names ≡ Ok v → walk e z fid newfid names ≡ ended z f newfid v.qids v.last v.stopped
walk_arrives e z fid newfid names f v h there = walk_goes e z fid newfid names f h ∙ then_ok (arrived e z.world f names) v (λ w. ended z f newfid w.qids w.last w.stopped) there

-- what is asked for first
pub walk_no_version : (z : State) (fid newfid : ℕ) (names : List (List ℕ)) (r : Refusal) → version_of z ≡ Err r → walked_fid z fid newfid names ≡ Err r
unfolding walked_fid
walk_no_version z fid newfid names r v = rw v refl

pub walk_no_fid : (z : State) (fid newfid : ℕ) (names : List (List ℕ)) (m : ℕ) (r : Refusal) → version_of z ≡ Ok m → fid_at z fid ≡ Err r → walked_fid z fid newfid names ≡ Err r
unfolding walked_fid
walk_no_fid z fid newfid names m r v h = rw (v, h) refl

-- the tests of a fid that is there
abbrev pub tested : State → Fid → ℕ → ℕ → List (List ℕ) → Result Fid Refusal
tested z f fid newfid names =
    refuse_if (nat_lt 16 (length names)) refusal.TooManyNames (
    refuse_if (is_open f) refusal.FidIsOpen (
    refuse_if (not (newfid == fid) && in_use newfid z.session.fids) refusal.FidInUse (
    refuse_if (not (newfid == fid) && nat_le most_fids (length z.session.fids)) refusal.TooManyFids (Ok f))))

pub walk_tests : (z : State) (fid newfid : ℕ) (names : List (List ℕ)) (m : ℕ) (f : Fid) → version_of z ≡ Ok m → fid_at z fid ≡ Ok f → walked_fid z fid newfid names ≡ tested z f fid newfid names
unfolding walked_fid
walk_tests z fid newfid names m f v h = rw (v, h) refl

pub tested_many : (z : State) (f : Fid) (fid newfid : ℕ) (names : List (List ℕ)) → nat_lt 16 (length names) ≡ true → tested z f fid newfid names ≡ Err refusal.TooManyNames
tested_many z f fid newfid names a = rw a refl

pub tested_open : (z : State) (f : Fid) (fid newfid : ℕ) (names : List (List ℕ)) → nat_lt 16 (length names) ≡ false → is_open f ≡ true → tested z f fid newfid names ≡ Err refusal.FidIsOpen
tested_open z f fid newfid names a b = rw (a, b) refl

pub tested_used : (z : State) (f : Fid) (fid newfid : ℕ) (names : List (List ℕ)) → nat_lt 16 (length names) ≡ false → is_open f ≡ false → (not (newfid == fid) && in_use newfid z.session.fids) ≡ true → tested z f fid newfid names ≡ Err refusal.FidInUse
tested_used z f fid newfid names a b d = rw (a, b, d) refl

pub tested_full : (z : State) (f : Fid) (fid newfid : ℕ) (names : List (List ℕ)) → nat_lt 16 (length names) ≡ false → is_open f ≡ false → (not (newfid == fid) && in_use newfid z.session.fids) ≡ false → (not (newfid == fid) && nat_le most_fids (length z.session.fids)) ≡ true → tested z f fid newfid names ≡ Err refusal.TooManyFids
tested_full z f fid newfid names a b d h = rw (a, b, d, h) refl

pub tested_well : (z : State) (f : Fid) (fid newfid : ℕ) (names : List (List ℕ)) → nat_lt 16 (length names) ≡ false → is_open f ≡ false → (not (newfid == fid) && in_use newfid z.session.fids) ≡ false → (not (newfid == fid) && nat_le most_fids (length z.session.fids)) ≡ false → tested z f fid newfid names ≡ Ok f
tested_well z f fid newfid names a b d h = rw (a, b, d, h) refl

tests_plain : (z : State) (f : Fid) (fid newfid : ℕ) (names : List (List ℕ)) → IsPlain (tested z f fid newfid names)
tests_plain z f fid newfid names =
    let d : Result Fid Refusal = refuse_if (not (newfid == fid) && nat_le most_fids (length z.session.fids)) refusal.TooManyFids (Ok f) in
    let c : Result Fid Refusal = refuse_if (not (newfid == fid) && in_use newfid z.session.fids) refusal.FidInUse d in
    let b : Result Fid Refusal = refuse_if (is_open f) refusal.FidIsOpen c in
    refuse_plain (nat_lt 16 (length names)) refusal.TooManyNames b refl
    (refuse_plain (is_open f) refusal.FidIsOpen c refl
    (refuse_plain (not (newfid == fid) && in_use newfid z.session.fids) refusal.FidInUse d refl
    (refuse_plain (not (newfid == fid) && nat_le most_fids (length z.session.fids)) refusal.TooManyFids (Ok f) refl tt)))

-- what refuses the fid is no failure
fid_plain : (z : State) (fid newfid : ℕ) (names : List (List ℕ)) → IsPlain (walked_fid z fid newfid names)
unfolding walked_fid
fid_plain z fid newfid names =
    then_plain (version_of z) (λ _. and_then (fid_at z fid) (λ f. tested z f fid newfid names)) (some_plain z.session.msize refusal.NoVersion refl)
    (λ m. then_plain (fid_at z fid) (λ f. tested z f fid newfid names) (some_plain (known fid z.session.fids) refusal.UnknownFid refl) (λ f. tests_plain z f fid newfid names))

pub walked_plain : (z : State) (fid newfid : ℕ) (names : List (List ℕ)) (r : Refusal) → walked_fid z fid newfid names ≡ Err r → is_failure r ≡ false
walked_plain z fid newfid names r h = plain_at (walked_fid z fid newfid names) r (fid_plain z fid newfid names) h

-- ---- the end of a walk

end_plain : (z : State) (f : Fid) (newfid : ℕ) (qids : List Qid) (at : Place) (stopped : Option Refusal) → IfSome stopped (λ r. is_failure r ≡ false) → IsPlain (ended z f newfid qids at stopped)
end_plain z f newfid qids at None plain = tt
end_plain z f newfid [] at (Some r) plain = plain
end_plain z f newfid (qid ∷ qids) at (Some r) plain = tt

end_grants : (z : State) (f : Fid) (newfid : ℕ) (qids : List Qid) (at : Place) (stopped : Option Refusal) → IfOk (ended z f newfid qids at stopped) (λ p. p.0 ≡ reply.Walk qids)
end_grants z f newfid qids at None = refl
end_grants z f newfid [] at (Some r) = tt
end_grants z f newfid (qid ∷ qids) at (Some r) = refl

pub walk_granted : (k k' : Kept) (w : World) (f : Fid) (fid newfid : ℕ) (names : List (List ℕ)) (v : Walked) (r : Result Reply Refusal) → length v.qids ≤ length names
    → Attempts (ended (in_files k w) f newfid v.qids v.last v.stopped) (λ x. x ≡ error.Memory) (in_files k w) (in_files k' w) r → IfOk r (Grants (request.Walk fid newfid names))
walk_granted k k' w f fid newfid names v (Ok r) short ends =
    let is : r ≡ reply.Walk v.qids = IfOk-at_ok (λ p. p.0 ≡ reply.Walk v.qids) ends (end_grants (in_files k w) f newfid v.qids v.last v.stopped) in
    let P : Reply → Type 0 = λ s. Grants (request.Walk fid newfid names) s in
    subst P (sym is) short
walk_granted k k' w f fid newfid names v (Err r) short ends = tt

-- the request, once it is known how far the walk came
pub walk_finishes : (a b : FilesState) (k k' : Kept) (told : Files → State → Told) (f : Fid) (newfid : ℕ) (v : Walked) (r : Result Reply Refusal) → IfSome v.stopped (λ e. is_failure e ≡ false)
    → (a.honest → told a.how (in_files k a.world) ≡ ended (in_files k a.world) f newfid v.qids v.last v.stopped) → (a.honest → b.world ≡ a.world)
    → ((w : World) → Attempts (ended (in_files k w) f newfid v.qids v.last v.stopped) (λ x. x ≡ error.Memory) (in_files k w) (in_files k' w) r) → Looked a b k k' told r
walk_finishes a b k k' told f newfid v (Ok r) plain same world ends =
    let out : World → Told = λ w. Ok (r, in_files k' w) in
    granted a b k k' told r (λ h. same h ∙ ends a.world ∙ sym (ap out (world h)))
walk_finishes a b k k' told f newfid v (Err r) plain same world ends =
    let end : World → Told = λ w. ended (in_files k w) f newfid v.qids v.last v.stopped in
    let P : Refusal → Type 0 = λ e. HasCause a b 0 e in
    record {
      answer = λ h.
          let Q : World → Type 0 = λ w. Attempts (end a.world) (λ x. x ≡ error.Memory) (in_files k a.world) (in_files k' w) (Err r) in
          attempts_same (told a.how (in_files k a.world)) (end a.world) (λ x. x ≡ error.Memory) (MayMiss a.faults b.faults a.honest) (in_files k a.world) (in_files k' b.world) (Err r) (same h)
          (memory_misses a.faults b.faults a.honest) (subst Q (sym (world h)) (ends a.world));
      cause = ⊎_elim (λ e. plain_cause a b 0 r (plain_at (end a.world) r (end_plain (in_files k a.world) f newfid v.qids v.last v.stopped plain) e))
          (λ m. subst P (sym (m.1 ∙ ap (λ x. refusal.File x) m.2)) tt) (ends a.world).0;
      left_is = ap kept_of (ends a.world).1;
    }
