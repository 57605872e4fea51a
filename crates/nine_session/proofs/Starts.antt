-- Tversion, Tauth, Tflush and Tattach: what they tell, case by case.
use Rattle.std.proofs.Common.{◌≡◌, eq-eqb, ◌<◌, ◌≤◌, ℕ, min, lit<, arith, List, Bool, true, false, Some, None, Ok, Err, [], ◌∷◌, ◌++◌, ◌==◌, refl, length}
use Rattle.std.specs.Prelude.{nat_le, nat_lt, codes, if◌then◌else◌}
use Rattle.std.specs.Str.{is_utf8, chars}
use lib.Utf8.{encode}
use Rattle.std.proofs.lemmas.Bool.Decides.{nat_tests}
use Rattle.nine_fields.specs.Field.{TextFits}
use Rattle.nine_wire.specs.declared.message.Reply.{Reply}
use Rattle.nine_wire.specs.declared.message.Reply.TheVariants as reply
use Rattle.nine_wire.specs.Version.{largest_message}
use Rattle.fo_world.specs.declared.place.Info.{Info}
use Rattle.fo_world.specs.declared.place.View.{View}
use Rattle.fo_world.specs.Step as step
use Rattle.nine_fids.specs.declared.refusal.Refusal.{Refusal}
use Rattle.nine_fids.specs.declared.refusal.Refusal.TheVariants as refusal
use Rattle.nine_fids.specs.Fids.{State, nofid, most_fids, in_use, version_of, with_fids, restarted}
use Rattle.nine_fids.specs.Told.{Files, info_at, qid_of}
use Rattle.nine_fids.specs.Rights.{table_of, user_of}
use Rattle.nine_session.specs.Attaching.{answer_text, attach, auth, flush, is_known, tree_of, version}
use Rattle.nine_session.specs.Attempting.{agreed_size}

-- ---- Tversion

pub version_small : (z : State) (msize : ℕ) (text : List ℕ) → msize < 256 → version z msize text ≡ (reply.Error (codes "msize too small"), restarted z None)
unfolding version
version_small z msize text lt = let is : nat_lt msize 256 ≡ true = grind (arith, nat_tests) in rw is refl

version_by : (z : State) (msize : ℕ) (b : Bool) → (let r : Reply × State = if b then (reply.Version msize (answer_text true), restarted z (Some msize)) else (reply.Version msize (answer_text false), restarted z None) in r) ≡ (reply.Version msize (answer_text b), restarted z (agreed_size b msize))
version_by z msize true = refl
version_by z msize false = refl

pub version_agreed : (z : State) (msize : ℕ) (text : List ℕ) → 256 ≤ msize → version z msize text ≡ (reply.Version (min msize largest_message) (answer_text (is_known text)), restarted z (agreed_size (is_known text) (min msize largest_message)))
unfolding version
version_agreed z msize text le = let is : nat_lt msize 256 ≡ false = grind (arith, nat_tests) in rw is (version_by z (min msize largest_message) (is_known text))

pub answer_fits : (b : Bool) → TextFits (answer_text b)
unfolding is_utf8 chars encode
answer_fits true = (lit< tt, refl)
answer_fits false = (lit< tt, refl)

-- ---- Tauth and Tflush

pub auth_refused : (z : State) (r : Refusal) → version_of z ≡ Err r → auth z ≡ Err r
unfolding auth
auth_refused z r v = rw v refl

pub auth_denied : (z : State) (m : ℕ) → version_of z ≡ Ok m → auth z ≡ Err refusal.NoAuthentication
unfolding auth
auth_denied z m v = rw v refl

pub flush_refused : (z : State) (r : Refusal) → version_of z ≡ Err r → flush z ≡ Err r
unfolding flush
flush_refused z r v = rw v refl

pub flush_granted : (z : State) (m : ℕ) → version_of z ≡ Ok m → flush z ≡ Ok (reply.Flush, z)
unfolding flush
flush_granted z m v = rw v refl

-- ---- Tattach

pub attach_no_version : (e : Files) (z : State) (fid afid : ℕ) (uname aname : List ℕ) (r : Refusal) → version_of z ≡ Err r → attach e z fid afid uname aname ≡ Err r
unfolding attach
attach_no_version e z fid afid uname aname r v = rw v refl

pub attach_auth : (e : Files) (z : State) (fid afid : ℕ) (uname aname : List ℕ) (m : ℕ) → version_of z ≡ Ok m → (afid ≡ nofid → ⊥) → attach e z fid afid uname aname ≡ Err refusal.NoAuthentication
unfolding attach
attach_auth e z fid afid uname aname m v other = let is : (afid == nofid) ≡ false = grind (arith, nat_tests) in rw (v, is) refl

no_afid : (afid : ℕ) → afid ≡ nofid → (afid == nofid) ≡ true
no_afid afid is = eq-eqb afid nofid is

-- what is asked before the files are
pub record Asks (z : State) (afid : ℕ) : Type 0 where
  pub msize : ℕ
  pub version : version_of z ≡ Ok msize
  pub none : afid ≡ nofid

pub attach_in_use : (e : Files) (z : State) (fid afid : ℕ) (uname aname : List ℕ) (q : Asks z afid) → in_use fid z.session.fids ≡ true → attach e z fid afid uname aname ≡ Err refusal.FidInUse
unfolding attach
attach_in_use e z fid afid uname aname q u = rw (q.version, no_afid afid q.none, u) refl

pub attach_many : (e : Files) (z : State) (fid afid : ℕ) (uname aname : List ℕ) (q : Asks z afid) → in_use fid z.session.fids ≡ false → most_fids ≤ length z.session.fids → attach e z fid afid uname aname ≡ Err refusal.TooManyFids
unfolding attach
attach_many e z fid afid uname aname q u le = let is : nat_le most_fids (length z.session.fids) ≡ true = grind (arith, nat_tests) in rw (q.version, no_afid afid q.none, u, is) refl

fewer_fids : (n : ℕ) → n < most_fids → nat_le most_fids n ≡ false
fewer_fids n lt = grind (arith, nat_tests)

-- there is room for the fid
pub record HasRoom (z : State) (fid : ℕ) : Type 0 where
  pub unused : in_use fid z.session.fids ≡ false
  pub fewer : length z.session.fids < most_fids

pub attach_unknown : (e : Files) (z : State) (fid afid : ℕ) (uname aname : List ℕ) (q : Asks z afid) (h : HasRoom z fid) → tree_of aname ≡ None → attach e z fid afid uname aname ≡ Err refusal.UnknownTree
unfolding attach
attach_unknown e z fid afid uname aname q h t = rw (q.version, no_afid afid q.none, h.unused, fewer_fids (length z.session.fids) h.fewer, t) refl

pub attach_refused : (e : Files) (z : State) (fid afid : ℕ) (uname aname : List ℕ) (q : Asks z afid) (h : HasRoom z fid) (view : View) (r : Refusal) → tree_of aname ≡ Some view → info_at e z.world (step.root_at view) ≡ Err r → attach e z fid afid uname aname ≡ Err r
unfolding attach
attach_refused e z fid afid uname aname q h view r t i = rw (q.version, no_afid afid q.none, h.unused, fewer_fids (length z.session.fids) h.fewer, t, i) refl

pub attach_granted : (e : Files) (z : State) (fid afid : ℕ) (uname aname : List ℕ) (q : Asks z afid) (h : HasRoom z fid) (view : View) (i : Info) → tree_of aname ≡ Some view → info_at e z.world (step.root_at view) ≡ Ok i → attach e z fid afid uname aname ≡ Ok (reply.Attach (qid_of i), with_fids z (z.session.fids ++ (record { number = fid; user = user_of (table_of e z.world) uname; place = step.root_at view; opened = None }) ∷ []))
unfolding attach
attach_granted e z fid afid uname aname q h view i t k = rw (q.version, no_afid afid q.none, h.unused, fewer_fids (length z.session.fids) h.fewer, t, k) refl
