-- A request that was attempted, and its answer.
use Rattle.std.proofs.Common.{◌≡◌, ℕ, ◌≤◌, Bool, true, false, Option, Some, None, List, Result, Ok, Err, refl, sym, ap, subst, ◌∙◌, inl, inr, ⊎_elim, arith}
use Rattle.std.specs.Prelude.{is_ok, if◌then◌else◌, IfOk, IfErr, nat_lt, codes, length}
use Rattle.nine_wire.specs.declared.message.Request.{Request}
use Rattle.nine_wire.specs.declared.message.Request.TheVariants as request
use Rattle.nine_wire.specs.declared.message.Reply.{Reply}
use Rattle.nine_wire.specs.declared.message.Reply.TheVariants as reply
use Rattle.fo_world.specs.declared.error.FileError.{FileError}
use Rattle.fo_world.specs.declared.error.FileError.TheVariants as error
use Rattle.fo_world.specs.World.{World}
use Rattle.fo_world.specs.Answers.{is_fault, granted_world, tried}
use Rattle.nine_fids.specs.declared.refusal.Refusal.{Refusal}
use Rattle.nine_fids.specs.declared.refusal.Refusal.TheVariants as refusal
use Rattle.fo_world.specs.Chain.{and_then}
use Rattle.std.specs.Option.{ok_or}
use Rattle.nine_fids.specs.Refusing.{is_failure, refusal_text}
use Rattle.nine_fids.specs.Fids.{State, restarted}
use Rattle.nine_fids.specs.Told.{Files}
use Rattle.nine_fids.specs.Looking.{FilesState, HasCause, MayMiss}
use Rattle.nine_fids.proofs.Missing.{refused_by, fails_by_missing}
use Rattle.nine_fids.proofs.Seeing.{plain_cause}
use Rattle.nine_files.specs.Answering.{FailsBy, HadRoom, is_file_fault}
use Rattle.nine_session.specs.Attaching.{version, auth, flush, is_known}
use Rattle.nine_session.specs.Attempting.{Attempted, Attempts, Looked, Replies, Tried, TriedOver}
use Rattle.nine_session.specs.Session as session
use Rattle.nine_session.specs.Session.{Grants, Kept, Needs, Serves, Tells, Told, Touches, IsServed, in_files, kept_of, left_by, most_of, sure_need, world_after}

-- ---- how a request comes out

err_more : (r : Result Reply Refusal) (P Q : Refusal → Type 0) → ((x : Refusal) → P x → Q x) → IfErr r P → IfErr r Q
err_more (Ok x) P Q more h = tt
err_more (Err x) P Q more h = more x h

err_always : (r : Result Reply Refusal) (P : Type 0) → P → IfErr r (λ _. P)
err_always (Ok x) P h = tt
err_always (Err x) P h = h

-- with more causes
attempts_by : (told : Told) (P Q : FileError → Type 0) (left z' : State) (result : Result Reply Refusal) → ((x : FileError) → P x → Q x) → Attempts told P left z' result → Attempts told Q left z' result
attempts_by told P Q left z' (Ok r) more h = h
attempts_by told P Q left z' (Err r) more h = (refused_by told told P Q r (λ e. e) more h.0, h.1)

-- what asks no files
attempts_replying : (told : Told) (fails : FileError → Type 0) (z : State) (result : Result Reply Refusal) → Replies told z result → Attempts told fails z z result
attempts_replying told fails z (Ok r) h = h
attempts_replying told fails z (Err r) h = (inl h, refl)

-- what needs no block has room for it
had_none : (has_room : ℕ → Type 0) (r : Result Reply Refusal) → HadRoom has_room 0 r
had_none has_room (Ok x) = λ n has. omega arith
had_none has_room (Err r) = tt

-- what needs no block on any files
pub had_any : (has_room : ℕ → Type 0) (need : ℕ) (r : Result Reply Refusal) → need ≡ 0 → IfOk r (λ _. (n : ℕ) → has_room n → need ≤ n)
had_any has_room need (Ok x) none = λ n has. omega (arith, none)
had_any has_room need (Err r) none = tt

-- A Rerror grants a Tversion alone, which needs no block.
no_grant : (k : Kept) (q : Request) (text : List ℕ) → Grants q (reply.Error text) → sure_need k q ≡ 0
no_grant k (request.Version msize version) text g = refl
no_grant k (request.Auth afid uname aname) text g = absurd g
no_grant k (request.Attach fid afid uname aname) text g = absurd g
no_grant k (request.Flush oldtag) text g = absurd g
no_grant k (request.Walk fid newfid names) text g = absurd g
no_grant k (request.Open fid mode) text g = absurd g
no_grant k (request.Create fid name perm mode) text g = absurd g
no_grant k (request.Read fid offset count) text g = absurd g
no_grant k (request.Write fid offset bytes) text g = absurd g
no_grant k (request.Clunk fid) text g = absurd g
no_grant k (request.Remove fid) text g = absurd g
no_grant k (request.Stat fid) text g = absurd g
no_grant k (request.Wstat fid bytes) text g = absurd g

-- what may want memory alone
memory_fails : (a : FilesState) (need : ℕ) (granted : Bool) (x : FileError) → x ≡ error.Memory → FailsBy a a need granted x
memory_fails a need granted x is = let P : FileError → Type 0 = λ y. FailsBy a a need granted y in subst P (sym is) tt

memory_cause : (a : FilesState) (most : ℕ) (r : Refusal) (x : FileError) → r ≡ refusal.File x → x ≡ error.Memory → HasCause a a most r
memory_cause a most r x is memory =
    let P : Refusal → Type 0 = λ s. HasCause a a most s in
    subst P (sym (is ∙ ap (λ (y : FileError). refusal.File y) memory)) tt

-- ---- what a refused request touched

either_way : (b : Bool) (w : World) → (if b then w else w) ≡ w
either_way true w = refl
either_way false w = refl

-- nothing, where the definition refuses it
pub touched_none : (within : Touches) (need : ℕ) (told : Told) (old : World) (why : Refusal) → told ≡ Err why → within (tried {A = Reply} is_file_fault (granted_world world_after told old) old (Err why)) need → within old need
touched_none within need told old why is h =
    let P : Told → Type 0 = λ t. within (tried {A = Reply} is_file_fault (granted_world world_after t old) old (Err why)) need in
    subst (λ w. within w need) (either_way _ old) (subst P is h)

-- where the files fail, what their failure says
pub touched_by : (within : Touches) (need : ℕ) (goal old : World) (why : Refusal) (x : FileError) → why ≡ refusal.File x → within (tried {A = Reply} is_file_fault goal old (Err why)) need → within (if is_fault x then goal else old) need
touched_by within need goal old why x is h = let P : Refusal → Type 0 = λ r. within (tried {A = Reply} is_file_fault goal old (Err r)) need in subst P is h

-- room for what was granted
pub had_told : (has_room : ℕ → Type 0) (need : ℕ) (told : Told) → ((n : ℕ) → has_room n → need ≤ n) → session.HadRoom has_room need told
had_told has_room need (Ok p) up = up
had_told has_room need (Err r) up = tt

pub had_refused : (has_room : ℕ → Type 0) (need : ℕ) (told : Told) (why : Refusal) → told ≡ Err why → session.HadRoom has_room need told
had_refused has_room need (Ok p) why is = absurd cc
had_refused has_room need (Err r) why is = tt

-- ---- over any files

module _ (old new : FilesState) (within : Touches) (k k' : Kept) (now : ℕ) (q : Request) where
  -- what changes files
  pub changes_over : (told : Files → State → Told) (need : Files → State → ℕ) (result : Result Reply Refusal)
      → Tells old.how (in_files k old.world) now q (told old.how (in_files k old.world))
      → Needs old.how (in_files k old.world) q (need old.how (in_files k old.world))
      → IfOk result (Grants q)
      → HadRoom old.has_room (sure_need k q) result
      → Attempted old new within k k' told need (most_of (in_files k old.world) q) (λ z. left_by z q) result
      → TriedOver old new within k k' now q result
  changes_over told need result tells needs grants had a = record {
    answer = λ h. record {
      told = told old.how (in_files k old.world);
      need = need old.how (in_files k old.world);
      tells = tells;
      needs = needs;
      attempts = a.answer h;
      room = a.room h;
      touched = a.touched h;
    };
    grants = grants;
    had = had;
    cause = a.cause;
    left_is = a.left_is;
    taken = a.taken;
  }

  -- what only looks
  pub looks_over : (told : Files → State → Told) (result : Result Reply Refusal)
      → Tells old.how (in_files k old.world) now q (told old.how (in_files k old.world))
      → Needs old.how (in_files k old.world) q 0
      → left_by (in_files k old.world) q ≡ in_files k old.world
      → most_of (in_files k old.world) q ≡ 0
      → sure_need k q ≡ 0
      → ((w : World) → within w 0)
      → IfOk result (Grants q)
      → Looked old new k k' told result
      → TriedOver old new within k k' now q result
  looks_over told result tells needs left none sure any grants l = record {
    answer = λ h. record {
      told = told old.how (in_files k old.world);
      need = 0;
      tells = tells;
      needs = needs;
      attempts =
          let P : State → Type 0 = λ z. Attempts (told old.how (in_files k old.world)) (FailsBy old new 0 (is_ok (told old.how (in_files k old.world)))) z (in_files k' new.world) result in
          subst P (sym left) (attempts_by (told old.how (in_files k old.world)) (MayMiss old.faults new.faults old.honest) (FailsBy old new 0 (is_ok (told old.how (in_files k old.world)))) (in_files k old.world) (in_files k' new.world) result (fails_by_missing old.faults new.faults old.honest new.has_room 0 (is_ok (told old.how (in_files k old.world)))) (l.answer h));
      room = had_none old.has_room result;
      touched = any _;
    };
    grants = grants;
    had = had_any old.has_room (sure_need k q) result sure;
    cause = subst (λ n. IfErr result (HasCause old new n)) (sym none) l.cause;
    left_is = err_more result (λ _. k' ≡ k) (λ _. k' ≡ kept_of (left_by (in_files k old.world) q)) (λ x e. e ∙ sym (ap kept_of left)) l.left_is;
    taken = (old.world, subst (λ n. within old.world n) (sym none) (any old.world));
  }

  -- a request that is granted
  served_reply : (r : Reply) → Tried old.how (FailsBy old new) old.has_room within (in_files k old.world) now q (in_files k' new.world) (Ok r) → IsServed old.how (FailsBy old new) old.has_room within (in_files k old.world) now q r (in_files k' new.world)
  served_reply r t = session.as_told t.told t.need t.tells t.needs (rw t.attempts refl) (had_told old.has_room t.need t.told t.room) t.touched

  pub serves_reply : (r : Reply) → TriedOver old new within k k' now q (Ok r) → Serves old new within k now q r k'
  serves_reply r t = record { answer = λ h. served_reply r (t.answer h); answers = inl t.grants; had = λ g. t.had; taken = t.taken }

  -- a request that is refused
  served_refusal : (why : Refusal) → (t : Tried old.how (FailsBy old new) old.has_room within (in_files k old.world) now q (in_files k' new.world) (Err why)) → IsServed old.how (FailsBy old new) old.has_room within (in_files k old.world) now q (reply.Error (refusal_text why)) (in_files k' new.world)
  served_refusal why t =
      ⊎_elim
      (λ (is : t.told ≡ Err why). session.as_told t.told t.need t.tells t.needs (rw (is, t.attempts.1) refl) (had_refused old.has_room t.need t.told why is) (rw is (touched_none within t.need t.told old.world why is t.touched)))
      (λ p. session.failed t.told t.need p.0 t.tells t.needs p.2 (ap (λ r. reply.Error (refusal_text r)) p.1) t.attempts.1 (touched_by within t.need _ old.world why p.0 p.1 t.touched))
      t.attempts.0

  refused_so : (why : Refusal) → TriedOver old new within k k' now q (Err why) → Serves old new within k now q (reply.Error (refusal_text why)) k'
  refused_so why t = record { answer = λ h. served_refusal why (t.answer h); answers = inr (why, refl, t.cause, t.left_is); had = λ g n has. (let none : sure_need k q ≡ 0 = no_grant k q (refusal_text why) g in omega (arith, none)); taken = t.taken }

  pub serves_refusal : (why : Refusal) (r : Reply) → r ≡ reply.Error (refusal_text why) → TriedOver old new within k k' now q (Err why) → Serves old new within k now q r k'
  serves_refusal why r is t = let P : Reply → Type 0 = λ x. Serves old new within k now q x k' in subst P (sym is) (refused_so why t)

-- ---- Tauth, Tflush and Tversion

abbrev denied : Option ℕ → Told
denied m = and_then (ok_or m refusal.NoVersion) (λ _. Err refusal.NoAuthentication)

denied_plain : (m : Option ℕ) (why : Refusal) → denied m ≡ Err why → is_failure why ≡ false
denied_plain None why is = let e : refusal.NoVersion ≡ why = cc in subst (λ r. is_failure r ≡ false) e refl
denied_plain (Some n) why is = let e : refusal.NoAuthentication ≡ why = cc in subst (λ r. is_failure r ≡ false) e refl

denied_ever : (m : Option ℕ) (p : Reply × State) → denied m ≡ Ok p → ⊥
denied_ever None p is = cc
denied_ever (Some n) p is = cc

abbrev idle : Option ℕ → State → Told
idle m z = and_then (ok_or m refusal.NoVersion) (λ _. Ok (reply.Flush, z))

idle_plain : (m : Option ℕ) (z : State) (why : Refusal) → idle m z ≡ Err why → is_failure why ≡ false
idle_plain None z why is = let e : refusal.NoVersion ≡ why = cc in subst (λ r. is_failure r ≡ false) e refl
idle_plain (Some n) z why is = absurd cc

abbrev reply_of : Told → Reply
reply_of (Ok p) = p.0
reply_of (Err why) = reply.Flush

idle_reply : (m : Option ℕ) (z : State) (oldtag : ℕ) (r : Reply) → idle m z ≡ Ok (r, z) → Grants (request.Flush oldtag) r
idle_reply None z oldtag r is = absurd cc
idle_reply (Some n) z oldtag r is = let e : reply.Flush ≡ r = ap reply_of is in subst (λ x. Grants (request.Flush oldtag) x) e tt

-- Tversion is granted by its reply, or by the text that the message size is too small
agrees : (b known : Bool) (z z' : State) (msize : ℕ) (text : List ℕ) (r : Reply) (size : ℕ) (x y : List ℕ) (z0 z1 z2 : State)
    → (let p : Reply × State = if b then (reply.Error (codes "msize too small"), z0) else (if known then (reply.Version size x, z1) else (reply.Version size y, z2)) in p) ≡ (r, z')
    → Grants (request.Version msize text) r
agrees true known z z' msize text r size x y z0 z1 z2 is = let e : reply.Error (codes "msize too small") ≡ r = ap (λ p. p.0) is in subst (λ s. Grants (request.Version msize text) s) e refl
agrees false true z z' msize text r size x y z0 z1 z2 is = let e : reply.Version size x ≡ r = ap (λ p. p.0) is in subst (λ s. Grants (request.Version msize text) s) e tt
agrees false false z z' msize text r size x y z0 z1 z2 is = let e : reply.Version size y ≡ r = ap (λ p. p.0) is in subst (λ s. Grants (request.Version msize text) s) e tt

version_grants : (z z' : State) (msize : ℕ) (text : List ℕ) (r : Reply) → version z msize text ≡ (r, z') → Grants (request.Version msize text) r
unfolding version
version_grants z z' msize text r is = agrees (nat_lt msize 256) (is_known text) z z' msize text r _ _ _ _ _ _ is

agreed_grants : (told : Reply × State) (z' : State) (r : Reply) → (let t : Told = Ok told in t) ≡ Ok (r, z') → told ≡ (r, z')
agreed_grants told z' r is = cc

module _ (a : FilesState) (within : Touches) (k : Kept) (now : ℕ) where
  -- what changes nothing
  replies_cause : (q : Request) (told : Told) (result : Result Reply Refusal)
      → ((why : Refusal) → told ≡ Err why → is_failure why ≡ false)
      → Replies told (in_files k a.world) result → IfErr result (HasCause a a 0)
  replies_cause q told (Ok r) plain h = tt
  replies_cause q told (Err why) plain h = plain_cause a a 0 why (plain why h)

  replies_grants : (q : Request) (told : Told) (result : Result Reply Refusal)
      → ((r : Reply) → told ≡ Ok (r, in_files k a.world) → Grants q r)
      → Replies told (in_files k a.world) result → IfOk result (Grants q)
  replies_grants q told (Ok r) grants h = grants r h
  replies_grants q told (Err why) grants h = tt

  replies_over : (q : Request) (told : Told) (result : Result Reply Refusal)
      → Tells a.how (in_files k a.world) now q told
      → Needs a.how (in_files k a.world) q 0
      → left_by (in_files k a.world) q ≡ in_files k a.world
      → most_of (in_files k a.world) q ≡ 0
      → sure_need k q ≡ 0
      → ((w : World) → within w 0)
      → ((r : Reply) → told ≡ Ok (r, in_files k a.world) → Grants q r)
      → ((why : Refusal) → told ≡ Err why → is_failure why ≡ false)
      → Replies told (in_files k a.world) result
      → TriedOver a a within k k now q result
  replies_over q told result tells needs left none sure any grants plain h = record {
    answer = λ honest. record {
      told = told;
      need = 0;
      tells = tells;
      needs = needs;
      attempts =
          let P : State → Type 0 = λ z. Attempts told (FailsBy a a 0 (is_ok told)) z (in_files k a.world) result in
          subst P (sym left) (attempts_replying told (FailsBy a a 0 (is_ok told)) (in_files k a.world) result h);
      room = had_none a.has_room result;
      touched = any _;
    };
    grants = replies_grants q told result grants h;
    had = had_any a.has_room (sure_need k q) result sure;
    cause = subst (λ n. IfErr result (HasCause a a n)) (sym none) (replies_cause q told result plain h);
    left_is = err_always result (k ≡ kept_of (left_by (in_files k a.world) q)) (sym (ap kept_of left));
    taken = (a.world, subst (λ n. within a.world n) (sym none) (any a.world));
  }

  pub auth_over : (afid : ℕ) (uname aname : List ℕ) (result : Result Reply Refusal) → ((w : World) → within w 0)
      → Replies (auth (in_files k a.world)) (in_files k a.world) result → TriedOver a a within k k now (request.Auth afid uname aname) result
  unfolding auth
  auth_over afid uname aname result any h =
      replies_over (request.Auth afid uname aname) (denied k.session.msize) result refl refl refl refl refl any
      (λ r is. absurd (denied_ever k.session.msize (r, in_files k a.world) is)) (denied_plain k.session.msize) h

  pub flush_over : (oldtag : ℕ) (result : Result Reply Refusal) → ((w : World) → within w 0)
      → Replies (flush (in_files k a.world)) (in_files k a.world) result → TriedOver a a within k k now (request.Flush oldtag) result
  unfolding flush
  flush_over oldtag result any h =
      replies_over (request.Flush oldtag) (idle k.session.msize (in_files k a.world)) result refl refl refl refl refl any
      (idle_reply k.session.msize (in_files k a.world) oldtag) (idle_plain k.session.msize (in_files k a.world)) h

  module _ (k' : Kept) (msize : ℕ) (text : List ℕ) where
    abbrev Agreed : Result Reply Refusal → Type 0
    Agreed result = Attempts (Ok (version (in_files k a.world) msize text)) (λ x. x ≡ error.Memory) (restarted (in_files k a.world) k.session.msize) (in_files k' a.world) result

    version_replies : (result : Result Reply Refusal) → Agreed result → IfOk result (Grants (request.Version msize text))
    version_replies (Ok r) h = version_grants (in_files k a.world) (in_files k' a.world) msize text r (agreed_grants (version (in_files k a.world) msize text) (in_files k' a.world) r h)
    version_replies (Err why) h = tt

    version_cause : (result : Result Reply Refusal) → Agreed result → IfErr result (HasCause a a 0)
    version_cause (Ok r) h = tt
    version_cause (Err why) h = ⊎_elim (λ is. absurd cc) (λ p. memory_cause a 0 why p.0 p.1 p.2) h.0

    version_leaves : (result : Result Reply Refusal) → Agreed result → IfErr result (λ _. k' ≡ kept_of (restarted (in_files k a.world) k.session.msize))
    version_leaves (Ok r) h = tt
    version_leaves (Err why) h = ap kept_of h.1

    pub version_over : (result : Result Reply Refusal) → ((w : World) → within w 0) → Agreed result → TriedOver a a within k k' now (request.Version msize text) result
    version_over result any h = record {
      answer = λ honest. record {
        told = Ok (version (in_files k a.world) msize text);
        need = 0;
        tells = refl;
        needs = refl;
        attempts = attempts_by (Ok (version (in_files k a.world) msize text)) (λ x. x ≡ error.Memory) (FailsBy a a 0 true) (restarted (in_files k a.world) k.session.msize) (in_files k' a.world) result (memory_fails a 0 true) h;
        room = had_none a.has_room result;
        touched = any _;
      };
      grants = version_replies result h;
      had = had_any a.has_room 0 result refl;
      cause = version_cause result h;
      left_is = version_leaves result h;
      taken = (a.world, any a.world);
    }

-- a Twrite that is granted counts its bytes
pub wrote : (fid offset : ℕ) (bytes : List ℕ) (result : Result Reply Refusal) → IfOk result (λ r. r ≡ reply.Write (length bytes)) → IfOk result (Grants (request.Write fid offset bytes))
wrote fid offset bytes (Ok r) is = subst (λ x. Grants (request.Write fid offset bytes) x) (sym is) refl
wrote fid offset bytes (Err why) is = tt
