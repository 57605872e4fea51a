-- What a session replies to each request, and what it and the world are then (section 5 of the Plan 9 manual).
use Rattle.std.specs.Prelude.{◌≡◌, ◌≤◌, ◌⊎◌, ℕ, Bool, true, false, not, ◌||◌, IsTrue, List, length, Option, Some, None, Result, Ok, Err, IfOk, is_ok, codes, if◌then◌else◌}
use Rattle.nine_wire.specs.declared.message.Request.{Request}
use Rattle.nine_wire.specs.declared.message.Request.TheVariants as request
use Rattle.nine_wire.specs.declared.message.Reply.{Reply}
use Rattle.nine_wire.specs.declared.message.Reply.TheVariants as reply
use Rattle.nine_wire.specs.Version.{largest_message}
use Rattle.nine_stat.specs.declared.stat.Stat.{Stat}
use Rattle.nine_stat.specs.Stat.{IsRecord}
use Rattle.fo_world.specs.declared.error.FileError.{FileError}
use Rattle.fo_world.specs.Step as step
use Rattle.fo_world.specs.World.{World}
use Rattle.fo_world.specs.Answers.{is_fault, granted_world}
use Rattle.nine_fids.specs.declared.fid.Fid.{Fid}
use Rattle.nine_fids.specs.declared.refusal.Refusal.{Refusal}
use Rattle.nine_fids.specs.declared.refusal.Refusal.TheVariants as refusal
use Rattle.nine_fids.specs.Refusing.{refusal_text}
use Rattle.nine_fids.specs.Fids.{Fids, State, known, clunked, restarted}
use Rattle.nine_fids.specs.declared.mode.Mode.{Mode}
use Rattle.fo_users.specs.Rights.{has_bit}
use Rattle.nine_fids.specs.Told.{Files}
use Rattle.nine_fids.specs.Looking.{FilesState, HasCause}
use Rattle.fo_world.specs.declared.place.Info.{Info}
use Rattle.nine_files.specs.Answering.{FailsBy}
use Rattle.nine_files.specs.Granting.{admitted}
use Rattle.nine_files.specs.Removing.{close_need, most_close, remove_need}
use Rattle.nine_session.specs.Attaching as attaching
use Rattle.nine_session.specs.Opening as opening
use Rattle.nine_session.specs.Reading as reading
use Rattle.nine_session.specs.Removing as removing
use Rattle.nine_session.specs.Stating as stating
use Rattle.nine_session.specs.Walking as walking
use Rattle.nine_files.specs.Opening.{cut_need}
use Rattle.nine_files.specs.Stating.{change_of}
use Rattle.nine_files.specs.Stating as changing

-- ---- what is granted, and what is refused

-- what the definition says of a request: the reply and the state after it, or a refusal
abbrev pub Told : Type 0
Told = Result (Reply × State) Refusal

-- Which request is told what, at a moment. A Twstat is told by the stat record that its bytes are.
abbrev pub Tells : Files → State → ℕ → Request → Told → Type 0
Tells e z now (request.Version msize version) told = told ≡ Ok (attaching.version z msize version)
Tells e z now (request.Auth afid uname aname) told = told ≡ attaching.auth z
Tells e z now (request.Attach fid afid uname aname) told = told ≡ attaching.attach e z fid afid uname aname
Tells e z now (request.Flush oldtag) told = told ≡ attaching.flush z
Tells e z now (request.Walk fid newfid names) told = told ≡ walking.walk e z fid newfid names
Tells e z now (request.Open fid mode) told = told ≡ opening.open_file e z now fid mode
Tells e z now (request.Create fid name perm mode) told = told ≡ opening.create_file e z now fid name perm mode
Tells e z now (request.Read fid offset count) told = told ≡ reading.read e z fid offset count
Tells e z now (request.Write fid offset bytes) told = told ≡ reading.write e z now fid offset bytes
Tells e z now (request.Clunk fid) told = told ≡ removing.clunk e z now fid
Tells e z now (request.Remove fid) told = told ≡ removing.remove e z now fid
Tells e z now (request.Stat fid) told = told ≡ stating.stat e z fid
Tells e z now (request.Wstat fid stat) told = (s : Stat) × IsRecord stat s × (told ≡ stating.wstat e z now fid s)

-- ---- what a refusal leaves

-- a fid that a client may name is gone, where a version is agreed to
abbrev pub without_fid : State → Option ℕ → Option Fid → State
without_fid z None f = z
without_fid z (Some msize) None = z
without_fid z (Some msize) (Some f) = clunked z f

-- Tversion clunks all fids in each case, and Tclunk and Tremove their own; all other refusals leave all as it was.
abbrev pub left_by : State → Request → State
left_by z (request.Version msize version) = restarted z z.session.msize
left_by z (request.Clunk fid) = without_fid z z.session.msize (known fid z.session.fids)
left_by z (request.Remove fid) = without_fid z z.session.msize (known fid z.session.fids)
left_by z _ = z

-- ---- the usable blocks that a request needs, where it is granted

-- what a request on a fid needs
abbrev pub need_at : Option Fid → (Fid → ℕ) → ℕ
need_at None need = 0
need_at (Some f) need = need f

-- what a Topen needs, where it is admitted
abbrev pub opening_need : Files → World → Fid → Result (Info × Mode) Refusal → ℕ
opening_need e w f (Ok p) = cut_need e w f p.0 p.1
opening_need e w f (Err r) = 0

-- A request needs so many usable blocks.
abbrev pub Needs : Files → State → Request → ℕ → Type 0
Needs e z (request.Open fid mode) need = need ≡ need_at (known fid z.session.fids) (λ f. opening_need e z.world f (admitted e z.world f z.exclusive mode))
Needs e z (request.Create fid name perm mode) need = need ≡ need_at (known fid z.session.fids) (λ f. step.create_need f.place)
Needs e z (request.Write fid offset bytes) need = need ≡ need_at (known fid z.session.fids) (λ f. step.write_need f.place bytes)
Needs e z (request.Clunk fid) need = need ≡ need_at (known fid z.session.fids) (close_need e z.world)
Needs e z (request.Remove fid) need = need ≡ need_at (known fid z.session.fids) remove_need
Needs e z (request.Wstat fid stat) need = (s : Stat) × IsRecord stat s × (need ≡ need_at (known fid z.session.fids) (λ f. step.change_need e.whole z.world f.place (change_of s)))
Needs e z _ need = need ≡ 0

-- the most of them, whatever the files hold: only OTRUNC of a Topen and ORCLOSE of a fid that goes may need any
abbrev pub most_of : State → Request → ℕ
most_of z (request.Open fid mode) = if has_bit mode 16 then need_at (known fid z.session.fids) (λ f. step.most_need f.place) else 0
most_of z (request.Create fid name perm mode) = need_at (known fid z.session.fids) (λ f. step.create_need f.place)
most_of z (request.Write fid offset bytes) = need_at (known fid z.session.fids) (λ f. step.write_need f.place bytes)
most_of z (request.Clunk fid) = need_at (known fid z.session.fids) most_close
most_of z (request.Remove fid) = need_at (known fid z.session.fids) remove_need
most_of z (request.Wstat fid stat) = need_at (known fid z.session.fids) (λ f. step.most_need f.place)
most_of z _ = 0

-- ---- the replies

-- a reply to Tversion agrees to no more than the largest message size
abbrev pub AgreesWithin : Reply → Type 0
AgreesWithin (reply.Version msize version) = msize ≤ largest_message
AgreesWithin _ = Unit {0}

-- the reply to what is told, and the state after it
abbrev pub replied : Told → State → Reply × State
replied (Ok p) left = p
replied (Err r) left = (reply.Error (refusal_text r), left)

-- the world of the state after a reply
abbrev pub world_after : Reply × State → World
world_after p = p.1.world

-- no more was touched than what differs between the world before and this one, and no more than so many blocks were taken
abbrev pub Touches : Type 1
Touches = World → ℕ → Type 0

-- why the files may fail a request beside what is told
abbrev pub Fails : Type 1
Fails = ℕ → Bool → FileError → Type 0

-- A request is granted only where the room before it was up to its need.
abbrev pub HadRoom : (ℕ → Type 0) → ℕ → Told → Type 0
HadRoom has_room need told = IfOk told (λ _. (n : ℕ) → has_room n → need ≤ n)

-- The reply and the state are those that the definition tells, or the reply is the text of a failure of the files that has its
-- cause, and the state is that which a refusal leaves. No more was touched than what the definition changes, and nothing where the
-- definition refuses the request, or the failure is none of a device.
pub data IsServed (e : Files) (fails : Fails) (has_room : ℕ → Type 0) (within : Touches) (z : State) (now : ℕ) (q : Request) (r : Reply) (z' : State) : Type 0 where
  as_told : (told : Told) (need : ℕ) → Tells e z now q told → Needs e z q need → (r, z') ≡ replied told (left_by z q) → HadRoom has_room need told → within (granted_world world_after told z.world) need → IsServed e fails has_room within z now q r z'
  failed : (told : Told) (need : ℕ) (x : FileError) → Tells e z now q told → Needs e z q need → fails need (is_ok told) x → r ≡ reply.Error (refusal_text (refusal.File x)) → z' ≡ left_by z q → within (if is_fault x then granted_world world_after told z.world else z.world) need → IsServed e fails has_room within z now q r z'

-- A session and the list of files that are open for exclusive use.
pub record Kept : Type 0 where
  pub session : Fids
  pub exclusive : List ℕ

abbrev pub in_files : Kept → World → State
in_files k w = record { session = k.session; exclusive = k.exclusive; world = w }

abbrev pub kept_of : State → Kept
kept_of z = record { session = z.session; exclusive = z.exclusive }

-- This reply grants this request.
abbrev pub Grants : Request → Reply → Type 0
Grants (request.Version msize version) (reply.Version m v) = Unit {0}
Grants (request.Version msize version) (reply.Error text) = text ≡ codes "msize too small"
Grants (request.Attach fid afid uname aname) (reply.Attach qid) = Unit {0}
Grants (request.Flush oldtag) reply.Flush = Unit {0}
Grants (request.Walk fid newfid names) (reply.Walk qids) = length qids ≤ length names
Grants (request.Open fid mode) (reply.Open qid iounit) = Unit {0}
Grants (request.Create fid name perm mode) (reply.Create qid iounit) = Unit {0}
Grants (request.Read fid offset count) (reply.Read bytes) = length bytes ≤ count
Grants (request.Write fid offset bytes) (reply.Write count) = count ≡ length bytes
Grants (request.Clunk fid) reply.Clunk = Unit {0}
Grants (request.Remove fid) reply.Remove = Unit {0}
Grants (request.Stat fid) (reply.Stat bytes) = Unit {0}
Grants (request.Wstat fid bytes) reply.Wstat = Unit {0}
Grants _ _ = ⊥

-- Over any files: the request is granted by its own kind of reply, or it is refused for a cause, and then the session is what the
-- refusal leaves.
abbrev pub IsAnswered : FilesState → FilesState → Kept → Request → ℕ → Reply → Kept → Type 0
IsAnswered old new k q most r k' = Grants q r ⊎ ((why : Refusal) × (r ≡ reply.Error (refusal_text why)) × HasCause old new most why × (k' ≡ kept_of (left_by (in_files k old.world) q)))

-- what a request needs on whatever files, where it is granted: a Tcreate, a Twrite and a Tremove
abbrev pub sure_need : Kept → Request → ℕ
sure_need k (request.Create fid name perm mode) = need_at (known fid k.session.fids) (λ f. step.create_need f.place)
sure_need k (request.Write fid offset bytes) = need_at (known fid k.session.fids) (λ f. step.write_need f.place bytes)
sure_need k (request.Remove fid) = need_at (known fid k.session.fids) remove_need
sure_need k _ = 0

-- What a session answers over files: where they are honest what the definition says; over any files an answer of its request's kind,
-- with its cause, granted only with room for its need, and no more blocks taken than the request may need.
pub record Serves (old new : FilesState) (within : Touches) (k : Kept) (now : ℕ) (q : Request) (r : Reply) (k' : Kept) : Type 0 where
  pub answer : old.honest → IsServed old.how (FailsBy old new) old.has_room within (in_files k old.world) now q r (in_files k' new.world)
  pub answers : IsAnswered old new k q (most_of (in_files k old.world) q) r k'
  pub had : Grants q r → (n : ℕ) → old.has_room n → sure_need k q ≤ n
  pub taken : (w : World) × within w (most_of (in_files k old.world) q)

-- ---- the sync that a client asks for

-- nothing is given by a stat record
abbrev pub touches_nothing : Stat → Bool
touches_nothing s = not (changing.touches_fixed s || changing.touches (change_of s))

-- a Twstat that touches nothing
abbrev pub AsksSync : Request → Type 0
AsksSync (request.Wstat fid stat) = (s : Stat) × IsRecord stat s × IsTrue (touches_nothing s)
AsksSync _ = ⊥

-- The files were only looked at, and then settled at most once.
abbrev pub SettlesOnce : {F : Type 0} → (looks settles : F → F → Type 0) → F → F → Type 0
SettlesOnce {F = F} looks settles old new = looks old new ⊎ ((mid : F) × looks old mid × settles mid new)

-- ---- the end of a session

-- What the end of a fid answers: nothing where Tclunk would be granted, else the reply that would refuse it. The fid is gone in
-- each case.
pub data IsDropped (told : Told) (need : ℕ) (fails : FileError → Type 0) (has_room : ℕ → Type 0) (within : Touches) (old : World) (left : State) (answer : Option Reply) (z' : State) : Type 0 where
  granted : (r : Reply) → told ≡ Ok (r, z') → answer ≡ None → HadRoom has_room need told → within z'.world need → IsDropped told need fails has_room within old left answer z'
  refused : (why : Refusal) → told ≡ Err why → answer ≡ Some (reply.Error (refusal_text why)) → z' ≡ left → within old need → IsDropped told need fails has_room within old left answer z'
  failed : (x : FileError) → fails x → answer ≡ Some (reply.Error (refusal_text (refusal.File x))) → z' ≡ left → within (if is_fault x then granted_world world_after told old else old) need → IsDropped told need fails has_room within old left answer z'

-- over any files: nothing is answered, or an Rerror that has its cause
abbrev pub IsEnded : FilesState → FilesState → ℕ → Option Reply → Type 0
IsEnded old new most None = Unit {0}
IsEnded old new most (Some r) = (why : Refusal) × (r ≡ reply.Error (refusal_text why)) × HasCause old new most why

-- The fid of this number goes as by Tclunk.
pub record LetsGo (old new : FilesState) (within : Touches) (k : Kept) (now : ℕ) (f : Fid) (answer : Option Reply) (k' : Kept) : Type 0 where
  pub answer_is : old.honest → IsDropped (removing.clunk_fid old.how (in_files k old.world) now f) (close_need old.how old.world f) (FailsBy old new (close_need old.how old.world f) (is_ok (removing.clunk_fid old.how (in_files k old.world) now f))) old.has_room within old.world (clunked (in_files k old.world) f) answer (in_files k' new.world)
  pub ends : IsEnded old new (most_close f) answer
  pub left : k' ≡ kept_of (clunked (in_files k old.world) f)
  pub taken : (w : World) × within w (most_close f)

-- the least fid goes as by Tclunk; with no fid the version is forgotten, and the files are as they were
abbrev pub Drops : FilesState → FilesState → Touches → Kept → ℕ → Option Fid → Bool → Option Reply → Kept → Type 0
Drops old new within k now None more r k' = (more ≡ false) × (r ≡ None) × (k' ≡ kept_of (restarted (in_files k old.world) None)) × within old.world 0 × (new.world ≡ old.world)
Drops old new within k now (Some f) more r k' = (more ≡ true) × LetsGo old new within k now f r k'
