-- Tread and Twrite: what they tell, once what they ask for first is known.
use Rattle.std.proofs.Common.{◌≡◌, ℕ, ◌≤◌, List, length, take, drop, min, true, false, not, Result, Ok, Err, ◌==◌, refl, sym, ap, ◌∙◌, arith}
use Rattle.std.specs.Prelude.{IfOk, if◌then◌else◌}
use Rattle.std.proofs.lemmas.Bool.{eqb-true}
use Rattle.std.proofs.lemmas.List.{length-take}
use Rattle.std.proofs.lemmas.Result.{IfOk-at_ok}
use Rattle.nine_wire.specs.declared.message.Reply.TheVariants as reply
use Rattle.fo_world.specs.declared.place.Info.{Info}
use Rattle.fo_world.specs.declared.place.Place.{Place}
use Rattle.fo_world.specs.declared.tree.Node.{Node}
use Rattle.fo_world.specs.declared.tree.Body.{Body}
use Rattle.fo_world.specs.declared.tree.Body.TheVariants.{File, Dir}
use Rattle.fo_world.specs.declared.error.FileError.{FileError}
use Rattle.fo_world.specs.declared.error.FileError.TheVariants as error
use Rattle.fo_world.specs.World.{Faults, World}
use Rattle.fo_world.specs.Step as step
use Rattle.nine_fids.specs.declared.fid.Fid.{Fid}
use Rattle.nine_fids.specs.declared.fid.Opened.{Opened}
use Rattle.nine_fids.specs.declared.refusal.Refusal.{Refusal}
use Rattle.nine_fids.specs.declared.refusal.Refusal.TheVariants as refusal
use Rattle.fo_world.specs.Chain.{and_then, refuse_if}
use Rattle.nine_fids.specs.Refusing.{looked, changed, is_failure}
use Rattle.nine_fids.specs.Fids.{State, version_of, fid_at, opened_of, in_world}
use Rattle.nine_fids.specs.Told.{Files, info_at, bytes_at, iounit}
use Rattle.nine_fids.specs.Modes.{reads, writes}
use Rattle.nine_fids.specs.Looking.{IsRefused, MayMiss}
use Rattle.nine_files.specs.Parts.{write_start}
use Rattle.nine_files.proofs.Links.{plain_at, some_plain, then_ok, told_if_plain}
use Rattle.nine_session.specs.Reading.{is_directory, read, read_directory, read_or_listed, write}
use Rattle.nine_session.specs.Session.{Told}
use Rattle.nine_session.proofs.Links.{refuse_no, refuse_yes, then_err}
use Rattle.nine_session.proofs.Listing.{directory_from, directory_there}

-- ---- an open fid, where a version is agreed to

abbrev pub Going : Type 0
Going = ℕ → Fid → Opened → Told

abbrev pub with_opened : State → ℕ → Going → Told
with_opened z fid go = and_then (version_of z) (λ m. and_then (fid_at z fid) (λ f. and_then (opened_of f) (go m f)))

pub no_version : (z : State) (fid : ℕ) (go : Going) (r : Refusal) → version_of z ≡ Err r → with_opened z fid go ≡ Err r
no_version z fid go r h = then_err (version_of z) r (λ m. and_then (fid_at z fid) (λ f. and_then (opened_of f) (go m f))) h

version_there : (z : State) (fid : ℕ) (go : Going) (m : ℕ) → version_of z ≡ Ok m → with_opened z fid go ≡ and_then (fid_at z fid) (λ f. and_then (opened_of f) (go m f))
version_there z fid go m h = then_ok (version_of z) m (λ m. and_then (fid_at z fid) (λ f. and_then (opened_of f) (go m f))) h

pub no_fid : (z : State) (fid : ℕ) (go : Going) (m : ℕ) (r : Refusal) → version_of z ≡ Ok m → fid_at z fid ≡ Err r → with_opened z fid go ≡ Err r
no_fid z fid go m r h k = version_there z fid go m h ∙ then_err (fid_at z fid) r (λ f. and_then (opened_of f) (go m f)) k

fid_found : (z : State) (fid : ℕ) (go : Going) (m : ℕ) (f : Fid) → version_of z ≡ Ok m → fid_at z fid ≡ Ok f → with_opened z fid go ≡ and_then (opened_of f) (go m f)
fid_found z fid go m f h k = version_there z fid go m h ∙ then_ok (fid_at z fid) f (λ f. and_then (opened_of f) (go m f)) k

pub not_opened : (z : State) (fid : ℕ) (go : Going) (m : ℕ) (f : Fid) (r : Refusal) → version_of z ≡ Ok m → fid_at z fid ≡ Ok f → opened_of f ≡ Err r → with_opened z fid go ≡ Err r
not_opened z fid go m f r h k j = fid_found z fid go m f h k ∙ then_err (opened_of f) r (go m f) j

-- a fid that isn't open is refused, which is no failure
pub opened_plain : (f : Fid) (r : Refusal) → opened_of f ≡ Err r → is_failure r ≡ false
opened_plain f r h = plain_at (opened_of f) r (some_plain f.opened refusal.FidIsNotOpen refl) h

pub opened_there : (z : State) (fid : ℕ) (go : Going) (m : ℕ) (f : Fid) (o : Opened) → version_of z ≡ Ok m → fid_at z fid ≡ Ok f → opened_of f ≡ Ok o → with_opened z fid go ≡ go m f o
opened_there z fid go m f o h k j = fid_found z fid go m f h k ∙ then_ok (opened_of f) o (go m f) j

-- ---- Tread

-- of an open fid that may be read
abbrev pub reading : Files → State → ℕ → ℕ → ℕ → Fid → Opened → Told
reading e z offset count m f o = read_or_listed z (bytes_at e z.world f.place offset (min count (iounit m))) (read_directory e z f o offset (min count (iounit m)))

-- of an open fid
abbrev pub reads_from : Files → State → ℕ → ℕ → Going
reads_from e z offset count m f o = refuse_if (not (reads o.access)) refusal.NotForReading (reading e z offset count m f o)

pub read_begins : (e : Files) (z : State) (fid offset count : ℕ) → read e z fid offset count ≡ with_opened z fid (reads_from e z offset count)
unfolding read
read_begins e z fid offset count = refl

pub reads_not : (e : Files) (z : State) (offset count m : ℕ) (f : Fid) (o : Opened) → reads o.access ≡ false → reads_from e z offset count m f o ≡ Err refusal.NotForReading
reads_not e z offset count m f o h = refuse_yes (not (reads o.access)) refusal.NotForReading (reading e z offset count m f o) (ap not h)

reads_on : (e : Files) (z : State) (offset count m : ℕ) (f : Fid) (o : Opened) → reads o.access ≡ true → reads_from e z offset count m f o ≡ reading e z offset count m f o
reads_on e z offset count m f o h = refuse_no (not (reads o.access)) refusal.NotForReading (reading e z offset count m f o) (ap not h)

read_opened : (e : Files) (z : State) (fid offset count m : ℕ) (f : Fid) (o : Opened) → version_of z ≡ Ok m → fid_at z fid ≡ Ok f → opened_of f ≡ Ok o → reads o.access ≡ true → read e z fid offset count ≡ reading e z offset count m f o
read_opened e z fid offset count m f o v h k a =
    read_begins e z fid offset count ∙ opened_there z fid (reads_from e z offset count) m f o v h k ∙ reads_on e z offset count m f o a

-- by what is read of the bytes
read_by : (e : Files) (z : State) (fid offset count m : ℕ) (f : Fid) (o : Opened) (t : Result (List ℕ) Refusal) → version_of z ≡ Ok m → fid_at z fid ≡ Ok f → opened_of f ≡ Ok o → reads o.access ≡ true → bytes_at e z.world f.place offset (min count (iounit m)) ≡ t → read e z fid offset count ≡ read_or_listed z t (read_directory e z f o offset (min count (iounit m)))
read_by e z fid offset count m f o t v h k a is =
    read_opened e z fid offset count m f o v h k a ∙ ap (λ b. read_or_listed z b (read_directory e z f o offset (min count (iounit m)))) is

-- of a directory
pub read_lists : (e : Files) (z : State) (fid offset count m : ℕ) (f : Fid) (o : Opened) (r : Refusal) → version_of z ≡ Ok m → fid_at z fid ≡ Ok f → opened_of f ≡ Ok o → reads o.access ≡ true → bytes_at e z.world f.place offset (min count (iounit m)) ≡ Err r → is_directory r ≡ true → read e z fid offset count ≡ directory_from e z fid offset (min count (iounit m))
read_lists e z fid offset count m f o r v h k a is d =
    read_by e z fid offset count m f o (Err r) v h k a is ∙ ap (λ b. if b then read_directory e z f o offset (min count (iounit m)) else Err r) d ∙ sym (directory_there e z fid offset (min count (iounit m)) f o h k)

-- of a file that isn't read
pub read_unread : (e : Files) (z : State) (fid offset count m : ℕ) (f : Fid) (o : Opened) (r : Refusal) → version_of z ≡ Ok m → fid_at z fid ≡ Ok f → opened_of f ≡ Ok o → reads o.access ≡ true → is_directory r ≡ false → bytes_at e z.world f.place offset (min count (iounit m)) ≡ Err r → read e z fid offset count ≡ Err r
read_unread e z fid offset count m f o r v h k a d is =
    read_by e z fid offset count m f o (Err r) v h k a is ∙ ap (λ b. if b then read_directory e z f o offset (min count (iounit m)) else Err r) d

pub read_whole : (e : Files) (z : State) (fid offset count m : ℕ) (f : Fid) (o : Opened) (bytes : List ℕ) → version_of z ≡ Ok m → fid_at z fid ≡ Ok f → opened_of f ≡ Ok o → reads o.access ≡ true → bytes_at e z.world f.place offset (min count (iounit m)) ≡ Ok bytes → read e z fid offset count ≡ Ok (reply.Read bytes, z)
read_whole e z fid offset count m f o bytes v h k a is = read_by e z fid offset count m f o (Ok bytes) v h k a is

directory_plain : (r : Refusal) → is_directory r ≡ true → is_failure r ≡ false
directory_plain (refusal.File error.IsDir) h = refl
directory_plain r h = absurd cc

-- what is a directory is told to be one
pub directory_told : {A : Type 0} (told : Result A Refusal) (f0 f1 : Faults) (h : Type 0) (r : Refusal) → is_directory r ≡ true → IsRefused told (MayMiss f0 f1 h) r → told ≡ Err r
directory_told told f0 f1 h r d k = told_if_plain told f0 f1 h r (directory_plain r d) k

-- no more bytes than the count
body_short : (w : World) (b : Body) (offset count : ℕ) → IfOk (looked (and_then (step.as_file b) (λ bytes. let out : Result (List ℕ × World) FileError = Ok (take count (drop offset bytes), w) in out))) (λ bytes. length bytes ≤ count)
body_short w (File bytes) offset count = omega (arith, length-take count (drop offset bytes))
body_short w (Dir names) offset count = tt

reached_short : (w : World) (r : Result (List ℕ × Node) FileError) (offset count : ℕ) → IfOk (looked (and_then r (λ f. and_then (step.as_file f.1.body) (λ bytes. let out : Result (List ℕ × World) FileError = Ok (take count (drop offset bytes), w) in out)))) (λ bytes. length bytes ≤ count)
reached_short w (Ok f) offset count = body_short w f.1.body offset count
reached_short w (Err x) offset count = tt

read_short : (e : Files) (w : World) (at : Place) (offset count : ℕ) → IfOk (bytes_at e w at offset count) (λ bytes. length bytes ≤ count)
unfolding bytes_at step.read
read_short e w at offset count = reached_short w (step.reached e.whole w at) offset count

pub bytes_short : (e : Files) (w : World) (at : Place) (offset count : ℕ) (bytes : List ℕ) → bytes_at e w at offset count ≡ Ok bytes → length bytes ≤ count
bytes_short e w at offset count bytes is = IfOk-at_ok (λ bytes. length bytes ≤ count) is (read_short e w at offset count)

-- ---- Twrite

abbrev pub writing : Files → State → ℕ → ℕ → List ℕ → Fid → Info → Told
writing e z now offset bytes f i =
    if length bytes == 0 then Ok (reply.Write 0, z)
    else and_then (changed (step.write e.whole e.largest z.world f.place (write_start i offset) bytes f.user now)) (λ p. Ok (reply.Write (length bytes), in_world z p.1))

abbrev pub writes_to : Files → State → ℕ → ℕ → List ℕ → Going
writes_to e z now offset bytes m f o = refuse_if (not (writes o.access)) refusal.NotForWriting (and_then (info_at e z.world f.place) (writing e z now offset bytes f))

pub write_begins : (e : Files) (z : State) (now fid offset : ℕ) (bytes : List ℕ) → write e z now fid offset bytes ≡ with_opened z fid (writes_to e z now offset bytes)
unfolding write
write_begins e z now fid offset bytes = refl

pub writes_not : (e : Files) (z : State) (now offset m : ℕ) (bytes : List ℕ) (f : Fid) (o : Opened) → writes o.access ≡ false → writes_to e z now offset bytes m f o ≡ Err refusal.NotForWriting
writes_not e z now offset m bytes f o h = refuse_yes (not (writes o.access)) refusal.NotForWriting (and_then (info_at e z.world f.place) (writing e z now offset bytes f)) (ap not h)

pub writes_on : (e : Files) (z : State) (now offset m : ℕ) (bytes : List ℕ) (f : Fid) (o : Opened) → writes o.access ≡ true → writes_to e z now offset bytes m f o ≡ and_then (info_at e z.world f.place) (writing e z now offset bytes f)
writes_on e z now offset m bytes f o h = refuse_no (not (writes o.access)) refusal.NotForWriting (and_then (info_at e z.world f.place) (writing e z now offset bytes f)) (ap not h)

pub writes_none : (e : Files) (z : State) (now offset : ℕ) (bytes : List ℕ) (f : Fid) (i : Info) → (length bytes == 0) ≡ true → writing e z now offset bytes f i ≡ Ok (reply.Write 0, z)
writes_none e z now offset bytes f i h = rw h refl

-- nothing is written, and no block is needed
pub none_needed : (at : Place) (bytes : List ℕ) → (length bytes == 0) ≡ true → step.write_need at bytes ≡ 0
none_needed at bytes h = ap (λ b. if b then 0 else step.need (step.depth_of at) (length bytes)) h

pub no_bytes : (bytes : List ℕ) → (length bytes == 0) ≡ true → 0 ≡ length bytes
no_bytes bytes h = sym (eqb-true (length bytes) 0 h)

pub writes_some : (e : Files) (z : State) (now offset : ℕ) (bytes : List ℕ) (f : Fid) (i : Info) → (length bytes == 0) ≡ false → writing e z now offset bytes f i ≡ and_then (changed (step.write e.whole e.largest z.world f.place (write_start i offset) bytes f.user now)) (λ p. Ok (reply.Write (length bytes), in_world z p.1))
writes_some e z now offset bytes f i h = rw h refl

pub write_opened : (e : Files) (z : State) (now fid offset m : ℕ) (bytes : List ℕ) (f : Fid) (o : Opened) → version_of z ≡ Ok m → fid_at z fid ≡ Ok f → opened_of f ≡ Ok o → writes o.access ≡ true → write e z now fid offset bytes ≡ and_then (info_at e z.world f.place) (writing e z now offset bytes f)
write_opened e z now fid offset m bytes f o v h k a =
    write_begins e z now fid offset bytes ∙ opened_there z fid (writes_to e z now offset bytes) m f o v h k ∙ writes_on e z now offset m bytes f o a

pub write_missed : (e : Files) (z : State) (now fid offset m : ℕ) (bytes : List ℕ) (f : Fid) (o : Opened) (r : Refusal) → version_of z ≡ Ok m → fid_at z fid ≡ Ok f → opened_of f ≡ Ok o → writes o.access ≡ true → info_at e z.world f.place ≡ Err r → write e z now fid offset bytes ≡ Err r
write_missed e z now fid offset m bytes f o r v h k a missed =
    write_opened e z now fid offset m bytes f o v h k a ∙ then_err (info_at e z.world f.place) r (writing e z now offset bytes f) missed

pub write_there : (e : Files) (z : State) (now fid offset m : ℕ) (bytes : List ℕ) (f : Fid) (o : Opened) (i : Info) → version_of z ≡ Ok m → fid_at z fid ≡ Ok f → opened_of f ≡ Ok o → writes o.access ≡ true → info_at e z.world f.place ≡ Ok i → write e z now fid offset bytes ≡ writing e z now offset bytes f i
write_there e z now fid offset m bytes f o i v h k a there =
    write_opened e z now fid offset m bytes f o v h k a ∙ then_ok (info_at e z.world f.place) i (writing e z now offset bytes f) there
