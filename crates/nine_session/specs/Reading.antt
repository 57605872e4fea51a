-- Tread and Twrite (read(5) of the Plan 9 manual).
use Rattle.std.specs.Prelude.{◌≡◌, ℕ, suc, ◌+◌, ◌%◌, ◌^◌, List, length, min, Bool, true, false, not, ◌&&◌, ◌==◌, Result, Ok, Err, if◌then◌else◌}
use Rattle.nine_wire.specs.declared.message.Reply.{Reply}
use Rattle.nine_wire.specs.declared.message.Reply.TheVariants as reply
use Rattle.fo_world.specs.declared.place.Place.{Place}
use Rattle.fo_world.specs.declared.tree.Node.{Node}
use Rattle.fo_world.specs.declared.error.FileError.TheVariants as error
use Rattle.fo_world.specs.World.{World}
use Rattle.fo_world.specs.Step as step
use Rattle.fo_world.specs.Tree as tree
use Rattle.nine_fids.specs.declared.fid.Fid.{Fid}
use Rattle.nine_fids.specs.declared.fid.Opened.{Opened}
use Rattle.nine_fids.specs.declared.refusal.Refusal.{Refusal}
use Rattle.nine_fids.specs.declared.refusal.Refusal.TheVariants as refusal
use Rattle.fo_world.specs.Chain.{and_then, refuse_if}
use Rattle.nine_fids.specs.Refusing.{changed}
use Rattle.nine_fids.specs.Fids.{State, version_of, fid_at, opened_of, with_fid, with_fids, in_world}
use Rattle.nine_fids.specs.Told.{Files, info_at, next_at, bytes_at, is_dir, appends, iounit}
use Rattle.nine_fids.specs.Modes.{reads, writes}
use Rattle.nine_files.specs.Reading.{exceeds, files_above, last_name, read_to, records_of, start_of}

-- The records that fit into the count. It goes on where the last read ended, or begins anew at offset 0.
unfoldable pub read_directory : Files → State → Fid → Opened → ℕ → ℕ → Result (Reply × State) Refusal
read_directory e z f o offset count =
    refuse_if (not (offset == 0) && not (offset == o.offset)) refusal.BadOffset (
    and_then (next_at e z.world f.place (start_of o offset)) (λ first.
    refuse_if (exceeds count first) refusal.CountTooSmall (
    and_then (files_above (suc count) e z.world f.place (start_of o offset) count) (λ is.
    Ok (reply.Read (records_of is), with_fids z (with_fid (read_to f o ((offset + length (records_of is)) % 2 ^ 64) (last_name (start_of o offset) is)) z.session.fids))))))

-- the files say that it is a directory
abbrev pub is_directory : Refusal → Bool
is_directory (refusal.File error.IsDir) = true
is_directory _ = false

-- what is read of a file, or else, of a directory, what is listed
abbrev pub read_or_listed : State → Result (List ℕ) Refusal → Result (Reply × State) Refusal → Result (Reply × State) Refusal
read_or_listed z (Ok bytes) listed = Ok (reply.Read bytes, z)
read_or_listed z (Err r) listed = if is_directory r then listed else Err r

-- Tread: bytes of a file, or whole records of a directory
unfoldable pub read : Files → State → ℕ → ℕ → ℕ → Result (Reply × State) Refusal
read e z fid offset count =
    and_then (version_of z) (λ msize.
    and_then (fid_at z fid) (λ f.
    and_then (opened_of f) (λ o.
    refuse_if (not (reads o.access)) refusal.NotForReading (
    read_or_listed z (bytes_at e z.world f.place offset (min count (iounit msize))) (read_directory e z f o offset (min count (iounit msize)))))))

-- the same, told by the mode: what has DMDIR is listed
unfoldable pub read_by_mode : Files → State → ℕ → ℕ → ℕ → Result (Reply × State) Refusal
read_by_mode e z fid offset count =
    and_then (version_of z) (λ msize.
    and_then (fid_at z fid) (λ f.
    and_then (opened_of f) (λ o.
    refuse_if (not (reads o.access)) refusal.NotForReading (
    and_then (info_at e z.world f.place) (λ i.
    if is_dir i.mode then read_directory e z f o offset (min count (iounit msize))
    else and_then (bytes_at e z.world f.place offset (min count (iounit msize))) (λ bytes. Ok (reply.Read bytes, z)))))))

-- the file at a place has DMDIR exactly where it is a directory
abbrev pub HasKind : Files → World → Place → Type 0
HasKind e w at = (f : List ℕ × Node) → step.reached e.whole w at ≡ Ok f → is_dir f.1.mode ≡ tree.is_dir f.1.body

-- Where DMDIR says what is a directory, a read may be told by it.
abbrev pub ReadGoesByMode : Type 0
ReadGoesByMode = (e : Files) (z : State) (fid offset count : ℕ) → ((f : Fid) → fid_at z fid ≡ Ok f → HasKind e z.world f.place) → read e z fid offset count ≡ read_by_mode e z fid offset count

-- Twrite: bytes at an offset, or at the end of a file with DMAPPEND; a write of none changes nothing
unfoldable pub write : Files → State → ℕ → ℕ → ℕ → List ℕ → Result (Reply × State) Refusal
write e z now fid offset bytes =
    and_then (version_of z) (λ _.
    and_then (fid_at z fid) (λ f.
    and_then (opened_of f) (λ o.
    refuse_if (not (writes o.access)) refusal.NotForWriting (
    and_then (info_at e z.world f.place) (λ i.
    if length bytes == 0 then Ok (reply.Write 0, z)
    else and_then (changed (step.write e.whole e.largest z.world f.place (if appends i.mode then i.length else offset) bytes f.user now)) (λ p.
    Ok (reply.Write (length bytes), in_world z p.1)))))))
