-- Reads of directories: the reply, and the place where the next read goes on.
use Rattle.std.proofs.Common.{◌≡◌, ℕ, suc, ◌+◌, ◌%◌, ◌^◌, List, length, Bool, true, false, not, ◌&&◌, Option, Result, Ok, Err, ◌==◌, refl, sym, ap, ◌∙◌}
use Rattle.nine_wire.specs.declared.message.Reply.{Reply}
use Rattle.nine_wire.specs.declared.message.Reply.TheVariants as reply
use Rattle.fo_world.specs.declared.place.Info.{Info}
use Rattle.fo_world.specs.declared.error.FileError.{FileError}
use Rattle.nine_fids.specs.declared.fid.Fid.{Fid}
use Rattle.nine_fids.specs.declared.fid.Opened.{Opened}
use Rattle.nine_fids.specs.declared.refusal.Refusal.{Refusal}
use Rattle.nine_fids.specs.declared.refusal.Refusal.TheVariants as refusal
use Rattle.fo_world.specs.Chain.{and_then, refuse_if}
use Rattle.nine_fids.specs.Fids.{State, fid_at, opened_of, with_fid, with_fids}
use Rattle.nine_fids.specs.Told.{Files, next_at}
use Rattle.nine_fids.specs.Looking.{IsRefused}
use Rattle.nine_files.specs.Parts.{Gives, listed}
use Rattle.nine_files.specs.Reading.{exceeds, files_above, last_name, read_to, records_of, start_of}
use Rattle.nine_files.proofs.Links.{then_ok}
use Rattle.nine_session.specs.Reading.{read_directory}
use Rattle.nine_session.proofs.Links.{link_refused, refuse_no, refuse_yes, same_refused, then_err, past_refuse}

-- ---- the request

looks_first : {A B C : Type 0} (t : Result A Refusal) (b : A → Bool) (r : Refusal) (u : Result B Refusal) (g : B → Result C Refusal) → and_then t (λ x. refuse_if (b x) r (and_then u g)) ≡ and_then (and_then t (λ x. refuse_if (b x) r u)) g
looks_first (Ok x) b r u g = past_refuse (b x) r u g
looks_first (Err e) b r u g = refl

-- the reply and the state, once the files are known
abbrev pub directory_read : State → Fid → Opened → ℕ → List Info → Reply × State
directory_read z f o offset is = (reply.Read (records_of is), with_fids z (with_fid (read_to f o ((offset + length (records_of is)) % 2 ^ 64) (last_name (start_of o offset) is)) z.session.fids))

pub directory_lists : (e : Files) (z : State) (f : Fid) (o : Opened) (offset count : ℕ) → read_directory e z f o offset count ≡ refuse_if (not (offset == 0) && not (offset == o.offset)) refusal.BadOffset (and_then (listed e z.world f.place (start_of o offset) count) (λ is. Ok (directory_read z f o offset is)))
unfolding read_directory listed
directory_lists e z f o offset count =
    ap (refuse_if (not (offset == 0) && not (offset == o.offset)) refusal.BadOffset)
    (looks_first (next_at e z.world f.place (start_of o offset)) (exceeds count) refusal.CountTooSmall (files_above (suc count) e z.world f.place (start_of o offset) count) (λ is. Ok (directory_read z f o offset is)))

-- ---- a directory of an open fid

abbrev pub directory_from : Files → State → ℕ → ℕ → ℕ → Result (Reply × State) Refusal
directory_from e z fid offset count = and_then (fid_at z fid) (λ f. and_then (opened_of f) (λ o. read_directory e z f o offset count))

pub directory_no_fid : (e : Files) (z : State) (fid offset count : ℕ) (r : Refusal) → fid_at z fid ≡ Err r → directory_from e z fid offset count ≡ Err r
directory_no_fid e z fid offset count r h = then_err (fid_at z fid) r (λ f. and_then (opened_of f) (λ o. read_directory e z f o offset count)) h

directory_fid : (e : Files) (z : State) (fid offset count : ℕ) (f : Fid) → fid_at z fid ≡ Ok f → directory_from e z fid offset count ≡ and_then (opened_of f) (λ o. read_directory e z f o offset count)
directory_fid e z fid offset count f h = then_ok (fid_at z fid) f (λ f. and_then (opened_of f) (λ o. read_directory e z f o offset count)) h

pub directory_not_open : (e : Files) (z : State) (fid offset count : ℕ) (f : Fid) (r : Refusal) → fid_at z fid ≡ Ok f → opened_of f ≡ Err r → directory_from e z fid offset count ≡ Err r
directory_not_open e z fid offset count f r h k = directory_fid e z fid offset count f h ∙ then_err (opened_of f) r (λ o. read_directory e z f o offset count) k

pub directory_there : (e : Files) (z : State) (fid offset count : ℕ) (f : Fid) (o : Opened) → fid_at z fid ≡ Ok f → opened_of f ≡ Ok o → directory_from e z fid offset count ≡ read_directory e z f o offset count
directory_there e z fid offset count f o h k = directory_fid e z fid offset count f h ∙ then_ok (opened_of f) o (λ o. read_directory e z f o offset count) k

abbrev pub is_bad : Opened → ℕ → Bool
is_bad o offset = not (offset == 0) && not (offset == o.offset)

pub directory_bad : (e : Files) (z : State) (fid offset count : ℕ) (f : Fid) (o : Opened) → fid_at z fid ≡ Ok f → opened_of f ≡ Ok o → is_bad o offset ≡ true → directory_from e z fid offset count ≡ Err refusal.BadOffset
directory_bad e z fid offset count f o h k bad =
    directory_there e z fid offset count f o h k ∙ directory_lists e z f o offset count
    ∙ refuse_yes (is_bad o offset) refusal.BadOffset (and_then (listed e z.world f.place (start_of o offset) count) (λ is. Ok (directory_read z f o offset is))) bad

pub directory_goes : (e : Files) (z : State) (fid offset count : ℕ) (f : Fid) (o : Opened) → fid_at z fid ≡ Ok f → opened_of f ≡ Ok o → is_bad o offset ≡ false → directory_from e z fid offset count ≡ and_then (listed e z.world f.place (start_of o offset) count) (λ is. Ok (directory_read z f o offset is))
directory_goes e z fid offset count f o h k good =
    directory_there e z fid offset count f o h k ∙ directory_lists e z f o offset count
    ∙ refuse_no (is_bad o offset) refusal.BadOffset (and_then (listed e z.world f.place (start_of o offset) count) (λ is. Ok (directory_read z f o offset is))) good

pub directory_refused : (e : Files) (z : State) (fid offset count : ℕ) (f : Fid) (o : Opened) (P : FileError → Type 0) (r : Refusal) → fid_at z fid ≡ Ok f → opened_of f ≡ Ok o → is_bad o offset ≡ false → IsRefused (listed e z.world f.place (start_of o offset) count) P r → IsRefused (directory_from e z fid offset count) P r
directory_refused e z fid offset count f o P r h k good refused =
    same_refused (directory_from e z fid offset count) (and_then (listed e z.world f.place (start_of o offset) count) (λ is. Ok (directory_read z f o offset is))) P r (directory_goes e z fid offset count f o h k good)
    (link_refused (listed e z.world f.place (start_of o offset) count) (λ is. Ok (directory_read z f o offset is)) P r refused)

-- the reply and the state after it, by what a read gives
pub directory_given : (H : Type 0) (e : Files) (z : State) (fid offset count : ℕ) (f : Fid) (o : Opened) (bytes : List ℕ) (last : Option (List ℕ)) → fid_at z fid ≡ Ok f → opened_of f ≡ Ok o → is_bad o offset ≡ false → Gives H (listed e z.world f.place (start_of o offset) count) (start_of o offset) count bytes last → H →
    directory_from e z fid offset count ≡ Ok (reply.Read bytes, with_fids z (with_fid (read_to f o ((offset + length bytes) % 2 ^ 64) last) z.session.fids))
directory_given H e z fid offset count f o bytes last h k good gives honest =
    let out : List ℕ → Option (List ℕ) → Result (Reply × State) Refusal = λ bs name. Ok (reply.Read bs, with_fids z (with_fid (read_to f o ((offset + length bs) % 2 ^ 64) name) z.session.fids)) in
    directory_goes e z fid offset count f o h k good
    ∙ then_ok (listed e z.world f.place (start_of o offset) count) gives.files (λ is. Ok (directory_read z f o offset is)) (gives.told_so honest)
    ∙ sym (ap (λ bs. out bs (last_name (start_of o offset) gives.files)) gives.bytes_so)
    ∙ sym (ap (out bytes) gives.last_so)
