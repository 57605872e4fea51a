-- Reads told by the mode of what is read.
use Rattle.std.proofs.Common.{◌≡◌, ℕ, List, take, drop, min, Option, Some, None, not, Result, Ok, Err, refl, ap, subst}
use Rattle.std.specs.Prelude.{if◌then◌else◌}
use Rattle.std.specs.Option.{ok_or}
use Rattle.nine_wire.specs.declared.message.Reply.TheVariants as reply
use Rattle.fo_world.specs.declared.place.Info.{Info}
use Rattle.fo_world.specs.declared.place.Place.{Place}
use Rattle.fo_world.specs.declared.tree.Node.{Node}
use Rattle.fo_world.specs.declared.tree.Body.{Body}
use Rattle.fo_world.specs.declared.tree.Body.TheVariants.{File, Dir}
use Rattle.fo_world.specs.declared.error.FileError.{FileError}
use Rattle.fo_world.specs.declared.error.FileError.TheVariants as error
use Rattle.fo_world.specs.Chain.{and_then, refuse_if}
use Rattle.fo_world.specs.World.{World}
use Rattle.fo_world.specs.Step as step
use Rattle.fo_world.specs.Tree as tree
use Rattle.nine_fids.specs.declared.refusal.Refusal.{Refusal}
use Rattle.nine_fids.specs.declared.refusal.Refusal.TheVariants as refusal
use Rattle.nine_fids.specs.Refusing.{looked}
use Rattle.nine_fids.specs.Fids.{State, version_of, fid_at, opened_of}
use Rattle.nine_fids.specs.Told.{Files, info_at, bytes_at, is_dir, iounit}
use Rattle.nine_fids.specs.Modes.{reads}
use Rattle.nine_session.specs.Reading.{HasKind, ReadGoesByMode, read, read_by_mode, read_directory, read_or_listed}
use Rattle.nine_session.specs.Session.{Told}

-- the bytes of a body, and of a file that is looked for
abbrev bytes_in : World → ℕ → ℕ → Body → Result (List ℕ) Refusal
bytes_in w offset count b = looked (and_then (step.as_file b) (λ bytes. let out : Result (List ℕ × World) FileError = Ok (take count (drop offset bytes), w) in out))

abbrev bytes_of : World → ℕ → ℕ → Result (List ℕ × Node) FileError → Result (List ℕ) Refusal
bytes_of w offset count r = looked (and_then r (λ f. and_then (step.as_file f.1.body) (λ bytes. let out : Result (List ℕ × World) FileError = Ok (take count (drop offset bytes), w) in out)))

abbrev told_of : World → Place → Result (List ℕ × Node) FileError → Result Info Refusal
told_of w at r = looked (and_then r (λ f. let out : Result (Info × World) FileError = Ok (step.info_of at f, w) in out))

abbrev by_mode : State → Result (List ℕ) Refusal → Told → Info → Told
by_mode z bytes listed i = if is_dir i.mode then listed else and_then bytes (λ bs. Ok (reply.Read bs, z))

body_goes : (z : State) (w : World) (offset count : ℕ) (listed : Told) (i : Info) (b : Body) → is_dir i.mode ≡ tree.is_dir b → read_or_listed z (bytes_in w offset count b) listed ≡ by_mode z (bytes_in w offset count b) listed i
body_goes z w offset count listed i (File bytes) h = rw h refl
body_goes z w offset count listed i (Dir names) h = rw h refl

gone_alone : {A : Type 0} (o : Option A) (x : FileError) → ok_or o error.Gone ≡ Err x → error.Gone ≡ x
gone_alone (Some y) x h = absurd cc
gone_alone None x h = cc

found_goes : (z : State) (w : World) (at : Place) (offset count : ℕ) (listed : Told) (r : Result (List ℕ × Node) FileError) → ((x : FileError) → r ≡ Err x → error.Gone ≡ x) → ((f : List ℕ × Node) → r ≡ Ok f → is_dir f.1.mode ≡ tree.is_dir f.1.body)
    → read_or_listed z (bytes_of w offset count r) listed ≡ and_then (told_of w at r) (by_mode z (bytes_of w offset count r) listed)
found_goes z w at offset count listed (Ok f) gone kind = body_goes z w offset count listed (step.info_of at f) f.1.body (kind f refl)
found_goes z w at offset count listed (Err x) gone kind =
    let P : FileError → Type 0 = λ y. read_or_listed z (bytes_of w offset count (Err y)) listed ≡ and_then (told_of w at (Err y)) (by_mode z (bytes_of w offset count (Err y)) listed) in
    subst P (gone x refl) refl

place_goes : (e : Files) (z : State) (at : Place) (offset count : ℕ) (listed : Told) → HasKind e z.world at → read_or_listed z (bytes_at e z.world at offset count) listed ≡ and_then (info_at e z.world at) (by_mode z (bytes_at e z.world at offset count) listed)
unfolding bytes_at info_at step.read
place_goes e z at offset count listed kind = found_goes z z.world at offset count listed (step.reached e.whole z.world at) (λ x. gone_alone _ x) kind

then_same_at : {A B : Type 0} (x : Result A Refusal) (f g : A → Result B Refusal) → ((a : A) → x ≡ Ok a → f a ≡ g a) → and_then x f ≡ and_then x g
then_same_at (Ok a) f g h = h a refl
then_same_at (Err r) f g h = refl

pub read_goes : ReadGoesByMode
unfolding read read_by_mode
read_goes e z fid offset count kind =
    then_same_at (version_of z) _ _ (λ m _.
    then_same_at (fid_at z fid) _ _ (λ f is.
    then_same_at (opened_of f) _ _ (λ o _.
    ap (refuse_if (not (reads o.access)) refusal.NotForReading) (place_goes e z f.place offset (min count (iounit m)) (read_directory e z f o offset (min count (iounit m))) (kind f is)))))
