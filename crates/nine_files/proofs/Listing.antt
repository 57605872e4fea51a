-- Reads of directories: which files are given, one after the other.
use Rattle.std.proofs.Common.{◌≡◌, ℕ, suc, ◌+◌, ◌-◌, ◌≤◌, ◌<◌, List, [], ◌∷◌, ◌++◌, length, Bool, true, false, Option, Some, None, Result, Ok, Err, ◌==◌, refl, sym, ap, subst, ◌∙◌, append_assoc, length-append, arith}
use Rattle.std.specs.Prelude.{is_some, nat_lt, if◌then◌else◌}
use Rattle.std.proofs.lemmas.List.{append-nil, flat_map_more}
use Rattle.std.proofs.lemmas.Bool.{ltb-false}
use Rattle.std.proofs.lemmas.Bool.Decides.{nat_tests}
use Rattle.nine_stat.specs.Stat as stats
use Rattle.fo_world.specs.declared.place.Info.{Info}
use Rattle.fo_world.specs.declared.place.Place.{Place}
use Rattle.fo_world.specs.World.{World}
use Rattle.nine_fids.specs.declared.refusal.Refusal.{Refusal}
use Rattle.nine_fids.specs.declared.refusal.Refusal.TheVariants as refusal
use Rattle.fo_world.specs.Chain.{and_then, refuse_if}
use Rattle.fo_world.specs.declared.error.FileError.{FileError}
use Rattle.nine_fids.specs.Looking.{IsRefused}
use Rattle.nine_fids.specs.Told.{Files, next_at, record_of}
use Rattle.nine_fids.proofs.Missing.{refused_by}
use Rattle.nine_files.specs.Parts.{Adds, Gives, listed, next_taken, taken}
use Rattle.nine_files.specs.Reading.{exceeds, files_above, fitting, last_name, records_of}
use Rattle.nine_files.proofs.Links.{then_ok, past_then}

-- ---- records

-- each record has bytes
pub record_some : (i : Info) → 1 ≤ length (record_of i)
unfolding stats.spelling
record_some i = omega arith

last_more : (after : Option (List ℕ)) (files : List Info) (i : Info) → last_name after (files ++ i ∷ []) ≡ Some i.name
last_more after [] i = refl
last_more after (j ∷ files) i = last_more (Some j.name) files i

-- ---- the next file

taken_at : (b z : Bool) (count held : ℕ) (i j : Info) → nat_lt (count - held) (length (record_of j)) ≡ b → (if b then (if z then Err refusal.CountTooSmall else Ok None) else (let out : Result (Option Info) Refusal = Ok (Some j) in out)) ≡ Ok (Some i) → length (record_of i) ≤ count - held
taken_at true true count held i j is told = absurd cc
taken_at true false count held i j is told = absurd cc
taken_at false z count held i j is told =
    let same : j ≡ i = cc in
    let P : Info → Type 0 = λ k. length (record_of k) ≤ count - held in
    subst P same (ltb-false (count - held) (length (record_of j)) is)

taken_fits : (count held : ℕ) (t : Result (Option Info) Refusal) (i : Info) → and_then t (taken count held) ≡ Ok (Some i) → length (record_of i) ≤ count - held
taken_fits count held (Err r) i told = absurd cc
taken_fits count held (Ok None) i told = absurd cc
taken_fits count held (Ok (Some j)) i told = taken_at (nat_lt (count - held) (length (record_of j))) (held == 0) count held i j refl told

-- ---- the rest of a read

-- the rest of a read, once its next file is known
abbrev pub continued : (Option (List ℕ) → ℕ → Result (List Info) Refusal) → List Info → ℕ → Option Info → Result (List Info) Refusal
continued go files left None = Ok files
continued go files left (Some i) = and_then (go (Some i.name) (left - length (record_of i))) (λ rest. Ok (files ++ i ∷ rest))

abbrev Going : Type 0
Going = Option (List ℕ) → ℕ → Result (List Info) Refusal

first_at : (go : Going) (count : ℕ) (i : Info) (b b' : Bool) → b' ≡ b →
    refuse_if b refusal.CountTooSmall (if b then Ok [] else and_then (go (Some i.name) (count - length (record_of i))) (λ rest. Ok (i ∷ rest)))
    ≡ and_then (if b' then (let out : Result (Option Info) Refusal = Err refusal.CountTooSmall in out) else Ok (Some i)) (continued go [] count)
first_at go count i true true same = refl
first_at go count i false false same = refl
first_at go count i true false same = absurd cc
first_at go count i false true same = absurd cc

first_taken : (go : Going) (count : ℕ) (t : Result (Option Info) Refusal) →
    and_then t (λ first. refuse_if (exceeds count first) refusal.CountTooSmall (and_then t (fitting go count)))
    ≡ and_then (and_then t (taken count 0)) (continued go [] count)
first_taken go count (Err r) = refl
first_taken go count (Ok None) = refl
first_taken go count (Ok (Some i)) =
    let none : count - 0 ≡ count = omega arith in
    first_at go count i (nat_lt count (length (record_of i))) (nat_lt (count - 0) (length (record_of i))) (ap (λ n. nat_lt n (length (record_of i))) none)

listed_begins : (e : Files) (w : World) (at : Place) (after : Option (List ℕ)) (count : ℕ) → listed e w at after count ≡ and_then (next_taken e w at after count 0) (continued (files_above count e w at) [] count)
unfolding listed files_above
listed_begins e w at after count = first_taken (files_above count e w at) count (next_at e w at after)

later_at : (go : Going) (left : ℕ) (files : List Info) (i : Info) (b b' z : Bool) → b' ≡ b → z ≡ false →
    and_then (if b then Ok [] else and_then (go (Some i.name) (left - length (record_of i))) (λ rest. Ok (i ∷ rest))) (λ rest. let out : Result (List Info) Refusal = Ok (files ++ rest) in out)
    ≡ and_then (if b' then (if z then Err refusal.CountTooSmall else Ok None) else (let out : Result (Option Info) Refusal = Ok (Some i) in out)) (continued go files left)
later_at go left files i true true true same held = absurd cc
later_at go left files i true true false same held = ap Ok (append-nil files)
later_at go left files i false false z same held = sym (past_then (go (Some i.name) (left - length (record_of i))) (λ rest. Ok (i ∷ rest)) (λ rest. Ok (files ++ rest)))
later_at go left files i true false z same held = absurd cc
later_at go left files i false true z same held = absurd cc

later_taken : (go : Going) (count held left : ℕ) (files : List Info) (t : Result (Option Info) Refusal) → (held == 0) ≡ false → left ≡ count - held →
    and_then (and_then t (fitting go left)) (λ rest. let out : Result (List Info) Refusal = Ok (files ++ rest) in out)
    ≡ and_then (and_then t (taken count held)) (continued go files left)
later_taken go count held left files (Err r) some is = refl
later_taken go count held left files (Ok None) some is = ap Ok (append-nil files)
later_taken go count held left files (Ok (Some i)) some is =
    later_at go left files i (nat_lt left (length (record_of i))) (nat_lt (count - held) (length (record_of i))) (held == 0) (ap (λ n. nat_lt n (length (record_of i))) (sym is)) some

above_later : (e : Files) (w : World) (at : Place) (s : ℕ) (last : Option (List ℕ)) (count held left : ℕ) (files : List Info) → (held == 0) ≡ false → left ≡ count - held →
    and_then (files_above (suc s) e w at last left) (λ rest. let out : Result (List Info) Refusal = Ok (files ++ rest) in out)
    ≡ and_then (next_taken e w at last count held) (continued (files_above s e w at) files left)
unfolding files_above
above_later e w at s last count held left files some is = later_taken (files_above s e w at) count held left files (next_at e w at last) some is

one_more : (files : List Info) (i : Info) (r : Result (List Info) Refusal) →
    and_then r (λ rest. let out : Result (List Info) Refusal = Ok (files ++ i ∷ rest) in out)
    ≡ and_then r (λ rest. let out : Result (List Info) Refusal = Ok ((files ++ i ∷ []) ++ rest) in out)
one_more files i (Ok rest) = ap Ok (sym (append_assoc files (i ∷ []) rest))
one_more files i (Err r) = refl

-- ---- a read in progress

-- how the whole goes on from what has been given so far
pub record Listing (e : Files) (w : World) (at : Place) (after : Option (List ℕ)) (count : ℕ) (files : List Info) (bytes : List ℕ) (last : Option (List ℕ)) : Type 0 where
  pub steps : ℕ
  pub left : ℕ
  pub left_so : left + length bytes ≡ count
  pub enough : left ≤ steps
  pub goes_on : listed e w at after count ≡ and_then (next_taken e w at last count (length bytes)) (continued (files_above steps e w at) files left)

-- what has been given so far, over any devices
pub record Given (honest : Type 0) (e : Files) (w : World) (at : Place) (after : Option (List ℕ)) (count : ℕ) (bytes : List ℕ) (last : Option (List ℕ)) : Type 0 where
  pub files : List Info
  pub bytes_so : bytes ≡ records_of files
  pub last_so : last ≡ last_name after files
  pub within : length bytes ≤ count
  pub listing : honest → Listing e w at after count files bytes last

none_given : (honest : Type 0) (e : Files) (w : World) (at : Place) (after : Option (List ℕ)) (count : ℕ) → Given honest e w at after count [] after
none_given honest e w at after count = record {
  files = [];
  bytes_so = refl;
  last_so = refl;
  within = omega arith;
  listing = λ h. record {
    steps = count;
    left = count;
    left_so = omega arith;
    enough = omega arith;
    goes_on = listed_begins e w at after count;
  };
}

pub given_begins : (honest : Type 0) (e : Files) (w : World) (at : Place) (after : Option (List ℕ)) (count : ℕ) (bytes : List ℕ) → bytes ≡ [] → Given honest e w at after count bytes after
given_begins honest e w at after count bytes none = let P : List ℕ → Type 0 = λ bs. Given honest e w at after count bs after in subst P (sym none) (none_given honest e w at after count)

-- the whole, from the file that is taken on
listing_next : (e : Files) (w : World) (at : Place) (after : Option (List ℕ)) (count : ℕ) (files : List Info) (bytes : List ℕ) (last : Option (List ℕ)) (l : Listing e w at after count files bytes last) (i : Info) (s held : ℕ) →
    next_taken e w at last count (length bytes) ≡ Ok (Some i) → l.steps ≡ suc s → (held == 0) ≡ false → l.left - length (record_of i) ≡ count - held →
    listed e w at after count ≡ and_then (next_taken e w at (Some i.name) count held) (continued (files_above s e w at) (files ++ i ∷ []) (l.left - length (record_of i)))
listing_next e w at after count files bytes last l i s held told steps some left =
    l.goes_on
    ∙ then_ok (next_taken e w at last count (length bytes)) (Some i) (continued (files_above l.steps e w at) files l.left) told
    ∙ ap (λ n. continued (files_above n e w at) files l.left (Some i)) steps
    ∙ one_more files i (files_above (suc s) e w at (Some i.name) (l.left - length (record_of i)))
    ∙ above_later e w at s (Some i.name) count held (l.left - length (record_of i)) (files ++ i ∷ []) some left

not_zero : (n m : ℕ) → 1 ≤ m → (n + m == 0) ≡ false
not_zero n m le = grind (arith, nat_tests)

listing_taken : (e : Files) (w : World) (at : Place) (after : Option (List ℕ)) (count : ℕ) (files : List Info) (bytes : List ℕ) (last : Option (List ℕ)) → Listing e w at after count files bytes last → (i : Info) → next_taken e w at last count (length bytes) ≡ Ok (Some i) → Listing e w at after count (files ++ i ∷ []) (bytes ++ record_of i) (Some i.name)
listing_taken e w at after count files bytes last l i told =
    let fits : length (record_of i) ≤ count - length bytes = taken_fits count (length bytes) (next_at e w at last) i told in
    let some : 1 ≤ length (record_of i) = record_some i in
    let len : length (bytes ++ record_of i) ≡ length bytes + length (record_of i) = length-append bytes (record_of i) in
    let left_is : l.left + length bytes ≡ count = l.left_so in
    let enough_is : l.left ≤ l.steps = l.enough in
    let more : (length (bytes ++ record_of i) == 0) ≡ false = ap (λ n. n == 0) len ∙ not_zero (length bytes) (length (record_of i)) some in
    record {
      steps = l.steps - 1;
      left = l.left - length (record_of i);
      left_so = omega arith;
      enough = omega arith;
      goes_on = listing_next e w at after count files bytes last l i (l.steps - 1) (length (bytes ++ record_of i)) told (omega arith) more (omega arith);
    }

given_taken : (honest : Type 0) (e : Files) (w : World) (at : Place) (after : Option (List ℕ)) (count : ℕ) (bytes : List ℕ) (last : Option (List ℕ)) → Given honest e w at after count bytes last → (i : Info) → (honest → next_taken e w at last count (length bytes) ≡ Ok (Some i)) → length (bytes ++ record_of i) ≤ count → Given honest e w at after count (bytes ++ record_of i) (Some i.name)
given_taken honest e w at after count bytes last g i told within = record {
  files = g.files ++ i ∷ [];
  bytes_so = ap (λ bs. bs ++ record_of i) g.bytes_so ∙ flat_map_more record_of [] g.files i;
  last_so = sym (last_more after g.files i);
  within = within;
  listing = λ h. listing_taken e w at after count g.files bytes last (g.listing h) i (told h);
}

-- a file more
pub given_more : (honest : Type 0) (e : Files) (w : World) (at : Place) (after : Option (List ℕ)) (count : ℕ) (bytes new : List ℕ) (last later : Option (List ℕ)) → Given honest e w at after count bytes last → (o : Option Info) → (honest → next_taken e w at last count (length bytes) ≡ Ok o) → is_some o ≡ true → Adds o bytes new last later → length new ≤ count → Given honest e w at after count new later
given_more honest e w at after count bytes new last later g None told some adds within = absurd cc
given_more honest e w at after count bytes new last later g (Some i) told some adds within =
    let P : List ℕ → Type 0 = λ bs. Given honest e w at after count bs later in
    let Q : Option (List ℕ) → Type 0 = λ n. Given honest e w at after count (bytes ++ record_of i) n in
    subst P (sym adds.0) (subst Q (sym adds.1) (given_taken honest e w at after count bytes last g i told (subst (λ bs. length bs ≤ count) adds.0 within)))

-- a file more brings the end nearer
pub given_nearer : (count : ℕ) (bytes new : List ℕ) (last later : Option (List ℕ)) (o : Option Info) → is_some o ≡ true → Adds o bytes new last later → length new ≤ count → count - length new < count - length bytes
given_nearer count bytes new last later None some adds within = absurd cc
given_nearer count bytes new last later (Some i) some adds within =
    let one : 1 ≤ length (record_of i) = record_some i in
    let len : length (bytes ++ record_of i) ≡ length bytes + length (record_of i) = length-append bytes (record_of i) in
    let same : length new ≡ length (bytes ++ record_of i) = ap length adds.0 in
    omega arith

-- no file more
pub given_whole : (honest : Type 0) (e : Files) (w : World) (at : Place) (after : Option (List ℕ)) (count : ℕ) (bytes new : List ℕ) (last later : Option (List ℕ)) → Given honest e w at after count bytes last → (o : Option Info) → (honest → next_taken e w at last count (length bytes) ≡ Ok o) → is_some o ≡ false → Adds o bytes new last later → Gives honest (listed e w at after count) after count new later
given_whole honest e w at after count bytes new last later g (Some i) told some adds = absurd cc
given_whole honest e w at after count bytes new last later g None told some adds = record {
  files = g.files;
  told_so = λ h. (g.listing h).goes_on ∙ then_ok (next_taken e w at last count (length bytes)) None (continued (files_above (g.listing h).steps e w at) g.files (g.listing h).left) (told h);
  bytes_so = adds.0 ∙ g.bytes_so;
  last_so = adds.1 ∙ g.last_so;
  within = subst (λ bs. length bs ≤ count) (sym adds.0) g.within;
}

-- what refuses the next file refuses the whole
pub listing_refused : (e : Files) (w : World) (at : Place) (after : Option (List ℕ)) (count : ℕ) (files : List Info) (bytes : List ℕ) (last : Option (List ℕ)) (r : Refusal) → Listing e w at after count files bytes last → next_taken e w at last count (length bytes) ≡ Err r → listed e w at after count ≡ Err r
listing_refused e w at after count files bytes last r l told = l.goes_on ∙ ap (λ t. and_then t (continued (files_above l.steps e w at) files l.left)) told

-- ---- whether the next file is taken

module _ (told : Result (Option Info) Refusal) (count held : ℕ) where
  pub none_taken : told ≡ Ok None → and_then told (taken count held) ≡ Ok None
  none_taken h = ap (λ t. and_then t (taken count held)) h

  pub some_taken : (i : Info) → told ≡ Ok (Some i) → nat_lt (count - held) (length (record_of i)) ≡ false → and_then told (taken count held) ≡ Ok (Some i)
  some_taken i h lt = ap (λ t. and_then t (taken count held)) h ∙ rw lt refl

  pub too_small : (i : Info) → told ≡ Ok (Some i) → nat_lt (count - held) (length (record_of i)) ≡ true → (held == 0) ≡ true → and_then told (taken count held) ≡ Err refusal.CountTooSmall
  too_small i h lt first = ap (λ t. and_then t (taken count held)) h ∙ rw (lt, first) refl

  pub not_taken : (i : Info) → told ≡ Ok (Some i) → nat_lt (count - held) (length (record_of i)) ≡ true → (held == 0) ≡ false → and_then told (taken count held) ≡ Ok None
  not_taken i h lt first = ap (λ t. and_then t (taken count held)) h ∙ rw (lt, first) refl

pub next_refused : (told : Result (Option Info) Refusal) (count held : ℕ) (fails : FileError → Type 0) (r : Refusal) → IsRefused told fails r → IsRefused (and_then told (taken count held)) fails r
next_refused told count held fails r h = refused_by told (and_then told (taken count held)) fails fails r (λ e. ap (λ t. and_then t (taken count held)) e) (λ x m. m) h
