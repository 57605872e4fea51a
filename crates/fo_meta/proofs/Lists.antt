-- Lists of records by their first record of a name, and the bytes that they are.
use Rattle.std.proofs.Common.{◌≡◌, ℕ, ◌*◌, ◌≤◌, ◌<◌, Bool, true, false, ◌||◌, List, [], ◌∷◌, ◌++◌, length, Some, None, refl, ap, arith}
use Rattle.std.specs.Prelude.{find}
use Rattle.std.specs.List.{list_any, AllByRecursion}
use Rattle.std.proofs.lemmas.List.{length-append}
use Rattle.std.proofs.lemmas.List.Concat.{flat_map-append}
use Rattle.fo_image.specs.declared.record.Record.{Record}
use Rattle.fo_image.proofs.RecordLemmas.{length-record}
use Rattle.fo_meta.specs.Leaf.{HasSpelling, record_bytes, records_bytes, is_named, without}

or_left : (a b : Bool) → (a || b) ≡ false → a ≡ false
or_left true b h = absurd cc
or_left false b h = refl

or_right : (a b : Bool) → (a || b) ≡ false → b ≡ false
or_right true b h = absurd cc
or_right false b h = h

any_or : (a b : Bool) → b ≡ true → (a || b) ≡ true
any_or true b h = refl
any_or false b h = h

pub find-none : (p : Record → Bool) (rs : List Record) → list_any p rs ≡ false → find p rs ≡ None
find-none p [] h = refl
find-none p (r ∷ rs) h = rw (or_left (p r) (list_any p rs) h) (find-none p rs (or_right (p r) (list_any p rs) h))

pub find-first : (p : Record → Bool) (before after : List Record) (r : Record) → list_any p before ≡ false → p r ≡ true → find p (before ++ r ∷ after) ≡ Some r
find-first p [] after r h is = rw is refl
find-first p (b ∷ before) after r h is = rw (or_left (p b) (list_any p before) h) (find-first p before after r (or_right (p b) (list_any p before) h) is)

pub any-first : (p : Record → Bool) (before after : List Record) (r : Record) → p r ≡ true → list_any p (before ++ r ∷ after) ≡ true
any-first p [] after r is = rw is refl
any-first p (b ∷ before) after r is = any_or (p b) (list_any p (before ++ r ∷ after)) (any-first p before after r is)

pub without-none : (name : List ℕ) (rs : List Record) → list_any (is_named name) rs ≡ false → without name rs ≡ rs
without-none name [] h = refl
without-none name (r ∷ rs) h = rw (or_left (is_named name r) (list_any (is_named name) rs) h) (ap (λ xs. r ∷ xs) (without-none name rs (or_right (is_named name r) (list_any (is_named name) rs) h)))

pub without-first : (name : List ℕ) (before after : List Record) (r : Record) → list_any (is_named name) before ≡ false → is_named name r ≡ true → without name (before ++ r ∷ after) ≡ before ++ after
without-first name [] after r h is = rw is refl
without-first name (b ∷ before) after r h is = rw (or_left (is_named name b) (list_any (is_named name) before) h) (ap (λ xs. b ∷ xs) (without-first name before after r (or_right (is_named name b) (list_any (is_named name) before) h) is))

pub any-more : (p : Record → Bool) (before : List Record) (r : Record) → list_any p before ≡ false → p r ≡ false → list_any p (before ++ r ∷ []) ≡ false
any-more p [] r h is = rw is refl
any-more p (b ∷ before) r h is = rw (or_left (p b) (list_any p before) h) (any-more p before r (or_right (p b) (list_any p before) h) is)

-- ---- what has a spelling

pub each-left : (xs ys : List Record) → AllByRecursion HasSpelling (xs ++ ys) → AllByRecursion HasSpelling xs
each-left [] ys h = tt
each-left (x ∷ xs) ys h = (h.0, each-left xs ys h.1)

pub each-right : (xs ys : List Record) → AllByRecursion HasSpelling (xs ++ ys) → AllByRecursion HasSpelling ys
each-right [] ys h = h
each-right (x ∷ xs) ys h = each-right xs ys h.1

pub each-both : (xs ys : List Record) → AllByRecursion HasSpelling xs → AllByRecursion HasSpelling ys → AllByRecursion HasSpelling (xs ++ ys)
each-both [] ys h k = k
each-both (x ∷ xs) ys h k = (h.0, each-both xs ys h.1 k)

-- ---- bytes

pub records_bytes-append : (xs ys : List Record) → records_bytes (xs ++ ys) ≡ records_bytes xs ++ records_bytes ys
records_bytes-append xs ys = flat_map-append record_bytes xs ys

-- a record takes 34 bytes and more, so a leaf has few
pub few : (rs : List Record) → 34 * length rs ≤ length (records_bytes rs)
few [] = omega arith
few (r ∷ rs) = omega (arith, few rs, length-record r, length-append (record_bytes r) (records_bytes rs))

-- the first of some records
pub first_of : (rs : List Record) → 0 < length rs → Record
first_of [] h = absurd (omega arith)
first_of (r ∷ rs) h = r
