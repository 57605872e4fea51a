-- A leaf of records is read as the records that it spells, and a root block's own record as the one that it has.
use Rattle.std.proofs.Common.{◌≡◌, ℕ, ◌+◌, ◌-◌, ◌%◌, ◌<◌, ◌^◌, suc, Bool, true, cond, List, [], ◌∷◌, ◌++◌, length, take, drop, refl, sym, ap, ◌∙◌, append_assoc, arith, if◌then◌else◌}
use Rattle.std.specs.Prelude.{◌&&◌}
use Rattle.std.specs.List.{AllByRecursion, filter}
use Rattle.std.proofs.lemmas.List.{take-append-drop, take_at, drop_at}
use Rattle.std.proofs.lemmas.Nat.{from_be_bytes-to_be_bytes_2, from_be_bytes-to_be_bytes_4}
use Rattle.std.proofs.lemmas.Bool.{lt-ltb, le-leb}
use Rattle.fo_image.specs.declared.record.Record.{Record}
use Rattle.fo_image.specs.declared.record.RootBlock.{RootBlock}
use Rattle.fo_image.specs.Field.{One, Two, Four, Text, number_at, spelled, zeros}
use Rattle.fo_image.specs.Record.{RecordHolds, IsTextWithin, record_len, SpellsRoot}
use Rattle.fo_image.proofs.PointerLemmas.{padded_whole}
use Rattle.fo_image.proofs.RecordLemmas.{length-record, root_at}
use Rattle.fo_meta.specs.Leaf.{HasSpelling, record_bytes, records_bytes, SpellsLeaf}
use Rattle.fo_meta.proofs.Leaves.{head_at}
use Rattle.fo_good.specs.Reading.{text_at, after_text, record_at, is_text_within, is_allowed, records_from, leaf_records, own_record, no_record}

-- ---- texts

small : (n : ℕ) → n < 2 ^ 8 → n % 256 ≡ n
small n lt = omega arith

length_at : (text more : List ℕ) → length text < 2 ^ 8 → number_at One 0 (spelled (Text text) ++ more) ≡ length text
unfolding number_at
length_at text more lt = small (length text) lt

text_is : (text more : List ℕ) → length text < 2 ^ 8 → text_at (spelled (Text text) ++ more) ≡ text
text_is text more lt = ap (λ n. take n (text ++ more)) (length_at text more lt) ∙ take_at text more (length text) refl

after_is : (text more : List ℕ) → length text < 2 ^ 8 → after_text (spelled (Text text) ++ more) ≡ more
after_is text more lt = ap (λ n. drop (1 + n) (spelled (Text text) ++ more)) (length_at text more lt) ∙ drop_at (spelled (Text text)) more (1 + length text) (omega arith)

-- ---- a record

regroup : (a b c d z : List ℕ) → (a ++ (b ++ (c ++ (d ++ [])))) ++ z ≡ a ++ (b ++ (c ++ (d ++ z)))
regroup a b c d z = simp append_assoc

-- what is read from four texts in a row
record Texts (bytes : List ℕ) (a b c d : List ℕ) : Type 0 where
  first : text_at bytes ≡ a
  second : text_at (after_text bytes) ≡ b
  third : text_at (after_text (after_text bytes)) ≡ c
  fourth : text_at (after_text (after_text (after_text bytes))) ≡ d

texts_are : (bytes a b c d more : List ℕ) → length a < 2 ^ 8 → length b < 2 ^ 8 → length c < 2 ^ 8 → length d < 2 ^ 8 → bytes ≡ spelled (Text a) ++ (spelled (Text b) ++ (spelled (Text c) ++ (spelled (Text d) ++ more))) → Texts bytes a b c d
texts_are bytes a b c d more la lb lc ld is =
    let fourth = spelled (Text d) ++ more in
    let third = spelled (Text c) ++ fourth in
    let second = spelled (Text b) ++ third in
    let one : after_text bytes ≡ second = ap after_text is ∙ after_is a second la in
    let two : after_text (after_text bytes) ≡ third = ap after_text one ∙ after_is b third lb in
    let three : after_text (after_text (after_text bytes)) ≡ fourth = ap after_text two ∙ after_is c fourth lc in
    record {
      first = ap text_at is ∙ text_is a second la;
      second = ap text_at one ∙ text_is b third lb;
      third = ap text_at two ∙ text_is c fourth lc;
      fourth = ap text_at three ∙ text_is d more ld;
    }

record_texts : (r : Record) (more : List ℕ) → HasSpelling r → Texts (drop 30 (record_bytes r ++ more)) r.name r.uid r.gid r.muid
record_texts r more s = texts_are (drop 30 (record_bytes r ++ more)) r.name r.uid r.gid r.muid more s.fit.1.1.1.1.1.1.1.1.0 s.fit.1.1.1.1.1.1.1.1.1.0 s.fit.1.1.1.1.1.1.1.1.1.1.0 s.fit.1.1.1.1.1.1.1.1.1.1.1.0
    (regroup (spelled (Text r.name)) (spelled (Text r.uid)) (spelled (Text r.gid)) (spelled (Text r.muid)) more)

pub record Numbers (bytes : List ℕ) (r : Record) : Type 0 where
  number : number_at Four 2 bytes ≡ r.number
  slot : number_at Four 6 bytes ≡ r.slot
  generation : number_at Four 10 bytes ≡ r.generation
  vers : number_at Four 14 bytes ≡ r.vers
  mode : number_at Four 18 bytes ≡ r.mode
  atime : number_at Four 22 bytes ≡ r.atime
  mtime : number_at Four 26 bytes ≡ r.mtime
  pub len : number_at Two 0 bytes ≡ record_len r

pub record_numbers : (r : Record) (more : List ℕ) → HasSpelling r → Numbers (record_bytes r ++ more) r
unfolding number_at
record_numbers r more s = record {
  number = from_be_bytes-to_be_bytes_4 r.number s.fit.1.0;
  slot = from_be_bytes-to_be_bytes_4 r.slot s.fit.1.1.0;
  generation = from_be_bytes-to_be_bytes_4 r.generation s.fit.1.1.1.0;
  vers = from_be_bytes-to_be_bytes_4 r.vers s.fit.1.1.1.1.0;
  mode = from_be_bytes-to_be_bytes_4 r.mode s.fit.1.1.1.1.1.0;
  atime = from_be_bytes-to_be_bytes_4 r.atime s.fit.1.1.1.1.1.1.0;
  mtime = from_be_bytes-to_be_bytes_4 r.mtime s.fit.1.1.1.1.1.1.1.0;
  len = from_be_bytes-to_be_bytes_2 (record_len r) s.fit.0;
}

-- a record at the front of these bytes is read as it is
pub record_is_read : (r : Record) (more : List ℕ) → HasSpelling r → record_at (record_bytes r ++ more) ≡ r
record_is_read r more s =
    let n = record_numbers r more s in
    let t = record_texts r more s in
    λ k. record { name = t.first k; number = n.number k; slot = n.slot k; generation = n.generation k; vers = n.vers k; mode = n.mode k; atime = n.atime k; mtime = n.mtime k; uid = t.second k; gid = t.third k; muid = t.fourth k }

-- ---- what is within the limits

both : {a b : Bool} → a ≡ true → b ≡ true → (a && b) ≡ true
both p q = rw (p, q) refl

text_allowed : (limit : ℕ) (bytes : List ℕ) → IsTextWithin limit bytes → is_text_within limit bytes ≡ true
text_allowed limit bytes t = both (both (lt-ltb 0 (length bytes) (let some = t.some in omega (arith, some))) (le-leb (length bytes) limit t.within)) t.is_text

pub record_allowed : (r : Record) → RecordHolds r → is_allowed r ≡ true
record_allowed r h = both (both (both (text_allowed 255 r.name h.name_is) (text_allowed 64 r.uid h.uid_is)) (text_allowed 64 r.gid h.gid_is)) (text_allowed 64 r.muid h.muid_is)

-- ---- a leaf

read_all : (rs : List Record) (more : List ℕ) → AllByRecursion HasSpelling rs → records_from (length rs) (records_bytes rs ++ more) ≡ rs
read_all [] more each = refl
read_all (r ∷ rs) more each =
    let is : records_bytes (r ∷ rs) ++ more ≡ record_bytes r ++ (records_bytes rs ++ more) = append_assoc (record_bytes r) (records_bytes rs) more in
    let len : number_at Two 0 (record_bytes r ++ (records_bytes rs ++ more)) ≡ record_len r = (record_numbers r (records_bytes rs ++ more) each.0).len in
    let rest : drop (number_at Two 0 (record_bytes r ++ (records_bytes rs ++ more))) (record_bytes r ++ (records_bytes rs ++ more)) ≡ records_bytes rs ++ more =
    ap (λ n. drop n (record_bytes r ++ (records_bytes rs ++ more))) len ∙ drop_at (record_bytes r) (records_bytes rs ++ more) (record_len r) (length-record r) in
    ap (λ bytes. records_from (suc (length rs)) bytes) is
    ∙ ap (λ x. x ∷ records_from (length rs) (drop (number_at Two 0 (record_bytes r ++ (records_bytes rs ++ more))) (record_bytes r ++ (records_bytes rs ++ more)))) (record_is_read r (records_bytes rs ++ more) each.0)
    ∙ ap (λ bytes. r ∷ records_from (length rs) bytes) rest
    ∙ ap (λ xs. r ∷ xs) (read_all rs more each.1)

all_allowed : (rs : List Record) → AllByRecursion HasSpelling rs → filter is_allowed rs ≡ rs
all_allowed [] each = refl
all_allowed (r ∷ rs) each =
    ap (λ b. cond b (r ∷ filter is_allowed rs) (filter is_allowed rs)) (record_allowed r each.0.holds) ∙ ap (λ xs. r ∷ xs) (all_allowed rs each.1)

-- The records that are read from a leaf are those that it spells.
pub leaf_is_read : (rs : List Record) (leaf : List ℕ) → SpellsLeaf rs leaf → leaf_records leaf ≡ rs
leaf_is_read rs leaf s =
    let h = head_at leaf rs s in
    ap (λ n. filter is_allowed (records_from n (drop 4 leaf))) h.count
    ∙ ap (λ bytes. filter is_allowed (records_from (length rs) bytes)) h.body
    ∙ ap (filter is_allowed) (read_all rs (zeros (8188 - length (records_bytes rs))) s.each)
    ∙ all_allowed rs s.each

-- ---- a root block

-- The own record that is read from a root block is the one that it has.
pub own_is_read : (r : RootBlock) (block : List ℕ) → SpellsRoot r block → own_record block ≡ r.own
own_is_read r block s =
    let at = root_at block r s in
    let front : take (record_len r.own) (drop 104 block) ≡ record_bytes r.own = at.own.bytes_are ∙ padded_whole (record_bytes r.own) (record_len r.own) (length-record r.own) in
    let is : drop 104 block ≡ record_bytes r.own ++ drop (record_len r.own) (drop 104 block) = sym (take-append-drop (record_len r.own) (drop 104 block)) ∙ ap (λ xs. xs ++ drop (record_len r.own) (drop 104 block)) front in
    let read : record_at (drop 104 block) ≡ r.own = ap record_at is ∙ record_is_read r.own (drop (record_len r.own) (drop 104 block)) (record { holds = at.own.holds; fit = at.own.fit }) in
    ap (λ x. if is_allowed x then x else no_record) read ∙ ap (λ b. if b then r.own else no_record) (record_allowed r.own at.own.holds)
