-- Records at the front of bytes: one alone stands there, and so do many.
use Rattle.std.proofs.Common.{◌≡◌, ℕ, ◌+◌, ◌-◌, ◌≤◌, ◌<◌, List, [], ◌∷◌, ◌++◌, length, take, drop, refl, sym, ap, subst, ◌∙◌, append_assoc, arith}
use Rattle.std.specs.Prelude.{Result, Ok, Err, Option, Some, None, IfOk, MatchOption, MatchResult, nat_eq, true}
use Rattle.std.specs.List.{AllByRecursion, list_all}
use Rattle.std.proofs.lemmas.List.{append-nil, length-append, length-drop, length-take-le, take_at, drop_at, take-append-drop, take_all, drop-drop}
use Rattle.fo_image.specs.declared.types.Bad.{Bad}
use Rattle.fo_image.specs.declared.record.Record.{Record}
use Rattle.fo_image.specs.declared.record.RecordError.{RecordError}
use Rattle.fo_image.specs.declared.record.RecordError.TheVariants as why
use Rattle.fo_image.specs.Field.{Two, number, number_at, zeros}
use Rattle.fo_image.specs.Record.{RecordHolds, SpellsRecord, record_len, record_fields}
use Rattle.fo_image.proofs.Padding.{zeros-from_all, all-zeros}
use Rattle.fo_image.proofs.PointerLemmas.{padded_whole}
use Rattle.fo_image.proofs.RecordLemmas.{length-record, spells_itself}
use Rattle.fo_meta.specs.Leaf.{HasSpelling, IsLeaf, SpellsLeaf, record_bytes, records_bytes}
use Rattle.fo_meta.proofs.Lists.{each-both, records_bytes-append}
use Rattle.fo_meta.proofs.Leaves.{head_at}
use Rattle.fo_good.specs.Reading.{record_at}
use Rattle.fo_good.proofs.Leaf.{record_numbers, record_is_read}
use Rattle.fo_rules.specs.Leaf.{IsFront, AreRecords}

-- ---- one record

pub front_found : (bytes : List ℕ) (len : ℕ) (r : Record) → SpellsRecord r (take len bytes) → IsFront bytes r (drop len bytes)
front_found bytes len r s = record {
  spelled = record { holds = s.holds; fit = s.fit };
  is = sym (take-append-drop len bytes) ∙ ap (λ xs. xs ++ drop len bytes) (s.bytes_are ∙ padded_whole (record_bytes r) (record_len r) (length-record r));
}

pub front_len : {bytes more : List ℕ} {r : Record} → IsFront bytes r more → number_at Two 0 bytes ≡ record_len r
front_len {bytes} {more} {r} f = ap (number_at Two 0) f.is ∙ (record_numbers r more f.spelled).len

pub front_long : {bytes more : List ℕ} {r : Record} → IsFront bytes r more → record_len r ≤ length bytes
front_long {bytes} {more} {r} f = omega (arith, ap length f.is, length-append (record_bytes r) more, length-record r)

front_take : {bytes more : List ℕ} {r : Record} → IsFront bytes r more → take (record_len r) bytes ≡ record_bytes r
front_take {bytes} {more} {r} f = ap (take (record_len r)) f.is ∙ take_at (record_bytes r) more (record_len r) (length-record r)

front_drop : {bytes more : List ℕ} {r : Record} → IsFront bytes r more → drop (record_len r) bytes ≡ more
front_drop {bytes} {more} {r} f = ap (drop (record_len r)) f.is ∙ drop_at (record_bytes r) more (record_len r) (length-record r)

pub front_spelled : {bytes more : List ℕ} {r : Record} → IsFront bytes r more → SpellsRecord r (take (record_len r) bytes)
front_spelled {bytes} {more} {r} f = subst (SpellsRecord r) (sym (front_take f)) (spells_itself (record_len r) record_fields RecordHolds r f.spelled.holds f.spelled.fit (length-record r))

pub not_bad : {T : Type 0} (P : T → Type 0) (res : Result T RecordError) (b : Bad) → res ≡ Err (why.Bad b) → MatchResult res P (λ e. e ≡ why.Memory) → ⊥
not_bad P res b is m = let same : why.Bad b ≡ why.Memory = subst (λ r. MatchResult r P (λ e. e ≡ why.Memory)) is m in cc

same_record : {bytes more rest : List ℕ} {r q : Record} → IsFront bytes r more → IsFront bytes q rest → r ≡ q
same_record {bytes} {more} {rest} {r} {q} f g = sym (record_is_read r more f.spelled) ∙ ap record_at (sym f.is ∙ g.is) ∙ record_is_read q rest g.spelled

same_more : {bytes more rest : List ℕ} {r q : Record} → IsFront bytes r more → IsFront bytes q rest → more ≡ rest
same_more {bytes} f g = sym (front_drop f) ∙ ap (λ (x : Record). drop (record_len x) bytes) (same_record f g) ∙ front_drop g

-- ---- many

-- what was read so far, and what is left
pub record Read (bytes : List ℕ) (done : List Record) (rest : List ℕ) : Type 0 where
  pub each : AllByRecursion HasSpelling done
  pub is : bytes ≡ records_bytes done ++ rest

pub read_none : (bytes : List ℕ) → Read bytes [] bytes
read_none bytes = record { each = tt; is = refl }

pub read_more : {bytes rest more : List ℕ} {done : List Record} {r : Record} → Read bytes done rest → IsFront rest r more → Read bytes (done ++ r ∷ []) more
read_more {bytes} {rest} {more} {done} {r} d f = record {
  each = each-both done (r ∷ []) d.each (f.spelled, tt);
  is = d.is ∙ ap (λ xs. records_bytes done ++ xs) f.is ∙ sym (append_assoc (records_bytes done) (record_bytes r) more)
      ∙ ap (λ xs. xs ++ more) (ap (λ xs. records_bytes done ++ xs) (sym (append-nil (record_bytes r))) ∙ sym (records_bytes-append done (r ∷ [])));
}

-- whatever the bytes are in all, it goes on with what is left
record Tail (done rs : List Record) (rest : List ℕ) : Type 0 where
  tail : List Record
  count : length done + length tail ≡ length rs
  is : rest ≡ records_bytes tail
  each : AllByRecursion HasSpelling tail

tail_of : (done rs : List Record) (bytes rest : List ℕ) → AllByRecursion HasSpelling done → AllByRecursion HasSpelling rs → bytes ≡ records_bytes done ++ rest → bytes ≡ records_bytes rs → length done ≤ length rs → Tail done rs rest
tail_of [] rs bytes rest a b is whole le = record { tail = rs; count = omega arith; is = sym is ∙ whole; each = b }
tail_of (d ∷ ds) [] bytes rest a b is whole le = absurd (omega (arith, le))
tail_of (d ∷ ds) (r ∷ rs) bytes rest a b is whole le =
    let f : IsFront bytes d (records_bytes ds ++ rest) = record { spelled = a.0; is = is ∙ append_assoc (record_bytes d) (records_bytes ds) rest } in
    let g : IsFront bytes r (records_bytes rs) = record { spelled = b.0; is = whole } in
    let t = tail_of ds rs (records_bytes rs) rest a.1 b.1 (sym (same_more f g)) refl (omega (arith, le)) in
    record { tail = t.tail; count = let c = t.count in omega (arith, c); is = t.is; each = t.each }

-- Fewer records were read than there are, so one more stands there.
pub one_more : {bytes rest : List ℕ} {done rs : List Record} {count : ℕ} → Read bytes done rest → AreRecords count bytes rs → length done < count → ((r : Record) (more : List ℕ) → IsFront rest r more → ⊥) → ⊥
one_more {bytes} {rest} {done} {rs} {count} d a lt none =
    let le : length done ≤ length rs = let c = a.count_is in omega (arith, c, lt) in
    let t = tail_of done rs bytes rest d.each a.each d.is a.is le in
    go t.tail t.is t.each (let c = t.count in let n = a.count_is in omega (arith, c, n, lt))
  where
    go : (tail : List Record) → rest ≡ records_bytes tail → AllByRecursion HasSpelling tail → 0 < length tail → ⊥
    go [] is each some = omega (arith, some)
    go (r ∷ rs) is each some = none r (records_bytes rs) (record { spelled = each.0; is = is })

-- As many records were read as there are, so nothing is left.
pub none_left : {bytes rest : List ℕ} {done rs : List Record} {count : ℕ} → Read bytes done rest → AreRecords count bytes rs → length done ≡ count → rest ≡ []
none_left {bytes} {rest} {done} {rs} {count} d a same =
    let n = a.count_is in
    let t = tail_of done rs bytes rest d.each a.each d.is a.is (omega (arith, n, same)) in
    go t.tail t.is (let c = t.count in omega (arith, c, n, same))
  where
    go : (tail : List Record) → rest ≡ records_bytes tail → length tail ≡ 0 → rest ≡ []
    go [] is none = is
    go (r ∷ rs) is none = absurd (omega (arith, none))

pub all_read : {bytes rest : List ℕ} {done : List Record} {count : ℕ} → Read bytes done rest → length done ≡ count → rest ≡ [] → AreRecords count bytes done
all_read {bytes} {rest} {done} d same none = record { each = d.each; count_is = same; is = d.is ∙ ap (λ xs. records_bytes done ++ xs) none ∙ append-nil (records_bytes done) }

-- ---- a leaf

-- the bytes of a leaf in four parts
parts : (leaf : List ℕ) (used : ℕ) → leaf ≡ take 2 leaf ++ (take 2 (drop 2 leaf) ++ (take used (drop 4 leaf) ++ drop (4 + used) leaf))
parts leaf used =
    let two : drop 2 leaf ≡ take 2 (drop 2 leaf) ++ drop 4 leaf = sym (take-append-drop 2 (drop 2 leaf)) ∙ ap (λ xs. take 2 (drop 2 leaf) ++ xs) (drop-drop 2 2 leaf) in
    let body : drop 4 leaf ≡ take used (drop 4 leaf) ++ drop (4 + used) leaf = sym (take-append-drop used (drop 4 leaf)) ∙ ap (λ xs. take used (drop 4 leaf) ++ xs) (drop-drop used 4 leaf) in
    sym (take-append-drop 2 leaf) ∙ ap (λ xs. take 2 leaf ++ xs) (two ∙ ap (λ xs. take 2 (drop 2 leaf) ++ xs) body)

pub leaf_found : (leaf : List ℕ) (count used : ℕ) (rs : List Record) → length leaf ≡ 8192 → 4 + used ≤ 8192 → list_all (λ b. nat_eq b 0) (drop (4 + used) leaf) ≡ true → take 2 leaf ≡ number Two count → take 2 (drop 2 leaf) ≡ number Two used → AreRecords count (take used (drop 4 leaf)) rs → SpellsLeaf rs leaf
leaf_found leaf count used rs long le empty first second a =
    let len : length (records_bytes rs) ≡ used = ap length (sym a.is) ∙ length-take-le used (drop 4 leaf) (omega (arith, length-drop 4 leaf, long, le)) in
    let size : length (drop (4 + used) leaf) ≡ 8188 - length (records_bytes rs) = omega (arith, length-drop (4 + used) leaf, long, len) in
    let rest : drop (4 + used) leaf ≡ zeros (8188 - length (records_bytes rs)) = zeros-from_all (drop (4 + used) leaf) empty ∙ ap zeros size in
    record {
      each = a.each;
      room = omega (arith, len, le);
      bytes_are = parts leaf used
          ∙ ap (λ xs. xs ++ (take 2 (drop 2 leaf) ++ (take used (drop 4 leaf) ++ drop (4 + used) leaf))) (first ∙ ap (number Two) (sym a.count_is))
          ∙ ap (λ xs. number Two (length rs) ++ (xs ++ (take used (drop 4 leaf) ++ drop (4 + used) leaf))) (second ∙ ap (number Two) (sym len))
          ∙ ap (λ xs. number Two (length rs) ++ (number Two (length (records_bytes rs)) ++ (xs ++ drop (4 + used) leaf))) a.is
          ∙ ap (λ xs. number Two (length rs) ++ (number Two (length (records_bytes rs)) ++ (records_bytes rs ++ xs))) rest;
    }

-- what stands behind the records of a leaf, and its two numbers
pub record LeafHead (leaf : List ℕ) : Type 0 where
  pub room : number_at Two 2 leaf ≤ 8188
  pub empty : list_all (λ b. nat_eq b 0) (drop (4 + number_at Two 2 leaf) leaf) ≡ true
  pub first : take 2 leaf ≡ number Two (number_at Two 0 leaf)
  pub second : take 2 (drop 2 leaf) ≡ number Two (number_at Two 2 leaf)

pub leaf_head : (leaf : List ℕ) → IsLeaf leaf → LeafHead leaf
leaf_head leaf is =
    let rs = is.records in
    let s = is.spells in
    let h = head_at leaf rs s in
    let n = length (records_bytes rs) in
    let behind : drop (4 + number_at Two 2 leaf) leaf ≡ zeros (8188 - n) =
    sym (drop-drop (number_at Two 2 leaf) 4 leaf) ∙ ap (λ k. drop k (drop 4 leaf)) h.used ∙ ap (drop n) h.body ∙ drop_at (records_bytes rs) (zeros (8188 - n)) n refl in
    record {
      room = let u = h.used in let r = s.room in omega (arith, u, r);
      empty = ap (list_all (λ b. nat_eq b 0)) behind ∙ all-zeros (8188 - n);
      first = ap (take 2) s.bytes_are ∙ ap (number Two) (sym h.count);
      second = ap (λ xs. take 2 (drop 2 xs)) s.bytes_are ∙ ap (number Two) (sym h.used);
    }

pub leaf_is : (leaf : List ℕ) (rs : List Record) → SpellsLeaf rs leaf → AreRecords (number_at Two 0 leaf) (take (number_at Two 2 leaf) (drop 4 leaf)) rs
leaf_is leaf rs s =
    let h = head_at leaf rs s in
    record {
      each = s.each;
      count_is = sym h.count;
      is = ap (λ n. take n (drop 4 leaf)) h.used ∙ ap (take (length (records_bytes rs))) h.body ∙ take_at (records_bytes rs) (zeros (8188 - length (records_bytes rs))) (length (records_bytes rs)) refl;
    }

-- what is read of the bytes between the two numbers and the zeros is what is read of the leaf
pub read_answer : {V E : Type 0} (items : V → List Record) (leaf body : List ℕ) (count used : ℕ) (res : Result (Option V) E) → length leaf ≡ 8192 → 4 + used ≤ 8192 → list_all (λ b. nat_eq b 0) (drop (4 + used) leaf) ≡ true → take 2 leaf ≡ number Two count → take 2 (drop 2 leaf) ≡ number Two used
    → count ≡ number_at Two 0 leaf → used ≡ number_at Two 2 leaf → body ≡ take used (drop 4 leaf)
    → IfOk res (λ found. MatchOption found ((rs : List Record) → AreRecords count body rs → ⊥) (λ v. AreRecords count body (items v)))
    → IfOk res (λ found. MatchOption found (IsLeaf leaf → ⊥) (λ v. SpellsLeaf (items v) leaf))
read_answer items leaf body count used (Err e) long le empty first second count_is used_is body_is answer = answer
read_answer items leaf body count used (Ok None) long le empty first second count_is used_is body_is answer = λ is.
    let a = leaf_is leaf is.records is.spells in
    answer is.records (record { each = a.each; count_is = a.count_is ∙ sym count_is; is = body_is ∙ ap (λ n. take n (drop 4 leaf)) used_is ∙ a.is })
read_answer items leaf body count used (Ok (Some v)) long le empty first second count_is used_is body_is answer =
    leaf_found leaf count used (items v) long le empty first second (record { each = answer.each; count_is = answer.count_is; is = sym body_is ∙ answer.is })

-- what all bytes from a place on are, as a slice has them
pub all_behind : (leaf : List ℕ) (n : ℕ) → list_all (λ b. nat_eq b 0) (take (length leaf - n) (drop n leaf)) ≡ list_all (λ b. nat_eq b 0) (drop n leaf)
all_behind leaf n = ap (list_all (λ b. nat_eq b 0)) (take_all (length leaf - n) (drop n leaf) (omega (arith, length-drop n leaf)))
