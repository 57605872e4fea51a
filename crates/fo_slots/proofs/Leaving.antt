-- A walk along the records of a leaf.
use Rattle.std.proofs.Common.{◌≡◌, ℕ, ◌+◌, ◌-◌, ◌≤◌, ◌<◌, true, false, eqb, List, [], ◌∷◌, ◌++◌, length, get_or, take, drop, refl, sym, ap, subst, ◌∙◌, arith}
use Rattle.std.specs.Str.{bytes_eq}
use Rattle.std.specs.List.{list_all, AllByRecursion}
use Rattle.std.proofs.lemmas.List.{append-nil, length-append, length-take, length-drop, take-append-drop, take-take, drop-drop, drop-take, take_at, take_all, drop_all}
use Rattle.std.proofs.lemmas.List.Concat.{flat_map-append}
use Rattle.std.proofs.lemmas.Nat.{be_bytes_2}
use Rattle.fo_image.specs.declared.record.Record.{Record}
use Rattle.fo_image.specs.Field.{Two, number, number_at, zeros}
use Rattle.fo_image.specs.Record.{RecordHolds, SpellsRecord, record_len, record_fields}
use Rattle.fo_image.proofs.Padding.{zeros-from_all, all-zeros}
use Rattle.fo_image.proofs.PointerLemmas.{padded_whole}
use Rattle.fo_image.proofs.RecordLemmas.{length-record, record_whole, spells_itself}
use Rattle.fo_ports.specs.of_meta.Leaf.{HasSpelling, record_bytes, records_bytes, SpellsLeaf, IsLeaf, is_named}
use Rattle.fo_ports.proofs.of_meta.Leaves.{Walks, here_is, walk_more}
use Rattle.fo_slots.specs.Formed.{IsRecord, RecordTo, RunsTo, EndsAt}
use Rattle.fo_slots.proofs.Meaning.{fits_take, fits_drop}

-- ---- one record

spelling_of : (r : Record) (bytes : List ℕ) → SpellsRecord r bytes → bytes ≡ record_bytes r
spelling_of r bytes s = s.bytes_are ∙ padded_whole (record_bytes r) (record_len r) (length-record r)

pub record_found : (leaf : List ℕ) (at len : ℕ) → at + len ≤ length leaf → IsRecord (take len (drop at leaf)) → RecordTo leaf at (at + len)
record_found leaf at len le is =
    let bytes = take len (drop at leaf) in
    let whole : length bytes ≡ record_len is.one = record_whole is.one bytes is.spells in
    let size : record_len is.one ≡ len = omega (arith, whole, length-take len (drop at leaf), length-drop at leaf, le) in
    record {
      one = is.one;
      spelled = record { holds = is.spells.holds; fit = is.spells.fit };
      here = ap (λ n. take n (drop at leaf)) size ∙ spelling_of is.one bytes is.spells;
      end_is = omega (arith, size);
      within = le;
    }

pub record_told : (leaf : List ℕ) (at len : ℕ) (r : Record) (more : List ℕ) → HasSpelling r → drop at leaf ≡ record_bytes r ++ more → len ≡ record_len r → IsRecord (take len (drop at leaf))
record_told leaf at len r more s here size =
    let is : take len (drop at leaf) ≡ record_bytes r = ap (take len) here ∙ take_at (record_bytes r) more len (length-record r ∙ sym size) in
    record { one = r; spells = subst (SpellsRecord r) (sym is) (spells_itself (record_len r) record_fields RecordHolds r s.holds s.fit (length-record r)) }

-- ---- so many records

pub runs_none : (leaf : List ℕ) → 4 ≤ length leaf → RunsTo leaf 0 4
runs_none leaf le = record { records = []; count = refl; each = tt; here = refl; at_is = refl; within = le }

records-append : (rs : List Record) (r : Record) → records_bytes (rs ++ r ∷ []) ≡ records_bytes rs ++ record_bytes r
records-append rs r = flat_map-append record_bytes rs (r ∷ []) ∙ ap (λ xs. records_bytes rs ++ xs) (append-nil (record_bytes r))

each-more : (rs : List Record) (r : Record) → AllByRecursion HasSpelling rs → HasSpelling r → AllByRecursion HasSpelling (rs ++ r ∷ [])
each-more [] r each s = (s, tt)
each-more (x ∷ xs) r each s = (each.0, each-more xs r each.1 s)

take-both : (m n : ℕ) (xs : List ℕ) → take (m + n) xs ≡ take m xs ++ take n (drop m xs)
take-both m n xs = sym (take-append-drop m (take (m + n) xs)) ∙ ap (λ ys. ys ++ drop m (take (m + n) xs)) (take-take m (m + n) xs (omega arith)) ∙ ap (λ ys. take m xs ++ ys) (drop-take m n xs)

pub runs_more : (leaf : List ℕ) (n at end : ℕ) → RunsTo leaf n at → RecordTo leaf at end → RunsTo leaf (n + 1) end
runs_more leaf n at end runs to =
    let rs = runs.records in
    let r = to.one in
    let size : length (records_bytes (rs ++ r ∷ [])) ≡ length (records_bytes rs) + record_len r = ap length (records-append rs r) ∙ length-append (records_bytes rs) (record_bytes r) ∙ ap (λ k. length (records_bytes rs) + k) (length-record r) in
    let place : drop (length (records_bytes rs)) (drop 4 leaf) ≡ drop at leaf = drop-drop (length (records_bytes rs)) 4 leaf ∙ ap (λ k. drop k leaf) (sym runs.at_is) in
    record {
      records = rs ++ r ∷ [];
      count = length-append rs (r ∷ []) ∙ ap (λ k. k + 1) runs.count;
      each = each-more rs r runs.each to.spelled;
      here = ap (λ k. take k (drop 4 leaf)) size ∙ take-both (length (records_bytes rs)) (record_len r) (drop 4 leaf) ∙ ap (λ xs. xs ++ take (record_len r) (drop (length (records_bytes rs)) (drop 4 leaf))) runs.here
          ∙ ap (λ xs. records_bytes rs ++ take (record_len r) xs) place ∙ ap (λ xs. records_bytes rs ++ xs) to.here ∙ sym (records-append rs r);
      at_is = omega (arith, to.end_is, runs.at_is, size);
      within = to.within;
    }

-- a record has a name
no_name : (name : List ℕ) (r : Record) → name ≡ r.name → 1 ≤ length name → is_named [] r ≡ false
no_name [] r e some = absurd (omega arith)
no_name (x ∷ xs) r e some = ap (λ ys. bytes_eq ys []) (sym e)

pub walks_on : (leaf : List ℕ) (rs : List Record) (i at end : ℕ) → SpellsLeaf rs leaf → Walks leaf [] rs i at → i < length rs → ((r : Record) (more : List ℕ) → HasSpelling r → drop at leaf ≡ record_bytes r ++ more → end ≡ at + record_len r) → Walks leaf [] rs (i + 1) end
walks_on leaf rs i at end s walks lt only =
    let h = here_is leaf [] rs i at s walks lt in
    walk_more leaf [] rs i at end s walks h (only h.named h.more h.spelled h.here) (no_name h.named.name h.named refl h.spelled.holds.name_is.some)

pub walks_to : (leaf : List ℕ) (rs : List Record) (i at : ℕ) → Walks leaf [] rs i at → length rs ≡ i → EndsAt leaf rs at
walks_to leaf rs i at walks e =
    let le : length rs ≤ i = omega (arith, e) in
    record {
      at_is = walks.at_is ∙ ap (λ xs. 4 + length (records_bytes xs)) (take_all i rs le);
      rest = walks.rest ∙ ap (λ xs. records_bytes xs ++ zeros (8188 - length (records_bytes rs))) (drop_all i rs le);
    }

-- ---- the leaf

head_two : (leaf : List ℕ) → 4 ≤ length leaf → ((i : ℕ) → get_or leaf i 0 < 256) → leaf ≡ number Two (number_at Two 0 leaf) ++ (number Two (number_at Two 2 leaf) ++ drop 4 leaf)
unfolding number_at
head_two leaf le fits =
    let first : number Two (number_at Two 0 leaf) ≡ take 2 leaf = be_bytes_2 (take 2 leaf) _ (omega (arith, length-take 2 leaf, le)) (fits_take 2 leaf fits) refl in
    let second : number Two (number_at Two 2 leaf) ≡ take 2 (drop 2 leaf) = be_bytes_2 (take 2 (drop 2 leaf)) _ (omega (arith, length-take 2 (drop 2 leaf), length-drop 2 leaf, le)) (fits_take 2 (drop 2 leaf) (fits_drop 2 leaf fits)) refl in
    let behind : drop 2 (drop 2 leaf) ≡ drop 4 leaf = drop-drop 2 2 leaf in
    sym (take-append-drop 2 leaf) ∙ ap (λ xs. take 2 leaf ++ xs) (sym (take-append-drop 2 (drop 2 leaf))) ∙ ap (λ xs. take 2 leaf ++ (take 2 (drop 2 leaf) ++ xs)) behind
    ∙ ap (λ xs. xs ++ (take 2 (drop 2 leaf) ++ drop 4 leaf)) (sym first) ∙ ap (λ xs. number Two (number_at Two 0 leaf) ++ (xs ++ drop 4 leaf)) (sym second)

pub leaf_made : (leaf : List ℕ) (end : ℕ) → length leaf ≡ 8192 → ((i : ℕ) → get_or leaf i 0 < 256) → RunsTo leaf (number_at Two 0 leaf) end → end ≡ 4 + number_at Two 2 leaf → list_all (λ b. eqb b 0) (drop end leaf) ≡ true → IsLeaf leaf
leaf_made leaf end len fits runs used none =
    let rs = runs.records in
    let size = length (records_bytes rs) in
    let used_is : number_at Two 2 leaf ≡ size = omega (arith, used, runs.at_is) in
    let zero : drop end leaf ≡ zeros (8188 - size) = zeros-from_all (drop end leaf) none ∙ ap zeros (omega (arith, length-drop end leaf, len, runs.at_is)) in
    let behind : drop size (drop 4 leaf) ≡ drop end leaf = drop-drop size 4 leaf ∙ ap (λ k. drop k leaf) (sym runs.at_is) in
    let body : drop 4 leaf ≡ records_bytes rs ++ zeros (8188 - size) = sym (take-append-drop size (drop 4 leaf)) ∙ ap (λ xs. xs ++ drop size (drop 4 leaf)) runs.here ∙ ap (λ xs. records_bytes rs ++ xs) (behind ∙ zero) in
    record {
      records = rs;
      spells = record {
        each = runs.each;
        room = omega (arith, runs.within, runs.at_is, len);
        bytes_are = head_two leaf (omega (arith, len)) fits ∙ ap (λ k. number Two k ++ (number Two (number_at Two 2 leaf) ++ drop 4 leaf)) (sym runs.count) ∙ ap (λ k. number Two (length rs) ++ (number Two k ++ drop 4 leaf)) used_is
            ∙ ap (λ xs. number Two (length rs) ++ (number Two size ++ xs)) body;
      };
    }

pub leaf_zeros : (leaf : List ℕ) (rs : List Record) (end : ℕ) → EndsAt leaf rs end → list_all (λ b. eqb b 0) (drop end leaf) ≡ true
leaf_zeros leaf rs end ends = ap (list_all (λ b. eqb b 0)) ends.rest ∙ all-zeros (8188 - length (records_bytes rs))
