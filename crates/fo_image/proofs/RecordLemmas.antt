-- What stands where, in the bytes of a record and of a root block.
use Rattle.std.proofs.Common.{◌≡◌, ℕ, ◌-◌, ◌≤◌, List, [], ◌∷◌, ◌++◌, length, take, drop, sym, ap, subst, ◌∙◌, append_assoc, arith}
use Rattle.std.specs.Int.{w16, from_be_bytes}
use Rattle.std.specs.List.{AllByRecursion}
use Rattle.std.proofs.lemmas.List.{append-nil, length-append, take_at, drop_at, drop-drop}
use Rattle.std.proofs.lemmas.List.Concat.{flat_map-append}
use Rattle.std.proofs.lemmas.Nat.{from_be_bytes-to_be_bytes_2, from_be_bytes-to_be_bytes_4}
use Rattle.fo_image.specs.declared.types.Entry.{Entry}
use Rattle.fo_image.specs.declared.record.Record.{Record}
use Rattle.fo_image.specs.declared.record.RootBlock.{RootBlock}
use Rattle.fo_image.specs.Field.{Two, Four, Field, Text, FieldFits, number_at, zeros, spelled, spelling, Spells}
use Rattle.fo_image.specs.Format.{pointer_bytes, entry_fields, EntryHolds}
use Rattle.fo_image.specs.Record.{RecordHolds, record_len, record_fields, RootHolds, root_head, root_fields}
use Rattle.fo_image.proofs.PointerLemmas.{padded_whole}

pub record RecordAt (bytes : List ℕ) (r : Record) : Type 0 where
  pub number : number_at Four 2 bytes ≡ r.number
  pub slot : number_at Four 6 bytes ≡ r.slot
  pub generation : number_at Four 10 bytes ≡ r.generation
  pub vers : number_at Four 14 bytes ≡ r.vers
  pub mode : number_at Four 18 bytes ≡ r.mode
  pub atime : number_at Four 22 bytes ≡ r.atime
  pub mtime : number_at Four 26 bytes ≡ r.mtime
  pub more : List ℕ
  pub texts : drop 30 bytes ≡ spelled (Text r.name) ++ (spelled (Text r.uid) ++ (spelled (Text r.gid) ++ (spelled (Text r.muid) ++ more)))

regroup_texts : (a b c d z : List ℕ) → (a ++ (b ++ (c ++ (d ++ [])))) ++ z ≡ a ++ (b ++ (c ++ (d ++ z)))
regroup_texts a b c d z = simp append_assoc

pub record_at : (bytes : List ℕ) (r : Record) → Spells (record_len r) record_fields RecordHolds r bytes → RecordAt bytes r
unfolding number_at
record_at bytes r s = subst (λ b. RecordAt b r) (sym s.bytes_are) (record {
  number = from_be_bytes-to_be_bytes_4 r.number s.fit.1.0;
  slot = from_be_bytes-to_be_bytes_4 r.slot s.fit.1.1.0;
  generation = from_be_bytes-to_be_bytes_4 r.generation s.fit.1.1.1.0;
  vers = from_be_bytes-to_be_bytes_4 r.vers s.fit.1.1.1.1.0;
  mode = from_be_bytes-to_be_bytes_4 r.mode s.fit.1.1.1.1.1.0;
  atime = from_be_bytes-to_be_bytes_4 r.atime s.fit.1.1.1.1.1.1.0;
  mtime = from_be_bytes-to_be_bytes_4 r.mtime s.fit.1.1.1.1.1.1.1.0;
  more = zeros (record_len r - length (spelling (record_fields r)));
  texts = regroup_texts (spelled (Text r.name)) (spelled (Text r.uid)) (spelled (Text r.gid)) (spelled (Text r.muid)) (zeros (record_len r - length (spelling (record_fields r))));
})

pub length-record : (r : Record) → length (spelling (record_fields r)) ≡ record_len r
length-record r = simp length-append (omega arith)

pub record_whole : (r : Record) (bytes : List ℕ) → Spells (record_len r) record_fields RecordHolds r bytes → length bytes ≡ record_len r
record_whole r bytes s = ap length (s.bytes_are ∙ padded_whole (spelling (record_fields r)) (record_len r) (length-record r)) ∙ length-record r

pub length-entry : (e : Entry) → length (pointer_bytes e.top) ≡ 20 → length (spelling (entry_fields e)) ≡ 40
length-entry e h = let n = ap length (append-nil (pointer_bytes e.top)) ∙ h in omega (arith, n)

-- ---- fields one after the other

pub fit_both : (xs ys : List Field) → AllByRecursion FieldFits xs → AllByRecursion FieldFits ys → AllByRecursion FieldFits (xs ++ ys)
fit_both [] ys p q = q
fit_both (x ∷ xs) ys p q = (p.0, fit_both xs ys p.1 q)

fit_left : (xs ys : List Field) → AllByRecursion FieldFits (xs ++ ys) → AllByRecursion FieldFits xs
fit_left [] ys p = tt
fit_left (x ∷ xs) ys p = (p.0, fit_left xs ys p.1)

fit_right : (xs ys : List Field) → AllByRecursion FieldFits (xs ++ ys) → AllByRecursion FieldFits ys
fit_right [] ys p = p
fit_right (x ∷ xs) ys p = fit_right xs ys p.1

-- a value's own bytes spell it
pub spells_itself : {V : Type 0} (size : ℕ) (fields : V → List Field) (Holds : V → Type 0) (v : V) → Holds v → AllByRecursion FieldFits (fields v) → length (spelling (fields v)) ≡ size
    → Spells size fields Holds v (spelling (fields v))
spells_itself size fields Holds v holds fit len = record { holds = holds; fit = fit; bytes_are = sym (padded_whole (spelling (fields v)) size len) }

-- ---- root blocks

unfoldable pub root_parts : RootBlock → List ℕ → List ℕ
root_parts r tail = spelling (root_head r.epoch r.time r.prev_epoch r.prev) ++ (spelling (entry_fields r.entries) ++ (spelling (entry_fields r.meta) ++ (spelling (record_fields r.own) ++ tail)))

pub root_spelling : (r : RootBlock) (tail : List ℕ) → spelling (root_fields r) ++ tail ≡ root_parts r tail
unfolding root_parts
root_spelling r tail =
    let H = root_head r.epoch r.time r.prev_epoch r.prev in
    let E = entry_fields r.entries in
    let M = entry_fields r.meta in
    let O = record_fields r.own in
    let joined : spelling (root_fields r) ≡ spelling H ++ (spelling E ++ (spelling M ++ spelling O)) =
    flat_map-append spelled H (E ++ (M ++ O)) ∙ ap (λ xs. spelling H ++ xs) (flat_map-append spelled E (M ++ O) ∙ ap (λ xs. spelling E ++ xs) (flat_map-append spelled M O)) in
    ap (λ xs. xs ++ tail) joined ∙ append_assoc (spelling H) (spelling E ++ (spelling M ++ spelling O)) tail ∙ ap (λ xs. spelling H ++ xs) (append_assoc (spelling E) (spelling M ++ spelling O) tail ∙ ap (λ xs. spelling E ++ xs) (append_assoc (spelling M) (spelling O) tail))

pub record RootAt (block : List ℕ) (r : RootBlock) : Type 0 where
  pub epoch : number_at Four 8 block ≡ r.epoch
  pub time : number_at Four 12 block ≡ r.time
  pub prev_epoch : number_at Four 16 block ≡ r.prev_epoch
  pub prev : number_at Four 20 block ≡ r.prev
  pub entries : Spells 40 entry_fields EntryHolds r.entries (take 40 (drop 24 block))
  pub meta : Spells 40 entry_fields EntryHolds r.meta (take 40 (drop 64 block))
  pub len : number_at Two 104 block ≡ record_len r.own
  pub own : Spells (record_len r.own) record_fields RecordHolds r.own (take (record_len r.own) (drop 104 block))
  pub short : record_len r.own ≤ 481

pub root_at : (block : List ℕ) (r : RootBlock) → Spells 8192 root_fields RootHolds r block → RootAt block r
unfolding number_at root_parts
root_at block r s =
    let H = root_head r.epoch r.time r.prev_epoch r.prev in
    let E = entry_fields r.entries in
    let M = entry_fields r.meta in
    let O = record_fields r.own in
    let Z : List ℕ = zeros (8192 - length (spelling (root_fields r))) in
    let is : block ≡ root_parts r Z = s.bytes_are ∙ root_spelling r Z in
    let H_fit : AllByRecursion FieldFits H = fit_left H (E ++ (M ++ O)) s.fit in
    let EMO_fit : AllByRecursion FieldFits (E ++ (M ++ O)) = fit_right H (E ++ (M ++ O)) s.fit in
    let E_fit : AllByRecursion FieldFits E = fit_left E (M ++ O) EMO_fit in
    let MO_fit : AllByRecursion FieldFits (M ++ O) = fit_right E (M ++ O) EMO_fit in
    let M_fit : AllByRecursion FieldFits M = fit_left M O MO_fit in
    let O_fit : AllByRecursion FieldFits O = fit_right M O MO_fit in
    let E_len : length (spelling E) ≡ 40 = length-entry r.entries E_fit.1.1.1.1.1.1.0 in
    let M_len : length (spelling M) ≡ 40 = length-entry r.meta M_fit.1.1.1.1.1.1.0 in
    let at_24 : drop 24 block ≡ spelling E ++ (spelling M ++ (spelling O ++ Z)) = ap (drop 24) is in
    let at_64 : drop 64 block ≡ spelling M ++ (spelling O ++ Z) = sym (drop-drop 40 24 block) ∙ ap (drop 40) at_24 ∙ drop_at (spelling E) (spelling M ++ (spelling O ++ Z)) 40 E_len in
    let at_104 : drop 104 block ≡ spelling O ++ Z = sym (drop-drop 40 64 block) ∙ ap (drop 40) at_64 ∙ drop_at (spelling M) (spelling O ++ Z) 40 M_len in
    let E_is : take 40 (drop 24 block) ≡ spelling E = ap (take 40) at_24 ∙ take_at (spelling E) (spelling M ++ (spelling O ++ Z)) 40 E_len in
    let M_is : take 40 (drop 64 block) ≡ spelling M = ap (take 40) at_64 ∙ take_at (spelling M) (spelling O ++ Z) 40 M_len in
    let O_is : take (record_len r.own) (drop 104 block) ≡ spelling O = ap (take (record_len r.own)) at_104 ∙ take_at (spelling O) Z (record_len r.own) (length-record r.own) in
    let texts = s.holds.own_holds.holds in
    record {
      epoch = ap (number_at Four 8) is ∙ from_be_bytes-to_be_bytes_4 r.epoch H_fit.1.0;
      time = ap (number_at Four 12) is ∙ from_be_bytes-to_be_bytes_4 r.time H_fit.1.1.0;
      prev_epoch = ap (number_at Four 16) is ∙ from_be_bytes-to_be_bytes_4 r.prev_epoch H_fit.1.1.1.0;
      prev = ap (number_at Four 20) is ∙ from_be_bytes-to_be_bytes_4 r.prev H_fit.1.1.1.1.0;
      entries = subst (λ b. Spells 40 entry_fields EntryHolds r.entries b) (sym E_is) (spells_itself 40 entry_fields EntryHolds r.entries s.holds.entries_hold E_fit E_len);
      meta = subst (λ b. Spells 40 entry_fields EntryHolds r.meta b) (sym M_is) (spells_itself 40 entry_fields EntryHolds r.meta s.holds.meta_holds M_fit M_len);
      len = ap (λ xs. from_be_bytes w16 (take 2 xs)) at_104 ∙ from_be_bytes-to_be_bytes_2 (record_len r.own) O_fit.0;
      own = subst (λ b. Spells (record_len r.own) record_fields RecordHolds r.own b) (sym O_is) (spells_itself (record_len r.own) record_fields RecordHolds r.own texts O_fit (length-record r.own));
      short = omega (arith, texts.name_is.within, texts.uid_is.within, texts.gid_is.within, texts.muid_is.within);
    }
