-- That a block is of its format is known of its bytes: records are spelled in one way alone.
use Rattle.std.proofs.Common.{◌≡◌, ℕ, zero, suc, ◌+◌, ◌-◌, ◌%◌, ◌<◌, ◌^◌, List, [], ◌∷◌, ◌++◌, length, get_or, take, drop, refl, sym, ap, subst, ◌∙◌, append_assoc, arith}
use Rattle.std.proofs.Math.Logic.{∥∥₁_elim, ∥∥₁_prop}
use Rattle.std.proofs.Props.{props}
use Rattle.std.specs.Prelude.{codes}
use Rattle.std.specs.List.{AllByRecursion}
use Rattle.std.proofs.lemmas.List.{length-append, length-drop, drop-drop, take_at, drop_at}
use Rattle.std.proofs.lemmas.Nat.{from_be_bytes-to_be_bytes_4}
use Rattle.fo_image.specs.declared.types.Kind.{Kind}
use Rattle.fo_image.specs.declared.types.Kind.TheVariants.{Data, Dir, Root}
use Rattle.fo_image.specs.declared.record.Record.{Record}
use Rattle.fo_image.specs.declared.record.RootBlock.{RootBlock}
use Rattle.fo_image.specs.Field.{Two, Four, Field, Text, FieldFits, number, number_at, spelled, spelling, padded, zeros}
use Rattle.fo_image.specs.Format.{pointer_bytes, entry_fields, EntryHolds}
use Rattle.fo_image.specs.Record.{record_len, record_fields, root_head, root_fields, SpellsRoot}
use Rattle.fo_image.proofs.RecordLemmas.{length-record, length-entry, fit_both, root_parts, root_spelling, root_at}
use Rattle.fo_meta.specs.Leaf.{HasSpelling, record_bytes, records_bytes, SpellsLeaf, IsLeaf}
use Rattle.fo_meta.proofs.Leaves.{head_at}
use Rattle.fo_ports.specs.Blocks.{AreZeros, IsFormed, no_entry, slots_to}

-- ---- the one record that bytes can begin with

abbrev text_of : List ℕ → List ℕ
text_of bytes = take (get_or bytes 0 0) (drop 1 bytes)

abbrev past_text : List ℕ → List ℕ
past_text bytes = drop (get_or bytes 0 0) (drop 1 bytes)

record_from : List ℕ → Record
record_from bytes = record {
  name = text_of (drop 30 bytes);
  number = number_at Four 2 bytes;
  slot = number_at Four 6 bytes;
  generation = number_at Four 10 bytes;
  vers = number_at Four 14 bytes;
  mode = number_at Four 18 bytes;
  atime = number_at Four 22 bytes;
  mtime = number_at Four 26 bytes;
  uid = text_of (past_text (drop 30 bytes));
  gid = text_of (past_text (past_text (drop 30 bytes)));
  muid = text_of (past_text (past_text (past_text (drop 30 bytes))));
}

small : (n : ℕ) → n < 2 ^ 8 → n % 256 ≡ n
small n lt = omega arith

text_is : (text more : List ℕ) → length text < 2 ^ 8 → text_of (spelled (Text text) ++ more) ≡ text
text_is text more lt = ap (λ n. take n (text ++ more)) (small (length text) lt) ∙ take_at text more (length text) refl

past_is : (text more : List ℕ) → length text < 2 ^ 8 → past_text (spelled (Text text) ++ more) ≡ more
past_is text more lt = ap (λ n. drop n (text ++ more)) (small (length text) lt) ∙ drop_at text more (length text) refl

regroup : (a b c d z : List ℕ) → (a ++ (b ++ (c ++ (d ++ [])))) ++ z ≡ a ++ (b ++ (c ++ (d ++ z)))
regroup a b c d z = simp append_assoc

-- a record by its parts
record_with : (name : List ℕ) (number slot generation vers mode atime mtime : ℕ) (uid gid muid : List ℕ) → Record
record_with name number slot generation vers mode atime mtime uid gid muid = record { name = name; number = number; slot = slot; generation = generation; vers = vers; mode = mode; atime = atime; mtime = mtime; uid = uid; gid = gid; muid = muid }

abbrev parts_of : Record → Record
parts_of a = record_with a.name a.number a.slot a.generation a.vers a.mode a.atime a.mtime a.uid a.gid a.muid

same_parts : (a b : Record) → a.name ≡ b.name → a.number ≡ b.number → a.slot ≡ b.slot → a.generation ≡ b.generation → a.vers ≡ b.vers → a.mode ≡ b.mode → a.atime ≡ b.atime → a.mtime ≡ b.mtime → a.uid ≡ b.uid → a.gid ≡ b.gid → a.muid ≡ b.muid → parts_of a ≡ parts_of b
same_parts a b n1 n2 n3 n4 n5 n6 n7 n8 n9 n10 n11 = cc (n1, n2, n3, n4, n5, n6, n7, n8, n9, n10, n11)

same_record : (a b : Record) → parts_of a ≡ parts_of b → a ≡ b
unfolding record_with
same_record a b e = e

record_is : (r : Record) (more : List ℕ) → AllByRecursion FieldFits (record_fields r) → record_from (record_bytes r ++ more) ≡ r
unfolding number_at record_from
record_is r more fit =
    let f = fit.1.1.1.1.1.1.1.1 in
    let texts : drop 30 (record_bytes r ++ more) ≡ spelled (Text r.name) ++ (spelled (Text r.uid) ++ (spelled (Text r.gid) ++ (spelled (Text r.muid) ++ more))) = regroup (spelled (Text r.name)) (spelled (Text r.uid)) (spelled (Text r.gid)) (spelled (Text r.muid)) more in
    let p1 : past_text (drop 30 (record_bytes r ++ more)) ≡ spelled (Text r.uid) ++ (spelled (Text r.gid) ++ (spelled (Text r.muid) ++ more)) = ap past_text texts ∙ past_is r.name (spelled (Text r.uid) ++ (spelled (Text r.gid) ++ (spelled (Text r.muid) ++ more))) f.0 in
    let p2 : past_text (past_text (drop 30 (record_bytes r ++ more))) ≡ spelled (Text r.gid) ++ (spelled (Text r.muid) ++ more) = ap past_text p1 ∙ past_is r.uid (spelled (Text r.gid) ++ (spelled (Text r.muid) ++ more)) f.1.0 in
    let p3 : past_text (past_text (past_text (drop 30 (record_bytes r ++ more)))) ≡ spelled (Text r.muid) ++ more = ap past_text p2 ∙ past_is r.gid (spelled (Text r.muid) ++ more) f.1.1.0 in
    same_record (record_from (record_bytes r ++ more)) r (same_parts (record_from (record_bytes r ++ more)) r
    (ap text_of texts ∙ text_is r.name (spelled (Text r.uid) ++ (spelled (Text r.gid) ++ (spelled (Text r.muid) ++ more))) f.0)
    (from_be_bytes-to_be_bytes_4 r.number fit.1.0)
    (from_be_bytes-to_be_bytes_4 r.slot fit.1.1.0)
    (from_be_bytes-to_be_bytes_4 r.generation fit.1.1.1.0)
    (from_be_bytes-to_be_bytes_4 r.vers fit.1.1.1.1.0)
    (from_be_bytes-to_be_bytes_4 r.mode fit.1.1.1.1.1.0)
    (from_be_bytes-to_be_bytes_4 r.atime fit.1.1.1.1.1.1.0)
    (from_be_bytes-to_be_bytes_4 r.mtime fit.1.1.1.1.1.1.1.0)
    (ap text_of p1 ∙ text_is r.uid (spelled (Text r.gid) ++ (spelled (Text r.muid) ++ more)) f.1.0)
    (ap text_of p2 ∙ text_is r.gid (spelled (Text r.muid) ++ more) f.1.1.0)
    (ap text_of p3 ∙ text_is r.muid more f.1.1.1.0))

-- ---- leaves of records

abbrev records_from : ℕ → List ℕ → List Record
records_from zero bytes = []
records_from (suc n) bytes = record_from bytes ∷ records_from n (drop (record_len (record_from bytes)) bytes)

records_are : (rs : List Record) (more : List ℕ) → AllByRecursion HasSpelling rs → records_from (length rs) (records_bytes rs ++ more) ≡ rs
records_are [] more each = refl
records_are (r ∷ rs) more each =
    let rest = records_bytes rs ++ more in
    let first : record_from (record_bytes r ++ rest) ≡ r = record_is r rest each.0.fit in
    let past : drop (record_len (record_from (record_bytes r ++ rest))) (record_bytes r ++ rest) ≡ rest = ap (λ x. drop (record_len x) (record_bytes r ++ rest)) first ∙ drop_at (record_bytes r) rest (record_len r) (length-record r) in
    ap (records_from (suc (length rs))) (append_assoc (record_bytes r) (records_bytes rs) more)
    ∙ ap (λ x. x ∷ records_from (length rs) (drop (record_len (record_from (record_bytes r ++ rest))) (record_bytes r ++ rest))) first
    ∙ ap (λ x. r ∷ records_from (length rs) x) past
    ∙ ap (λ xs. r ∷ xs) (records_are rs more each.1)

abbrev leaf_records : List ℕ → List Record
leaf_records leaf = records_from (number_at Two 0 leaf) (drop 4 leaf)

leaf_is : (leaf : List ℕ) (rs : List Record) → SpellsLeaf rs leaf → leaf_records leaf ≡ rs
leaf_is leaf rs s =
    let head = head_at leaf rs s in
    ap (λ n. records_from n (drop 4 leaf)) head.count ∙ ap (records_from (length rs)) head.body ∙ records_are rs (zeros (8188 - length (records_bytes rs))) s.each

fits_prop : (x : Field) → IsProp (FieldFits x)
fits_prop (Field.Number size n) = Prim.hlevel props
fits_prop (Field.Fixed len bytes) = Prim.hlevel props
fits_prop (Text bytes) = Prim.hlevel props

spells_prop : (rs : List Record) (leaf : List ℕ) → IsProp (SpellsLeaf rs leaf)
spells_prop rs leaf = Prim.hlevel (props, fits_prop)

leaf_out : (leaf : List ℕ) → ∥ IsLeaf leaf ∥₁ → IsLeaf leaf
leaf_out leaf h = record { records = leaf_records leaf; spells = ∥∥₁_elim h (spells_prop (leaf_records leaf) leaf) (λ l. subst (λ rs. SpellsLeaf rs leaf) (sym (leaf_is leaf l.records l.spells)) l.spells) }

-- ---- root blocks

-- a root block with no slots, and its bytes
abbrev bare : ℕ → ℕ → Record → RootBlock
bare epoch time own = record { epoch = epoch; time = time; prev_epoch = 0; prev = 0; entries = no_entry; meta = no_entry; own = own }

abbrev whole_of : RootBlock → List ℕ
whole_of r = padded 8192 (spelling (root_fields r))

-- what a root block and its bytes are, as the bytes of another block are of that format
record IsRootOf (bytes : List ℕ) (block : RootBlock) (whole : List ℕ) : Type 0 where
  spells : SpellsRoot block whole
  before : take 16 whole ≡ take 16 bytes
  behind : drop 104 whole ≡ drop 104 bytes

head_is : (r : RootBlock) (whole : List ℕ) → SpellsRoot r whole → take 16 whole ≡ codes "FOSSILRT" ++ (number Four r.epoch ++ number Four r.time)
head_is r whole s = ap (take 16) s.bytes_are

behind_is : (r : RootBlock) (tail : List ℕ) → length (pointer_bytes r.entries.top) ≡ 20 → length (pointer_bytes r.meta.top) ≡ 20 → drop 104 (spelling (root_fields r) ++ tail) ≡ record_bytes r.own ++ tail
unfolding root_parts
behind_is r tail e m =
    let all = spelling (root_fields r) ++ tail in
    let E = spelling (entry_fields r.entries) in
    let M = spelling (entry_fields r.meta) in
    let O = record_bytes r.own ++ tail in
    let at_24 : drop 24 all ≡ E ++ (M ++ O) = ap (drop 24) (root_spelling r tail) in
    let at_64 : drop 64 all ≡ M ++ O = sym (drop-drop 40 24 all) ∙ ap (drop 40) at_24 ∙ drop_at E (M ++ O) 40 (length-entry r.entries e) in
    sym (drop-drop 40 64 all) ∙ ap (drop 40) at_64 ∙ drop_at M O 40 (length-entry r.meta m)

root_len : (r : RootBlock) → length (pointer_bytes r.entries.top) ≡ 20 → length (pointer_bytes r.meta.top) ≡ 20 → length (spelling (root_fields r)) ≡ 104 + record_len r.own
root_len r e m =
    let all = spelling (root_fields r) ++ [] in
    let is = ap length (behind_is r [] e m) in
    omega (arith, is, length-drop 104 all, length-append (record_bytes r.own) [], length-record r.own, length-append (spelling (root_fields r)) [])

whole_behind : (r : RootBlock) → length (pointer_bytes r.entries.top) ≡ 20 → length (pointer_bytes r.meta.top) ≡ 20 → drop 104 (whole_of r) ≡ record_bytes r.own ++ zeros (8192 - (104 + record_len r.own))
whole_behind r e m = behind_is r (zeros (8192 - length (spelling (root_fields r)))) e m ∙ ap (λ n. record_bytes r.own ++ zeros (8192 - n)) (root_len r e m)

none_fit : AllByRecursion FieldFits (entry_fields no_entry)
none_fit = (omega arith, (omega arith, (omega arith, (omega arith, (omega arith, (omega arith, (refl, tt)))))))

bare_root : (bytes : List ℕ) (r : RootBlock) (whole : List ℕ) → IsRootOf bytes r whole → IsRootOf bytes (bare r.epoch r.time r.own) (whole_of (bare r.epoch r.time r.own))
bare_root bytes r whole is =
    let s = is.spells in
    let at = root_at whole r s in
    let b = bare r.epoch r.time r.own in
    let fit : AllByRecursion FieldFits (root_fields b) = fit_both (root_head r.epoch r.time 0 0) (entry_fields no_entry ++ (entry_fields no_entry ++ record_fields r.own)) (s.fit.0, (s.fit.1.0, (s.fit.1.1.0, (omega arith, (omega arith, tt)))))
    (fit_both (entry_fields no_entry) (entry_fields no_entry ++ record_fields r.own) none_fit (fit_both (entry_fields no_entry) (record_fields r.own) none_fit at.own.fit)) in
    let none : EntryHolds no_entry = record { active_holds = (refl, refl, refl, refl, refl) } in
    let spells : SpellsRoot b (whole_of b) = record {
      holds = record { epoch_is = s.holds.epoch_is; prev_epoch_is = omega arith; prev_is = ((λ e. e), (λ e. e)); entries_hold = none; meta_holds = none; own_holds = s.holds.own_holds };
      fit = fit;
      bytes_are = refl;
    } in
    record {
      spells = spells;
      before = head_is b (whole_of b) spells ∙ sym (head_is r whole s) ∙ is.before;
      behind = whole_behind b refl refl ∙ sym (ap (drop 104) s.bytes_are ∙ whole_behind r at.entries.fit.1.1.1.1.1.1.0 at.meta.fit.1.1.1.1.1.1.0) ∙ is.behind;
    }

abbrev epoch_from : List ℕ → ℕ
epoch_from bytes = number_at Four 8 (take 16 bytes)

abbrev time_from : List ℕ → ℕ
time_from bytes = number_at Four 12 (take 16 bytes)

own_is : (r : RootBlock) (whole : List ℕ) → SpellsRoot r whole → record_from (drop 104 whole) ≡ r.own
own_is r whole s =
    let at = root_at whole r s in
    ap (λ x. record_from (drop 104 x)) s.bytes_are ∙ ap record_from (whole_behind r at.entries.fit.1.1.1.1.1.1.0 at.meta.fit.1.1.1.1.1.1.0) ∙ record_is r.own (zeros (8192 - (104 + record_len r.own))) at.own.fit

epoch_is : (r : RootBlock) (whole : List ℕ) → SpellsRoot r whole → epoch_from whole ≡ r.epoch
unfolding number_at
epoch_is r whole s = ap (number_at Four 8) (head_is r whole s) ∙ from_be_bytes-to_be_bytes_4 r.epoch s.fit.1.0

time_is : (r : RootBlock) (whole : List ℕ) → SpellsRoot r whole → time_from whole ≡ r.time
unfolding number_at
time_is r whole s = ap (number_at Four 12) (head_is r whole s) ∙ from_be_bytes-to_be_bytes_4 r.time s.fit.1.1.0

abbrev root_from : List ℕ → RootBlock
root_from bytes = bare (epoch_from bytes) (time_from bytes) (record_from (drop 104 bytes))

root_is : (bytes : List ℕ) (r : RootBlock) (whole : List ℕ) → IsRootOf bytes r whole → root_from bytes ≡ bare r.epoch r.time r.own
root_is bytes r whole is =
    let epoch : epoch_from bytes ≡ r.epoch = ap (number_at Four 8) (sym is.before) ∙ epoch_is r whole is.spells in
    let time : time_from bytes ≡ r.time = ap (number_at Four 12) (sym is.before) ∙ time_is r whole is.spells in
    let own : record_from (drop 104 bytes) ≡ r.own = ap record_from (sym is.behind) ∙ own_is r whole is.spells in
    cc (epoch, time, own)

root_prop : (bytes : List ℕ) (epoch time : ℕ) (own : Record) → IsProp (IsRootOf bytes (bare epoch time own) (whole_of (bare epoch time own)))
root_prop bytes epoch time own = Prim.hlevel (props, fits_prop)

root_out : (bytes : List ℕ) → ∥ IsFormed Root 0 bytes ∥₁ → IsRootOf bytes (root_from bytes) (whole_of (root_from bytes))
root_out bytes h = ∥∥₁_elim h (root_prop bytes (epoch_from bytes) (time_from bytes) (record_from (drop 104 bytes)))
    (λ f. let is : IsRootOf bytes f.1.0 f.1.1 = record { spells = f.1.2; before = f.1.3; behind = f.1.4 } in
    subst (λ r. IsRootOf bytes r (whole_of r)) (sym (root_is bytes f.1.0 f.1.1 is)) (bare_root bytes f.1.0 f.1.1 is))

-- ---- blocks of each kind

zeros_out : (bytes more : List ℕ) → ∥ (length bytes ≡ 8192) × AreZeros more ∥₁ → (length bytes ≡ 8192) × AreZeros more
zeros_out bytes more h = ∥∥₁_elim h (Prim.hlevel props) (λ e. e)

pub formed_out : (kind : Kind) (rank : ℕ) (bytes : List ℕ) → ∥ IsFormed kind rank bytes ∥₁ → IsFormed kind rank bytes
formed_out (Data zero) rank bytes h = (∥∥₁_elim h (Prim.hlevel props) (λ f. f.0), λ e. leaf_out bytes (∥∥₁_elim h ∥∥₁_prop (λ f. ∣ f.1 e ∣₁)))
formed_out (Data (suc level)) rank bytes h = zeros_out bytes (drop (slots_to (Data (suc level))) bytes) h
formed_out (Dir level) rank bytes h = zeros_out bytes (drop (slots_to (Dir level)) bytes) h
formed_out Root rank bytes h =
    let is = root_out bytes h in
    (∥∥₁_elim h (Prim.hlevel props) (λ f. f.0), (root_from bytes, whole_of (root_from bytes), is.spells, is.before, is.behind))
