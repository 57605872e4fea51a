-- Reading from left to right: a field is read as its value and the bytes after it.
use Rattle.std.specs.Prelude.{◌≡◌, ℕ, zero, suc, List, [], ◌∷◌, length, take, drop, Some, None, Result, Ok, Err, nat_lt, ◌==◌, if◌then◌else◌}
use Rattle.std.specs.declared.option.Option.{Option}
use Rattle.std.specs.Int.{byte_len, from_le_bytes}
use Rattle.fo_base.specs.Text.{is_text}
use Rattle.nine_fields.specs.declared.error.ReadError.{ReadError}
use Rattle.nine_fields.specs.declared.error.ReadError.TheVariants as errors
use Rattle.nine_fields.specs.declared.qid.Qid.{Qid}
use Rattle.nine_fields.specs.Field.{Size, One, Two, Four, Eight, width, Plain, Number, Text, Id, PlainShape, Numeric, Textual, Unique, stat_shapes, Field, Lone, Texts, Ids, Block, Stat, Brief, Shape, Single, TextList, QidList, Counted, Record, Short}

infixl 10 ◌>>=◌
abbrev pub ◌>>=◌ : {A B : Type 0} → Option A → (A → Option B) → Option B
(Some x) >>= f = f x
None >>= f = None

-- What a function returned, seen by view, is what reading gives.
abbrev pub Reads : {X Y E : Type 0} → (X → Y) → Result X E → Option Y → Type 0
Reads view (Ok x) read = read ≡ Some (view x)
Reads view (Err e) read = read ≡ None

-- The same, unless memory ran out.
abbrev pub Fails : {Y : Type 0} → ReadError → Option Y → Type 0
Fails errors.Memory read = Unit {0}
Fails errors.Malformed read = read ≡ None

abbrev pub Gives : {X Y : Type 0} → (X → Y) → Result X ReadError → Option Y → Type 0
Gives view (Ok x) read = read ≡ Some (view x)
Gives view (Err e) read = Fails e read

unfoldable pub number_at : Size → List ℕ → Option (ℕ × List ℕ)
number_at size bytes = if nat_lt (length bytes) (byte_len (width size)) then None else Some (from_le_bytes (width size) (take (byte_len (width size)) bytes), drop (byte_len (width size)) bytes)

-- so many bytes
unfoldable pub part_at : ℕ → List ℕ → Option (List ℕ × List ℕ)
part_at n bytes = if nat_lt (length bytes) n then None else Some (take n bytes, drop n bytes)

-- a count, and that many bytes
unfoldable pub block_at : Size → List ℕ → Option (List ℕ × List ℕ)
block_at size bytes = do
  n ← number_at size bytes
  part_at n.0 n.1

unfoldable pub text_at : List ℕ → Option (List ℕ × List ℕ)
text_at bytes = do
  b ← block_at Two bytes
  if is_text b.0 then Some b else None

unfoldable pub qid_at : List ℕ → Option (Qid × List ℕ)
qid_at bytes = do
  kind ← number_at One bytes
  vers ← number_at Four kind.1
  path ← number_at Eight vers.1
  Some (record { kind = kind.0; vers = vers.0; path = path.0 }, path.1)

unfoldable pub plain_at : PlainShape → List ℕ → Option (Plain × List ℕ)
plain_at (Numeric size) bytes = do
  n ← number_at size bytes
  Some (Number size n.0, n.1)
plain_at Textual bytes = do
  t ← text_at bytes
  Some (Text t.0, t.1)
plain_at Unique bytes = do
  q ← qid_at bytes
  Some (Id q.0, q.1)

unfoldable pub plains_at : List PlainShape → List ℕ → Option (List Plain × List ℕ)
plains_at [] bytes = Some ([], bytes)
plains_at (s ∷ ss) bytes = do
  first ← plain_at s bytes
  others ← plains_at ss first.1
  Some (first.0 ∷ others.0, others.1)

-- what was read, where no byte is left
abbrev pub all_of : {A : Type 0} → A × List ℕ → Option A
all_of x = if length x.1 == 0 then Some x.0 else None

-- the fields of the stat record that the bytes are
unfoldable pub stat_at : List ℕ → Option (List Plain)
stat_at bytes = do
  held ← block_at Two bytes
  inside ← all_of held
  fields ← plains_at stat_shapes inside
  all_of fields

-- so many texts
unfoldable pub names_at : ℕ → List ℕ → Option (List (List ℕ) × List ℕ)
names_at zero bytes = Some ([], bytes)
names_at (suc n) bytes = do
  first ← text_at bytes
  others ← names_at n first.1
  Some (first.0 ∷ others.0, others.1)

unfoldable pub texts_at : List ℕ → Option (List (List ℕ) × List ℕ)
texts_at bytes = do
  n ← number_at Two bytes
  names_at n.0 n.1

-- so many qids
unfoldable pub ids_at : ℕ → List ℕ → Option (List Qid × List ℕ)
ids_at zero bytes = Some ([], bytes)
ids_at (suc n) bytes = do
  first ← qid_at bytes
  others ← ids_at n first.1
  Some (first.0 ∷ others.0, others.1)

unfoldable pub qids_at : List ℕ → Option (List Qid × List ℕ)
qids_at bytes = do
  n ← number_at Two bytes
  ids_at n.0 n.1

unfoldable pub record_at : List ℕ → Option (List ℕ × List ℕ)
record_at bytes = do
  b ← block_at Two bytes
  fields ← stat_at b.0
  Some b

unfoldable pub brief_at : List ℕ → Option (List ℕ × List ℕ)
brief_at bytes = do
  t ← text_at bytes
  if nat_lt 128 (length t.0) then None else Some t

unfoldable pub field_at : Shape → List ℕ → Option (Field × List ℕ)
field_at (Single s) bytes = do
  p ← plain_at s bytes
  Some (Lone p.0, p.1)
field_at TextList bytes = do
  t ← texts_at bytes
  Some (Texts t.0, t.1)
field_at QidList bytes = do
  q ← qids_at bytes
  Some (Ids q.0, q.1)
field_at (Counted size) bytes = do
  b ← block_at size bytes
  Some (Block size b.0, b.1)
field_at Record bytes = do
  b ← record_at bytes
  Some (Stat b.0, b.1)
field_at Short bytes = do
  t ← brief_at bytes
  Some (Brief t.0, t.1)

unfoldable pub fields_at : List Shape → List ℕ → Option (List Field × List ℕ)
fields_at [] bytes = Some ([], bytes)
fields_at (s ∷ ss) bytes = do
  first ← field_at s bytes
  others ← fields_at ss first.1
  Some (first.0 ∷ others.0, others.1)
