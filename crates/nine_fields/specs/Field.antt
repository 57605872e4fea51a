-- The fields that messages and stat records of 9P2000 are made of, and how each is spelled (intro(5), stat(5)).
use Rattle.std.specs.Prelude.{◌≡◌, ℕ, ◌<◌, ◌≤◌, ◌^◌, List, [], ◌∷◌, ◌++◌, length, map}
use Rattle.std.specs.Int.{Width, w8, w16, w32, w64, to_le_bytes}
use Rattle.std.specs.List.{flat_map, AllByRecursion}
use Rattle.fo_base.specs.Text.{IsText}
use Rattle.nine_fields.specs.declared.qid.Qid.{Qid}

-- how many bytes a number takes
pub data Size : Type 0 where
  One : Size
  Two : Size
  Four : Size
  Eight : Size

abbrev pub width : Size → Width
width One = w8
width Two = w16
width Four = w32
width Eight = w64

abbrev pub limit : Size → ℕ
limit One = 2 ^ 8
limit Two = 2 ^ 16
limit Four = 2 ^ 32
limit Eight = 2 ^ 64

-- a number, low byte first
abbrev pub number : Size → ℕ → List ℕ
number size n = to_le_bytes (width size) n

-- the number of the bytes, and the bytes
abbrev pub block : Size → List ℕ → List ℕ
block size bytes = number size (length bytes) ++ bytes

-- type[1] vers[4] path[8]
abbrev pub qid_bytes : Qid → List ℕ
qid_bytes q = (number One q.kind ++ number Four q.vers) ++ number Eight q.path

-- What a stat record is made of.
pub data Plain : Type 0 where
  Number : (size : Size) → (n : ℕ) → Plain
  Text : (bytes : List ℕ) → Plain
  Id : (qid : Qid) → Plain

abbrev pub plain_bytes : Plain → List ℕ
plain_bytes (Number size n) = number size n
plain_bytes (Text bytes) = block Two bytes
plain_bytes (Id q) = qid_bytes q

abbrev pub TextFits : List ℕ → Type 0
TextFits bytes = (length bytes < 2 ^ 16) × IsText bytes

pub record QidFits (q : Qid) : Type 0 where
  pub kind_fits : q.kind < 2 ^ 8
  pub vers_fits : q.vers < 2 ^ 32
  pub path_fits : q.path < 2 ^ 64

abbrev pub PlainFits : Plain → Type 0
PlainFits (Number size n) = n < limit size
PlainFits (Text bytes) = TextFits bytes
PlainFits (Id q) = QidFits q

-- what a plain field is to look like
pub data PlainShape : Type 0 where
  Numeric : (size : Size) → PlainShape
  Textual : PlainShape
  Unique : PlainShape

abbrev pub plain_shape : Plain → PlainShape
plain_shape (Number size n) = Numeric size
plain_shape (Text bytes) = Textual
plain_shape (Id q) = Unique

-- type[2] dev[4] qid[13] mode[4] atime[4] mtime[4] length[8] name[s] uid[s] gid[s] muid[s]
abbrev pub stat_shapes : List PlainShape
stat_shapes = Numeric Two ∷ Numeric Four ∷ Unique ∷ Numeric Four ∷ Numeric Four ∷ Numeric Four ∷ Numeric Eight ∷ Textual ∷ Textual ∷ Textual ∷ Textual ∷ []

-- a stat record: the size of what follows in two bytes, and the fields
abbrev pub stat_bytes : List Plain → List ℕ
stat_bytes fields = block Two (flat_map plain_bytes fields)

pub record StatFits (fields : List Plain) : Type 0 where
  pub shaped : map plain_shape fields ≡ stat_shapes
  pub fields_fit : AllByRecursion PlainFits fields
  pub size_fits : length (flat_map plain_bytes fields) < 2 ^ 16

-- the bytes are exactly one stat record
pub record IsStat (bytes : List ℕ) : Type 0 where
  pub fields : List Plain
  pub fits : StatFits fields
  pub spelled : bytes ≡ stat_bytes fields

-- What a message is made of.
pub data Field : Type 0 where
  Lone : (plain : Plain) → Field
  -- a count in two bytes, and that many texts
  Texts : (texts : List (List ℕ)) → Field
  -- a count in two bytes, and that many qids
  Ids : (qids : List Qid) → Field
  -- a count, and that many bytes
  Block : (size : Size) → (bytes : List ℕ) → Field
  -- a count in two bytes, and that many bytes, which are a stat record
  Stat : (bytes : List ℕ) → Field
  -- a text of at most 128 bytes
  Brief : (bytes : List ℕ) → Field

abbrev pub spelled : Field → List ℕ
spelled (Lone p) = plain_bytes p
spelled (Texts texts) = number Two (length texts) ++ flat_map (block Two) texts
spelled (Ids qids) = number Two (length qids) ++ flat_map qid_bytes qids
spelled (Block size bytes) = block size bytes
spelled (Stat bytes) = block Two bytes
spelled (Brief bytes) = block Two bytes

-- what has a spelling
abbrev pub FieldFits : Field → Type 0
FieldFits (Lone p) = PlainFits p
FieldFits (Texts texts) = (length texts < 2 ^ 16) × AllByRecursion TextFits texts
FieldFits (Ids qids) = (length qids < 2 ^ 16) × AllByRecursion QidFits qids
FieldFits (Block size bytes) = length bytes < limit size
FieldFits (Stat bytes) = (length bytes < 2 ^ 16) × IsStat bytes
FieldFits (Brief bytes) = (length bytes ≤ 128) × IsText bytes

-- what a field is to look like
pub data Shape : Type 0 where
  Single : (shape : PlainShape) → Shape
  TextList : Shape
  QidList : Shape
  Counted : (size : Size) → Shape
  Record : Shape
  Short : Shape

abbrev pub shape : Field → Shape
shape (Lone p) = Single (plain_shape p)
shape (Texts texts) = TextList
shape (Ids qids) = QidList
shape (Block size bytes) = Counted size
shape (Stat bytes) = Record
shape (Brief bytes) = Short
