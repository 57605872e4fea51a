-- The fields that formats are made of, and how each is spelled: numbers have their high byte first.
use Rattle.std.specs.Prelude.{◌≡◌, ℕ, ◌-◌, ◌^◌, ◌<◌, List, ◌++◌, length, take, drop, replicate, Result, IfOk, IfErr, Ok}
use Rattle.std.specs.Int.{Width, w8, w16, w32, w64, to_be_bytes, from_be_bytes, byte_len}
use Rattle.std.specs.List.{flat_map, AllByRecursion}

-- how many bytes a number takes
pub data Size : Type 0 where
  One : Size
  Two : Size
  Four : Size
  Eight : Size

abbrev pub width : Size → Width
width One = w8
width Two = w16
width Four = w32
width Eight = w64

abbrev pub limit : Size → ℕ
limit One = 2 ^ 8
limit Two = 2 ^ 16
limit Four = 2 ^ 32
limit Eight = 2 ^ 64

pub data Field : Type 0 where
  Number : (size : Size) → (n : ℕ) → Field
  -- exactly so many bytes
  Fixed : (len : ℕ) → (bytes : List ℕ) → Field
  -- a length in one byte, and that many bytes
  Text : (bytes : List ℕ) → Field

abbrev pub number : Size → ℕ → List ℕ
number size n = to_be_bytes (width size) n

-- the number that stands at a place
unfoldable pub number_at : Size → ℕ → List ℕ → ℕ
number_at size at bytes = from_be_bytes (width size) (take (byte_len (width size)) (drop at bytes))

abbrev pub spelled : Field → List ℕ
spelled (Number size n) = number size n
spelled (Fixed len bytes) = bytes
spelled (Text bytes) = number One (length bytes) ++ bytes

-- what a field can say
abbrev pub FieldFits : Field → Type 0
FieldFits (Number size n) = n < limit size
FieldFits (Fixed len bytes) = length bytes ≡ len
FieldFits (Text bytes) = length bytes < 2 ^ 8

abbrev pub spelling : List Field → List ℕ
spelling fields = flat_map spelled fields

unfoldable pub zeros : ℕ → List ℕ
zeros n = replicate n 0

-- the bytes, and zeros up to the length of the format
abbrev pub padded : ℕ → List ℕ → List ℕ
padded size bytes = bytes ++ zeros (size - length bytes)

-- These bytes spell this value, in the format of so many bytes with these fields and this condition on its values:
-- they are its fields one after the other, and zeros.
pub record Spells {V : Type 0} (size : ℕ) (fields : V → List Field) (Holds : V → Type 0) (value : V) (bytes : List ℕ) : Type 0 where
  pub holds : Holds value
  pub fit : AllByRecursion FieldFits (fields value)
  pub bytes_are : bytes ≡ padded size (spelling (fields value))

-- What a call that reads answers: the one value that the bytes spell, and the refusal exactly where they spell none.
pub record Reads {V E : Type 0} (Spelled : V → Type 0) (refusal : E) (result : Result V E) : Type 0 where
  pub found : IfOk result Spelled
  pub only : (value : V) → Spelled value → result ≡ Ok value
  pub refused : IfErr result (λ e. (e ≡ refusal) × ((value : V) → ¬ Spelled value))
