-- What the arena stores of a block, and the block made of it again.
use Rattle.std.specs.Prelude.{◌≡◌, ◌≢◌, ℕ, zero, suc, ◌-◌, ◌/◌, ◌%◌, ◌≤◌, ◌==◌, ◌&&◌, ◌||◌, ◌⊎◌, nat_le, Bool, List, [], ◌++◌, length, take, if◌then◌else◌}
use Rattle.fo_image.specs.Field.{zeros}
use Rattle.fo_vacput.specs.declared.types.TheConstants.{EMPTY}
use Rattle.fo_vacput.specs.declared.types.Tail.{Tail}
use Rattle.fo_vacput.specs.declared.types.Tail.TheVariants.{Zeros, Scores, Nothing}

-- data, entries and top blocks
abbrev pub ends_in_zeros : ℕ → Bool
ends_in_zeros kind = kind == 0 || kind == 8 || kind == 17

-- pointer blocks, of the levels 1 to 4
abbrev pub ends_in_scores : ℕ → Bool
ends_in_scores kind = (nat_le 1 kind && nat_le kind 4) || (nat_le 9 kind && nat_le kind 12)

abbrev pub tail_of : ℕ → Tail
tail_of kind = if ends_in_scores kind then Scores else (if ends_in_zeros kind then Zeros else Nothing)

unfoldable pub copies : ℕ → List ℕ → List ℕ
copies zero unit = []
copies (suc n) unit = unit ++ copies n unit

-- so many bytes of nil pointers: scores of the empty block, as many as there is room for, and zeros
unfoldable pub nil_pointers : ℕ → List ℕ
nil_pointers n = copies (n / 20) EMPTY.0 ++ zeros (n % 20)

-- what stands in so many last bytes of a block where they are left out
abbrev pub left_out : Tail → ℕ → List ℕ
left_out Zeros n = zeros n
left_out Scores n = nil_pointers n
left_out Nothing n = zeros n

-- the block of so many bytes that is made of what was stored of it
abbrev pub grown : Tail → ℕ → List ℕ → List ℕ
grown tail size stored = stored ++ left_out tail (size - length stored)

-- how many bytes may be stored of a block of so many: any number, whole pointers or all, and all
abbrev pub MayStore : Tail → ℕ → ℕ → Type 0
MayStore Zeros size n = n ≤ size
MayStore Scores size n = (n ≤ size) × ((n ≡ size) ⊎ (n % 20 ≡ 0))
MayStore Nothing size n = n ≡ size

-- the least length from which the block can be made again
pub record IsCut (tail : Tail) (block : List ℕ) (left : ℕ) : Type 0 where
  pub may : MayStore tail (length block) left
  pub again : grown tail (length block) (take left block) ≡ block
  pub least : (n : ℕ) → MayStore tail (length block) n → grown tail (length block) (take n block) ≡ block → left ≤ n

-- the bytes without the units at their end
pub record IsWithout (unit bytes rest : List ℕ) : Type 0 where
  pub count : ℕ
  pub is : bytes ≡ rest ++ copies count unit
  pub none : (front : List ℕ) → rest ≢ front ++ unit
