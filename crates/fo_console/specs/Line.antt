-- The lines of the console: which command a line says (fossilcons(8) of the Plan 9 manual).
use Rattle.std.specs.Prelude.{◌≡◌, ℕ, ◌+◌, ◌<◌, ◌≤◌, ◌^◌, List, [], ◌∷◌, length, Bool, true, false, ◌==◌, ◌&&◌, not, nat_le, codes, if◌then◌else◌}
use Rattle.std.specs.List.{list_all, join_with_byte}
use Rattle.std.specs.Str.Parse.{digits_value}
use Rattle.std.specs.Fmt.{decimal}
use Rattle.fo_base.specs.Text.{is_text}
use Rattle.fo_console.specs.Command.{Said, sync, snap, epoch, low, cancel, df, check, halt, unhalt, create, remove, stat, users}

-- one byte or more, and none of them c
abbrev pub is_part : ℕ → List ℕ → Bool
is_part c bytes = not (length bytes == 0) && list_all (λ b. not (b == c)) bytes

-- The word is the path of these names: `/`, or names each preceded by `/`.
pub record IsPath (word : List ℕ) (names : List (List ℕ)) : Type 0 where
  pub each : list_all (is_part 47) names ≡ true
  pub slashed : word ≡ 47 ∷ join_with_byte 47 names

abbrev pub is_octal : ℕ → Bool
is_octal b = nat_le 48 b && nat_le b 55

-- one to three octal digits
abbrev pub is_octal_word : List ℕ → Bool
is_octal_word digits = not (length digits == 0) && nat_le (length digits) 3 && list_all is_octal digits

-- The word is these permissions: octal digits, after `d` for a directory, which has the bit DMDIR.
pub record IsPerm (word : List ℕ) (perm : ℕ) : Type 0 where
  pub directory : Bool
  pub digits : List ℕ
  pub octal : is_octal_word digits ≡ true
  pub written : word ≡ (if directory then 100 ∷ digits else digits)
  pub value : perm ≡ (if directory then 2 ^ 31 + digits_value 8 digits else digits_value 8 digits)

-- The words are this `create`.
pub record Creates (words path : List (List ℕ)) (uid gid : List ℕ) (perm : ℕ) : Type 0 where
  pub path_word : List ℕ
  pub perm_word : List ℕ
  pub path_is : IsPath path_word path
  pub perm_is : IsPerm perm_word perm
  pub words_are : words ≡ codes "create" ∷ path_word ∷ uid ∷ gid ∷ perm_word ∷ []

-- The words are this command of a path.
pub record Names (command : List ℕ) (words path : List (List ℕ)) : Type 0 where
  pub path_word : List ℕ
  pub path_is : IsPath path_word path
  pub words_are : words ≡ command ∷ path_word ∷ []

-- the words are this command; a number is decimal without leading zeros, and at most 2^31 - 1
abbrev pub IsCommand : List (List ℕ) → Said → Type 0
IsCommand words sync = words ≡ codes "sync" ∷ []
IsCommand words (snap false) = words ≡ codes "snap" ∷ []
IsCommand words (snap true) = words ≡ codes "snap" ∷ codes "-a" ∷ []
IsCommand words epoch = words ≡ codes "epoch" ∷ []
IsCommand words (low n) = (n < 2 ^ 31) × (words ≡ codes "epoch" ∷ codes "-y" ∷ decimal n ∷ [])
IsCommand words cancel = words ≡ codes "cancel" ∷ []
IsCommand words df = words ≡ codes "df" ∷ []
IsCommand words check = words ≡ codes "check" ∷ []
IsCommand words halt = words ≡ codes "halt" ∷ []
IsCommand words unhalt = words ≡ codes "unhalt" ∷ []
IsCommand words (create path uid gid perm) = Creates words path uid gid perm
IsCommand words (remove path) = Names (codes "remove") words path
IsCommand words (stat path) = Names (codes "stat") words path
IsCommand words users = words ≡ codes "users" ∷ []

-- The line says this command: words parted by single spaces, at most 1000 bytes of UTF-8 without NUL.
pub record Says (line : List ℕ) (s : Said) : Type 0 where
  pub text : is_text line ≡ true
  pub short : length line ≤ 1000
  pub words : List (List ℕ)
  pub each : list_all (is_part 32) words ≡ true
  pub spaced : line ≡ join_with_byte 32 words
  pub command : IsCommand words s
