-- What the readers of a line's words give.
use Rattle.fo_base.specs.Parts.{parts_at}
use Rattle.std.specs.Prelude.{ℕ, ◌+◌, ◌^◌, List, [], ◌∷◌, length, Bool, true, false, ◌==◌, ◌&&◌, not, nat_le, nat_lt, Option, Some, None, option_and_then, codes, if◌then◌else◌}
use Rattle.std.specs.List.{list_all}
use Rattle.std.specs.Option.{option_map}
use Rattle.std.specs.Str.{bytes_eq}
use Rattle.std.specs.Str.Parse.{digits_value}
use Rattle.std.specs.Fmt.{decimal}
use Rattle.fo_base.specs.Text.{is_text}
use Rattle.fo_console.specs.Command.{Said, sync, snap, epoch, low, cancel, df, check, halt, unhalt, create, remove, stat, users}
use Rattle.fo_console.specs.Line.{is_octal_word}

abbrev pub is_some_text : List ℕ → Bool
is_some_text text = not (length text == 0)

-- the word is how this number is written
abbrev pub is_number : ℕ → List ℕ → Bool
is_number n word = nat_lt n (2 ^ 31) && bytes_eq (decimal n) word

unfoldable pub number_of : List ℕ → Option ℕ
number_of word = if is_number (digits_value 10 word) word then Some (digits_value 10 word) else None

unfoldable pub octal_of : List ℕ → Option ℕ
octal_of digits = if is_octal_word digits then Some (digits_value 8 digits) else None

unfoldable pub perm_of : List ℕ → Option ℕ
perm_of [] = octal_of []
perm_of (b ∷ bs) = if b == 100 then option_map (λ n. 2 ^ 31 + n) (octal_of bs) else octal_of (b ∷ bs)

-- no bytes are no names
abbrev pub names_of : List ℕ → Option (List (List ℕ))
names_of names =
    if length names == 0 then Some [] else (if list_all is_some_text (parts_at 47 names) then Some (parts_at 47 names) else None)

unfoldable pub path_of : List ℕ → Option (List (List ℕ))
path_of [] = None
path_of (b ∷ bs) = if b == 47 then names_of bs else None

abbrev pub alone : List ℕ → Option Said
alone word =
    if bytes_eq word (codes "sync") then Some sync
    else (if bytes_eq word (codes "snap") then Some (snap false)
    else (if bytes_eq word (codes "epoch") then Some epoch
    else (if bytes_eq word (codes "cancel") then Some cancel
    else (if bytes_eq word (codes "df") then Some df
    else (if bytes_eq word (codes "check") then Some check
    else (if bytes_eq word (codes "halt") then Some halt
    else (if bytes_eq word (codes "unhalt") then Some unhalt
    else (if bytes_eq word (codes "users") then Some users else None))))))))

abbrev pub with_one : List ℕ → List ℕ → Option Said
with_one word argument =
    if bytes_eq word (codes "snap") then (if bytes_eq argument (codes "-a") then Some (snap true) else None)
    else (if bytes_eq word (codes "remove") then option_map remove (path_of argument)
    else (if bytes_eq word (codes "stat") then option_map stat (path_of argument) else None))

abbrev pub with_two : List ℕ → List ℕ → List ℕ → Option Said
with_two word flag argument =
    if bytes_eq word (codes "epoch") && bytes_eq flag (codes "-y") then option_map low (number_of argument) else None

abbrev pub with_four : List ℕ → List ℕ → List ℕ → List ℕ → List ℕ → Option Said
with_four word path uid gid perm =
    if bytes_eq word (codes "create") then option_and_then (λ p. option_map (λ names. create names uid gid p) (path_of path)) (perm_of perm) else None

abbrev pub command_of : List (List ℕ) → Option Said
command_of (word ∷ []) = alone word
command_of (word ∷ argument ∷ []) = with_one word argument
command_of (word ∷ flag ∷ argument ∷ []) = with_two word flag argument
command_of (word ∷ path ∷ uid ∷ gid ∷ perm ∷ []) = with_four word path uid gid perm
command_of _ = None

abbrev pub is_line : List ℕ → Bool
is_line line = nat_le (length line) 1000 && is_text line
