-- What the readers of a line's parts give.
use Rattle.std.specs.Prelude.{ℕ, ◌-◌, ◌^◌, List, [], ◌∷◌, Bool, ◌==◌, ◌&&◌, nat_le, nat_lt, Option, Some, None, Result, Ok, Err, if◌then◌else◌}
use Rattle.std.specs.Option.{option_map}
use Rattle.std.specs.Str.{bytes_eq}
use Rattle.std.specs.Str.Parse.{digits_value}
use Rattle.std.specs.Fmt.{decimal}
use Rattle.hex.specs.Hex.{decode_of, encode_lower}
use Rattle.hex.specs.declared.error.FromHexError.{FromHexError}
use Rattle.fo_lines.specs.declared.line.Line.{Line}
use Rattle.fo_lines.specs.declared.line.Line.TheVariants.{Moment, Message, Drops, Console, Flush, Unlink, Archive, FlushAll, ArchiveAll}

-- the word is how this number is written
abbrev pub is_number : ℕ → List ℕ → Bool
is_number n word = nat_lt n (2 ^ 32) && bytes_eq (decimal n) word

unfoldable pub number_at : List ℕ → Option ℕ
number_at word = if is_number (digits_value 10 word) word then Some (digits_value 10 word) else None

-- one digit, or a one and a digit up to five
abbrev pub session_at : List ℕ → Option ℕ
session_at (a ∷ []) = if nat_le 48 a && nat_le a 57 then Some (a - 48) else None
session_at (a ∷ b ∷ []) = if a == 49 && (nat_le 48 b && nat_le b 53) then Some (b - 38) else None
session_at _ = None

-- the bytes, where the text is their spelling
abbrev pub respelled : List ℕ → Result (List ℕ) FromHexError → Option (List ℕ)
respelled text (Ok bytes) = if bytes_eq (encode_lower bytes) text then Some bytes else None
respelled text (Err e) = None

unfoldable pub bytes_at : List ℕ → Option (List ℕ)
bytes_at text = respelled text (decode_of text)

abbrev pub message_of : Option ℕ → List ℕ → Option Line
message_of None text = None
message_of (Some session) text = option_map (Message session) (bytes_at text)

abbrev pub message_at : List ℕ → Option Line
message_at (a ∷ b ∷ []) = if b == 32 then message_of (session_at (a ∷ [])) [] else None
message_at (a ∷ b ∷ c ∷ rest) = if b == 32 then message_of (session_at (a ∷ [])) (c ∷ rest) else (if c == 32 then message_of (session_at (a ∷ b ∷ [])) rest else None)
message_at _ = None

-- a line that is one letter
abbrev pub turn_at : ℕ → Option Line
turn_at letter =
    if letter == 102 then Some Flush
    else (if letter == 117 then Some Unlink
    else (if letter == 97 then Some Archive
    else (if letter == 70 then Some FlushAll
    else (if letter == 65 then Some ArchiveAll else None))))

-- a line that is a letter and what stands behind it
abbrev pub told_at : ℕ → List ℕ → Option Line
told_at letter rest =
    if letter == 116 then option_map Moment (number_at rest)
    else (if letter == 115 then message_at rest
    else (if letter == 104 then option_map Drops (session_at rest)
    else (if letter == 99 then Some (Console rest) else None)))

abbrev pub line_at : List ℕ → Option Line
line_at (letter ∷ []) = turn_at letter
line_at (letter ∷ space ∷ rest) = if space == 32 then told_at letter rest else None
line_at [] = None
