-- The table that bytes spell, found from their lines.
use Rattle.std.specs.Prelude.{◌≡◌, ◌↔◌, ℕ, ◌-◌, List, [], ◌∷◌, length, take, ◌&&◌, Option, Some, None, option_and_then, if◌then◌else◌}
use Rattle.std.specs.List.{list_all}
use Rattle.std.specs.Option.{option_map}
use Rattle.std.specs.Str.{bytes_eq}
use Rattle.fo_users.specs.declared.table.User.{User}
use Rattle.fo_users.specs.Table.{is_line, is_table, table_text, Spells}
use Rattle.fo_base.specs.Parts.{parts_at}
use Rattle.fo_users.specs.Parts.{user_of}

-- the lines that newlines end: all parts round them but the last
abbrev pub lines_of : List ℕ → List (List ℕ)
lines_of bytes = take (length (parts_at 10 bytes) - 1) (parts_at 10 bytes)

-- the users of these lines, where each has four fields
abbrev pub users_of : List (List ℕ) → Option (List User)
users_of [] = Some []
users_of (line ∷ lines) = option_and_then (λ u. option_map (λ us. u ∷ us) (users_of lines)) (user_of (parts_at 58 line))

-- the users, where they are a table that these bytes spell
abbrev pub spelled_by : List ℕ → List User → Option (List User)
spelled_by bytes us = if list_all is_line us && (is_table us && bytes_eq bytes (table_text us)) then Some us else None

-- the table that the bytes spell, where they spell one
unfoldable pub table_in : List ℕ → Option (List User)
table_in bytes = option_and_then (spelled_by bytes) (users_of (lines_of bytes))

-- it is found exactly where it is spelled
abbrev pub TablesAreFound : Type 0
TablesAreFound = (bytes : List ℕ) (table : List User) → (table_in bytes ≡ Some table) ↔ Spells bytes table
