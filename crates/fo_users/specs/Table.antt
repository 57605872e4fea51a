-- The table of users (users(6) of the Plan 9 manual): its lines, and how they are spelled.
use Rattle.std.specs.Prelude.{◌≡◌, ℕ, List, [], ◌∷◌, ◌++◌, length, Bool, true, ◌==◌, ◌&&◌, ◌||◌, not, nat_le, unwrap_or, Some, None, codes}
use Rattle.std.specs.List.{list_any, list_all, flat_map, join_with_byte}
use Rattle.std.specs.Option.{option_map_or}
use Rattle.std.specs.Char.{is_ascii_alphanumeric}
use Rattle.std.specs.Str.{bytes_eq}
use Rattle.fo_users.specs.declared.table.User.{User}

-- ASCII letters, digits, `_`, `-` and `.`
abbrev pub is_name_byte : ℕ → Bool
is_name_byte b = is_ascii_alphanumeric b || (b == 95) || (b == 45) || (b == 46)

-- 1 to 64 of them
abbrev pub is_user_name : List ℕ → Bool
is_user_name name = not (length name == 0) && nat_le (length name) 64 && list_all is_name_byte name

-- id and name are names, leader is a name or missing, and members are names
abbrev pub is_line : User → Bool
is_line u = is_user_name u.id && is_user_name u.name && option_map_or is_user_name u.leader true && list_all is_user_name u.members

-- the members parted by commas
abbrev pub members_text : List (List ℕ) → List ℕ
members_text members = join_with_byte 44 members

-- id:name:leader:members
abbrev pub line_text : User → List ℕ
line_text u = join_with_byte 58 (u.id ∷ u.name ∷ unwrap_or u.leader [] ∷ members_text u.members ∷ [])

-- These bytes are the line of this user.
pub record SpellsLine (bytes : List ℕ) (u : User) : Type 0 where
  pub line : is_line u ≡ true
  pub text : bytes ≡ line_text u

-- a user of the table has this name
abbrev pub is_known : List User → List ℕ → Bool
is_known table name = list_any (λ u. bytes_eq u.name name) table

-- the leader, where there is one, and the members are users of the table
abbrev pub names_known : List User → User → Bool
names_known table u = option_map_or (is_known table) u.leader true && list_all (is_known table) u.members

-- neither the ids nor the names of two users are equal
abbrev pub is_apart : User → User → Bool
is_apart u v = not (bytes_eq u.id v.id) && not (bytes_eq u.name v.name)

-- each is apart from those after it
abbrev pub all_differ : List User → Bool
all_differ [] = true
all_differ (u ∷ us) = list_all (is_apart u) us && all_differ us

-- ids differ, names differ, who is named is there, and `adm` and `none` are there
abbrev pub is_table : List User → Bool
is_table table = all_differ table && list_all (names_known table) table && is_known table (codes "adm") && is_known table (codes "none")

-- the lines, each ended by a newline
abbrev pub table_text : List User → List ℕ
table_text table = flat_map (λ u. line_text u ++ 10 ∷ []) table

-- These bytes spell this table.
pub record Spells (bytes : List ℕ) (table : List User) : Type 0 where
  pub lines : list_all is_line table ≡ true
  pub whole : is_table table ≡ true
  pub text : bytes ≡ table_text table

-- the table where there is no other
abbrev pub standard_table : List User
standard_table =
    record { id = codes "adm"; name = codes "adm"; leader = Some (codes "adm"); members = codes "glenda" ∷ [] }
    ∷ record { id = codes "none"; name = codes "none"; leader = None; members = [] }
    ∷ record { id = codes "sys"; name = codes "sys"; leader = None; members = codes "glenda" ∷ [] }
    ∷ record { id = codes "glenda"; name = codes "glenda"; leader = Some (codes "glenda"); members = [] }
    ∷ []
