-- Lines and their fields, as they are cut.
use Rattle.fo_base.specs.Parts.{parts_at}
use Rattle.std.specs.Prelude.{◌≡◌, ℕ, List, [], ◌∷◌, true, map, Option, Some, None}
use Rattle.std.specs.List.{list_all}
use Rattle.fo_users.specs.declared.table.User.{User}
use Rattle.fo_users.specs.Table.{is_line, line_text}

-- no bytes are no members
abbrev pub members_of : List ℕ → List (List ℕ)
members_of [] = []
members_of (b ∷ bs) = parts_at 44 (b ∷ bs)

-- no bytes are no leader
abbrev pub leader_of : List ℕ → Option (List ℕ)
leader_of [] = None
leader_of (b ∷ bs) = Some (b ∷ bs)

-- what four fields say, whatever bytes are in them
abbrev pub user_of : List (List ℕ) → Option User
user_of (id ∷ name ∷ leader ∷ members ∷ []) = Some (record { id = id; name = name; leader = leader_of leader; members = members_of members })
user_of _ = None

-- These are the lines of these users.
pub record SpellsLines (texts : List (List ℕ)) (users : List User) : Type 0 where
  pub lines : list_all is_line users ≡ true
  pub texts_are : map line_text users ≡ texts
