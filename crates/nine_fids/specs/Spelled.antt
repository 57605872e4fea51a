-- The table of users that the bytes of /adm/users stand for, and what is kept of it from one request to the next.
use Rattle.std.specs.Prelude.{◌≡◌, ◌≤◌, ℕ, ◌^◌, List, length, Option, Some, None, unwrap_or, Result, Ok, Err}
use Rattle.std.specs.Borrow.{Bor}
use Rattle.fo_users.specs.declared.table.User.{User}
use Rattle.fo_users.specs.Found.{table_in}
use Rattle.fo_users.specs.Table.{standard_table}
use Rattle.nine_fids.specs.declared.refusal.Refusal.{Refusal}

-- the table that they spell, or else the standard one
abbrev pub table_for : List ℕ → List User
table_for bytes = unwrap_or (table_in bytes) standard_table

-- Some bytes, no more than a table may have, stand for this table.
pub record IsSpelled (table : List User) : Type 0 where
  pub bytes : List ℕ
  pub within : length bytes ≤ 2 ^ 16
  pub spelled : table ≡ table_for bytes

-- The bytes that are kept, no more than a table may have, stand for the table that is kept with them.
pub record StandFor (bytes : List ℕ) (table : List User) : Type 0 where
  pub within : length bytes ≤ 2 ^ 16
  pub spelled : table ≡ table_for bytes

-- The same, where any are kept.
abbrev pub Agree : Option (List ℕ) → List User → Type 0
Agree None table = Unit {0}
Agree (Some bytes) table = StandFor bytes table

-- the table that is lent
abbrev pub table_lent : Result (Bor (List User)) Refusal → Result (List User) Refusal
table_lent (Ok table) = Ok table.now
table_lent (Err r) = Err r
