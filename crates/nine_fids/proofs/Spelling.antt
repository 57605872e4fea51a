-- The table that bytes stand for.
use Rattle.std.proofs.Common.{◌≡◌, ◌≤◌, ◌^◌, ℕ, List, [], length, Bool, true, false, Option, Some, None, Result, Ok, Err, refl, sym, ap, ◌∙◌, arith}
use Rattle.std.specs.Prelude.{unwrap_or, option_and_then, IfOk, IfErr, IfSome, if◌then◌else◌}
use Rattle.std.specs.List.{list_all}
use Rattle.std.specs.Borrow.{Bor}
use Rattle.std.specs.Option.{option_map_or}
use Rattle.std.specs.Str.{bytes_eq}
use Rattle.std.proofs.lemmas.Bool.{true≢false}
use Rattle.std.proofs.lemmas.Slice.Eq.{bytes_eq-Decides}
use Rattle.fo_users.specs.declared.table.User.{User}
use Rattle.fo_users.specs.Table.{is_line, standard_table}
use Rattle.fo_users.specs.Found.{table_in}
use Rattle.fo_users.proofs.Finding.{spelled_table}
use Rattle.fo_world.specs.declared.error.FileError.TheVariants as error
use Rattle.nine_fids.specs.declared.refusal.Refusal.{Refusal}
use Rattle.nine_fids.specs.declared.refusal.Refusal.TheVariants as refusal
use Rattle.nine_fids.specs.Refusing.{told_apart, is_failure}
use Rattle.nine_fids.specs.Spelled.{table_for, table_lent, IsSpelled}

-- no bytes spell no table
none_spelled : table_in [] ≡ None
unfolding table_in
none_spelled = refl

-- no file stands for the table that no bytes stand for
pub no_file : (o : Option (List ℕ)) → unwrap_or (option_and_then table_in o) standard_table ≡ table_for (unwrap_or o [])
no_file None = ap (λ t. unwrap_or t standard_table) (sym none_spelled)
no_file (Some bytes) = refl

lines_of : (bytes : List ℕ) (o : Option (List User)) → table_in bytes ≡ o → list_all is_line (unwrap_or o standard_table) ≡ true
lines_of bytes None is = refl
lines_of bytes (Some table) is = (spelled_table bytes table is).lines

pub table_lines : (bytes : List ℕ) → list_all is_line (table_for bytes) ≡ true
table_lines bytes = lines_of bytes (table_in bytes) refl

pub none_within : (o : Option (List ℕ)) → IfSome o (λ bytes. length bytes ≤ 2 ^ 16) → length (unwrap_or o []) ≤ 2 ^ 16
none_within None h = omega arith
none_within (Some bytes) h = h

-- bytes that are known are those that are kept
pub known_same : (o : Option (List ℕ)) (bytes : List ℕ) → option_map_or (λ known. bytes_eq known bytes) o false ≡ true → o ≡ Some bytes
known_same None bytes h = absurd (true≢false (sym h))
known_same (Some known) bytes h = ap Some ((bytes_eq-Decides known bytes).0 h)

refused_within : (r : Refusal) (b : Bool) → IfOk (if b then Err r else Ok None) (λ (found : Option (List ℕ)). IfSome found (λ bytes. length bytes ≤ 2 ^ 16))
refused_within r true = tt
refused_within r false = tt

-- what is told apart is within what is told
pub apart_within : (looked : Result (List ℕ) Refusal) (most : ℕ) → IfOk looked (λ bytes. length bytes ≤ most) → most ≤ 2 ^ 16 → IfOk (told_apart looked) (λ found. IfSome found (λ bytes. length bytes ≤ 2 ^ 16))
apart_within (Ok bytes) most h le = omega (arith, h, le)
apart_within (Err r) most h le = refused_within r (is_failure r)

-- ---- a table that is lent

module _ (bytes : List ℕ) where
  pub lent_table : (r : Result (Bor (List User)) Refusal) → IfOk r (λ users. users.now ≡ table_for bytes) → IfOk (table_lent r) (λ table. table ≡ table_for bytes)
  lent_table (Ok users) h = h
  lent_table (Err why) h = tt

  pub lent_spelled : (r : Result (Bor (List User)) Refusal) → length bytes ≤ 2 ^ 16 → IfOk r (λ users. users.now ≡ table_for bytes) → IfOk r (λ users. IsSpelled users.now)
  lent_spelled (Ok users) le h = record { bytes = bytes; within = le; spelled = h }
  lent_spelled (Err why) le h = tt

  pub lent_lines : (r : Result (Bor (List User)) Refusal) → IfOk r (λ users. users.now ≡ table_for bytes) → IfOk r (λ users. list_all is_line users.now ≡ true)
  lent_lines (Ok users) h = ap (λ table. list_all is_line table) h ∙ table_lines bytes
  lent_lines (Err why) h = tt

pub lent_memory : (r : Result (Bor (List User)) Refusal) → IfErr r (λ why. why ≡ refusal.File error.Memory) → IfErr (table_lent r) (λ why. why ≡ refusal.File error.Memory)
lent_memory (Ok users) h = tt
lent_memory (Err why) h = h
