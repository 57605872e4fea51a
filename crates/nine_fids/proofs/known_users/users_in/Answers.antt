use Rattle.std.proofs.Common.{◌≡◌, None, sym, ap, ◌∙◌}
use Rattle.std.specs.Prelude.{unwrap_or}
use Rattle.fo_users.specs.Found.{table_in}
use Rattle.fo_users.specs.Table.{standard_table}
use Rattle.fo_users.proofs.Finding.{found_table, spelled_table}
use Rattle.nine_fids.proofs.Missing.{none_if}
use Rattle.nine_fids.proofs.known_users.users_in.Goals as goal

pub returns-in-Ok-clause-users : goal.returns-in-Ok-clause-users
returns-in-Ok-clause-users c =
    sym (ap (λ o. unwrap_or o standard_table) (found_table c.args.bytes.now c.in-Ok.users c.in-Ok.ensures.found))

pub returns-in_ok-standard-in-Err-BadUsers-clause-users : goal.returns-in_ok-standard-in-Err-BadUsers-clause-users
returns-in_ok-standard-in-Err-BadUsers-clause-users c =
    let none : table_in c.args.bytes.now ≡ None = none_if _ (λ t is. let never = rw c.in-Err-BadUsers.field-0-is at c.in-Err-BadUsers.ensures.only t (spelled_table c.args.bytes.now t is) in absurd cc) in
    c.in_ok-standard-in-Err-BadUsers.ensures ∙ ap (λ o. unwrap_or o standard_table) (sym none)
