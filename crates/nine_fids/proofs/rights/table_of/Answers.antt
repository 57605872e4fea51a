use Rattle.std.proofs.Common.{◌≡◌, ◌≤◌, ◌^◌, [], length, ap, sym, ◌∙◌}
use Rattle.std.specs.Prelude.{unwrap_or, option_and_then}
use Rattle.std.proofs.lemmas.Result.{err_from_is_err_and}
use Rattle.fo_users.specs.Found.{table_in}
use Rattle.fo_users.specs.Table.{standard_table}
use Rattle.nine_fids.specs.Rights.{table_of, users_file}
use Rattle.nine_fids.specs.Spelled.{table_for}
use Rattle.nine_fids.proofs.Missing.{ok_same}
use Rattle.nine_fids.proofs.Seeing.{looks_failed, looks_memory}
use Rattle.nine_fids.proofs.Spelling.{lent_lines, lent_memory, lent_spelled, lent_table, no_file, none_within}
use Rattle.nine_fids.proofs.rights.table_of.Goals as goal

pub of-requires : goal.of-requires
of-requires g c = rw (c.unwrap_or-bytes.ensures, c.new-2.ensures, c.new.ensures.items) (none_within c.in_ok-found.found c.in_ok-found.ensures.within)

pub returns-in_err-found-clause-looks : goal.returns-in_err-found-clause-looks
returns-in_err-found-clause-looks g c =
    let p = err_from_is_err_and c.from_residual.result c.from_residual.ensures.1 in
    rw (p.1, p.2) (looks_failed _ _ (λ e w. users_file e w) _ _ c.in_err-found.ensures.looks)

pub returns-clause-looks : goal.returns-clause-looks
unfolding table_of
returns-clause-looks g c =
    let bytes = c.unwrap_or-bytes.result in
    let is : bytes ≡ unwrap_or c.in_ok-found.found [] = c.unwrap_or-bytes.ensures ∙ ap (unwrap_or c.in_ok-found.found) (c.new-2.ensures ∙ c.new.ensures.items) in
    looks_memory _ _ table_of (table_for bytes) _
    (λ h. ap (λ u. unwrap_or (option_and_then table_in u) standard_table) (ok_same _ _ (c.in_ok-found.ensures.looks.answer h)) ∙ no_file c.in_ok-found.found ∙ ap table_for (sym is))
    c.users_file.ensures.looks.world (lent_table bytes c.of.result c.of.ensures.users) (lent_memory c.of.result c.of.ensures.memory)

pub returns-clause-spelled : goal.returns-clause-spelled
returns-clause-spelled g c =
    let within : length c.unwrap_or-bytes.result ≤ 2 ^ 16 = rw (c.unwrap_or-bytes.ensures, c.new-2.ensures, c.new.ensures.items) (none_within c.in_ok-found.found c.in_ok-found.ensures.within) in
    lent_spelled c.unwrap_or-bytes.result c.of.result within c.of.ensures.users

pub returns-clause-lines : goal.returns-clause-lines
returns-clause-lines g c = lent_lines c.unwrap_or-bytes.result c.of.result c.of.ensures.users
