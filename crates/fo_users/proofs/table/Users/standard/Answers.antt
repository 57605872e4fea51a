use Rattle.std.proofs.Common.{refl}
use Rattle.fo_users.specs.Table.{standard_table, Spells}
use Rattle.fo_users.proofs.table.Users.standard.Goals as goal

pub returns-in-Ok : goal.returns-in-Ok
returns-in-Ok c =
    let spelled : Spells c.as_bytes.result.now standard_table = record { lines = refl; whole = refl; text = c.as_bytes.ensures.value } in
    c.in-Ok.ensures.only standard_table spelled
