use Rattle.fo_users.proofs.Finding.{found_table, spelled_table}
use Rattle.fo_users.proofs.laws.tables_are_found.Goals as goal

pub returns : goal.returns
returns c = λ bytes table. (spelled_table bytes table, found_table bytes table)
