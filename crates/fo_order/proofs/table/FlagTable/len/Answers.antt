use Rattle.std.proofs.Common.{sym}
use Rattle.fo_order.proofs.Tabling.{table_count}
use Rattle.fo_order.proofs.table.FlagTable.len.Goals as goal

pub returns : goal.returns
returns c = rw (← c.self.view_is, c.len.ensures) (sym (table_count c.self.inside c.self.invariant))
