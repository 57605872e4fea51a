use Rattle.fo_order.proofs.Tabling.{table_new}
use Rattle.fo_order.proofs.table.FlagTable.new.Goals as goal

pub returns : goal.returns
returns c = rw (c.in_ok-vec.ensures.items_if_clones_equal (λ y e. e), c.in_ok-vec-2.ensures.items_if_clones_equal (λ y e. e)) (table_new c.args.count)
