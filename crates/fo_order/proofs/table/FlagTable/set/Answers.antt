use Rattle.std.proofs.Common.{◌<◌, List, length, set, sym, ap, subst, ◌∙◌}
use Rattle.fo_order.specs.declared.marks.Flags.{Flags}
use Rattle.fo_order.specs.Table.{view_of}
use Rattle.fo_order.proofs.Tabling.{table_set, within}
use Rattle.fo_order.proofs.table.FlagTable.set.Goals as goal

pub index_mut-requires : goal.index_mut-requires
index_mut-requires c = (within c.self.inside c.self.invariant c.args.at (subst (λ (l : List Flags). c.args.at < length l) (sym c.self.view_is) c.requires)).0

pub index_mut-requires-2 : goal.index_mut-requires-2
index_mut-requires-2 c = (within c.self.inside c.self.invariant c.args.at (subst (λ (l : List Flags). c.args.at < length l) (sym c.self.view_is) c.requires)).1

pub returns : goal.returns
returns c =
    let is = table_set c.self.inside.standings.items c.self.inside.ranks.items c.args.at c.packed.result c.args.flags.rank in
    is ∙ ap (λ f. set (view_of c.self.inside) c.args.at f) (c.packed.ensures c.args.flags.rank) ∙ ap (λ l. set l c.args.at c.args.flags) c.self.view_is
