use Rattle.std.proofs.Common.{◌<◌, List, length, slice_index_or, sym, ap, subst, ◌∙◌}
use Rattle.fo_order.specs.declared.marks.Flags.{Flags}
use Rattle.fo_order.specs.Table.{unpacked}
use Rattle.fo_order.proofs.Tabling.{table_get, within}
use Rattle.fo_order.proofs.table.FlagTable.get.Goals as goal

pub index-requires : goal.index-requires
index-requires c = (within c.self.inside c.self.invariant c.args.at (subst (λ (l : List Flags). c.args.at < length l) (sym c.self.view_is) c.requires)).0

pub index-requires-2 : goal.index-requires-2
index-requires-2 c = (within c.self.inside c.self.invariant c.args.at (subst (λ (l : List Flags). c.args.at < length l) (sym c.self.view_is) c.requires)).1

pub returns : goal.returns
returns c =
    let lt = subst (λ (l : List Flags). c.args.at < length l) (sym c.self.view_is) c.requires in
    let is = table_get c.self.inside.standings.items c.self.inside.ranks.items c.args.at c.index.result.now c.index-2.result.now c.self.invariant.even (subst (λ n. c.args.at < n) c.self.inside.ranks.ok.0 (within c.self.inside c.self.invariant c.args.at lt).1) in
    rw (← c.self.view_is, c.unpacked.ensures) (sym (is ∙ ap (λ s. unpacked s (slice_index_or c.self.inside.ranks.items c.args.at c.index-2.result.now)) (sym c.index.ensures) ∙ ap (λ n. unpacked c.index.result.now n) (sym c.index-2.ensures)))
