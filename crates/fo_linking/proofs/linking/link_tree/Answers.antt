use Rattle.std.proofs.Common.{sym, ◌∙◌, arith}
use Rattle.fo_linking.proofs.Joining.{joins_none, looks_none, reaches_none, ready_able, top_reached}
use Rattle.fo_linking.proofs.linking.link_tree.Goals as goal

pub link_pointer-requires : goal.link_pointer-requires
link_pointer-requires c = record { able = ready_able _ c.requires.none c.requires.ready }

pub returns-clause-joins : goal.returns-clause-joins
returns-clause-joins c =
    let f = c.args.facts.now in
    let t = c.args.order.now in
    let h = c.args.buffers.now in
    let r = c.args.labels.now in
    let p = c.link_pointer.ensures in
    let l = c.link_listed.ensures in
    let none = sym c.args.links.now.ok.0 ∙ c.requires.none in
    record {
      joins = l.grows.joins f t (p.grows.joins f t (joins_none h f t));
      linked = λ b e. l.grows.stays b (p.linked b e);
      below = l.looked f (p.grows.looks r f 0 (omega arith) (looks_none h r f c.args.links.now.items 0));
      only = (l.only f c.args.to (p.only r f c.args.to (top_reached h r f c.args.to) (reaches_none h r c.args.to f c.args.links.now.items none))).each;
    }
