use Rattle.std.proofs.Common.{◌≡◌, false, sym, ap, ◌∙◌}
use Rattle.fo_facts.specs.declared.fact.Fact.{Fact}
use Rattle.fo_facts.specs.Known.{fact_at}
use Rattle.fo_linking.proofs.Joining.{grows_linked, items_dirty, linked_at, other, reaches_linked, stays_linked, turns_dirty}
use Rattle.fo_linking.proofs.linking.link_to.Goals as goal

pub returns-clause-grows : goal.returns-clause-grows
returns-clause-grows c =
    let f = c.args.facts.now in
    let n = c.link_one.new.facts in
    let o = c.args.order.now in
    let u = c.link_one.new.order in
    let h = c.args.buffers.now in
    let d = c.is_dirty-dirty in
    let made : (fact_at f c.args.at).linked ≡ false = ap (λ (x : Fact). x.linked) (sym c.get.ensures) ∙ c.if-get.false in
    grows_linked h f n o u c.args.links.now.items c.push_reserved.new.self.items c.args.at made
    (items_dirty h f n o u c.args.at d.result d.ensures c.link_one.ensures.items)
    (turns_dirty h f n o u c.args.at d.result d.ensures c.link_one.ensures.turns)
    c.push_reserved.ensures.items c.requires

pub returns-clause-only : goal.returns-clause-only
returns-clause-only c = λ region old to reached r.
    let f = c.args.facts.now in
    let n = c.link_one.new.facts in
    let o = c.args.order.now in
    let u = c.link_one.new.order in
    let h = c.args.buffers.now in
    let d = c.is_dirty-dirty in
    let made : (fact_at f c.args.at).linked ≡ false = ap (λ (x : Fact). x.linked) (sym c.get.ensures) ∙ c.if-get.false in
    let items = items_dirty h f n o u c.args.at d.result d.ensures c.link_one.ensures.items in
    let turns = turns_dirty h f n o u c.args.at d.result d.ensures c.link_one.ensures.turns in
    reaches_linked c.args.links.now.items c.push_reserved.new.self.items c.args.at made
    (linked_at h f n o u c.args.at made items turns)
    (stays_linked h f n o u c.args.at made items turns)
    (other h f n o u c.args.at made items turns)
    c.push_reserved.ensures.items reached r
