use Rattle.std.proofs.Common.{◌<◌, length, refl, arith, ap}
use Rattle.fo_disk.specs.Disk.{DiskState}
use Rattle.fo_mind.specs.MindParts.{parts}
use Rattle.fo_mind.proofs.Keeping.{may_bring, holding_brought, waiting_brought, placed_owed, owing_owed, roomy_owed}
use Rattle.fo_mind.proofs.Getting.{source_brought, pinned_brought, marks_owed, brings_brought}
use Rattle.fo_mind.proofs.Coming.{comes_brought}
use Rattle.fo_mind.proofs.Turning.{turning_brought}
use Rattle.fo_facts.specs.Known.{fact_at, owing_as}
use Rattle.fo_mind.proofs.Making.{making_noted}
use Rattle.fo_mind.proofs.Standing.{links_set, root_set, standing_brought}
use Rattle.fo_mind.proofs.Changing.{changing_brought}
use Rattle.fo_mind.proofs.mind.Mind.bring_in.Goals as goal

pub invariant_of-self-clause-placed : goal.invariant_of-self-clause-placed
invariant_of-self-clause-placed g c =
    let self = c.args.self.now in
    let n = self.placed.fact_count in
    let b = c.requires.block.1 in
    let lt : c.args.at < length self.facts = omega (arith, b, n) in
    placed_owed self.facts c.owe.new.self c.args.at c.args.rank lt c.owe.ensures self.placed

pub invariant_of-self-clause-holding : goal.invariant_of-self-clause-holding
invariant_of-self-clause-holding g c =
    holding_brought c.requires.block c.requires.kind c.requires.kept c.bring.ensures.others (may_bring c.bring.result c.bring.ensures.ok c.bring.ensures.err) c.args.self.now.holding

pub invariant_of-self-clause-waiting : goal.invariant_of-self-clause-waiting
invariant_of-self-clause-waiting g c = waiting_brought c.requires.none c.bring.ensures.others c.args.self.now.waiting

pub invariant_of-self-clause-owing : goal.invariant_of-self-clause-owing
invariant_of-self-clause-owing g c =
    let self = c.args.self.now in
    let n = self.placed.fact_count in
    let b = c.requires.block.1 in
    let lt : c.args.at < length self.facts = omega (arith, b, n) in
    owing_owed self.facts c.owe.new.self c.args.at c.args.rank lt c.owe.ensures c.bring.ensures.others.held self.owing

pub invariant_of-self-clause-roomy : goal.invariant_of-self-clause-roomy
invariant_of-self-clause-roomy g c =
    let self = c.args.self.now in
    let n = self.placed.fact_count in
    let b = c.requires.block.1 in
    let lt : c.args.at < length self.facts = omega (arith, b, n) in
    roomy_owed self.facts c.owe.new.self c.args.at c.args.rank lt c.owe.ensures c.requires.left c.bring.ensures.others.room self.roomy

pub returns-clause-here : goal.returns-clause-here
returns-clause-here g c = pinned_brought _ _ _ _ c.args.at _ _ c.bring.result c.bring.ensures.ok

pub returns-clause-source : goal.returns-clause-source
returns-clause-source g c = source_brought _ _ _ _ c.args.at _ _ c.bring.result c.requires.none c.bring.ensures.ok

pub returns-clause-brings : goal.returns-clause-brings
returns-clause-brings g c =
    let self = c.args.self.now in
    let n = self.placed.fact_count in
    let b = c.requires.block.1 in
    let lt : c.args.at < length self.facts = omega (arith, b, n) in
    brings_brought (parts self (g.D.Disk.state c.args.main.now).holds (g.D.Disk.faults c.args.main.now)) _ c.args.at (ap (λ (s : DiskState). s.holds) c.bring.ensures.state) c.bring.ensures.later refl
    (marks_owed self.facts c.owe.new.self c.args.at c.args.rank lt c.owe.ensures)
    c.requires.none c.bring.ensures.others (may_bring c.bring.result c.bring.ensures.ok c.bring.ensures.err)

pub returns-clause-comes : goal.returns-clause-comes
returns-clause-comes g c = comes_brought (g.D.Disk.state c.args.main.now).holds c.requires.none (may_bring c.bring.result c.bring.ensures.ok c.bring.ensures.err) c.bring.ensures.clean

pub invariant_of-self-clause-turning : goal.invariant_of-self-clause-turning
invariant_of-self-clause-turning g c =
    let self = c.args.self.now in
    let n = self.placed.fact_count in
    let b = c.requires.block.1 in
    let lt : c.args.at < length self.facts = omega (arith, b, n) in
    turning_brought self.facts c.owe.new.self c.args.rank lt c.owe.ensures c.requires.block c.requires.none c.bring.ensures.others (may_bring c.bring.result c.bring.ensures.ok c.bring.ensures.err) self.turning

pub invariant_of-self-clause-making : goal.invariant_of-self-clause-making
invariant_of-self-clause-making g c =
    let self = c.args.self.now in
    let n = self.placed.fact_count in
    let b = c.requires.block.1 in
    let lt : c.args.at < length self.facts = omega (arith, b, n) in
    making_noted self.facts c.owe.new.self c.args.at (owing_as c.args.rank (fact_at self.facts c.args.at)) lt c.owe.ensures refl (λ _ _. refl) self.making

pub invariant_of-self-clause-standing : goal.invariant_of-self-clause-standing
invariant_of-self-clause-standing g c =
    let self = c.args.self.now in
    let n = self.placed.fact_count in
    let b = c.requires.block.1 in
    let lt : c.args.at < length self.facts = omega (arith, b, n) in
    standing_brought c.requires.none c.bring.ensures.others.held (links_set self.facts c.owe.new.self c.args.at (owing_as c.args.rank (fact_at self.facts c.args.at)) lt c.owe.ensures refl) self.standing

pub invariant_of-self-clause-root_in : goal.invariant_of-self-clause-root_in
invariant_of-self-clause-root_in g c =
    let self = c.args.self.now in
    let n = self.placed.fact_count in
    let b = c.requires.block.1 in
    let lt : c.args.at < length self.facts = omega (arith, b, n) in
    root_set self.facts c.owe.new.self c.args.at (owing_as c.args.rank (fact_at self.facts c.args.at)) lt c.owe.ensures refl self.root_in

pub invariant_of-self-clause-changing : goal.invariant_of-self-clause-changing
invariant_of-self-clause-changing g c =
    changing_brought c.requires.live c.bring.ensures.others (may_bring c.bring.result c.bring.ensures.ok c.bring.ensures.err) c.args.self.now.changing
