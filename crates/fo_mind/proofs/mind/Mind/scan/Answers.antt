use Rattle.std.proofs.Common.{refl, sym, ◌∙◌, ap}
use Rattle.fo_disk.specs.Disk.{DiskState}
use Rattle.fo_mind.specs.MindParts.{parts}
use Rattle.fo_mind.specs.Laws.{beyond}
use Rattle.fo_mind.proofs.Keeping.{none_held, holding_same, waiting_same, owing_same, roomy_same}
use Rattle.fo_mind.proofs.Getting.{got_clean, from_held, from_glance, nothing_brought, brings_same}
use Rattle.fo_mind.proofs.Results.{on_ok, damaged}
use Rattle.fo_mind.proofs.Coming.{comes_at_once, comes_same}
use Rattle.fo_mind.proofs.Turning.{same_held}
use Rattle.fo_mind.proofs.Standing.{standing_same}
use Rattle.fo_mind.proofs.Changing.{changing_same}
use Rattle.fo_mind.proofs.mind.Mind.scan.Goals as goal

pub returns-then-is_held-clause-got : goal.returns-then-is_held-clause-got
returns-then-is_held-clause-got g c = on_ok c.copy_out.result (λ f. f _ _) c.copy_out.ensures.got

pub returns-then-is_held-clause-source : goal.returns-then-is_held-clause-source
returns-then-is_held-clause-source g c = on_ok c.copy_out.result (from_held (g.D.Disk.state c.args.main.now).holds c.args.at c.args.self.now.buffers _) c.copy_out.ensures.is

pub returns-then-is_held-clause-brings : goal.returns-then-is_held-clause-brings
returns-then-is_held-clause-brings g c = nothing_brought _ c.args.at

pub returns-then-is_held-clause-cause : goal.returns-then-is_held-clause-cause
returns-then-is_held-clause-cause g c = damaged _ _ _ c.args.at c.copy_out.result c.copy_out.ensures.cause

pub glance-requires-clause-none : goal.glance-requires-clause-none
glance-requires-clause-none g c = none_held _ (sym c.is_held.ensures ∙ c.if-is_held.false)

pub invariant_of-self-clause-holding : goal.invariant_of-self-clause-holding
invariant_of-self-clause-holding g c = holding_same c.glance.ensures.held c.args.self.now.holding

pub invariant_of-self-clause-waiting : goal.invariant_of-self-clause-waiting
invariant_of-self-clause-waiting g c = waiting_same c.glance.ensures.held c.args.self.now.waiting

pub invariant_of-self-clause-owing : goal.invariant_of-self-clause-owing
invariant_of-self-clause-owing g c = owing_same c.glance.ensures.held c.args.self.now.owing

pub invariant_of-self-clause-roomy : goal.invariant_of-self-clause-roomy
invariant_of-self-clause-roomy g c = roomy_same c.glance.ensures.room c.args.self.now.roomy

pub returns-clause-got : goal.returns-clause-got
returns-clause-got g c =
    let self = c.args.self.now in
    let none = none_held _ (sym c.is_held.ensures ∙ c.if-is_held.false) in
    on_ok c.glance.result (λ o. got_clean (record (parts self (g.D.Disk.state c.glance.new.main).holds (g.D.Disk.faults c.glance.new.main)) { held = c.glance.new.buffers }) self.first self.count c.args.at c.args.kind c.requires.kind (beyond c.args.at self.first self.placed.begins c.requires.block.0) c.args.rank _ o.seen.bytes (c.glance.ensures.held c.args.at ∙ none) o.seen.clean o.gets) c.glance.ensures.ok

pub returns-clause-source : goal.returns-clause-source
returns-clause-source g c =
    let none = none_held _ (sym c.is_held.ensures ∙ c.if-is_held.false) in
    on_ok c.glance.result (λ o. from_glance none o) c.glance.ensures.ok

pub returns-clause-brings : goal.returns-clause-brings
returns-clause-brings g c =
    brings_same (parts c.args.self.now (g.D.Disk.state c.args.main.now).holds (g.D.Disk.faults c.args.main.now)) _ c.args.at (ap (λ (s : DiskState). s.holds) c.glance.ensures.state) c.glance.ensures.later refl refl c.glance.ensures.held

pub returns-then-is_held-clause-comes : goal.returns-then-is_held-clause-comes
returns-then-is_held-clause-comes g c = comes_at_once (g.D.Disk.state c.args.main.now).holds c.args.at c.args.self.now.buffers

pub returns-clause-comes : goal.returns-clause-comes
returns-clause-comes g c = comes_same (g.D.Disk.state c.args.main.now).holds c.args.at (c.glance.ensures.held c.args.at) c.glance.ensures.clean

pub invariant_of-self-clause-turning : goal.invariant_of-self-clause-turning
invariant_of-self-clause-turning g c = same_held c.glance.ensures.held c.args.self.now.turning

pub invariant_of-self-clause-standing : goal.invariant_of-self-clause-standing
invariant_of-self-clause-standing g c = standing_same c.glance.ensures.held c.args.self.now.standing

pub invariant_of-self-clause-changing : goal.invariant_of-self-clause-changing
invariant_of-self-clause-changing g c = changing_same c.glance.ensures.held c.args.self.now.changing
