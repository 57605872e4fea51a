use Rattle.std.proofs.Common.{◌+◌, ◌≤◌, [], length, sym, ap, ◌∙◌, subst, Vec, Global, arith}
use Rattle.std.specs.Vec.{vec_len, vec_capacity}
use Rattle.fo_labels.specs.Region.{usable_count}
use Rattle.fo_rooms.specs.Needed.{IsEnough}
use Rattle.fo_waits.specs.declared.listed.Clearing.{Clearing}
use Rattle.fo_waits.specs.declared.listed.Wait.{Wait}
use Rattle.fo_mind.specs.MindParts.{parts}
use Rattle.fo_mind.specs.Parts.{Parts}
use Rattle.fo_mind.specs.Roomed.{Grown}
use Rattle.fo_mind.proofs.Growing.{grown_none, making_enough, roomed, roomy_enough}
use Rattle.fo_mind.proofs.mind.Mind.enlarge.Goals as goal

pub returns-in_default-make_lists-clause-err : goal.returns-in_default-make_lists-clause-err
returns-in_default-make_lists-clause-err c = λ disk faults. grown_none (parts c.args.self.now disk faults) (parts c.make_lists.new.self disk faults) (c.make_lists.ensures.same disk faults)

pub returns-in_default-make_parts-clause-err : goal.returns-in_default-make_parts-clause-err
returns-in_default-make_parts-clause-err c = λ disk faults. subst (λ (p : Parts). Grown p (parts c.make_parts.new.self disk faults)) (c.make_lists.ensures.same disk faults) (c.make_parts.ensures.grown disk faults)

pub invariant_of-self-2-clause-roomy : goal.invariant_of-self-2-clause-roomy
invariant_of-self-2-clause-roomy c =
    let self = c.args.self.now in
    let m = c.make_parts.new.self in
    let one = c.make_lists.ensures.same [] 0 in
    let all = (c.make_parts.ensures.grown [] 0).rest in
    let enough = subst (λ (p : Parts). IsEnough p.facts c.len.result c.args.wants.now c.in-Some.rooms) (sym (all ∙ ap (λ (q : Parts). record q { held = m.buffers; turns = m.order; walk = m.walk; links = m.links }) one)) c.in-Some.ensures in
    let usable = subst (λ (p : Parts). c.args.wants.now.blocks ≤ usable_count p.one.low p.region) (sym (all ∙ ap (λ (q : Parts). record q { held = m.buffers; turns = m.order; walk = m.walk; links = m.links }) one)) c.requires.usable in
    let n = c.len.ensures in
    let k = self.clears.ok.0 in
    let cs = ap (λ (p : Parts). length p.clears) all ∙ ap (λ (p : Parts). length p.clears) one in
    roomy_enough m.facts c.len.result c.args.wants.now c.in-Some.rooms enough c.in-Ok-make_parts.ensures.ok m.labels m.one.low (c.args.wants.now.removals + length m.clears.items) usable (omega (arith, n, k, cs))

pub invariant_of-self-2-clause-making : goal.invariant_of-self-2-clause-making
invariant_of-self-2-clause-making c =
    let self = c.args.self.now in
    let m = c.make_parts.new.self in
    let one = c.make_lists.ensures.same [] 0 in
    let all = (c.make_parts.ensures.grown [] 0).rest in
    let enough = subst (λ (p : Parts). IsEnough p.facts c.len.result c.args.wants.now c.in-Some.rooms) (sym (all ∙ ap (λ (q : Parts). record q { held = m.buffers; turns = m.order; walk = m.walk; links = m.links }) one)) c.in-Some.ensures in
    let n = c.len.ensures in
    let k = self.clears.ok.0 in
    let cs = ap (λ (p : Parts). length p.clears) all ∙ ap (λ (p : Parts). length p.clears) one in
    making_enough m.facts c.len.result c.args.wants.now c.in-Some.rooms enough c.in-Ok-make_parts.ensures.ok (c.args.wants.now.removals + length m.clears.items) (omega (arith, n, k, cs)) m.making

pub invariant_of-self-2-clause-awaits : goal.invariant_of-self-2-clause-awaits
invariant_of-self-2-clause-awaits c =
    let a = c.in-Ok.ensures.ok.0 in
    let n = ap (λ (w : Vec Wait Global). vec_len w) c.make_parts.ensures.lists.0 in
    let k = ap (λ (w : Vec Wait Global). vec_capacity w) c.make_parts.ensures.lists.0 in
    let one = c.make_lists.ensures.same [] 0 in
    let all = (c.make_parts.ensures.grown [] 0).rest in
    let cs = ap (λ (p : Parts). length p.clears) all ∙ ap (λ (p : Parts). length p.clears) one in
    let e = c.in-Some.ensures.removals in
    let m = c.len.ensures in
    let o = c.args.self.now.clears.ok.0 in
    omega (arith, a, n, k, cs, e, m, o)

pub invariant_of-self-2-clause-clears_more : goal.invariant_of-self-2-clause-clears_more
invariant_of-self-2-clause-clears_more c =
    let a = c.in-Ok.ensures.ok.1 in
    let n = ap (λ (w : Vec Clearing Global). vec_len w) c.make_parts.ensures.lists.1 in
    let k = ap (λ (w : Vec Clearing Global). vec_capacity w) c.make_parts.ensures.lists.1 in
    let e = c.in-Some.ensures.removals in
    omega (arith, a, n, k, e)

pub returns-clause-ok : goal.returns-clause-ok
returns-clause-ok c = λ disk faults.
    let wants = c.args.wants.now in
    roomed (parts c.args.self.now disk faults) (parts c.make_parts.new.self disk faults) wants.blocks wants.pins wants.removals
    (subst (λ (p : Parts). Grown p (parts c.make_parts.new.self disk faults)) (c.make_lists.ensures.same disk faults) (c.make_parts.ensures.grown disk faults))
