use Rattle.std.proofs.Common.{◌+◌, List, length, sym, ap, ◌∙◌, subst, arith}
use Rattle.fo_waits.specs.declared.listed.Clearing.{Clearing}
use Rattle.fo_waits.specs.declared.listed.Wait.{Wait}
use Rattle.fo_mind.specs.MindParts.{parts}
use Rattle.fo_mind.specs.Sound.{Clearable, Making, Roomy, Standing, Waiting}
use Rattle.fo_mind.proofs.mind.Mind.make_lists.Goals as goal

pub invariant_of-self-clause-waiting : goal.invariant_of-self-clause-waiting
invariant_of-self-clause-waiting c = let self = c.args.self.now in subst (λ (ws : List Wait). Waiting self.labels self.buffers ws) (sym c.grow_lists.ensures.waits.0) self.waiting

pub invariant_of-self-clause-clearable : goal.invariant_of-self-clause-clearable
invariant_of-self-clause-clearable c = let self = c.args.self.now in subst (λ (cs : List Clearing). Clearable self.labels self.one.low self.one.high cs) (sym c.grow_lists.ensures.clears.0) self.clearable

pub invariant_of-self-clause-roomy : goal.invariant_of-self-clause-roomy
invariant_of-self-clause-roomy c = let self = c.args.self.now in subst (λ (cs : List Clearing). Roomy self.buffers self.order self.labels self.facts self.one.low self.spare self.pins (self.room + length cs)) (sym c.grow_lists.ensures.clears.0) self.roomy

pub invariant_of-self-clause-making : goal.invariant_of-self-clause-making
invariant_of-self-clause-making c = let self = c.args.self.now in subst (λ (cs : List Clearing). Making self.facts self.spare (self.room + length cs) self.links self.queue.room) (sym c.grow_lists.ensures.clears.0) self.making

pub invariant_of-self-clause-awaits : goal.invariant_of-self-clause-awaits
invariant_of-self-clause-awaits c =
    let a = c.args.self.now.awaits in
    let n = c.grow_lists.ensures.waits.1 in
    let k = c.grow_lists.ensures.waits.2 in
    let m = ap length c.grow_lists.ensures.clears.0 in
    omega (arith, a, n, k, m)

pub invariant_of-self-clause-clears_more : goal.invariant_of-self-clause-clears_more
invariant_of-self-clause-clears_more c =
    let a = c.args.self.now.clears_more in
    let n = c.grow_lists.ensures.clears.1 in
    let k = c.grow_lists.ensures.clears.2 in
    omega (arith, a, n, k)

pub returns-clause-same : goal.returns-clause-same
returns-clause-same c = λ disk faults. let p = parts c.args.self.now disk faults in
    ap (λ (ws : List Wait). record p { waits = ws; clears = c.grow_lists.new.clears.items }) c.grow_lists.ensures.waits.0
    ∙ ap (λ (cs : List Clearing). record p { clears = cs }) c.grow_lists.ensures.clears.0

pub invariant_of-self-clause-standing : goal.invariant_of-self-clause-standing
invariant_of-self-clause-standing c = let self = c.args.self.now in subst (λ (cs : List Clearing). Standing self.buffers self.facts cs) (sym c.grow_lists.ensures.clears.0) self.standing
