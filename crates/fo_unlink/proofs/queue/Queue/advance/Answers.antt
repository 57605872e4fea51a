use Rattle.std.proofs.Common.{false, refl, sym, arith}
use Rattle.fo_unlink.specs.Pending.{Pending}
use Rattle.fo_unlink.proofs.Going.{begins, reads-again, goes-down, levels-first, start_level-le, way_some}
use Rattle.fo_unlink.proofs.Working as working
use Rattle.fo_unlink.proofs.queue.Queue.advance.Goals as goal

pub returns-in_default-innermost-clause-answer : goal.returns-in_default-innermost-clause-answer
returns-in_default-innermost-clause-answer c =
    let s = c.self.inside in
    let o : Pending = record { removals = s.removals.items; way = s.way; asked = s.asked; room = s.room } in
    let first = rw (← c.self.view_is) at c.in-Some.ensures in
    rw (← c.self.view_is) (begins c.args.settled o c.enter.new.self c.args.block.now c.in-Some.first c.start_level.result c.enter.result first c.if-not-settled.false c.in_default-innermost.ensures c.start_level.ensures (rw c.start_level.ensures (start_level-le s.removals.items c.in-Some.first c.self.invariant.kinds first)) c.enter.ensures.leaf c.enter.ensures.inner)

pub returns-then-not-asked-clause-answer : goal.returns-then-not-asked-clause-answer
returns-then-not-asked-clause-answer c =
    let s = c.self.inside in
    let o : Pending = record { removals = s.removals.items; way = s.way; asked = s.asked; room = s.room } in
    let first = rw (← c.self.view_is) at c.in-Some.ensures in
    let levels = levels-first s.way c.in-Some-innermost.frame c.self.invariant.levels c.in-Some-innermost.ensures in
    rw (← c.self.view_is) (reads-again c.args.settled o c.args.block.now c.in-Some.first c.in-Some-innermost.frame first c.if-not-settled.false c.in-Some-innermost.ensures c.if-not-asked.true levels.1)

pub overflow_add-slot : goal.overflow_add-slot
overflow_add-slot c = omega (arith, c.in-Some-next_target.ensures.within.1)

pub returns-in-Some-next_target-clause-answer : goal.returns-in-Some-next_target-clause-answer
returns-in-Some-next_target-clause-answer c =
    let s = c.self.inside in
    let o : Pending = record { removals = s.removals.items; way = s.way; asked = s.asked; room = s.room } in
    let m : Pending = record { removals = s.removals.items; way = c.push.new.self; asked = false; room = s.room } in
    let first = rw (← c.self.view_is) at c.in-Some.ensures in
    let levels = levels-first s.way c.in-Some-innermost.frame c.self.invariant.levels c.in-Some-innermost.ensures in
    rw (← c.self.view_is) (goes-down c.args.settled o m c.enter-in-Some-next_target.new.self c.args.block.now c.in-Some.first c.in-Some-innermost.frame c.in-Some-next_target.slot c.in-Some-next_target.at c.enter-in-Some-next_target.result first (c.self.invariant.whole (way_some s.way c.in-Some-innermost.frame c.in-Some-innermost.ensures) c.in-Some.first (sym first)) c.if-not-settled.false c.in-Some-innermost.ensures c.if-not-asked.false levels.0 c.in-Some-next_target.ensures (rw (c.push.ensures, c.pop.ensures) refl) c.enter-in-Some-next_target.ensures.leaf c.enter-in-Some-next_target.ensures.inner)

pub returns-in_default-innermost-clause-lowers : goal.returns-in_default-innermost-clause-lowers
returns-in_default-innermost-clause-lowers c =
    let s = c.self.inside in
    let o : Pending = record { removals = s.removals.items; way = s.way; asked = s.asked; room = s.room } in
    let first = rw (← c.self.view_is) at c.in-Some.ensures in
    rw (← c.self.view_is) (working.begins o c.enter.new.self c.in-Some.first c.start_level.result c.enter.result first c.in_default-innermost.ensures c.start_level.ensures (rw c.start_level.ensures (start_level-le s.removals.items c.in-Some.first c.self.invariant.kinds first)) c.enter.ensures.leaf c.enter.ensures.inner)

pub returns-then-not-asked-clause-lowers : goal.returns-then-not-asked-clause-lowers
returns-then-not-asked-clause-lowers c =
    let s = c.self.inside in
    let o : Pending = record { removals = s.removals.items; way = s.way; asked = s.asked; room = s.room } in
    let first = rw (← c.self.view_is) at c.in-Some.ensures in
    let levels = levels-first s.way c.in-Some-innermost.frame c.self.invariant.levels c.in-Some-innermost.ensures in
    rw (← c.self.view_is) (working.reads-again o c.in-Some.first c.in-Some-innermost.frame first c.in-Some-innermost.ensures c.if-not-asked.true levels.1)

pub returns-in-Some-next_target-clause-lowers : goal.returns-in-Some-next_target-clause-lowers
returns-in-Some-next_target-clause-lowers c =
    let s = c.self.inside in
    let o : Pending = record { removals = s.removals.items; way = s.way; asked = s.asked; room = s.room } in
    let m : Pending = record { removals = s.removals.items; way = c.push.new.self; asked = false; room = s.room } in
    let first = rw (← c.self.view_is) at c.in-Some.ensures in
    let levels = levels-first s.way c.in-Some-innermost.frame c.self.invariant.levels c.in-Some-innermost.ensures in
    let found = c.in-Some-next_target.ensures.within in
    rw (← c.self.view_is) (working.goes-down o m c.enter-in-Some-next_target.new.self c.in-Some.first c.in-Some-innermost.frame c.in-Some-next_target.slot c.in-Some-next_target.at c.enter-in-Some-next_target.result first c.in-Some-innermost.ensures c.if-not-asked.false levels.0 found.0 found.1 (rw (c.push.ensures, c.pop.ensures) refl) c.enter-in-Some-next_target.ensures.leaf c.enter-in-Some-next_target.ensures.inner)
