use Rattle.std.proofs.Common.{◌≤◌, arith}
use Rattle.std.proofs.lemmas.Grind.{get_or_default_zero}
use Rattle.std.proofs.lemmas.Nat.{pow_pos}
use Rattle.fo_labels.proofs.Leaves.{position-some, position-none, position-root}
use Rattle.fo_labels.proofs.index.Minima.first_within.Goals as goal

pub returns-then-index-bound : goal.returns-then-index-bound
returns-then-index-bound c =
    let i = c.self.invariant in
    let s = c.self.inside in
    let some : 1 ≤ s.leaves = omega (arith, pow_pos s.levels) in
    rw (← c.self.view_is) (position-root s.levels s.leaves s.len c.args.bound s.tree.items i.leaves (omega arith) i.fits i.mins (omega (arith, get_or_default_zero s.tree.items 1 c.index.result.now)))

pub returns-then-at-self : goal.returns-then-at-self
returns-then-at-self c =
    let i = c.self.invariant in
    let s = c.self.inside in
    rw (← c.self.view_is) (position-some s.levels s.leaves s.len c.args.bound c.leftmost.result s.tree.items i.leaves (omega arith) i.fits (rw (c.from-bound.ensures, c.deref.ensures.value) at c.leftmost.ensures) c.if-at-self.true)

pub returns-else-at-self : goal.returns-else-at-self
returns-else-at-self c =
    let i = c.self.invariant in
    let s = c.self.inside in
    rw (← c.self.view_is) (position-none s.levels s.leaves s.len c.args.bound c.leftmost.result s.tree.items i.leaves (omega arith) i.fits (rw (c.from-bound.ensures, c.deref.ensures.value) at c.leftmost.ensures) c.if-at-self.false)
