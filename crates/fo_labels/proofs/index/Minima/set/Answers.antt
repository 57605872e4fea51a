use Rattle.std.proofs.Common.{◌<◌, length-take, arith}
use Rattle.std.proofs.lemmas.Grind.{common_steps}
use Rattle.fo_labels.proofs.Leaves.{leaves-set}
use Rattle.fo_labels.proofs.index.Minima.set.Goals as goal

pub returns : goal.returns
returns c =
    let s = c.self.inside in
    let inside : c.args.at < s.len = omega (arith, simp length-take at (rw (← c.self.view_is) at c.requires)) in
    let h = leaves-set s.leaves s.len c.args.at c.args.value s.tree.items c.raise.new.tree inside (rw c.deref_mut.ensures.value at c.raise.ensures.kept) in
    rw (← c.self.view_is) (grind (arith, common_steps, h))
