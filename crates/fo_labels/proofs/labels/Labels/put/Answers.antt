use Rattle.std.proofs.Common.{◌<◌, length, arith}
use Rattle.fo_image.specs.Usable.{is_usable}
use Rattle.fo_labels.proofs.Grouping.{floors-set}
use Rattle.fo_labels.proofs.Usable.{count-set}
use Rattle.fo_labels.proofs.labels.Labels.put.Goals as goal

pub overflow_add-self : goal.overflow_add-self
overflow_add-self c =
    let s = c.self.inside in
    let inside : c.args.place < length s.labels.items = rw (← c.self.view_is) at c.requires in
    let n = count-set (is_usable s.low) s.labels.items c.args.place _ _ c.args.label c.index.result.now inside c.index.ensures c.one_if_usable-was.ensures c.one_if_usable-is.ensures in
    omega arith

pub invariant_of-self : goal.invariant_of-self
invariant_of-self c =
    let s = c.self.inside in
    let inside : c.args.place < length s.labels.items = rw (← c.self.view_is) at c.requires in
    let n = count-set (is_usable s.low) s.labels.items c.args.place _ _ c.args.label c.index.result.now inside c.index.ensures c.one_if_usable-was.ensures c.one_if_usable-is.ensures in
    record {
      floors = rw c.set.ensures (floors-set s.labels.items s.floors c.args.place c.least_floor-least.result c.args.label c.self.invariant.floors (rw (c.part.ensures, c.deref.ensures.value) at c.least_floor-least.ensures));
      counted = rw c.self.invariant.counted n.has;
      fits = c.self.invariant.fits;
    }
