use Rattle.std.proofs.Common.{arith}
use Rattle.fo_labels.proofs.Grouping.{floors-free}
use Rattle.fo_labels.proofs.Usable.{count-free}
use Rattle.fo_labels.proofs.labels.Labels.new.Goals as goal

pub invariant_of-result : goal.invariant_of-result
invariant_of-result c =
    let all = c.in_ok-labels.ensures.items_if_clones_equal (λ y e. e) in
    record {
      floors = rw (all, c.in_ok-floors.ensures, c.groups_for.ensures) (floors-free _);
      counted = rw all (count-free _);
      fits = omega (arith, c.in_ok-labels.ensures.len);
    }
