use Rattle.std.proofs.Common.{◌≡◌, ◌≤◌, take}
use Rattle.fo_check_labels.specs.Known.{leaked}
use Rattle.fo_check_labels.proofs.labels.Labels.leaked.Given as goal

abbrev pub invariant-loop-k : goal.invariant-loop-k
invariant-loop-k l = record {
  count : l.leaked ≡ leaked l.low (take l.k-index l.self.known.items);
  most : l.leaked ≤ l.k-index;
}
