use Rattle.std.proofs.Common.{◌≡◌, ◌≤◌, take}
use Rattle.fo_check_labels.specs.Known.{reached}
use Rattle.fo_check_labels.proofs.labels.Labels.used.Given as goal

abbrev pub invariant-loop-k : goal.invariant-loop-k
invariant-loop-k l = record {
  count : l.used ≡ reached (take l.k-index l.self.known.items);
  most : l.used ≤ l.k-index;
}
