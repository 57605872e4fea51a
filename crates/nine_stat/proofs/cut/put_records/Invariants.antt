use Rattle.std.proofs.Common.{◌≡◌, ◌++◌, take}
use Rattle.std.specs.List.{flat_map}
use Rattle.nine_stat.specs.Stat.{spelling}
use Rattle.nine_stat.proofs.cut.put_records.Given as goal

abbrev pub invariant-loop-stat : goal.invariant-loop-stat
invariant-loop-stat l = l.out.items ≡ l.fn.out.items ++ flat_map spelling (take l.stat-index l.list)
