use Rattle.std.proofs.Common.{◌≡◌, ◌++◌, take, drop}
use Rattle.nine_fids.specs.Fids.{with_fid}
use Rattle.nine_fids.proofs.fids.put_fid.Given as goal

abbrev pub invariant-loop-i : goal.invariant-loop-i
invariant-loop-i l = record { same : l.fids.items ≡ l.fn.fids.items; rest : take l.i l.fids.items ++ with_fid l.fid (drop l.i l.fids.items) ≡ with_fid l.fid l.fids.items }
