use Rattle.std.proofs.Common.{◌≡◌, ◌++◌, take, drop}
use Rattle.nine_fids.specs.Fids.{without}
use Rattle.nine_fids.proofs.fids.remove_fid.Given as goal

abbrev pub invariant-loop-i : goal.invariant-loop-i
invariant-loop-i l = record { same : l.fids.items ≡ l.fn.fids.items; rest : take l.i l.fids.items ++ without l.number (drop l.i l.fids.items) ≡ without l.number l.fids.items }
