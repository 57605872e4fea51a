use Rattle.std.proofs.Common.{◌≡◌, drop}
use Rattle.nine_fids.specs.Fids.{all_released}
use Rattle.nine_fids.proofs.fids.release_all.Given as goal

abbrev pub invariant-loop-fid : goal.invariant-loop-fid
invariant-loop-fid l = all_released (drop l.fid-index l.fids) l.exclusive.items ≡ all_released l.fids l.fn.exclusive.items
