use Rattle.std.proofs.Common.{◌≡◌, drop}
use Rattle.nine_fids.specs.Fids.{fid_of}
use Rattle.nine_fids.proofs.fids.fid_of.Given as goal

abbrev pub invariant-loop-fid : goal.invariant-loop-fid
invariant-loop-fid l = fid_of l.number (drop l.fid-index l.fids) ≡ fid_of l.number l.fids
