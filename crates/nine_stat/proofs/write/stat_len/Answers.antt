use Rattle.std.proofs.Common.{ap, length, arith}
use Rattle.nine_stat.proofs.Records.{spelling_len}
use Rattle.nine_stat.proofs.write.stat_len.Goals as goal

pub returns : goal.returns
returns c = omega (arith, spelling_len c.args.stat.now, ap length c.as_slice.ensures, ap length c.as_slice-2.ensures, ap length c.as_slice-3.ensures, ap length c.as_slice-4.ensures)
