use Rattle.std.proofs.Common.{refl}
use Rattle.fo_vacput.proofs.Roots.{root_at}
use Rattle.fo_vacput.proofs.root.read_vac_root.Goals as goal

pub returns-then-bytes-ne300 : goal.returns-then-bytes-ne300
returns-then-bytes-ne300 c =
    record { found = tt; only = λ v s. absurd (c.if-bytes-ne300.true (root_at c.args.bytes.now v s).len); refused = (refl, λ v s. c.if-bytes-ne300.true (root_at c.args.bytes.now v s).len) }
