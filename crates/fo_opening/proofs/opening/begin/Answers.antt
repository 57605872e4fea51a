use Rattle.fo_opening.proofs.Refusing.{refuses_made}
use Rattle.fo_opening.proofs.opening.begin.Goals as goal

pub returns-in-Ok-clause-refuses : goal.returns-in-Ok-clause-refuses
returns-in-Ok-clause-refuses g c =
    let r = c.requires in
    let t = c.in-Ok.ensures.table in
    refuses_made c.args.count (g.D.Disk.state c.args.main.now).holds c.args.first.one c.in-Ok.labels c.make.result (record { begins = (r.few, r.header); bytes = c.args.first.block; has = r.one }) t.0 t.1 c.make.ensures.refuses
