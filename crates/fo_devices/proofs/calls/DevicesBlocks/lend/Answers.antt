use Rattle.std.proofs.Common.{◌<◌, ◌≤◌, sym, subst}
use Rattle.fo_settling.proofs.of_mind.Results.{both_some}
use Rattle.fo_devices.proofs.calls.DevicesBlocks.lend.Goals as goal

pub returns-clause-bytes : goal.returns-clause-bytes
returns-clause-bytes g c =
    let main = c.args.self.now.cache.main in
    both_some c.lend.result (λ b long got. let it = got (g.D.Disk.state main).holds (g.D.Disk.faults main) in (long, it.reads, it.slots)) c.lend.ensures.long c.lend.ensures.got

pub returns-clause-formed : goal.returns-clause-formed
returns-clause-formed g c =
    let main = c.args.self.now.cache.main in
    both_some c.lend.result (λ b got kind. ((got (g.D.Disk.state main).holds (g.D.Disk.faults main)).formed, kind)) c.lend.ensures.got c.lend.ensures.kind

pub returns-clause-names : goal.returns-clause-names
returns-clause-names g c =
    let cache = c.args.self.now.cache in
    both_some c.lend.result
    (λ b got long i below _ leads.
    let within = (got (g.D.Disk.state cache.main).holds (g.D.Disk.faults cache.main)).names i below leads in
    (subst (λ n. n ≤ below) (sym cache.mind.placed.is_first) within.0, subst (λ n. below < n) (sym cache.mind.placed.is_count) within.1))
    c.lend.ensures.got c.lend.ensures.long
