use Rattle.std.proofs.Common.{refl}
use Rattle.fo_vacread.specs.Honest.{holding_of}
use Rattle.fo_vacread.specs.Stays.{known}
use Rattle.fo_vacread.proofs.Ends.{read_answer, read_cause}
use Rattle.fo_vacread.proofs.files.VacFilesFileOps.read.Goals as goal

pub returns-clause-answer : goal.returns-clause-answer
returns-clause-answer g c = λ honest.
    read_answer (known c.args.self.now.arena.now.shelf (g.A.Disk.state c.args.self.now.arena.now.device) (g.A.Disk.faults c.args.self.now.arena.now.device) c.args.self.now.opened) (known c.read_at.new.arena.shelf (g.A.Disk.state c.read_at.new.arena.device) (g.A.Disk.faults c.read_at.new.arena.device) c.args.self.now.opened) _ c.read_at.new.into c.read_at.result
    (record { shelf = c.read_at.ensures.shelf; kept = c.read_at.ensures.kept; later = c.read_at.ensures.cause.later; opened = refl }) c.read_at.ensures.cause (c.read_at.ensures.held (holding_of c.args.self.now.arena.now.shelf (g.A.Disk.state c.args.self.now.arena.now.device)) honest.told)

pub returns-clause-cause : goal.returns-clause-cause
returns-clause-cause g c =
    read_cause (known c.args.self.now.arena.now.shelf (g.A.Disk.state c.args.self.now.arena.now.device) (g.A.Disk.faults c.args.self.now.arena.now.device) c.args.self.now.opened) (known c.read_at.new.arena.shelf (g.A.Disk.state c.read_at.new.arena.device) (g.A.Disk.faults c.read_at.new.arena.device) c.args.self.now.opened) _ c.read_at.new.into c.read_at.result
    c.read_at.ensures.cause (λ honest. c.read_at.ensures.held (holding_of c.args.self.now.arena.now.shelf (g.A.Disk.state c.args.self.now.arena.now.device)) honest.told)
