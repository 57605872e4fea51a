use Rattle.std.proofs.Common.{refl, ◌^◌}
use Rattle.fo_vacread.specs.Honest.{holding_of}
use Rattle.fo_vacread.specs.Stays.{known}
use Rattle.fo_vacread.proofs.Ends.{refuses_answer, refuses_cause}
use Rattle.fo_vacread.proofs.files.VacFilesFileOps.write.Goals as goal

pub returns-clause-answer : goal.returns-clause-answer
returns-clause-answer g c = λ honest.
    refuses_answer (known c.args.self.now.arena.now.shelf (g.A.Disk.state c.args.self.now.arena.now.device) (g.A.Disk.faults c.args.self.now.arena.now.device) c.args.self.now.opened) (known c.no_write.new.arena.shelf (g.A.Disk.state c.no_write.new.arena.device) (g.A.Disk.faults c.no_write.new.arena.device) c.args.self.now.opened) _ _ c.no_write.result
    (record { shelf = c.no_write.ensures.shelf; kept = c.no_write.ensures.kept; later = c.no_write.ensures.cause.later; opened = refl }) c.no_write.ensures.cause (c.no_write.ensures.held (holding_of c.args.self.now.arena.now.shelf (g.A.Disk.state c.args.self.now.arena.now.device)) (2 ^ 40) c.args._offset c.args._bytes.now c.args._who.now c.args._now honest.told)

pub returns-clause-cause : goal.returns-clause-cause
returns-clause-cause g c =
    refuses_cause (known c.args.self.now.arena.now.shelf (g.A.Disk.state c.args.self.now.arena.now.device) (g.A.Disk.faults c.args.self.now.arena.now.device) c.args.self.now.opened) (known c.no_write.new.arena.shelf (g.A.Disk.state c.no_write.new.arena.device) (g.A.Disk.faults c.no_write.new.arena.device) c.args.self.now.opened) _ _ c.no_write.result
    c.no_write.ensures.cause (λ honest. c.no_write.ensures.held (holding_of c.args.self.now.arena.now.shelf (g.A.Disk.state c.args.self.now.arena.now.device)) (2 ^ 40) c.args._offset c.args._bytes.now c.args._who.now c.args._now honest.told)
