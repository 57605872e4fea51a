use Rattle.std.proofs.Common.{refl}
use Rattle.fo_vacread.specs.Honest.{holding_of}
use Rattle.fo_vacread.specs.Stays.{known}
use Rattle.fo_vacread.proofs.Ends.{refuses_answer, refuses_cause}
use Rattle.fo_vacread.proofs.files.VacFilesFileOps.create.Goals as goal

pub returns-clause-answer : goal.returns-clause-answer
returns-clause-answer g c = λ honest.
    refuses_answer (known c.args.self.now.arena.now.shelf (g.A.Disk.state c.args.self.now.arena.now.device) (g.A.Disk.faults c.args.self.now.arena.now.device) c.args.self.now.opened) (known c.no_create.new.arena.shelf (g.A.Disk.state c.no_create.new.arena.device) (g.A.Disk.faults c.no_create.new.arena.device) c.args.self.now.opened) _ _ c.no_create.result
    (record { shelf = c.no_create.ensures.shelf; kept = c.no_create.ensures.kept; later = c.no_create.ensures.cause.later; opened = refl }) c.no_create.ensures.cause (c.no_create.ensures.held (holding_of c.args.self.now.arena.now.shelf (g.A.Disk.state c.args.self.now.arena.now.device)) c.args._name.now c.args._mode c.args._who.now c.args._uid.now c.args._gid.now c.args._now honest.told)

pub returns-clause-cause : goal.returns-clause-cause
returns-clause-cause g c =
    refuses_cause (known c.args.self.now.arena.now.shelf (g.A.Disk.state c.args.self.now.arena.now.device) (g.A.Disk.faults c.args.self.now.arena.now.device) c.args.self.now.opened) (known c.no_create.new.arena.shelf (g.A.Disk.state c.no_create.new.arena.device) (g.A.Disk.faults c.no_create.new.arena.device) c.args.self.now.opened) _ _ c.no_create.result
    c.no_create.ensures.cause (λ honest. c.no_create.ensures.held (holding_of c.args.self.now.arena.now.shelf (g.A.Disk.state c.args.self.now.arena.now.device)) c.args._name.now c.args._mode c.args._who.now c.args._uid.now c.args._gid.now c.args._now honest.told)
