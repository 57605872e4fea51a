use Rattle.std.proofs.Common.{refl}
use Rattle.fo_vacread.specs.Honest.{holding_of}
use Rattle.fo_vacread.specs.Stays.{known}
use Rattle.fo_vacread.proofs.Ends.{looks_answer, looks_cause}
use Rattle.fo_vacread.proofs.files.VacFilesFileOps.parent.Goals as goal

pub returns-clause-answer : goal.returns-clause-answer
returns-clause-answer g c = λ honest.
    looks_answer (known c.args.self.now.arena.now.shelf (g.A.Disk.state c.args.self.now.arena.now.device) (g.A.Disk.faults c.args.self.now.arena.now.device) c.args.self.now.opened) (known c.parent_at.new.arena.shelf (g.A.Disk.state c.parent_at.new.arena.device) (g.A.Disk.faults c.parent_at.new.arena.device) c.args.self.now.opened) _ 0 c.parent_at.result
    (record { shelf = c.parent_at.ensures.shelf; kept = c.parent_at.ensures.kept; later = c.parent_at.ensures.cause.later; opened = refl }) c.parent_at.ensures.cause (c.parent_at.ensures.held (holding_of c.args.self.now.arena.now.shelf (g.A.Disk.state c.args.self.now.arena.now.device)) honest.told)

pub returns-clause-cause : goal.returns-clause-cause
returns-clause-cause g c =
    looks_cause (known c.args.self.now.arena.now.shelf (g.A.Disk.state c.args.self.now.arena.now.device) (g.A.Disk.faults c.args.self.now.arena.now.device) c.args.self.now.opened) (known c.parent_at.new.arena.shelf (g.A.Disk.state c.parent_at.new.arena.device) (g.A.Disk.faults c.parent_at.new.arena.device) c.args.self.now.opened) _ 0 c.parent_at.result
    c.parent_at.ensures.cause (λ honest. c.parent_at.ensures.held (holding_of c.args.self.now.arena.now.shelf (g.A.Disk.state c.args.self.now.arena.now.device)) honest.told)
