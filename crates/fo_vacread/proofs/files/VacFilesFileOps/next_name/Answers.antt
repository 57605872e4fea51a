use Rattle.std.proofs.Common.{refl}
use Rattle.fo_vacread.specs.Honest.{holding_of}
use Rattle.fo_vacread.specs.Stays.{known}
use Rattle.fo_vacread.proofs.Ends.{looks_answer, looks_cause}
use Rattle.fo_vacread.proofs.files.VacFilesFileOps.next_name.Goals as goal

pub returns-clause-answer : goal.returns-clause-answer
returns-clause-answer g c = λ honest.
    looks_answer (known c.args.self.now.arena.now.shelf (g.A.Disk.state c.args.self.now.arena.now.device) (g.A.Disk.faults c.args.self.now.arena.now.device) c.args.self.now.opened) (known c.next_at.new.arena.shelf (g.A.Disk.state c.next_at.new.arena.device) (g.A.Disk.faults c.next_at.new.arena.device) c.args.self.now.opened) _ 0 c.next_at.result
    (record { shelf = c.next_at.ensures.shelf; kept = c.next_at.ensures.kept; later = c.next_at.ensures.cause.later; opened = refl }) c.next_at.ensures.cause (c.next_at.ensures.held (holding_of c.args.self.now.arena.now.shelf (g.A.Disk.state c.args.self.now.arena.now.device)) honest.told)

pub returns-clause-cause : goal.returns-clause-cause
returns-clause-cause g c =
    looks_cause (known c.args.self.now.arena.now.shelf (g.A.Disk.state c.args.self.now.arena.now.device) (g.A.Disk.faults c.args.self.now.arena.now.device) c.args.self.now.opened) (known c.next_at.new.arena.shelf (g.A.Disk.state c.next_at.new.arena.device) (g.A.Disk.faults c.next_at.new.arena.device) c.args.self.now.opened) _ 0 c.next_at.result
    c.next_at.ensures.cause (λ honest. c.next_at.ensures.held (holding_of c.args.self.now.arena.now.shelf (g.A.Disk.state c.args.self.now.arena.now.device)) honest.told)
