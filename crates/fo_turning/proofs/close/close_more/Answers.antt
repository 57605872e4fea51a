use Rattle.std.proofs.Common.{◌<◌, Option, refl, sym, subst}
use Rattle.std.specs.Option.{MatchOption}
use Rattle.fo_unlink.specs.Work.{work}
use Rattle.fo_mind.specs.MindParts.{parts}
use Rattle.fo_turning.specs.declared.unlink.Unlinked.{Unlinked}
use Rattle.fo_turning.specs.Unlinks.{Closes, Reading}
use Rattle.fo_turning.proofs.Unlinking.{steps_end}
use Rattle.fo_turning.proofs.close.close_more.Goals as goal

pub returns-clause-closes : goal.returns-clause-closes
returns-clause-closes g c =
    let cache = c.args.cache.now in
    let new = c.close_step.new.cache in
    let disk = (g.D.Disk.state cache.main).holds in
    let p = parts cache.mind disk (g.D.Disk.faults cache.main) in
    let q = parts new.mind (g.D.Disk.state new.main).holds (g.D.Disk.faults new.main) in
    let u = cache.mind.queue in
    let v = new.mind.queue in
    subst (λ (o : Option Unlinked). MatchOption o (Reading disk p q u v × (work v < work u)) (λ a. Closes disk a p q u v)) (sym c.ended.ensures)
    (steps_end c.in_ok-answer.answer p q u v refl c.in_ok-answer.ensures.steps)
