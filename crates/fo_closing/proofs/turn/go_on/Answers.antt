use Rattle.std.proofs.Common.{refl, sym, subst}
use Rattle.fo_unlink.specs.Pending.{Pending}
use Rattle.fo_mind.specs.MindParts.{parts}
use Rattle.fo_closing.specs.Turned.{Went}
use Rattle.fo_closing.proofs.Resting.{turns_stay}
use Rattle.fo_closing.proofs.Turning.{went_turned}
use Rattle.fo_closing.proofs.turn.go_on.Goals as goal

pub returns-in-Reads-clause-went : goal.returns-in-Reads-clause-went
returns-in-Reads-clause-went c = λ disk faults. (parts c.args.mind.now disk faults, turns_stay _, (c.in-Reads.ensures.answer, refl))

pub returns-in-Closes-clause-went : goal.returns-in-Closes-clause-went
returns-in-Closes-clause-went c = λ disk faults.
    let m = c.args.mind.now in
    let d = c.decide.ensures.decided disk faults in
    let w = went_turned c.decide.result c.args.first.now (parts m disk faults) d.0 (parts c.decide.new.mind disk faults) c.in-Closes.ensures.answer d.1 d.2 in
    (w.0, w.1, subst (λ (r : Pending). Went c.decide.result c.args.first.now c.args.block.now w.0 (parts c.decide.new.mind disk faults) m.queue r) (sym c.decide.ensures.queue) w.2)
