use Rattle.std.proofs.Common.{[], ap, ◌∙◌, arith}
use Rattle.fo_closing.specs.of_mind.MindParts.{parts}
use Rattle.fo_closing.specs.of_mind.Parts.{Parts}
use Rattle.fo_settling.proofs.Clearing.{lasts_renumbered, lasts_turned}
use Rattle.fo_reserving.proofs.Calming.{always, calm_turned}
use Rattle.fo_reserving.proofs.Joining.{reserves_eased, reserves_lasting, reserves_on}
use Rattle.fo_reserving.proofs.Rooming.{caused_result}
use Rattle.fo_reserving.proofs.rest.settle_turned.Goals as goal

pub returns-in_err-settle_doubt-clause-leaves : goal.returns-in_err-settle_doubt-clause-leaves
returns-in_err-settle_doubt-clause-leaves g c = reserves_on c.settle_slots.ensures.leaves (reserves_eased c.settle_doubt.ensures.eases (lasts_renumbered (g.D.Disk.state c.settle_slots.new.cache.main) (g.D.Disk.state c.settle_doubt.new.self.main) (parts c.settle_slots.new.cache.mind [] 0) (parts c.settle_doubt.new.self.mind [] 0) (g.D.Disk.faults c.settle_slots.new.cache.main) (g.D.Disk.faults c.settle_doubt.new.self.main) c.settle_slots.new.cache.mind.placed c.settle_doubt.ensures.renumbers))

pub returns-clause-leaves : goal.returns-clause-leaves
returns-clause-leaves g c = reserves_on
    (reserves_on c.settle_slots.ensures.leaves (reserves_eased c.settle_doubt.ensures.eases (lasts_renumbered (g.D.Disk.state c.settle_slots.new.cache.main) (g.D.Disk.state c.settle_doubt.new.self.main) (parts c.settle_slots.new.cache.mind [] 0) (parts c.settle_doubt.new.self.mind [] 0) (g.D.Disk.faults c.settle_slots.new.cache.main) (g.D.Disk.faults c.settle_doubt.new.self.main) c.settle_slots.new.cache.mind.placed c.settle_doubt.ensures.renumbers)))
    (reserves_lasting (parts c.settle_doubt.new.self.mind (g.D.Disk.state c.settle_doubt.new.self.main).holds (g.D.Disk.faults c.settle_doubt.new.self.main)) (parts c.settle_turns.new.self.mind (g.D.Disk.state c.settle_turns.new.self.main).holds (g.D.Disk.faults c.settle_turns.new.self.main)) c.settle_turns.ensures.rests c.settle_turns.ensures.keeps
    (lasts_turned (g.D.Disk.state c.settle_doubt.new.self.main) (g.D.Disk.state c.settle_turns.new.self.main) (parts c.settle_doubt.new.self.mind [] 0) (parts c.settle_turns.new.self.mind [] 0) (g.D.Disk.faults c.settle_doubt.new.self.main) (g.D.Disk.faults c.settle_turns.new.self.main) c.settle_turns.ensures.settles))

pub returns-clause-calm : goal.returns-clause-calm
returns-clause-calm g c =
    let mind = c.settle_doubt.new.self.mind in
    always c.settle_turns.result
    (calm_turned (parts mind [] 0) (parts c.settle_turns.new.self.mind [] 0) c.settle_turns.ensures.settles.rest (ap (λ (z : Parts). z.clears) c.settle_doubt.ensures.renumbers.rest ∙ c.in_ok-settle_slots.ensures.clears) c.in_ok-settle_doubt.ensures.certain)

pub returns-clause-cause : goal.returns-clause-cause
returns-clause-cause g c =
    let a = c.settle_slots.ensures.later in
    let b = c.settle_doubt.ensures.later in
    caused_result ⊥ _ _ _ c.settle_turns.result (omega (arith, a, b)) c.settle_turns.ensures.cause
