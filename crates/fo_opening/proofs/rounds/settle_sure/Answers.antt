use Rattle.std.proofs.Common.{[], ap, ◌∙◌, subst, arith}
use Rattle.fo_mind.specs.MindParts.{parts}
use Rattle.fo_mind.specs.Parts.{IsPinned, Parts}
use Rattle.fo_mind.proofs.Results.{any_ok, on_ok}
use Rattle.fo_cache.proofs.Lessening.{certain_left, turned_left}
use Rattle.fo_reserving.proofs.of_settling.Clearing.{lasts_on, lasts_renumbered, lasts_turned}
use Rattle.fo_opening.proofs.Finishing.{caused_later}
use Rattle.fo_opening.proofs.Stepping.{ending_on, ending_renumbered, ending_turned}
use Rattle.fo_opening.proofs.rounds.settle_sure.Goals as goal

pub take_turns-requires : goal.take_turns-requires
take_turns-requires g c = record { free = λ b h. c.requires.free b (subst (λ (z : Parts). IsPinned z.held b) c.settle_doubt.ensures.renumbers.rest h) }

pub returns-in_err-settle_doubt-clause-ending : goal.returns-in_err-settle_doubt-clause-ending
returns-in_err-settle_doubt-clause-ending g c =
    let old = c.args.cache.now in
    let mid = c.settle_doubt.new.self in
    ending_renumbered (g.D.Disk.state old.main) (g.D.Disk.state mid.main) (g.D.Disk.faults old.main) (g.D.Disk.faults mid.main) (parts old.mind [] 0) (parts mid.mind [] 0) old.mind.placed c.settle_doubt.ensures.renumbers c.settle_doubt.ensures.eases

pub returns-in_err-settle_doubt-clause-lasts : goal.returns-in_err-settle_doubt-clause-lasts
returns-in_err-settle_doubt-clause-lasts g c =
    let old = c.args.cache.now in
    let mid = c.settle_doubt.new.self in
    lasts_renumbered (g.D.Disk.state old.main) (g.D.Disk.state mid.main) (parts old.mind [] 0) (parts mid.mind [] 0) (g.D.Disk.faults old.main) (g.D.Disk.faults mid.main) old.mind.placed c.settle_doubt.ensures.renumbers

pub returns-clause-certain : goal.returns-clause-certain
returns-clause-certain g c = any_ok c.take_turns.result (ap (λ (z : Parts). z.doubt) c.take_turns.ensures.settles.rest ∙ c.in_ok-settle_doubt.ensures.certain)

pub returns-clause-ending : goal.returns-clause-ending
returns-clause-ending g c =
    let old = c.args.cache.now in
    let mid = c.settle_doubt.new.self in
    let new = c.take_turns.new.cache in
    ending_on
    (ending_renumbered (g.D.Disk.state old.main) (g.D.Disk.state mid.main) (g.D.Disk.faults old.main) (g.D.Disk.faults mid.main) (parts old.mind [] 0) (parts mid.mind [] 0) old.mind.placed c.settle_doubt.ensures.renumbers c.settle_doubt.ensures.eases)
    (ending_turned (g.D.Disk.state mid.main) (g.D.Disk.state new.main) (g.D.Disk.faults mid.main) (g.D.Disk.faults new.main) (parts mid.mind [] 0) (parts new.mind [] 0) mid.mind.turning c.take_turns.ensures.settles c.take_turns.ensures.later)

pub returns-clause-lasts : goal.returns-clause-lasts
returns-clause-lasts g c =
    let old = c.args.cache.now in
    let mid = c.settle_doubt.new.self in
    let new = c.take_turns.new.cache in
    lasts_on
    (lasts_renumbered (g.D.Disk.state old.main) (g.D.Disk.state mid.main) (parts old.mind [] 0) (parts mid.mind [] 0) (g.D.Disk.faults old.main) (g.D.Disk.faults mid.main) old.mind.placed c.settle_doubt.ensures.renumbers)
    (lasts_turned (g.D.Disk.state mid.main) (g.D.Disk.state new.main) (parts mid.mind [] 0) (parts new.mind [] 0) (g.D.Disk.faults mid.main) (g.D.Disk.faults new.main) c.take_turns.ensures.settles)

pub returns-clause-cause : goal.returns-clause-cause
returns-clause-cause g c =
    let old = c.args.cache.now in
    let mid = c.settle_doubt.new.self in
    let new = c.take_turns.new.cache in
    caused_later (g.D.Disk.faults old.main) (g.D.Disk.faults mid.main) (g.D.Disk.faults new.main) c.take_turns.result c.settle_doubt.ensures.later c.take_turns.ensures.cause

pub returns-in_err-settle_doubt-clause-calls : goal.returns-in_err-settle_doubt-clause-calls
returns-in_err-settle_doubt-clause-calls g c = let x = c.settle_doubt.ensures.calls in omega (arith, x)

pub returns-clause-calls : goal.returns-clause-calls
returns-clause-calls g c =
    let x = certain_left (g.D.Disk.state c.args.cache.now.main) (g.D.Disk.state c.settle_doubt.new.self.main) (parts c.args.cache.now.mind [] 0) (parts c.settle_doubt.new.self.mind [] 0) _ _ c.settle_doubt.ensures.renumbers c.in_ok-settle_doubt.ensures.certain c.settle_doubt.ensures.turns c.settle_doubt.ensures.calls in
    let y = c.take_turns.ensures.calls in
    omega (arith, x, y)

pub returns-clause-spent : goal.returns-clause-spent
returns-clause-spent g c =
    let x = certain_left (g.D.Disk.state c.args.cache.now.main) (g.D.Disk.state c.settle_doubt.new.self.main) (parts c.args.cache.now.mind [] 0) (parts c.settle_doubt.new.self.mind [] 0) _ _ c.settle_doubt.ensures.renumbers c.in_ok-settle_doubt.ensures.certain c.settle_doubt.ensures.turns c.settle_doubt.ensures.calls in
    on_ok c.take_turns.result (λ quiet. let y = turned_left (g.D.Disk.state c.settle_doubt.new.self.main) (g.D.Disk.state c.take_turns.new.cache.main) (parts c.settle_doubt.new.self.mind [] 0) (parts c.take_turns.new.cache.mind [] 0) _ _ c.take_turns.ensures.settles quiet c.take_turns.ensures.calls in omega (arith, x, y)) c.take_turns.ensures.quiet
