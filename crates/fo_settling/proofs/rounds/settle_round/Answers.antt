use Rattle.std.proofs.Common.{[], sym, ap, ◌∙◌, subst, arith}
use Rattle.fo_cache.specs.of_mind.MindParts.{parts}
use Rattle.fo_cache.specs.of_mind.Parts.{Parts}
use Rattle.fo_cache.proofs.Easing.{eases_on}
use Rattle.fo_cache.proofs.Lessening.{turned_left}
use Rattle.fo_settling.specs.Costs.{Spends, most_calls, most_writes}
use Rattle.fo_settling.proofs.Clearing.{clearings_of, clearings_on, clearings_one, lasts_turned}
use Rattle.fo_settling.proofs.Costing.{fewer_calm, fewer_cleared, spends_calm, spends_cleared, spends_end, spends_turned, touches_due, touches_on}
use Rattle.fo_settling.proofs.Waiting.{eases_turns, none_waits}
use Rattle.fo_settling.proofs.rounds.settle_round.Goals as goal

pub returns-in_err-settle_turns-clause-eases : goal.returns-in_err-settle_turns-clause-eases
returns-in_err-settle_turns-clause-eases g c = (eases_turns (g.D.Disk.state c.args.cache.now.main) (g.D.Disk.state c.settle_turns.new.self.main) (parts c.args.cache.now.mind [] 0) (parts c.settle_turns.new.self.mind [] 0) (g.D.Disk.faults c.args.cache.now.main) (g.D.Disk.faults c.settle_turns.new.self.main) c.settle_turns.ensures.settles c.settle_turns.ensures.later)

pub returns-in_default-clause-eases : goal.returns-in_default-clause-eases
returns-in_default-clause-eases g c = (eases_turns (g.D.Disk.state c.args.cache.now.main) (g.D.Disk.state c.settle_turns.new.self.main) (parts c.args.cache.now.mind [] 0) (parts c.settle_turns.new.self.mind [] 0) (g.D.Disk.faults c.args.cache.now.main) (g.D.Disk.faults c.settle_turns.new.self.main) c.settle_turns.ensures.settles c.settle_turns.ensures.later)

pub returns-in_default-clause-done : goal.returns-in_default-clause-done
returns-in_default-clause-done g c = λ _.
    let mind = c.settle_turns.new.self.mind in
    (c.in_ok-settle_turns.ensures.quiet, none_waits mind.order mind.clears.items c.in_ok-settle_turns.ensures.quiet c.in_default.ensures)

pub returns-clause-eases : goal.returns-clause-eases
returns-clause-eases g c = eases_on (eases_on (eases_turns (g.D.Disk.state c.args.cache.now.main) (g.D.Disk.state c.settle_turns.new.self.main) (parts c.args.cache.now.mind [] 0) (parts c.settle_turns.new.self.mind [] 0) (g.D.Disk.faults c.args.cache.now.main) (g.D.Disk.faults c.settle_turns.new.self.main) c.settle_turns.ensures.settles c.settle_turns.ensures.later) c.clear_due.ensures.eases) c.clear_all.ensures.eases

pub returns-in_err-settle_turns-clause-clears : goal.returns-in_err-settle_turns-clause-clears
returns-in_err-settle_turns-clause-clears g c = clearings_of (lasts_turned (g.D.Disk.state c.args.cache.now.main) (g.D.Disk.state c.settle_turns.new.self.main) (parts c.args.cache.now.mind [] 0) (parts c.settle_turns.new.self.mind [] 0) (g.D.Disk.faults c.args.cache.now.main) (g.D.Disk.faults c.settle_turns.new.self.main) c.settle_turns.ensures.settles)

pub returns-in_default-clause-clears : goal.returns-in_default-clause-clears
returns-in_default-clause-clears g c = clearings_of (lasts_turned (g.D.Disk.state c.args.cache.now.main) (g.D.Disk.state c.settle_turns.new.self.main) (parts c.args.cache.now.mind [] 0) (parts c.settle_turns.new.self.mind [] 0) (g.D.Disk.faults c.args.cache.now.main) (g.D.Disk.faults c.settle_turns.new.self.main) c.settle_turns.ensures.settles)

pub returns-clause-clears : goal.returns-clause-clears
returns-clause-clears g c = clearings_on (clearings_on (clearings_of (lasts_turned (g.D.Disk.state c.args.cache.now.main) (g.D.Disk.state c.settle_turns.new.self.main) (parts c.args.cache.now.mind [] 0) (parts c.settle_turns.new.self.mind [] 0) (g.D.Disk.faults c.args.cache.now.main) (g.D.Disk.faults c.settle_turns.new.self.main) c.settle_turns.ensures.settles)) (clearings_one c.in-Some.at c.in-Some.i (parts c.settle_turns.new.self.mind [] 0) (parts c.clear_due.new.self.mind [] 0) (g.D.Disk.state c.settle_turns.new.self.main).holds (g.D.Disk.state c.clear_due.new.self.main).holds (g.D.Disk.faults c.settle_turns.new.self.main) (g.D.Disk.faults c.clear_due.new.self.main) (ap (λ m. (g.D.Disk.state m).holds) c.clear_due.ensures.device) (ap (λ m. g.D.Disk.faults m) c.clear_due.ensures.device) c.settle_turns.new.self.mind.rests (c.clear_due.ensures.cleared (g.D.Disk.state c.settle_turns.new.self.main).holds (g.D.Disk.faults c.settle_turns.new.self.main)) c.in-Some.ensures.0)) c.clear_all.ensures.clears

pub returns-in_err-settle_turns-clause-calls : goal.returns-in_err-settle_turns-clause-calls
returns-in_err-settle_turns-clause-calls g c = let x = c.settle_turns.ensures.calls in omega (arith, x)

pub returns-in_default-clause-calls : goal.returns-in_default-clause-calls
returns-in_default-clause-calls g c = let x = c.settle_turns.ensures.calls in omega (arith, x)

pub returns-in_default-clause-spent : goal.returns-in_default-clause-spent
returns-in_default-clause-spent g c = turned_left (g.D.Disk.state c.args.cache.now.main) (g.D.Disk.state c.settle_turns.new.self.main) (parts c.args.cache.now.mind [] 0) (parts c.settle_turns.new.self.mind [] 0) _ _ c.settle_turns.ensures.settles c.in_ok-settle_turns.ensures.quiet c.settle_turns.ensures.calls

pub returns-clause-calls : goal.returns-clause-calls
returns-clause-calls g c =
    let x = c.settle_turns.ensures.calls in
    let same = ap g.D.Disk.calls c.clear_due.ensures.device in
    let still = ap g.D.Disk.calls c.clear_all.ensures.device in
    omega (arith, x, same, still)

pub returns-clause-spent : goal.returns-clause-spent
returns-clause-spent g c =
    let x = turned_left (g.D.Disk.state c.args.cache.now.main) (g.D.Disk.state c.settle_turns.new.self.main) (parts c.args.cache.now.mind [] 0) (parts c.settle_turns.new.self.mind [] 0) _ _ c.settle_turns.ensures.settles c.in_ok-settle_turns.ensures.quiet c.settle_turns.ensures.calls in
    let due = c.clear_due.ensures.left in
    let all = c.clear_all.ensures.left in
    let same = ap g.D.Disk.calls c.clear_due.ensures.device in
    let still = ap g.D.Disk.calls c.clear_all.ensures.device in
    omega (arith, x, due, all, same, still)

pub returns-in_err-settle_turns-clause-made : goal.returns-in_err-settle_turns-clause-made
returns-in_err-settle_turns-clause-made g c = spends_turned (parts c.args.cache.now.mind [] 0) c.settle_turns.ensures.made

pub returns-in_default-clause-spends : goal.returns-in_default-clause-spends
returns-in_default-clause-spends g c =
    let p = parts c.args.cache.now.mind [] 0 in
    let m = parts c.settle_turns.new.self.mind [] 0 in
    spends_calm p m c.settle_turns.ensures.made (ap (λ (z : Parts). z.clears) c.settle_turns.ensures.settles.rest) c.in_ok-settle_turns.ensures.quiet

pub returns-in_default-clause-waits : goal.returns-in_default-clause-waits
returns-in_default-clause-waits g c =
    let p = parts c.args.cache.now.mind [] 0 in
    let m = parts c.settle_turns.new.self.mind [] 0 in
    fewer_calm p m c.settle_turns.ensures.made (ap (λ (z : Parts). z.clears) c.settle_turns.ensures.settles.rest) c.in_ok-settle_turns.ensures.quiet

pub returns-in_default-clause-made : goal.returns-in_default-clause-made
returns-in_default-clause-made g c = spends_end (returns-in_default-clause-spends g c)

pub returns-clause-spends : goal.returns-clause-spends
returns-clause-spends g c =
    let p = parts c.args.cache.now.mind [] 0 in
    let mid = c.settle_turns.new.self in
    let m = parts mid.mind [] 0 in
    let n = parts c.clear_due.new.self.mind [] 0 in
    let end = c.clear_all.new.cache in
    let device = c.clear_all.ensures.device ∙ c.clear_due.ensures.device in
    let waits = c.in-Some.ensures.1 in
    let touched = touches_on (touches_due c.in-Some.at c.in-Some.i m n (c.clear_due.ensures.cleared [] 0) waits) c.clear_all.ensures.touches in
    let was = c.args.cache.now.main in
    let q = parts end.mind [] 0 in
    subst (λ (d : _). Spends (g.D.Disk.state was) (g.D.Disk.state d) (g.D.Disk.calls was) (g.D.Disk.calls d) p (most_calls q) (most_writes q)) (sym device)
    (spends_cleared p m c.settle_turns.ensures.made (ap (λ (z : Parts). z.clears) c.settle_turns.ensures.settles.rest) c.in_ok-settle_turns.ensures.quiet q touched c.clear_all.ensures.none c.in-Some.at c.in-Some.i waits)

pub returns-clause-waits : goal.returns-clause-waits
returns-clause-waits g c =
    let p = parts c.args.cache.now.mind [] 0 in
    let m = parts c.settle_turns.new.self.mind [] 0 in
    let n = parts c.clear_due.new.self.mind [] 0 in
    let touched = touches_on (touches_due c.in-Some.at c.in-Some.i m n (c.clear_due.ensures.cleared [] 0) c.in-Some.ensures.1) c.clear_all.ensures.touches in
    fewer_cleared p m c.settle_turns.ensures.made (ap (λ (z : Parts). z.clears) c.settle_turns.ensures.settles.rest) c.in_ok-settle_turns.ensures.quiet (parts c.clear_all.new.cache.mind [] 0) touched

pub returns-clause-made : goal.returns-clause-made
returns-clause-made g c = spends_end (returns-clause-spends g c)
