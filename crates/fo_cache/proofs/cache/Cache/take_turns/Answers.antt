use Rattle.std.proofs.Common.{◌∙◌, [], arith}
use Rattle.std.proofs.lemmas.Result.{err_from_is_err_and}
use Rattle.fo_mind.specs.MindParts.{parts}
use Rattle.fo_cache.proofs.Called.{caused_later, makes_end, makes_on}
use Rattle.fo_cache.proofs.Settling.{then}
use Rattle.fo_cache.proofs.cache.Cache.take_turns.Goals as goal

pub returns-in_err-take_turn-clause-settles : goal.returns-in_err-take_turn-clause-settles
returns-in_err-take_turn-clause-settles g c =
    then (g.D.Disk.state c.args.self.now.main) (g.D.Disk.state c.loop.self.main) (g.D.Disk.state c.take_turn.new.self.main) (parts c.args.self.now.mind [] 0) (parts c.loop.self.mind [] 0) (parts c.take_turn.new.self.mind [] 0) c.loop.invariant.settles c.take_turn.ensures.settles

pub returns-clause-settles : goal.returns-clause-settles
returns-clause-settles g c =
    then (g.D.Disk.state c.args.self.now.main) (g.D.Disk.state c.loop.self.main) (g.D.Disk.state c.take_turn.new.self.main) (parts c.args.self.now.mind [] 0) (parts c.loop.self.mind [] 0) (parts c.take_turn.new.self.mind [] 0) c.loop.invariant.settles c.take_turn.ensures.settles

pub loop-preserved : goal.loop-preserved
loop-preserved g c =
    let was = c.loop.invariant in
    let now = c.take_turn.ensures in
    record {
      settles = then (g.D.Disk.state c.args.self.now.main) (g.D.Disk.state c.loop.self.main) (g.D.Disk.state c.take_turn.new.self.main) (parts c.args.self.now.mind [] 0) (parts c.loop.self.mind [] 0) (parts c.take_turn.new.self.mind [] 0) was.settles now.settles;
      size = now.size ∙ was.size;
      spent = let x = was.spent in let y = c.in_ok-take_turn.ensures.spent in omega (arith, x, y);
      makes = makes_on was.makes c.in_ok-take_turn.ensures.makes;
      later = let x = was.later in let y = now.later in omega (arith, x, y);
    }

pub returns-in_err-take_turn-clause-calls : goal.returns-in_err-take_turn-clause-calls
returns-in_err-take_turn-clause-calls g c =
    let x = c.loop.invariant.spent in
    let y = c.take_turn.ensures.calls in
    omega (arith, x, y)

pub returns-clause-calls : goal.returns-clause-calls
returns-clause-calls g c =
    let x = c.loop.invariant.spent in
    let y = c.in_ok-take_turn.ensures.spent in
    omega (arith, x, y)

pub returns-in_err-take_turn-clause-made : goal.returns-in_err-take_turn-clause-made
returns-in_err-take_turn-clause-made g c = makes_on c.loop.invariant.makes c.take_turn.ensures.made

pub returns-clause-made : goal.returns-clause-made
returns-clause-made g c = makes_end (makes_on c.loop.invariant.makes c.in_ok-take_turn.ensures.makes)

pub returns-in_err-take_turn-clause-cause : goal.returns-in_err-take_turn-clause-cause
returns-in_err-take_turn-clause-cause g c =
    let x = err_from_is_err_and c.from_residual.result c.from_residual.ensures.1 in
    rw (x.1, x.2)
    (caused_later (g.D.Disk.faults c.args.self.now.main) (g.D.Disk.faults c.loop.self.main) (g.D.Disk.faults c.take_turn.new.self.main) c.in_err-take_turn.field-0.0 c.loop.invariant.later c.in_err-take_turn.ensures.cause)
