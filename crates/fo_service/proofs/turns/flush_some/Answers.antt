use Rattle.std.proofs.Common.{arith}
use Rattle.fo_world.specs.Answers.{not_fewer}
use Rattle.fo_talk.proofs.Later.{not_fewer_then}
use Rattle.fo_service.proofs.Flushing.{flushing_starts, flushing_more, flushing_last, flushing_ends}
use Rattle.fo_service.proofs.turns.flush_some.Goals as goal

pub flushes-init : goal.flushes-init
flushes-init g c = record { flushing = flushing_starts _ _; later = not_fewer _ }

pub flushes-preserved : goal.flushes-preserved
flushes-preserved g c = record {
  flushing = flushing_more _ _ _ _ c.flushes.counter _ c.flushes.invariant.flushing (omega arith) c.flush_once.ensures.flushes c.if-not-flush_once.false;
  later = not_fewer_then _ _ _ c.flushes.invariant.later c.flush_once.ensures.later;
}

pub returns-then-not-flush_once-clause-flushes : goal.returns-then-not-flush_once-clause-flushes
returns-then-not-flush_once-clause-flushes g c = flushing_last _ _ _ _ c.flushes.counter _ c.flushes.invariant.flushing (omega arith) c.flush_once.ensures.flushes c.if-not-flush_once.true

pub returns-then-not-flush_once-clause-later : goal.returns-then-not-flush_once-clause-later
returns-then-not-flush_once-clause-later g c = not_fewer_then _ _ _ c.flushes.invariant.later c.flush_once.ensures.later

pub returns-clause-flushes : goal.returns-clause-flushes
returns-clause-flushes g c = flushing_ends _ _ _ c.flushes.counter c.flushes.invariant.flushing (omega arith)
