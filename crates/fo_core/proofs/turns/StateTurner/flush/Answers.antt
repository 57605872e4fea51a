use Rattle.std.proofs.Common.{refl}
use Rattle.fo_core.proofs.Happening.{flushed}
use Rattle.fo_core.proofs.turns.StateTurner.flush.Goals as goal

pub returns-clause-goes : goal.returns-clause-goes
returns-clause-goes g c =
    let e = c.flush_turn.ensures in
    rw c.told.ensures
    (flushed _ _ c.flush_turn.result e.does e.idle e.still e.eases e.misses e.cause
    (record { sessions = refl; shelf = refl; stored = refl; arena_faults = refl; size = e.size; halted = refl; later = e.later }))

pub returns-clause-cause : goal.returns-clause-cause
returns-clause-cause g c = (returns-clause-goes g c).cause
