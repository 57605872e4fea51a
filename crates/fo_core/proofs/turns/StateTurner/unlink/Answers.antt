use Rattle.std.proofs.Common.{refl}
use Rattle.fo_core.proofs.Happening.{unlinked}
use Rattle.fo_core.proofs.turns.StateTurner.unlink.Goals as goal

pub returns-clause-goes : goal.returns-clause-goes
returns-clause-goes g c =
    let e = c.unlink_turn.ensures in
    rw c.told.ensures
    (unlinked _ _ c.unlink_turn.new.cache.mind.queue c.unlink_turn.result e.unlinks e.empty e.waits e.yields e.rest e.labels e.removals e.state e.cause
    (record { sessions = refl; shelf = refl; stored = refl; arena_faults = refl; size = e.size; halted = refl; later = e.later }))

pub returns-clause-cause : goal.returns-clause-cause
returns-clause-cause g c = (returns-clause-goes g c).cause
