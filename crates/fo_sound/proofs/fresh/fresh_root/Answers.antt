use Rattle.fo_sound.proofs.FreshRoot.{fresh_root_holds}
use Rattle.fo_sound.proofs.fresh.fresh_root.Goals as goal

pub returns-clause-holds : goal.returns-clause-holds
returns-clause-holds c = rw (c.in_ok-own.ensures, c.fresh_entry-entries.ensures, c.fresh_entry.ensures) (fresh_root_holds c.args.time)
