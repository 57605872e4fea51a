use Rattle.fo_arch_hash.proofs.Entries.{active_archived}
use Rattle.fo_arch_hash.proofs.form.archived_entry.Goals as goal

pub returns-then-entry-clause-holds : goal.returns-then-entry-clause-holds
returns-then-entry-clause-holds c = active_archived c.args.entry.now c.args.score c.if-entry.true c.requires.holds c.requires.shallow c.requires.score
