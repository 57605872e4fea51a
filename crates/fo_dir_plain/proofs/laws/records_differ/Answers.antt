use Rattle.fo_dir_plain.proofs.Differing.{added_distinct, removed_distinct, changed_distinct}
use Rattle.fo_dir_plain.proofs.laws.records_differ.Goals as goal

pub returns-clause-added : goal.returns-clause-added
returns-clause-added c = added_distinct

pub returns-clause-removed : goal.returns-clause-removed
returns-clause-removed c = removed_distinct

pub returns-clause-changed : goal.returns-clause-changed
returns-clause-changed c = changed_distinct
