use Rattle.test_names.proofs.Leaves.{owned_entries, owned_records}
use Rattle.test_names.proofs.steps.take.Goals as goal

pub remove_record-requires-clause-owned : goal.remove_record-requires-clause-owned
remove_record-requires-clause-owned g c = owned_records c.requires.leaf

pub remove_record-requires-clause-entries : goal.remove_record-requires-clause-entries
remove_record-requires-clause-entries g c = owned_entries c.requires.entries
