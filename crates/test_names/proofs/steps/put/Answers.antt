use Rattle.test_names.proofs.Leaves.{in_place, owned_entries, owned_records}
use Rattle.test_names.proofs.steps.put.Goals as goal

pub add_new-requires-clause-owned : goal.add_new-requires-clause-owned
add_new-requires-clause-owned g c = owned_records c.requires.leaf

pub add_new-requires-clause-entries : goal.add_new-requires-clause-entries
add_new-requires-clause-entries g c = owned_entries c.requires.entries

pub add_new-requires-clause-lower : goal.add_new-requires-clause-lower
add_new-requires-clause-lower g c = λ told. in_place (c.requires.memory c.args.on.now) c.requires.leaf c.requires.entries
