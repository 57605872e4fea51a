use Rattle.fo_ports_plain.specs.Parts.{parts}
use Rattle.test_tree.proofs.Devices.{fresh_none, in_memory}
use Rattle.test_tree.proofs.shorter.left_after.Goals as goal

pub left_on-requires-clause-memory : goal.left_on-requires-clause-memory
left_on-requires-clause-memory c = λ b. in_memory (parts b)

pub left_on-requires-clause-none : goal.left_on-requires-clause-none
left_on-requires-clause-none c = fresh_none (parts c.in_ok-on.on) c.in_ok-on.ensures
