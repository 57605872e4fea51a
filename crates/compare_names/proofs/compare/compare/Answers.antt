use Rattle.fo_ports_plain.specs.Parts.{parts}
use Rattle.test_names.proofs.Staying.{in_memory}
use Rattle.compare_names.proofs.compare.compare.Goals as goal

pub game-requires-clause-memory : goal.game-requires-clause-memory
game-requires-clause-memory c = λ b. in_memory (parts b)
