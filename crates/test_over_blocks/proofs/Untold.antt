-- What is asked where the device tells, of blocks that tell nothing.
use Rattle.std.proofs.Common.{ℕ}
use Rattle.test_blocks.specs.Change.{StandsOnce}
use Rattle.test_blocks.specs.Silent.{Silent, state_of}

pub stands : (p : Silent) (at rank : ℕ) → StandsOnce (state_of p) at rank
stands p at rank = record { place = λ t. absurd t; linked = λ t. absurd t; undoomed = λ t. absurd t }
