use Rattle.std.proofs.Common.{◌≡◌, map, take}
use Rattle.fo_arch_hash.specs.Batch.{score_of}
use Rattle.fo_arch_hash.proofs.hash.scores_of.Given as goal

abbrev pub invariant-loop-piece : goal.invariant-loop-piece
invariant-loop-piece l = l.scores.items ≡ map score_of (take l.piece-index l.pieces)
