use Rattle.std.proofs.Common.{◌≡◌, map, take}
use Rattle.fo_arch_hash.specs.Batch.{kept}
use Rattle.fo_arch_hash.proofs.batch.copy_pieces.Given as goal

abbrev pub invariant-loop-piece : goal.invariant-loop-piece
invariant-loop-piece l = map kept l.copies.items ≡ map kept (take l.piece-index l.pieces)
