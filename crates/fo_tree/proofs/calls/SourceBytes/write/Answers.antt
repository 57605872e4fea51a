use Rattle.std.proofs.Common.{length}
use Rattle.fo_tree_trim.proofs.of_tree_own.Showing.{nothing_shows}
use Rattle.fo_tree.proofs.Beside.{beside_none}
use Rattle.fo_tree.proofs.calls.SourceBytes.write.Goals as goal

pub returns-then-is_empty-clause-shows : goal.returns-then-is_empty-clause-shows
returns-then-is_empty-clause-shows g c = beside_none (g.B.Blocks.state c.args.on.now) c.args.self.now.ways.tree c.args.offset (length c.args.piece.now)

pub returns-then-is_empty-clause-shown : goal.returns-then-is_empty-clause-shown
returns-then-is_empty-clause-shown g c = nothing_shows (record { each = λ image is. is })
