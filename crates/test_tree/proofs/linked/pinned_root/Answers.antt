use Rattle.std.proofs.Common.{subst}
use Rattle.test_tree.proofs.Grounds.{root_place_is}
use Rattle.test_tree.proofs.linked.pinned_root.Goals as goal

pub get-requires-clause-place : goal.get-requires-clause-place
get-requires-clause-place g c = λ told p stands. root_place_is (c.ground.ensures told) p (subst (λ b. (g.B.Blocks.state c.args.on.now).stands b p) c.root-root.ensures stands)
