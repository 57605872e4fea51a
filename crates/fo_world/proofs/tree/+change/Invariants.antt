use Rattle.std.proofs.Common.{◌+◌, ◌*◌, length}
use Rattle.fo_world.proofs.tree.+change.Given as goal

abbrev pub decreases-Body::change_child : goal.decreases-Body::change_child
decreases-Body::change_child g l = 3 * length l.rest.now + 2

abbrev pub decreases-Names::change_first : goal.decreases-Names::change_first
decreases-Names::change_first g l = 3 * length l.rest.now + 1

abbrev pub decreases-Node::change : goal.decreases-Node::change
decreases-Node::change g l = 3 * length l.trail.now
