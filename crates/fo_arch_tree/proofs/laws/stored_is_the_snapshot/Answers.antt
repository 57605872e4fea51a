use Rattle.fo_arch_tree.proofs.Root.{stored_is}
use Rattle.fo_arch_tree.proofs.laws.stored_is_the_snapshot.Goals as goal

pub returns : goal.returns
returns c = stored_is
