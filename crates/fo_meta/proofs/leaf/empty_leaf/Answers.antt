use Rattle.std.proofs.Common.{refl}
use Rattle.fo_meta.proofs.Edits.{empty}
use Rattle.fo_meta.proofs.leaf.empty_leaf.Goals as goal

pub returns : goal.returns
returns c = empty _ refl
