use Rattle.fo_files_world.proofs.Changed.{changed_root}
use Rattle.fo_files_world.proofs.laws.changes_are_shown.Goals as goal

pub returns : goal.returns
returns c = λ arena image other f trail root at is. changed_root arena image other f trail root at is
