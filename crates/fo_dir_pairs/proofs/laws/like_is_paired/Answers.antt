use Rattle.fo_dir_pairs.proofs.Like.{paired_like}
use Rattle.fo_dir_pairs.proofs.laws.like_is_paired.Goals as goal

pub returns : goal.returns
returns c = λ image other like paired. paired_like like paired
