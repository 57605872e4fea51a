use Rattle.std.proofs.lemmas.Bool.{false≢true}
use Rattle.fo_sound.specs.Sound.{root_label}
use Rattle.fo_check.proofs.reads.is_root_label.Goals as goal

pub returns-in-Err : goal.returns-in-Err
returns-in-Err c = (λ it_is. absurd (false≢true it_is), λ h. absurd (c.in-Err.ensures.refused.1 (root_label c.args.s.now) h))
