use Rattle.std.proofs.lemmas.Bool.{false≢true}
use Rattle.fo_check.proofs.rules.is_header.Goals as goal

pub returns-in-Err : goal.returns-in-Err
returns-in-Err c = (λ it_is. absurd (false≢true it_is), λ h. absurd (c.in-Err.ensures.refused.1 (record { blocks = c.args.blocks }) h))
