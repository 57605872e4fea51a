use Rattle.std.proofs.Common.{◌≡◌, true, false}
use Rattle.fo_opening.proofs.reads.is_header.Goals as goal

pub returns-in-Err : goal.returns-in-Err
returns-in-Err c = (λ e. absurd (clash e), λ s. absurd (c.in-Err.ensures.refused.1 (record { blocks = c.args.count }) s))
  where
    clash : false ≡ true → ⊥
    clash h = cc
