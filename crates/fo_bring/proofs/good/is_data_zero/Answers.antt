use Rattle.fo_bring.proofs.Copying.{some_level}
use Rattle.fo_bring.proofs.good.is_data_zero.Goals as goal

pub returns : goal.returns
returns c =
    let z = some_level c.args.level c.args.bytes.now c.if-level-eq0.false in
    (λ t. z.1 (c.is_zero_from.ensures.0 t), λ h. c.is_zero_from.ensures.1 (z.0 h))
