use Rattle.std.proofs.Common.{◌≡◌, rules, false}
use Rattle.fo_base.specs.Text.{has_zero}
use Rattle.fo_base.proofs.Texts.{text_is, text_is_not}
use Rattle.fo_base.proofs.text.is_text.Goals as goal

pub returns-in-Ok : goal.returns-in-Ok
returns-in-Ok c =
    let zero : has_zero c.args.bytes.now ≡ false = search rules in
    text_is c.args.bytes.now zero c.in-Ok.ensures.cases.1

pub returns-in-Err : goal.returns-in-Err
returns-in-Err c = text_is_not c.args.bytes.now c.in-Err.ensures.cases.0
