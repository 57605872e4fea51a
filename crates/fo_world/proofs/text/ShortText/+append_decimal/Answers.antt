use Rattle.std.proofs.Common.{◌/◌, arith, length-append, append_assoc}
use Rattle.std.specs.Fmt.{decimal}
use Rattle.std.proofs.lemmas.Fmt.{decimal_step, decimal_digit}
use Rattle.fo_world.proofs.text.ShortText.+append_decimal.Goals as goal

pub push-requires : goal.push-requires
push-requires t c =
    let one = simp (decimal_digit c.args.number (omega arith)) at c.requires in
    omega arith

pub returns-then-number-lt10 : goal.returns-then-number-lt10
returns-then-number-lt10 t c = rw (decimal_digit c.args.number (omega arith)) c.push.ensures

pub append_decimal-requires : goal.append_decimal-requires
append_decimal-requires t c =
    let longer = simp (decimal_step c.args.number (omega arith) (omega arith), length-append) at c.requires in
    (omega arith, omega arith)

pub push-requires-else-number-lt10 : goal.push-requires-else-number-lt10
push-requires-else-number-lt10 t c =
    let longer = simp (decimal_step c.args.number (omega arith) (omega arith), length-append) at c.requires in
    rw (c.append_decimal.ensures, length-append) (omega arith)

pub returns-else-number-lt10 : goal.returns-else-number-lt10
returns-else-number-lt10 t c =
    rw (decimal_step c.args.number (omega arith) (omega arith), c.push-else-number-lt10.ensures, c.append_decimal.ensures) (append_assoc c.args.self.now (decimal (c.args.number / 10)) _)
