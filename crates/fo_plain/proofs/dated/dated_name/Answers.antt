use Rattle.std.proofs.Common.{◌≤◌, length, arith, length-append}
use Rattle.std.specs.Fmt.{decimal}
use Rattle.std.proofs.lemmas.Fmt.{length-decimal-le}
use Rattle.fo_plain.proofs.dated.dated_name.Goals as goal

pub append_decimal-requires : goal.append_decimal-requires
append_decimal-requires c =
    let most : length (decimal c.epoch.result) ≤ 10 = length-decimal-le 10 c.epoch.result (omega arith) (omega arith) (omega arith) in
    rw (c.push.ensures, length-append) (omega arith)
