use Rattle.std.proofs.Common.{arith}
use Rattle.std.proofs.lemmas.Fmt.{length-decimal-le}
use Rattle.fo_world.proofs.error.FileError.text.Goals as goal

pub append_decimal-requires : goal.append_decimal-requires
append_decimal-requires c =
    let short = length-decimal-le 10 c.in-Damaged.block (omega arith) (omega arith) (omega arith) in
    rw (c.append-in-Damaged.ensures, c.new-text.ensures) (omega arith)
