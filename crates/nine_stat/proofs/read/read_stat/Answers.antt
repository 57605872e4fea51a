use Rattle.std.proofs.Common.{arith}
use Rattle.nine_stat.proofs.Records.{record_read, record_once, no_record, no_stat}
use Rattle.nine_stat.proofs.read.read_stat.Goals as goal

pub returns-in-Ok-clause-found : goal.returns-in-Ok-clause-found
returns-in-Ok-clause-found c = record_read c.args.bytes.now c.in-Ok.stat (record { below = λ i. omega (arith, c.type_inv.bytes i) }) c.in-Ok.ensures

pub returns-in-Ok-clause-only : goal.returns-in-Ok-clause-only
returns-in-Ok-clause-only c = λ s is. record_once c.args.bytes.now c.in-Ok.stat s c.in-Ok.ensures is

pub returns-in-Err-Malformed-clause-only : goal.returns-in-Err-Malformed-clause-only
returns-in-Err-Malformed-clause-only c =
    let none = rw c.in-Err-Malformed.field-0-is at c.in-Err-Malformed.ensures in
    λ s is. absurd (no_record c.args.bytes.now s none is)

pub returns-in-Err-Malformed-clause-bad : goal.returns-in-Err-Malformed-clause-bad
returns-in-Err-Malformed-clause-bad c =
    let none = rw c.in-Err-Malformed.field-0-is at c.in-Err-Malformed.ensures in
    λ e is. no_stat c.args.bytes.now none is
