use Rattle.std.proofs.Common.{◌≡◌, pos, ◌/◌, ◌+ℤ◌, ◌∙◌, arith, FitsSigned, w64}
use Rattle.std.proofs.lemmas.Int.{to_z-of_z}
use Rattle.jiff.specs.Words.{epoch_day}
use Rattle.jiff.proofs.SpanFacts.{signed_arith, date_add-days, can_add-days}
use Rattle.fo_names.proofs.DayLemmas.{first_day, counted}
use Rattle.fo_names.proofs.names.date_of.Goals as goal

pub add-requires : goal.add-requires
add-requires c =
    let f8 : FitsSigned w64 c.from-days.result = omega (arith, signed_arith, c.from-days.ensures) in
    let only = simp to_z-of_z at c.days.ensures in
    let first = first_day c.date.result c.date.ensures in
    (can_add-days c.date.result c.from-days.result c.days.result only).1 (omega (arith, signed_arith, first, c.from-days.ensures), omega (arith, signed_arith, first, c.from-days.ensures))

pub returns : goal.returns
returns c =
    let f8 : FitsSigned w64 c.from-days.result = omega (arith, signed_arith, c.from-days.ensures) in
    let only = simp to_z-of_z at c.days.ensures in
    let first = first_day c.date.result c.date.ensures in
    let added = date_add-days c.date.result c.from-days.result c.days.result only in
    let number : epoch_day c.add.result ≡ pos (c.args.time / 86400) = omega (arith, signed_arith, c.add.ensures, added, first, c.from-days.ensures) in
    let d = counted c.add.result (c.args.time / 86400) (omega arith) number in
    record { year = d.0; month = d.1; day = d.2 }
