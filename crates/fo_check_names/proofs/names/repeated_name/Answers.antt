use Rattle.std.proofs.Common.{arith, sym, ◌∙◌}
use Rattle.std.proofs.lemmas.Slice.Eq.{bytes_eq-Decides}
use Rattle.fo_check_names.specs.Names.{name_of, leaf_of}
use Rattle.fo_check_names.proofs.Orders.{twice_here}
use Rattle.fo_check_names.proofs.names.repeated_name.Goals as goal

pub returns-then-eq : goal.returns-then-eq
returns-then-eq c =
    let same = (bytes_eq-Decides c.as_slice.result.now c.as_slice-in-loop-i.result.now).0 (sym c.eq.ensures ∙ c.if-eq.true) in
    twice_here name_of leaf_of c.args.named.now c.loop-i.i c.index-named-i.result c.index-named-i-in-loop-i.result c.index-named-i-then-eq.result (omega arith) (omega (arith, c.loop-i-test.true)) (sym c.as_slice.ensures ∙ same ∙ c.as_slice-in-loop-i.ensures)
