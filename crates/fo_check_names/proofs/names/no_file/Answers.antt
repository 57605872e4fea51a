use Rattle.std.proofs.Common.{sym, rules, arith}
use Rattle.std.proofs.lemmas.List.{take_all}
use Rattle.std.proofs.lemmas.List.Elements.{All-more, All-same}
use Rattle.fo_check_names.specs.Names.{IsFileNumber}
use Rattle.fo_check_names.proofs.names.no_file.Goals as goal

pub loop-n-preserved : goal.loop-n-preserved
loop-n-preserved c = All-more (IsFileNumber c.args.limit) c.args.found.now c.loop-n.n-index _ (omega (arith, c.loop-n-test.true)) c.loop-n.invariant (c.is_file.ensures.0 (search rules))

pub returns : goal.returns
returns c = All-same (IsFileNumber c.args.limit) _ _ (sym (take_all c.loop-n.n-index c.args.found.now (omega (arith, c.loop-n-test.false)))) c.loop-n.invariant
