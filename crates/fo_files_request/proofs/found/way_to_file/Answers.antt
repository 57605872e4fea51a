use Rattle.std.proofs.Common.{inr, subst}
use Rattle.std.specs.Prelude.{Option, IfSome}
use Rattle.fo_files_into.specs.of_files_at.declared.at.Way.{Way}
use Rattle.fo_files_into.specs.of_files_at.Way.{IsWay}
use Rattle.fo_files_request.proofs.found.way_to_file.Goals as goal

pub returns-then-way-clause-refused : goal.returns-then-way-clause-refused
returns-then-way-clause-refused g c = λ view offset n halted. inr (c.at_place.new.on, c.in-Ok-Some.way, subst (λ (o : Option Way). IfSome o (IsWay (g.B.Blocks.state c.at_place.new.on) c.args.root c.args.trail.now)) c.in-Ok-Some.field-0-is c.in-Ok-Some.ensures.way, c.if-way.true)
