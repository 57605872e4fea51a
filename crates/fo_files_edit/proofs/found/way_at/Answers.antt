use Rattle.std.proofs.Common.{◌≤◌, length, sym, subst}
use Rattle.std.specs.Prelude.{Option, IfSome}
use Rattle.fo_files_into.specs.of_files_at.declared.at.Way.{Way}
use Rattle.fo_files_into.specs.of_files_at.Way.{IsWay}
use Rattle.fo_files_into.proofs.of_files_along.Refusing.{blocks_are}
use Rattle.fo_files_edit.specs.Asks.{IsUnfound}
use Rattle.fo_files_edit.proofs.Refusing.{unfound}
use Rattle.fo_files_into.specs.of_files_look.Told.{file_error}
use Rattle.fo_files_edit.proofs.found.way_at.Goals as goal

pub returns-in-Ok-Some-clause-way : goal.returns-in-Ok-Some-clause-way
returns-in-Ok-Some-clause-way g c =
    let u = g.B.Blocks.state c.at_place.new.on in
    subst (λ t. IsWay u c.args.root t c.in-Ok-Some.way) c.as_slice.ensures (subst (λ (o : Option Way). IfSome o (IsWay u c.args.root c.as_slice.result.now)) c.in-Ok-Some.field-0-is c.in-Ok-Some.ensures.way)

pub returns-in-Ok-Some-clause-short : goal.returns-in-Ok-Some-clause-short
returns-in-Ok-Some-clause-short g c =
    subst (λ t. length t ≤ 65) c.as_slice.ensures (subst (λ (o : Option Way). IfSome o (λ w. length c.as_slice.result.now ≤ 65)) c.in-Ok-Some.field-0-is c.in-Ok-Some.ensures.short)

pub returns-in-Err-clause-unfound : goal.returns-in-Err-clause-unfound
returns-in-Err-clause-unfound g c = subst (λ e. IsUnfound e) (sym c.file_error.ensures) (unfound (file_error c.in-Err.why) (blocks_are c.in-Err.why))
