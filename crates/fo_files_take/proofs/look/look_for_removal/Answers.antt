use Rattle.std.proofs.Common.{sym, subst}
use Rattle.fo_looks.proofs.Looks.{looks_joins}
use Rattle.fo_files_along.specs.of_files_at.Way.{IsWay}
use Rattle.fo_files_along.proofs.of_files_at.Ways.{way_stays}
use Rattle.fo_files_along.proofs.Ways.{file_holds}
use Rattle.fo_files_take.proofs.Refusing.{refused_wider}
use Rattle.fo_files_take.proofs.look.look_for_removal.Goals as goal

pub may_remove-requires-clause-holds : goal.may_remove-requires-clause-holds
may_remove-requires-clause-holds g c = file_holds (g.B.Blocks.state c.way_to.new.on) c.args.root c.args.at.now.trail c.in-Ok.way c.in-Ok.ensures.way

pub returns-in-Err-clause-refused : goal.returns-in-Err-clause-refused
returns-in-Err-clause-refused g c = refused_wider c.args.at.now.view c.args.halted ⊥ _ c.in-Err.why (λ no'. absurd no') (c.in-Err.ensures.aside c.args.at.now.view c.args.halted)

pub returns-in-Err-may_remove-clause-refused : goal.returns-in-Err-may_remove-clause-refused
returns-in-Err-may_remove-clause-refused g c = refused_wider c.args.at.now.view c.args.halted _ _ c.in-Err-may_remove.why (λ dir. (c.way_to.new.on, c.in-Ok.way, c.in-Ok.ensures.way, dir)) c.in-Err-may_remove.ensures.refused

pub returns-in-Err-found_at-clause-refused : goal.returns-in-Err-found_at-clause-refused
returns-in-Err-found_at-clause-refused g c = refused_wider c.args.at.now.view c.args.halted ⊥ _ c.in-Err-found_at.why (λ no'. absurd no') (c.in-Err-found_at.ensures.aside c.args.at.now.view c.args.halted)

pub returns-in-Err-may_remove-clause-looks : goal.returns-in-Err-may_remove-clause-looks
returns-in-Err-may_remove-clause-looks g c = (
  looks_joins (g.met.B.Blocks.keeps_all c.args.on.now c.way_to.new.on c.way_to.ensures.looks.1) c.way_to.ensures.looks.0 c.may_remove.ensures.looks.0,
  g.met.B.Blocks.keeps_joins c.args.on.now c.way_to.new.on c.may_remove.new.on c.way_to.ensures.looks.1 c.may_remove.ensures.looks.1,
)

pub found_at-requires-clause-way : goal.found_at-requires-clause-way
found_at-requires-clause-way g c = subst (λ t. IsWay (g.B.Blocks.state c.may_remove.new.on) c.args.root t c.in-Ok.way) (sym c.as_slice.ensures)
    (way_stays (g.B.Blocks.state c.way_to.new.on) (g.B.Blocks.state c.may_remove.new.on) c.args.root c.args.at.now.trail c.in-Ok.way (g.met.B.Blocks.keeps_all c.way_to.new.on c.may_remove.new.on c.may_remove.ensures.looks.1) c.in-Ok.ensures.way)

pub returns-in-Ok-found_at-clause-looks : goal.returns-in-Ok-found_at-clause-looks
returns-in-Ok-found_at-clause-looks g c =
    let both = g.met.B.Blocks.keeps_joins c.args.on.now c.way_to.new.on c.may_remove.new.on c.way_to.ensures.looks.1 c.may_remove.ensures.looks.1 in
    let seen = looks_joins (g.met.B.Blocks.keeps_all c.args.on.now c.way_to.new.on c.way_to.ensures.looks.1) c.way_to.ensures.looks.0 c.may_remove.ensures.looks.0 in
    (looks_joins (g.met.B.Blocks.keeps_all c.args.on.now c.may_remove.new.on both) seen c.found_at.ensures.looks.0, g.met.B.Blocks.keeps_joins c.args.on.now c.may_remove.new.on c.found_at.new.on both c.found_at.ensures.looks.1)

pub returns-in-Err-found_at-clause-looks : goal.returns-in-Err-found_at-clause-looks
returns-in-Err-found_at-clause-looks g c =
    let both = g.met.B.Blocks.keeps_joins c.args.on.now c.way_to.new.on c.may_remove.new.on c.way_to.ensures.looks.1 c.may_remove.ensures.looks.1 in
    let seen = looks_joins (g.met.B.Blocks.keeps_all c.args.on.now c.way_to.new.on c.way_to.ensures.looks.1) c.way_to.ensures.looks.0 c.may_remove.ensures.looks.0 in
    (looks_joins (g.met.B.Blocks.keeps_all c.args.on.now c.may_remove.new.on both) seen c.found_at.ensures.looks.0, g.met.B.Blocks.keeps_joins c.args.on.now c.may_remove.new.on c.found_at.new.on both c.found_at.ensures.looks.1)
