use Rattle.std.proofs.lemmas.Result.{err_from_is_err_and}
use Rattle.fo_looks.proofs.Looks.{looks_joins}
use Rattle.fo_tree_read.proofs.Looks.{any_failed_later}
use Rattle.fo_arch_walk.proofs.pieces.next_pieces.Goals as goal

pub returns-in_err-add_siblings-clause-looks : goal.returns-in_err-add_siblings-clause-looks
returns-in_err-add_siblings-clause-looks g c = looks_joins (g.met.B.Blocks.keeps_all c.args.on.now c.next_block.new.on c.in_ok-spot.ensures.keeps) c.in_ok-spot.ensures.looks c.in_err-add_siblings.ensures.looks

pub returns-in_err-add_siblings-clause-cause : goal.returns-in_err-add_siblings-clause-cause
returns-in_err-add_siblings-clause-cause g c =
    let p = err_from_is_err_and c.from_residual-in_err-add_siblings.result c.from_residual-in_err-add_siblings.ensures.1 in
    any_failed_later (g.B.Blocks.state c.args.on.now) (g.B.Blocks.state c.next_block.new.on) (g.B.Blocks.state c.add_siblings.new.on) (g.met.B.Blocks.keeps_all c.args.on.now c.next_block.new.on c.in_ok-spot.ensures.keeps) c.from_residual-in_err-add_siblings.result
    (rw (p.1, p.2) c.in_err-add_siblings.ensures.cause)

pub returns-clause-looks : goal.returns-clause-looks
returns-clause-looks g c = looks_joins (g.met.B.Blocks.keeps_all c.args.on.now c.next_block.new.on c.in_ok-spot.ensures.keeps) c.in_ok-spot.ensures.looks c.in_ok-add_siblings.ensures.looks

pub returns-clause-keeps : goal.returns-clause-keeps
returns-clause-keeps g c = g.met.B.Blocks.keeps_joins c.args.on.now c.next_block.new.on c.add_siblings.new.on c.in_ok-spot.ensures.keeps c.in_ok-add_siblings.ensures.keeps
