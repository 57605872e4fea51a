use Rattle.std.proofs.lemmas.Result.{err_from_is_err_and}
use Rattle.fo_looks.proofs.Looks.{looks_joins}
use Rattle.fo_tree_read.proofs.Exits.{looks_none}
use Rattle.fo_tree_read.proofs.Looks.{any_failed_later}
use Rattle.fo_arch_walk.proofs.Opening.{open_root, open_looks, open_next}
use Rattle.fo_arch_walk.proofs.walk.next_block.Goals as goal

pub loop-next-init : goal.loop-next-init
loop-next-init g c =
    let s = g.B.Blocks.state c.args.on.now in
    let o = open_root c.args.done.now s c.args.root c.requires.block c.requires.open in
    record { here = o; before = o; looks = looks_none s; keeps = g.met.B.Blocks.keeps_at_once c.args.on.now }

pub returns-in_err-next-clause-looks : goal.returns-in_err-next-clause-looks
returns-in_err-next-clause-looks g c =
    looks_joins (g.met.B.Blocks.keeps_all c.args.on.now c.loop-next.on c.loop-next.invariant.keeps) c.loop-next.invariant.looks c.in_err-next.ensures.looks

pub returns-in_err-next-clause-cause : goal.returns-in_err-next-clause-cause
returns-in_err-next-clause-cause g c =
    let p = err_from_is_err_and c.from_residual.result c.from_residual.ensures.1 in
    any_failed_later (g.B.Blocks.state c.args.on.now) (g.B.Blocks.state c.loop-next.on) (g.B.Blocks.state c.look.new.on) (g.met.B.Blocks.keeps_all c.args.on.now c.loop-next.on c.loop-next.invariant.keeps) c.from_residual.result
    (rw (p.1, p.2) c.in_err-next.ensures.cause)

pub loop-next-preserved : goal.loop-next-preserved
loop-next-preserved g c =
    let all = g.met.B.Blocks.keeps_all c.loop-next.on c.look.new.on c.in_ok-next.ensures.keeps in
    let still = open_looks c.args.done.now c.args.root c.loop-next.spot all c.in_ok-next.ensures.looks c.loop-next.invariant.here in
    let finds = rw c.in-Some.is at c.in_ok-next.ensures.finds in
    record {
      here = open_next c.args.done.now c.args.root c.loop-next.spot c.in-Some.next still finds.0 finds.1 (rw c.in-Some.is at c.in_ok-next.ensures.block);
      before = still;
      looks = looks_joins (g.met.B.Blocks.keeps_all c.args.on.now c.loop-next.on c.loop-next.invariant.keeps) c.loop-next.invariant.looks c.in_ok-next.ensures.looks;
      keeps = g.met.B.Blocks.keeps_joins c.args.on.now c.loop-next.on c.look.new.on c.loop-next.invariant.keeps c.in_ok-next.ensures.keeps;
    }

pub returns-clause-next : goal.returns-clause-next
returns-clause-next g c =
    let all = g.met.B.Blocks.keeps_all c.loop-next.on c.look.new.on c.in_ok-next.ensures.keeps in
    record {
      here = open_looks c.args.done.now c.args.root c.loop-next.spot all c.in_ok-next.ensures.looks c.loop-next.invariant.here;
      before = open_looks c.args.done.now c.args.root c.loop-next.above all c.in_ok-next.ensures.looks c.loop-next.invariant.before;
      is = rw c.in_default.is at c.in_ok-next.ensures.finds;
    }

pub returns-clause-looks : goal.returns-clause-looks
returns-clause-looks g c =
    looks_joins (g.met.B.Blocks.keeps_all c.args.on.now c.loop-next.on c.loop-next.invariant.keeps) c.loop-next.invariant.looks c.in_ok-next.ensures.looks
