use Rattle.std.proofs.Common.{refl, arith}
use Rattle.std.proofs.lemmas.Result.{err_from_is_err_and}
use Rattle.fo_looks.proofs.Looks.{looks_joins}
use Rattle.fo_tree_read.proofs.Looks.{any_failed_later}
use Rattle.fo_tree_read.proofs.Slots.{only_place}
use Rattle.fo_arch_walk.proofs.Steps.{of_snapshot_stands}
use Rattle.fo_arch_walk.proofs.Opening.{open_looks, open_told}
use Rattle.fo_arch_walk.proofs.Beside.{got_looks, batching_looks, get_failed}
use Rattle.fo_arch_walk.proofs.siblings.add_siblings.Goals as goal

pub get-requires-clause-place : goal.get-requires-clause-place
get-requires-clause-place g c told p stands =
    let on = c.args.on.now in
    only_place (g.met.B.Blocks.one_place on)
    (of_snapshot_stands c.args.above (g.met.B.Blocks.placed on (g.B.Blocks.state on).now (g.met.B.Blocks.present on told)) (λ t top not_one. g.met.B.Blocks.top_stands on t told top not_one) (open_told c.args.root c.args.above (c.requires.told told) c.requires.open told))
    p stands

pub loop-i-init : goal.loop-i-init
loop-i-init g c =
    let all = g.met.B.Blocks.keeps_all c.args.on.now c.get.new.self c.in_ok-get.ensures.keeps in
    record {
      got = record {
        here = open_looks c.args.done.now c.args.root c.args.above all c.in_ok-get.ensures.looks c.requires.open;
        content = (g.B.Blocks.state c.get.new.self).now c.args.above.at;
        slots = c.in_ok-get.ensures.bytes.1;
        known = λ tells. record { bytes = refl; slots = λ i. refl };
        names = c.in_ok-get.ensures.names;
      };
      batching = batching_looks c.args.done.now c.args.root c.args.pieces.now.items all c.in_ok-get.ensures.looks c.requires.batching;
      low = omega arith;
      few = c.requires.few;
      looks = c.in_ok-get.ensures.looks;
      keeps = c.in_ok-get.ensures.keeps;
    }

pub loop-i-preserved : goal.loop-i-preserved
loop-i-preserved g c =
    let all = g.met.B.Blocks.keeps_all c.loop-i.on c.add_child.new.on c.in_ok-goes_on.ensures.keeps in
    record {
      got = got_looks c.args.done.now c.args.root c.args.above _ all c.in_ok-goes_on.ensures.looks c.loop-i.invariant.got;
      batching = c.in_ok-goes_on.ensures.batching;
      low = omega (arith, c.loop-i.invariant.low, c.in_ok-goes_on.ensures.count.0);
      few = omega (arith, c.in_ok-goes_on.ensures.count.1, c.if-n-len.false, c.len.ensures);
      looks = looks_joins (g.met.B.Blocks.keeps_all c.args.on.now c.loop-i.on c.loop-i.invariant.keeps) c.loop-i.invariant.looks c.in_ok-goes_on.ensures.looks;
      keeps = g.met.B.Blocks.keeps_joins c.args.on.now c.loop-i.on c.add_child.new.on c.loop-i.invariant.keeps c.in_ok-goes_on.ensures.keeps;
    }

pub returns-in_err-goes_on-clause-looks : goal.returns-in_err-goes_on-clause-looks
returns-in_err-goes_on-clause-looks g c = looks_joins (g.met.B.Blocks.keeps_all c.args.on.now c.loop-i.on c.loop-i.invariant.keeps) c.loop-i.invariant.looks c.in_err-goes_on.ensures.looks

pub returns-in_err-get-clause-cause : goal.returns-in_err-get-clause-cause
returns-in_err-get-clause-cause g c =
    let on = c.args.on.now in
    let p = err_from_is_err_and c.from_residual.result c.from_residual.ensures.1 in
    get_failed (g.B.Blocks.state on) (g.B.Blocks.state c.get.new.self) c.args.above.at c.requires.open.is_one
    (λ told.
    let s = of_snapshot_stands c.args.above (g.met.B.Blocks.placed on (g.B.Blocks.state on).now (g.met.B.Blocks.present on told)) (λ t top not_one. g.met.B.Blocks.top_stands on t told top not_one) (open_told c.args.root c.args.above (c.requires.told told) c.requires.open told) in
    (s.there, s.stands))
    c.from_residual.result (rw (p.1, p.2) c.in_err-get.ensures.cause)

pub returns-in_err-goes_on-clause-cause : goal.returns-in_err-goes_on-clause-cause
returns-in_err-goes_on-clause-cause g c =
    let p = err_from_is_err_and c.from_residual-in_err-goes_on.result c.from_residual-in_err-goes_on.ensures.1 in
    any_failed_later (g.B.Blocks.state c.args.on.now) (g.B.Blocks.state c.loop-i.on) (g.B.Blocks.state c.add_child.new.on) (g.met.B.Blocks.keeps_all c.args.on.now c.loop-i.on c.loop-i.invariant.keeps) c.from_residual-in_err-goes_on.result
    (rw (p.1, p.2) c.in_err-goes_on.ensures.cause)

pub returns-then-not-goes_on-clause-looks : goal.returns-then-not-goes_on-clause-looks
returns-then-not-goes_on-clause-looks g c = looks_joins (g.met.B.Blocks.keeps_all c.args.on.now c.loop-i.on c.loop-i.invariant.keeps) c.loop-i.invariant.looks c.in_ok-goes_on.ensures.looks
