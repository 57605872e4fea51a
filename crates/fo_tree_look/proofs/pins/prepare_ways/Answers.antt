use Rattle.std.proofs.Common.{rules, ◌≡◌, ◌+◌, ◌-◌, ◌/◌, ◌%◌, ◌<◌, ◌≤◌, IfErr, inl, ⊎_elim, subst, arith}
use Rattle.std.proofs.lemmas.Bool.{cases_lt}
use Rattle.fo_tree_read.specs.Tree.{Refused, Names}
use Rattle.fo_tree_read.specs.Reading.{most, HasLeafPins, HasPassed}
use Rattle.fo_tree_read.proofs.of_looks.Looks.{looks_joins}
use Rattle.fo_tree_read.proofs.Looks.{any_refused_later}
use Rattle.fo_tree_read.proofs.Exits.{looks_none}
use Rattle.fo_tree_read.proofs.Walk.{names_looks}
use Rattle.fo_tree_read.proofs.Passed.{pins_here, passed_more, has_next, pins_last}
use Rattle.fo_tree_look.specs.Source.{WayReady, WaysReady}
use Rattle.fo_tree_look.proofs.Shown.{over_looks, over_extends, extends_none, extends_joins, way_on, leaf_got}
use Rattle.fo_tree_look.proofs.pins.prepare_ways.Goals as goal

pub loop-done-init : goal.loop-done-init
loop-done-init g c = record {
  within = omega arith;
  looks = looks_none (g.B.Blocks.state c.args.on.now);
  keeps = g.met.B.Blocks.keeps_at_once c.args.on.now;
  more = extends_none (g.met.B.Blocks.keeps_all c.args.on.now c.args.on.now (g.met.B.Blocks.keeps_at_once c.args.on.now)) c.args.kept.now.items c.requires.over.1.held;
  ready = λ enough. record { each = λ k from to. absurd (omega (arith, from, to)) };
  been = record { is = inl (omega arith, omega arith) };
}

pub prepare_leaf-requires-clause-over : goal.prepare_leaf-requires-clause-over
prepare_leaf-requires-clause-over g c =
    let i = c.loop-done.invariant in
    (c.requires.over.0, over_extends (over_looks (g.met.B.Blocks.keeps_all c.args.on.now c.loop-done.on i.keeps) i.looks c.requires.over.1) i.more)

pub returns-in_err-prepare_leaf-clause-looks : goal.returns-in_err-prepare_leaf-clause-looks
returns-in_err-prepare_leaf-clause-looks g c =
    let i = c.loop-done.invariant in
    looks_joins (g.met.B.Blocks.keeps_all c.args.on.now c.loop-done.on i.keeps) i.looks c.prepare_leaf.ensures.looks

pub returns-in_err-prepare_leaf-clause-keeps : goal.returns-in_err-prepare_leaf-clause-keeps
returns-in_err-prepare_leaf-clause-keeps g c = g.met.B.Blocks.keeps_joins c.args.on.now c.loop-done.on c.prepare_leaf.new.on c.loop-done.invariant.keeps c.prepare_leaf.ensures.keeps

pub returns-in_err-prepare_leaf-clause-more : goal.returns-in_err-prepare_leaf-clause-more
returns-in_err-prepare_leaf-clause-more g c = extends_joins c.loop-done.invariant.more c.prepare_leaf.ensures.more

pub returns-in_err-prepare_leaf-clause-pins : goal.returns-in_err-prepare_leaf-clause-pins
returns-in_err-prepare_leaf-clause-pins g c =
    let old = g.B.Blocks.state c.args.on.now in
    let mid = g.B.Blocks.state c.loop-done.on in
    let new = g.B.Blocks.state c.prepare_leaf.new.on in
    let t = c.args.tree.now in
    let i = c.loop-done.invariant in
    let all = g.met.B.Blocks.keeps_all c.args.on.now c.loop-done.on i.keeps in
    let n = c.min-count.result in
    let count = c.min-count.ensures in
    let lt : c.loop-done.done < c.args.len = omega arith in
    pins_here mid new t old.pins_left c.args.offset c.loop-done.done n c.args.len c.requires.over.1.hangs.few (omega (arith, count, lt)) (omega (arith, count)) (omega (arith, count, lt)) c.prepare_leaf.ensures.pins c.prepare_leaf.ensures.near i.been

pub returns-in_err-prepare_leaf-clause-cause : goal.returns-in_err-prepare_leaf-clause-cause
returns-in_err-prepare_leaf-clause-cause g c =
    let old = g.B.Blocks.state c.args.on.now in
    let mid = g.B.Blocks.state c.loop-done.on in
    let new = g.B.Blocks.state c.prepare_leaf.new.on in
    let t = c.args.tree.now in
    let i = c.loop-done.invariant in
    let all = g.met.B.Blocks.keeps_all c.args.on.now c.loop-done.on i.keeps in
    let here : IfErr c.from_residual.result (Refused mid new (Names mid t)) = search rules in
    any_refused_later old mid new (Names mid t) (Names old t) all (names_looks all i.looks) c.from_residual.result here

pub loop-done-preserved : goal.loop-done-preserved
loop-done-preserved g c =
    let old = g.B.Blocks.state c.args.on.now in
    let mid = g.B.Blocks.state c.loop-done.on in
    let new = g.B.Blocks.state c.prepare_leaf.new.on in
    let t = c.args.tree.now in
    let i = c.loop-done.invariant in
    let all = g.met.B.Blocks.keeps_all c.args.on.now c.loop-done.on i.keeps in
    let done = c.loop-done.done in
    let len = c.args.len in
    let before = old.pins_left in
    let n = c.min-count.result in
    let offset = c.args.offset in
    let kept = c.loop-done.kept.items in
    let last = c.prepare_leaf.new.kept.items in
    let more = g.met.B.Blocks.keeps_all c.loop-done.on c.prepare_leaf.new.on c.prepare_leaf.ensures.keeps in
    let more_looks = c.prepare_leaf.ensures.looks in
    let count = c.min-count.ensures in
    let lt : done < len = omega arith in
    let some : 0 < n = omega (arith, count, lt) in
    let part : n ≤ 8192 - (offset + done) % 8192 = omega (arith, count) in
    let inside : done + n ≤ len = omega (arith, count, lt) in
    let few = c.requires.over.1.hangs.few in
    let pins = c.prepare_leaf.ensures.pins in
    let near = c.prepare_leaf.ensures.near in
    let has : most t.depth len ≤ before → HasLeafPins mid t ((offset + done) / 8192) = λ enough.
    has_next mid new t before offset done n len few some part inside pins near i.been enough
    (λ some_done. leaf_got mid t kept ((offset + done - 1) / 8192) ((i.ready enough).each (offset + done - 1) (omega (arith, some_done)) (omega (arith, some_done)))) in
    record {
      within = inside;
      looks = looks_joins all i.looks more_looks;
      keeps = g.met.B.Blocks.keeps_joins c.args.on.now c.loop-done.on c.prepare_leaf.new.on i.keeps c.prepare_leaf.ensures.keeps;
      more = extends_joins i.more c.prepare_leaf.ensures.more;
      ready = λ enough. record {
        each = λ x from to. ⊎_elim
            (λ below. way_on mid new t kept last more more_looks c.prepare_leaf.ensures.more t.depth (x / 8192) ((i.ready enough).each x from below))
            (λ above.
            let same : (offset + done) / 8192 ≡ x / 8192 = omega (arith, above, to, part) in
            subst (λ y. WayReady new t last t.depth y) same (c.in_ok-prepare_leaf.ensures.ready (has enough)))
            (cases_lt x (offset + done));
      };
      been = passed_more mid new t before offset done n len few some part inside pins near i.been (λ pins_left. leaf_got new t last ((offset + done) / 8192) (c.in_ok-prepare_leaf.ensures.ready pins_left));
    }

pub returns-clause-ready : goal.returns-clause-ready
returns-clause-ready g c = λ enough.
    let within = c.loop-done.invariant.within in
    let all : c.loop-done.done ≡ c.args.len = omega (arith, within) in
    subst (λ d. WaysReady (g.B.Blocks.state c.loop-done.on) c.args.tree.now c.loop-done.kept.items c.args.offset d) all (c.loop-done.invariant.ready enough)

pub returns-clause-pins : goal.returns-clause-pins
returns-clause-pins g c =
    let within = c.loop-done.invariant.within in
    let all : c.loop-done.done ≡ c.args.len = omega (arith, within) in
    pins_last (g.B.Blocks.state c.loop-done.on) c.args.tree.now (g.B.Blocks.state c.args.on.now).pins_left c.args.offset c.args.len c.requires.over.1.hangs.few (subst (λ d. HasPassed (g.B.Blocks.state c.loop-done.on) c.args.tree.now (g.B.Blocks.state c.args.on.now).pins_left c.args.offset d) all c.loop-done.invariant.been)
