use Rattle.std.proofs.Common.{refl, ◌∙◌, arith}
use Rattle.std.proofs.lemmas.Option.{slice_get_within}
use Rattle.fo_linking.proofs.Joining.{grows_none, grows_on, looked, looks_on}
use Rattle.fo_linking.proofs.linking.link_listed.Goals as goal

pub loop-done-init : goal.loop-done-init
loop-done-init c = record {
  able = c.requires.able;
  capacity = refl;
  within = omega arith;
  looks = λ old l. l;
  grows = grows_none c.args.buffers.now c.args.facts.now c.args.order.now c.args.links.now.items;
  only = λ old to r. r;
}

pub loop-done-preserved : goal.loop-done-preserved
loop-done-preserved c =
    let i = c.loop-done.invariant in
    let n = c.loop-done.done in
    let at = c.listed-at.result in
    let here = c.listed-at.ensures in
    let b = c.link_below.ensures in
    let list = c.link_below.new.links.items in
    let still = b.grows.kept n at here in
    let lt = slice_get_within list n at still in
    record {
      able = b.able;
      capacity = b.capacity ∙ i.capacity;
      within = omega (arith, lt);
      looks = λ old l. looks_on list n at still b.linked (b.grows.looks c.args.labels.now old n i.within (i.looks old l));
      grows = grows_on i.grows b.grows;
      only = λ old to r. let s = i.only old to r in let h = s.listed n at here in b.only old to (s.each at h) h.0 s;
    }

pub returns-clause-looked : goal.returns-clause-looked
returns-clause-looked c = λ old l.
    let end = c.loop-done-test.false in
    let len = c.len.ensures in
    let ok = c.loop-done.links.ok.0 in
    looked c.loop-done.links.items c.loop-done.done (omega (arith, end, len, ok)) (c.loop-done.invariant.looks old l)
