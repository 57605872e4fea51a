use Rattle.std.proofs.Common.{refl, sym, ap, ◌∙◌}
use Rattle.fo_top.proofs.Causes.{is_of_requests, link_only, link_input, link_output, worked_causes, worked_uses, worked_sized}
use Rattle.fo_top.proofs.system.talk.Goals as goal

pub returns-clause-works : goal.returns-clause-works
returns-clause-works g c = record {
  first = c.new-system.result;
  first_is = rw c.new-system.ensures.turner refl;
  last = c.serve.new.machine;
  how = c.from-how.result;
  done = (c.new-system.ensures.session, record { link = c.serve.result; how_is = c.from-how.ensures; readings = g.C.Clock.coming c.serve.new.clock; talk = c.serve.ensures.talk });
  later = rw c.new-system.ensures.turner at c.serve.ensures.later;
  finishes = rw c.into_turner.ensures at c.finish.ensures;
}

pub returns-clause-causes : goal.returns-clause-causes
unfolding returns-clause-works
returns-clause-causes g c = worked_causes _ _ _ _ _ (returns-clause-works g c) (ap is_of_requests c.from-how.ensures ∙ link_only c.serve.result) _ _ _ _ c.serve.ensures.input_later c.serve.ensures.output_later
    (λ e. c.serve.ensures.input (link_input c.serve.result (sym c.from-how.ensures ∙ e)))
    (λ e. c.serve.ensures.output (link_output c.serve.result (sym c.from-how.ensures ∙ e)))

pub returns-clause-used : goal.returns-clause-used
unfolding returns-clause-works
returns-clause-used g c = λ e. worked_uses _ _ _ _ _ (returns-clause-works g c) (ap is_of_requests c.from-how.ensures ∙ link_only c.serve.result) e

pub returns-clause-sized : goal.returns-clause-sized
unfolding returns-clause-works
returns-clause-sized g c = λ e. worked_sized _ _ _ _ _ (returns-clause-works g c) (ap is_of_requests c.from-how.ensures ∙ link_only c.serve.result) e
