use Rattle.std.proofs.Common.{refl, sym, ap, ◌∙◌}
use Rattle.fo_top.proofs.Causes.{is_of_requests, script_only, script_input, script_output, worked_causes, worked_uses, worked_sized}
use Rattle.fo_top.proofs.system.drive.Goals as goal

pub returns-clause-works : goal.returns-clause-works
returns-clause-works g c = record {
  first = c.args.state;
  first_is = refl;
  last = c.run_script.new.on;
  how = c.from-how.result;
  done = record { script = c.run_script.result; how_is = c.from-how.ensures; ran = c.run_script.ensures.script };
  later = c.run_script.ensures.later;
  finishes = c.finish.ensures;
}

pub returns-clause-causes : goal.returns-clause-causes
unfolding returns-clause-works
returns-clause-causes g c = worked_causes _ _ _ _ _ (returns-clause-works g c) (ap is_of_requests c.from-how.ensures ∙ script_only c.run_script.result) _ _ _ _ c.run_script.ensures.input_later c.run_script.ensures.output_later
    (λ e. c.run_script.ensures.input (script_input c.run_script.result (sym c.from-how.ensures ∙ e)))
    (λ e. c.run_script.ensures.output (script_output c.run_script.result (sym c.from-how.ensures ∙ e)))

pub returns-clause-used : goal.returns-clause-used
unfolding returns-clause-works
returns-clause-used g c = λ e. worked_uses _ _ _ _ _ (returns-clause-works g c) (ap is_of_requests c.from-how.ensures ∙ script_only c.run_script.result) e

pub returns-clause-sized : goal.returns-clause-sized
unfolding returns-clause-works
returns-clause-sized g c = λ e. worked_sized _ _ _ _ _ (returns-clause-works g c) (ap is_of_requests c.from-how.ensures ∙ script_only c.run_script.result) e
