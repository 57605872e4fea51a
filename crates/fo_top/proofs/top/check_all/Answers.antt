use Rattle.fo_top.proofs.Causes.{tool_causes, tool_serves}
use Rattle.fo_top.proofs.top.check_all.Goals as goal

pub returns-clause-checks : goal.returns-clause-checks
returns-clause-checks g c = record {
  how = c.flchk.result;
  end_is = c.from-why.ensures;
  sized = c.flchk.ensures.sized;
  asked = c.flchk.ensures.asked;
  prints = c.flchk.ensures.prints;
  ends = c.flchk.ensures.ends;
  only = c.flchk.ensures.only;
  main_kept = c.flchk.ensures.main;
  arena_kept = c.flchk.ensures.arena;
}

pub returns-clause-causes : goal.returns-clause-causes
returns-clause-causes g c = tool_causes _ _ c.flchk.result _ c.from-why.ensures c.flchk.ensures.causes

pub returns-clause-used : goal.returns-clause-used
returns-clause-used g c = λ e. tool_serves c.flchk.result _ c.from-why.ensures e
