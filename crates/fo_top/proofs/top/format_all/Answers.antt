use Rattle.fo_top.proofs.Causes.{tool_causes, tool_serves}
use Rattle.fo_top.proofs.top.format_all.Goals as goal

pub returns-clause-formats : goal.returns-clause-formats
returns-clause-formats g c = record {
  how = c.flfmt.result;
  end_is = c.from-why.ensures;
  time = c.now.result;
  now = c.now.ensures.says;
  prints = c.flfmt.ensures.prints;
  sized = c.flfmt.ensures.sized;
  asked = c.flfmt.ensures.asked;
  ends = c.flfmt.ensures.ends;
  main_kept = c.flfmt.ensures.main;
  arena_kept = c.flfmt.ensures.arena;
}

pub returns-clause-causes : goal.returns-clause-causes
returns-clause-causes g c = tool_causes _ _ c.flfmt.result _ c.from-why.ensures c.flfmt.ensures.causes

pub returns-clause-used : goal.returns-clause-used
returns-clause-used g c = λ e. tool_serves c.flfmt.result _ c.from-why.ensures e
