use Rattle.std.proofs.Common.{refl}
use Rattle.fo_top.specs.Served.{refused}
use Rattle.fo_top.proofs.Causes.{opened_causes, refused_causes, refused_uses}
use Rattle.fo_top.proofs.Serving.{serves_of}
use Rattle.fo_top.proofs.system.serve_all.Goals as goal

pub returns-in-Ok-clause-serves : goal.returns-in-Ok-clause-serves
returns-in-Ok-clause-serves g c = serves_of _ _ _ _ _ _ _ c.talk.ensures.works c.in-Ok.ensures.opened (record { main = c.in-Ok.ensures.later.0; arena = c.in-Ok.ensures.later.1 }) c.in-Ok.ensures.answer

pub returns-in-Ok-clause-causes : goal.returns-in-Ok-clause-causes
returns-in-Ok-clause-causes g c = opened_causes _ _ _ _ _ _ _ _ _ _ _ c.in-Ok.ensures.later.0 c.in-Ok.ensures.later.1 c.talk.ensures.causes c.talk.ensures.sized

pub returns-in-Ok-clause-used : goal.returns-in-Ok-clause-used
returns-in-Ok-clause-used g c = c.talk.ensures.used

pub returns-in-Err-clause-serves : goal.returns-in-Err-clause-serves
returns-in-Err-clause-serves g c = refused (record {
  why = c.in-Err.refused.why;
  end_is = c.refuse.ensures.why;
  main = rw c.refuse.ensures.main c.in-Err.ensures.kept.0;
  arena = rw c.refuse.ensures.arena c.in-Err.ensures.kept.1;
  later = record { main = rw c.refuse.ensures.main c.in-Err.ensures.later.0; arena = rw c.refuse.ensures.arena c.in-Err.ensures.later.1 };
  cause = rw (c.refuse.ensures.main, c.refuse.ensures.arena) c.in-Err.ensures.cause;
  answer = c.in-Err.ensures.answer;
  only = c.in-Err.ensures.only;
}) (refl, refl)

pub returns-in-Err-clause-causes : goal.returns-in-Err-clause-causes
returns-in-Err-clause-causes g c = rw (c.refuse.ensures.main, c.refuse.ensures.arena) (refused_causes _ _ _ _ _ _ c.in-Err.refused.why _ c.in-Err.ensures.later.0 c.in-Err.ensures.later.1 c.in-Err.ensures.cause c.refuse.ensures.why)

pub returns-in-Err-clause-used : goal.returns-in-Err-clause-used
returns-in-Err-clause-used g c = λ e. refused_uses _ _ _ _ c.in-Err.refused.why _ c.in-Err.ensures.cause c.refuse.ensures.why e
