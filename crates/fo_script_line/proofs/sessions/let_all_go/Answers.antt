use Rattle.fo_script_line.proofs.Letting.{letting_starts, letting_more, letting_ends, not_fewer_then, not_fewer_same}
use Rattle.fo_script_line.proofs.sessions.let_all_go.Goals as goal

pub fids-init : goal.fids-init
fids-init g c = record { letting = letting_starts _ _ _ _; later = not_fewer_same _ }

pub fids-preserved : goal.fids-preserved
fids-preserved g c = record {
  letting = letting_more _ _ _ _ _ _ c.drop_one-more.result.0 c.drop_one-more.result.1 c.fids.invariant.letting c.if-not-more.false c.drop_one-more.ensures.goes;
  later = not_fewer_then _ _ _ c.fids.invariant.later c.drop_one-more.ensures.later;
}

pub returns-then-not-more-clause-gone : goal.returns-then-not-more-clause-gone
returns-then-not-more-clause-gone g c =
    letting_ends _ _ _ _ _ _ c.drop_one-more.result.0 c.drop_one-more.result.1 c.fids.invariant.letting c.if-not-more.true (c.drop_one-more.ensures.none c.if-not-more.true) c.drop_one-more.ensures.goes

pub returns-then-not-more-clause-later : goal.returns-then-not-more-clause-later
returns-then-not-more-clause-later g c = not_fewer_then _ _ _ c.fids.invariant.later c.drop_one-more.ensures.later
