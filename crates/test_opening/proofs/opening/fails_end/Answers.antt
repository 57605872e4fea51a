use Rattle.test_opening.proofs.opening.fails_end.Goals as goal

pub invariant_of-cache : goal.invariant_of-cache
invariant_of-cache c =
    let m = c.end-second.new.cache.mind in
    record {
      placed = m.placed;
      rooted = m.rooted;
      spelled = m.spelled;
      labelled = m.labelled;
      holding = m.holding;
      changing = m.changing;
      waiting = m.waiting;
      clearable = m.clearable;
      standing = m.standing;
      root_in = m.root_in;
      owing = m.owing;
      roomy = m.roomy;
      making = m.making;
      turning = m.turning;
      rests = m.rests;
      awaits = m.awaits;
      clears_more = m.clears_more;
      numbered = m.numbered;
      granting = m.granting;
    }
