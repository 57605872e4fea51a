use Rattle.test_mind.proofs.mind.ample.Goals as goal

pub invariant_of-mind : goal.invariant_of-mind
invariant_of-mind g c =
    let m = c.has_room-4.new.mind in
    record {
      placed = m.placed;
      rooted = m.rooted;
      spelled = m.spelled;
      labelled = m.labelled;
      holding = m.holding;
      changing = m.changing;
      waiting = m.waiting;
      clearable = m.clearable;
      standing = m.standing;
      root_in = m.root_in;
      owing = m.owing;
      roomy = m.roomy;
      making = m.making;
      turning = m.turning;
      rests = m.rests;
      awaits = m.awaits;
      clears_more = m.clears_more;
      numbered = m.numbered;
      granting = m.granting;
    }
