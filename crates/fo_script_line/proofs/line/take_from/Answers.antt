use Rattle.fo_script_line.proofs.line.take_from.Goals as goal

pub returns-in-Some-clause-takes : goal.returns-in-Some-clause-takes
returns-in-Some-clause-takes g c =
    let t = rw c.in-Some.is at c.take_turns.ensures.takes in
    ((t.entries, t.chain, t.comes_to), rw c.in-Some.is at c.take_turns.ensures.fits)
