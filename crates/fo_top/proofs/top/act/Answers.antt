use Rattle.fo_top.proofs.top.act.Goals as goal

pub returns-in-Some-Serve-clause-talks : goal.returns-in-Some-Serve-clause-talks
returns-in-Some-Serve-clause-talks g c = λ is. c.serve_all.ensures.serves

pub returns-in-Some-Turns-clause-scripts : goal.returns-in-Some-Turns-clause-scripts
returns-in-Some-Turns-clause-scripts g c = λ is. c.drive_all.ensures.serves
