use Rattle.fo_looks.proofs.Looks.{looks_joins}
use Rattle.test_names.proofs.leaf.at_hand.Goals as goal

pub returns-in-Ok-Some-clause-looks : goal.returns-in-Ok-Some-clause-looks
returns-in-Ok-Some-clause-looks g c = looks_joins (g.met.B.Blocks.keeps_all c.args.on.now c.opened.new.on c.opened.ensures.keeps) c.opened.ensures.looks c.current_leaf.ensures.looks
