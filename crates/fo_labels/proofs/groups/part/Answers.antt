use Rattle.fo_labels.proofs.Grouping.{part-cut}
use Rattle.fo_labels.proofs.groups.part.Goals as goal

pub returns : goal.returns
returns c = part-cut c.args.group c.min.result c.args.labels.now c.min.ensures c.requires.group
