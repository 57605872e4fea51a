use Rattle.fo_image.specs.Format.{label_fields, LabelHolds}
use Rattle.fo_image.proofs.Answering.{written}
use Rattle.fo_image.proofs.labels.write_label.Goals as goal

pub returns : goal.returns
returns c = written 14 label_fields LabelHolds c.args.v.now _ _ _ c.requires.spelled c.parts_of.ensures.fit c.parts_of.ensures.spelled c.requires.length c.write_parts.ensures
