use Rattle.fo_image.specs.Format.{entry_fields, EntryHolds}
use Rattle.fo_image.proofs.Answering.{written}
use Rattle.fo_image.proofs.entries.write_entry.Goals as goal

pub returns : goal.returns
returns c = written 40 entry_fields EntryHolds c.args.v.now _ _ _ c.requires.spelled c.parts_of.ensures.fit c.parts_of.ensures.spelled c.requires.length c.write_parts.ensures
