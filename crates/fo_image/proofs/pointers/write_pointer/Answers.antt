use Rattle.std.proofs.Common.{◌∙◌}
use Rattle.fo_image.proofs.PointerLemmas.{spells_pointer}
use Rattle.fo_image.proofs.pointers.write_pointer.Goals as goal

pub returns : goal.returns
returns c = spells_pointer c.args.v.now c.copy_from_slice.new.self c.requires.spelled (c.copy_from_slice.ensures.len ∙ c.requires.length) (c.copy_from_slice.ensures.after ∙ c.bytes_of.ensures.is)
