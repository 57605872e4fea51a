use Rattle.std.proofs.Common.{◌∙◌, refl}
use Rattle.fo_image.proofs.Offsets.{header_at}
use Rattle.fo_image.proofs.blocks.header_of.Goals as goal

pub returns : goal.returns
returns c = λ h s. rw (c.u32_at.ensures ∙ header_at c.args.bytes.now h s) refl
