use Rattle.std.proofs.Common.{◌∙◌, refl}
use Rattle.fo_image.proofs.Offsets.{arena_head_at}
use Rattle.fo_image.proofs.arena.arena_head_of.Goals as goal

pub returns : goal.returns
returns c = λ h s. let at = arena_head_at c.args.bytes.now h s in rw (c.u32_at.ensures ∙ at.blocks, c.u32_at-2.ensures ∙ at.used) refl
