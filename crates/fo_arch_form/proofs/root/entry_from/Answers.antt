use Rattle.std.proofs.Common.{List, ℕ, subst}
use Rattle.fo_image.specs.Format.{SpellsEntry}
use Rattle.fo_arch_form.proofs.root.entry_from.Goals as goal

pub returns-in-Ok-clause-spelled : goal.returns-in-Ok-clause-spelled
returns-in-Ok-clause-spelled c = subst (λ (bytes : List ℕ). SpellsEntry c.in-Ok.entry bytes) c.part.ensures.is c.in-Ok.ensures.found
