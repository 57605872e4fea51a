use Rattle.std.proofs.Common.{refl, inl, sym, ◌∙◌, subst}
use Rattle.fo_crash.specs.declared.slot.Slot.{Slot}
use Rattle.fo_crash.specs.Names.{IsInUse}
use Rattle.fo_dir_put.proofs.free.is_taken.Goals as goal

pub returns-then-entry-clause-taken : goal.returns-then-entry-clause-taken
returns-then-entry-clause-taken g c = λ active. inl (c.in-Entry.entry.generation, subst (λ (x : Slot). IsInUse x c.in-Entry.entry.generation) (sym c.in-Entry.is ∙ c.slot.ensures) (active, refl))
