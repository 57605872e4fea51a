use Rattle.fo_arch_form.proofs.Slots.{one_more}
use Rattle.fo_arch_form.proofs.pointers.form_pointers.Goals as goal

pub loop-i-preserved : goal.loop-i-preserved
loop-i-preserved c = one_more c.loop-i.invariant c.in_ok-put_pointer.ensures
