use Rattle.fo_arch_form.specs.Pointers.{HasScores}
use Rattle.fo_arch_form.proofs.pointers.form_pointers.Given as goal

abbrev pub invariant-loop-i : goal.invariant-loop-i
invariant-loop-i l = HasScores l.done l.kind l.i l.initial.block l.block
