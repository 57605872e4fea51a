use Rattle.fo_arch_form.specs.Entries.{HasArchivedAll}
use Rattle.fo_arch_form.proofs.entries.form_entries.Given as goal

abbrev pub invariant-loop-i : goal.invariant-loop-i
invariant-loop-i l = HasArchivedAll l.done l.i l.initial.block l.block
