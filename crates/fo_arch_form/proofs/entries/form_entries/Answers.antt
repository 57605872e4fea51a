use Rattle.std.proofs.Common.{arith}
use Rattle.fo_arch_form.proofs.Leaves.{still_has, one_more_entry}
use Rattle.fo_arch_form.proofs.entries.form_entries.Goals as goal

pub put_archived-requires-clause-spelled : goal.put_archived-requires-clause-spelled
put_archived-requires-clause-spelled c = still_has c.loop-i.invariant (c.requires.spelled c.loop-i.i (omega (arith, c.loop-i-test.true)))

pub loop-i-preserved : goal.loop-i-preserved
loop-i-preserved c = one_more_entry c.loop-i.invariant (c.in_default.ensures)
