use Rattle.std.proofs.Common.{sym, ◌∙◌}
use Rattle.fo_meta.proofs.Leaves.{head_at}
use Rattle.fo_dir_list.proofs.leaf.taken.Goals as goal

pub returns : goal.returns
returns c = λ rs s. let h = head_at c.args.leaf.now rs s in (sym (c.u16_at.ensures ∙ h.count), sym (c.u16_at-2.ensures ∙ h.used))
