use Rattle.std.proofs.Common.{sym, ◌∙◌}
use Rattle.std.specs.Option.{option_copied}
use Rattle.fo_files_views.proofs.Beside.{next_gone, next_root}
use Rattle.fo_files_views.proofs.aside.next_aside.Goals as goal

pub returns-then-not-is_dated_root-clause-told : goal.returns-then-not-is_dated_root-clause-told
returns-then-not-is_dated_root-clause-told c = λ w none. next_gone w c.args.at.now (option_copied c.args.after) none c.requires.aside (sym c.is_dated_root.ensures ∙ c.if-not-is_dated_root.true)

pub returns-clause-told : goal.returns-clause-told
returns-clause-told c = λ w none. next_root w c.args.at.now (option_copied c.args.after) none c.requires.aside (sym c.is_dated_root.ensures ∙ c.if-not-is_dated_root.false)
