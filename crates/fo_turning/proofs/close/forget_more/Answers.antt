use Rattle.std.proofs.Common.{sym, ◌∙◌}
use Rattle.fo_turning.proofs.Forgetting.{cut_clean, fewer_clean, none_clean, same_cut}
use Rattle.fo_turning.proofs.close.forget_more.Goals as goal

pub returns-then-not-is_clean-clause-gone : goal.returns-then-not-is_clean-clause-gone
returns-then-not-is_clean-clause-gone c = λ _. none_clean c.args.at c.args.buffers.now.clean (sym c.is_clean.ensures ∙ c.if-not-is_clean.true)

pub returns-clause-less : goal.returns-clause-less
returns-clause-less c = λ _. fewer_clean c.args.at c.args.buffers.now c.forget.new.self c.forget.ensures (sym c.is_clean.ensures ∙ c.if-not-is_clean.false)

pub returns-clause-held : goal.returns-clause-held
returns-clause-held c = same_cut c.args.at c.args.buffers.now c.forget.new.self c.forget.ensures c.requires

pub returns-clause-clean : goal.returns-clause-clean
returns-clause-clean c = cut_clean c.args.at c.args.buffers.now c.forget.new.self c.forget.ensures
