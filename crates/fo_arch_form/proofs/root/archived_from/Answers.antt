use Rattle.std.proofs.Common.{◌≡◌, ℕ, subst}
use Rattle.std.specs.Prelude.{Some, None}
use Rattle.fo_arch_form.specs.Stored.{found, score_under}
use Rattle.fo_arch_form.proofs.root.archived_from.Goals as goal

pub returns-in_default : goal.returns-in_default
returns-in_default c = record {
  spelled = c.entry_from-entry.ensures.spelled;
  at = c.in_default.field-0;
  top = c.in_default.ensures.score.0;
  none = subst (λ (n : ℕ). found c.args.done.now c.in_default.field-0 n ≡ None) c.kind_of.ensures c.in_default.ensures.score.1;
}

pub returns : goal.returns
returns c = record {
  entry = c.entry_from-entry.result;
  score = c.in-Ok.score;
  spelled = c.entry_from-entry.ensures.spelled;
  stored = subst (λ (n : ℕ). score_under c.args.done.now n c.entry_from-entry.result.top ≡ Some c.in-Ok.score) c.kind_of.ensures c.in-Ok.ensures.score.0;
  is = c.archived_entry.ensures.is;
  holds = c.archived_entry.ensures.holds;
}
