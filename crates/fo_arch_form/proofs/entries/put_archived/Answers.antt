use Rattle.std.proofs.Common.{◌≡◌, ℕ, subst}
use Rattle.std.specs.Prelude.{Some, None}
use Rattle.fo_vacput.specs.declared.types.VacEntry.{VacEntry}
use Rattle.fo_arch_hash.specs.Form.{PutsEntry}
use Rattle.fo_arch_form.specs.Stored.{found, score_under}
use Rattle.fo_arch_form.proofs.entries.put_archived.Goals as goal

pub returns-in_default : goal.returns-in_default
returns-in_default c = record {
  spelled = c.entry_in-entry.ensures.spelled;
  shallow = c.entry_in-entry.ensures.shallow;
  at = c.in_default.field-0;
  top = c.in_default.ensures.score.0;
  none = subst (λ (n : ℕ). found c.args.done.now c.in_default.field-0 n ≡ None) c.kind_of.ensures c.in_default.ensures.score.1;
}

pub returns : goal.returns
returns c = record {
  entry = c.entry_in-entry.result;
  score = c.in-Ok.score;
  was = record {
    spelled = c.entry_in-entry.ensures.spelled;
    shallow = c.entry_in-entry.ensures.shallow;
    stored = subst (λ (n : ℕ). score_under c.args.done.now n c.entry_in-entry.result.top ≡ Some c.in-Ok.score) c.kind_of.ensures c.in-Ok.ensures.score.0;
  };
  puts = subst (λ (e : VacEntry). PutsEntry c.args.i e c.args.block.now c.put_entry.new.block) c.archived_entry.ensures.is c.put_entry.ensures;
}
