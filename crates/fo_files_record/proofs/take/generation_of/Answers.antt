use Rattle.std.proofs.Common.{sym, ◌∙◌, refl}
use Rattle.fo_files_record.proofs.take.generation_of.Goals as goal

pub returns-then-is_of_pair-clause-is : goal.returns-then-is_of_pair-clause-is
returns-then-is_of_pair-clause-is c = (
  c.in-Ok-Some.named,
  record {
    first = record { each = λ rs spells. sym (c.in-Ok-Some.ensures rs spells) ∙ c.in-Ok-Some.field-0-is };
    slot_is = (c.is_of_pair.ensures c.if-is_of_pair.true).0;
    dir_is = (c.is_of_pair.ensures c.if-is_of_pair.true).1;
  },
  refl,
)
