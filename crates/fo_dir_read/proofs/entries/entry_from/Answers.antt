use Rattle.std.proofs.Common.{◌≡◌, ◌+◌, ◌-◌, ℕ, take, drop, sym, subst, ◌∙◌, arith}
use Rattle.std.specs.Prelude.{Result, Ok}
use Rattle.fo_image.specs.declared.types.Entry.{Entry}
use Rattle.fo_image.specs.declared.types.Bad.{Bad}
use Rattle.fo_image.specs.Format.{SpellsEntry}
use Rattle.fo_dir_read.proofs.entries.entry_from.Goals as goal

len : (n : ℕ) → 40 ≡ n + 40 - n
len n = omega arith

same_entry : (r : Result Entry Bad) (a b : Entry) → r ≡ Ok a → r ≡ Ok b → a ≡ b
same_entry r a b first second = let is : Ok a ≡ Ok b = sym first ∙ second in cc

pub returns-in-Ok-clause-is : goal.returns-in-Ok-clause-is
returns-in-Ok-clause-is c = λ e spells. same_entry c.read_entry.result c.in-Ok.entry e c.in-Ok.is (c.read_entry.ensures.only e (subst (λ n. SpellsEntry e (take n (drop c.args.from c.args.block.now))) (len c.args.from) spells))
