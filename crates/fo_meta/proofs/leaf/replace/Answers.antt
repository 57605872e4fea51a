use Rattle.std.proofs.Common.{refl, arith}
use Rattle.fo_meta.specs.Leaf.{without}
use Rattle.fo_meta.proofs.Edits.{never_err}
use Rattle.fo_meta.proofs.leaf.replace.Goals as goal

pub returns-then-kept_len-record_len-gt-BLOCK-clause-replaced : goal.returns-then-kept_len-record_len-gt-BLOCK-clause-replaced
returns-then-kept_len-record_len-gt-BLOCK-clause-replaced c = λ rs s. (refl, omega (arith, c.kept_len.ensures.is rs s, c.record_len.ensures.is))

pub insert-requires-clause-leaf : goal.insert-requires-clause-leaf
insert-requires-clause-leaf c =
    let rs = c.requires.leaf.records in
    record { records = without c.args.name.now rs; spells = (c.remove.ensures.removed rs c.requires.leaf.spells).1 }

pub returns-clause-replaced : goal.returns-clause-replaced
returns-clause-replaced c = λ rs s. c.insert.ensures.added (without c.args.name.now rs) (c.remove.ensures.removed rs s).1

pub returns-clause-stays : goal.returns-clause-stays
returns-clause-stays c =
    let rs = c.requires.leaf.records in
    let s = c.requires.leaf.spells in
    let kept = c.kept_len.ensures.is rs s in
    never_err c.insert.result _ _ _ (c.insert.ensures.added (without c.args.name.now rs) (c.remove.ensures.removed rs s).1) (λ e h. omega (arith, h.1, kept, c.record_len.ensures.is))
