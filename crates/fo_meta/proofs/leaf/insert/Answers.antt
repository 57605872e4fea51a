use Rattle.std.proofs.Common.{◌+◌, ◌≤◌, ◌∙◌, ◌++◌, ◌∷◌, [], refl, arith, rules, length}
use Rattle.fo_meta.proofs.Leaves.{head_at}
use Rattle.fo_meta.proofs.Lists.{few}
use Rattle.fo_meta.proofs.Edits.{inserted, leaf_len}
use Rattle.fo_meta.proofs.leaf.insert.Goals as goal

pub returns-then-at-len-gt-BLOCK-clause-added : goal.returns-then-at-len-gt-BLOCK-clause-added
returns-then-at-len-gt-BLOCK-clause-added c = λ rs s. (refl, omega (arith, c.u16_at.ensures, (head_at c.args.leaf.now rs s).used, c.record_len-len.ensures.is))

pub slice_bounds-write_record-end : goal.slice_bounds-write_record-end
slice_bounds-write_record-end c =
    let fits : 4 + c.u16_at.result + c.record_len-len.result ≤ length c.args.leaf.now = omega (arith, leaf_len c.requires.leaf.records c.args.leaf.now c.requires.leaf.spells) in
    search (rules, fits)

pub overflow_add-count : goal.overflow_add-count
overflow_add-count c = omega (arith, c.u16_at-count.ensures, (head_at c.args.leaf.now c.requires.leaf.records c.requires.leaf.spells).count, few c.requires.leaf.records, c.requires.leaf.spells.room)

pub returns-clause-added : goal.returns-clause-added
returns-clause-added c = λ rs s.
    inserted rs c.args.r.now c.args.leaf.now _ _ c.u16_at-count.result c.u16_at.result c.record_len-len.result s c.write_record.ensures
    (c.u16_at-count.ensures ∙ (head_at c.args.leaf.now rs s).count) (c.u16_at.ensures ∙ (head_at c.args.leaf.now rs s).used) c.record_len-len.ensures.is (omega arith) c.write_head.ensures

pub returns-clause-leaf : goal.returns-clause-leaf
returns-clause-leaf c =
    let rs = c.requires.leaf.records in
    let s = c.requires.leaf.spells in
    record {
      records = rs ++ c.args.r.now ∷ [];
      spells = inserted rs c.args.r.now c.args.leaf.now _ _ c.u16_at-count.result c.u16_at.result c.record_len-len.result s c.write_record.ensures
          (c.u16_at-count.ensures ∙ (head_at c.args.leaf.now rs s).count) (c.u16_at.ensures ∙ (head_at c.args.leaf.now rs s).used) c.record_len-len.ensures.is (omega arith) c.write_head.ensures;
    }
