use Rattle.std.proofs.Common.{◌<◌, Some, ap, ◌∙◌, arith}
use Rattle.fo_dir_read.specs.Names.{leaf_count}
use Rattle.fo_dir_rows.proofs.MoveRow.{move_undisturbed, rows_moved}
use Rattle.fo_dir_rows.proofs.laws.move_rows.Goals as goal

pub returns-clause-over : goal.returns-clause-over
returns-clause-over g c =
    let s = c.args.records.now in
    let a = c.args.before.now in
    (g.met.S.Bytes.stays s a c.args.after.now c.requires.over c.requires.keeps (λ told. move_undisturbed c.args.i c.args.j told c.requires.alone (g.met.B.Blocks.active a).0 (g.met.B.Blocks.active c.args.after.now).0 (λ x k h. (g.met.B.Blocks.clears_entries a x k h).0) c.requires.leaves.0 c.requires.leaves.1 c.requires.within.0 c.requires.within.1 c.requires.whole.0 c.requires.whole.1 (c.requires.spared told) (c.requires.linked told))).0

pub returns-clause-rows : goal.returns-clause-rows
returns-clause-rows g c = λ told all was is were are_now are has has_too spells spells_too.
    let s = c.args.records.now in
    let a = c.args.before.now in
    let b = c.args.after.now in
    let stays = (g.met.S.Bytes.stays s a b c.requires.over c.requires.keeps (λ told. move_undisturbed c.args.i c.args.j told c.requires.alone (g.met.B.Blocks.active a).0 (g.met.B.Blocks.active c.args.after.now).0 (λ x k h. (g.met.B.Blocks.clears_entries a x k h).0) c.requires.leaves.0 c.requires.leaves.1 c.requires.within.0 c.requires.within.1 c.requires.whole.0 c.requires.whole.1 (c.requires.spared told) (c.requires.linked told))).1 told in
    let first : c.args.i < leaf_count (g.S.Bytes.size s) = omega (arith, c.requires.within.0) in
    let second : c.args.j < leaf_count (g.S.Bytes.size s) = omega (arith, c.requires.within.1) in
    rows_moved (g.B.Blocks.state a).now (g.B.Blocks.state b).now (g.S.Bytes.leaves s a) (g.S.Bytes.leaves s b) c.args.i c.args.j c.args.from c.args.to (leaf_count (g.S.Bytes.size s)) all was is were are_now c.requires.differ c.requires.leaves.0 c.requires.leaves.1 first second (λ k. (stays.0 k).0)
    (λ k x ne no e. (c.requires.alone.blocks told x (c.requires.spared told x (g.met.S.Bytes.leaf_owned s a k x c.requires.over e))).content.bytes
    (λ f. ne (g.met.S.Bytes.apart s a k c.args.i c.args.from c.requires.over told (e ∙ ap (λ y. Some y) f) c.requires.leaves.0))
    (λ f. no (g.met.S.Bytes.apart s a k c.args.j c.args.to c.requires.over told (e ∙ ap (λ y. Some y) f) c.requires.leaves.1))) are has has_too spells spells_too
