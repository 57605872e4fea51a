use Rattle.std.proofs.Common.{◌<◌, Some, ◌∙◌, ap, arith}
use Rattle.fo_dir_read.specs.Names.{leaf_count}
use Rattle.fo_dir_rows.proofs.Row.{row_changed, leaf_undisturbed}
use Rattle.fo_dir_rows.proofs.laws.leaf_rows.Goals as goal

pub returns-clause-over : goal.returns-clause-over
returns-clause-over g c =
    let s = c.args.records.now in
    let a = c.args.before.now in
    (g.met.S.Bytes.stays s a c.args.after.now c.requires.over c.requires.keeps (λ told. leaf_undisturbed c.args.i told (g.met.B.Blocks.active a).0 c.requires.changes (λ x own. (g.met.S.Bytes.live s a x c.requires.over told own).2) c.requires.leaf c.requires.within)).0

pub returns-clause-rows : goal.returns-clause-rows
returns-clause-rows g c = λ told all was is are has spells.
    let s = c.args.records.now in
    let a = c.args.before.now in
    let b = c.args.after.now in
    let stays = (g.met.S.Bytes.stays s a b c.requires.over c.requires.keeps (λ told. leaf_undisturbed c.args.i told (g.met.B.Blocks.active a).0 c.requires.changes (λ x own. (g.met.S.Bytes.live s a x c.requires.over told own).2) c.requires.leaf c.requires.within)).1 told in
    let within : c.args.i < leaf_count (g.S.Bytes.size s) = omega (arith, c.requires.within) in
    row_changed (g.B.Blocks.state a).now (g.B.Blocks.state b).now (g.S.Bytes.leaves s a) (g.S.Bytes.leaves s b) c.args.i c.args.at (leaf_count (g.S.Bytes.size s)) all was is c.requires.leaf within (λ j. (stays.0 j).0)
    (λ j x ne e. c.requires.changes.bytes x (λ same. ne (g.met.S.Bytes.apart s a j c.args.i c.args.at c.requires.over told (e ∙ ap (λ y. Some y) same) c.requires.leaf))) are has spells
