use Rattle.fo_dir_rows.proofs.Row.{entry_undisturbed, rows_stay}
use Rattle.fo_dir_rows.proofs.laws.entry_rows.Goals as goal

pub returns-clause-over : goal.returns-clause-over
returns-clause-over g c =
    let s = c.args.records.now in
    let a = c.args.before.now in
    (g.met.S.Bytes.stays s a c.args.after.now c.requires.over c.requires.keeps (λ told. entry_undisturbed told (g.met.B.Blocks.active a).0 c.requires.alone c.requires.kind (c.requires.covers told) (λ x own. (g.met.S.Bytes.live s a x c.requires.over told own).2) (c.requires.aside told) (c.requires.linked told))).0

pub returns-clause-rows : goal.returns-clause-rows
returns-clause-rows g c = λ told all are.
    let s = c.args.records.now in
    let a = c.args.before.now in
    let stays = (g.met.S.Bytes.stays s a c.args.after.now c.requires.over c.requires.keeps (λ told. entry_undisturbed told (g.met.B.Blocks.active a).0 c.requires.alone c.requires.kind (c.requires.covers told) (λ x own. (g.met.S.Bytes.live s a x c.requires.over told own).2) (c.requires.aside told) (c.requires.linked told))).1 told in
    rows_stay (λ j. (stays.0 j).0) c.requires.alone.bytes are
