use Rattle.std.proofs.Common.{◌∙◌}
use Rattle.fo_dir_rows.proofs.PairRow.{pair_undisturbed, pair_is, pair_aside}
use Rattle.fo_dir_rows.proofs.laws.pair_rows.Goals as goal

pub returns-clause-over : goal.returns-clause-over
returns-clause-over g c =
    let s = c.args.entries.now in
    let a = c.args.before.now in
    (g.met.S.Bytes.stays s a c.args.after.now c.requires.over c.requires.keeps (λ told. pair_undisturbed c.args.p told (g.met.B.Blocks.active a).0 c.requires.calm c.requires.kind c.requires.slots (c.requires.bytes told) (λ x own. (g.met.S.Bytes.live s a x c.requires.over told own).2) (c.requires.linked told))).0

pub returns-clause-pair : goal.returns-clause-pair
returns-clause-pair g c = λ told first second one two.
    let s = c.args.entries.now in
    let a = c.args.before.now in
    let stays = (g.met.S.Bytes.stays s a c.args.after.now c.requires.over c.requires.keeps (λ told. pair_undisturbed c.args.p told (g.met.B.Blocks.active a).0 c.requires.calm c.requires.kind c.requires.slots (c.requires.bytes told) (λ x own. (g.met.S.Bytes.live s a x c.requires.over told own).2) (c.requires.linked told))).1 told in
    pair_is c.args.i c.args.p c.requires.within ((stays.0 c.args.i).0 ∙ c.requires.leaf) one two

pub returns-clause-others : goal.returns-clause-others
returns-clause-others g c = λ told k first second other pair.
    let s = c.args.entries.now in
    let a = c.args.before.now in
    let stays = (g.met.S.Bytes.stays s a c.args.after.now c.requires.over c.requires.keeps (λ told. pair_undisturbed c.args.p told (g.met.B.Blocks.active a).0 c.requires.calm c.requires.kind c.requires.slots (c.requires.bytes told) (λ x own. (g.met.S.Bytes.live s a x c.requires.over told own).2) (c.requires.linked told))).1 told in
    pair_aside c.args.i c.args.p k other (λ j e. g.met.S.Bytes.apart s a j c.args.i c.args.at c.requires.over told e c.requires.leaf) c.requires.slots (stays.0 _).0 pair
