use Rattle.fo_alike.proofs.Linking.{Known, linked_same}
use Rattle.fo_alike.proofs.laws.slot_linked.Goals as goal

pub returns : goal.returns
returns g c =
    let on = c.args.before.now in
    let end = c.args.after.now in
    let known : Known (g.B.Blocks.state on).stands (g.B.Blocks.state on).may_leave = record { one = g.met.B.Blocks.one_place on; ranked = record { super_at = λ image is. g.met.B.Blocks.super_stands on (g.met.B.Blocks.told on image is); placed = λ image is. g.met.B.Blocks.placed on image is; falls = λ image is. g.met.B.Blocks.ranked on image is } } in
    let then : Known (g.B.Blocks.state end).stands (g.B.Blocks.state end).may_leave = record { one = g.met.B.Blocks.one_place end; ranked = record { super_at = λ image is. g.met.B.Blocks.super_stands end (g.met.B.Blocks.told end image is); placed = λ image is. g.met.B.Blocks.placed end image is; falls = λ image is. g.met.B.Blocks.ranked end image is } } in
    linked_same known then c.requires.images c.requires.same
