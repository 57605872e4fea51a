use Rattle.fo_shown.proofs.Ways.{AllPlaced}
use Rattle.fo_alike.proofs.Likes.{super_same}
use Rattle.fo_alike.proofs.laws.super_written.Goals as goal

pub returns : goal.returns
returns g c =
    let on = c.args.before.now in
    let placed : AllPlaced (g.B.Blocks.state on).stands (g.B.Blocks.state on).may_leave = record { super_at = λ image is. g.met.B.Blocks.super_stands on (g.met.B.Blocks.told on image is); each = λ image is. g.met.B.Blocks.placed on image is } in
    super_same (g.met.B.Blocks.one_place on) placed (λ image h. h) c.requires.images
