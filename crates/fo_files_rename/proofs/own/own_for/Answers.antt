use Rattle.std.proofs.Common.{arith}
use Rattle.fo_files_edit.proofs.of_files_along.Ways.{steps_long}
use Rattle.fo_files_rename.proofs.Owning.{own_holds}
use Rattle.fo_files_rename.proofs.own.own_for.Goals as goal

pub own_record-requires : goal.own_record-requires
own_record-requires g c =
    let long = steps_long (g.B.Blocks.state c.args.on.now) c.args.root c.args.trail.now c.args.way.now c.requires.way in
    record { some = let some = c.requires.some in omega (arith, long, some) }

pub places_for-requires-clause-some : goal.places_for-requires-clause-some
places_for-requires-clause-some g c =
    let long = steps_long (g.B.Blocks.state c.args.on.now) c.args.root c.args.trail.now c.args.way.now c.requires.way in
    let some = c.requires.some in omega (arith, long, some)

pub places_for-requires-clause-holds : goal.places_for-requires-clause-holds
places_for-requires-clause-holds g c =
    own_holds (g.B.Blocks.state c.args.on.now) c.args.root c.args.trail.now c.args.way.now c.args.who.now c.args.now c.in-Ok.named c.requires.way c.requires.who c.requires.some c.in-Ok.ensures.is
