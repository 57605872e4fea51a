use Rattle.std.proofs.Common.{◌<◌, arith}
use Rattle.fo_arch_walk.specs.Spots.{IsOfSnapshot}
use Rattle.fo_arch_walk.proofs.Steps.{of_snapshot_stands, of_snapshot_looks, named_lower}
use Rattle.fo_arch_walk.proofs.looks.look.Goals as goal

pub next_of-requires-clause-told : goal.next_of-requires-clause-told
next_of-requires-clause-told g c told =
    of_snapshot_stands c.args.spot (g.met.B.Blocks.placed c.args.on.now (g.B.Blocks.state c.args.on.now).now (g.met.B.Blocks.present c.args.on.now told)) (λ t top not_one. g.met.B.Blocks.top_stands c.args.on.now t told top not_one) (c.requires.told told)

pub returns-then-spot-next-clause-cause : goal.returns-then-spot-next-clause-cause
returns-then-spot-next-clause-cause g c = (
  λ told.
      let new = c.next_of.new.on in
      let keeps = g.met.B.Blocks.keeps_all c.args.on.now new c.in_ok-next_of.ensures.keeps in
      let tells = keeps.still_tells.1 told in
      let there : IsOfSnapshot (g.B.Blocks.state new) c.args.spot = of_snapshot_looks c.args.spot keeps c.in_ok-next_of.ensures.looks told (c.requires.told told) in
      let stands = of_snapshot_stands c.args.spot (g.met.B.Blocks.placed new (g.B.Blocks.state new).now (g.met.B.Blocks.present new tells)) (λ t top not_one. g.met.B.Blocks.top_stands new t tells top not_one) there in
      let lt : c.in-Some.next.rank < c.args.spot.rank = named_lower c.args.spot c.in-Some.next (g.met.B.Blocks.ranked new (g.B.Blocks.state new).now (g.met.B.Blocks.present new tells)) stands (rw c.in-Some.is at c.in_ok-next_of.ensures.next) in
      omega (arith, lt, c.if-spot-next.true),
  c.requires.block,
)
