use Rattle.std.proofs.Common.{ℕ, List, sym, subst}
use Rattle.fo_world.specs.declared.tree.Node.{Node}
use Rattle.fo_image.specs.Record.{RecordHolds}
use Rattle.fo_world.specs.Dated.{slash}
use Rattle.fo_world.specs.Tree.{along}
use Rattle.fo_world.specs.Step.{reached}
use Rattle.std.specs.Prelude.{false}
use Rattle.fo_vac_open.specs.Tree.{top_node}
use Rattle.fo_vac_walk.specs.Walk.{blocks_of}
use Rattle.fo_vac_files.specs.Vac.{world_of}
use Rattle.fo_vac_files.proofs.Going.{top_stands, reached_is, reaches}
use Rattle.fo_vac_files.proofs.looks.reach_at.Goals as goal

pub follow-requires : goal.follow-requires
follow-requires g c = subst RecordHolds (sym c.in_ok-top.ensures.named) c.args.opened.now.own.holds

pub returns-clause-held : goal.returns-clause-held
returns-clause-held g c = λ h k.
    let o = c.args.opened.now in
    let place = c.args.at.now in
    let root : List ℕ × Node = (slash, top_node (blocks_of h) o.found.top) in
    reaches h o (along place.trail root) (reached false (world_of h o) place) c.follow.result (reached_is h o place c.requires)
    (rw c.as_slice.ensures at (c.follow.ensures.held h o root k (top_stands h o c.in_ok-top.top c.in_ok-top.ensures)))
