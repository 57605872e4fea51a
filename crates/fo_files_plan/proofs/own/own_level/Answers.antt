use Rattle.std.proofs.Common.{◌+◌, ◌∙◌, ℕ, subst, sym, [], ◌∷◌, ◌*◌}
use Rattle.fo_files_way.specs.Owns.{OwnsOne}
use Rattle.fo_files_way.proofs.Next.{sets_at, any_default}
use Rattle.fo_files_plan.proofs.Blocks.{leaf_block, blocks_set}
use Rattle.fo_files_plan.proofs.own.own_level.Goals as goal
use Rattle.std.specs.Prelude.{slice_index}
use Rattle.fo_ports.specs.Sources.{AddsDirty, most_to_own}

pub returns-clause-owned : goal.returns-clause-owned
returns-clause-owned g c = record {
  source = c.own_linked.new.source;
  leaf = c.own_linked.result;
  one = subst (λ (x : ℕ). OwnsOne (g.B.Blocks.state c.args.on.now) (g.B.Blocks.state c.own_linked.new.on) c.args.level.source c.own_linked.new.source c.args.level.leaf x c.args.level.slot c.own_linked.result) (c.index-here.ensures ∙ any_default c.args.at.now.items c.args.level.above c.index-here.result.now 0 c.requires.within.0) c.own_linked.ensures.one;
  sets = sets_at c.args.at.now.items (c.args.k + 1) c.own_linked.result c.requires.within.1;
}

pub returns-clause-blocks : goal.returns-clause-blocks
returns-clause-blocks g c =
    let s = g.B.Blocks.state c.args.on.now in
    let u = g.B.Blocks.state c.own_linked.new.on in
    let old = c.args.at.now.items in
    let sets = sets_at old (c.args.k + 1) c.own_linked.result c.requires.within.1 in
    blocks_set s u old _ (c.args.k + 1) c.own_linked.result (g.met.B.Blocks.keeps_all c.args.on.now c.own_linked.new.on c.own_linked.ensures.keeps) sets c.requires.blocks
    (leaf_block u c.own_linked.new.source c.args.level.leaf c.own_linked.result (g.met.B.Blocks.within c.own_linked.new.on) c.own_linked.ensures.one.ready)

pub returns-clause-dirties : goal.returns-clause-dirties
returns-clause-dirties g c =
    let s = g.B.Blocks.state c.args.on.now in
    let u = g.B.Blocks.state c.own_linked.new.on in
    let old = c.args.at.now.items in
    let sets = sets_at old (c.args.k + 1) c.own_linked.result c.requires.within.1 in
    let most = 2 * most_to_own c.args.level.source.ways.tree.size c.args.level.leaf in
    let above = c.index-here.ensures ∙ any_default old c.args.level.above c.index-here.result.now 0 c.requires.within.0 in
    subst (λ b. AddsDirty most (slice_index old c.args.level.above ∷ []) b s u) (sym sets.here) (subst (λ b. AddsDirty most (b ∷ []) c.own_linked.result s u) above c.own_linked.ensures.dirties)
