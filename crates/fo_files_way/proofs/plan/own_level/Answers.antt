use Rattle.std.proofs.Common.{◌+◌, ◌∙◌, ℕ, subst}
use Rattle.fo_files_way.specs.Owns.{OwnsOne}
use Rattle.fo_files_way.proofs.Next.{sets_at, any_default}
use Rattle.fo_files_way.proofs.plan.own_level.Goals as goal

pub returns-clause-owned : goal.returns-clause-owned
returns-clause-owned g c = record {
  source = c.own_linked.new.source;
  leaf = c.own_linked.result;
  one = subst (λ (x : ℕ). OwnsOne (g.B.Blocks.state c.args.on.now) (g.B.Blocks.state c.own_linked.new.on) c.args.level.source c.own_linked.new.source c.args.level.leaf x c.args.level.slot c.own_linked.result) (c.index-here.ensures ∙ any_default c.args.at.now.items c.args.level.above c.index-here.result.now 0 c.requires.within.0) c.own_linked.ensures.one;
  sets = sets_at c.args.at.now.items (c.args.k + 1) c.own_linked.result c.requires.within.1;
}
