use Rattle.std.proofs.Common.{sym, subst}
use Rattle.fo_tree_link.specs.Link.{CanLink}
use Rattle.test_tree.proofs.Aparts.{can_link}
use Rattle.test_tree.proofs.linked.link_new.Goals as goal

pub link-requires-clause-told : goal.link-requires-clause-told
link-requires-clause-told g c = λ told. subst (λ b. CanLink (g.B.Blocks.state c.args.on.now) c.args.ways.now.tree c.args.ways.now.generation b 0) (sym c.root-root.ensures) (can_link (c.ground.ensures told) c.requires.rig c.requires.apart)
