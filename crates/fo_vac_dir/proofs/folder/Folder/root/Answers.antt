use Rattle.std.proofs.Common.{sym, subst}
use Rattle.fo_vac_open.specs.Tree.{link_to}
use Rattle.fo_vac_walk.specs.Walk.{IsSourceOf}
use Rattle.fo_vac_dir.proofs.Finds.{link_source}
use Rattle.fo_vac_dir.proofs.folder.Folder.root.Goals as goal

pub returns-clause-entries : goal.returns-clause-entries
returns-clause-entries c = subst (IsSourceOf (link_to c.args.top.now.entries)) (sym c.new.ensures.entry) (link_source c.args.top.now.entries)

pub returns-clause-meta : goal.returns-clause-meta
returns-clause-meta c = subst (IsSourceOf (link_to c.args.top.now.meta)) (sym c.new-2.ensures.entry) (link_source c.args.top.now.meta)
