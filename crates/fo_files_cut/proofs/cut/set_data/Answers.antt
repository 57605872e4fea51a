use Rattle.std.proofs.Common.{ap, subst, ◌∙◌}
use Rattle.fo_tree_read.specs.declared.tree.Tree.{Tree}
use Rattle.fo_files_write.specs.Alters.{Alters, any_kind}
use Rattle.fo_files_write.proofs.Steps.{alters_joins, alters_looks}
use Rattle.fo_files_write.proofs.Ends.{entry_looks, entry_same}
use Rattle.fo_files_cut.proofs.Sets.{alters_sets}
use Rattle.fo_files_cut.proofs.cut.set_data.Goals as goal
use Rattle.fo_dirties.proofs.Adding.{adds_idle, first_of, adds_after}
use Rattle.fo_dirties.proofs.Putting.{dirties_looks}

pub returns-clause-alters : goal.returns-clause-alters
returns-clause-alters g c =
    let first = c.args.on.now in
    let mid = c.prepare_end.new.on in
    let end = c.set_ready.new.on in
    let s = g.B.Blocks.state first in
    let m = g.B.Blocks.state mid in
    let u = g.B.Blocks.state end in
    let old = c.args.ways.now in
    let w = c.prepare_end.new.ways in
    let k = c.prepare_end.ensures in
    let all = g.met.B.Blocks.keeps_all first mid k.looks.1 in
    let entry = entry_same k.same.0 k.same.1 (entry_looks all k.looks.0 c.requires.entry) in
    let looked = alters_looks any_kind s m c.args.file.at c.args.file.slot old.tree.tag k.looks.0 c.requires.entry.is_pinned in
    let set = alters_sets g.row.B.Denot g.B.Blocks.state mid end w.tree c.set_ready.new.ways.tree w.kept.items w.generation c.args.file.at c.args.file.slot c.args.len (ap (λ (t : Tree). t.dir) k.same.0 ∙ c.requires.data.0) entry c.set_ready.ensures.sets in
    alters_joins all looked (subst (λ tag. Alters c.args.file.at c.args.file.slot tag any_kind m u) (ap (λ (t : Tree). t.tag) k.same.0) set)

pub returns-in-Err-clause-dirties : goal.returns-in-Err-clause-dirties
returns-in-Err-clause-dirties g c = adds_idle 18 first_of (dirties_looks (g.met.B.Blocks.keeps_all c.args.on.now c.prepare_end.new.on c.prepare_end.ensures.looks.1) c.prepare_end.ensures.looks.0)

pub returns-clause-dirties : goal.returns-clause-dirties
returns-clause-dirties g c = adds_after (dirties_looks (g.met.B.Blocks.keeps_all c.args.on.now c.prepare_end.new.on c.prepare_end.ensures.looks.1) c.prepare_end.ensures.looks.0) c.set_ready.ensures.dirties
