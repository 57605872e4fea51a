use Rattle.std.proofs.Common.{subst, sym}
use Rattle.fo_tree_read.specs.declared.tree.Tree.{Tree}
use Rattle.fo_tree_trim.specs.of_tree_down.Clear.{EndsClear}
use Rattle.fo_tree_trim.proofs.Holding.{clear_on, holds_looks}
use Rattle.fo_files_write.proofs.put.prepare_piece.Goals as goal

pub returns-clause-clear : goal.returns-clause-clear
returns-clause-clear g c = λ clear.
    let s = g.B.Blocks.state c.args.on.now in
    let u = g.B.Blocks.state c.prepare.new.on in
    let old = c.args.source.now.ways in
    let new = c.prepare.new.self in
    let all = g.met.B.Blocks.keeps_all c.args.on.now c.prepare.new.on c.prepare.ensures.looks.1 in
    subst (λ (t : Tree). EndsClear u t new.kept.items) (sym c.prepare.ensures.same.0) (clear_on (holds_looks s u old.tree old.kept.items new.kept.items all c.prepare.ensures.looks.0 c.prepare.ensures.more) clear)
