use Rattle.std.proofs.Common.{sym, subst}
use Rattle.fo_tree_read.specs.declared.tree.Tree.{Tree}
use Rattle.fo_tree_link.specs.of_tree_down.Clear.{EndsClear}
use Rattle.fo_tree_trim.proofs.Holding.{clear_on, holds_looks}
use Rattle.fo_tree.proofs.calls.SourceBytes.prepare.Goals as goal

pub returns-in_err-prepare-clause-trimmed : goal.returns-in_err-prepare-clause-trimmed
returns-in_err-prepare-clause-trimmed g c = λ clear.
    let a = g.B.Blocks.state c.args.on.now in
    let b = g.B.Blocks.state c.prepare.new.on in
    let t = c.args.self.now.ways.tree in
    let kept = c.args.self.now.ways.kept.items in
    let more = c.prepare.new.self.kept.items in
    let looks = c.prepare.ensures.looks in
    subst (λ (x : Tree). EndsClear b x more) (sym c.prepare.ensures.same.0)
    (clear_on (holds_looks a b t kept more (g.met.B.Blocks.keeps_all c.args.on.now c.prepare.new.on looks.1) looks.0 c.prepare.ensures.more) clear)

pub returns-clause-trimmed : goal.returns-clause-trimmed
returns-clause-trimmed g c = λ clear.
    let a = g.B.Blocks.state c.args.on.now in
    let b = g.B.Blocks.state c.prepare.new.on in
    let t = c.args.self.now.ways.tree in
    let kept = c.args.self.now.ways.kept.items in
    let more = c.prepare.new.self.kept.items in
    let looks = c.prepare.ensures.looks in
    subst (λ (x : Tree). EndsClear b x more) (sym c.prepare.ensures.same.0)
    (clear_on (holds_looks a b t kept more (g.met.B.Blocks.keeps_all c.args.on.now c.prepare.new.on looks.1) looks.0 c.prepare.ensures.more) clear)
