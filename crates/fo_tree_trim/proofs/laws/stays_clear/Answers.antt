use Rattle.fo_tree_trim.proofs.Holding.{clear_on, holds_looks, holds_stays}
use Rattle.fo_tree_trim.proofs.laws.stays_clear.Goals as goal

pub returns-clause-looks : goal.returns-clause-looks
returns-clause-looks g c = λ looks grown clear.
    let before = c.args.before.now in
    let after = c.args.after.now in
    let all = g.met.B.Blocks.keeps_all before after c.requires.keeps in
    clear_on (holds_looks (g.B.Blocks.state before) (g.B.Blocks.state after) c.args.tree.now c.args.kept.now c.args.more.now all looks grown) clear

pub returns-clause-stays : goal.returns-clause-stays
returns-clause-stays g c = λ stays clear.
    let before = c.args.before.now in
    let after = c.args.after.now in
    let all = g.met.B.Blocks.keeps_all before after c.requires.keeps in
    clear_on (holds_stays (g.B.Blocks.state before) (g.B.Blocks.state after) c.args.tree.now c.args.kept.now all stays) clear
