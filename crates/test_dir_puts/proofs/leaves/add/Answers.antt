use Rattle.std.proofs.Common.{◌≢◌, ℕ, List, length, sym, ◌∙◌, ap}
use Rattle.fo_dir_put.proofs.Calms.{records_on, records_put}
use Rattle.fo_dir_put.proofs.Leaves.{leaf_long}
use Rattle.test_dir_puts.proofs.Made.{calm_entries, added_bears, added_first}
use Rattle.test_dir_puts.proofs.leaves.add.Goals as goal

pub add_new-requires-clause-owned : goal.add_new-requires-clause-owned
add_new-requires-clause-owned g c =
    records_put (g.met.B.Blocks.keeps_all c.args.on.now c.change_leaf.new.on c.change_leaf.ensures.keeps) c.change_leaf.ensures.calm (ap (λ (xs : List ℕ). length xs) c.change_leaf.ensures.puts.here ∙ leaf_long c.requires.bytes) c.requires.from

pub add_new-requires-clause-entries : goal.add_new-requires-clause-entries
add_new-requires-clause-entries g c =
    calm_entries (g.met.B.Blocks.keeps_all c.args.on.now c.change_leaf.new.on c.change_leaf.ensures.keeps) c.change_leaf.ensures.calm (c.requires.untold c.change_leaf.new.on) c.requires.entries

pub returns-in-Added-clause-from : goal.returns-in-Added-clause-from
returns-in-Added-clause-from g c = λ yes'.
    let owned = records_put (g.met.B.Blocks.keeps_all c.args.on.now c.change_leaf.new.on c.change_leaf.ensures.keeps) c.change_leaf.ensures.calm (ap (λ (xs : List ℕ). length xs) c.change_leaf.ensures.puts.here ∙ leaf_long c.requires.bytes) c.requires.from in
    records_put (g.met.B.Blocks.keeps_all c.change_leaf.new.on c.add_new.new.on c.add_new.ensures.keeps) (c.add_new.ensures.calm c.in-Added.is) (ap (λ (xs : List ℕ). length xs) (sym c.add_new.ensures.hand.1) ∙ leaf_long c.add_new.ensures.hand.0) owned

pub returns-in-Added-clause-to : goal.returns-in-Added-clause-to
returns-in-Added-clause-to g c = λ yes'.
    let ne : c.args.at.to ≢ c.args.at.from = λ e. c.requires.differ (sym e) in
    let owned = records_on (g.met.B.Blocks.keeps_all c.args.on.now c.change_leaf.new.on c.change_leaf.ensures.keeps) c.change_leaf.ensures.calm (c.change_leaf.ensures.puts.others c.args.at.to ne) c.requires.to in
    records_on (g.met.B.Blocks.keeps_all c.change_leaf.new.on c.add_new.new.on c.add_new.ensures.keeps) (c.add_new.ensures.calm c.in-Added.is) (c.add_new.ensures.bytes c.in-Added.is c.args.at.to ne) owned

pub returns-in-Added-clause-entries : goal.returns-in-Added-clause-entries
returns-in-Added-clause-entries g c = λ yes'.
    let owned = calm_entries (g.met.B.Blocks.keeps_all c.args.on.now c.change_leaf.new.on c.change_leaf.ensures.keeps) c.change_leaf.ensures.calm (c.requires.untold c.change_leaf.new.on) c.requires.entries in
    calm_entries (g.met.B.Blocks.keeps_all c.change_leaf.new.on c.add_new.new.on c.add_new.ensures.keeps) (c.add_new.ensures.calm c.in-Added.is) (c.requires.untold c.add_new.new.on) owned

pub returns-in-Added-clause-keeps : goal.returns-in-Added-clause-keeps
returns-in-Added-clause-keeps g c = g.met.B.Blocks.keeps_joins c.args.on.now c.change_leaf.new.on c.add_new.new.on c.change_leaf.ensures.keeps c.add_new.ensures.keeps

pub returns-in-Added-clause-bears : goal.returns-in-Added-clause-bears
returns-in-Added-clause-bears g c = λ yes'. added_bears c.requires.bytes (c.add_new.ensures.added c.in-Added.is).0 c.change_leaf.ensures.puts.here

pub returns-in-Added-clause-first : goal.returns-in-Added-clause-first
returns-in-Added-clause-first g c = λ yes' empty. added_first empty (c.add_new.ensures.added c.in-Added.is).0 c.change_leaf.ensures.puts.here

pub returns-in-Added-clause-others : goal.returns-in-Added-clause-others
returns-in-Added-clause-others g c = λ yes' b ne. c.add_new.ensures.bytes c.in-Added.is b ne ∙ c.change_leaf.ensures.puts.others b ne
