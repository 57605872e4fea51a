use Rattle.std.proofs.Common.{◌≡◌, ◌+◌, ◌*◌, ℕ, false, subst}
use Rattle.fo_ports.specs.State.{State, none}
use Rattle.fo_files_leaf.specs.Alters.{Alters}
use Rattle.fo_files_leaf.specs.Leaf.{IsAbove}
use Rattle.fo_files_leaf.proofs.Altering.{alters_same}
use Rattle.fo_files_change.proofs.Records.{dir_readied, entries_readied, records_ready}
use Rattle.fo_files_change.proofs.leaf.records_leaf.Goals as goal

pub returns-in_default-clause-alters : goal.returns-in_default-clause-alters
returns-in_default-clause-alters g c = alters_same c.args.dir.at (λ k. k ≡ c.args.dir.slot + 1) (λ t. t ≡ 33 + 2 * c.args.dir.number) (IsAbove (33 + 2 * c.args.dir.number) false) none (g.B.Blocks.state c.args.on.now)

pub returns-in-Ok-clause-leaf : goal.returns-in-Ok-clause-leaf
returns-in-Ok-clause-leaf g c =
    let all = g.met.B.Blocks.keeps_all c.args.on.now c.ready_leaf.new.on c.ready_leaf.ensures.keeps in
    records_ready c.in-Some.tag c.in-Ok.leaf (λ h. c.requires.silent (all.still_tells.0 h)) (λ h. g.met.B.Blocks.covers_told c.ready_leaf.new.on c.in-Ok.leaf h) c.in-Ok.ensures.own

altered : (d at slot tag : ℕ) (s u : State) → tag ≡ 33 + 2 * d → Alters at (λ k. k ≡ slot) (λ t. t ≡ tag) (IsAbove tag false) none s u → Alters at (λ k. k ≡ slot) (λ t. t ≡ 33 + 2 * d) (IsAbove (33 + 2 * d) false) none s u
altered d at slot tag s u e x = subst (λ n. Alters at (λ k. k ≡ slot) (λ t. t ≡ n) (IsAbove n false) none s u) e x

pub returns-in-Ok-clause-alters : goal.returns-in-Ok-clause-alters
returns-in-Ok-clause-alters g c = altered c.args.dir.number c.args.dir.at (c.args.dir.slot + 1) c.in-Some.tag (g.B.Blocks.state c.args.on.now) (g.B.Blocks.state c.ready_leaf.new.on) c.in-Some.ensures.tag c.ready_leaf.ensures.alters

pub returns-in-Err-clause-alters : goal.returns-in-Err-clause-alters
returns-in-Err-clause-alters g c = altered c.args.dir.number c.args.dir.at (c.args.dir.slot + 1) c.in-Some.tag (g.B.Blocks.state c.args.on.now) (g.B.Blocks.state c.ready_leaf.new.on) c.in-Some.ensures.tag c.ready_leaf.ensures.alters

pub returns-in-Ok-clause-dir : goal.returns-in-Ok-clause-dir
returns-in-Ok-clause-dir g c = dir_readied c.args.dir (g.met.B.Blocks.keeps_all c.args.on.now c.ready_leaf.new.on c.ready_leaf.ensures.keeps) (altered c.args.dir.number c.args.dir.at (c.args.dir.slot + 1) c.in-Some.tag (g.B.Blocks.state c.args.on.now) (g.B.Blocks.state c.ready_leaf.new.on) c.in-Some.ensures.tag c.ready_leaf.ensures.alters) c.requires.dir

pub returns-in-Err-clause-dir : goal.returns-in-Err-clause-dir
returns-in-Err-clause-dir g c = dir_readied c.args.dir (g.met.B.Blocks.keeps_all c.args.on.now c.ready_leaf.new.on c.ready_leaf.ensures.keeps) (altered c.args.dir.number c.args.dir.at (c.args.dir.slot + 1) c.in-Some.tag (g.B.Blocks.state c.args.on.now) (g.B.Blocks.state c.ready_leaf.new.on) c.in-Some.ensures.tag c.ready_leaf.ensures.alters) c.requires.dir

pub returns-in-Ok-clause-entries : goal.returns-in-Ok-clause-entries
returns-in-Ok-clause-entries g c = λ e. entries_readied c.args.dir e (g.met.B.Blocks.keeps_all c.args.on.now c.ready_leaf.new.on c.ready_leaf.ensures.keeps) (altered c.args.dir.number c.args.dir.at (c.args.dir.slot + 1) c.in-Some.tag (g.B.Blocks.state c.args.on.now) (g.B.Blocks.state c.ready_leaf.new.on) c.in-Some.ensures.tag c.ready_leaf.ensures.alters)

pub returns-in-Err-clause-entries : goal.returns-in-Err-clause-entries
returns-in-Err-clause-entries g c = λ e. entries_readied c.args.dir e (g.met.B.Blocks.keeps_all c.args.on.now c.ready_leaf.new.on c.ready_leaf.ensures.keeps) (altered c.args.dir.number c.args.dir.at (c.args.dir.slot + 1) c.in-Some.tag (g.B.Blocks.state c.args.on.now) (g.B.Blocks.state c.ready_leaf.new.on) c.in-Some.ensures.tag c.ready_leaf.ensures.alters)

pub returns-in-Ok-clause-dirties : goal.returns-in-Ok-clause-dirties
returns-in-Ok-clause-dirties g c = c.in-Ok.ensures.dirties
