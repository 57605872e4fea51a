use Rattle.std.proofs.Common.{◌≡◌, ◌*◌, ◌<◌, ◌++◌, map, rules, arith}
use Rattle.fo_meta.specs.Leaf.{SpellsLeaf}
use Rattle.fo_check_names.specs.Names.{named_in}
use Rattle.fo_check_tree.specs.Listing.{AddsNamed}
use Rattle.fo_check_tree.specs.Listing.AddsNamed.{some}
use Rattle.fo_check_tree.proofs.Adding.{on_ok}
use Rattle.fo_check_tree.proofs.blocks.add_records.Goals as goal

pub returns-clause-named : goal.returns-clause-named
returns-clause-named c =
    let spelled : SpellsLeaf c.in-Some.records.items c.args.block.now = search rules in
    let within : 8192 * c.args.step.now.index < c.args.step.now.size = first_of (omega (arith, c.if-step-saturating_mul.false, c.saturating_mul.ensures), search rules, grind (arith, c.if-step-saturating_mul.false, c.saturating_mul.ensures)) in
    on_ok c.add_named.result (c.add_named.new.named.items ≡ c.args.walk.now.named.items ++ map (named_in c.args.here.block) c.in-Some.records.items) (AddsNamed c.args.step.now c.args.here.block c.args.block.now c.args.walk.now.named.items c.add_named.new.named.items)
    (λ grown. some c.in-Some.records.items spelled within grown) c.add_named.ensures
