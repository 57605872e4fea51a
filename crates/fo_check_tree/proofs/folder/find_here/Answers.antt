use Rattle.std.proofs.Common.{◌≡◌, List, length, rules, sym, subst}
use Rattle.fo_check_names.specs.Finds.{Finds}
use Rattle.fo_check_names.specs.declared.names.Named.{Named}
use Rattle.fo_check_tree.proofs.Searching.{finds_long, written}
use Rattle.fo_check_tree.proofs.folder.find_here.Goals as goal

pub returns-clause-finds : goal.returns-clause-finds
returns-clause-finds c =
    let items = c.args.walk.now.named.items in
    let view : c.deref_mut.result.now ≡ items = search rules in
    let long : c.args.walk.now.named.len ≡ length items = search rules in
    let found : Finds c.args.slot c.args.first.now c.args.second.now c.find_pair.result items c.find_pair.new.named = subst (λ (xs : List Named). Finds c.args.slot c.args.first.now c.args.second.now c.find_pair.result xs c.find_pair.new.named) view c.find_pair.ensures in
    subst (λ (xs : List Named). Finds c.args.slot c.args.first.now c.args.second.now c.find_pair.result items xs)
    (sym (written items c.find_pair.new.named c.args.walk.now.named.len long (finds_long c.args.slot c.args.first.now c.args.second.now c.find_pair.result items c.find_pair.new.named found))) found
