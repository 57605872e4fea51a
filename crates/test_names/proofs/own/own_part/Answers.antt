use Rattle.std.proofs.Common.{◌+◌, ◌*◌, ◌≤◌, ℕ, Bool, true, false, cond, nat_le, arith}
use Rattle.fo_ports.specs.Sources.{most_to_own, way_for}
use Rattle.fo_tree_trim.proofs.Least.{few_for}
use Rattle.test_names.proofs.own.own_part.Goals as goal

-- how many blocks it takes at most to own a leaf
most_ten : (size i : ℕ) → most_to_own size i ≤ 10
most_ten size i = by (nat_le (8192 * (i + 1)) size)
  where
    by : (b : Bool) → cond b (way_for size) (2 * way_for (8192 * (i + 1))) ≤ 10
    by true = let few = few_for size in omega (arith, few)
    by false = let few = few_for (8192 * (i + 1)) in omega (arith, few)

pub returns-in-Entries-clause-comes : goal.returns-in-Entries-clause-comes
returns-in-Entries-clause-comes g c = λ from h. c.own_entries.ensures.comes (c.requires.memory c.args.on.now).told from h

pub returns-in-Records-clause-comes : goal.returns-in-Records-clause-comes
returns-in-Records-clause-comes g c = λ from h. c.own_records.ensures.comes (c.requires.memory c.args.on.now).told from h

pub returns-in-Records-clause-spare : goal.returns-in-Records-clause-spare
returns-in-Records-clause-spare g c =
    let spent = c.own_records.ensures.spare.0 in
    let most = most_ten c.args.source.now.ways.tree.size c.args.i in
    omega (arith, spent, most)
