use Rattle.std.proofs.Common.{◌≤◌, ◌^◌, ℕ, sym, ◌∙◌, eqb-true, arith}
use Rattle.fo_ports.specs.Sources.{depth_for}
use Rattle.fo_tree_shorten.proofs.of_tree_trim.Least.{least_for}
use Rattle.fo_files_leaf.proofs.take.has_place.Goals as goal

within : (z limit : ℕ) → z ≤ limit → limit ≤ 2 ^ 47 → z ≤ 2 ^ 47
within z limit le low = omega (arith, le, low)

pub returns-then-end-limit : goal.returns-then-end-limit
returns-then-end-limit c e =
    let least = c.least_depth.ensures.only (depth_for c.args.end) (least_for c.args.end (within c.args.end c.args.limit c.if-end-limit.true c.requires.low)) in
    (sym (least ∙ eqb-true c.least_depth.result c.args.depth e), c.if-end-limit.true)
