use Rattle.std.proofs.Common.{◌≡◌, ◌+◌, ◌*◌, ◌^◌, ◌<◌, ◌≤◌, ℕ, max, sym, ◌∙◌, ap, arith}
use Rattle.fo_image.specs.declared.types.Pointer.TheVariants.{Local}
use Rattle.fo_ports.specs.Sources.{depth_for}
use Rattle.fo_tree_read.specs.declared.tree.Tree.{Tree}
use Rattle.fo_tree_trim.proofs.Least.{least_for}
use Rattle.test_tree.proofs.steps.grown_tree.Goals as goal

abbrev leafed : Tree → ℕ → ℕ → ℕ → Tree
leafed t depth size top = record { dir = t.dir; tag = t.tag; rank = t.rank; depth = depth; size = size; top = Local top }

pub returns : goal.returns
returns c =
    let t = c.args.tree.now in
    let i = c.args.i in
    let fits = c.ranges.i in
    let past = c.requires in
    let most : max t.size (8192 * (i + 1)) ≡ 8192 * (i + 1) = omega (arith, past) in
    let depth : depth_for (8192 * (i + 1)) ≡ c.least_depth.result = c.least_depth.ensures.only (depth_for (8192 * (i + 1))) (least_for (8192 * (i + 1)) (omega (arith, fits))) in
    ap (λ d. leafed t d (8192 * (i + 1)) c.args.top) (sym depth) ∙ ap (λ y. leafed t (depth_for y) y c.args.top) (sym most)
