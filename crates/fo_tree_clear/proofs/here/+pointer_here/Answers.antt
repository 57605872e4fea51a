use Rattle.std.proofs.Common.{◌≡◌, ◌-◌, suc, subst, arith}
use Rattle.fo_tree_leaf.specs.of_tree_look.Source.{WayReady}
use Rattle.fo_tree_clear.proofs.here.+pointer_here.Goals as goal

pub pointer_here-above-requires : goal.pointer_here-above-requires
pointer_here-above-requires g t' c =
    let is : c.args.down ≡ suc (c.args.down - 1) = omega arith in
    let le = c.requires.down.0 in
    λ lifetimes sub. (
      omega arith,
      (
        sub,
        (
          (omega (arith, le), c.requires.down.1),
          (subst (λ d. WayReady (g.B.Blocks.state c.args.on.now) c.args.tree.now c.args.kept.now d c.args.k) is c.requires.ready).0,
        ),
      ),
    )
