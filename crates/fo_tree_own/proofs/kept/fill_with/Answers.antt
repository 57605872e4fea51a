use Rattle.std.proofs.Common.{ap, subst, arith}
use Rattle.fo_image.specs.declared.types.Kind.{Kind}
use Rattle.fo_crash.specs.Images.{target}
use Rattle.fo_tree_own.specs.Step.{IsBare}
use Rattle.fo_tree_own.proofs.kept.fill_with.Goals as goal

pub fill_leaf-requires-clause-bare : goal.fill_leaf-requires-clause-bare
fill_leaf-requires-clause-bare g c =
    subst (λ (k : Kind). IsBare (g.B.Blocks.state c.args.on.now) k c.args.at) (c.requires.bare.2 c.if-level-eq0.true) c.requires.bare.1

pub fill_leaf-requires-clause-formed : goal.fill_leaf-requires-clause-formed
fill_leaf-requires-clause-formed g c =
    c.requires.formed c.if-level-eq0.true

pub fill_slots-requires-clause-bare : goal.fill_slots-requires-clause-bare
fill_slots-requires-clause-bare g c =
    (c.requires.bare.0, c.requires.bare.3 (omega arith), c.requires.bare.1)

pub returns-then-level-eq0-clause-content : goal.returns-then-level-eq0-clause-content
returns-then-level-eq0-clause-content g c =
    let zero = c.if-level-eq0.true in record { leaf = λ low. c.fill_leaf.ensures.content; slots = λ high. absurd (omega (arith, high, zero)) }

pub returns-else-level-eq0-clause-content : goal.returns-else-level-eq0-clause-content
returns-else-level-eq0-clause-content g c =
    let some = c.if-level-eq0.false in record { leaf = λ low. absurd (some low); slots = λ high j few. ap target (c.fill_slots.ensures.content j few) }
