use Rattle.std.proofs.Common.{◌≡◌, ◌-◌, ◌/◌, ◌%◌, ◌^◌, ◌<◌, suc, sym, ◌∙◌, ap, subst, arith}
use Rattle.fo_image.specs.declared.types.Pointer.{Pointer}
use Rattle.fo_tree_read.specs.Tree.{kind_down, below}
use Rattle.fo_tree_look.specs.Source.{Ready, WayReady, seen}
use Rattle.fo_tree_look.proofs.Shown.{top_ready}
use Rattle.fo_tree_trim.specs.Behind.{IsClearTo}
use Rattle.fo_tree_trim.proofs.Clearing.{IsClearIn, clear_down, clear_up, clear_in}
use Rattle.fo_tree_trim.proofs.clear.+is_clear_to.Goals as goal

pub pointer_here-above-requires-clause-ready : goal.pointer_here-above-requires-clause-ready
pointer_here-above-requires-clause-ready g t c =
    let is : c.args.down ≡ suc (c.args.down - 1) = omega arith in
    (subst (λ d. WayReady (g.B.Blocks.state c.args.on.now) c.args.tree.now c.args.kept.now d c.args.k) is c.requires.ready).0

pub is_clear_in-here-requires-clause-ready : goal.is_clear_in-here-requires-clause-ready
is_clear_in-here-requires-clause-ready g t c =
    let s = g.B.Blocks.state c.args.on.now in
    let tree = c.args.tree.now in
    let kept = c.args.kept.now in
    let is : c.args.down ≡ suc (c.args.down - 1) = omega arith in
    let way = (subst (λ d. WayReady s tree kept d c.args.k) is c.requires.ready).0 in
    subst (λ (p : Pointer). Ready s tree kept (c.args.down - 1) p) (sym c.pointer_here-above.ensures) (top_ready s tree kept (c.args.down - 1) (c.args.k / 409) way)

pub returns-then-rest-clause-yes : goal.returns-then-rest-clause-yes
returns-then-rest-clause-yes g t c = λ yes.
    let s = g.B.Blocks.state c.args.on.now in
    let tree = c.args.tree.now in
    let kept = c.args.kept.now in
    let is : c.args.down ≡ suc (c.args.down - 1) = omega arith in
    subst (λ d. IsClearTo s tree kept d c.args.k) (sym is)
    (clear_down s tree kept (c.args.down - 1) c.args.k (c.is_clear_to-rest.ensures.yes c.if-rest.true)
    (subst (λ (p : Pointer). IsClearIn s tree kept (c.args.down - 1) p (c.args.k % 409)) c.pointer_here-above.ensures (c.is_clear_in-here.ensures.yes yes)))

pub returns-then-rest-clause-not : goal.returns-then-rest-clause-not
returns-then-rest-clause-not g t c = λ no clear.
    let s = g.B.Blocks.state c.args.on.now in
    let tree = c.args.tree.now in
    let kept = c.args.kept.now in
    let is : c.args.down ≡ suc (c.args.down - 1) = omega arith in
    let few : c.args.k < 409 ^ suc (c.args.down - 1) = subst (λ d. c.args.k < 409 ^ d) is c.requires.few in
    let h = c.is_clear_in-here.ensures.not no in
    h.3 (ap (λ (p : Pointer). below (seen s kept) (kind_down tree (c.args.down - 1)) p h.0) c.pointer_here-above.ensures
    ∙ clear_in s tree kept (c.args.down - 1) c.args.k h.0 few (subst (λ d. IsClearTo s tree kept d c.args.k) is clear) h.1 h.2)

pub returns-else-rest-clause-not : goal.returns-else-rest-clause-not
returns-else-rest-clause-not g t c = λ no clear.
    let s = g.B.Blocks.state c.args.on.now in
    let tree = c.args.tree.now in
    let kept = c.args.kept.now in
    let is : c.args.down ≡ suc (c.args.down - 1) = omega arith in
    c.is_clear_to-rest.ensures.not no (clear_up s tree kept (c.args.down - 1) c.args.k (subst (λ d. IsClearTo s tree kept d c.args.k) is clear))
