use Rattle.std.proofs.Common.{◌≡◌, ◌+◌, ◌-◌, ◌*◌, ◌/◌, ◌%◌, inl, ⊎_elim, ◌∙◌, ap, subst, arith}
use Rattle.std.proofs.lemmas.Bool.{cases_eq}
use Rattle.fo_tree_leaf.specs.of_tree_read.Tree.{block_at}
use Rattle.fo_tree_leaf.specs.of_tree_look.Source.{WayReady, HasBlock, seen}
use Rattle.fo_tree_leaf.proofs.of_tree_down.Dirtying.{dirties_same}
use Rattle.fo_tree_leaf.proofs.of_tree_own.Showing.{nothing_shows}
use Rattle.fo_tree_clear.specs.Put.{IsInnerOrEnd}
use Rattle.fo_tree_clear.proofs.Putting.{changes_none}
use Rattle.fo_tree_clear.proofs.Zeros.{byte_past, byte_nil}
use Rattle.fo_tree_clear.proofs.tail.clear_tail.Goals as goal

pub zero_tail-requires-clause-ready : goal.zero_tail-requires-clause-ready
zero_tail-requires-clause-ready g c =
    let some = (c.ends_here.ensures.yes c.if-ends_here.true).within in
    let same : (c.args.tree.now.size - 1) / 8192 ≡ c.args.tree.now.size / 8192 = omega (arith, some) in
    subst (λ k. WayReady (g.B.Blocks.state c.args.on.now) c.args.tree.now c.args.kept.now c.args.tree.now.depth k) same (c.requires.ready (omega (arith, some)))

pub returns-then-ends_here-clause-cleared : goal.returns-then-ends_here-clause-cleared
returns-then-ends_here-clause-cleared g c = λ generation limit over. (c.zero_tail.ensures.ends generation limit, c.zero_tail.ensures.owned generation limit over)

pub returns-then-ends_here-clause-zeros : goal.returns-then-ends_here-clause-zeros
returns-then-ends_here-clause-zeros g c = λ plain k past. c.zero_tail.ensures.zeros k past

pub returns-else-ends_here-clause-zeros : goal.returns-else-ends_here-clause-zeros
returns-else-ends_here-clause-zeros g c = λ plain k past.
    let s = g.B.Blocks.state c.args.on.now in
    let t = c.args.tree.now in
    let kept = c.args.kept.now in
    let none = c.ends_here.ensures.not c.if-ends_here.false plain in
    ⊎_elim
    (λ whole. byte_past s t kept k (omega (arith, whole, past)))
    (λ part. ⊎_elim
    (λ e. byte_nil s t kept k (ap (λ j. block_at (seen s kept) t t.depth j) e ∙ none (omega (arith, part))))
    (λ ne. byte_past s t kept k (omega (arith, ne, past)))
    (cases_eq (k / 8192) (t.size / 8192)))
    (cases_eq (t.size % 8192) 0)

pub returns-else-ends_here-clause-grows : goal.returns-else-ends_here-clause-grows
returns-else-ends_here-clause-grows g c = λ limit. record { owns = λ told b. (λ has. inl has, λ made. absurd (made.0 made.1)); still = λ o n was. was }

pub returns-else-ends_here-clause-changes : goal.returns-else-ends_here-clause-changes
returns-else-ends_here-clause-changes g c =
    let s = g.B.Blocks.state c.args.on.now in
    let t = c.args.tree.now in
    changes_none t.tag (HasBlock s t) (IsInnerOrEnd s t) s

pub returns-else-ends_here-clause-dirties : goal.returns-else-ends_here-clause-dirties
returns-else-ends_here-clause-dirties g c = dirties_same (g.B.Blocks.state c.args.on.now) (2 * (c.args.tree.now.depth + 1))

pub returns-else-ends_here-clause-shown : goal.returns-else-ends_here-clause-shown
returns-else-ends_here-clause-shown g c = nothing_shows (record { each = λ image is. is })

pub returns-else-ends_here-clause-alike : goal.returns-else-ends_here-clause-alike
returns-else-ends_here-clause-alike g c = record { each = λ told at i holds alike. (holds, alike) }
