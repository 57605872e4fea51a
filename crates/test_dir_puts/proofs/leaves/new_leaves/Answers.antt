use Rattle.std.proofs.Common.{refl, ◌∙◌, ap}
use Rattle.fo_image.specs.declared.types.Label.{Label}
use Rattle.test_dir_puts.proofs.Made.{made_records, given_records, other_one}
use Rattle.test_dir_puts.proofs.leaves.new_leaves.Goals as goal

pub returns-clause-from : goal.returns-clause-from
returns-clause-from g c =
    let one = c.new_block-from.new.self in
    let two = c.new_block-to.new.self in
    let last = c.new_block-entries.new.self in
    let first = c.new_block-from.ensures.gives in
    let second = c.new_block-to.ensures.gives in
    let third = c.new_block-entries.ensures.gives in
    let live = ap (λ (l : Label). l.state) first.label in
    let ne = other_one second live in
    let owned = given_records second (g.met.B.Blocks.keeps_all one two c.new_block-to.ensures.keeps) (c.requires.untold two) ne (made_records first (g.met.B.Blocks.keeps_all c.args.on.now one c.new_block-from.ensures.keeps) (c.requires.untold one) refl refl) in
    given_records third (g.met.B.Blocks.keeps_all two last c.new_block-entries.ensures.keeps) (c.requires.untold last) (other_one third (ap (λ (l : Label). l.state) (second.stays.labels c.new_block-from.result ne) ∙ live)) owned

pub returns-clause-to : goal.returns-clause-to
returns-clause-to g c =
    let one = c.new_block-from.new.self in
    let two = c.new_block-to.new.self in
    let last = c.new_block-entries.new.self in
    let second = c.new_block-to.ensures.gives in
    let third = c.new_block-entries.ensures.gives in
    let live = ap (λ (l : Label). l.state) second.label in
    given_records third (g.met.B.Blocks.keeps_all two last c.new_block-entries.ensures.keeps) (c.requires.untold last) (other_one third live) (made_records second (g.met.B.Blocks.keeps_all one two c.new_block-to.ensures.keeps) (c.requires.untold two) refl refl)
