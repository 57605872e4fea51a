use Rattle.std.proofs.Common.{refl, sym, ◌∙◌, ap, arith}
use Rattle.fo_sparse.specs.Written.{resized}
use Rattle.fo_tree_look.specs.Source.{leaves_of}
use Rattle.fo_tree_trim.proofs.of_tree_own.Showing.{nothing_shows}
use Rattle.fo_tree_set.proofs.Lengths.{bytes_kept, bytes_taken}
use Rattle.fo_tree_set.proofs.set.set_len.Goals as goal

pub returns-then-len-ways-clause-bytes : goal.returns-then-len-ways-clause-bytes
returns-then-len-ways-clause-bytes g c = λ told.
    let w = c.args.ways.now in
    bytes_kept (g.B.Blocks.state c.args.on.now) w.tree w.kept.items w.limit w.tree.size refl

pub returns-in-Ok-clause-bytes : goal.returns-in-Ok-clause-bytes
returns-in-Ok-clause-bytes g c = λ told.
    let s = g.B.Blocks.state c.args.on.now in
    let w = c.args.ways.now in
    let test = c.if-len-ways-2.true in
    c.set_shorter.ensures.bytes told
    ∙ bytes_taken s w.tree w.kept.items w.limit c.args.len (omega (arith, test))
    ∙ ap (λ z. resized (leaves_of s w.tree w.kept.items w.limit).bytes z) (sym c.set_shorter.ensures.size)

pub returns-in-Err-clause-bytes : goal.returns-in-Err-clause-bytes
returns-in-Err-clause-bytes g c = λ told.
    let s = g.B.Blocks.state c.args.on.now in
    let w = c.args.ways.now in
    let test = c.if-len-ways-2.true in
    c.set_shorter.ensures.bytes told
    ∙ bytes_taken s w.tree w.kept.items w.limit c.args.len (omega (arith, test))
    ∙ ap (λ z. resized (leaves_of s w.tree w.kept.items w.limit).bytes z) (sym c.set_shorter.ensures.size)

pub returns-clause-bytes : goal.returns-clause-bytes
returns-clause-bytes g c = λ told.
    let w = c.args.ways.now in
    bytes_kept (g.B.Blocks.state c.args.on.now) w.tree w.kept.items w.limit w.tree.size refl

pub returns-then-len-ways-clause-shown : goal.returns-then-len-ways-clause-shown
returns-then-len-ways-clause-shown g c = nothing_shows (record { each = λ image is. is })

pub returns-clause-shown : goal.returns-clause-shown
returns-clause-shown g c = nothing_shows (record { each = λ image is. is })

pub returns-in-Ok-clause-shown : goal.returns-in-Ok-clause-shown
returns-in-Ok-clause-shown g c = c.set_shorter.ensures.shown c.requires.data.1

pub returns-in-Err-clause-shown : goal.returns-in-Err-clause-shown
returns-in-Err-clause-shown g c = c.set_shorter.ensures.shown c.requires.data.1
