use Rattle.fo_files_cut.proofs.cut.set_ready.Goals as goal
use Rattle.fo_dirties.proofs.Adding.{adds_more}
use Rattle.fo_dirties.proofs.Putting.{dirties_at_once, first_among}
use Rattle.std.proofs.Common.{[], ◌∷◌, arith}
use Rattle.fo_tree_set.proofs.of_tree_trim.Least.{few_for}

pub returns-in-Ok-clause-dirties : goal.returns-in-Ok-clause-dirties
returns-in-Ok-clause-dirties g c =
    let few = c.requires.over.hangs.few in
    let end = few_for c.args.len in
    let given = c.args.file.at ∷ [] in
    adds_more (omega (arith, few, end)) (c.set_len.ensures.dirties c.args.on.now given (dirties_at_once (g.B.Blocks.state c.args.on.now) given) (first_among c.args.file.at []))

pub returns-in-Err-Refused-clause-dirties : goal.returns-in-Err-Refused-clause-dirties
returns-in-Err-Refused-clause-dirties g c =
    let few = c.requires.over.hangs.few in
    let end = few_for c.args.len in
    let given = c.args.file.at ∷ [] in
    adds_more (omega (arith, few, end)) (c.set_len.ensures.dirties c.args.on.now given (dirties_at_once (g.B.Blocks.state c.args.on.now) given) (first_among c.args.file.at []))

pub returns-in-Err-clause-dirties : goal.returns-in-Err-clause-dirties
returns-in-Err-clause-dirties g c =
    let few = c.requires.over.hangs.few in
    let end = few_for c.args.len in
    let given = c.args.file.at ∷ [] in
    adds_more (omega (arith, few, end)) (c.set_len.ensures.dirties c.args.on.now given (dirties_at_once (g.B.Blocks.state c.args.on.now) given) (first_among c.args.file.at []))
