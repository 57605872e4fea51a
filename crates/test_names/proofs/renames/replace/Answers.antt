use Rattle.std.proofs.Common.{◌∙◌, sym, subst}
use Rattle.fo_dir_change.specs.Changes.{Bears}
use Rattle.test_names.proofs.Leaves.{owned_records, is_first, bears}
use Rattle.test_names.proofs.renames.replace.Goals as goal

pub change_record-requires-clause-owned : goal.change_record-requires-clause-owned
change_record-requires-clause-owned g c = owned_records c.requires.leaf

pub change_record-requires-clause-there : goal.change_record-requires-clause-there
change_record-requires-clause-there g c =
    let r = c.in-Ok-Some.field-0-0 in
    let name = c.as_slice.result.now in
    let bytes = c.args.bytes.now in
    let here = bears name bytes r (is_first name bytes c.in-Ok-Some.field-0 r c.in-Ok-Some.field-0-is c.in-Ok-Some.ensures) in
    subst (λ n. Bears n (((g.B.Blocks.state c.args.on.now).now c.args.leaf).bytes)) (c.as_slice.ensures ∙ sym c.as_slice-in-Ok-Some.ensures) (subst (λ xs. Bears name xs) c.requires.bytes.1 here)
