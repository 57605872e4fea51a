use Rattle.std.proofs.Common.{sym, subst}
use Rattle.fo_dir_change.specs.Changes.{IsFirstOf}
use Rattle.test_names.proofs.Leaves.{are_ready, may_settle, is_first, first_named, first_holds}
use Rattle.test_names.proofs.renames.transfer.Goals as goal

pub move_record-requires-clause-ready : goal.move_record-requires-clause-ready
move_record-requires-clause-ready g c = are_ready (c.requires.memory c.args.on.now) c.requires.from c.requires.to c.requires.entries

pub move_record-requires-clause-may : goal.move_record-requires-clause-may
move_record-requires-clause-may g c = λ told. may_settle (g.met.B.Blocks.active c.args.on.now).0 (c.requires.memory c.args.on.now) c.requires.none c.requires.from c.requires.to c.requires.entries

pub move_record-requires-clause-first : goal.move_record-requires-clause-first
move_record-requires-clause-first g c =
    let named = c.in-Ok-Some.named in
    let name = c.as_slice.result.now in
    let bytes = c.args.from_bytes.now in
    let first = is_first name bytes c.in-Ok-Some.field-0 named c.in-Ok-Some.field-0-is c.in-Ok-Some.ensures in
    subst (λ xs. IsFirstOf named.name xs named) c.requires.from_bytes.1 (subst (λ n. IsFirstOf n bytes named) (sym (first_named name bytes named c.requires.from_bytes.0 first)) first)

pub move_record-requires-clause-spelled : goal.move_record-requires-clause-spelled
move_record-requires-clause-spelled g c =
    let name = c.as_slice.result.now in
    let bytes = c.args.from_bytes.now in
    first_holds name bytes c.in-Ok-Some.named c.requires.from_bytes.0 (is_first name bytes c.in-Ok-Some.field-0 c.in-Ok-Some.named c.in-Ok-Some.field-0-is c.in-Ok-Some.ensures)
