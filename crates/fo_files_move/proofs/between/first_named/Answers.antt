use Rattle.std.proofs.Common.{◌≡◌, true, Option, IfSome, sym, subst}
use Rattle.fo_image.specs.declared.record.Record.{Record}
use Rattle.fo_image.specs.Record.{RecordHolds}
use Rattle.fo_meta.specs.Leaf.{is_named}
use Rattle.fo_dir_read.proofs.Looking.{found_holds, found_passes, found_named}
use Rattle.fo_files_move.proofs.between.first_named.Goals as goal

pub returns-in-Ok-Some-clause-named : goal.returns-in-Ok-Some-clause-named
returns-in-Ok-Some-clause-named c =
    let rs = c.requires.records in
    let name = c.args.name.now in
    subst (λ (o : Option Record). IfSome o (λ r. r.name ≡ name)) (c.in-Ok-Some.field-0-is) (found_named name c.in-Ok-Some.field-0 (subst (λ (o : Option Record). IfSome o (λ r. is_named name r ≡ true)) (sym (c.in-Ok-Some.ensures rs c.requires.spells)) (found_passes (is_named name) rs)))

pub returns-in-Ok-Some-clause-holds : goal.returns-in-Ok-Some-clause-holds
returns-in-Ok-Some-clause-holds c =
    let rs = c.requires.records in
    subst (λ (o : Option Record). IfSome o RecordHolds) (c.in-Ok-Some.field-0-is) (subst (λ (o : Option Record). IfSome o RecordHolds) (sym (c.in-Ok-Some.ensures rs c.requires.spells)) (found_holds (is_named c.args.name.now) rs c.requires.spells.each))
