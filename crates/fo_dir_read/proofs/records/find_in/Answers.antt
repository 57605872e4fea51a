use Rattle.std.proofs.Common.{◌≡◌, true, Option, IfSome, sym, subst}
use Rattle.fo_image.specs.declared.record.Record.{Record}
use Rattle.fo_image.specs.Record.{RecordHolds}
use Rattle.fo_meta.specs.Leaf.{is_named}
use Rattle.fo_dir_read.proofs.Looking.{found_holds, found_passes, found_named}
use Rattle.fo_dir_read.proofs.records.find_in.Goals as goal

pub returns-in-Ok-clause-holds : goal.returns-in-Ok-clause-holds
returns-in-Ok-clause-holds c =
    let rs = c.requires.records in
    subst (λ (o : Option Record). IfSome o RecordHolds) (sym (c.in-Ok.ensures rs c.requires.spells)) (found_holds (is_named c.args.name.now) rs c.requires.spells.each)

pub returns-in-Ok-clause-named : goal.returns-in-Ok-clause-named
returns-in-Ok-clause-named c =
    let rs = c.requires.records in
    let passes = found_passes (is_named c.args.name.now) rs in
    found_named c.args.name.now c.in-Ok.found (subst (λ (o : Option Record). IfSome o (λ r. is_named c.args.name.now r ≡ true)) (sym (c.in-Ok.ensures rs c.requires.spells)) passes)
