use Rattle.std.proofs.Common.{◌∙◌, sym, ap, Some}
use Rattle.std.specs.Prelude.{find}
use Rattle.fo_meta.specs.Leaf.{is_named}
use Rattle.fo_meta.proofs.Edits.{placed_record}
use Rattle.fo_meta.proofs.Lists.{find-none, find-first}
use Rattle.fo_meta.proofs.leaf.find.Goals as goal

pub returns-in_default : goal.returns-in_default
returns-in_default c = λ rs s. sym (find-none (is_named c.args.name.now) rs (c.in_default.ensures.place rs s))

pub returns-in-Ok : goal.returns-in-Ok
returns-in-Ok c = λ rs s.
    let p = c.in-Some.ensures.place rs s in
    let read = c.in-Ok.ensures.only p.named (placed_record c.args.name.now rs c.args.leaf.now c.in-Some.at c.in-Some.end s p) in
    ap Some read ∙ sym (ap (find (is_named c.args.name.now)) p.split ∙ find-first (is_named c.args.name.now) p.before p.after p.named p.unnamed p.is)
