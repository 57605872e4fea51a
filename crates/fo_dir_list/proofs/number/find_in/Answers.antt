use Rattle.std.proofs.Common.{◌≡◌, true, Option, Some, IfSome, sym, ap, subst, ◌∙◌}
use Rattle.std.proofs.lemmas.Bool.{eqb-true}
use Rattle.fo_image.specs.declared.record.Record.{Record}
use Rattle.fo_dir_read.proofs.Looking.{found_passes}
use Rattle.fo_dir_list.specs.Numbered.{has_number}
use Rattle.fo_dir_list.proofs.Walk.{reads_there}
use Rattle.fo_dir_list.proofs.number.find_in.Goals as goal

pub returns-in_default-clause-found : goal.returns-in_default-clause-found
returns-in_default-clause-found c = λ rs s. sym (c.in_default.ensures.place rs s)

pub returns-in-Ok-clause-found : goal.returns-in-Ok-clause-found
returns-in-Ok-clause-found c = λ rs s.
    let p = c.in-Some.ensures.place rs s in
    let read = c.in-Ok.ensures.only p.0 (reads_there c.args.leaf.now c.in-Some.at c.in-Some.end p.0 p.1) in
    ap Some read ∙ sym p.2

pub returns-in-Ok-clause-numbered : goal.returns-in-Ok-clause-numbered
returns-in-Ok-clause-numbered c =
    let rs = c.requires.records in
    let p = c.in-Some.ensures.place rs c.requires.spells in
    let read = c.in-Ok.ensures.only p.0 (reads_there c.args.leaf.now c.in-Some.at c.in-Some.end p.0 p.1) in
    let passes = subst (λ (o : Option Record). IfSome o (λ r. has_number c.args.number r ≡ true)) p.2 (found_passes (has_number c.args.number) rs) in
    ap (λ (x : Record). x.number) read ∙ eqb-true p.0.number c.args.number passes
