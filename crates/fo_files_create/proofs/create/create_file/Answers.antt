use Rattle.std.proofs.Common.{◌+◌, ◌^◌, ◌<◌, inl, inr, ap, subst, ◌∙◌, arith}
use Rattle.fo_world.specs.Step.{below, create_need, info_of, new_node}
use Rattle.fo_files_create_look.specs.of_files_along.Along.{HasRoom}
use Rattle.fo_files_create_look.proofs.of_files_along.Refusing.{cause_later, look_cause}
use Rattle.fo_files_create_look.proofs.of_files_along.Whole.{settled_looks}
use Rattle.fo_files_create_look.specs.Named.{new_record}
use Rattle.fo_files_create.specs.Create.{IsLate, numbered, told_of}
use Rattle.fo_files_create.proofs.Late.{late_refused, look_refused}
use Rattle.fo_files_create.proofs.Telling.{told_is}
use Rattle.fo_files_create.proofs.create.create_file.Goals as goal
use Rattle.fo_dirties.proofs.Adding.{dirties_none, dirties_first}
use Rattle.fo_dirties.proofs.Putting.{dirties_looks}

pub make_found-requires-clause-silent : goal.make_found-requires-clause-silent
make_found-requires-clause-silent g c = λ h. c.requires.may.silent ((g.met.B.Blocks.keeps_all c.args.on.now c.look_for_new.new.on c.look_for_new.ensures.looks.1).still_tells.0 h)

pub make_found-requires-clause-found : goal.make_found-requires-clause-found
make_found-requires-clause-found g c = (new_record c.args.name.now c.args.mode c.args.who.now c.args.uid.now c.args.gid.now c.args.now, c.in-Ok.ensures.found)

pub returns-in-Ok-make_found-clause-creates : goal.returns-in-Ok-make_found-clause-creates
returns-in-Ok-make_found-clause-creates g c = record {
  looked = c.look_for_new.new.on;
  looks = c.look_for_new.ensures.looks.0;
  found = c.in-Ok.found;
  is_found = c.in-Ok.ensures.found;
  makes = c.in-Ok-make_found.ensures.makes;
}

pub returns-in-Ok-make_found-clause-told : goal.returns-in-Ok-make_found-clause-told
returns-in-Ok-make_found-clause-told g c =
    let same = c.look_for_new.ensures.looks.0.numbers.next in
    let record_is = c.in-Ok.ensures.found.named_is in
    let at = c.args.at.now in
    c.in-Ok-make_found.ensures.told
    ∙ (ap (λ r. told_of (below at (g.B.Blocks.state c.look_for_new.new.on).next) (numbered (g.B.Blocks.state c.look_for_new.new.on).next r)) record_is
    ∙ (told_is at (g.B.Blocks.state c.look_for_new.new.on).next c.args.name.now c.args.mode c.args.who.now c.args.uid.now c.args.gid.now c.args.now c.in-Ok.ensures.may.active
    ∙ ap (λ q. info_of (below at q) (c.args.name.now, new_node q c.args.mode c.args.who.now c.args.uid.now c.args.gid.now c.args.now)) same))

pub returns-in-Ok-make_found-clause-granted : goal.returns-in-Ok-make_found-clause-granted
returns-in-Ok-make_found-clause-granted g c = (c.in-Ok.ensures.may, subst (λ n. n < 2 ^ 30) c.look_for_new.ensures.looks.0.numbers.next c.in-Ok-make_found.ensures.next.0)

pub returns-in-Ok-make_found-clause-next : goal.returns-in-Ok-make_found-clause-next
returns-in-Ok-make_found-clause-next g c = c.in-Ok-make_found.ensures.next.1 ∙ ap (λ n. n + 1) c.look_for_new.ensures.looks.0.numbers.next

pub returns-in-Err-make_found-clause-left : goal.returns-in-Err-make_found-clause-left
returns-in-Err-make_found-clause-left g c = inr (c.look_for_new.new.on, c.look_for_new.ensures.looks.0, c.in-Err-make_found.ensures.left)

pub returns-in-Err-clause-left : goal.returns-in-Err-clause-left
returns-in-Err-clause-left g c = inl c.look_for_new.ensures.looks.0

pub returns-in-Err-clause-numbers : goal.returns-in-Err-clause-numbers
returns-in-Err-clause-numbers g c = c.look_for_new.ensures.looks.0.numbers.next

pub returns-in-Err-make_found-clause-numbers : goal.returns-in-Err-make_found-clause-numbers
returns-in-Err-make_found-clause-numbers g c = c.in-Err-make_found.ensures.numbers ∙ c.look_for_new.ensures.looks.0.numbers.next

pub returns-in-Err-clause-refused : goal.returns-in-Err-clause-refused
returns-in-Err-clause-refused g c = look_refused g.B.Blocks.state c.args.root c.args.at.now c.args.name.now c.args.mode c.args.halted _ _ c.in-Err.why c.in-Err.ensures.refused

pub returns-in-Err-make_found-clause-refused : goal.returns-in-Err-make_found-clause-refused
returns-in-Err-make_found-clause-refused g c =
    late_refused g.B.Blocks.state c.args.root c.args.at.now c.args.name.now c.args.mode c.args.halted (g.B.Blocks.state c.args.on.now).next c.in-Err-make_found.why c.in-Ok.ensures.may (subst (λ n. IsLate n c.in-Err-make_found.why) c.look_for_new.ensures.looks.0.numbers.next c.in-Err-make_found.ensures.refused)

pub returns-in-Ok-make_found-clause-room : goal.returns-in-Ok-make_found-clause-room
returns-in-Ok-make_found-clause-room g c = λ n has.
    let s = g.B.Blocks.state c.args.on.now in
    let u = g.B.Blocks.state c.look_for_new.new.on in
    let looks = c.look_for_new.ensures.looks in
    let all = g.met.B.Blocks.keeps_all c.args.on.now c.look_for_new.new.on looks.1 in
    c.in-Ok-make_found.ensures.room n (settled_looks s u (λ h. c.requires.may.silent (all.still_tells.0 h)) (λ image h. g.met.B.Blocks.told c.look_for_new.new.on image h) looks.0 has.0, looks.0.usable.0 ∙ has.1)

pub returns-in-Ok-make_found-clause-taken : goal.returns-in-Ok-make_found-clause-taken
returns-in-Ok-make_found-clause-taken g c =
    let same = c.look_for_new.ensures.looks.0.usable.0 in let took = c.make_found.ensures.taken in omega (arith, same, took)

pub returns-in-Err-make_found-clause-taken : goal.returns-in-Err-make_found-clause-taken
returns-in-Err-make_found-clause-taken g c =
    let same = c.look_for_new.ensures.looks.0.usable.0 in let took = c.make_found.ensures.taken in omega (arith, same, took)

pub returns-in-Err-clause-taken : goal.returns-in-Err-clause-taken
returns-in-Err-clause-taken g c =
    let same = c.look_for_new.ensures.looks.0.usable.0 in omega (arith, same)

pub returns-in-Err-make_found-clause-cause : goal.returns-in-Err-make_found-clause-cause
returns-in-Err-make_found-clause-cause g c =
    cause_later (g.B.Blocks.state c.args.on.now) (g.B.Blocks.state c.look_for_new.new.on) (g.B.Blocks.state c.make_found.new.on) (HasRoom (g.B.Blocks.state c.make_found.new.on)) (create_need c.args.at.now) (g.met.B.Blocks.keeps_all c.args.on.now c.look_for_new.new.on c.look_for_new.ensures.looks.1) c.in-Err-make_found.why c.in-Err-make_found.ensures.cause

pub returns-in-Err-clause-cause : goal.returns-in-Err-clause-cause
returns-in-Err-clause-cause g c = look_cause (g.B.Blocks.state c.args.on.now) (g.B.Blocks.state c.look_for_new.new.on) (create_need c.args.at.now) c.in-Err.why c.in-Err.ensures.cause

pub returns-in-Ok-make_found-clause-keeps : goal.returns-in-Ok-make_found-clause-keeps
returns-in-Ok-make_found-clause-keeps g c = g.met.B.Blocks.keeps_joins c.args.on.now c.look_for_new.new.on c.make_found.new.on c.look_for_new.ensures.looks.1 c.make_found.ensures.keeps

pub returns-in-Err-make_found-clause-keeps : goal.returns-in-Err-make_found-clause-keeps
returns-in-Err-make_found-clause-keeps g c = g.met.B.Blocks.keeps_joins c.args.on.now c.look_for_new.new.on c.make_found.new.on c.look_for_new.ensures.looks.1 c.make_found.ensures.keeps

pub returns-in-Err-clause-dirties : goal.returns-in-Err-clause-dirties
returns-in-Err-clause-dirties g c = dirties_none _ (dirties_looks (g.met.B.Blocks.keeps_all c.args.on.now c.look_for_new.new.on c.look_for_new.ensures.looks.1) c.look_for_new.ensures.looks.0)

pub returns-in-Ok-make_found-clause-dirties : goal.returns-in-Ok-make_found-clause-dirties
returns-in-Ok-make_found-clause-dirties g c = dirties_first (dirties_looks (g.met.B.Blocks.keeps_all c.args.on.now c.look_for_new.new.on c.look_for_new.ensures.looks.1) c.look_for_new.ensures.looks.0) c.make_found.ensures.dirties

pub returns-in-Err-make_found-clause-dirties : goal.returns-in-Err-make_found-clause-dirties
returns-in-Err-make_found-clause-dirties g c = dirties_first (dirties_looks (g.met.B.Blocks.keeps_all c.args.on.now c.look_for_new.new.on c.look_for_new.ensures.looks.1) c.look_for_new.ensures.looks.0) c.make_found.ensures.dirties
