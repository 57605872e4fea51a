use Rattle.std.proofs.Common.{◌+◌, ◌^◌, ◌<◌, inl, refl, ap, subst, ◌∙◌, arith}
use Rattle.fo_tree_read.proofs.Exits.{looks_none}
use Rattle.fo_world.specs.Step.{below, create_need}
use Rattle.fo_files_create_look.specs.of_files_along.Along.{HasRoom}
use Rattle.fo_files_create_look.proofs.of_files_along.Refusing.{cause_later, look_cause}
use Rattle.fo_files_create.specs.Create.{MakesAlong, numbered, told_of}
use Rattle.fo_files_create.proofs.Late.{blocks_late, settled_numbers}
use Rattle.fo_files_create.proofs.Steps.{found_on}
use Rattle.fo_files_create.proofs.create.make_found.Goals as goal
use Rattle.fo_dirties.proofs.Adding.{dirties_none, dirties_first}
use Rattle.fo_dirties.proofs.Putting.{dirties_numbers}

pub make_numbered-requires-clause-silent : goal.make_numbered-requires-clause-silent
make_numbered-requires-clause-silent g c = λ h. c.requires.silent ((g.met.B.Blocks.keeps_all c.args.on.now c.granted.new.on c.granted.ensures.keeps).still_tells.0 h)

pub make_numbered-requires-clause-found : goal.make_numbered-requires-clause-found
make_numbered-requires-clause-found g c =
    (c.requires.found.0, found_on (g.B.Blocks.state c.args.on.now) (g.B.Blocks.state c.granted.new.on) c.args.root c.args.at.now.trail c.requires.found.0 c.args.found (g.met.B.Blocks.keeps_all c.args.on.now c.granted.new.on c.granted.ensures.keeps) c.requires.found.1)

pub returns-in-Ok-make_numbered-clause-makes : goal.returns-in-Ok-make_numbered-clause-makes
returns-in-Ok-make_numbered-clause-makes g c =
    let p = c.in-Ok-make_numbered.ensures.makes in
    record {
      granted = c.granted.new.on;
      numbers = c.granted.ensures.stays;
      rested = p.0;
      rests = p.3;
      settled = p.1;
      settles = p.4;
      r = p.2;
      makes = subst (λ q. MakesAlong _ g.B.Blocks.state p.1 c.make_numbered.new.on c.args.root c.args.at.now.trail c.args.found.way c.args.found.spot (numbered q c.args.found.named) p.2) c.in-Ok.ensures.number.0 p.5;
    }

pub returns-in-Ok-make_numbered-clause-told : goal.returns-in-Ok-make_numbered-clause-told
returns-in-Ok-make_numbered-clause-told g c = c.in-Ok-make_numbered.ensures.told ∙ ap (λ q. told_of (below c.args.at.now q) (numbered q c.args.found.named)) c.in-Ok.ensures.number.0

pub returns-in-Ok-make_numbered-clause-next : goal.returns-in-Ok-make_numbered-clause-next
returns-in-Ok-make_numbered-clause-next g c =
    let q = c.in-Ok.ensures.number in
    (subst (λ n. n < 2 ^ 30) q.0 q.1, c.in-Ok-make_numbered.ensures.next ∙ ap (λ n. n + 1) c.granted.ensures.stays.room.3)

pub returns-in-Err-make_numbered-clause-left : goal.returns-in-Err-make_numbered-clause-left
returns-in-Err-make_numbered-clause-left g c =
    let p = c.in-Err-make_numbered.ensures.left in
    record { granted = c.granted.new.on; numbers = c.granted.ensures.stays; rested = p.0; rests = p.2; settled = p.1; settles = p.3; left = p.4 }

pub returns-in-Err-clause-left : goal.returns-in-Err-clause-left
returns-in-Err-clause-left g c =
    let n = c.granted.new.on in
    let same = looks_none (g.B.Blocks.state n) in
    record { granted = n; numbers = c.granted.ensures.stays; rested = n; rests = inl same; settled = n; settles = inl refl; left = inl same }

pub returns-in-Err-clause-numbers : goal.returns-in-Err-clause-numbers
returns-in-Err-clause-numbers g c = c.granted.ensures.stays.room.3

pub returns-in-Err-make_numbered-clause-numbers : goal.returns-in-Err-make_numbered-clause-numbers
returns-in-Err-make_numbered-clause-numbers g c = c.in-Err-make_numbered.ensures.numbers ∙ c.granted.ensures.stays.room.3

pub returns-in-Err-make_numbered-clause-refused : goal.returns-in-Err-make_numbered-clause-refused
returns-in-Err-make_numbered-clause-refused g c =
    let q = c.in-Ok.ensures.number in
    blocks_late (g.B.Blocks.state c.args.on.now).next c.in-Err-make_numbered.why (subst (λ n. n < 2 ^ 30) q.0 q.1) c.in-Err-make_numbered.ensures.refused

pub returns-in-Ok-make_numbered-clause-room : goal.returns-in-Ok-make_numbered-clause-room
returns-in-Ok-make_numbered-clause-room g c = λ n has.
    let s = g.B.Blocks.state c.args.on.now in
    let u = g.B.Blocks.state c.granted.new.on in
    let all = g.met.B.Blocks.keeps_all c.args.on.now c.granted.new.on c.granted.ensures.keeps in
    let stays = c.granted.ensures.stays in
    c.in-Ok-make_numbered.ensures.room n (settled_numbers s u (λ h. c.requires.silent (all.still_tells.0 h)) (λ image h. g.met.B.Blocks.told c.granted.new.on image h) stays has.0, stays.usable.0 ∙ has.1)

pub returns-in-Ok-make_numbered-clause-taken : goal.returns-in-Ok-make_numbered-clause-taken
returns-in-Ok-make_numbered-clause-taken g c =
    let same = c.granted.ensures.stays.usable.0 in let took = c.make_numbered.ensures.taken in omega (arith, same, took)

pub returns-in-Err-make_numbered-clause-taken : goal.returns-in-Err-make_numbered-clause-taken
returns-in-Err-make_numbered-clause-taken g c =
    let same = c.granted.ensures.stays.usable.0 in let took = c.make_numbered.ensures.taken in omega (arith, same, took)

pub returns-in-Err-clause-taken : goal.returns-in-Err-clause-taken
returns-in-Err-clause-taken g c =
    let same = c.granted.ensures.stays.usable.0 in omega (arith, same)

pub returns-in-Err-make_numbered-clause-cause : goal.returns-in-Err-make_numbered-clause-cause
returns-in-Err-make_numbered-clause-cause g c =
    cause_later (g.B.Blocks.state c.args.on.now) (g.B.Blocks.state c.granted.new.on) (g.B.Blocks.state c.make_numbered.new.on) (HasRoom (g.B.Blocks.state c.make_numbered.new.on)) (create_need c.args.at.now) (g.met.B.Blocks.keeps_all c.args.on.now c.granted.new.on c.granted.ensures.keeps) c.in-Err-make_numbered.why c.in-Err-make_numbered.ensures.cause

pub returns-in-Err-clause-cause : goal.returns-in-Err-clause-cause
returns-in-Err-clause-cause g c = look_cause (g.B.Blocks.state c.args.on.now) (g.B.Blocks.state c.granted.new.on) (create_need c.args.at.now) c.in-Err.why c.in-Err.ensures.cause

pub returns-in-Ok-make_numbered-clause-keeps : goal.returns-in-Ok-make_numbered-clause-keeps
returns-in-Ok-make_numbered-clause-keeps g c = g.met.B.Blocks.keeps_joins c.args.on.now c.granted.new.on c.make_numbered.new.on c.granted.ensures.keeps c.make_numbered.ensures.keeps

pub returns-in-Err-make_numbered-clause-keeps : goal.returns-in-Err-make_numbered-clause-keeps
returns-in-Err-make_numbered-clause-keeps g c = g.met.B.Blocks.keeps_joins c.args.on.now c.granted.new.on c.make_numbered.new.on c.granted.ensures.keeps c.make_numbered.ensures.keeps

pub returns-in-Err-clause-dirties : goal.returns-in-Err-clause-dirties
returns-in-Err-clause-dirties g c = dirties_none _ (dirties_numbers (g.met.B.Blocks.keeps_all c.args.on.now c.granted.new.on c.granted.ensures.keeps) c.granted.ensures.stays)

pub returns-in-Ok-make_numbered-clause-dirties : goal.returns-in-Ok-make_numbered-clause-dirties
returns-in-Ok-make_numbered-clause-dirties g c = dirties_first (dirties_numbers (g.met.B.Blocks.keeps_all c.args.on.now c.granted.new.on c.granted.ensures.keeps) c.granted.ensures.stays) c.make_numbered.ensures.dirties

pub returns-in-Err-make_numbered-clause-dirties : goal.returns-in-Err-make_numbered-clause-dirties
returns-in-Err-make_numbered-clause-dirties g c = dirties_first (dirties_numbers (g.met.B.Blocks.keeps_all c.args.on.now c.granted.new.on c.granted.ensures.keeps) c.granted.ensures.stays) c.make_numbered.ensures.dirties
