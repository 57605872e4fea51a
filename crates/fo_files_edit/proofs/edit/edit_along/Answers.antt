use Rattle.std.proofs.Common.{length, inl, inr, subst, arith, refl}
use Rattle.fo_files_into.specs.Into.{Edits, UnchangedBy}
use Rattle.fo_files_into.proofs.of_files_ready.Steps.{failed_since}
use Rattle.fo_files_into.proofs.of_files_along.Ways.{steps_long, file_holds}
use Rattle.fo_files_into.proofs.Steps.{last_step}
use Rattle.fo_files_edit.proofs.edit.edit_along.Goals as goal
use Rattle.fo_dirties.proofs.Adding.{dirties_none, dirties_fewer, dirties_adds, cons_counted, none_counted}
use Rattle.fo_dirties.proofs.Putting.{dirties_looks}

pub own_along-requires-clause-way : goal.own_along-requires-clause-way
own_along-requires-clause-way g c =
    (c.args.root, (c.args.trail.now, c.requires.way))

pub own_along-requires-clause-some : goal.own_along-requires-clause-some
own_along-requires-clause-some g c =
    let long = steps_long (g.B.Blocks.state c.args.on.now) c.args.root c.args.trail.now c.args.found.now.way c.requires.way in
    let some = c.requires.some in omega (arith, long, some)

pub own_along-requires-clause-pins : goal.own_along-requires-clause-pins
own_along-requires-clause-pins g c =
    let long = steps_long (g.B.Blocks.state c.args.on.now) c.args.root c.args.trail.now c.args.found.now.way c.requires.way in
    let enough = c.requires.pins in omega (arith, long, enough)

pub own_along-requires-clause-spare : goal.own_along-requires-clause-spare
own_along-requires-clause-spare g c =
    let long = steps_long (g.B.Blocks.state c.args.on.now) c.args.root c.args.trail.now c.args.found.now.way c.requires.way in
    let some = c.requires.some in let enough = c.requires.blocks in omega (arith, long, some, enough)

pub change_into-requires-clause-silent : goal.change_into-requires-clause-silent
change_into-requires-clause-silent g c =
    λ h. c.requires.silent ((g.met.B.Blocks.keeps_all c.args.on.now c.own_along.new.on c.own_along.ensures.keeps).still_tells.0 h)

pub change_into-requires-clause-spelled : goal.change_into-requires-clause-spelled
change_into-requires-clause-spelled g c =
    (file_holds (g.B.Blocks.state c.args.on.now) c.args.root c.args.trail.now c.args.found.now.way c.requires.way).named

pub change_into-requires-clause-pins : goal.change_into-requires-clause-pins
change_into-requires-clause-pins g c =
    let long = steps_long (g.B.Blocks.state c.args.on.now) c.args.root c.args.trail.now c.args.found.now.way c.requires.way in
    let took = c.own_along.ensures.pins in let enough = c.requires.pins in omega (arith, long, took, enough)

pub change_into-requires-clause-spare : goal.change_into-requires-clause-spare
change_into-requires-clause-spare g c =
    let long = steps_long (g.B.Blocks.state c.args.on.now) c.args.root c.args.trail.now c.args.found.now.way c.requires.way in
    let some = c.requires.some in let took = c.own_along.ensures.spare in let enough = c.requires.blocks in omega (arith, long, some, took, enough)

pub change_into-requires-clause-room : goal.change_into-requires-clause-room
change_into-requires-clause-room g c =
    let same = c.own_along.ensures.room in let enough = c.requires.room in omega (arith, same, enough)

pub returns-in-Err-clause-left : goal.returns-in-Err-clause-left
returns-in-Err-clause-left g c = inl c.in-Err.ensures.nothing

pub returns-in-Ok-change_into-clause-edits : goal.returns-in-Ok-change_into-clause-edits
returns-in-Ok-change_into-clause-edits g c =
    let w = c.in-Ok.ensures.owned in
    let o = w.1 c.args.root c.args.trail.now c.requires.way in
    let long = steps_long (g.B.Blocks.state c.args.on.now) c.args.root c.args.trail.now c.args.found.now.way c.requires.way in
    let step = c.index.result.now in
    record {
      looked = w.0;
      looks = o.0;
      owned = c.own_along.new.on;
      owns = record { dir = c.in-Ok.stand.dir; file = c.in-Ok.stand.file; above = c.in-Ok.stand.above; along = o.1; last = step; last_is = last_step c.args.found.now.way.steps.items step c.len.result (length c.args.trail.now) (let count = c.len.ensures in omega (arith, count)) long c.index.ensures };
      spare = c.args.found.now.spare;
      edits = subst (λ n. Edits _ g.B.Blocks.state c.own_along.new.on c.change_into.new.on c.in-Ok.stand.dir c.in-Ok.stand.file c.index.result.now.leaf c.args.found.now.spare n c.args.found.now.way.file.named c.args.given) c.as_slice-name.ensures c.in-Ok-change_into.ensures.edits;
    }

pub returns-in-Err-change_into-clause-left : goal.returns-in-Err-change_into-clause-left
returns-in-Err-change_into-clause-left g c =
    let w = c.in-Ok.ensures.owned in
    let o = w.1 c.args.root c.args.trail.now c.requires.way in
    let long = steps_long (g.B.Blocks.state c.args.on.now) c.args.root c.args.trail.now c.args.found.now.way c.requires.way in
    let step = c.index.result.now in
    inr (record {
      looked = w.0;
      looks = o.0;
      owned = c.own_along.new.on;
      owns = record { dir = c.in-Ok.stand.dir; file = c.in-Ok.stand.file; above = c.in-Ok.stand.above; along = o.1; last = step; last_is = last_step c.args.found.now.way.steps.items step c.len.result (length c.args.trail.now) (let count = c.len.ensures in omega (arith, count)) long c.index.ensures };
      spare = c.args.found.now.spare;
      left = subst (λ n. UnchangedBy _ g.B.Blocks.state c.own_along.new.on c.change_into.new.on c.in-Ok.stand.dir c.in-Ok.stand.file c.index.result.now.leaf c.args.found.now.spare n c.args.given) c.as_slice-name.ensures c.in-Err-change_into.ensures.left;
    })

pub returns-in-Err-clause-taken : goal.returns-in-Err-clause-taken
returns-in-Err-clause-taken g c = c.own_along.ensures.usable

pub returns-in-Ok-change_into-clause-taken : goal.returns-in-Ok-change_into-clause-taken
returns-in-Ok-change_into-clause-taken g c =
    let a = c.own_along.ensures.usable in let b = c.change_into.ensures.usable in omega (arith, a, b)

pub returns-in-Err-change_into-clause-taken : goal.returns-in-Err-change_into-clause-taken
returns-in-Err-change_into-clause-taken g c =
    let a = c.own_along.ensures.usable in let b = c.change_into.ensures.usable in omega (arith, a, b)

pub returns-in-Err-clause-spare : goal.returns-in-Err-clause-spare
returns-in-Err-clause-spare g c =
    let long = steps_long (g.B.Blocks.state c.args.on.now) c.args.root c.args.trail.now c.args.found.now.way c.requires.way in
    let a = c.own_along.ensures.spare in omega (arith, long, a)

pub returns-in-Ok-change_into-clause-spare : goal.returns-in-Ok-change_into-clause-spare
returns-in-Ok-change_into-clause-spare g c =
    let long = steps_long (g.B.Blocks.state c.args.on.now) c.args.root c.args.trail.now c.args.found.now.way c.requires.way in
    let a = c.own_along.ensures.spare in let b = c.change_into.ensures.spare in omega (arith, long, a, b)

pub returns-in-Err-change_into-clause-spare : goal.returns-in-Err-change_into-clause-spare
returns-in-Err-change_into-clause-spare g c =
    let long = steps_long (g.B.Blocks.state c.args.on.now) c.args.root c.args.trail.now c.args.found.now.way c.requires.way in
    let a = c.own_along.ensures.spare in let b = c.change_into.ensures.spare in omega (arith, long, a, b)

pub returns-in-Err-change_into-clause-cause : goal.returns-in-Err-change_into-clause-cause
returns-in-Err-change_into-clause-cause g c =
    failed_since (g.B.Blocks.state c.args.on.now) (g.B.Blocks.state c.own_along.new.on) (g.B.Blocks.state c.change_into.new.on) (g.met.B.Blocks.keeps_all c.args.on.now c.own_along.new.on c.own_along.ensures.keeps) (g.met.B.Blocks.keeps_all c.own_along.new.on c.change_into.new.on c.change_into.ensures.keeps) c.in-Err-change_into.why c.in-Err-change_into.ensures.cause

pub returns-in-Ok-change_into-clause-keeps : goal.returns-in-Ok-change_into-clause-keeps
returns-in-Ok-change_into-clause-keeps g c =
    g.met.B.Blocks.keeps_joins c.args.on.now c.own_along.new.on c.change_into.new.on c.own_along.ensures.keeps c.change_into.ensures.keeps

pub returns-in-Err-change_into-clause-keeps : goal.returns-in-Err-change_into-clause-keeps
returns-in-Err-change_into-clause-keeps g c =
    g.met.B.Blocks.keeps_joins c.args.on.now c.own_along.new.on c.change_into.new.on c.own_along.ensures.keeps c.change_into.ensures.keeps

pub returns-in-Err-clause-dirties : goal.returns-in-Err-clause-dirties
returns-in-Err-clause-dirties g c = dirties_none _ (dirties_looks (g.met.B.Blocks.keeps_all c.args.on.now c.own_along.new.on c.own_along.ensures.keeps) c.in-Err.ensures.nothing)

pub returns-in-Ok-change_into-clause-dirties : goal.returns-in-Ok-change_into-clause-dirties
returns-in-Ok-change_into-clause-dirties g c =
    let long = steps_long (g.B.Blocks.state c.args.on.now) c.args.root c.args.trail.now c.args.found.now.way c.requires.way in
    dirties_fewer (omega (arith, long)) (λ b h. absurd h) (dirties_adds c.in-Ok.ensures.dirties c.change_into.ensures.dirties (cons_counted (inr (inl refl)) (cons_counted (inl refl) none_counted)))

pub returns-in-Err-change_into-clause-dirties : goal.returns-in-Err-change_into-clause-dirties
returns-in-Err-change_into-clause-dirties g c =
    let long = steps_long (g.B.Blocks.state c.args.on.now) c.args.root c.args.trail.now c.args.found.now.way c.requires.way in
    dirties_fewer (omega (arith, long)) (λ b h. absurd h) (dirties_adds c.in-Ok.ensures.dirties c.change_into.ensures.dirties (cons_counted (inr (inl refl)) (cons_counted (inl refl) none_counted)))
