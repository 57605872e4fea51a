use Rattle.std.proofs.Common.{length, inl, inr, arith, refl}
use Rattle.fo_files_into.proofs.of_files_ready.Steps.{failed_since}
use Rattle.fo_files_into.proofs.of_files_along.Ways.{steps_long, file_holds}
use Rattle.fo_files_into.proofs.Steps.{last_step}
use Rattle.fo_files_request.proofs.write.write_along.Goals as goal
use Rattle.fo_dirties.proofs.Adding.{dirties_none, dirties_fewer, dirties_adds, cons_counted, none_counted}
use Rattle.fo_dirties.proofs.Putting.{dirties_looks}

pub own_along-requires-clause-way : goal.own_along-requires-clause-way
own_along-requires-clause-way g c =
    (c.args.root, (c.args.trail.now, c.requires.way))

pub own_along-requires-clause-some : goal.own_along-requires-clause-some
own_along-requires-clause-some g c =
    let long = steps_long (g.B.Blocks.state c.args.on.now) c.args.root c.args.trail.now c.args.found.now.way c.requires.way in
    let some = c.requires.short.0 in omega (arith, long, some)

pub own_along-requires-clause-pins : goal.own_along-requires-clause-pins
own_along-requires-clause-pins g c =
    let long = steps_long (g.B.Blocks.state c.args.on.now) c.args.root c.args.trail.now c.args.found.now.way c.requires.way in
    let enough = c.requires.pins in omega (arith, long, enough)

pub own_along-requires-clause-spare : goal.own_along-requires-clause-spare
own_along-requires-clause-spare g c =
    let long = steps_long (g.B.Blocks.state c.args.on.now) c.args.root c.args.trail.now c.args.found.now.way c.requires.way in
    let some = c.requires.short.0 in let enough = c.requires.blocks in omega (arith, long, some, enough)

pub write_into-requires-clause-silent : goal.write_into-requires-clause-silent
write_into-requires-clause-silent g c =
    λ h. c.requires.silent ((g.met.B.Blocks.keeps_all c.args.on.now c.own_along.new.on c.own_along.ensures.keeps).still_tells.0 h)

pub write_into-requires-clause-spelled : goal.write_into-requires-clause-spelled
write_into-requires-clause-spelled g c =
    (file_holds (g.B.Blocks.state c.args.on.now) c.args.root c.args.trail.now c.args.found.now.way c.requires.way).named

pub write_into-requires-clause-pins : goal.write_into-requires-clause-pins
write_into-requires-clause-pins g c =
    let long = steps_long (g.B.Blocks.state c.args.on.now) c.args.root c.args.trail.now c.args.found.now.way c.requires.way in
    let took = c.own_along.ensures.pins in let enough = c.requires.pins in omega (arith, long, took, enough)

pub write_into-requires-clause-spare : goal.write_into-requires-clause-spare
write_into-requires-clause-spare g c =
    let long = steps_long (g.B.Blocks.state c.args.on.now) c.args.root c.args.trail.now c.args.found.now.way c.requires.way in
    let some = c.requires.short.0 in let took = c.own_along.ensures.spare in let enough = c.requires.blocks in omega (arith, long, some, took, enough)

pub write_into-requires-clause-room : goal.write_into-requires-clause-room
write_into-requires-clause-room g c =
    let same = c.own_along.ensures.room in let enough = c.requires.room in omega (arith, same, enough)

pub returns-in-Err-clause-left : goal.returns-in-Err-clause-left
returns-in-Err-clause-left g c = inl c.in-Err.ensures.nothing

pub returns-in-Ok-write_into-clause-puts : goal.returns-in-Ok-write_into-clause-puts
returns-in-Ok-write_into-clause-puts g c =
    let w = c.in-Ok.ensures.owned in
    let o = w.1 c.args.root c.args.trail.now c.requires.way in
    let long = steps_long (g.B.Blocks.state c.args.on.now) c.args.root c.args.trail.now c.args.found.now.way c.requires.way in
    let step = c.index.result.now in
    record {
      looked = w.0;
      looks = o.0;
      owned = c.own_along.new.on;
      owns = record { dir = c.in-Ok.stand.dir; file = c.in-Ok.stand.file; above = c.in-Ok.stand.above; along = o.1; last = step; last_is = last_step c.args.found.now.way.steps.items step c.len.result (length c.args.trail.now) (let count = c.len.ensures in omega (arith, count)) long c.index.ensures };
      spare = c.args.found.now.spare;
      puts = c.in-Ok-write_into.ensures.puts;
    }

pub returns-in-Err-write_into-clause-left : goal.returns-in-Err-write_into-clause-left
returns-in-Err-write_into-clause-left g c =
    let w = c.in-Ok.ensures.owned in
    let o = w.1 c.args.root c.args.trail.now c.requires.way in
    let long = steps_long (g.B.Blocks.state c.args.on.now) c.args.root c.args.trail.now c.args.found.now.way c.requires.way in
    let step = c.index.result.now in
    inr (record {
      looked = w.0;
      looks = o.0;
      way = c.args.found.now.way;
      owned = c.own_along.new.on;
      owns = record { dir = c.in-Ok.stand.dir; file = c.in-Ok.stand.file; above = c.in-Ok.stand.above; along = o.1; last = step; last_is = last_step c.args.found.now.way.steps.items step c.len.result (length c.args.trail.now) (let count = c.len.ensures in omega (arith, count)) long c.index.ensures };
      spare = c.args.found.now.spare;
      left = c.in-Err-write_into.ensures.left;
    })

pub returns-in-Err-clause-taken : goal.returns-in-Err-clause-taken
returns-in-Err-clause-taken g c =
    let long = steps_long (g.B.Blocks.state c.args.on.now) c.args.root c.args.trail.now c.args.found.now.way c.requires.way in
    let some = c.requires.short.0 in let a = c.own_along.ensures.usable in let b = c.own_along.ensures.spare in omega (arith, long, some, a, b)

pub returns-in-Ok-write_into-clause-taken : goal.returns-in-Ok-write_into-clause-taken
returns-in-Ok-write_into-clause-taken g c =
    let long = steps_long (g.B.Blocks.state c.args.on.now) c.args.root c.args.trail.now c.args.found.now.way c.requires.way in
    let some = c.requires.short.0 in let a = c.own_along.ensures.usable in let b = c.own_along.ensures.spare in let d = c.write_into.ensures.usable in let e = c.write_into.ensures.spare in omega (arith, long, some, a, b, d, e)

pub returns-in-Err-write_into-clause-taken : goal.returns-in-Err-write_into-clause-taken
returns-in-Err-write_into-clause-taken g c =
    let long = steps_long (g.B.Blocks.state c.args.on.now) c.args.root c.args.trail.now c.args.found.now.way c.requires.way in
    let some = c.requires.short.0 in let a = c.own_along.ensures.usable in let b = c.own_along.ensures.spare in let d = c.write_into.ensures.usable in let e = c.write_into.ensures.spare in omega (arith, long, some, a, b, d, e)

pub returns-in-Err-write_into-clause-cause : goal.returns-in-Err-write_into-clause-cause
returns-in-Err-write_into-clause-cause g c =
    failed_since (g.B.Blocks.state c.args.on.now) (g.B.Blocks.state c.own_along.new.on) (g.B.Blocks.state c.write_into.new.on) (g.met.B.Blocks.keeps_all c.args.on.now c.own_along.new.on c.own_along.ensures.keeps) (g.met.B.Blocks.keeps_all c.own_along.new.on c.write_into.new.on c.write_into.ensures.keeps) c.in-Err-write_into.why c.in-Err-write_into.ensures.cause

pub returns-in-Ok-write_into-clause-keeps : goal.returns-in-Ok-write_into-clause-keeps
returns-in-Ok-write_into-clause-keeps g c =
    g.met.B.Blocks.keeps_joins c.args.on.now c.own_along.new.on c.write_into.new.on c.own_along.ensures.keeps c.write_into.ensures.keeps

pub returns-in-Err-write_into-clause-keeps : goal.returns-in-Err-write_into-clause-keeps
returns-in-Err-write_into-clause-keeps g c =
    g.met.B.Blocks.keeps_joins c.args.on.now c.own_along.new.on c.write_into.new.on c.own_along.ensures.keeps c.write_into.ensures.keeps

pub returns-in-Err-clause-dirties : goal.returns-in-Err-clause-dirties
returns-in-Err-clause-dirties g c = dirties_none _ (dirties_looks (g.met.B.Blocks.keeps_all c.args.on.now c.own_along.new.on c.own_along.ensures.keeps) c.in-Err.ensures.nothing)

pub returns-in-Ok-write_into-clause-dirties : goal.returns-in-Ok-write_into-clause-dirties
returns-in-Ok-write_into-clause-dirties g c =
    let long = steps_long (g.B.Blocks.state c.args.on.now) c.args.root c.args.trail.now c.args.found.now.way c.requires.way in
    let some = c.requires.short.0 in
    dirties_fewer (omega (arith, long, some)) (λ b h. absurd h) (dirties_adds c.in-Ok.ensures.dirties c.write_into.ensures.dirties (cons_counted (inr (inl refl)) (cons_counted (inl refl) none_counted)))

pub returns-in-Err-write_into-clause-dirties : goal.returns-in-Err-write_into-clause-dirties
returns-in-Err-write_into-clause-dirties g c =
    let long = steps_long (g.B.Blocks.state c.args.on.now) c.args.root c.args.trail.now c.args.found.now.way c.requires.way in
    let some = c.requires.short.0 in
    dirties_fewer (omega (arith, long, some)) (λ b h. absurd h) (dirties_adds c.in-Ok.ensures.dirties c.write_into.ensures.dirties (cons_counted (inr (inl refl)) (cons_counted (inl refl) none_counted)))
