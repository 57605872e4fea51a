use Rattle.std.proofs.Common.{◌+◌, length, inl, inr, sym, ap, subst, ◌∙◌, arith, refl}
use Rattle.fo_files_own.proofs.of_files_ready.Steps.{failed_since}
use Rattle.fo_files_create_look.proofs.of_files_along.Ways.{file_holds, steps_long}
use Rattle.fo_files_own.specs.Own.{IsApartFrom, IsOwnAt, MayOwn, block_of}
use Rattle.fo_files_create.specs.Create.{LeavesNew, MakesNew, last_leaf}
use Rattle.fo_files_create.proofs.Steps.{above_of_root, own_may, own_with}
use Rattle.fo_files_create.proofs.along.make_along.Goals as goal
use Rattle.fo_dirties.proofs.Adding.{dirties_none, dirties_fewer, dirties_adds, cons_counted, none_counted}
use Rattle.fo_dirties.proofs.Putting.{dirties_looks}
use Rattle.fo_files_own.proofs.Carry.{few_blocks}
use Rattle.fo_files_own.proofs.Standing.{own_in, own_stands}
use Rattle.fo_files_own.specs.declared.at.OwnAt.{OwnAt}
use Rattle.fo_files_create_look.specs.of_files_along.Along.{HasPairIn}

pub own_dir_along-requires-clause-way : goal.own_dir_along-requires-clause-way
own_dir_along-requires-clause-way g c = (c.args.root, (c.args.trail.now, c.requires.way))

pub own_dir_along-requires-clause-short : goal.own_dir_along-requires-clause-short
own_dir_along-requires-clause-short g c =
    let long = steps_long (g.B.Blocks.state c.args.on.now) c.args.root c.args.trail.now c.args.way.now c.requires.way in
    let short = c.requires.short in omega (arith, long, short)

pub own_dir_along-requires-clause-pins : goal.own_dir_along-requires-clause-pins
own_dir_along-requires-clause-pins g c =
    let long = steps_long (g.B.Blocks.state c.args.on.now) c.args.root c.args.trail.now c.args.way.now c.requires.way in
    let enough = c.requires.pins in omega (arith, long, enough)

pub own_dir_along-requires-clause-spare : goal.own_dir_along-requires-clause-spare
own_dir_along-requires-clause-spare g c =
    let long = steps_long (g.B.Blocks.state c.args.on.now) c.args.root c.args.trail.now c.args.way.now c.requires.way in
    let enough = c.requires.spare in omega (arith, long, enough)

pub put_new-requires-clause-silent : goal.put_new-requires-clause-silent
put_new-requires-clause-silent g c = λ h. c.requires.silent ((g.met.B.Blocks.keeps_all c.args.on.now c.own_dir_along.new.on c.own_dir_along.ensures.keeps).still_tells.0 h)

pub put_new-requires-clause-own : goal.put_new-requires-clause-own
put_new-requires-clause-own g c =
    let u = g.B.Blocks.state c.own_dir_along.new.on in
    let at = c.in-Ok.stand in
    let way = c.args.way.now in
    subst (λ o. IsOwnAt u o × IsApartFrom at.dir o) (sym (own_with c.own_at-own.result c.in-Ok.stand.dir c.in-Ok.stand.above c.own_leaf.result (last_leaf c.args.way.now.steps.items) c.args.spare c.own_at-own.ensures c.own_leaf.ensures)) (own_stands u at.dir at.above (last_leaf way.steps.items) c.args.spare c.in-Ok.ensures.dir c.in-Ok.ensures.above)

pub put_new-requires-clause-touched : goal.put_new-requires-clause-touched
put_new-requires-clause-touched g c =
    let s = g.B.Blocks.state c.args.on.now in
    let at = c.in-Ok.stand in
    let way = c.args.way.now in
    let goes = (c.in-Ok.ensures.owned.1 c.args.root c.args.trail.now c.requires.way).1 in
    let holds = (file_holds s c.args.root c.args.trail.now way c.requires.way).named in
    subst (λ o. MayOwn o way.file.named) (sym (own_with c.own_at-own.result c.in-Ok.stand.dir c.in-Ok.stand.above c.own_leaf.result (last_leaf c.args.way.now.steps.items) c.args.spare c.own_at-own.ensures c.own_leaf.ensures)) (own_may at.dir at.above (last_leaf way.steps.items) c.args.spare way.file.named (λ none. c.requires.of_root (above_of_root goes.at way.steps.items (length c.args.trail.now) at.above none goes.above_is)) holds)

pub put_new-requires-clause-granted : goal.put_new-requires-clause-granted
put_new-requires-clause-granted g c =
    let o = c.in-Ok.ensures.owned.1 c.args.root c.args.trail.now c.requires.way in
    o.1.owns.owned.numbers.grants (o.0.numbers.grants c.requires.granted)

pub put_new-requires-clause-pins : goal.put_new-requires-clause-pins
put_new-requires-clause-pins g c =
    let long = steps_long (g.B.Blocks.state c.args.on.now) c.args.root c.args.trail.now c.args.way.now c.requires.way in
    let took = c.own_dir_along.ensures.pins in let enough = c.requires.pins in omega (arith, long, took, enough)

pub put_new-requires-clause-spare : goal.put_new-requires-clause-spare
put_new-requires-clause-spare g c =
    let long = steps_long (g.B.Blocks.state c.args.on.now) c.args.root c.args.trail.now c.args.way.now c.requires.way in
    let took = c.own_dir_along.ensures.spare in let enough = c.requires.spare in omega (arith, long, took, enough)

pub put_new-requires-clause-room : goal.put_new-requires-clause-room
put_new-requires-clause-room g c =
    let same = c.own_dir_along.ensures.room in let enough = c.requires.room in omega (arith, same, enough)

pub returns-in-Err-clause-left : goal.returns-in-Err-clause-left
returns-in-Err-clause-left g c = inl c.in-Err.ensures.nothing

pub returns-in-Err-clause-numbers : goal.returns-in-Err-clause-numbers
returns-in-Err-clause-numbers g c = c.in-Err.ensures.nothing.numbers.next

pub returns-in-Err-clause-taken : goal.returns-in-Err-clause-taken
returns-in-Err-clause-taken g c =
    let same = c.in-Err.ensures.nothing.usable.0 in omega (arith, same)

pub returns-in-Ok-put_new-clause-makes : goal.returns-in-Ok-put_new-clause-makes
returns-in-Ok-put_new-clause-makes g c =
    let w = c.in-Ok.ensures.owned in
    let o = w.1 c.args.root c.args.trail.now c.requires.way in
    let at = c.in-Ok.stand in
    record {
      looked = w.0;
      looks = o.0;
      owned = c.own_dir_along.new.on;
      dir = at.dir;
      above = at.above;
      along = o.1;
      spare = c.args.spare;
      makes = subst (λ x. MakesNew _ g.B.Blocks.state c.own_dir_along.new.on c.put_new.new.on at.dir x c.args.way.now.file.named c.args.spot c.args.named c.in-Ok-put_new.made) (own_with c.own_at-own.result c.in-Ok.stand.dir c.in-Ok.stand.above c.own_leaf.result (last_leaf c.args.way.now.steps.items) c.args.spare c.own_at-own.ensures c.own_leaf.ensures) c.in-Ok-put_new.ensures.makes;
    }

pub returns-in-Ok-put_new-clause-next : goal.returns-in-Ok-put_new-clause-next
returns-in-Ok-put_new-clause-next g c =
    let o = c.in-Ok.ensures.owned.1 c.args.root c.args.trail.now c.requires.way in
    c.in-Ok-put_new.ensures.next ∙ ap (λ n. n + 1) (o.1.owns.owned.numbers.next ∙ o.0.numbers.next)

pub returns-in-Err-put_new-clause-left : goal.returns-in-Err-put_new-clause-left
returns-in-Err-put_new-clause-left g c =
    let w = c.in-Ok.ensures.owned in
    let o = w.1 c.args.root c.args.trail.now c.requires.way in
    let at = c.in-Ok.stand in
    inr (record {
      looked = w.0;
      looks = o.0;
      owned = c.own_dir_along.new.on;
      way = c.args.way.now;
      dir = at.dir;
      above = at.above;
      along = o.1;
      spare = c.args.spare;
      left = subst (λ x. LeavesNew _ g.B.Blocks.state c.own_dir_along.new.on c.put_new.new.on at.dir x c.args.way.now.file.named.name) (own_with c.own_at-own.result c.in-Ok.stand.dir c.in-Ok.stand.above c.own_leaf.result (last_leaf c.args.way.now.steps.items) c.args.spare c.own_at-own.ensures c.own_leaf.ensures) c.in-Err-put_new.ensures.left;
    })

pub returns-in-Err-put_new-clause-numbers : goal.returns-in-Err-put_new-clause-numbers
returns-in-Err-put_new-clause-numbers g c =
    let o = c.in-Ok.ensures.owned.1 c.args.root c.args.trail.now c.requires.way in
    c.in-Err-put_new.ensures.numbers ∙ (o.1.owns.owned.numbers.next ∙ o.0.numbers.next)

pub returns-in-Ok-put_new-clause-taken : goal.returns-in-Ok-put_new-clause-taken
returns-in-Ok-put_new-clause-taken g c =
    let long = steps_long (g.B.Blocks.state c.args.on.now) c.args.root c.args.trail.now c.args.way.now c.requires.way in
    let a = c.own_dir_along.ensures.usable in let b = c.own_dir_along.ensures.spare in let d = c.put_new.ensures.taken in omega (arith, long, a, b, d)

pub returns-in-Err-put_new-clause-taken : goal.returns-in-Err-put_new-clause-taken
returns-in-Err-put_new-clause-taken g c =
    let long = steps_long (g.B.Blocks.state c.args.on.now) c.args.root c.args.trail.now c.args.way.now c.requires.way in
    let a = c.own_dir_along.ensures.usable in let b = c.own_dir_along.ensures.spare in let d = c.put_new.ensures.taken in omega (arith, long, a, b, d)

pub returns-in-Err-put_new-clause-cause : goal.returns-in-Err-put_new-clause-cause
returns-in-Err-put_new-clause-cause g c =
    failed_since (g.B.Blocks.state c.args.on.now) (g.B.Blocks.state c.own_dir_along.new.on) (g.B.Blocks.state c.put_new.new.on) (g.met.B.Blocks.keeps_all c.args.on.now c.own_dir_along.new.on c.own_dir_along.ensures.keeps) (g.met.B.Blocks.keeps_all c.own_dir_along.new.on c.put_new.new.on c.put_new.ensures.keeps) c.in-Err-put_new.why c.in-Err-put_new.ensures.cause

pub returns-in-Ok-put_new-clause-keeps : goal.returns-in-Ok-put_new-clause-keeps
returns-in-Ok-put_new-clause-keeps g c = g.met.B.Blocks.keeps_joins c.args.on.now c.own_dir_along.new.on c.put_new.new.on c.own_dir_along.ensures.keeps c.put_new.ensures.keeps

pub returns-in-Err-put_new-clause-keeps : goal.returns-in-Err-put_new-clause-keeps
returns-in-Err-put_new-clause-keeps g c = g.met.B.Blocks.keeps_joins c.args.on.now c.own_dir_along.new.on c.put_new.new.on c.own_dir_along.ensures.keeps c.put_new.ensures.keeps

pub returns-in-Err-clause-dirties : goal.returns-in-Err-clause-dirties
returns-in-Err-clause-dirties g c = dirties_none _ (dirties_looks (g.met.B.Blocks.keeps_all c.args.on.now c.own_dir_along.new.on c.own_dir_along.ensures.keeps) c.in-Err.ensures.nothing)

pub returns-in-Ok-put_new-clause-dirties : goal.returns-in-Ok-put_new-clause-dirties
returns-in-Ok-put_new-clause-dirties g c =
    let long = steps_long (g.B.Blocks.state c.args.on.now) c.args.root c.args.trail.now c.args.way.now c.requires.way in
    let stand = c.in-Ok.stand in
    let few = few_blocks c.own_at-own.result in
    let own = subst (λ (o : OwnAt). HasPairIn stand.dir stand.above (block_of o)) (sym c.own_at-own.ensures) (own_in stand.dir stand.above c.own_leaf.result c.args.spare) in
    dirties_fewer (omega (arith, long, few)) (λ b h. absurd h) (dirties_adds c.in-Ok.ensures.dirties c.put_new.ensures.dirties (cons_counted (inl refl) (cons_counted own none_counted)))

pub returns-in-Err-put_new-clause-dirties : goal.returns-in-Err-put_new-clause-dirties
returns-in-Err-put_new-clause-dirties g c =
    let long = steps_long (g.B.Blocks.state c.args.on.now) c.args.root c.args.trail.now c.args.way.now c.requires.way in
    let stand = c.in-Ok.stand in
    let few = few_blocks c.own_at-own.result in
    let own = subst (λ (o : OwnAt). HasPairIn stand.dir stand.above (block_of o)) (sym c.own_at-own.ensures) (own_in stand.dir stand.above c.own_leaf.result c.args.spare) in
    dirties_fewer (omega (arith, long, few)) (λ b h. absurd h) (dirties_adds c.in-Ok.ensures.dirties c.put_new.ensures.dirties (cons_counted (inl refl) (cons_counted own none_counted)))
