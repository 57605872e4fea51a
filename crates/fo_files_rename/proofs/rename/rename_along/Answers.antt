use Rattle.std.proofs.Common.{length, inl, inr, sym, subst, arith, refl, ◌≤◌, ◌*◌, ◌+◌, ◌-◌}
use Rattle.fo_tree_read.proofs.Exits.{looks_none}
use Rattle.fo_files_own.proofs.of_files_ready.Steps.{failed_since}
use Rattle.fo_files_own.specs.Own.{IsApartFrom, IsOwnAt, MayOwn, block_of, blocks_for}
use Rattle.fo_files_own.proofs.Standing.{own_in, own_stands}
use Rattle.fo_files_edit.proofs.of_files_along.Ways.{file_holds, steps_long}
use Rattle.fo_files_edit.proofs.of_files_into.Steps.{last_step}
use Rattle.fo_files_rename.specs.Rename.{LeavesFile, RenamesFile}
use Rattle.fo_files_rename.proofs.Owning.{may_own}
use Rattle.fo_files_rename.proofs.Causes.{failed_here}
use Rattle.fo_files_rename.proofs.rename.rename_along.Goals as goal
use Rattle.fo_dirties.proofs.Adding.{dirties_none, dirties_fewer, dirties_adds, cons_counted, none_counted}
use Rattle.fo_dirties.proofs.Putting.{dirties_looks}
use Rattle.fo_files_rename.proofs.Counting.{own_few}
use Rattle.fo_files_own.specs.declared.at.OwnAt.{OwnAt}
use Rattle.fo_files_edit.specs.of_files_along.Along.{HasPairIn}
use Rattle.fo_world.specs.Step.{need}

pub own_along-requires-clause-way : goal.own_along-requires-clause-way
own_along-requires-clause-way g c = (c.args.root, (c.args.trail.now, c.requires.way))

pub own_along-requires-clause-some : goal.own_along-requires-clause-some
own_along-requires-clause-some g c =
    let long = steps_long (g.B.Blocks.state c.args.on.now) c.args.root c.args.trail.now c.args.found.now.way c.requires.way in
    let some = c.requires.some in omega (arith, long, some)

pub own_along-requires-clause-pins : goal.own_along-requires-clause-pins
own_along-requires-clause-pins g c =
    let long = steps_long (g.B.Blocks.state c.args.on.now) c.args.root c.args.trail.now c.args.found.now.way c.requires.way in
    let enough = c.requires.pins in omega (arith, long, enough)

pub own_along-requires-clause-spare : goal.own_along-requires-clause-spare
own_along-requires-clause-spare g c =
    let long = steps_long (g.B.Blocks.state c.args.on.now) c.args.root c.args.trail.now c.args.found.now.way c.requires.way in
    let enough = c.requires.blocks in omega (arith, long, enough)

pub beside_data-requires : goal.beside_data-requires
beside_data-requires g c =
    let u = g.B.Blocks.state c.own_along.new.on in
    let at = c.in-Ok.stand in
    record { own = subst (λ o. IsOwnAt u o) (sym c.own_at-place.ensures) (own_stands u at.dir at.above c.own_leaf.result c.args.own.now.spare c.in-Ok.ensures.dir c.in-Ok.ensures.above).0 }

pub rename_file-requires-clause-silent : goal.rename_file-requires-clause-silent
rename_file-requires-clause-silent g c = λ h. c.requires.silent ((g.met.B.Blocks.keeps_all c.args.on.now c.own_along.new.on c.own_along.ensures.keeps).still_tells.0 h)

pub rename_file-requires-clause-own : goal.rename_file-requires-clause-own
rename_file-requires-clause-own g c =
    let u = g.B.Blocks.state c.own_along.new.on in
    let at = c.in-Ok.stand in
    subst (λ o. IsOwnAt u o × IsApartFrom at.dir o) (sym c.own_at-place.ensures) (own_stands u at.dir at.above c.own_leaf.result c.args.own.now.spare c.in-Ok.ensures.dir c.in-Ok.ensures.above)

pub rename_file-requires-clause-touched : goal.rename_file-requires-clause-touched
rename_file-requires-clause-touched g c =
    let at = c.in-Ok.stand in
    let goes = (c.in-Ok.ensures.owned.1 c.args.root c.args.trail.now c.requires.way).1 in
    subst (λ o. MayOwn o c.args.own.now.named) (sym c.own_at-place.ensures) (may_own goes.at c.args.found.now.way.steps.items (length c.args.trail.now) at.dir at.above c.own_leaf.result c.args.own.now.spare c.args.own.now.named c.requires.some goes.above_is c.requires.own)

pub rename_file-requires-clause-spelled : goal.rename_file-requires-clause-spelled
rename_file-requires-clause-spelled g c =
    (file_holds (g.B.Blocks.state c.args.on.now) c.args.root c.args.trail.now c.args.found.now.way c.requires.way).named

pub rename_file-requires-clause-pins : goal.rename_file-requires-clause-pins
rename_file-requires-clause-pins g c =
    let long = steps_long (g.B.Blocks.state c.args.on.now) c.args.root c.args.trail.now c.args.found.now.way c.requires.way in
    let took = c.own_along.ensures.pins in let enough = c.requires.pins in omega (arith, long, took, enough)

pub rename_file-requires-clause-spare : goal.rename_file-requires-clause-spare
rename_file-requires-clause-spare g c =
    let long = steps_long (g.B.Blocks.state c.args.on.now) c.args.root c.args.trail.now c.args.found.now.way c.requires.way in
    let took = c.own_along.ensures.spare in let enough = c.requires.blocks in omega (arith, long, took, enough)

pub rename_file-requires-clause-room : goal.rename_file-requires-clause-room
rename_file-requires-clause-room g c = let same = c.own_along.ensures.room in let enough = c.requires.room in omega (arith, same, enough)

pub returns-in-Err-clause-left : goal.returns-in-Err-clause-left
returns-in-Err-clause-left g c = inl c.in-Err.ensures.nothing

pub returns-in-Err-clause-taken : goal.returns-in-Err-clause-taken
returns-in-Err-clause-taken g c = c.own_along.ensures.usable

pub returns-in-Err-clause-spare : goal.returns-in-Err-clause-spare
returns-in-Err-clause-spare g c =
    let long = steps_long (g.B.Blocks.state c.args.on.now) c.args.root c.args.trail.now c.args.found.now.way c.requires.way in
    let a = c.own_along.ensures.spare in omega (arith, long, a)

pub returns-in-Err-beside_data-clause-left : goal.returns-in-Err-beside_data-clause-left
returns-in-Err-beside_data-clause-left g c =
    let w = c.in-Ok.ensures.owned in
    let o = w.1 c.args.root c.args.trail.now c.requires.way in
    let u = g.B.Blocks.state c.own_along.new.on in
    inr (record {
      looked = w.0;
      looks = o.0;
      owned = c.own_along.new.on;
      owns = record { dir = c.in-Ok.stand.dir; file = c.in-Ok.stand.file; above = c.in-Ok.stand.above; along = o.1; last = o.1.dir_is.step; last_is = o.1.dir_is.step_is };
      leaf = c.own_leaf.result;
      over = c.own_leaf.ensures;
      own_spare = c.args.own.now.spare;
      spare = c.args.found.now.spare;
      left = inl (looks_none u);
    })

pub returns-in-Err-beside_data-clause-spare : goal.returns-in-Err-beside_data-clause-spare
returns-in-Err-beside_data-clause-spare g c =
    let long = steps_long (g.B.Blocks.state c.args.on.now) c.args.root c.args.trail.now c.args.found.now.way c.requires.way in
    let a = c.own_along.ensures.spare in omega (arith, long, a)

pub returns-in-Err-beside_data-clause-taken : goal.returns-in-Err-beside_data-clause-taken
returns-in-Err-beside_data-clause-taken g c = c.own_along.ensures.usable

pub returns-in-Err-beside_data-clause-cause : goal.returns-in-Err-beside_data-clause-cause
returns-in-Err-beside_data-clause-cause g c =
    failed_here (g.B.Blocks.state c.args.on.now) (g.B.Blocks.state c.own_along.new.on) (g.met.B.Blocks.keeps_all c.args.on.now c.own_along.new.on c.own_along.ensures.keeps) c.in-Err-beside_data.why c.in-Err-beside_data.ensures.cause

pub returns-in-Ok-rename_file-clause-renames : goal.returns-in-Ok-rename_file-clause-renames
returns-in-Ok-rename_file-clause-renames g c =
    let w = c.in-Ok.ensures.owned in
    let o = w.1 c.args.root c.args.trail.now c.requires.way in
    let long = steps_long (g.B.Blocks.state c.args.on.now) c.args.root c.args.trail.now c.args.found.now.way c.requires.way in
    let step = c.index.result.now in
    let at = c.in-Ok.stand in
    record {
      looked = w.0;
      looks = o.0;
      owned = c.own_along.new.on;
      owns = record { dir = at.dir; file = at.file; above = at.above; along = o.1; last = step; last_is = last_step c.args.found.now.way.steps.items step c.len.result (length c.args.trail.now) (let count = c.len.ensures in omega (arith, count)) long c.index.ensures };
      leaf = c.own_leaf.result;
      over = c.own_leaf.ensures;
      own_spare = c.args.own.now.spare;
      spare = c.args.found.now.spare;
      renames = subst (λ p. RenamesFile _ g.B.Blocks.state c.own_along.new.on c.rename_file.new.on at.dir at.file p c.args.own.now.named step.leaf c.args.found.now.spare c.args.found.now.name c.args.found.now.way.file.named c.args.given) c.own_at-place.ensures (subst (λ n. RenamesFile _ g.B.Blocks.state c.own_along.new.on c.rename_file.new.on at.dir at.file c.own_at-place.result c.args.own.now.named step.leaf c.args.found.now.spare n c.args.found.now.way.file.named c.args.given) c.as_slice-name.ensures c.in-Ok-rename_file.ensures.renames);
    }

pub returns-in-Err-rename_file-clause-left : goal.returns-in-Err-rename_file-clause-left
returns-in-Err-rename_file-clause-left g c =
    let w = c.in-Ok.ensures.owned in
    let o = w.1 c.args.root c.args.trail.now c.requires.way in
    let long = steps_long (g.B.Blocks.state c.args.on.now) c.args.root c.args.trail.now c.args.found.now.way c.requires.way in
    let step = c.index.result.now in
    let at = c.in-Ok.stand in
    inr (record {
      looked = w.0;
      looks = o.0;
      owned = c.own_along.new.on;
      owns = record { dir = at.dir; file = at.file; above = at.above; along = o.1; last = step; last_is = last_step c.args.found.now.way.steps.items step c.len.result (length c.args.trail.now) (let count = c.len.ensures in omega (arith, count)) long c.index.ensures };
      leaf = c.own_leaf.result;
      over = c.own_leaf.ensures;
      own_spare = c.args.own.now.spare;
      spare = c.args.found.now.spare;
      left = subst (λ p. LeavesFile _ g.B.Blocks.state c.own_along.new.on c.rename_file.new.on at.dir at.file p c.args.own.now.named.name step.leaf c.args.found.now.spare c.args.found.now.name c.args.given) c.own_at-place.ensures (subst (λ n. LeavesFile _ g.B.Blocks.state c.own_along.new.on c.rename_file.new.on at.dir at.file c.own_at-place.result c.args.own.now.named.name step.leaf c.args.found.now.spare n c.args.given) c.as_slice-name.ensures c.in-Err-rename_file.ensures.left);
    })

pub returns-in-Ok-rename_file-clause-taken : goal.returns-in-Ok-rename_file-clause-taken
returns-in-Ok-rename_file-clause-taken g c =
    let a = c.own_along.ensures.usable in let b = c.rename_file.ensures.usable in omega (arith, a, b)

pub returns-in-Err-rename_file-clause-taken : goal.returns-in-Err-rename_file-clause-taken
returns-in-Err-rename_file-clause-taken g c =
    let a = c.own_along.ensures.usable in let b = c.rename_file.ensures.usable in omega (arith, a, b)

pub returns-in-Ok-rename_file-clause-spare : goal.returns-in-Ok-rename_file-clause-spare
returns-in-Ok-rename_file-clause-spare g c =
    let long = steps_long (g.B.Blocks.state c.args.on.now) c.args.root c.args.trail.now c.args.found.now.way c.requires.way in
    let a = c.own_along.ensures.spare in let b = c.rename_file.ensures.spare in omega (arith, long, a, b)

pub returns-in-Err-rename_file-clause-spare : goal.returns-in-Err-rename_file-clause-spare
returns-in-Err-rename_file-clause-spare g c =
    let long = steps_long (g.B.Blocks.state c.args.on.now) c.args.root c.args.trail.now c.args.found.now.way c.requires.way in
    let a = c.own_along.ensures.spare in let b = c.rename_file.ensures.spare in omega (arith, long, a, b)

pub returns-in-Err-rename_file-clause-cause : goal.returns-in-Err-rename_file-clause-cause
returns-in-Err-rename_file-clause-cause g c =
    failed_since (g.B.Blocks.state c.args.on.now) (g.B.Blocks.state c.own_along.new.on) (g.B.Blocks.state c.rename_file.new.on) (g.met.B.Blocks.keeps_all c.args.on.now c.own_along.new.on c.own_along.ensures.keeps) (g.met.B.Blocks.keeps_all c.own_along.new.on c.rename_file.new.on c.rename_file.ensures.keeps) c.in-Err-rename_file.why c.in-Err-rename_file.ensures.cause

pub returns-in-Ok-rename_file-clause-keeps : goal.returns-in-Ok-rename_file-clause-keeps
returns-in-Ok-rename_file-clause-keeps g c =
    g.met.B.Blocks.keeps_joins c.args.on.now c.own_along.new.on c.rename_file.new.on c.own_along.ensures.keeps c.rename_file.ensures.keeps

pub returns-in-Err-rename_file-clause-keeps : goal.returns-in-Err-rename_file-clause-keeps
returns-in-Err-rename_file-clause-keeps g c =
    g.met.B.Blocks.keeps_joins c.args.on.now c.own_along.new.on c.rename_file.new.on c.own_along.ensures.keeps c.rename_file.ensures.keeps

pub returns-in-Err-clause-dirties : goal.returns-in-Err-clause-dirties
returns-in-Err-clause-dirties g c = dirties_none _ (dirties_looks (g.met.B.Blocks.keeps_all c.args.on.now c.own_along.new.on c.own_along.ensures.keeps) c.in-Err.ensures.nothing)

pub returns-in-Err-beside_data-clause-dirties : goal.returns-in-Err-beside_data-clause-dirties
returns-in-Err-beside_data-clause-dirties g c =
    let long = steps_long (g.B.Blocks.state c.args.on.now) c.args.root c.args.trail.now c.args.found.now.way c.requires.way in
    let some = c.requires.some in
    dirties_fewer (omega (arith, long, some)) (λ b h. absurd h) c.in-Ok.ensures.dirties

pub returns-in-Ok-rename_file-clause-dirties : goal.returns-in-Ok-rename_file-clause-dirties
returns-in-Ok-rename_file-clause-dirties g c =
    let long = steps_long (g.B.Blocks.state c.args.on.now) c.args.root c.args.trail.now c.args.found.now.way c.requires.way in
    let stand = c.in-Ok.stand in
    let steps = c.args.found.now.way.steps.items in
    let n = length c.args.trail.now in
    let goes = (c.in-Ok.ensures.owned.1 c.args.root c.args.trail.now c.requires.way).1 in
    let few = own_few goes.at steps (length steps) n stand.dir stand.above c.own_leaf.result c.args.own.now.spare c.requires.some long goes.above_is in
    let own = subst (λ (o : OwnAt). HasPairIn stand.dir stand.above (block_of o)) (sym c.own_at-place.ensures) (own_in stand.dir stand.above c.own_leaf.result c.args.own.now.spare) in
    let most = subst (λ (o : OwnAt). 10 * length steps + 1 + 2 * (20 + blocks_for o) ≤ 2 * need (n - 1) 0) (sym c.own_at-place.ensures) few in
    dirties_fewer most (λ b h. absurd h) (dirties_adds c.in-Ok.ensures.dirties c.rename_file.ensures.dirties (cons_counted (inr (inl refl)) (cons_counted (inl refl) (cons_counted (inr own) none_counted))))

pub returns-in-Err-rename_file-clause-dirties : goal.returns-in-Err-rename_file-clause-dirties
returns-in-Err-rename_file-clause-dirties g c =
    let long = steps_long (g.B.Blocks.state c.args.on.now) c.args.root c.args.trail.now c.args.found.now.way c.requires.way in
    let stand = c.in-Ok.stand in
    let steps = c.args.found.now.way.steps.items in
    let n = length c.args.trail.now in
    let goes = (c.in-Ok.ensures.owned.1 c.args.root c.args.trail.now c.requires.way).1 in
    let few = own_few goes.at steps (length steps) n stand.dir stand.above c.own_leaf.result c.args.own.now.spare c.requires.some long goes.above_is in
    let own = subst (λ (o : OwnAt). HasPairIn stand.dir stand.above (block_of o)) (sym c.own_at-place.ensures) (own_in stand.dir stand.above c.own_leaf.result c.args.own.now.spare) in
    let most = subst (λ (o : OwnAt). 10 * length steps + 1 + 2 * (20 + blocks_for o) ≤ 2 * need (n - 1) 0) (sym c.own_at-place.ensures) few in
    dirties_fewer most (λ b h. absurd h) (dirties_adds c.in-Ok.ensures.dirties c.rename_file.ensures.dirties (cons_counted (inr (inl refl)) (cons_counted (inl refl) (cons_counted (inr own) none_counted))))
