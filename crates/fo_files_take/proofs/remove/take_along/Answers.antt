use Rattle.std.proofs.Common.{◌≡◌, ◌-◌, ◌<◌, ℕ, length, inl, inr, sym, ap, subst, ◌∙◌, arith, refl}
use Rattle.fo_files_own.proofs.Carry.{few_blocks}
use Rattle.fo_files_own.proofs.of_files_ready.Steps.{failed_since}
use Rattle.fo_files_along.specs.Along.{touched, HasPairIn}
use Rattle.fo_files_along.proofs.Ways.{steps_long}
use Rattle.fo_files_own.specs.declared.at.OwnAt.{OwnAt}
use Rattle.fo_files_own.specs.Own.{IsApartFrom, IsOwnAt, MayOwn, block_of, own_of}
use Rattle.fo_files_take.specs.Take.{LeavesFrom, TakesFrom}
use Rattle.fo_files_take.proofs.Taking.{own_may}
use Rattle.fo_files_take.proofs.remove.take_along.Goals as goal
use Rattle.fo_dirties.proofs.Adding.{dirties_none, dirties_fewer, dirties_adds, cons_counted, none_counted}
use Rattle.fo_dirties.proofs.Putting.{dirties_looks}
use Rattle.fo_files_own.proofs.Standing.{own_in, own_stands}

pub own_along-requires-clause-way : goal.own_along-requires-clause-way
own_along-requires-clause-way g c = (c.args.root, (c.args.trail.now, c.requires.found.way))

pub own_along-requires-clause-some : goal.own_along-requires-clause-some
own_along-requires-clause-some g c =
    let long = steps_long (g.B.Blocks.state c.args.on.now) c.args.root c.args.trail.now c.args.found.now.way c.requires.found.way in
    let some = c.requires.short.0 in omega (arith, long, some)

pub own_along-requires-clause-pins : goal.own_along-requires-clause-pins
own_along-requires-clause-pins g c =
    let long = steps_long (g.B.Blocks.state c.args.on.now) c.args.root c.args.trail.now c.args.found.now.way c.requires.found.way in
    let enough = c.requires.pins in omega (arith, long, enough)

pub own_along-requires-clause-spare : goal.own_along-requires-clause-spare
own_along-requires-clause-spare g c =
    let long = steps_long (g.B.Blocks.state c.args.on.now) c.args.root c.args.trail.now c.args.found.now.way c.requires.found.way in
    let some = c.requires.short.0 in let enough = c.requires.spare in omega (arith, long, some, enough)

pub leaf_above-requires : goal.leaf_above-requires
leaf_above-requires g c =
    let long = steps_long (g.B.Blocks.state c.args.on.now) c.args.root c.args.trail.now c.args.found.now.way c.requires.found.way in
    omega (arith, long)

pub leaf_at-requires : goal.leaf_at-requires
leaf_at-requires g c =
    let long = steps_long (g.B.Blocks.state c.args.on.now) c.args.root c.args.trail.now c.args.found.now.way c.requires.found.way in
    let some = c.requires.short.0 in omega (arith, long, some)

pub take_from-requires-clause-silent : goal.take_from-requires-clause-silent
take_from-requires-clause-silent g c = λ h. c.requires.silent ((g.met.B.Blocks.keeps_all c.args.on.now c.own_along.new.on c.own_along.ensures.keeps).still_tells.0 h)

pub take_from-requires-clause-own : goal.take_from-requires-clause-own
take_from-requires-clause-own g c =
    let s = g.B.Blocks.state c.own_along.new.on in
    subst (λ (x : OwnAt). IsOwnAt s x × IsApartFrom c.in-Ok.stand.dir x) (sym c.own_at-own.ensures)
    (own_stands s c.in-Ok.stand.dir c.in-Ok.stand.above c.leaf_above.result c.args.found.now.spare c.in-Ok.ensures.dir c.in-Ok.ensures.above)

pub take_from-requires-clause-changed : goal.take_from-requires-clause-changed
take_from-requires-clause-changed g c =
    let w = c.in-Ok.ensures.owned in
    let o = w.1 c.args.root c.args.trail.now c.requires.found.way in
    subst (λ (x : OwnAt). MayOwn x c.args.found.now.own) (sym c.own_at-own.ensures)
    (own_may c.in-Ok.stand.dir c.in-Ok.stand.above (length c.args.trail.now - 1) c.leaf_above.result c.args.found.now.spare _ c.args.found.now.own c.requires.found.holds (λ none. c.requires.found.of_root (one (length c.args.trail.now) c.requires.short.0 none)) o.1.above_is)
  where
    one : (n : ℕ) → 0 < n → n - 1 ≡ 0 → n ≡ 1
    one n some none = omega (arith, some, none)

pub take_from-requires-clause-pins : goal.take_from-requires-clause-pins
take_from-requires-clause-pins g c =
    let long = steps_long (g.B.Blocks.state c.args.on.now) c.args.root c.args.trail.now c.args.found.now.way c.requires.found.way in
    let took = c.own_along.ensures.pins in let enough = c.requires.pins in omega (arith, long, took, enough)

pub take_from-requires-clause-spare : goal.take_from-requires-clause-spare
take_from-requires-clause-spare g c =
    let long = steps_long (g.B.Blocks.state c.args.on.now) c.args.root c.args.trail.now c.args.found.now.way c.requires.found.way in
    let some = c.requires.short.0 in let took = c.own_along.ensures.spare in let enough = c.requires.spare in omega (arith, long, some, took, enough)

pub take_from-requires-clause-room : goal.take_from-requires-clause-room
take_from-requires-clause-room g c = let same = c.own_along.ensures.room in let enough = c.requires.room in omega (arith, same, enough)

pub returns-in-Err-clause-left : goal.returns-in-Err-clause-left
returns-in-Err-clause-left g c = inl c.in-Err.ensures.nothing

pub returns-in-Ok-take_from-clause-takes : goal.returns-in-Ok-take_from-clause-takes
returns-in-Ok-take_from-clause-takes g c =
    let f = c.requires.found in
    let w = c.in-Ok.ensures.owned in
    let o = w.1 c.args.root c.args.trail.now f.way in
    let dir = c.in-Ok.stand.dir in
    let leaf : c.leaf_at.result ≡ f.last.leaf = c.leaf_at.ensures.is f.last ∙ ap (λ x. x.leaf) (sym f.last_is) in
    record {
      looked = w.0;
      looks = o.0;
      owned = c.own_along.new.on;
      owns = record { dir = dir; file = c.in-Ok.stand.file; above = c.in-Ok.stand.above; along = o.1; last = f.last; last_is = f.last_is; leaf = c.leaf_above.result; spare = c.args.found.now.spare };
      takes = subst (λ (x : OwnAt). TakesFrom _ g.B.Blocks.state c.own_along.new.on c.take_from.new.on dir x (touched c.args.who.now c.args.now f.last.dir.named) c.in-Ok.stand.file.at f.last.leaf c.args.found.now.way.file.named.slot c.args.found.now.way.file.named.name c.args.found.now.way.file.dir) c.own_at-own.ensures
          (subst (λ r. TakesFrom _ g.B.Blocks.state c.own_along.new.on c.take_from.new.on dir c.own_at-own.result r c.in-Ok.stand.file.at f.last.leaf c.args.found.now.way.file.named.slot c.args.found.now.way.file.named.name c.args.found.now.way.file.dir) f.own_is
          (subst (λ i. TakesFrom _ g.B.Blocks.state c.own_along.new.on c.take_from.new.on dir c.own_at-own.result c.args.found.now.own c.in-Ok.stand.file.at i c.args.found.now.way.file.named.slot c.args.found.now.way.file.named.name c.args.found.now.way.file.dir) leaf (subst (λ n. TakesFrom _ g.B.Blocks.state c.own_along.new.on c.take_from.new.on dir c.own_at-own.result c.args.found.now.own c.in-Ok.stand.file.at c.leaf_at.result c.args.found.now.way.file.named.slot n c.args.found.now.way.file.dir) c.as_slice-name.ensures c.in-Ok-take_from.ensures.takes)));
    }

pub returns-in-Err-take_from-clause-left : goal.returns-in-Err-take_from-clause-left
returns-in-Err-take_from-clause-left g c =
    let f = c.requires.found in
    let w = c.in-Ok.ensures.owned in
    let o = w.1 c.args.root c.args.trail.now f.way in
    let dir = c.in-Ok.stand.dir in
    inr (record {
      looked = w.0;
      looks = o.0;
      way = c.args.found.now.way;
      owned = c.own_along.new.on;
      owns = record { dir = dir; file = c.in-Ok.stand.file; above = c.in-Ok.stand.above; along = o.1; last = f.last; last_is = f.last_is; leaf = c.leaf_above.result; spare = c.args.found.now.spare };
      left = subst (λ n. LeavesFrom _ g.B.Blocks.state c.own_along.new.on c.take_from.new.on dir (own_of dir c.in-Ok.stand.above c.leaf_above.result c.args.found.now.spare) n) (ap (λ r. r.name) f.own_is)
          (subst (λ (x : OwnAt). LeavesFrom _ g.B.Blocks.state c.own_along.new.on c.take_from.new.on dir x c.args.found.now.own.name) c.own_at-own.ensures c.in-Err-take_from.ensures.left);
    })

pub returns-in-Err-clause-taken : goal.returns-in-Err-clause-taken
returns-in-Err-clause-taken g c =
    let long = steps_long (g.B.Blocks.state c.args.on.now) c.args.root c.args.trail.now c.args.found.now.way c.requires.found.way in
    let some = c.requires.short.0 in let a = c.own_along.ensures.usable in let b = c.own_along.ensures.spare in omega (arith, long, some, a, b)

pub returns-in-Ok-take_from-clause-taken : goal.returns-in-Ok-take_from-clause-taken
returns-in-Ok-take_from-clause-taken g c =
    let long = steps_long (g.B.Blocks.state c.args.on.now) c.args.root c.args.trail.now c.args.found.now.way c.requires.found.way in
    let some = c.requires.short.0 in let a = c.own_along.ensures.usable in let b = c.own_along.ensures.spare in let d = c.take_from.ensures.taken in omega (arith, long, some, a, b, d)

pub returns-in-Err-take_from-clause-taken : goal.returns-in-Err-take_from-clause-taken
returns-in-Err-take_from-clause-taken g c =
    let long = steps_long (g.B.Blocks.state c.args.on.now) c.args.root c.args.trail.now c.args.found.now.way c.requires.found.way in
    let some = c.requires.short.0 in let a = c.own_along.ensures.usable in let b = c.own_along.ensures.spare in let d = c.take_from.ensures.taken in omega (arith, long, some, a, b, d)

pub returns-in-Err-take_from-clause-cause : goal.returns-in-Err-take_from-clause-cause
returns-in-Err-take_from-clause-cause g c =
    failed_since (g.B.Blocks.state c.args.on.now) (g.B.Blocks.state c.own_along.new.on) (g.B.Blocks.state c.take_from.new.on) (g.met.B.Blocks.keeps_all c.args.on.now c.own_along.new.on c.own_along.ensures.keeps) (g.met.B.Blocks.keeps_all c.own_along.new.on c.take_from.new.on c.take_from.ensures.keeps) c.in-Err-take_from.why c.in-Err-take_from.ensures.cause

pub returns-in-Ok-take_from-clause-keeps : goal.returns-in-Ok-take_from-clause-keeps
returns-in-Ok-take_from-clause-keeps g c = g.met.B.Blocks.keeps_joins c.args.on.now c.own_along.new.on c.take_from.new.on c.own_along.ensures.keeps c.take_from.ensures.keeps

pub returns-in-Err-take_from-clause-keeps : goal.returns-in-Err-take_from-clause-keeps
returns-in-Err-take_from-clause-keeps g c = g.met.B.Blocks.keeps_joins c.args.on.now c.own_along.new.on c.take_from.new.on c.own_along.ensures.keeps c.take_from.ensures.keeps

pub returns-in-Err-clause-dirties : goal.returns-in-Err-clause-dirties
returns-in-Err-clause-dirties g c = dirties_none _ (dirties_looks (g.met.B.Blocks.keeps_all c.args.on.now c.own_along.new.on c.own_along.ensures.keeps) c.in-Err.ensures.nothing)

pub returns-in-Ok-take_from-clause-dirties : goal.returns-in-Ok-take_from-clause-dirties
returns-in-Ok-take_from-clause-dirties g c =
    let long = steps_long (g.B.Blocks.state c.args.on.now) c.args.root c.args.trail.now c.args.found.now.way c.requires.found.way in
    let some = c.requires.short.0 in
    let few = few_blocks c.own_at-own.result in
    let stand = c.in-Ok.stand in
    let own = subst (λ (o : OwnAt). HasPairIn stand.dir stand.above (block_of o)) (sym c.own_at-own.ensures) (own_in stand.dir stand.above c.leaf_above.result c.args.found.now.spare) in
    dirties_fewer (omega (arith, long, some, few)) (λ b h. absurd h) (dirties_adds c.in-Ok.ensures.dirties c.take_from.ensures.dirties (cons_counted (inr (inl refl)) (cons_counted (inl refl) (cons_counted (inr own) none_counted))))

pub returns-in-Err-take_from-clause-dirties : goal.returns-in-Err-take_from-clause-dirties
returns-in-Err-take_from-clause-dirties g c =
    let long = steps_long (g.B.Blocks.state c.args.on.now) c.args.root c.args.trail.now c.args.found.now.way c.requires.found.way in
    let some = c.requires.short.0 in
    let few = few_blocks c.own_at-own.result in
    let stand = c.in-Ok.stand in
    let own = subst (λ (o : OwnAt). HasPairIn stand.dir stand.above (block_of o)) (sym c.own_at-own.ensures) (own_in stand.dir stand.above c.leaf_above.result c.args.found.now.spare) in
    dirties_fewer (omega (arith, long, some, few)) (λ b h. absurd h) (dirties_adds c.in-Ok.ensures.dirties c.take_from.ensures.dirties (cons_counted (inr (inl refl)) (cons_counted (inl refl) (cons_counted (inr own) none_counted))))
