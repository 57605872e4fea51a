use Rattle.std.proofs.Common.{◌+◌, ◌*◌, length, inl, inr, arith}
use Rattle.fo_files_edit.proofs.of_files_at.Ways.{way_stays}
use Rattle.fo_files_edit.proofs.of_files_along.Refusing.{cause_later, look_cause}
use Rattle.fo_files_edit.specs.of_files_along.Along.{HasRoom}
use Rattle.fo_files_rename.proofs.Owning.{own_stands}
use Rattle.fo_files_rename.proofs.Finding.{map_ok, map_err, map_why}
use Rattle.fo_files_rename.proofs.change.rename_found.Goals as goal
use Rattle.fo_dirties.proofs.Adding.{dirties_none, dirties_first}
use Rattle.fo_dirties.proofs.Putting.{dirties_looks}

pub rename_below-requires-clause-silent : goal.rename_below-requires-clause-silent
rename_below-requires-clause-silent g c =
    λ h. c.requires.silent ((g.met.B.Blocks.keeps_all c.args.on.now c.own_for.new.on c.own_for.ensures.looks.1).still_tells.0 h)

pub rename_below-requires-clause-way : goal.rename_below-requires-clause-way
rename_below-requires-clause-way g c =
    way_stays (g.B.Blocks.state c.args.on.now) (g.B.Blocks.state c.own_for.new.on) c.args.root c.args.trail.now c.args.found.now.way (g.met.B.Blocks.keeps_all c.args.on.now c.own_for.new.on c.own_for.ensures.looks.1) c.requires.way

pub rename_below-requires-clause-own : goal.rename_below-requires-clause-own
rename_below-requires-clause-own g c =
    own_stands (g.B.Blocks.state c.args.on.now) c.args.root c.args.trail.now c.args.found.now.way c.args.who.now c.args.now c.in-Ok.own.named c.requires.way c.requires.who c.requires.short.0 c.in-Ok.ensures.is

pub returns-in-Err-clause-left : goal.returns-in-Err-clause-left
returns-in-Err-clause-left g c = inl c.own_for.ensures.looks.0

pub returns-in-Err-clause-taken : goal.returns-in-Err-clause-taken
returns-in-Err-clause-taken g c = let same = c.own_for.ensures.looks.0.usable.0 in omega (arith, same)

pub returns-in-Err-clause-cause : goal.returns-in-Err-clause-cause
returns-in-Err-clause-cause g c = look_cause (g.B.Blocks.state c.args.on.now) (g.B.Blocks.state c.own_for.new.on) (5 * length c.args.trail.now + 31) c.in-Err.why c.in-Err.ensures.cause

pub returns-clause-renames : goal.returns-clause-renames
returns-clause-renames g c =
    map_ok c.rename_below.result _ _ (λ p. record { looked = c.own_for.new.on; looks = c.own_for.ensures.looks.0; own = c.in-Ok.own.named; own_is = c.in-Ok.ensures.is; rested = p.0; rests = p.2; alone = c.in-Ok.own.alone; settled = p.1; settles = p.3; renames = p.4 }) c.rename_below.ensures.renames

pub returns-clause-left : goal.returns-clause-left
returns-clause-left g c =
    map_err c.rename_below.result _ _ (λ p. inr (record { looked = c.own_for.new.on; looks = c.own_for.ensures.looks.0; own_name = c.in-Ok.own.named.name; rested = p.0; rests = p.2; settled = p.1; settles = p.3; left = p.4 })) c.rename_below.ensures.left

pub returns-clause-taken : goal.returns-clause-taken
returns-clause-taken g c = let same = c.own_for.ensures.looks.0.usable.0 in let took = c.rename_below.ensures.taken in omega (arith, same, took)

pub returns-clause-cause : goal.returns-clause-cause
returns-clause-cause g c =
    map_why c.rename_below.result _ _ (λ e h. cause_later (g.B.Blocks.state c.args.on.now) (g.B.Blocks.state c.own_for.new.on) (g.B.Blocks.state c.rename_below.new.on) (HasRoom (g.B.Blocks.state c.rename_below.new.on)) (5 * length c.args.trail.now + 31) (g.met.B.Blocks.keeps_all c.args.on.now c.own_for.new.on c.own_for.ensures.looks.1) e h) c.rename_below.ensures.cause

pub returns-clause-keeps : goal.returns-clause-keeps
returns-clause-keeps g c = g.met.B.Blocks.keeps_joins c.args.on.now c.own_for.new.on c.rename_below.new.on c.own_for.ensures.looks.1 c.rename_below.ensures.keeps

pub returns-in-Err-clause-dirties : goal.returns-in-Err-clause-dirties
returns-in-Err-clause-dirties g c = dirties_none _ (dirties_looks (g.met.B.Blocks.keeps_all c.args.on.now c.own_for.new.on c.own_for.ensures.looks.1) c.own_for.ensures.looks.0)

pub returns-clause-dirties : goal.returns-clause-dirties
returns-clause-dirties g c = dirties_first (dirties_looks (g.met.B.Blocks.keeps_all c.args.on.now c.own_for.new.on c.own_for.ensures.looks.1) c.own_for.ensures.looks.0) c.rename_below.ensures.dirties
