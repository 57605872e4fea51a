use Rattle.std.proofs.Common.{◌+◌, ◌*◌, ◌≤◌, length, inl, inr, refl, sym, subst, arith}
use Rattle.fo_world.specs.Step.{depth_of, give, most_need}
use Rattle.fo_files_edit.specs.of_files_at.Way.{IsWay}
use Rattle.fo_files_edit.specs.of_files_along.Along.{HasRoom}
use Rattle.fo_files_rename.specs.Change.{ChangesFound, LeavesFound}
use Rattle.fo_files_edit.proofs.of_files_along.Refusing.{cause_more, full_below}
use Rattle.fo_files_rename.proofs.Finding.{give_of, most_of, no_trail, some_give, some_need}
use Rattle.fo_files_rename.proofs.change.change_here.Goals as goal
use Rattle.fo_dirties.proofs.Adding.{dirties_fewer}
use Rattle.fo_files_rename.proofs.Counting.{root_few, below_few}

pub change_root-requires-clause-way : goal.change_root-requires-clause-way
change_root-requires-clause-way g c =
    subst (λ t. IsWay (g.B.Blocks.state c.args.on.now) c.args.root t c.args.found.now.way) (no_trail c.as_slice-trail.result.now c.args.at.now.trail (length c.as_slice-trail.result.now) c.as_slice-trail.ensures refl c.if-depth-eq0.true) c.requires.way

pub change_file_below-requires-clause-way : goal.change_file_below-requires-clause-way
change_file_below-requires-clause-way g c = subst (λ t. IsWay (g.B.Blocks.state c.args.on.now) c.args.root t c.args.found.now.way) (sym c.as_slice-trail.ensures) c.requires.way

pub change_file_below-requires-clause-short : goal.change_file_below-requires-clause-short
change_file_below-requires-clause-short g c =
    (let some = c.if-depth-eq0.false in omega (arith, some), subst (λ t. length t ≤ 65) (sym c.as_slice-trail.ensures) c.requires.short)

pub returns-in-Ok-clause-changes : goal.returns-in-Ok-clause-changes
returns-in-Ok-clause-changes g c =
    let p = c.in-Ok.ensures.edits in
    inl (record { none = no_trail c.as_slice-trail.result.now c.args.at.now.trail (length c.as_slice-trail.result.now) c.as_slice-trail.ensures refl c.if-depth-eq0.true; rested = p.0; rests = p.1; edits = p.2 })

pub returns-in-Err-clause-left : goal.returns-in-Err-clause-left
returns-in-Err-clause-left g c =
    let p = c.in-Err.ensures.left in inr (inl (record { rested = p.0; rests = p.1; left = p.2 }))

pub returns-in-Ok-clause-taken : goal.returns-in-Ok-clause-taken
returns-in-Ok-clause-taken g c = let took = c.change_root.ensures.taken in omega (arith, took)

pub returns-in-Err-clause-taken : goal.returns-in-Err-clause-taken
returns-in-Err-clause-taken g c = let took = c.change_root.ensures.taken in omega (arith, took)

pub returns-in-Err-clause-cause : goal.returns-in-Err-clause-cause
returns-in-Err-clause-cause g c =
    cause_more (g.B.Blocks.state c.args.on.now) (g.B.Blocks.state c.change_root.new.on) _ 0 (most_need c.args.at.now) (some_need c.args.at.now) c.in-Err.why c.in-Err.ensures.cause

pub returns-in-Ok-change_file_below-clause-changes : goal.returns-in-Ok-change_file_below-clause-changes
returns-in-Ok-change_file_below-clause-changes g c =
    subst (λ t. ChangesFound _ g.B.Blocks.state c.args.on.now c.change_file_below.new.on c.args.root t c.args.found.now.way c.args.found.now.name c.args.what.now c.args.who.now c.args.now) c.as_slice-trail.ensures c.in-Ok-change_file_below.ensures.changes

pub returns-in-Err-change_file_below-clause-left : goal.returns-in-Err-change_file_below-clause-left
returns-in-Err-change_file_below-clause-left g c =
    subst (λ t. LeavesFound _ g.B.Blocks.state c.args.on.now c.change_file_below.new.on c.args.root t c.args.found.now.way c.args.found.now.name c.args.what.now) c.as_slice-trail.ensures c.in-Err-change_file_below.ensures.left

pub returns-in-Ok-change_file_below-clause-taken : goal.returns-in-Ok-change_file_below-clause-taken
returns-in-Ok-change_file_below-clause-taken g c =
    let most = most_of c.as_slice-trail.result.now c.args.at.now c.as_slice-trail.ensures in let took = c.change_file_below.ensures.taken in omega (arith, most, took)

pub returns-in-Err-change_file_below-clause-taken : goal.returns-in-Err-change_file_below-clause-taken
returns-in-Err-change_file_below-clause-taken g c =
    let most = most_of c.as_slice-trail.result.now c.args.at.now c.as_slice-trail.ensures in let took = c.change_file_below.ensures.taken in omega (arith, most, took)

pub returns-in-Err-change_file_below-clause-cause : goal.returns-in-Err-change_file_below-clause-cause
returns-in-Err-change_file_below-clause-cause g c =
    cause_more (g.B.Blocks.state c.args.on.now) (g.B.Blocks.state c.change_file_below.new.on) _ (5 * length c.as_slice-trail.result.now + 31) (most_need c.args.at.now) (most_of c.as_slice-trail.result.now c.args.at.now c.as_slice-trail.ensures) c.in-Err-change_file_below.why c.in-Err-change_file_below.ensures.cause

pub returns-in-Ok-clause-dirties : goal.returns-in-Ok-clause-dirties
returns-in-Ok-clause-dirties g c = dirties_fewer (root_few c.args.at.now) (λ b h. h) c.change_root.ensures.dirties

pub returns-in-Err-clause-dirties : goal.returns-in-Err-clause-dirties
returns-in-Err-clause-dirties g c = dirties_fewer (root_few c.args.at.now) (λ b h. h) c.change_root.ensures.dirties

pub returns-in-Ok-change_file_below-clause-dirties : goal.returns-in-Ok-change_file_below-clause-dirties
returns-in-Ok-change_file_below-clause-dirties g c = dirties_fewer (below_few c.as_slice-trail.result.now c.args.at.now c.as_slice-trail.ensures) (λ b h. h) c.change_file_below.ensures.dirties

pub returns-in-Err-change_file_below-clause-dirties : goal.returns-in-Err-change_file_below-clause-dirties
returns-in-Err-change_file_below-clause-dirties g c = dirties_fewer (below_few c.as_slice-trail.result.now c.args.at.now c.as_slice-trail.ensures) (λ b h. h) c.change_file_below.ensures.dirties

pub returns-in-Ok-clause-fewer : goal.returns-in-Ok-clause-fewer
returns-in-Ok-clause-fewer g c = let took = c.change_root.ensures.taken in omega (arith, took)

pub returns-in-Err-clause-fewer : goal.returns-in-Err-clause-fewer
returns-in-Err-clause-fewer g c = let took = c.change_root.ensures.taken in omega (arith, took)

pub returns-in-Err-clause-full : goal.returns-in-Err-clause-full
returns-in-Err-clause-full g c =
    full_below (g.B.Blocks.state c.args.on.now) (g.B.Blocks.state c.change_root.new.on) (HasRoom (g.B.Blocks.state c.change_root.new.on)) 0 (give (depth_of c.args.at.now)) (some_give c.args.at.now) c.in-Err.why c.in-Err.ensures.cause

pub returns-in-Ok-change_file_below-clause-fewer : goal.returns-in-Ok-change_file_below-clause-fewer
returns-in-Ok-change_file_below-clause-fewer g c =
    let most = give_of c.as_slice-trail.result.now c.args.at.now c.as_slice-trail.ensures in let took = c.change_file_below.ensures.taken in omega (arith, most, took)

pub returns-in-Err-change_file_below-clause-fewer : goal.returns-in-Err-change_file_below-clause-fewer
returns-in-Err-change_file_below-clause-fewer g c =
    let most = give_of c.as_slice-trail.result.now c.args.at.now c.as_slice-trail.ensures in let took = c.change_file_below.ensures.taken in omega (arith, most, took)

pub returns-in-Err-change_file_below-clause-full : goal.returns-in-Err-change_file_below-clause-full
returns-in-Err-change_file_below-clause-full g c =
    full_below (g.B.Blocks.state c.args.on.now) (g.B.Blocks.state c.change_file_below.new.on) (HasRoom (g.B.Blocks.state c.change_file_below.new.on)) (5 * length c.as_slice-trail.result.now + 31) (give (depth_of c.args.at.now)) (give_of c.as_slice-trail.result.now c.args.at.now c.as_slice-trail.ensures) c.in-Err-change_file_below.why c.in-Err-change_file_below.ensures.cause
