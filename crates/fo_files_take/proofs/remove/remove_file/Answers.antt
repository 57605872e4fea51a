use Rattle.std.proofs.Common.{◌+◌, ◌-◌, ◌<◌, ◌≤◌, length, inl, sym, subst, ◌∙◌, arith, ◌*◌}
use Rattle.fo_tree_read.proofs.Exits.{looks_none}
use Rattle.fo_world.specs.Answers.{HadRoom, Refuses}
use Rattle.fo_world.specs.Step.{depth_of, give}
use Rattle.fo_files_along.specs.of_files_look.Told.{faults_of}
use Rattle.fo_files_along.specs.Along.{HasRoom}
use Rattle.fo_files_along.proofs.Both.{if_err, had_room}
use Rattle.fo_files_along.proofs.Refusing.{look_cause, cause_later}
use Rattle.fo_files_along.proofs.Whole.{settled_looks}
use Rattle.fo_files_take.specs.Take.{IsFound}
use Rattle.fo_files_take.proofs.Refusing.{blocks_refused}
use Rattle.fo_files_take.proofs.Whole.{on_ok_always, removes_as, refused_as}
use Rattle.fo_files_take.proofs.remove.remove_file.Goals as goal
use Rattle.fo_dirties.proofs.Adding.{dirties_none, dirties_first}
use Rattle.fo_dirties.proofs.Putting.{dirties_looks}
use Rattle.fo_ports.specs.State.{none}
use Rattle.fo_ports.specs.Sources.{Dirties}

pub take_found-requires-clause-silent : goal.take_found-requires-clause-silent
take_found-requires-clause-silent g c = λ h. c.requires.may.silent ((g.met.B.Blocks.keeps_all c.args.on.now c.look_for_removal.new.on c.look_for_removal.ensures.looks.1).still_tells.0 h)

pub take_found-requires-clause-found : goal.take_found-requires-clause-found
take_found-requires-clause-found g c = subst (λ t. IsFound (g.B.Blocks.state c.look_for_removal.new.on) c.args.root t c.args.who.now c.args.now c.in-Ok.found) (sym c.as_slice.ensures) c.in-Ok.ensures.found

pub take_found-requires-clause-short : goal.take_found-requires-clause-short
take_found-requires-clause-short g c = subst (λ t. (0 < length t) × (length t ≤ 65)) (sym c.as_slice.ensures) (c.requires.below, c.in-Ok.ensures.short)

pub returns-in-Err-clause-left : goal.returns-in-Err-clause-left
returns-in-Err-clause-left g c =
    let u = g.B.Blocks.state c.look_for_removal.new.on in
    record { looked = c.look_for_removal.new.on; looks = c.look_for_removal.ensures.looks.0; rested = c.look_for_removal.new.on; rests = inl (looks_none u); left = inl (looks_none u) }

pub returns-in-Err-clause-cause : goal.returns-in-Err-clause-cause
returns-in-Err-clause-cause g c = look_cause (g.B.Blocks.state c.args.on.now) (g.B.Blocks.state c.look_for_removal.new.on) (give (depth_of c.args.at.now)) c.in-Err.why c.in-Err.ensures.cause

pub returns-in-Err-clause-taken : goal.returns-in-Err-clause-taken
returns-in-Err-clause-taken g c = let same = c.look_for_removal.ensures.looks.0.usable.0 in omega (arith, same)

pub returns-in-Ok-clause-removes : goal.returns-in-Ok-clause-removes
returns-in-Ok-clause-removes g c = removes_as _ g.B.Blocks.state c.args.on.now c.look_for_removal.new.on c.take_found.new.on c.args.root c.as_slice.result.now c.args.at.now.trail c.args.who.now c.args.now c.in-Ok.found c.take_found.result c.as_slice.ensures c.look_for_removal.ensures.looks.0 c.in-Ok.ensures.found c.take_found.ensures.takes

pub returns-in-Ok-clause-left : goal.returns-in-Ok-clause-left
returns-in-Ok-clause-left g c = refused_as _ g.B.Blocks.state c.args.on.now c.look_for_removal.new.on c.take_found.new.on c.args.root c.as_slice.result.now c.args.at.now.trail c.take_found.result c.as_slice.ensures c.look_for_removal.ensures.looks.0 c.take_found.ensures.left

pub returns-in-Ok-clause-refused : goal.returns-in-Ok-clause-refused
returns-in-Ok-clause-refused g c = if_err c.take_found.result _ _ (λ e is. blocks_refused c.args.at.now.view c.args.halted _ e is) c.take_found.ensures.refused

pub returns-in-Ok-clause-granted : goal.returns-in-Ok-clause-granted
returns-in-Ok-clause-granted g c = on_ok_always c.take_found.result _ c.in-Ok.ensures.granted

pub returns-in-Ok-clause-room : goal.returns-in-Ok-clause-room
returns-in-Ok-clause-room g c =
    let looks = c.look_for_removal.ensures.looks.0 in
    let s = g.B.Blocks.state c.args.on.now in
    let m = g.B.Blocks.state c.look_for_removal.new.on in
    let all = g.met.B.Blocks.keeps_all c.args.on.now c.look_for_removal.new.on c.look_for_removal.ensures.looks.1 in
    subst (λ t. HadRoom (HasRoom s) (give (length t - 1)) c.take_found.result) c.as_slice.ensures
    (had_room c.take_found.result (HasRoom s) (HasRoom m) (give (length c.as_slice.result.now - 1))
    (λ n has. (settled_looks s m (λ h. c.requires.may.silent (all.still_tells.0 h)) (λ image is. g.met.B.Blocks.told c.look_for_removal.new.on image is) looks has.0, looks.usable.0 ∙ has.1))
    c.take_found.ensures.room)

pub returns-in-Ok-clause-taken : goal.returns-in-Ok-clause-taken
returns-in-Ok-clause-taken g c =
    let same = c.look_for_removal.ensures.looks.0.usable.0 in
    let took = subst (λ t. (g.B.Blocks.state c.look_for_removal.new.on).usable ≤ (g.B.Blocks.state c.take_found.new.on).usable + give (length t - 1)) c.as_slice.ensures c.take_found.ensures.taken in
    omega (arith, same, took)

pub returns-in-Ok-clause-cause : goal.returns-in-Ok-clause-cause
returns-in-Ok-clause-cause g c =
    let all = g.met.B.Blocks.keeps_all c.args.on.now c.look_for_removal.new.on c.look_for_removal.ensures.looks.1 in
    let u = g.B.Blocks.state c.take_found.new.on in
    subst (λ t. Refuses (faults_of (g.B.Blocks.state c.args.on.now)) (faults_of u) ⊥ (HasRoom u) (give (length t - 1)) c.take_found.result) c.as_slice.ensures
    (if_err c.take_found.result _ _ (λ e is. cause_later (g.B.Blocks.state c.args.on.now) (g.B.Blocks.state c.look_for_removal.new.on) u (HasRoom u) (give (length c.as_slice.result.now - 1)) all e is) c.take_found.ensures.cause)

pub returns-in-Ok-clause-keeps : goal.returns-in-Ok-clause-keeps
returns-in-Ok-clause-keeps g c = g.met.B.Blocks.keeps_joins c.args.on.now c.look_for_removal.new.on c.take_found.new.on c.look_for_removal.ensures.looks.1 c.take_found.ensures.keeps

pub returns-in-Err-clause-dirties : goal.returns-in-Err-clause-dirties
returns-in-Err-clause-dirties g c = dirties_none _ (dirties_looks (g.met.B.Blocks.keeps_all c.args.on.now c.look_for_removal.new.on c.look_for_removal.ensures.looks.1) c.look_for_removal.ensures.looks.0)

pub returns-in-Ok-clause-dirties : goal.returns-in-Ok-clause-dirties
returns-in-Ok-clause-dirties g c =
    let took = subst (λ t. Dirties (2 * give (length t - 1)) none (g.B.Blocks.state c.look_for_removal.new.on) (g.B.Blocks.state c.take_found.new.on)) c.as_slice.ensures c.take_found.ensures.dirties in
    dirties_first (dirties_looks (g.met.B.Blocks.keeps_all c.args.on.now c.look_for_removal.new.on c.look_for_removal.ensures.looks.1) c.look_for_removal.ensures.looks.0) took
