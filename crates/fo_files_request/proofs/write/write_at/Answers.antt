use Rattle.std.proofs.Common.{◌-◌, length, inl, ◌∙◌, arith}
use Rattle.fo_tree_read.proofs.Exits.{looks_none}
use Rattle.fo_world.specs.Step.{need}
use Rattle.fo_files_into.specs.of_files_along.Along.{HasRoom}
use Rattle.fo_files_into.proofs.of_files_along.Both.{on_ok, on_err, if_err, had_room}
use Rattle.fo_files_into.proofs.of_files_along.Refusing.{look_cause, cause_later}
use Rattle.fo_files_request.proofs.Refusing.{blocks_refused}
use Rattle.fo_files_into.proofs.of_files_along.Whole.{settled_looks}
use Rattle.fo_files_request.proofs.write.write_at.Goals as goal
use Rattle.fo_dirties.proofs.Adding.{dirties_none, dirties_first}
use Rattle.fo_dirties.proofs.Putting.{dirties_looks}

pub write_found-requires-clause-silent : goal.write_found-requires-clause-silent
write_found-requires-clause-silent g c =
    λ h. c.requires.may.silent ((g.met.B.Blocks.keeps_all c.args.on.now c.file_found.new.on c.file_found.ensures.looks.1).still_tells.0 h)

pub returns-in-Err-clause-left : goal.returns-in-Err-clause-left
returns-in-Err-clause-left g c =
    let u = g.B.Blocks.state c.file_found.new.on in
    record { looked = c.file_found.new.on; looks = c.file_found.ensures.looks.0; rested = c.file_found.new.on; rests = inl (looks_none u); left = inl (looks_none u) }

pub returns-in-Err-clause-cause : goal.returns-in-Err-clause-cause
returns-in-Err-clause-cause g c =
    look_cause (g.B.Blocks.state c.args.on.now) (g.B.Blocks.state c.file_found.new.on) (need (length c.args.trail.now - 1) (length c.args.piece.now)) c.in-Err.why c.in-Err.ensures.cause

pub returns-in-Err-clause-taken : goal.returns-in-Err-clause-taken
returns-in-Err-clause-taken g c =
    let same = c.file_found.ensures.looks.0.usable.0 in omega (arith, same)

pub returns-in-Ok-clause-writes : goal.returns-in-Ok-clause-writes
returns-in-Ok-clause-writes g c =
    let f = c.in-Ok.ensures.file in
    on_ok c.write_found.result _ _
    (λ p. record {
      looked = c.file_found.new.on;
      looks = c.file_found.ensures.looks.0;
      way = f.0;
      found = f.1;
      is_file = f.2;
      rested = p.0;
      rests = p.1;
      new_way = c.in-Ok.found.way;
      same_steps = f.3;
      new_is = f.4;
      puts = p.2;
    })
    c.write_found.ensures.puts

pub returns-in-Ok-clause-left : goal.returns-in-Ok-clause-left
returns-in-Ok-clause-left g c =
    on_err c.write_found.result _ _ (λ p. record { looked = c.file_found.new.on; looks = c.file_found.ensures.looks.0; rested = p.0; rests = p.1; left = p.2 }) c.write_found.ensures.left

pub returns-in-Ok-clause-refused : goal.returns-in-Ok-clause-refused
returns-in-Ok-clause-refused g c =
    if_err c.write_found.result _ _ (λ e is view offset n halted. blocks_refused view offset n halted _ _ e is) c.write_found.ensures.refused

pub returns-in-Ok-clause-room : goal.returns-in-Ok-clause-room
returns-in-Ok-clause-room g c =
    let looks = c.file_found.ensures.looks.0 in
    let s = g.B.Blocks.state c.args.on.now in
    let m = g.B.Blocks.state c.file_found.new.on in
    let all = g.met.B.Blocks.keeps_all c.args.on.now c.file_found.new.on c.file_found.ensures.looks.1 in
    had_room c.write_found.result (HasRoom s) (HasRoom m) (need (length c.args.trail.now - 1) (length c.args.piece.now))
    (λ n has. (settled_looks s m (λ h. c.requires.may.silent (all.still_tells.0 h)) (λ image is. g.met.B.Blocks.told c.file_found.new.on image is) looks has.0, looks.usable.0 ∙ has.1))
    c.write_found.ensures.room

pub returns-in-Ok-clause-taken : goal.returns-in-Ok-clause-taken
returns-in-Ok-clause-taken g c =
    let same = c.file_found.ensures.looks.0.usable.0 in let took = c.write_found.ensures.taken in omega (arith, same, took)

pub returns-in-Ok-clause-cause : goal.returns-in-Ok-clause-cause
returns-in-Ok-clause-cause g c =
    let all = g.met.B.Blocks.keeps_all c.args.on.now c.file_found.new.on c.file_found.ensures.looks.1 in
    if_err c.write_found.result _ _ (λ e is. cause_later (g.B.Blocks.state c.args.on.now) (g.B.Blocks.state c.file_found.new.on) (g.B.Blocks.state c.write_found.new.on) (HasRoom (g.B.Blocks.state c.write_found.new.on)) (need (length c.args.trail.now - 1) (length c.args.piece.now)) all e is) c.write_found.ensures.cause

pub returns-in-Ok-clause-keeps : goal.returns-in-Ok-clause-keeps
returns-in-Ok-clause-keeps g c =
    g.met.B.Blocks.keeps_joins c.args.on.now c.file_found.new.on c.write_found.new.on c.file_found.ensures.looks.1 c.write_found.ensures.keeps

pub returns-in-Err-clause-dirties : goal.returns-in-Err-clause-dirties
returns-in-Err-clause-dirties g c = dirties_none _ (dirties_looks (g.met.B.Blocks.keeps_all c.args.on.now c.file_found.new.on c.file_found.ensures.looks.1) c.file_found.ensures.looks.0)

pub returns-in-Ok-clause-dirties : goal.returns-in-Ok-clause-dirties
returns-in-Ok-clause-dirties g c = dirties_first (dirties_looks (g.met.B.Blocks.keeps_all c.args.on.now c.file_found.new.on c.file_found.ensures.looks.1) c.file_found.ensures.looks.0) c.write_found.ensures.dirties
