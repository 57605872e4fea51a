use Rattle.std.proofs.Common.{inl, inr, subst, arith}
use Rattle.std.specs.Prelude.{Option, IfSome}
use Rattle.fo_world.specs.Step.{depth_of, give, most_need}
use Rattle.fo_files_edit.specs.of_files_along.Along.{HasRoom}
use Rattle.fo_files_edit.proofs.of_files_along.Refusing.{cause_later, full_below, look_cause}
use Rattle.fo_files_edit.specs.declared.found.Found.{Found}
use Rattle.fo_files_edit.specs.Asks.{FoundOther}
use Rattle.fo_files_edit.proofs.Refusing.{unfound}
use Rattle.fo_files_rename.proofs.Finding.{always_ok, map_ok, map_err, map_why}
use Rattle.fo_files_rename.proofs.change.change_file.Goals as goal
use Rattle.fo_dirties.proofs.Adding.{dirties_none, dirties_first}
use Rattle.fo_dirties.proofs.Putting.{dirties_looks}

pub found_at-requires-clause-asks : goal.found_at-requires-clause-asks
found_at-requires-clause-asks g c = record { name = c.requires.name; gid = c.requires.gid; root = c.requires.root }

pub change_found-requires-clause-silent : goal.change_found-requires-clause-silent
change_found-requires-clause-silent g c = λ h. c.requires.may.silent ((g.met.B.Blocks.keeps_all c.args.on.now c.found_at.new.on c.found_at.ensures.looks.1).still_tells.0 h)

pub returns-in-Ok-None-clause-changes : goal.returns-in-Ok-None-clause-changes
returns-in-Ok-None-clause-changes g c = inl (record { looks = c.found_at.ensures.looks.0; same = c.in-Ok-None.ensures.same c.in-Ok-None.field-0-is })

pub returns-in-Err-clause-left : goal.returns-in-Err-clause-left
returns-in-Err-clause-left g c = inl c.found_at.ensures.looks.0

pub returns-in-Err-clause-taken : goal.returns-in-Err-clause-taken
returns-in-Err-clause-taken g c = let same = c.found_at.ensures.looks.0.usable.0 in omega (arith, same)

pub returns-in-Ok-None-clause-taken : goal.returns-in-Ok-None-clause-taken
returns-in-Ok-None-clause-taken g c = let same = c.found_at.ensures.looks.0.usable.0 in omega (arith, same)

pub returns-in-Err-clause-cause : goal.returns-in-Err-clause-cause
returns-in-Err-clause-cause g c = look_cause (g.B.Blocks.state c.args.on.now) (g.B.Blocks.state c.found_at.new.on) (most_need c.args.at.now) c.in-Err.why c.in-Err.ensures.cause

pub change_found-requires-clause-way : goal.change_found-requires-clause-way
change_found-requires-clause-way g c =
    (subst (λ (o : Option Found). IfSome o (λ f. FoundOther (g.B.Blocks.state c.found_at.new.on) c.args.root c.args.at.now c.args.what.now c.args.halted c.args.who.now c.args.now f.way f.name)) c.in-Ok-Some.field-0-is c.in-Ok-Some.ensures.other).is_way

pub change_found-requires-clause-within : goal.change_found-requires-clause-within
change_found-requires-clause-within g c =
    (subst (λ (o : Option Found). IfSome o (λ f. FoundOther (g.B.Blocks.state c.found_at.new.on) c.args.root c.args.at.now c.args.what.now c.args.halted c.args.who.now c.args.now f.way f.name)) c.in-Ok-Some.field-0-is c.in-Ok-Some.ensures.other).within

pub returns-in-Ok-Some-clause-changes : goal.returns-in-Ok-Some-clause-changes
returns-in-Ok-Some-clause-changes g c =
    let f = c.in-Ok-Some.found in
    map_ok c.change_found.result _ _ (λ done. inr (record {
      looked = c.found_at.new.on;
      looks = c.found_at.ensures.looks.0;
      way = f.way;
      name = f.name;
      found = (subst (λ (o : Option Found). IfSome o (λ f. FoundOther (g.B.Blocks.state c.found_at.new.on) c.args.root c.args.at.now c.args.what.now c.args.halted c.args.who.now c.args.now f.way f.name)) c.in-Ok-Some.field-0-is c.in-Ok-Some.ensures.other);
      changes = done;
    })) c.change_found.ensures.changes

pub returns-in-Ok-Some-clause-left : goal.returns-in-Ok-Some-clause-left
returns-in-Ok-Some-clause-left g c =
    let f = c.in-Ok-Some.found in
    map_err c.change_found.result _ _ (λ left. inr (record {
      looked = c.found_at.new.on;
      looks = c.found_at.ensures.looks.0;
      way = f.way;
      name = f.name;
      found = (subst (λ (o : Option Found). IfSome o (λ f. FoundOther (g.B.Blocks.state c.found_at.new.on) c.args.root c.args.at.now c.args.what.now c.args.halted c.args.who.now c.args.now f.way f.name)) c.in-Ok-Some.field-0-is c.in-Ok-Some.ensures.other);
      left = left;
    })) c.change_found.ensures.left

pub returns-in-Ok-Some-clause-refused : goal.returns-in-Ok-Some-clause-refused
returns-in-Ok-Some-clause-refused g c = map_why c.change_found.result _ _ (λ e is. inl (unfound e is)) c.change_found.ensures.blocks

pub returns-in-Ok-Some-clause-taken : goal.returns-in-Ok-Some-clause-taken
returns-in-Ok-Some-clause-taken g c = let same = c.found_at.ensures.looks.0.usable.0 in let took = c.change_found.ensures.taken in omega (arith, same, took)

pub returns-in-Ok-Some-clause-cause : goal.returns-in-Ok-Some-clause-cause
returns-in-Ok-Some-clause-cause g c =
    map_why c.change_found.result _ _ (λ e h. cause_later (g.B.Blocks.state c.args.on.now) (g.B.Blocks.state c.found_at.new.on) (g.B.Blocks.state c.change_found.new.on) (HasRoom (g.B.Blocks.state c.change_found.new.on)) (most_need c.args.at.now) (g.met.B.Blocks.keeps_all c.args.on.now c.found_at.new.on c.found_at.ensures.looks.1) e h) c.change_found.ensures.cause

pub returns-in-Ok-Some-clause-keeps : goal.returns-in-Ok-Some-clause-keeps
returns-in-Ok-Some-clause-keeps g c = g.met.B.Blocks.keeps_joins c.args.on.now c.found_at.new.on c.change_found.new.on c.found_at.ensures.looks.1 c.change_found.ensures.keeps

pub returns-in-Ok-Some-clause-awake : goal.returns-in-Ok-Some-clause-awake
returns-in-Ok-Some-clause-awake g c = always_ok c.change_found.result _ (inl (subst (λ (o : Option Found). IfSome o (λ f. FoundOther (g.B.Blocks.state c.found_at.new.on) c.args.root c.args.at.now c.args.what.now c.args.halted c.args.who.now c.args.now f.way f.name)) c.in-Ok-Some.field-0-is c.in-Ok-Some.ensures.other).awake)

pub returns-in-Ok-None-clause-awake : goal.returns-in-Ok-None-clause-awake
returns-in-Ok-None-clause-awake g c = inr (c.in-Ok-None.ensures.same c.in-Ok-None.field-0-is)

pub returns-in-Err-clause-dirties : goal.returns-in-Err-clause-dirties
returns-in-Err-clause-dirties g c = dirties_none _ (dirties_looks (g.met.B.Blocks.keeps_all c.args.on.now c.found_at.new.on c.found_at.ensures.looks.1) c.found_at.ensures.looks.0)

pub returns-in-Ok-None-clause-dirties : goal.returns-in-Ok-None-clause-dirties
returns-in-Ok-None-clause-dirties g c = dirties_none _ (dirties_looks (g.met.B.Blocks.keeps_all c.args.on.now c.found_at.new.on c.found_at.ensures.looks.1) c.found_at.ensures.looks.0)

pub returns-in-Ok-Some-clause-dirties : goal.returns-in-Ok-Some-clause-dirties
returns-in-Ok-Some-clause-dirties g c = dirties_first (dirties_looks (g.met.B.Blocks.keeps_all c.args.on.now c.found_at.new.on c.found_at.ensures.looks.1) c.found_at.ensures.looks.0) c.change_found.ensures.dirties

pub returns-in-Err-clause-fewer : goal.returns-in-Err-clause-fewer
returns-in-Err-clause-fewer g c = let same = c.found_at.ensures.looks.0.usable.0 in omega (arith, same)

pub returns-in-Ok-None-clause-fewer : goal.returns-in-Ok-None-clause-fewer
returns-in-Ok-None-clause-fewer g c = let same = c.found_at.ensures.looks.0.usable.0 in omega (arith, same)

pub returns-in-Ok-Some-clause-fewer : goal.returns-in-Ok-Some-clause-fewer
returns-in-Ok-Some-clause-fewer g c = let same = c.found_at.ensures.looks.0.usable.0 in let took = c.change_found.ensures.fewer in omega (arith, same, took)

pub returns-in-Err-clause-full : goal.returns-in-Err-clause-full
returns-in-Err-clause-full g c =
    let s = g.B.Blocks.state c.args.on.now in
    let m = g.B.Blocks.state c.found_at.new.on in
    let most = give (depth_of c.args.at.now) in
    full_below s m (HasRoom m) most most (omega arith) c.in-Err.why (look_cause s m most c.in-Err.why c.in-Err.ensures.cause)
