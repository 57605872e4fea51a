use Rattle.std.proofs.Common.{◌+◌, ◌-◌, ◌≤◌, length, inl, sym, ap, subst, ◌∙◌, arith, ◌*◌}
use Rattle.fo_tree_read.proofs.Exits.{looks_none}
use Rattle.fo_world.specs.Answers.{HasCause}
use Rattle.fo_world.specs.Step.{need, write_need}
use Rattle.fo_files_into.specs.of_files_look.Told.{faults_of}
use Rattle.fo_files_into.specs.of_files_along.Along.{HasRoom}
use Rattle.fo_files_request.specs.Write.{WhyRefused, Writes, Refused}
use Rattle.fo_files_into.specs.of_files_at.Way.{IsWay}
use Rattle.fo_files_into.proofs.of_files_along.Refusing.{look_cause}
use Rattle.fo_files_request.proofs.Whole.{need_is}
use Rattle.fo_files_request.proofs.write.write_file.Goals as goal
use Rattle.fo_dirties.proofs.Adding.{dirties_none}
use Rattle.fo_dirties.proofs.Putting.{dirties_looks}
use Rattle.fo_ports.specs.State.{none}
use Rattle.fo_ports.specs.Sources.{Dirties}

-- the piece is written: its trail is that of the place, and its need that of the whole
pub returns-in-Ok-clause-writes : goal.returns-in-Ok-clause-writes
returns-in-Ok-clause-writes g c = λ some.
    subst (λ t. Writes _ g.B.Blocks.state c.args.on.now c.write_at.new.on c.args.root t c.args.offset (length c.args.piece.now) c.args.who.now c.args.now) c.as_slice-trail.ensures c.in-Ok.ensures.writes

pub returns-in-Ok-clause-room : goal.returns-in-Ok-clause-room
returns-in-Ok-clause-room g c = λ n has.
    let enough = c.in-Ok.ensures.room n has in
    let some = c.in-May.ensures.1 in
    let is = need_is c.args.at.now c.args.piece.now (omega (arith, some)) in
    subst (λ m. m ≤ n) (ap (λ t. need (length t - 1) (length c.args.piece.now)) c.as_slice-trail.ensures ∙ sym is) enough

pub returns-in-Ok-clause-taken : goal.returns-in-Ok-clause-taken
returns-in-Ok-clause-taken g c =
    let took = c.write_at.ensures.taken in
    let some = c.in-May.ensures.1 in
    let is = ap (λ t. need (length t - 1) (length c.args.piece.now)) c.as_slice-trail.ensures ∙ sym (need_is c.args.at.now c.args.piece.now (omega (arith, some))) in
    subst (λ m. (g.B.Blocks.state c.args.on.now).usable ≤ (g.B.Blocks.state c.write_at.new.on).usable + m) is took

pub returns-in-Err-clause-taken : goal.returns-in-Err-clause-taken
returns-in-Err-clause-taken g c =
    let took = c.write_at.ensures.taken in
    let some = c.in-May.ensures.1 in
    let is = ap (λ t. need (length t - 1) (length c.args.piece.now)) c.as_slice-trail.ensures ∙ sym (need_is c.args.at.now c.args.piece.now (omega (arith, some))) in
    subst (λ m. (g.B.Blocks.state c.args.on.now).usable ≤ (g.B.Blocks.state c.write_at.new.on).usable + m) is took

pub returns-in-Err-clause-cause : goal.returns-in-Err-clause-cause
returns-in-Err-clause-cause g c =
    let some = c.in-May.ensures.1 in
    let is = ap (λ t. need (length t - 1) (length c.args.piece.now)) c.as_slice-trail.ensures ∙ sym (need_is c.args.at.now c.args.piece.now (omega (arith, some))) in
    subst (λ m. HasCause (faults_of (g.B.Blocks.state c.args.on.now)) (faults_of (g.B.Blocks.state c.write_at.new.on)) ⊥ (HasRoom (g.B.Blocks.state c.write_at.new.on)) m c.in-Err.why) is c.in-Err.ensures.cause

pub returns-in-Err-clause-left : goal.returns-in-Err-clause-left
returns-in-Err-clause-left g c =
    subst (λ t. Refused _ g.B.Blocks.state c.args.on.now c.write_at.new.on c.args.root t) c.as_slice-trail.ensures c.in-Err.ensures.left

-- it was looked at alone
pub returns-in-Err-unwritten-clause-left : goal.returns-in-Err-unwritten-clause-left
returns-in-Err-unwritten-clause-left g c =
    let u = g.B.Blocks.state c.unwritten.new.on in
    record { looked = c.unwritten.new.on; looks = c.unwritten.ensures.looks.0; rested = c.unwritten.new.on; rests = inl (looks_none u); left = inl (looks_none u) }

pub returns-in-Ok-unwritten-clause-none : goal.returns-in-Ok-unwritten-clause-none
returns-in-Ok-unwritten-clause-none g c = λ none.
    let f = c.in-Ok-unwritten.ensures.found in
    (c.unwritten.ensures.looks.0, (f.0, subst (λ t. IsWay (g.B.Blocks.state c.unwritten.new.on) c.args.root t f.0) c.as_slice-trail.ensures f.1, f.2))

pub returns-in-Ok-unwritten-clause-taken : goal.returns-in-Ok-unwritten-clause-taken
returns-in-Ok-unwritten-clause-taken g c =
    let same = c.unwritten.ensures.looks.0.usable.0 in omega (arith, same)

pub returns-in-Err-unwritten-clause-taken : goal.returns-in-Err-unwritten-clause-taken
returns-in-Err-unwritten-clause-taken g c =
    let same = c.unwritten.ensures.looks.0.usable.0 in omega (arith, same)

pub returns-in-Err-unwritten-clause-cause : goal.returns-in-Err-unwritten-clause-cause
returns-in-Err-unwritten-clause-cause g c =
    look_cause (g.B.Blocks.state c.args.on.now) (g.B.Blocks.state c.unwritten.new.on) (write_need c.args.at.now c.args.piece.now) c.in-Err-unwritten.why c.in-Err-unwritten.ensures.cause

pub returns-in-Err-clause-refused : goal.returns-in-Err-clause-refused
returns-in-Err-clause-refused g c =
    subst (λ t. WhyRefused _ g.B.Blocks.state c.args.root t c.args.at.now.view c.args.offset (length c.args.piece.now) c.args.halted c.in-Err.why) c.as_slice-trail.ensures (c.in-Err.ensures.refused c.args.at.now.view c.args.offset (length c.args.piece.now) c.args.halted)

pub returns-in-Err-unwritten-clause-refused : goal.returns-in-Err-unwritten-clause-refused
returns-in-Err-unwritten-clause-refused g c =
    subst (λ t. WhyRefused _ g.B.Blocks.state c.args.root t c.args.at.now.view c.args.offset (length c.args.piece.now) c.args.halted c.in-Err-unwritten.why) c.as_slice-trail.ensures (c.in-Err-unwritten.ensures.refused c.args.at.now.view c.args.offset (length c.args.piece.now) c.args.halted c.in-Bars.ensures)

pub returns-in-Ok-clause-dirties : goal.returns-in-Ok-clause-dirties
returns-in-Ok-clause-dirties g c =
    let some = c.in-May.ensures.1 in
    let is = ap (λ t. need (length t - 1) (length c.args.piece.now)) c.as_slice-trail.ensures ∙ sym (need_is c.args.at.now c.args.piece.now (omega (arith, some))) in
    subst (λ m. Dirties (2 * m) none (g.B.Blocks.state c.args.on.now) (g.B.Blocks.state c.write_at.new.on)) is c.write_at.ensures.dirties

pub returns-in-Err-clause-dirties : goal.returns-in-Err-clause-dirties
returns-in-Err-clause-dirties g c =
    let some = c.in-May.ensures.1 in
    let is = ap (λ t. need (length t - 1) (length c.args.piece.now)) c.as_slice-trail.ensures ∙ sym (need_is c.args.at.now c.args.piece.now (omega (arith, some))) in
    subst (λ m. Dirties (2 * m) none (g.B.Blocks.state c.args.on.now) (g.B.Blocks.state c.write_at.new.on)) is c.write_at.ensures.dirties

pub returns-in-Ok-unwritten-clause-dirties : goal.returns-in-Ok-unwritten-clause-dirties
returns-in-Ok-unwritten-clause-dirties g c = dirties_none _ (dirties_looks (g.met.B.Blocks.keeps_all c.args.on.now c.unwritten.new.on c.unwritten.ensures.looks.1) c.unwritten.ensures.looks.0)

pub returns-in-Err-unwritten-clause-dirties : goal.returns-in-Err-unwritten-clause-dirties
returns-in-Err-unwritten-clause-dirties g c = dirties_none _ (dirties_looks (g.met.B.Blocks.keeps_all c.args.on.now c.unwritten.new.on c.unwritten.ensures.looks.1) c.unwritten.ensures.looks.0)
