use Rattle.std.proofs.Common.{◌+◌, ◌^◌, ◌<◌, length, inl, sym, ap, subst, ◌∙◌, arith}
use Rattle.fo_image.specs.declared.record.Record.{Record}
use Rattle.fo_image.specs.Record.{RecordHolds}
use Rattle.fo_tree_read.proofs.Exits.{looks_none}
use Rattle.fo_world.specs.Answers.{HasCause}
use Rattle.fo_world.specs.Step.{need}
use Rattle.fo_files_create_look.proofs.of_files_at.Ways.{way_stays}
use Rattle.fo_files_create_look.specs.of_files_look.Told.{faults_of}
use Rattle.fo_files_create_look.specs.of_files_along.Along.{HasRoom, IsBlocks}
use Rattle.fo_files_create_look.proofs.of_files_along.Refusing.{blocks_are, blocks_cause}
use Rattle.fo_files_new.specs.of_dir_add.Adds.{IsNumbered}
use Rattle.fo_files_create_look.specs.of_files_at.declared.file.File.{File}
use Rattle.fo_files_create.specs.Create.{MakesAlong, numbered}
use Rattle.fo_files_create.proofs.Settling.{settles_or}
use Rattle.fo_files_create.proofs.Telling.{number_holds, told_same}
use Rattle.fo_files_create.proofs.create.make_at.Goals as goal
use Rattle.fo_dirties.proofs.Adding.{dirties_none, dirties_first}

pub make_along-requires-clause-silent : goal.make_along-requires-clause-silent
make_along-requires-clause-silent g c = λ h. c.requires.silent ((g.met.B.Blocks.keeps_all c.args.on.now c.reserve_and_settle.new.on c.reserve_and_settle.ensures.keeps).still_tells.0 h)

pub make_along-requires-clause-way : goal.make_along-requires-clause-way
make_along-requires-clause-way g c =
    way_stays (g.B.Blocks.state c.args.on.now) (g.B.Blocks.state c.reserve_and_settle.new.on) c.args.root c.args.trail.now c.args.found.way (g.met.B.Blocks.keeps_all c.args.on.now c.reserve_and_settle.new.on c.reserve_and_settle.ensures.keeps) c.requires.found.1.way

pub make_along-requires-clause-dir : goal.make_along-requires-clause-dir
make_along-requires-clause-dir g c = ap (λ (f : File). f.dir) c.requires.found.1.file ∙ c.requires.found.1.is_dir

pub make_along-requires-clause-of_root : goal.make_along-requires-clause-of_root
make_along-requires-clause-of_root g c = c.requires.found.1.of_root

pub make_along-requires-clause-named : goal.make_along-requires-clause-named
make_along-requires-clause-named g c =
    let found = c.requires.found in
    let holds = subst (λ r. RecordHolds r) (sym found.1.named_is) found.1.holds in
    subst (λ (r : Record). RecordHolds r × (r.number < 2 ^ 30)) (sym c.with_number-named.ensures) (number_holds c.args.number c.args.found.named holds, c.requires.number)

pub make_along-requires-clause-granted : goal.make_along-requires-clause-granted
make_along-requires-clause-granted g c = c.reserve_and_settle.ensures.numbers.grants c.requires.granted

pub make_along-requires-clause-spare : goal.make_along-requires-clause-spare
make_along-requires-clause-spare g c = c.in-Ok.ensures.room.0

pub make_along-requires-clause-pins : goal.make_along-requires-clause-pins
make_along-requires-clause-pins g c = c.in-Ok.ensures.room.1

pub returns-in-Err-clause-left : goal.returns-in-Err-clause-left
returns-in-Err-clause-left g c =
    let p = c.in-Err.ensures.left in
    (p.0, c.reserve_and_settle.new.on, p.1, p.2, inl (looks_none (g.B.Blocks.state c.reserve_and_settle.new.on)))

pub returns-in-Err-clause-numbers : goal.returns-in-Err-clause-numbers
returns-in-Err-clause-numbers g c = c.reserve_and_settle.ensures.numbers.next

pub returns-in-Err-clause-taken : goal.returns-in-Err-clause-taken
returns-in-Err-clause-taken g c = let more = c.reserve_and_settle.ensures.usable in omega (arith, more)

pub returns-in-Err-clause-cause : goal.returns-in-Err-clause-cause
returns-in-Err-clause-cause g c = c.in-Err.ensures.cause

pub returns-in-Ok-make_along-clause-makes : goal.returns-in-Ok-make_along-clause-makes
returns-in-Ok-make_along-clause-makes g c =
    let p = c.in-Ok.ensures.settles in (
      p.0,
      c.reserve_and_settle.new.on,
      c.in-Ok-make_along.made,
      p.1,
      p.2,
      subst (λ n. MakesAlong _ g.B.Blocks.state c.reserve_and_settle.new.on c.make_along.new.on c.args.root c.args.trail.now c.args.found.way c.args.found.spot n c.in-Ok-make_along.made) c.with_number-named.ensures c.in-Ok-make_along.ensures.makes,
    )

pub returns-in-Ok-make_along-clause-told : goal.returns-in-Ok-make_along-clause-told
returns-in-Ok-make_along-clause-told g c =
    let made = c.in-Ok-make_along.made in
    let pair = c.args.found.spot.pair in
    c.told.ensures.is ∙ told_same c.args.place (numbered c.args.number c.args.found.named) made pair made.generation (subst (λ n. IsNumbered n pair made.generation made) c.with_number-named.ensures c.in-Ok-make_along.ensures.record.1)

pub returns-in-Ok-make_along-clause-next : goal.returns-in-Ok-make_along-clause-next
returns-in-Ok-make_along-clause-next g c = c.in-Ok-make_along.ensures.next ∙ ap (λ n. n + 1) c.reserve_and_settle.ensures.numbers.next

pub returns-in-Ok-make_along-clause-room : goal.returns-in-Ok-make_along-clause-room
returns-in-Ok-make_along-clause-room g c = c.in-Ok.ensures.had

pub returns-in-Ok-make_along-clause-taken : goal.returns-in-Ok-make_along-clause-taken
returns-in-Ok-make_along-clause-taken g c =
    let a = c.reserve_and_settle.ensures.usable in let b = c.make_along.ensures.taken in omega (arith, a, b)

pub returns-in-Ok-make_along-clause-keeps : goal.returns-in-Ok-make_along-clause-keeps
returns-in-Ok-make_along-clause-keeps g c = g.met.B.Blocks.keeps_joins c.args.on.now c.reserve_and_settle.new.on c.make_along.new.on c.reserve_and_settle.ensures.keeps c.make_along.ensures.keeps

pub returns-in-Err-make_along-clause-left : goal.returns-in-Err-make_along-clause-left
returns-in-Err-make_along-clause-left g c =
    let p = c.in-Ok.ensures.settles in
    (p.0, c.reserve_and_settle.new.on, p.1, settles_or _ g.B.Blocks.state c.args.found.spot.alone p.0 c.reserve_and_settle.new.on p.2, c.in-Err-make_along.ensures.left)

pub returns-in-Err-make_along-clause-numbers : goal.returns-in-Err-make_along-clause-numbers
returns-in-Err-make_along-clause-numbers g c = c.in-Err-make_along.ensures.numbers ∙ c.reserve_and_settle.ensures.numbers.next

pub returns-in-Err-make_along-clause-refused : goal.returns-in-Err-make_along-clause-refused
returns-in-Err-make_along-clause-refused g c = subst (λ e. IsBlocks e) (sym c.file_error.ensures) (blocks_are c.in-Err-make_along.why)

pub returns-in-Err-make_along-clause-taken : goal.returns-in-Err-make_along-clause-taken
returns-in-Err-make_along-clause-taken g c =
    let a = c.reserve_and_settle.ensures.usable in let b = c.make_along.ensures.taken in omega (arith, a, b)

pub returns-in-Err-make_along-clause-cause : goal.returns-in-Err-make_along-clause-cause
returns-in-Err-make_along-clause-cause g c =
    let s = g.B.Blocks.state c.args.on.now in
    let b = g.B.Blocks.state c.reserve_and_settle.new.on in
    let u = g.B.Blocks.state c.make_along.new.on in
    let n = need (length c.args.trail.now) 0 in
    subst (λ e. HasCause (faults_of s) (faults_of u) ⊥ (HasRoom u) n e) (sym c.file_error.ensures) (blocks_cause s b u n _ (g.met.B.Blocks.keeps_all c.args.on.now c.reserve_and_settle.new.on c.reserve_and_settle.ensures.keeps) c.in-Err-make_along.why c.in-Err-make_along.ensures.cause)

pub returns-in-Err-make_along-clause-keeps : goal.returns-in-Err-make_along-clause-keeps
returns-in-Err-make_along-clause-keeps g c = g.met.B.Blocks.keeps_joins c.args.on.now c.reserve_and_settle.new.on c.make_along.new.on c.reserve_and_settle.ensures.keeps c.make_along.ensures.keeps

pub returns-in-Err-clause-dirties : goal.returns-in-Err-clause-dirties
returns-in-Err-clause-dirties g c = dirties_none _ c.reserve_and_settle.ensures.dirties

pub returns-in-Ok-make_along-clause-dirties : goal.returns-in-Ok-make_along-clause-dirties
returns-in-Ok-make_along-clause-dirties g c = dirties_first c.reserve_and_settle.ensures.dirties c.make_along.ensures.dirties

pub returns-in-Err-make_along-clause-dirties : goal.returns-in-Err-make_along-clause-dirties
returns-in-Err-make_along-clause-dirties g c = dirties_first c.reserve_and_settle.ensures.dirties c.make_along.ensures.dirties
