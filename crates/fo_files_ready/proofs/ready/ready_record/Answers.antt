use Rattle.std.proofs.Common.{inl, inr, refl, ◌∙◌, arith}
use Rattle.fo_files_change.proofs.of_files_leaf.Altering.{alters_joins}
use Rattle.fo_files_move.specs.of_files_record.Stays.{no_slot}
use Rattle.fo_files_move.proofs.of_files_record.Rewriting.{rewrites_same}
use Rattle.fo_files_change.proofs.Records.{dir_readied, entries_readied, later_failed}
use Rattle.fo_files_ready.specs.Ready.{IsLeafOf, records_size}
use Rattle.fo_files_ready.proofs.Sizes.{few_both, left_spare, size_kept, took_both, way_few}
use Rattle.fo_files_ready.proofs.Steps.{looked, dir_over, entries_over, moved_as, failed_since}
use Rattle.fo_files_ready.proofs.ready.ready_record.Goals as goal
use Rattle.fo_dirties.proofs.Adding.{first_of, next_of, cons_of, none_of, adds_idle, adds_more, adds_given, adds_still, adds_joins}
use Rattle.fo_dirties.proofs.Putting.{dirties_looks}

pub has_place-requires-clause-silent : goal.has_place-requires-clause-silent
has_place-requires-clause-silent g c =
    λ h. c.requires.silent ((g.met.B.Blocks.keeps_all c.args.on.now c.leaf_at.new.on c.leaf_at.ensures.keeps).still_tells.0 h)

pub has_place-requires-clause-dir : goal.has_place-requires-clause-dir
has_place-requires-clause-dir g c =
    dir_readied c.args.dir (g.met.B.Blocks.keeps_all c.args.on.now c.leaf_at.new.on c.leaf_at.ensures.keeps) c.leaf_at.ensures.alters c.requires.dir

pub move_to-requires-clause-silent : goal.move_to-requires-clause-silent
move_to-requires-clause-silent g c =
    λ h. c.requires.silent ((g.met.B.Blocks.keeps_all c.args.on.now c.has_place.new.on (g.met.B.Blocks.keeps_joins c.args.on.now c.leaf_at.new.on c.has_place.new.on c.leaf_at.ensures.keeps c.has_place.ensures.keeps)).still_tells.0 h)

pub move_to-requires-clause-dir : goal.move_to-requires-clause-dir
move_to-requires-clause-dir g c =
    let s = g.B.Blocks.state c.args.on.now in
    let m = g.B.Blocks.state c.leaf_at.new.on in
    let n = g.B.Blocks.state c.has_place.new.on in
    let first = g.met.B.Blocks.keeps_all c.args.on.now c.leaf_at.new.on c.leaf_at.ensures.keeps in
    let second = g.met.B.Blocks.keeps_all c.leaf_at.new.on c.has_place.new.on c.has_place.ensures.keeps in
    let dir = dir_readied c.args.dir first c.leaf_at.ensures.alters c.requires.dir in
    let look = looked m n c.args.dir dir.pair.is_pinned c.has_place.ensures.looks in
    let both = alters_joins first c.leaf_at.ensures.alters look in
    dir_readied c.args.dir second look dir

pub move_to-requires-clause-entries : goal.move_to-requires-clause-entries
move_to-requires-clause-entries g c =
    let s = g.B.Blocks.state c.args.on.now in
    let m = g.B.Blocks.state c.leaf_at.new.on in
    let n = g.B.Blocks.state c.has_place.new.on in
    let first = g.met.B.Blocks.keeps_all c.args.on.now c.leaf_at.new.on c.leaf_at.ensures.keeps in
    let second = g.met.B.Blocks.keeps_all c.leaf_at.new.on c.has_place.new.on c.has_place.ensures.keeps in
    let dir = dir_readied c.args.dir first c.leaf_at.ensures.alters c.requires.dir in
    let look = looked m n c.args.dir dir.pair.is_pinned c.has_place.ensures.looks in
    let both = alters_joins first c.leaf_at.ensures.alters look in
    let whole = g.met.B.Blocks.keeps_all c.args.on.now c.has_place.new.on (g.met.B.Blocks.keeps_joins c.args.on.now c.leaf_at.new.on c.has_place.new.on c.leaf_at.ensures.keeps c.has_place.ensures.keeps) in
    entries_readied c.args.dir c.args.entries whole both c.requires.entries

pub move_to-requires-clause-spare : goal.move_to-requires-clause-spare
move_to-requires-clause-spare g c =
    let s = g.B.Blocks.state c.args.on.now in
    let m = g.B.Blocks.state c.leaf_at.new.on in
    let n = g.B.Blocks.state c.has_place.new.on in
    let first = g.met.B.Blocks.keeps_all c.args.on.now c.leaf_at.new.on c.leaf_at.ensures.keeps in
    let dir = dir_readied c.args.dir first c.leaf_at.ensures.alters c.requires.dir in
    let told = size_kept m n c.args.dir dir c.has_place.ensures.looks ∙ c.in-Ok.ensures.same refl in
    left_spare (records_size s c.args.dir) (records_size n c.args.dir) s.spare m.spare n.spare told c.requires.spare (c.leaf_at.ensures.fewer refl) c.has_place.ensures.looks.room.0

pub returns-in-Err-clause-stays : goal.returns-in-Err-clause-stays
returns-in-Err-clause-stays g c =
    (c.leaf_at.new.on, c.leaf_at.ensures.alters, c.leaf_at.ensures.keeps, g.met.B.Blocks.keeps_at_once c.leaf_at.new.on, rewrites_same (g.B.Blocks.state c.leaf_at.new.on) (IsLeafOf c.args.dir (g.B.Blocks.state c.leaf_at.new.on)) no_slot)

pub returns-in-Err-clause-nothing : goal.returns-in-Err-clause-nothing
returns-in-Err-clause-nothing g c =
    (c.leaf_at.new.on, c.leaf_at.ensures.alters, rewrites_same (g.B.Blocks.state c.leaf_at.new.on) (λ b. ⊥) no_slot)

pub returns-in-Err-clause-dir : goal.returns-in-Err-clause-dir
returns-in-Err-clause-dir g c =
    let first = g.met.B.Blocks.keeps_all c.args.on.now c.leaf_at.new.on c.leaf_at.ensures.keeps in
    dir_readied c.args.dir first c.leaf_at.ensures.alters c.requires.dir

pub returns-in-Err-clause-entries : goal.returns-in-Err-clause-entries
returns-in-Err-clause-entries g c =
    let first = g.met.B.Blocks.keeps_all c.args.on.now c.leaf_at.new.on c.leaf_at.ensures.keeps in
    λ e is. entries_readied c.args.dir e first c.leaf_at.ensures.alters is

pub returns-then-fits-clause-stays : goal.returns-then-fits-clause-stays
returns-then-fits-clause-stays g c =
    let s = g.B.Blocks.state c.args.on.now in
    let m = g.B.Blocks.state c.leaf_at.new.on in
    let n = g.B.Blocks.state c.has_place.new.on in
    let first = g.met.B.Blocks.keeps_all c.args.on.now c.leaf_at.new.on c.leaf_at.ensures.keeps in
    let second = g.met.B.Blocks.keeps_all c.leaf_at.new.on c.has_place.new.on c.has_place.ensures.keeps in
    let dir = dir_readied c.args.dir first c.leaf_at.ensures.alters c.requires.dir in
    let look = looked m n c.args.dir dir.pair.is_pinned c.has_place.ensures.looks in
    let both = alters_joins first c.leaf_at.ensures.alters look in
    (c.has_place.new.on, both, (g.met.B.Blocks.keeps_joins c.args.on.now c.leaf_at.new.on c.has_place.new.on c.leaf_at.ensures.keeps c.has_place.ensures.keeps), g.met.B.Blocks.keeps_at_once c.has_place.new.on, rewrites_same n (IsLeafOf c.args.dir n) no_slot)

pub returns-then-fits-clause-dir : goal.returns-then-fits-clause-dir
returns-then-fits-clause-dir g c =
    let s = g.B.Blocks.state c.args.on.now in
    let m = g.B.Blocks.state c.leaf_at.new.on in
    let n = g.B.Blocks.state c.has_place.new.on in
    let first = g.met.B.Blocks.keeps_all c.args.on.now c.leaf_at.new.on c.leaf_at.ensures.keeps in
    let second = g.met.B.Blocks.keeps_all c.leaf_at.new.on c.has_place.new.on c.has_place.ensures.keeps in
    let dir = dir_readied c.args.dir first c.leaf_at.ensures.alters c.requires.dir in
    let look = looked m n c.args.dir dir.pair.is_pinned c.has_place.ensures.looks in
    let both = alters_joins first c.leaf_at.ensures.alters look in
    dir_readied c.args.dir second look dir

pub returns-then-fits-clause-entries : goal.returns-then-fits-clause-entries
returns-then-fits-clause-entries g c =
    let s = g.B.Blocks.state c.args.on.now in
    let m = g.B.Blocks.state c.leaf_at.new.on in
    let n = g.B.Blocks.state c.has_place.new.on in
    let first = g.met.B.Blocks.keeps_all c.args.on.now c.leaf_at.new.on c.leaf_at.ensures.keeps in
    let second = g.met.B.Blocks.keeps_all c.leaf_at.new.on c.has_place.new.on c.has_place.ensures.keeps in
    let dir = dir_readied c.args.dir first c.leaf_at.ensures.alters c.requires.dir in
    let look = looked m n c.args.dir dir.pair.is_pinned c.has_place.ensures.looks in
    let both = alters_joins first c.leaf_at.ensures.alters look in
    let whole = g.met.B.Blocks.keeps_all c.args.on.now c.has_place.new.on (g.met.B.Blocks.keeps_joins c.args.on.now c.leaf_at.new.on c.has_place.new.on c.leaf_at.ensures.keeps c.has_place.ensures.keeps) in
    λ e is. entries_readied c.args.dir e whole both is

pub returns-then-fits-clause-keeps : goal.returns-then-fits-clause-keeps
returns-then-fits-clause-keeps g c =
    g.met.B.Blocks.keeps_joins c.args.on.now c.leaf_at.new.on c.has_place.new.on c.leaf_at.ensures.keeps c.has_place.ensures.keeps

pub returns-then-fits-clause-spare : goal.returns-then-fits-clause-spare
returns-then-fits-clause-spare g c =
    let took = c.leaf_at.ensures.spare in let same = c.has_place.ensures.looks.room.0 in omega (arith, took, same)

pub returns-then-fits-clause-pins : goal.returns-then-fits-clause-pins
returns-then-fits-clause-pins g c =
    let took = c.leaf_at.ensures.pins in let same = c.has_place.ensures.pins in omega (arith, took, same)

pub returns-then-fits-clause-room : goal.returns-then-fits-clause-room
returns-then-fits-clause-room g c =
    let took = c.leaf_at.ensures.room in let same = c.has_place.ensures.looks.room.1 in omega (arith, took, same)

pub returns-in-Err-has_place-clause-stays : goal.returns-in-Err-has_place-clause-stays
returns-in-Err-has_place-clause-stays g c =
    let s = g.B.Blocks.state c.args.on.now in
    let m = g.B.Blocks.state c.leaf_at.new.on in
    let n = g.B.Blocks.state c.has_place.new.on in
    let first = g.met.B.Blocks.keeps_all c.args.on.now c.leaf_at.new.on c.leaf_at.ensures.keeps in
    let second = g.met.B.Blocks.keeps_all c.leaf_at.new.on c.has_place.new.on c.has_place.ensures.keeps in
    let dir = dir_readied c.args.dir first c.leaf_at.ensures.alters c.requires.dir in
    let look = looked m n c.args.dir dir.pair.is_pinned c.has_place.ensures.looks in
    let both = alters_joins first c.leaf_at.ensures.alters look in
    (c.has_place.new.on, both, (g.met.B.Blocks.keeps_joins c.args.on.now c.leaf_at.new.on c.has_place.new.on c.leaf_at.ensures.keeps c.has_place.ensures.keeps), g.met.B.Blocks.keeps_at_once c.has_place.new.on, rewrites_same n (IsLeafOf c.args.dir n) no_slot)

pub returns-in-Err-has_place-clause-dir : goal.returns-in-Err-has_place-clause-dir
returns-in-Err-has_place-clause-dir g c =
    let s = g.B.Blocks.state c.args.on.now in
    let m = g.B.Blocks.state c.leaf_at.new.on in
    let n = g.B.Blocks.state c.has_place.new.on in
    let first = g.met.B.Blocks.keeps_all c.args.on.now c.leaf_at.new.on c.leaf_at.ensures.keeps in
    let second = g.met.B.Blocks.keeps_all c.leaf_at.new.on c.has_place.new.on c.has_place.ensures.keeps in
    let dir = dir_readied c.args.dir first c.leaf_at.ensures.alters c.requires.dir in
    let look = looked m n c.args.dir dir.pair.is_pinned c.has_place.ensures.looks in
    let both = alters_joins first c.leaf_at.ensures.alters look in
    dir_readied c.args.dir second look dir

pub returns-in-Err-has_place-clause-entries : goal.returns-in-Err-has_place-clause-entries
returns-in-Err-has_place-clause-entries g c =
    let s = g.B.Blocks.state c.args.on.now in
    let m = g.B.Blocks.state c.leaf_at.new.on in
    let n = g.B.Blocks.state c.has_place.new.on in
    let first = g.met.B.Blocks.keeps_all c.args.on.now c.leaf_at.new.on c.leaf_at.ensures.keeps in
    let second = g.met.B.Blocks.keeps_all c.leaf_at.new.on c.has_place.new.on c.has_place.ensures.keeps in
    let dir = dir_readied c.args.dir first c.leaf_at.ensures.alters c.requires.dir in
    let look = looked m n c.args.dir dir.pair.is_pinned c.has_place.ensures.looks in
    let both = alters_joins first c.leaf_at.ensures.alters look in
    let whole = g.met.B.Blocks.keeps_all c.args.on.now c.has_place.new.on (g.met.B.Blocks.keeps_joins c.args.on.now c.leaf_at.new.on c.has_place.new.on c.leaf_at.ensures.keeps c.has_place.ensures.keeps) in
    λ e is. entries_readied c.args.dir e whole both is

pub returns-in-Err-has_place-clause-keeps : goal.returns-in-Err-has_place-clause-keeps
returns-in-Err-has_place-clause-keeps g c =
    g.met.B.Blocks.keeps_joins c.args.on.now c.leaf_at.new.on c.has_place.new.on c.leaf_at.ensures.keeps c.has_place.ensures.keeps

pub returns-in-Err-has_place-clause-spare : goal.returns-in-Err-has_place-clause-spare
returns-in-Err-has_place-clause-spare g c =
    let took = c.leaf_at.ensures.spare in let same = c.has_place.ensures.looks.room.0 in omega (arith, took, same)

pub returns-in-Err-has_place-clause-pins : goal.returns-in-Err-has_place-clause-pins
returns-in-Err-has_place-clause-pins g c =
    let took = c.leaf_at.ensures.pins in let same = c.has_place.ensures.pins in omega (arith, took, same)

pub returns-in-Err-has_place-clause-room : goal.returns-in-Err-has_place-clause-room
returns-in-Err-has_place-clause-room g c =
    let took = c.leaf_at.ensures.room in let same = c.has_place.ensures.looks.room.1 in omega (arith, took, same)

pub returns-then-fits-clause-steps : goal.returns-then-fits-clause-steps
returns-then-fits-clause-steps g c =
    let r = c.in-Ok.ensures.readied in
    inl (record { looked = r.0; readied = c.leaf_at.new.on; ready = r.1; looks = c.has_place.ensures.looks })

pub returns-in-Err-has_place-clause-nothing : goal.returns-in-Err-has_place-clause-nothing
returns-in-Err-has_place-clause-nothing g c =
    let s = g.B.Blocks.state c.args.on.now in
    let m = g.B.Blocks.state c.leaf_at.new.on in
    let n = g.B.Blocks.state c.has_place.new.on in
    let first = g.met.B.Blocks.keeps_all c.args.on.now c.leaf_at.new.on c.leaf_at.ensures.keeps in
    let second = g.met.B.Blocks.keeps_all c.leaf_at.new.on c.has_place.new.on c.has_place.ensures.keeps in
    let dir = dir_readied c.args.dir first c.leaf_at.ensures.alters c.requires.dir in
    let look = looked m n c.args.dir dir.pair.is_pinned c.has_place.ensures.looks in
    let both = alters_joins first c.leaf_at.ensures.alters look in
    (c.has_place.new.on, both, rewrites_same n (λ b. ⊥) no_slot)

pub returns-in-Err-has_place-clause-cause : goal.returns-in-Err-has_place-clause-cause
returns-in-Err-has_place-clause-cause g c =
    let s = g.B.Blocks.state c.args.on.now in
    let m = g.B.Blocks.state c.leaf_at.new.on in
    let n = g.B.Blocks.state c.has_place.new.on in
    let first = g.met.B.Blocks.keeps_all c.args.on.now c.leaf_at.new.on c.leaf_at.ensures.keeps in
    let second = g.met.B.Blocks.keeps_all c.leaf_at.new.on c.has_place.new.on c.has_place.ensures.keeps in
    let dir = dir_readied c.args.dir first c.leaf_at.ensures.alters c.requires.dir in
    let look = looked m n c.args.dir dir.pair.is_pinned c.has_place.ensures.looks in
    let both = alters_joins first c.leaf_at.ensures.alters look in
    later_failed s m n first c.in-Err-has_place.why c.in-Err-has_place.ensures.cause

pub returns-in-Ok-move_to-clause-stays : goal.returns-in-Ok-move_to-clause-stays
returns-in-Ok-move_to-clause-stays g c =
    let s = g.B.Blocks.state c.args.on.now in
    let m = g.B.Blocks.state c.leaf_at.new.on in
    let n = g.B.Blocks.state c.has_place.new.on in
    let first = g.met.B.Blocks.keeps_all c.args.on.now c.leaf_at.new.on c.leaf_at.ensures.keeps in
    let second = g.met.B.Blocks.keeps_all c.leaf_at.new.on c.has_place.new.on c.has_place.ensures.keeps in
    let dir = dir_readied c.args.dir first c.leaf_at.ensures.alters c.requires.dir in
    let look = looked m n c.args.dir dir.pair.is_pinned c.has_place.ensures.looks in
    let both = alters_joins first c.leaf_at.ensures.alters look in
    let whole = g.met.B.Blocks.keeps_all c.args.on.now c.has_place.new.on (g.met.B.Blocks.keeps_joins c.args.on.now c.leaf_at.new.on c.has_place.new.on c.leaf_at.ensures.keeps c.has_place.ensures.keeps) in
    let y = c.move_to.ensures.stays in
    (y.0, alters_joins whole both y.1, g.met.B.Blocks.keeps_joins c.args.on.now c.has_place.new.on y.0 (g.met.B.Blocks.keeps_joins c.args.on.now c.leaf_at.new.on c.has_place.new.on c.leaf_at.ensures.keeps c.has_place.ensures.keeps) y.2, y.3, y.4)

pub returns-in-Ok-move_to-clause-dir : goal.returns-in-Ok-move_to-clause-dir
returns-in-Ok-move_to-clause-dir g c =
    let s = g.B.Blocks.state c.args.on.now in
    let m = g.B.Blocks.state c.leaf_at.new.on in
    let n = g.B.Blocks.state c.has_place.new.on in
    let first = g.met.B.Blocks.keeps_all c.args.on.now c.leaf_at.new.on c.leaf_at.ensures.keeps in
    let second = g.met.B.Blocks.keeps_all c.leaf_at.new.on c.has_place.new.on c.has_place.ensures.keeps in
    let dir = dir_readied c.args.dir first c.leaf_at.ensures.alters c.requires.dir in
    let look = looked m n c.args.dir dir.pair.is_pinned c.has_place.ensures.looks in
    let both = alters_joins first c.leaf_at.ensures.alters look in
    let whole = g.met.B.Blocks.keeps_all c.args.on.now c.has_place.new.on (g.met.B.Blocks.keeps_joins c.args.on.now c.leaf_at.new.on c.has_place.new.on c.leaf_at.ensures.keeps c.has_place.ensures.keeps) in
    let y = c.move_to.ensures.stays in
    let t = g.B.Blocks.state y.0 in
    let u = g.B.Blocks.state c.move_to.new.on in
    let to_t = g.met.B.Blocks.keeps_all c.args.on.now y.0 (g.met.B.Blocks.keeps_joins c.args.on.now c.has_place.new.on y.0 (g.met.B.Blocks.keeps_joins c.args.on.now c.leaf_at.new.on c.has_place.new.on c.leaf_at.ensures.keeps c.has_place.ensures.keeps) y.2) in
    let to_u = g.met.B.Blocks.keeps_all y.0 c.move_to.new.on y.3 in
    dir_over s t u c.args.dir (IsLeafOf c.args.dir t) to_t to_u (alters_joins whole both y.1) y.4 c.requires.dir

pub returns-in-Ok-move_to-clause-entries : goal.returns-in-Ok-move_to-clause-entries
returns-in-Ok-move_to-clause-entries g c =
    let s = g.B.Blocks.state c.args.on.now in
    let m = g.B.Blocks.state c.leaf_at.new.on in
    let n = g.B.Blocks.state c.has_place.new.on in
    let first = g.met.B.Blocks.keeps_all c.args.on.now c.leaf_at.new.on c.leaf_at.ensures.keeps in
    let second = g.met.B.Blocks.keeps_all c.leaf_at.new.on c.has_place.new.on c.has_place.ensures.keeps in
    let dir = dir_readied c.args.dir first c.leaf_at.ensures.alters c.requires.dir in
    let look = looked m n c.args.dir dir.pair.is_pinned c.has_place.ensures.looks in
    let both = alters_joins first c.leaf_at.ensures.alters look in
    let whole = g.met.B.Blocks.keeps_all c.args.on.now c.has_place.new.on (g.met.B.Blocks.keeps_joins c.args.on.now c.leaf_at.new.on c.has_place.new.on c.leaf_at.ensures.keeps c.has_place.ensures.keeps) in
    let y = c.move_to.ensures.stays in
    let t = g.B.Blocks.state y.0 in
    let u = g.B.Blocks.state c.move_to.new.on in
    let to_t = g.met.B.Blocks.keeps_all c.args.on.now y.0 (g.met.B.Blocks.keeps_joins c.args.on.now c.has_place.new.on y.0 (g.met.B.Blocks.keeps_joins c.args.on.now c.leaf_at.new.on c.has_place.new.on c.leaf_at.ensures.keeps c.has_place.ensures.keeps) y.2) in
    let to_u = g.met.B.Blocks.keeps_all y.0 c.move_to.new.on y.3 in
    entries_over s t u c.args.dir (IsLeafOf c.args.dir t) to_t to_u (alters_joins whole both y.1) y.4

pub returns-in-Ok-move_to-clause-keeps : goal.returns-in-Ok-move_to-clause-keeps
returns-in-Ok-move_to-clause-keeps g c =
    g.met.B.Blocks.keeps_joins c.args.on.now c.has_place.new.on c.move_to.new.on (g.met.B.Blocks.keeps_joins c.args.on.now c.leaf_at.new.on c.has_place.new.on c.leaf_at.ensures.keeps c.has_place.ensures.keeps) c.move_to.ensures.keeps

pub returns-in-Ok-move_to-clause-spare : goal.returns-in-Ok-move_to-clause-spare
returns-in-Ok-move_to-clause-spare g c =
    let s = g.B.Blocks.state c.args.on.now in
    let m = g.B.Blocks.state c.leaf_at.new.on in
    let n = g.B.Blocks.state c.has_place.new.on in
    let first = g.met.B.Blocks.keeps_all c.args.on.now c.leaf_at.new.on c.leaf_at.ensures.keeps in
    let dir = dir_readied c.args.dir first c.leaf_at.ensures.alters c.requires.dir in
    let told = size_kept m n c.args.dir dir c.has_place.ensures.looks ∙ c.in-Ok.ensures.same refl in
    took_both (records_size s c.args.dir) (records_size n c.args.dir) s.spare m.spare n.spare (g.B.Blocks.state c.move_to.new.on).spare told (c.leaf_at.ensures.fewer refl) c.has_place.ensures.looks.room.0 c.move_to.ensures.spare

pub returns-in-Ok-move_to-clause-pins : goal.returns-in-Ok-move_to-clause-pins
returns-in-Ok-move_to-clause-pins g c =
    let took = c.leaf_at.ensures.pins in let same = c.has_place.ensures.pins in let last = c.move_to.ensures.pins in omega (arith, took, same, last)

pub returns-in-Ok-move_to-clause-room : goal.returns-in-Ok-move_to-clause-room
returns-in-Ok-move_to-clause-room g c =
    let took = c.leaf_at.ensures.room in let same = c.has_place.ensures.looks.room.1 in let last = c.move_to.ensures.room in omega (arith, took, same, last)

pub returns-in-Err-move_to-clause-stays : goal.returns-in-Err-move_to-clause-stays
returns-in-Err-move_to-clause-stays g c =
    let s = g.B.Blocks.state c.args.on.now in
    let m = g.B.Blocks.state c.leaf_at.new.on in
    let n = g.B.Blocks.state c.has_place.new.on in
    let first = g.met.B.Blocks.keeps_all c.args.on.now c.leaf_at.new.on c.leaf_at.ensures.keeps in
    let second = g.met.B.Blocks.keeps_all c.leaf_at.new.on c.has_place.new.on c.has_place.ensures.keeps in
    let dir = dir_readied c.args.dir first c.leaf_at.ensures.alters c.requires.dir in
    let look = looked m n c.args.dir dir.pair.is_pinned c.has_place.ensures.looks in
    let both = alters_joins first c.leaf_at.ensures.alters look in
    let whole = g.met.B.Blocks.keeps_all c.args.on.now c.has_place.new.on (g.met.B.Blocks.keeps_joins c.args.on.now c.leaf_at.new.on c.has_place.new.on c.leaf_at.ensures.keeps c.has_place.ensures.keeps) in
    let y = c.move_to.ensures.stays in
    (y.0, alters_joins whole both y.1, g.met.B.Blocks.keeps_joins c.args.on.now c.has_place.new.on y.0 (g.met.B.Blocks.keeps_joins c.args.on.now c.leaf_at.new.on c.has_place.new.on c.leaf_at.ensures.keeps c.has_place.ensures.keeps) y.2, y.3, y.4)

pub returns-in-Err-move_to-clause-dir : goal.returns-in-Err-move_to-clause-dir
returns-in-Err-move_to-clause-dir g c =
    let s = g.B.Blocks.state c.args.on.now in
    let m = g.B.Blocks.state c.leaf_at.new.on in
    let n = g.B.Blocks.state c.has_place.new.on in
    let first = g.met.B.Blocks.keeps_all c.args.on.now c.leaf_at.new.on c.leaf_at.ensures.keeps in
    let second = g.met.B.Blocks.keeps_all c.leaf_at.new.on c.has_place.new.on c.has_place.ensures.keeps in
    let dir = dir_readied c.args.dir first c.leaf_at.ensures.alters c.requires.dir in
    let look = looked m n c.args.dir dir.pair.is_pinned c.has_place.ensures.looks in
    let both = alters_joins first c.leaf_at.ensures.alters look in
    let whole = g.met.B.Blocks.keeps_all c.args.on.now c.has_place.new.on (g.met.B.Blocks.keeps_joins c.args.on.now c.leaf_at.new.on c.has_place.new.on c.leaf_at.ensures.keeps c.has_place.ensures.keeps) in
    let y = c.move_to.ensures.stays in
    let t = g.B.Blocks.state y.0 in
    let u = g.B.Blocks.state c.move_to.new.on in
    let to_t = g.met.B.Blocks.keeps_all c.args.on.now y.0 (g.met.B.Blocks.keeps_joins c.args.on.now c.has_place.new.on y.0 (g.met.B.Blocks.keeps_joins c.args.on.now c.leaf_at.new.on c.has_place.new.on c.leaf_at.ensures.keeps c.has_place.ensures.keeps) y.2) in
    let to_u = g.met.B.Blocks.keeps_all y.0 c.move_to.new.on y.3 in
    dir_over s t u c.args.dir (IsLeafOf c.args.dir t) to_t to_u (alters_joins whole both y.1) y.4 c.requires.dir

pub returns-in-Err-move_to-clause-entries : goal.returns-in-Err-move_to-clause-entries
returns-in-Err-move_to-clause-entries g c =
    let s = g.B.Blocks.state c.args.on.now in
    let m = g.B.Blocks.state c.leaf_at.new.on in
    let n = g.B.Blocks.state c.has_place.new.on in
    let first = g.met.B.Blocks.keeps_all c.args.on.now c.leaf_at.new.on c.leaf_at.ensures.keeps in
    let second = g.met.B.Blocks.keeps_all c.leaf_at.new.on c.has_place.new.on c.has_place.ensures.keeps in
    let dir = dir_readied c.args.dir first c.leaf_at.ensures.alters c.requires.dir in
    let look = looked m n c.args.dir dir.pair.is_pinned c.has_place.ensures.looks in
    let both = alters_joins first c.leaf_at.ensures.alters look in
    let whole = g.met.B.Blocks.keeps_all c.args.on.now c.has_place.new.on (g.met.B.Blocks.keeps_joins c.args.on.now c.leaf_at.new.on c.has_place.new.on c.leaf_at.ensures.keeps c.has_place.ensures.keeps) in
    let y = c.move_to.ensures.stays in
    let t = g.B.Blocks.state y.0 in
    let u = g.B.Blocks.state c.move_to.new.on in
    let to_t = g.met.B.Blocks.keeps_all c.args.on.now y.0 (g.met.B.Blocks.keeps_joins c.args.on.now c.has_place.new.on y.0 (g.met.B.Blocks.keeps_joins c.args.on.now c.leaf_at.new.on c.has_place.new.on c.leaf_at.ensures.keeps c.has_place.ensures.keeps) y.2) in
    let to_u = g.met.B.Blocks.keeps_all y.0 c.move_to.new.on y.3 in
    entries_over s t u c.args.dir (IsLeafOf c.args.dir t) to_t to_u (alters_joins whole both y.1) y.4

pub returns-in-Err-move_to-clause-keeps : goal.returns-in-Err-move_to-clause-keeps
returns-in-Err-move_to-clause-keeps g c =
    g.met.B.Blocks.keeps_joins c.args.on.now c.has_place.new.on c.move_to.new.on (g.met.B.Blocks.keeps_joins c.args.on.now c.leaf_at.new.on c.has_place.new.on c.leaf_at.ensures.keeps c.has_place.ensures.keeps) c.move_to.ensures.keeps

pub returns-in-Err-move_to-clause-spare : goal.returns-in-Err-move_to-clause-spare
returns-in-Err-move_to-clause-spare g c =
    let s = g.B.Blocks.state c.args.on.now in
    let m = g.B.Blocks.state c.leaf_at.new.on in
    let n = g.B.Blocks.state c.has_place.new.on in
    let first = g.met.B.Blocks.keeps_all c.args.on.now c.leaf_at.new.on c.leaf_at.ensures.keeps in
    let dir = dir_readied c.args.dir first c.leaf_at.ensures.alters c.requires.dir in
    let told = size_kept m n c.args.dir dir c.has_place.ensures.looks ∙ c.in-Ok.ensures.same refl in
    took_both (records_size s c.args.dir) (records_size n c.args.dir) s.spare m.spare n.spare (g.B.Blocks.state c.move_to.new.on).spare told (c.leaf_at.ensures.fewer refl) c.has_place.ensures.looks.room.0 c.move_to.ensures.spare

pub returns-in-Err-move_to-clause-pins : goal.returns-in-Err-move_to-clause-pins
returns-in-Err-move_to-clause-pins g c =
    let took = c.leaf_at.ensures.pins in let same = c.has_place.ensures.pins in let last = c.move_to.ensures.pins in omega (arith, took, same, last)

pub returns-in-Err-move_to-clause-room : goal.returns-in-Err-move_to-clause-room
returns-in-Err-move_to-clause-room g c =
    let took = c.leaf_at.ensures.room in let same = c.has_place.ensures.looks.room.1 in let last = c.move_to.ensures.room in omega (arith, took, same, last)

pub returns-in-Ok-move_to-clause-steps : goal.returns-in-Ok-move_to-clause-steps
returns-in-Ok-move_to-clause-steps g c =
    let s = g.B.Blocks.state c.args.on.now in
    let m = g.B.Blocks.state c.leaf_at.new.on in
    let n = g.B.Blocks.state c.has_place.new.on in
    let first = g.met.B.Blocks.keeps_all c.args.on.now c.leaf_at.new.on c.leaf_at.ensures.keeps in
    let second = g.met.B.Blocks.keeps_all c.leaf_at.new.on c.has_place.new.on c.has_place.ensures.keeps in
    let dir = dir_readied c.args.dir first c.leaf_at.ensures.alters c.requires.dir in
    let look = looked m n c.args.dir dir.pair.is_pinned c.has_place.ensures.looks in
    let both = alters_joins first c.leaf_at.ensures.alters look in
    let own = c.in-Ok.ensures.own in
    let r = c.in-Ok.ensures.readied in
    let q = c.in-Ok-move_to.ensures.steps in
    let same = (c.has_place.ensures.looks.known c.in-Ok.from own.is_pinned).bytes in
    inr (record {
      from = c.in-Ok.from;
      looked = r.0;
      readied = c.leaf_at.new.on;
      ready = r.1;
      moves = record {
        trimmed = q.trimmed;
        trims = alters_joins second look q.trims;
        looked = q.looked;
        readied = q.readied;
        ready = q.ready;
        read = q.read;
        looks = q.looks;
        moved = moved_as same refl q.moved;
        stays = q.stays;
      };
    })

pub returns-in-Err-move_to-clause-nothing : goal.returns-in-Err-move_to-clause-nothing
returns-in-Err-move_to-clause-nothing g c =
    let s = g.B.Blocks.state c.args.on.now in
    let m = g.B.Blocks.state c.leaf_at.new.on in
    let n = g.B.Blocks.state c.has_place.new.on in
    let first = g.met.B.Blocks.keeps_all c.args.on.now c.leaf_at.new.on c.leaf_at.ensures.keeps in
    let second = g.met.B.Blocks.keeps_all c.leaf_at.new.on c.has_place.new.on c.has_place.ensures.keeps in
    let dir = dir_readied c.args.dir first c.leaf_at.ensures.alters c.requires.dir in
    let look = looked m n c.args.dir dir.pair.is_pinned c.has_place.ensures.looks in
    let both = alters_joins first c.leaf_at.ensures.alters look in
    let whole = g.met.B.Blocks.keeps_all c.args.on.now c.has_place.new.on (g.met.B.Blocks.keeps_joins c.args.on.now c.leaf_at.new.on c.has_place.new.on c.leaf_at.ensures.keeps c.has_place.ensures.keeps) in
    let y = c.in-Err-move_to.ensures.nothing in
    (y.0, alters_joins whole both y.1, y.2)

pub returns-in-Err-move_to-clause-cause : goal.returns-in-Err-move_to-clause-cause
returns-in-Err-move_to-clause-cause g c =
    let s = g.B.Blocks.state c.args.on.now in
    let m = g.B.Blocks.state c.leaf_at.new.on in
    let n = g.B.Blocks.state c.has_place.new.on in
    let first = g.met.B.Blocks.keeps_all c.args.on.now c.leaf_at.new.on c.leaf_at.ensures.keeps in
    let second = g.met.B.Blocks.keeps_all c.leaf_at.new.on c.has_place.new.on c.has_place.ensures.keeps in
    let dir = dir_readied c.args.dir first c.leaf_at.ensures.alters c.requires.dir in
    let look = looked m n c.args.dir dir.pair.is_pinned c.has_place.ensures.looks in
    let both = alters_joins first c.leaf_at.ensures.alters look in
    let whole = g.met.B.Blocks.keeps_all c.args.on.now c.has_place.new.on (g.met.B.Blocks.keeps_joins c.args.on.now c.leaf_at.new.on c.has_place.new.on c.leaf_at.ensures.keeps c.has_place.ensures.keeps) in
    failed_since s n (g.B.Blocks.state c.move_to.new.on) whole (g.met.B.Blocks.keeps_all c.has_place.new.on c.move_to.new.on c.move_to.ensures.keeps) c.in-Err-move_to.why c.in-Err-move_to.ensures.cause

pub returns-in-Err-clause-dirties_refused : goal.returns-in-Err-clause-dirties_refused
returns-in-Err-clause-dirties_refused g c = adds_idle 22 first_of (dirties_looks (g.met.B.Blocks.keeps_all c.args.on.now c.leaf_at.new.on c.leaf_at.ensures.keeps) c.in-Err.ensures.nothing)

pub returns-in-Err-has_place-clause-dirties_refused : goal.returns-in-Err-has_place-clause-dirties_refused
returns-in-Err-has_place-clause-dirties_refused g c = adds_more (way_few (records_size (g.B.Blocks.state c.args.on.now) c.args.dir)) (adds_given first_of (adds_still (c.in-Ok.ensures.dirties_fewer refl) (dirties_looks (g.met.B.Blocks.keeps_all c.leaf_at.new.on c.has_place.new.on c.has_place.ensures.keeps) c.has_place.ensures.looks)))

pub returns-then-fits-clause-dirties : goal.returns-then-fits-clause-dirties
returns-then-fits-clause-dirties g c = adds_more (way_few (records_size (g.B.Blocks.state c.args.on.now) c.args.dir)) (adds_still (c.in-Ok.ensures.dirties_fewer refl) (dirties_looks (g.met.B.Blocks.keeps_all c.leaf_at.new.on c.has_place.new.on c.has_place.ensures.keeps) c.has_place.ensures.looks))

pub returns-in-Ok-move_to-clause-dirties : goal.returns-in-Ok-move_to-clause-dirties
returns-in-Ok-move_to-clause-dirties g c =
    let s = g.B.Blocks.state c.args.on.now in
    let m = g.B.Blocks.state c.leaf_at.new.on in
    let n = g.B.Blocks.state c.has_place.new.on in
    let first = g.met.B.Blocks.keeps_all c.args.on.now c.leaf_at.new.on c.leaf_at.ensures.keeps in
    let dir = dir_readied c.args.dir first c.leaf_at.ensures.alters c.requires.dir in
    let told = size_kept m n c.args.dir dir c.has_place.ensures.looks ∙ c.in-Ok.ensures.same refl in
    adds_more (few_both (records_size s c.args.dir) (records_size n c.args.dir) told) (adds_joins (adds_still (c.in-Ok.ensures.dirties_fewer refl) (dirties_looks (g.met.B.Blocks.keeps_all c.leaf_at.new.on c.has_place.new.on c.has_place.ensures.keeps) c.has_place.ensures.looks)) c.in-Ok-move_to.ensures.dirties (cons_of (next_of first_of) (cons_of first_of none_of)))

pub returns-in-Err-move_to-clause-dirties_refused : goal.returns-in-Err-move_to-clause-dirties_refused
returns-in-Err-move_to-clause-dirties_refused g c =
    let s = g.B.Blocks.state c.args.on.now in
    let m = g.B.Blocks.state c.leaf_at.new.on in
    let n = g.B.Blocks.state c.has_place.new.on in
    let first = g.met.B.Blocks.keeps_all c.args.on.now c.leaf_at.new.on c.leaf_at.ensures.keeps in
    let dir = dir_readied c.args.dir first c.leaf_at.ensures.alters c.requires.dir in
    let told = size_kept m n c.args.dir dir c.has_place.ensures.looks ∙ c.in-Ok.ensures.same refl in
    adds_more (few_both (records_size s c.args.dir) (records_size n c.args.dir) told) (adds_joins (adds_still (c.in-Ok.ensures.dirties_fewer refl) (dirties_looks (g.met.B.Blocks.keeps_all c.leaf_at.new.on c.has_place.new.on c.has_place.ensures.keeps) c.has_place.ensures.looks)) c.in-Err-move_to.ensures.dirties_refused (cons_of (next_of first_of) (cons_of first_of none_of)))
