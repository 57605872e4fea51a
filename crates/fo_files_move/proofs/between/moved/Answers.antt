use Rattle.std.proofs.Common.{◌≡◌, ◌⊎◌, ◌+◌, ◌≤◌, ℕ, sym, subst, ap, arith}
use Rattle.fo_files_record.specs.Stays.{Rewrites, no_slot}
use Rattle.fo_files_record.proofs.Rewriting.{rewrites_same, by_cases}
use Rattle.fo_files_record.proofs.Owned.{entries_stay, settle_failed}
use Rattle.fo_files_move.proofs.Moving.{rewrites_moves, are_ready, leaf_was}
use Rattle.fo_files_move.proofs.between.moved.Goals as goal

pub move_record-requires-clause-ready : goal.move_record-requires-clause-ready
move_record-requires-clause-ready g c = are_ready c.args.from c.args.to c.args.entries c.requires.silent (λ h. g.met.B.Blocks.covers_told c.args.on.now c.args.entries h) c.requires.from c.requires.to c.requires.entries

pub move_record-requires-clause-may : goal.move_record-requires-clause-may
move_record-requires-clause-may g c = λ told. absurd (c.requires.silent told)

pub returns-in-Ok-clause-moved : goal.returns-in-Ok-clause-moved
returns-in-Ok-clause-moved g c = λ fits. let e = c.in-Ok.ensures.moved fits in record { was_from = leaf_was c.requires.from_bytes.1 c.requires.from_bytes.0; was_to = leaf_was c.requires.to_bytes.1 c.requires.to_bytes.0; moved = c.args.named.now; first = c.requires.first; taken = e.0; added = e.1 }

pub returns-in-Ok-clause-full : goal.returns-in-Ok-clause-full
returns-in-Ok-clause-full g c = λ full. let e = c.in-Ok.ensures.full full in (record { was_from = leaf_was c.requires.from_bytes.1 c.requires.from_bytes.0; was_to = leaf_was c.requires.to_bytes.1 c.requires.to_bytes.0; moved = c.args.named.now; first = c.requires.first; full = e.0 }, e.1)

pub returns-in-Ok-clause-from : goal.returns-in-Ok-clause-from
returns-in-Ok-clause-from g c = record { is_one = ((g.met.B.Blocks.keeps_all c.args.on.now c.move_record.new.on c.move_record.ensures.keeps).same_blocks c.args.from).1 c.requires.from.is_one; owned = c.move_record.ensures.ready.from_owned }

pub returns-in-Ok-clause-to : goal.returns-in-Ok-clause-to
returns-in-Ok-clause-to g c = record { is_one = ((g.met.B.Blocks.keeps_all c.args.on.now c.move_record.new.on c.move_record.ensures.keeps).same_blocks c.args.to).1 c.requires.to.is_one; owned = c.move_record.ensures.ready.to_owned }

pub returns-in-Ok-clause-rewrites : goal.returns-in-Ok-clause-rewrites
returns-in-Ok-clause-rewrites g c =
    let s = g.B.Blocks.state c.args.on.now in
    let leaves : ℕ → Type 0 = λ b. (b ≡ c.args.from) ⊎ (b ≡ c.args.to) in
    by_cases c.in-Ok.fits (Rewrites leaves no_slot s (g.B.Blocks.state c.move_record.new.on))
    (λ fits. rewrites_moves c.args.from c.args.to (c.in-Ok.ensures.alone.0 fits))
    (λ full. subst (λ b. Rewrites leaves no_slot s (g.B.Blocks.state b)) (sym (c.in-Ok.ensures.full full).1) (rewrites_same s leaves no_slot))

pub returns-in-Ok-clause-entries : goal.returns-in-Ok-clause-entries
returns-in-Ok-clause-entries g c =
    let s = g.B.Blocks.state c.args.on.now in
    let leaves : ℕ → Type 0 = λ b. (b ≡ c.args.from) ⊎ (b ≡ c.args.to) in
    entries_stay c.args.entries (g.met.B.Blocks.keeps_all c.args.on.now c.move_record.new.on c.move_record.ensures.keeps)
    (by_cases c.in-Ok.fits (Rewrites leaves no_slot s (g.B.Blocks.state c.move_record.new.on))
    (λ fits. rewrites_moves c.args.from c.args.to (c.in-Ok.ensures.alone.0 fits))
    (λ full. subst (λ b. Rewrites leaves no_slot s (g.B.Blocks.state b)) (sym (c.in-Ok.ensures.full full).1) (rewrites_same s leaves no_slot)))
    c.requires.entries

one_less : (s u : ℕ) → u + 1 ≡ s → s ≤ u + 1
one_less s u e = omega (arith, e)

none_less : (s u : ℕ) → u ≡ s → s ≤ u + 1
none_less s u e = omega (arith, e)

pub returns-in-Ok-clause-room : goal.returns-in-Ok-clause-room
returns-in-Ok-clause-room g c =
    let s = g.B.Blocks.state c.args.on.now in
    let u = g.B.Blocks.state c.move_record.new.on in
    by_cases c.in-Ok.fits (s.room ≤ u.room + 1)
    (λ fits. one_less s.room u.room (c.in-Ok.ensures.room.0 fits))
    (λ full. none_less s.room u.room (ap (λ b. (g.B.Blocks.state b).room) (c.in-Ok.ensures.full full).1))

pub returns-in-Err-clause-from : goal.returns-in-Err-clause-from
returns-in-Err-clause-from g c = record { is_one = ((g.met.B.Blocks.keeps_all c.args.on.now c.move_record.new.on c.move_record.ensures.keeps).same_blocks c.args.from).1 c.requires.from.is_one; owned = c.move_record.ensures.ready.from_owned }

pub returns-in-Err-clause-to : goal.returns-in-Err-clause-to
returns-in-Err-clause-to g c = record { is_one = ((g.met.B.Blocks.keeps_all c.args.on.now c.move_record.new.on c.move_record.ensures.keeps).same_blocks c.args.to).1 c.requires.to.is_one; owned = c.move_record.ensures.ready.to_owned }

pub returns-in-Err-clause-rewrites : goal.returns-in-Err-clause-rewrites
returns-in-Err-clause-rewrites g c = rewrites_moves c.args.from c.args.to c.in-Err.ensures.alone.1

pub returns-in-Err-clause-entries : goal.returns-in-Err-clause-entries
returns-in-Err-clause-entries g c = entries_stay c.args.entries (g.met.B.Blocks.keeps_all c.args.on.now c.move_record.new.on c.move_record.ensures.keeps) (rewrites_moves c.args.from c.args.to c.in-Err.ensures.alone.1) c.requires.entries

pub returns-in-Err-clause-room : goal.returns-in-Err-clause-room
returns-in-Err-clause-room g c = one_less (g.B.Blocks.state c.args.on.now).room (g.B.Blocks.state c.move_record.new.on).room c.in-Err.ensures.room.1

pub returns-in-Err-clause-cause : goal.returns-in-Err-clause-cause
returns-in-Err-clause-cause g c = settle_failed (g.B.Blocks.state c.args.on.now) (g.B.Blocks.state c.move_record.new.on) c.in-Err.why c.in-Err.ensures.cause
