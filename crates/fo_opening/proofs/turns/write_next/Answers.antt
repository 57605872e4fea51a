use Rattle.std.proofs.Common.{[], refl, arith}
use Rattle.fo_mind.specs.MindParts.{parts}
use Rattle.fo_cache.proofs.Lessening.{next_work, written_less}
use Rattle.fo_cache.proofs.Settling.{wrote_settles}
use Rattle.fo_opening.proofs.turns.write_next.Goals as goal

pub write_turn-requires-clause-room : goal.write_turn-requires-clause-room
write_turn-requires-clause-room g c = λ h. absurd (c.requires.free c.args.at h)

pub returns-in_default-clause-settles : goal.returns-in_default-clause-settles
returns-in_default-clause-settles g c =
    let old = c.args.cache.now in
    let new = c.write_turn.new.self in
    wrote_settles (g.D.Disk.state old.main) (g.D.Disk.state new.main) (parts old.mind [] 0) (parts new.mind [] 0) c.args.at old.mind.placed old.mind.turning c.requires.next.dirty c.write_turn.result c.write_turn.ensures.wrote

pub returns-clause-settles : goal.returns-clause-settles
returns-clause-settles g c =
    let old = c.args.cache.now in
    let new = c.write_turn.new.self in
    wrote_settles (g.D.Disk.state old.main) (g.D.Disk.state new.main) (parts old.mind [] 0) (parts new.mind [] 0) c.args.at old.mind.placed old.mind.turning c.requires.next.dirty c.write_turn.result c.write_turn.ensures.wrote

pub returns-clause-less : goal.returns-clause-less
returns-clause-less g c =
    let p = parts c.args.cache.now.mind [] 0 in
    written_less p p (parts c.write_turn.new.self.mind [] 0) c.args.at (record { more = omega arith; rest = refl }) c.requires.next c.in-Ok.ensures.wrote.landed

pub returns-in_default-clause-calls : goal.returns-in_default-clause-calls
returns-in_default-clause-calls g c =
    let e = c.write_turn.ensures.calls in
    let some = next_work (parts c.args.cache.now.mind [] 0) c.args.at c.requires.next in
    omega (arith, e, some)

pub returns-clause-calls : goal.returns-clause-calls
returns-clause-calls g c =
    let e = c.write_turn.ensures.calls in
    let some = next_work (parts c.args.cache.now.mind [] 0) c.args.at c.requires.next in
    omega (arith, e, some)

pub returns-clause-spent : goal.returns-clause-spent
returns-clause-spent g c =
    let e = c.write_turn.ensures.calls in
    let less = returns-clause-less g c in
    omega (arith, e, less)
