use Rattle.std.proofs.Common.{◌∙◌, arith}
use Rattle.fo_gate.proofs.Keeps.{readings}
use Rattle.fo_gate.proofs.Calls.{reads_as}
use Rattle.fo_gate.proofs.gate.Gate.epochs.Goals as goal

pub load-word-requires : goal.load-word-requires
load-word-requires g c = (c.requires.gate, (let w = c.args.self.now.sized.0 in omega arith), readings _ _ _ c.args.self.now.table.shared.key _ _ _ c.args.seat.now.idle.1.1)

pub returns-clause-seat : goal.returns-clause-seat
returns-clause-seat g c =
    record { gate = c.load-word.ensures.0 ∙ c.requires.gate; knows = (reads_as g.S.Turned.turns g.S.Turned.low g.S.Turned.high _ _ _ c.args.seat.now.inner.me c.load-word.new.seat.me c.requires.knows c.load-word.ensures.2).1 }

pub returns-clause-read : goal.returns-clause-read
returns-clause-read g c = (reads_as g.S.Turned.turns g.S.Turned.low g.S.Turned.high _ _ _ c.args.seat.now.inner.me c.load-word.new.seat.me c.requires.knows c.load-word.ensures.2).0
