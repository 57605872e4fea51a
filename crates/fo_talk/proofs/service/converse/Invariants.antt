use Rattle.std.proofs.Common.{◌≡◌, ◌≤◌, ◌+◌, ◌*◌, length}
use Rattle.nine_wire.specs.Version.{largest_message}
use Rattle.fo_world.specs.Answers.{NotFewer}
use Rattle.fo_talk.proofs.Going.{Owing}
use Rattle.fo_talk.proofs.service.converse.Given as goal

abbrev pub invariant-messages : goal.invariant-messages
invariant-messages g l = record {
  owing : Owing g.M.Machine.goes (record { limit = largest_message; position = record { clock = g.C.Clock.coming l.fn.clock; state = l.fn.machine; faults = g.M.Machine.faults l.fn.machine } }) (record { limit = l.limit; position = record { clock = g.C.Clock.coming l.clock; state = l.machine; faults = g.M.Machine.faults l.machine } }) (g.S.Source.left l.fn.input) (g.S.Source.left l.input) (g.K.Sink.held l.fn.out) (g.K.Sink.held l.out) l.replies.items l.inbox l.place;
  bound : l.place + length l.inbox + g.S.Source.room l.input ≡ g.S.Source.room l.fn.input;
  small : l.limit ≤ largest_message;
  later : NotFewer (g.M.Machine.faults l.fn.machine) (g.M.Machine.faults l.machine);
  input_later : g.S.Source.faults l.fn.input ≤ g.S.Source.faults l.input;
  output_later : g.K.Sink.faults l.fn.out ≤ g.K.Sink.faults l.out;
}

-- each turn takes a byte from the source, or uses up bytes that wait
abbrev pub decreases-messages : goal.decreases-messages
decreases-messages g l = 2 * g.S.Source.room l.input + length l.inbox
