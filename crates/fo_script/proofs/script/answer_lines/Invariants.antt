use Rattle.std.proofs.Common.{◌≡◌, ◌≤◌, ◌+◌, ◌*◌, length, take, None}
use Rattle.fo_world.specs.Answers.{NotFewer}
use Rattle.fo_script.specs.Script.{line_end}
use Rattle.fo_script_line.specs.Answering.{standing}
use Rattle.fo_script.proofs.Going.{Going}
use Rattle.fo_script.proofs.script.answer_lines.Given as goal

abbrev pub invariant-lines : goal.invariant-lines
invariant-lines g l = record {
  going : Going g.T.Turner.goes (standing l.fn.kept l.fn.on) (standing l.kept l.on) (g.S.Source.left l.fn.input) (g.S.Source.left l.input) (g.K.Sink.held l.fn.out) (g.K.Sink.held l.out) l.inbox l.place;
  bound : l.place + length l.inbox + g.S.Source.room l.input ≡ g.S.Source.room l.fn.input;
  input_later : g.S.Source.faults l.fn.input ≤ g.S.Source.faults l.input;
  output_later : g.K.Sink.faults l.fn.out ≤ g.K.Sink.faults l.out;
  later : NotFewer (g.T.Turner.faults l.fn.on) (g.T.Turner.faults l.on);
  within : l.seen ≤ length l.inbox;
  none : line_end (take l.seen l.inbox) ≡ None;
}

-- each round takes a byte from the source, or uses up bytes that wait
abbrev pub decreases-lines : goal.decreases-lines
decreases-lines g l = 2 * g.S.Source.room l.input + length l.inbox
