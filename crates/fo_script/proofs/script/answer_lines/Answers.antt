use Rattle.std.proofs.Common.{◌≡◌, ◌+◌, List, ◌++◌, ℕ, Some, None, Err, subst, take, length, arith, ap, sym, ◌∙◌}
use Rattle.std.proofs.lemmas.List.{length-drop, length-append, nil_from_length, append-nil}
use Rattle.fo_script.specs.Script.{line_end}
use Rattle.fo_script_line.specs.Answering.{Answered, standing}
use Rattle.fo_script_line.proofs.Letting.{not_fewer_then, not_fewer_same}
use Rattle.fo_script.proofs.Newlines.{end_within, end_none, seen_stays}
use Rattle.fo_script.proofs.Going.{going_starts, going_fills, going_answers, ends_early, ends_stopped, ends_unread, ends_long, ends_at}
use Rattle.fo_script.proofs.script.answer_lines.Goals as goal

pub returns-in_default-clause-stops : goal.returns-in_default-clause-stops
returns-in_default-clause-stops g c = ends_early _ _ _ _ _ _ _ _ _ (going_starts g.T.Turner.goes (standing c.args.kept.now c.args.on.now) (g.S.Source.left c.args.input.now) (g.K.Sink.held c.args.out.now))

pub lines-init : goal.lines-init
lines-init g c = record {
  going = rw c.in-Ok.ensures (going_starts _ _ _ _);
  bound = rw c.in-Ok.ensures (omega arith);
  input_later = omega arith;
  output_later = omega arith;
  later = not_fewer_same _;
  within = omega arith;
  none = end_none c.in-Ok.inbox;
}

pub returns-in-Err-clause-stops : goal.returns-in-Err-clause-stops
returns-in-Err-clause-stops g c =
    let ends : line_end c.lines.inbox ≡ Some c.in-Some.end = rw (← c.waiting-waiting.ensures) (sym c.newline_after.ensures.is ∙ c.in-Some.is) in
    let answered = subst (λ (w : List ℕ). Answered g.T.Turner.goes (standing c.lines.kept c.lines.on) (take c.in-Some.end w) (standing c.answer_line.new.kept c.answer_line.new.on) (g.K.Sink.held c.lines.out) (g.K.Sink.held c.answer_line.new.out) (Err c.in-Err.stop)) c.waiting-waiting.ensures c.in-Err.ensures.answered in
    rw c.end_of.ensures (ends_stopped _ _ _ _ _ _ _ _ _ c.lines.inbox c.lines.place c.in-Some.end c.in-Err.stop c.lines.invariant.going ends answered)

pub lines-preserved-in-Some : goal.lines-preserved-in-Some
lines-preserved-in-Some g c =
    let ends : line_end c.lines.inbox ≡ Some c.in-Some.end = rw (← c.waiting-waiting.ensures) (sym c.newline_after.ensures.is ∙ c.in-Some.is) in
    let answered = rw c.waiting-waiting.ensures at c.in-Ok-answer_line.ensures.answered in
    let within = end_within c.lines.inbox c.in-Some.end ends in
    record {
      going = rw c.consume.ensures (going_answers _ _ _ _ _ _ _ _ _ c.lines.inbox c.lines.place c.in-Some.end c.lines.invariant.going ends answered.0 answered.1);
      bound = omega (arith, c.lines.invariant.bound, within, ap length c.consume.ensures, length-drop (c.in-Some.end + 1) c.lines.inbox);
      input_later = c.lines.invariant.input_later;
      output_later = omega arith;
      later = not_fewer_then _ _ _ c.lines.invariant.later c.in-Ok-answer_line.ensures.later;
      within = omega arith;
      none = end_none c.consume.new.self;
    }

pub returns-in-None-clause-stops : goal.returns-in-None-clause-stops
returns-in-None-clause-stops g c =
    let none : line_end c.lines.inbox ≡ None = rw (← c.waiting-waiting.ensures) (sym c.newline_after.ensures.is ∙ c.in-None.is) in
    ends_long _ _ _ _ _ _ _ c.lines.inbox c.lines.place c.lines.invariant.going none (omega (arith, ap length c.waiting-waiting.ensures, c.if-waiting-gt-LONGEST_LINE.true))

pub returns-in-Ok-eq0-clause-stops : goal.returns-in-Ok-eq0-clause-stops
returns-in-Ok-eq0-clause-stops g c =
    let none : line_end c.lines.inbox ≡ None = rw (← c.waiting-waiting.ensures) (sym c.newline_after.ensures.is ∙ c.in-None.is) in
    let filled = c.in-Ok-eq0.ensures.filled in
    let zero : c.in-Ok-eq0.field-0 ≡ 0 = c.in-Ok-eq0.field-0-test in
    let still : c.fill.new.self ≡ c.lines.inbox = filled.gained ∙ ap (λ (came : List ℕ). c.lines.inbox ++ came) (nil_from_length filled.came (omega (arith, filled.count, zero))) ∙ append-nil c.lines.inbox in
    let going = going_fills _ _ _ _ _ _ _ _ _ _ _ _ _ _ c.lines.invariant.going filled in
    rw (c.end_of_input.ensures, c.waiting.ensures) (ends_at _ _ _ _ _ _ _ c.fill.new.self c.lines.place going (rw still none) (filled.ended zero))

pub lines-preserved : goal.lines-preserved
lines-preserved g c =
    let filled = c.in-Ok-fill.ensures.filled in
    let none : line_end c.lines.inbox ≡ None = rw (← c.waiting-waiting.ensures) (sym c.newline_after.ensures.is ∙ c.in-None.is) in
    let len = ap length c.waiting-waiting.ensures in
    record {
      going = going_fills _ _ _ _ _ _ _ _ _ _ _ _ _ _ c.lines.invariant.going filled;
      bound = omega (arith, c.lines.invariant.bound, filled.fewer, filled.count, ap length filled.gained, length-append c.lines.inbox filled.came);
      input_later = omega arith;
      output_later = c.lines.invariant.output_later;
      later = c.lines.invariant.later;
      within = omega (arith, len, ap length filled.gained, length-append c.lines.inbox filled.came);
      none = seen_stays c.lines.inbox filled.came _ _ len filled.gained none;
    }

pub returns-in-Err-fill-clause-stops : goal.returns-in-Err-fill-clause-stops
returns-in-Err-fill-clause-stops g c =
    let none : line_end c.lines.inbox ≡ None = rw (← c.waiting-waiting.ensures) (sym c.newline_after.ensures.is ∙ c.in-None.is) in
    let f = c.in-Err-fill.ensures.filled in
    rw f.left_stays (ends_unread _ _ _ _ _ _ _ _ _ c.lines.invariant.going none (omega (arith, ap length c.waiting-waiting.ensures, c.if-waiting-gt-LONGEST_LINE.false)))

pub newline_after-requires-clause-within : goal.newline_after-requires-clause-within
newline_after-requires-clause-within g c = omega (arith, ap length c.waiting-waiting.ensures, c.lines.invariant.within)

pub newline_after-requires-clause-none : goal.newline_after-requires-clause-none
newline_after-requires-clause-none g c = rw c.waiting-waiting.ensures c.lines.invariant.none
