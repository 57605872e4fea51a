use Rattle.std.proofs.Common.{◌≡◌, ℕ, List, ◌++◌, length, arith, ap, ◌∙◌, refl}
use Rattle.std.proofs.lemmas.List.{length-drop, length-append, nil_from_length, append-nil}
use Rattle.nine_wire.specs.declared.message.Step.TheVariants as step
use Rattle.nine_wire.specs.Message.{request_message}
use Rattle.nine_wire.specs.Stands.{Stands, IsPart, IsFront, step_front}
use Rattle.nine_wire.proofs.Laws.{stands_long}
use Rattle.nine_wire.proofs.Sizes.{request_fits}
use Rattle.nine_wire.specs.Version.{largest_message}
use Rattle.fo_talk.proofs.Entries.{answers_of}
use Rattle.fo_world.specs.Answers.{not_fewer}
use Rattle.fo_talk.proofs.Later.{not_fewer_then}
use Rattle.fo_talk.proofs.Front.{no_message, part_room, still_bad}
use Rattle.fo_talk.proofs.Going.{going_starts, going_fills, going_owes, owing_starts, owing_put, owing_answers, ends_early, ends_unput, ends_unput_late, ends_late, ends_unread, ends_bad, ends_at}
use Rattle.fo_talk.proofs.service.converse.Goals as goal

pub returns-in_default-clause-talk : goal.returns-in_default-clause-talk
returns-in_default-clause-talk g c = ends_early _ _ _ _ _ _ _ _ _ (going_starts g.M.Machine.goes (record { limit = largest_message; position = record { clock = g.C.Clock.coming c.args.clock.now; state = c.args.machine.now; faults = g.M.Machine.faults c.args.machine.now } }) (g.S.Source.left c.args.input.now) (g.K.Sink.held c.args.out.now))

pub messages-init : goal.messages-init
messages-init g c = record {
  owing = owing_starts _ _ _ _ _ _ c.new-replies.ensures.items c.in-Ok.ensures;
  bound = rw c.in-Ok.ensures (omega arith);
  small = omega arith;
  later = not_fewer _;
  input_later = omega arith;
  output_later = omega arith;
}

pub returns-in-Err-Output-clause-talk : goal.returns-in-Err-Output-clause-talk
returns-in-Err-Output-clause-talk g c =
    let a = rw c.in-Err-Output.field-0-is at c.in-Err-Output.ensures.answered in
    let found : Stands c.messages.limit c.messages.inbox c.in-Ok-Msg.tag (request_message c.in-Ok-Msg.request) c.in-Ok-Msg.used = rw (← c.waiting.ensures) (rw c.in-Ok-Msg.field-0-is at c.in-Ok-Msg.ensures.found) in
    let answers = answers_of _ _ _ _ _ _ _ _ _ a.entries found a.makes a.chain refl in
    ends_unput_late _ _ _ _ _ _ _ _ _ _ _ _ _ c.messages.invariant.owing answers a.put

pub returns-in-Err-Memory-clause-talk : goal.returns-in-Err-Memory-clause-talk
returns-in-Err-Memory-clause-talk g c =
    let a = rw c.in-Err-Memory.field-0-is at c.in-Err-Memory.ensures.answered in
    let found : Stands c.messages.limit c.messages.inbox c.in-Ok-Msg.tag (request_message c.in-Ok-Msg.request) c.in-Ok-Msg.used = rw (← c.waiting.ensures) (rw c.in-Ok-Msg.field-0-is at c.in-Ok-Msg.ensures.found) in
    let answers = answers_of _ _ _ _ _ _ _ _ _ a.entries found a.makes a.chain refl in
    ends_unput _ _ _ _ _ _ _ _ _ _ _ (owing_put _ _ _ _ _ _ _ _ _ _ _ c.messages.invariant.owing a.put) answers

pub messages-preserved-in-Ok-Msg : goal.messages-preserved-in-Ok-Msg
messages-preserved-in-Ok-Msg g c =
    let a = c.in-Ok-answer_one.ensures.answered in
    let found : Stands c.messages.limit c.messages.inbox c.in-Ok-Msg.tag (request_message c.in-Ok-Msg.request) c.in-Ok-Msg.used = rw (← c.waiting.ensures) (rw c.in-Ok-Msg.field-0-is at c.in-Ok-Msg.ensures.found) in
    let answers = answers_of _ _ _ _ _ _ _ _ _ a.entries found a.makes a.chain a.limit in
    record {
      owing = rw c.consume.ensures (owing_answers _ _ _ _ _ _ _ _ _ _ _ _ _ _ c.messages.invariant.owing answers a.put);
      bound = omega (arith, c.messages.invariant.bound, found.within, ap length c.consume.ensures, length-drop c.in-Ok-Msg.used c.messages.inbox);
      small = c.in-Ok-answer_one.ensures.small;
      later = not_fewer_then _ _ _ c.messages.invariant.later c.in-Ok-answer_one.ensures.later;
      input_later = omega arith;
      output_later = omega arith;
    }

pub returns-in_default-put_out-clause-talk : goal.returns-in_default-put_out-clause-talk
returns-in_default-put_out-clause-talk g c = ends_late _ _ _ _ _ _ _ _ _ _ _ c.messages.invariant.owing c.in_default-put_out.ensures.puts.1

pub returns-in_default-put_out-2-clause-talk : goal.returns-in_default-put_out-2-clause-talk
returns-in_default-put_out-2-clause-talk g c = ends_late _ _ _ _ _ _ _ _ _ _ _ c.messages.invariant.owing c.in_default-put_out-2.ensures.puts.1

pub returns-in_default-put_out-3-clause-talk : goal.returns-in_default-put_out-3-clause-talk
returns-in_default-put_out-3-clause-talk g c = ends_late _ _ _ _ _ _ _ _ _ _ _ c.messages.invariant.owing c.in_default-put_out-3.ensures.puts.1

pub returns-in-Ok-eq0-clause-talk : goal.returns-in-Ok-eq0-clause-talk
returns-in-Ok-eq0-clause-talk g c =
    let part : IsPart c.messages.limit c.messages.inbox = rw (← c.waiting.ensures) (rw c.in-Ok-More.field-0-is at c.in-Ok-More.ensures.found) in
    let filled = c.in-Ok-eq0.ensures.filled in
    let none : c.in-Ok-eq0.field-0 ≡ 0 = c.in-Ok-eq0.field-0-test in
    let still : c.fill.new.self ≡ c.messages.inbox = filled.gained ∙ ap (λ (came : List ℕ). c.messages.inbox ++ came) (nil_from_length filled.came (omega (arith, filled.count, none))) ∙ append-nil c.messages.inbox in
    let put = owing_put _ _ _ _ _ _ _ _ _ _ _ c.messages.invariant.owing c.in-Ok-put_out.ensures.puts.put in
    let going = going_fills _ _ _ _ _ _ _ _ _ _ _ _ _ _ put filled in
    rw (c.end_of_input.ensures, c.waiting-in-Ok-eq0.ensures) (ends_at _ _ _ _ _ _ _ c.fill.new.self c.messages.place going (rw still (no_message c.messages.limit c.messages.inbox part)) (filled.ended none))

pub messages-preserved : goal.messages-preserved
messages-preserved g c =
    let filled = c.in-Ok-fill.ensures.filled in
    let put = owing_put _ _ _ _ _ _ _ _ _ _ _ c.messages.invariant.owing c.in-Ok-put_out.ensures.puts.put in
    let going = going_fills _ _ _ _ _ _ _ _ _ _ _ _ _ _ put filled in
    record {
      owing = rw c.in-Ok-put_out.ensures.puts.none (going_owes _ _ _ _ _ _ _ _ _ going c.fill.ensures.bound);
      bound = omega (arith, c.messages.invariant.bound, filled.fewer, filled.count, ap length filled.gained, length-append c.messages.inbox filled.came);
      small = c.messages.invariant.small;
      later = c.messages.invariant.later;
      input_later = omega arith;
      output_later = omega arith;
    }

pub returns-in-Err-fill-clause-talk : goal.returns-in-Err-fill-clause-talk
returns-in-Err-fill-clause-talk g c =
    let part : IsPart c.messages.limit c.messages.inbox = rw (← c.waiting.ensures) (rw c.in-Ok-More.field-0-is at c.in-Ok-More.ensures.found) in
    let f = c.in-Err-fill.ensures.filled in
    let put = owing_put _ _ _ _ _ _ _ _ _ _ _ c.messages.invariant.owing c.in-Ok-put_out.ensures.puts.put in
    rw f.left_stays (ends_unread _ _ _ _ _ _ _ _ _ put (no_message c.messages.limit c.messages.inbox part))

pub returns-in-Ok-Bad-clause-talk : goal.returns-in-Ok-Bad-clause-talk
returns-in-Ok-Bad-clause-talk g c =
    let never : IsFront request_message c.messages.limit c.messages.inbox (step_front (step.Bad c.in-Ok-Bad.field-0-0)) = rw (← c.waiting.ensures) (rw c.in-Ok-Bad.field-0-is at c.in-Ok-Bad.ensures.found) in
    let put = owing_put _ _ _ _ _ _ _ _ _ _ _ c.messages.invariant.owing c.in-Ok-put_out-2.ensures.puts.put in
    ends_bad _ _ _ _ _ _ _ _ _ put (λ more e. still_bad c.messages.limit c.messages.inbox more c.in-Ok-Bad.field-0-0 never)

pub returns-in-Err-clause-talk : goal.returns-in-Err-clause-talk
returns-in-Err-clause-talk g c = ends_early _ _ _ _ _ _ _ _ _ (owing_put _ _ _ _ _ _ _ _ _ _ _ c.messages.invariant.owing c.in-Ok-put_out-3.ensures.puts.put)

pub fill-requires : goal.fill-requires
fill-requires g c =
    let part : IsPart c.messages.limit c.messages.inbox = rw (← c.waiting.ensures) (rw c.in-Ok-More.field-0-is at c.in-Ok-More.ensures.found) in
    (omega arith, omega (arith, part_room c.messages.limit c.messages.inbox part c.messages.invariant.small))

pub messages-smaller-in-Ok-Msg : goal.messages-smaller-in-Ok-Msg
messages-smaller-in-Ok-Msg g c =
    let found : Stands c.messages.limit c.messages.inbox c.in-Ok-Msg.tag (request_message c.in-Ok-Msg.request) c.in-Ok-Msg.used = rw (← c.waiting.ensures) (rw c.in-Ok-Msg.field-0-is at c.in-Ok-Msg.ensures.found) in
    let long = stands_long _ _ _ _ _ found in
    omega (arith, long, found.within, ap length c.consume.ensures, length-drop c.in-Ok-Msg.used c.messages.inbox)

pub answer_one-requires-clause-fits : goal.answer_one-requires-clause-fits
answer_one-requires-clause-fits g c =
    let found : Stands c.messages.limit c.messages.inbox c.in-Ok-Msg.tag (request_message c.in-Ok-Msg.request) c.in-Ok-Msg.used = rw (← c.waiting.ensures) (rw c.in-Ok-Msg.field-0-is at c.in-Ok-Msg.ensures.found) in
    request_fits c.in-Ok-Msg.tag c.in-Ok-Msg.request found.fits

pub returns-in-Err-Output-clause-later : goal.returns-in-Err-Output-clause-later
returns-in-Err-Output-clause-later g c = not_fewer_then _ _ _ c.messages.invariant.later c.in-Err-Output.ensures.later

pub returns-in-Err-Memory-clause-later : goal.returns-in-Err-Memory-clause-later
returns-in-Err-Memory-clause-later g c = not_fewer_then _ _ _ c.messages.invariant.later c.in-Err-Memory.ensures.later
