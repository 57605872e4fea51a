use Rattle.std.proofs.Common.{refl}
use Rattle.fo_script_line.proofs.Doing.{refused_part, refused_front}
use Rattle.fo_script_line.proofs.line.take_message.Goals as goal

pub returns-then-used-bytes-clause-takes : goal.returns-then-used-bytes-clause-takes
returns-then-used-bytes-clause-takes g c =
    let stands = rw (c.in-Msg.is, c.limit.ensures) at c.in_ok-step.ensures.found in
    record { stays = refl; none = refused_part _ _ c.in-Msg.used c.in-Msg.request _ stands c.if-used-bytes.true }

pub returns-in_default-clause-takes : goal.returns-in_default-clause-takes
returns-in_default-clause-takes g c =
    let front = rw c.limit.ensures at c.in_ok-step.ensures.found in
    record { stays = refl; none = refused_front _ _ c.in_ok-step.step front c.in_default.not-Msg }
