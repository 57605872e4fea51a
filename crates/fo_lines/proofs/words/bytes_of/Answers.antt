use Rattle.std.proofs.Common.{subst, inl, inr}
use Rattle.std.specs.Prelude.{◌≡◌, IfOk}
use Rattle.fo_lines.proofs.WordLemmas.{bytes_here, bytes_none}
use Rattle.fo_lines.proofs.words.bytes_of.Goals as goal

pub returns-in-Ok : goal.returns-in-Ok
returns-in-Ok c =
    subst (λ x. IfOk c.respelled.result (λ o. o ≡ x)) (bytes_here c.args.text.now c.in-Ok.bytes.items c.in-Ok.ensures.ok) c.respelled.ensures

pub returns-in_default : goal.returns-in_default
returns-in_default c =
    elim c.in-Err.ensures.err [
      | inl memory ↦ absurd (c.in_default.not-OutOfMemory memory)
      | inr bad ↦ bytes_none c.args.text.now c.in-Err.error bad
    ]
