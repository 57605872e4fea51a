use Rattle.std.proofs.Common.{⊎_elim, refl, sym, ap, ◌∙◌, arith}
use Rattle.std.proofs.lemmas.Bool.{cases_lt}
use Rattle.fo_buffers.specs.of_crash.Images.{target}
use Rattle.fo_buffers.specs.of_ports.Blocks.{slot_count}
use Rattle.fo_bring.proofs.Copying.{past_slots, never}
use Rattle.fo_bring.proofs.good.leads_within.Goals as goal

pub returns : goal.returns
returns c = (
  λ _. record {
    each = λ j b e. ⊎_elim
        (λ lt. let is = c.slot_count-j-end.ensures.is in let end = c.loop-j-test.false in c.loop-j.invariant j b (omega (arith, lt, is, end)) e)
        (λ ge. absurd (never (sym (ap target (past_slots c.args.kind c.args.bytes.now j ge)) ∙ e)))
        (cases_lt j (slot_count c.args.kind));
  },
  λ _. refl,
)
