use Rattle.std.proofs.Common.{sym, ◌∙◌, subst}
use Rattle.fo_waits.specs.Listed.{Clears}
use Rattle.fo_mind.specs.Parts.{Parts}
use Rattle.fo_turning.proofs.Flushing.{certain}
use Rattle.fo_turning.proofs.unlink.is_idle.Goals as goal

pub returns-in-Idle-clause-idle : goal.returns-in-Idle-clause-idle
returns-in-Idle-clause-idle g c =
    let mind = c.args.cache.now.mind in (
      λ t. record {
        quiet = c.in-Idle.ensures.turn;
        certain = certain mind.doubt (sym c.is_doubted.ensures ∙ c.if-is_doubted.false);
        none = λ b j h. c.is_clear.ensures.0 t b j (subst (λ (z : Parts). Clears z.clears b j) (sym c.next_turn.ensures.same) h);
      },
      λ i. c.is_clear.ensures.1 (λ b j h. i.none b j (subst (λ (z : Parts). Clears z.clears b j) c.next_turn.ensures.same h)),
    )
