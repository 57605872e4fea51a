use Rattle.std.proofs.Common.{⊎_elim, length, sym, ap, subst, ◌∙◌}
use Rattle.std.proofs.lemmas.Bool.{cases_eq}
use Rattle.fo_image.specs.declared.types.Label.{Label}
use Rattle.fo_ports.proofs.Lengths.{length_zero_bytes}
use Rattle.test_blocks.specs.Silent.{state_of}
use Rattle.test_blocks.specs.SilentParts.{parts}
use Rattle.test_over_blocks.proofs.silence.given.Goals as goal

pub returns-in-Err-clause-none : goal.returns-in-Err-clause-none
returns-in-Err-clause-none c = record { each = λ y x h. c.requires.none.each y x ((c.reserve.ensures.rests.instead y x).0 h) }

pub returns-clause-none : goal.returns-clause-none
returns-clause-none c = record {
  each = λ y x h. ⊎_elim
      (λ e. c.new_block.ensures.instead x (subst (λ n. (state_of (parts c.new_block.new.self)).instead n x) e h))
      (λ ne. c.requires.none.each y x ((c.reserve.ensures.rests.instead y x).0 ((c.new_block.ensures.gives.stays.instead y x ne (λ z. z)).0 h)))
      (cases_eq y c.new_block.result);
}

pub returns-clause-had : goal.returns-clause-had
returns-clause-had c =
    let g = c.new_block.ensures.gives in (
      record { pinned = g.is.1; kind = ap (λ (l : Label). l.kind) g.label; long = ap length g.memory.here.bytes ∙ length_zero_bytes },
      g.is.0,
      ap (λ (l : Label). l.epoch) g.label ∙ sym c.new_block.ensures.keeps.high,
    )
