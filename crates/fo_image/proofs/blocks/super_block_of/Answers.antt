use Rattle.std.proofs.Common.{◌∙◌, refl, sym, arith}
use Rattle.fo_image.proofs.Offsets.{super_at}
use Rattle.fo_image.proofs.Codes.{none_from_code, some_from_code}
use Rattle.fo_image.proofs.blocks.super_block_of.Goals as goal

pub returns-in-0 : goal.returns-in-0
returns-in-0 c = λ s spells.
    let at = super_at c.args.bytes.now s spells in
    rw (c.u16_at.ensures ∙ at.version, c.u32_at.ensures ∙ at.low, c.u32_at-2.ensures ∙ at.high, c.u32_at-3.ensures ∙ at.active, c.u32_at-4.ensures ∙ at.numbers, c.u32_at-5.ensures ∙ at.pending, none_from_code s.last (sym at.has ∙ c.in-0.is)) refl

pub returns-in_default : goal.returns-in_default
returns-in_default c = λ s spells.
    let at = super_at c.args.bytes.now s spells in
    rw (c.u16_at.ensures ∙ at.version, c.u32_at.ensures ∙ at.low, c.u32_at-2.ensures ∙ at.high, c.u32_at-3.ensures ∙ at.active, c.u32_at-4.ensures ∙ at.numbers, c.u32_at-5.ensures ∙ at.pending, some_from_code s.last c.score_at.result (λ e. absurd (omega arith)) (c.score_at.ensures ∙ at.last)) refl
