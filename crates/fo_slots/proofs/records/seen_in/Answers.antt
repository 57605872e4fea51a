use Rattle.std.proofs.Common.{◌∙◌, refl}
use Rattle.fo_image.proofs.RecordLemmas.{record_at}
use Rattle.fo_slots.proofs.records.seen_in.Goals as goal

pub returns : goal.returns
returns c = λ r s.
    let at = record_at c.args.bytes.now r s in
    let texts = c.in-Some.ensures.only r s in
    rw (texts.0, c.u32_at.ensures ∙ at.number, c.u32_at-2.ensures ∙ at.slot, c.u32_at-3.ensures ∙ at.generation, c.u32_at-4.ensures ∙ at.vers, c.u32_at-5.ensures ∙ at.mode, c.u32_at-6.ensures ∙ at.atime, c.u32_at-7.ensures ∙ at.mtime, texts.1, texts.2, texts.3) refl
