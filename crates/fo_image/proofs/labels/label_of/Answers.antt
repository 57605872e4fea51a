use Rattle.std.proofs.Common.{◌∙◌, refl}
use Rattle.fo_image.proofs.Codes.{kind_holds}
use Rattle.fo_image.proofs.Offsets.{label_at}
use Rattle.fo_image.proofs.labels.label_of.Goals as goal

pub returns : goal.returns
returns c = λ l s.
    let at = label_at c.args.bytes.now l s in
    rw (c.state_of.ensures l.state at.state, c.kind_of.ensures l.kind (kind_holds l s.holds) at.kind, c.u32_at.ensures ∙ at.epoch, c.u32_at-2.ensures ∙ at.closing, c.u32_at-3.ensures ∙ at.tag) refl
