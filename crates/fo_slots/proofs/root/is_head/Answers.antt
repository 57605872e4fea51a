use Rattle.std.proofs.Common.{◌∙◌, IsTrue, sym, subst}
use Rattle.fo_image.specs.Format.{IsEpoch}
use Rattle.fo_slots.proofs.Rooting.{epoch_told, head_made, head_spelled}
use Rattle.fo_slots.proofs.root.is_head.Goals as goal

pub returns-then-not-is_epoch : goal.returns-then-not-is_epoch
returns-then-not-is_epoch c = (
  λ h. absurd (cc),
  λ is.
      let yes : IsTrue c.is_epoch.result = c.is_epoch.ensures.1 (subst IsEpoch (sym (c.u32_at-epoch.ensures ∙ epoch_told c.args.head.now is)) is.is_epoch) in
      absurd (cc),
)

pub returns : goal.returns
returns c = (
  λ h.
      let some = c.is_epoch.ensures.0 c.if-not-is_epoch.false in
      head_made c.args.head.now c.u32_at-epoch.result c.u32_at-time.result c.u32_at-epoch.ensures c.u32_at-time.ensures some.0 some.1 c.u32_at-time.type_inv (c.is_spelled.ensures.0 h) c.requires,
  λ is. c.is_spelled.ensures.1 (head_spelled c.args.head.now c.u32_at-epoch.result c.u32_at-time.result is c.u32_at-epoch.ensures c.u32_at-time.ensures c.requires),
)
