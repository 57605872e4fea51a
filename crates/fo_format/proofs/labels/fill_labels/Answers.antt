use Rattle.std.proofs.Common.{◌≡◌, ◌+◌, ◌-◌, ◌∙◌, ap, arith, refl, length, drop, length-take, length-drop}
use borrow.Rule.Slice.PartMut.{put_mid, same_len_mid}
use Rattle.fo_image.specs.Place.{label_block, label_byte}
use Rattle.fo_format.proofs.LabelBlocks.{root_block, free_block}
use Rattle.fo_format.proofs.labels.fill_labels.Goals as goal

pub returns-then-at-root_at : goal.returns-then-at-root_at
returns-then-at-root_at c =
    let from = c.label_place-root_at.result.1 in
    let from_is : from ≡ label_byte c.first_data.result = c.label_place-root_at.ensures.byte in
    let len : length c.fill.new.self ≡ 8192 = omega (arith, c.fill.ensures.len) in
    let label_len : length c.write_label.new.into ≡ 14 = omega (arith, c.write_label.auto.into, length-take (from + 14 - from) (drop from c.fill.new.self), length-drop from c.fill.new.self) in
    let long : length (put_mid from (from + 14 - from) c.fill.new.self c.write_label.new.into) ≡ 8192 = same_len_mid from (from + 14 - from) c.fill.new.self c.write_label.new.into c.write_label.auto.into ∙ len in
    root_block c.args.blocks c.args.at _ _ _ c.args.block.now c.fill.new.self c.write_label.new.into c.requires.length (c.fill.ensures.after (λ y e. e))
    (rw c.fresh_label.ensures.is at c.write_label.ensures) label_len (c.label_place-root_at.ensures.block ∙ ap label_block c.first_data.ensures) (c.label_place-root_at.ensures.byte ∙ ap label_byte c.first_data.ensures) c.if-at-root_at.true refl long

pub returns-else-at-root_at : goal.returns-else-at-root_at
returns-else-at-root_at c =
    free_block c.args.blocks c.args.at _ c.args.block.now c.fill.new.self c.requires.length (c.fill.ensures.after (λ y e. e)) (c.label_place-root_at.ensures.block ∙ ap label_block c.first_data.ensures) c.if-at-root_at.false
