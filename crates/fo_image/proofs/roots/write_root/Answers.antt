use Rattle.std.proofs.Common.{◌≡◌, ◌∙◌, ap, arith, length, take}
use Rattle.std.proofs.lemmas.List.{length-take}
use Rattle.fo_image.specs.Field.{padded}
use Rattle.fo_image.specs.Part.{parts_bytes}
use Rattle.fo_image.proofs.PointerLemmas.{padded_whole}
use Rattle.fo_image.proofs.Pieces.{root_written}
use Rattle.fo_image.proofs.roots.write_root.Goals as goal

pub returns : goal.returns
returns c =
    let n : length (take 24 c.args.into.now) ≡ 24 = omega (arith, length-take 24 c.args.into.now) in
    let bytes = parts_bytes c.head_of-head.result in
    let head = c.write_parts.ensures ∙ ap (λ i. padded i bytes) n ∙ padded_whole bytes 24 (ap length c.head_of-head.ensures.spelled) ∙ c.head_of-head.ensures.spelled in
    root_written c.args.v.now _ _ _ _ _ c.args.into.now c.record_len-end.result c.requires.spelled c.head_of-head.ensures.fit head c.write_entry.ensures c.write_entry-2.ensures c.write_record.ensures
    c.record_len-end.ensures.is c.record_len-end.ensures.most c.requires.length (c.fill.ensures.after (λ y e. e))
