use Rattle.std.proofs.Common.{◌≡◌, ◌+◌, ◌-◌, ◌*◌, refl, ◌∙◌, arith, length, drop, length-take, length-drop}
use borrow.Rule.Slice.PartMut.{same_len_mid}
use Rattle.venti_store.proofs.LineBlocks.{Written, lines_more}
use Rattle.venti_store.proofs.writes.lines_of_group.Goals as goal

pub loop-place-preserved : goal.loop-place-preserved
loop-place-preserved c =
    let from = 24 * (c.loop-place.place - c.args.group * 341) in
    let i = c.loop-place.invariant in
    let line_len : length c.write_arena_line.new.into ≡ 24 = omega (arith, c.write_arena_line.auto.into, length-take (from + 24 - from) (drop from c.loop-place.block), length-drop from c.loop-place.block, i.long, c.loop-place.auto.place, c.loop-place-test.true) in
    let w : Written c.loop-place.place from (from + 24 - from) c.loop-place.block c.write_arena_line.new.into _ = record {
      long = i.long;
      at_is = omega (arith, c.loop-place.auto.place, c.loop-place-test.true);
      count = refl;
      line_len = line_len;
      is = refl;
    } in record {
      long = same_len_mid from (from + 24 - from) c.loop-place.block c.write_arena_line.new.into c.write_arena_line.auto.into ∙ i.long;
      lines = lines_more w c.args.lines.now _ c.args.group refl (omega (arith, c.loop-place.auto.place)) (omega (arith, c.loop-place-test.true)) c.write_arena_line.ensures i.lines;
    }
