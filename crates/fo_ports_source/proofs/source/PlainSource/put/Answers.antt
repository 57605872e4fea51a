use Rattle.std.proofs.Common.{◌≡◌, ◌<◌, ◌≤◌, ◌+◌, ◌-◌, length, refl, ◌∙◌, arith}
use Rattle.fo_ports_source.proofs.Leaves.{grew_joins, grew_none, grew_same, prepared_same}
use Rattle.fo_ports_source.proofs.Puts.{puts_more, puts_none, spent_more, spent_none}
use Rattle.fo_ports_source.proofs.Dirtied.{dirties_none, dirties_more, dirties_all}
use Rattle.fo_ports_source.proofs.source.PlainSource.put.Goals as goal

pub put_part-requires-clause-held : goal.put_part-requires-clause-held
put_part-requires-clause-held g c = λ at e.
    let i = c.loop-done.invariant in
    let done = c.loop-done.done in
    let within : c.args.offset + done < c.args.offset + length c.args.piece.now = omega arith in
    (prepared_same i.same.0 i.same.1 i.same.3 (i.grew.still c.args.offset (length c.args.piece.now) c.requires.prepared)).each (c.args.offset + done) at (omega arith) within e

pub loop-done-preserved : goal.loop-done-preserved
loop-done-preserved g c =
    let done = c.loop-done.done in
    let n = c.min-count.result in
    let i = c.loop-done.invariant in
    let e = c.put_part.ensures in
    let on = c.args.on.now in
    let mid = c.loop-done.on in
    let new = c.put_part.new.on in
    let k = g.met.B.Blocks.keeps_all on mid i.keeps in
    let keeps = g.met.B.Blocks.keeps_joins on mid new i.keeps e.keeps in
    let within : done + n ≤ length c.args.piece.now = omega arith in
    let len : done + n - done ≡ n = omega arith in
    record {
      within = within;
      over = e.over;
      same = (e.same.0 ∙ i.same.0, e.same.1 ∙ i.same.1, e.same.2 ∙ i.same.2, e.same.3 ∙ i.same.3);
      puts = λ told. puts_more _ _ _ c.args.offset done n c.args.piece.now within (i.puts told) (rw len at (e.puts (k.still_tells.1 told)));
      grew = grew_joins (g.met.B.Blocks.keeps_all on new keeps) i.grew (grew_same i.same.0 i.same.1 i.same.3 e.grew);
      keeps = keeps;
      dirties = dirties_more (length c.args.piece.now) c.args.offset done n (omega arith) c.min-count.ensures i.dirties e.dirties;
      spent = spent_more (length c.args.piece.now) c.args.offset done n (g.B.Blocks.state on).spare (g.B.Blocks.state mid).spare (g.B.Blocks.state new).spare (omega arith) c.min-count.ensures e.spare.0 i.spent;
    }

pub loop-done-init : goal.loop-done-init
loop-done-init g c = record {
  within = omega arith;
  over = c.requires.over;
  same = (refl, refl, refl, refl);
  puts = λ told. puts_none _ c.args.offset;
  grew = grew_none (g.B.Blocks.state c.args.on.now) (g.met.B.Blocks.keeps_all c.args.on.now c.args.on.now (g.met.B.Blocks.keeps_at_once c.args.on.now));
  keeps = g.met.B.Blocks.keeps_at_once c.args.on.now;
  dirties = dirties_none (length c.args.piece.now) c.args.offset (g.B.Blocks.state c.args.on.now);
  spent = spent_none (length c.args.piece.now) c.args.offset (g.B.Blocks.state c.args.on.now).spare;
}

pub returns-clause-dirties : goal.returns-clause-dirties
returns-clause-dirties g c = dirties_all (length c.args.piece.now) c.args.offset c.loop-done.done (let within = c.loop-done.invariant.within in omega (arith, within)) c.loop-done.invariant.dirties
