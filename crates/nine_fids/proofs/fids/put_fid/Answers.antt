use Rattle.std.proofs.Common.{◌<◌, length, arith, sym, ap, ◌∙◌}
use Rattle.nine_fids.specs.Fids.{with_fid}
use Rattle.nine_fids.proofs.Placing.{put_at}
use Rattle.nine_fids.proofs.fids.put_fid.Goals as goal

pub returns-then-index-fid : goal.returns-then-index-fid
returns-then-index-fid c =
    let within : c.loop-i.i < length c.loop-i.fids.items = grind (arith, c.loop-i-test.true, c.len-i-end.ensures, c.loop-i.invariant.same) in
    put_at c.args.fid c.loop-i.fids.items c.loop-i.i c.index.result.now within (ap (λ f. f.number) (sym c.index.ensures) ∙ c.if-index-fid.true) c.loop-i.invariant.rest ∙ ap (with_fid c.args.fid) c.loop-i.invariant.same
