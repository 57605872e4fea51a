use Rattle.std.proofs.Common.{◌≡◌, ◌+◌, ◌-◌, ◌≤◌, length, arith}
use Rattle.fo_sparse.specs.Pages.{SamePages}
use Rattle.fo_sparse.proofs.Puts.{puts_more}
use Rattle.fo_sparse.proofs.pages.put.Goals as goal

pub loop-done-preserved : goal.loop-done-preserved
loop-done-preserved c =
    let done = c.loop-done.done in
    let n = c.min-count.result in
    let within : done + n ≤ length c.args.bytes.now = omega arith in
    let len : done + n - done ≡ n = omega arith in
    let i = c.loop-done.invariant in
    let kept : SamePages c.args.pages.now c.put_in_page.new.pages = record {
      keeps = λ q some. c.put_in_page.ensures.pages.keeps q (i.2.keeps q some);
      none = λ q none. c.put_in_page.ensures.pages.none q (i.2.none q none);
    } in
    (within, puts_more _ _ _ c.args.offset done n c.args.bytes.now within i.1 (rw len at c.put_in_page.ensures.puts), kept)
