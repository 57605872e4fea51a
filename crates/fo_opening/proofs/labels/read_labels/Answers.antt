use Rattle.std.proofs.Common.{◌+◌, ◌∙◌, subst, arith}
use Rattle.fo_disk.specs.Disk.{DiskState}
use Rattle.fo_opening.specs.Opens.{IsRead}
use Rattle.fo_opening.proofs.Loading.{table_more}
use Rattle.fo_opening.proofs.labels.read_labels.Goals as goal

pub loop-n-preserved : goal.loop-n-preserved
loop-n-preserved g c =
    let i = c.loop-n.invariant in
    let read = subst (λ (s : DiskState). IsRead s.holds (2 + c.loop-n.n) c.read.new.into) i.state c.in_default-read.ensures.read in
    let more = table_more c.args.count c.loop-n.n (g.D.Disk.state c.args.main.now).holds c.read.new.into c.loop-n.labels c.load_block.new.labels i.table i.has read (c.load_block.ensures.loads c.if-not-load_block.false) in
    let was = i.later in
    let now = c.read.ensures.later in
    record {
      table = more.0;
      has = more.1;
      size = c.read.ensures.size ∙ i.size;
      state = c.read.ensures.state ∙ i.state;
      later = omega (arith, was, now);
    }
