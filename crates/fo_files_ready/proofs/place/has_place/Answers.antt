use Rattle.std.proofs.Common.{subst}
use Rattle.fo_meta.specs.Leaf.{IsLeaf}
use Rattle.fo_files_change.proofs.Records.{records_rank}
use Rattle.fo_files_ready.specs.Ready.{HasPlace}
use Rattle.fo_files_ready.proofs.Steps.{leaf_looks}
use Rattle.fo_files_ready.proofs.place.has_place.Goals as goal

pub read-requires-clause-rank : goal.read-requires-clause-rank
read-requires-clause-rank g c =
    records_rank c.args.dir.rank c.requires.dir.ranked c.requires.dir.least

pub returns-in-Err-clause-own : goal.returns-in-Err-clause-own
returns-in-Err-clause-own g c =
    leaf_looks (g.B.Blocks.state c.args.on.now) (g.B.Blocks.state c.read.new.on) c.args.dir c.args.leaf (g.met.B.Blocks.keeps_all c.args.on.now c.read.new.on c.read.ensures.keeps) c.read.ensures.looks c.requires.own

pub returns-in-Some-clause-own : goal.returns-in-Some-clause-own
returns-in-Some-clause-own g c =
    leaf_looks (g.B.Blocks.state c.args.on.now) (g.B.Blocks.state c.read.new.on) c.args.dir c.args.leaf (g.met.B.Blocks.keeps_all c.args.on.now c.read.new.on c.read.ensures.keeps) c.read.ensures.looks c.requires.own

pub returns-in-None-clause-own : goal.returns-in-None-clause-own
returns-in-None-clause-own g c =
    leaf_looks (g.B.Blocks.state c.args.on.now) (g.B.Blocks.state c.read.new.on) c.args.dir c.args.leaf (g.met.B.Blocks.keeps_all c.args.on.now c.read.new.on c.read.ensures.keeps) c.read.ensures.looks c.requires.own

pub returns-in-Some-clause-ready : goal.returns-in-Some-clause-ready
returns-in-Some-clause-ready g c =
    let at = c.in-Ok.ensures.bytes.1 in
    λ yes. record { own = leaf_looks (g.B.Blocks.state c.args.on.now) (g.B.Blocks.state c.read.new.on) c.args.dir c.args.leaf (g.met.B.Blocks.keeps_all c.args.on.now c.read.new.on c.read.ensures.keeps) c.read.ensures.looks c.requires.own; records = c.read.ensures.leaf; place = subst (λ xs. HasPlace c.args.name.now c.args.named.now xs) at (c.in-Some.ensures yes) }

pub returns-in-Some-clause-bytes : goal.returns-in-Some-clause-bytes
returns-in-Some-clause-bytes g c =
    subst (λ xs. IsLeaf xs) c.in-Ok.ensures.bytes.1 c.in-Ok.ensures.bytes.0
