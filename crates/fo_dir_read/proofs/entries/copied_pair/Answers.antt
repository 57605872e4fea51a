use Rattle.std.proofs.Common.{◌/◌}
use Rattle.fo_dir_read.proofs.Pairs.{pair_leads, pair_is}
use Rattle.fo_dir_read.proofs.entries.copied_pair.Goals as goal

pub returns-clause-pair : goal.returns-clause-pair
returns-clause-pair g c = λ told.
    let leaves = g.S.Bytes.leaves c.args.entries.now c.copy_leaf.new.on in
    pair_is (g.B.Blocks.state c.copy_leaf.new.on).now leaves c.args.k c.args.at c.pair_in.result.0 c.pair_in.result.1 c.copy_leaf.new.into (c.copy_leaf.ensures.shows told (c.args.k / 102) (c.requires.shows told)) c.in_ok-copy_leaf.ensures.reads.1 c.pair_in.ensures.first c.pair_in.ensures.second

pub returns-clause-leads : goal.returns-clause-leads
returns-clause-leads g c = pair_leads (g.B.Blocks.state c.copy_leaf.new.on) c.args.at c.args.k c.pair_in.result.0 c.pair_in.result.1 c.copy_leaf.new.into c.in_ok-copy_leaf.ensures.reads.1 c.in_ok-copy_leaf.ensures.names c.pair_in.ensures.first c.pair_in.ensures.second
