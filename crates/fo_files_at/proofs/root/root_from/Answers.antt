use Rattle.std.proofs.Common.{refl, arith}
use Rattle.fo_files_at.proofs.Roots.{first_leads, second_leads}
use Rattle.fo_files_at.proofs.root.root_from.Goals as goal

pub returns-clause-holds : goal.returns-clause-holds
returns-clause-holds g c =
    let s = g.B.Blocks.state c.args.on.now in
    record {
      named = c.in-Ok.ensures.holds;
      first = (c.entry_from.ensures.holds, first_leads s c.args.root c.entry_from.result c.args.block.now c.requires.reads c.requires.names c.entry_from.ensures.is);
      second = (c.entry_from-2.ensures.holds, second_leads s c.args.root c.entry_from-2.result c.args.block.now c.requires.reads c.requires.names c.entry_from-2.ensures.is);
      stands = c.requires.block;
      ranked = refl;
      high = omega arith;
    }
