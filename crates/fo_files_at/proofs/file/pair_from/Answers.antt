use Rattle.std.proofs.Common.{◌+◌, ◌<◌, ℕ, arith}
use Rattle.fo_dir_read.proofs.Pairs.{entry_leads}
use Rattle.fo_files_at.proofs.file.pair_from.Goals as goal

here : (j : ℕ) → j < 203 → j < 204
here j lt = omega (arith, lt)

next : (j : ℕ) → j < 203 → j + 1 < 204
next j lt = omega (arith, lt)

pub returns-clause-first : goal.returns-clause-first
returns-clause-first g c = (
  c.entry_from.ensures.holds,
  entry_leads (g.B.Blocks.state c.args.on.now) c.args.leaf c.args.j c.entry_from.result c.args.block.now (here c.args.j c.requires.within) c.requires.reads c.requires.names c.entry_from.ensures.is,
)

pub returns-clause-second : goal.returns-clause-second
returns-clause-second g c = (
  c.entry_from-2.ensures.holds,
  entry_leads (g.B.Blocks.state c.args.on.now) c.args.leaf (c.args.j + 1) c.entry_from-2.result c.args.block.now (next c.args.j c.requires.within) c.requires.reads c.requires.names c.entry_from-2.ensures.is,
)
