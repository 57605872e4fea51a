use Rattle.std.proofs.Common.{sym, ◌∙◌, arith}
use Rattle.std.proofs.lemmas.Bool.{true≢false}
use Rattle.fo_files_dir.proofs.Dirs.{pair_keeps}
use Rattle.test_files.proofs.life.made.Goals as goal

pub returns-in-Ok-ready_leaf-clause-dir : goal.returns-in-Ok-ready_leaf-clause-dir
returns-in-Ok-ready_leaf-clause-dir g c =
    let s = g.B.Blocks.state c.new_file.new.on in
    let u = g.B.Blocks.state c.ready_leaf.new.on in
    let d = c.args.dir in
    let is = c.new_file.ensures.dir in
    let x = c.ready_leaf.ensures.alters in
    record {
      pair = pair_keeps s u d.at d.slot (g.met.B.Blocks.keeps_all c.new_file.new.on c.ready_leaf.new.on c.ready_leaf.ensures.keeps) (x.labels d.at (λ made. made.0 is.pair.live)) (x.marks d.at (λ made. made.0 is.pair.live)).0 is.pair;
      ranked = is.ranked;
      least = is.least;
      most = is.most;
    }

pub returns-in-Err-ready_leaf-clause-dir : goal.returns-in-Err-ready_leaf-clause-dir
returns-in-Err-ready_leaf-clause-dir g c =
    let s = g.B.Blocks.state c.new_file.new.on in
    let u = g.B.Blocks.state c.ready_leaf.new.on in
    let d = c.args.dir in
    let is = c.new_file.ensures.dir in
    let x = c.ready_leaf.ensures.alters in
    record {
      pair = pair_keeps s u d.at d.slot (g.met.B.Blocks.keeps_all c.new_file.new.on c.ready_leaf.new.on c.ready_leaf.ensures.keeps) (x.labels d.at (λ made. made.0 is.pair.live)) (x.marks d.at (λ made. made.0 is.pair.live)).0 is.pair;
      ranked = is.ranked;
      least = is.least;
      most = is.most;
    }

pub ready_leaf-requires-clause-wanted : goal.ready_leaf-requires-clause-wanted
ready_leaf-requires-clause-wanted g c =
    let is = c.entries.ensures in
    let rank = is.2 in
    let limit = is.3 in
    let dir = c.requires.dir.1 in
    record { low = (omega (arith, rank, dir), omega (arith, limit)); records = λ no_dir. absurd (true≢false (sym is.4 ∙ no_dir)) }
