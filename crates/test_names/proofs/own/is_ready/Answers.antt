use Rattle.std.proofs.Common.{◌+◌, ◌*◌, ◌≤◌, arith, rules}
use Rattle.fo_dir_read.specs.Names.{leaf_count}
use Rattle.fo_looks.proofs.Looks.{looks_joins}
use Rattle.test_names.proofs.Linking.{most_small, ready_for}
use Rattle.test_names.proofs.own.is_ready.Goals as goal

pub returns-in-Ok-clause-ready : goal.returns-in-Ok-clause-ready
returns-in-Ok-clause-ready g c =
    let mid = g.B.Blocks.state c.prepare.new.on in
    let end = g.B.Blocks.state c.is_trimmed.new.on in
    let x = c.args.source.now in
    let i = c.args.i in
    let pins = (c.requires.memory c.args.on.now).pins in
    let few = most_small x.ways.tree.size (8192 * i + 8192) in
    let within : i ≤ leaf_count x.ways.tree.size = search rules in
    ready_for x c.prepare.new.self c.is_trimmed.new.source i c.is_trimmed.result within c.in-Ok.ensures.same.0 c.is_trimmed.ensures.same.tree (c.is_trimmed.ensures.still (8192 * i) 8192 (c.in-Ok.ensures.prepared (omega (arith, few, pins)))) c.is_trimmed.ensures.clear

pub returns-in-Ok-clause-looks : goal.returns-in-Ok-clause-looks
returns-in-Ok-clause-looks g c = looks_joins (g.met.B.Blocks.keeps_all c.args.on.now c.prepare.new.on c.prepare.ensures.looks.1) c.prepare.ensures.looks.0 c.is_trimmed.ensures.looks
