use Rattle.fo_files_record.proofs.Rooted.{root_looks, root_calm, whole_root, piece_within, piece_is, puts_own}
use Rattle.fo_files_record.proofs.own.put_own_record.Goals as goal
use Rattle.fo_dir_remove.proofs.of_dirties.Adding.{dirties_idle, dirties_after}
use Rattle.fo_dir_remove.proofs.of_dirties.Putting.{dirties_looks, dirties_calm}

pub returns-in-Err-clause-root : goal.returns-in-Err-clause-root
returns-in-Err-clause-root g c = root_looks c.args.root (g.met.B.Blocks.keeps_all c.args.on.now c.get.new.self c.get.ensures.keeps) c.get.ensures.looks c.requires.root

pub returns-in-Err-rewritten-clause-root : goal.returns-in-Err-rewritten-clause-root
returns-in-Err-rewritten-clause-root g c = root_looks c.args.root (g.met.B.Blocks.keeps_all c.args.on.now c.get.new.self c.get.ensures.keeps) c.get.ensures.looks c.requires.root

pub put_bytes-requires-clause-within : goal.put_bytes-requires-clause-within
put_bytes-requires-clause-within g c =
    let old = ((g.B.Blocks.state c.get.new.self).now c.args.root).bytes in
    piece_within c.rewritten.new.into old (whole_root c.get.new.into old c.in-Ok.ensures.formed.0.0 c.in-Ok.ensures.bytes.0.behind)

pub put_bytes-requires-clause-formed : goal.put_bytes-requires-clause-formed
put_bytes-requires-clause-formed g c = λ told. absurd (c.requires.silent ((g.met.B.Blocks.keeps_all c.args.on.now c.get.new.self c.get.ensures.keeps).still_tells.0 told))

pub returns-in-Ok-rewritten-clause-puts : goal.returns-in-Ok-rewritten-clause-puts
returns-in-Ok-rewritten-clause-puts g c = (c.get.new.self, puts_own c.args.root c.args.named c.get.new.into c.rewritten.new.into _ c.get.ensures.looks c.in-Ok.ensures.bytes.0 c.in-Ok.ensures.formed.0.0 c.rewritten.ensures.length c.in-Ok-rewritten.ensures.own (piece_is c.rewritten.new.into c.rewritten.ensures.length) c.put_bytes.ensures.now c.put_bytes.ensures.calm)

pub returns-in-Ok-rewritten-clause-root : goal.returns-in-Ok-rewritten-clause-root
returns-in-Ok-rewritten-clause-root g c =
    root_calm c.args.root (g.met.B.Blocks.keeps_all c.get.new.self c.put_bytes.new.self c.put_bytes.ensures.keeps) c.put_bytes.ensures.calm
    (root_looks c.args.root (g.met.B.Blocks.keeps_all c.args.on.now c.get.new.self c.get.ensures.keeps) c.get.ensures.looks c.requires.root)

pub returns-in-Ok-rewritten-clause-keeps : goal.returns-in-Ok-rewritten-clause-keeps
returns-in-Ok-rewritten-clause-keeps g c = g.met.B.Blocks.keeps_joins c.args.on.now c.get.new.self c.put_bytes.new.self c.get.ensures.keeps c.put_bytes.ensures.keeps

pub returns-in-Err-clause-dirties : goal.returns-in-Err-clause-dirties
returns-in-Err-clause-dirties g c = dirties_idle (dirties_looks (g.met.B.Blocks.keeps_all c.args.on.now c.get.new.self c.get.ensures.keeps) c.get.ensures.looks)

pub returns-in-Err-rewritten-clause-dirties : goal.returns-in-Err-rewritten-clause-dirties
returns-in-Err-rewritten-clause-dirties g c = dirties_idle (dirties_looks (g.met.B.Blocks.keeps_all c.args.on.now c.get.new.self c.get.ensures.keeps) c.get.ensures.looks)

pub returns-in-Ok-rewritten-clause-dirties : goal.returns-in-Ok-rewritten-clause-dirties
returns-in-Ok-rewritten-clause-dirties g c =
    dirties_after (dirties_looks (g.met.B.Blocks.keeps_all c.args.on.now c.get.new.self c.get.ensures.keeps) c.get.ensures.looks)
    (dirties_calm c.args.root (g.met.B.Blocks.keeps_all c.get.new.self c.put_bytes.new.self c.put_bytes.ensures.keeps) c.put_bytes.ensures.calm)
