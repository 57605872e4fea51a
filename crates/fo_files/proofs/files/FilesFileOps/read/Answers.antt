use Rattle.std.proofs.Common.{refl, rules}
use Rattle.fo_files_take.proofs.of_files_along.Whole.{settled_looks}
use Rattle.fo_files.proofs.Quiet.{looks_quiet}
use Rattle.fo_files.proofs.files.FilesFileOps.read.Goals as goal

pub returns-clause-keeps : goal.returns-clause-keeps
returns-clause-keeps g c =
    let l = c.read.ensures.looks in
    let all = g.met.B.Blocks.keeps_all _ _ l.1 in
    record {
      keeps = l.1;
      usable = search rules;
      settled = λ h. (settled_looks _ _ (λ t. c.args.self.now.silent (all.still_tells.0 t)) (λ image is. g.met.B.Blocks.told c.read.new.on image is) l.0 h, l.0.usable.0);
      dirties = looks_quiet all l.0;
      same_halted = refl;
    }

pub returns-clause-looks : goal.returns-clause-looks
returns-clause-looks g c = c.read.ensures.looks.0
