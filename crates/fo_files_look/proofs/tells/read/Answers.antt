use Rattle.std.proofs.Common.{◌≡◌, ◌<◌, length, subst}
use Rattle.fo_world.specs.Tree.{last}
use Rattle.fo_files_at.proofs.of_looks.Looks.{looks_joins}
use Rattle.fo_files_look.proofs.Telling.{refuses_since}
use Rattle.fo_files_look.proofs.Reading.{is_read}
use Rattle.fo_files_look.proofs.tells.read.Goals as goal

pub returns-clause-looks : goal.returns-clause-looks
returns-clause-looks g c =
    let first = c.file_at.ensures.looks in (
      looks_joins (g.met.B.Blocks.keeps_all c.args.on.now c.file_at.new.on first.1) first.0 c.read_of.ensures.looks.0,
      g.met.B.Blocks.keeps_joins c.args.on.now c.file_at.new.on c.read_of.new.on first.1 c.read_of.ensures.looks.1,
    )

pub returns-clause-cause : goal.returns-clause-cause
returns-clause-cause g c =
    let first = c.file_at.ensures.looks in
    refuses_since (g.B.Blocks.state c.args.on.now) (g.B.Blocks.state c.file_at.new.on) (g.B.Blocks.state c.read_of.new.on) (g.met.B.Blocks.keeps_all c.args.on.now c.file_at.new.on first.1) c.read_of.result c.read_of.ensures.cause

pub returns-clause-count : goal.returns-clause-count
returns-clause-count g c =
    let file = c.in-Ok.ensures in
    is_read (g.B.Blocks.state c.file_at.new.on) (g.B.Blocks.state c.read_of.new.on) c.in-Ok.file c.args.at.now.trail c.args.offset (length c.args.into.now) c.read_of.result (g.met.B.Blocks.keeps_all c.file_at.new.on c.read_of.new.on c.read_of.ensures.looks.1) file.holds file.file (subst (λ t. 0 < length t → c.in-Ok.file.named.number ≡ last t) c.as_slice.ensures file.number) c.read_of.ensures.count
