use Rattle.std.proofs.Common.{sym, ◌∙◌}
use Rattle.fo_disk.specs.Memory.{holds_of}
use Rattle.many_names.proofs.Quieting.{as_long, formatted_quiet}
use Rattle.many_names.proofs.disks.made.Goals as goal

pub returns : goal.returns
returns c = record {
  quiet = λ e.
      let q = c.requires.quiet in
      let n = c.requires.count in
      formatted_quiet 7 c.args.blocks (holds_of c.args.main.now) (holds_of c.args.arena.now) (holds_of c.format.new.main) (holds_of c.format.new.arena) c.format.result q.0 (as_long c.args.main.now c.args.blocks n.0) c.requires.some q.1 (as_long c.args.arena.now 16 n.1) c.format.ensures.formats (sym c.is_ok.ensures.value ∙ e);
}
