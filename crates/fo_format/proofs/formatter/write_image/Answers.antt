use Rattle.std.proofs.Common.{ℕ, ◌∙◌, ap, set}
use Rattle.fo_disk.specs.Disk.{latest}
use Rattle.fo_format.proofs.Made.{writes-makes}
use Rattle.fo_format.proofs.formatter.write_image.Goals as goal

pub returns-clause-made : goal.returns-clause-made
returns-clause-made g c time root_is len = writes-makes time c.args.blocks (latest (g.D.Disk.state c.args.main.now).holds) _ _ _ _ c.write_root.new.into c.write_super.new.into c.write_header.new.into len c.requires.least
    (c.in_ok-write.ensures.latest ∙ ap (λ (n : ℕ). set (latest (g.D.Disk.state c.args.main.now).holds) n c.write_root.new.into) c.first_data.ensures)
    c.in_ok-write_labels.ensures.labels c.in_ok-write-2.ensures.latest c.in_ok-write-3.ensures.latest
    (rw root_is at c.write_root.ensures) (rw c.fresh_super.ensures.is at c.write_super.ensures) c.write_header.ensures
