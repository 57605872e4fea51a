use Rattle.std.proofs.Common.{◌/◌, inl, refl}
use Rattle.fo_crash.specs.Images.{Image}
use Rattle.fo_dir_pairs.proofs.Bytes.{bytes_stand}
use Rattle.fo_dir_pairs.proofs.laws.leaf_changed.Goals as goal

pub returns : goal.returns
returns g c =
    let s = g.B.Blocks.state c.args.before.now in
    let t = g.B.Blocks.state c.args.after.now in
    bytes_stand s c.args.leaf c.args.bytes.now (λ (image : Image). Unit {0}) (λ r has. inl ((c.requires.stood (r.slot / 102)).each r has refl)) c.requires.stand t c.requires.images c.requires.puts.slots
