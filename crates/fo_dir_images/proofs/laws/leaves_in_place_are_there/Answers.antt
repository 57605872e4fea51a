use Rattle.fo_crash.specs.Images.{Image}
use Rattle.fo_dir_images.proofs.Same.{IsShown, HasLaws}
use Rattle.fo_dir_images.proofs.Hanging.{leaf_there, whole_there}
use Rattle.fo_dir_images.proofs.laws.leaves_in_place_are_there.Goals as goal

pub returns : goal.returns
returns g c = λ tells.
    let on = c.args.on.now in
    let s = g.B.Blocks.state on in
    let shown : (image : Image) → s.may_leave image → IsShown s image = λ image leaves. record { leaves = leaves; placed = g.met.B.Blocks.placed on image leaves; few = g.met.B.Blocks.few on image leaves } in
    let laws : HasLaws s = record { super_at = g.met.B.Blocks.super_stands on tells; one_spot = g.met.B.Blocks.one_spot on; active = (g.met.B.Blocks.active on).0; now = shown s.now (g.met.B.Blocks.present on tells); named = g.met.B.Blocks.root_named on tells } in
    record {
      leaf = λ side arena n b trail is leaf at. leaf_there s arena side n b trail laws is (λ b sealed spared reaches image images. g.met.B.Blocks.in_place on b sealed spared reaches image images) leaf at;
      whole = λ arena count trail leaves is whole. whole_there arena s count trail leaves laws is (λ b sealed spared reaches image images. g.met.B.Blocks.in_place on b sealed spared reaches image images) whole;
    }
