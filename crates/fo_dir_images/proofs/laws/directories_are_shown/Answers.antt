use Rattle.fo_crash.specs.Images.{Image}
use Rattle.fo_dir_images.proofs.Same.{IsShown, HasLaws}
use Rattle.fo_dir_images.proofs.Listing.{shows_dir, shows_pairs}
use Rattle.fo_dir_images.proofs.laws.directories_are_shown.Goals as goal

pub returns : goal.returns
returns g c = λ tells.
    let on = c.args.on.now in
    let s = g.B.Blocks.state on in
    let shown : (image : Image) → s.may_leave image → IsShown s image = λ image leaves. record { leaves = leaves; placed = g.met.B.Blocks.placed on image leaves; few = g.met.B.Blocks.few on image leaves } in
    let laws : HasLaws s = record { super_at = g.met.B.Blocks.super_stands on tells; one_spot = g.met.B.Blocks.one_spot on; active = (g.met.B.Blocks.active on).0; now = shown s.now (g.met.B.Blocks.present on tells); named = g.met.B.Blocks.root_named on tells } in
    record {
      dir = λ arena image root count trail leaves is images named whole. shows_dir {s = s} {arena = arena} {image = image} root count trail leaves laws (shown image images) is named whole;
      pairs = λ arena image root is images named covered. shows_pairs {s = s} {arena = arena} {image = image} root laws (shown image images) is named covered;
    }
