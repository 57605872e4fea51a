use Rattle.fo_crash.specs.Images.{Image}
use Rattle.fo_dir_images.proofs.Same.{IsShown, HasLaws, same_leaf, one_leaf, lone_leaf, one_way}
use Rattle.fo_dir_images.proofs.laws.leaves_are_shown.Goals as goal

pub returns : goal.returns
returns g c = λ tells.
    let on = c.args.on.now in
    let s = g.B.Blocks.state on in
    let shown : (image : Image) → s.may_leave image → IsShown s image = λ image leaves. record { leaves = leaves; placed = g.met.B.Blocks.placed on image leaves; few = g.met.B.Blocks.few on image leaves } in
    let laws : HasLaws s = record { super_at = g.met.B.Blocks.super_stands on tells; one_spot = g.met.B.Blocks.one_spot on; active = (g.met.B.Blocks.active on).0; now = shown s.now (g.met.B.Blocks.present on tells); named = g.met.B.Blocks.root_named on tells } in
    record {
      same = λ side arena image root n b trail is leaves named there leaf. same_leaf {s = s} {arena = arena} {image = image} side root n b trail laws (shown image leaves) is named there leaf;
      one = λ side arena image root n b c trail leaf other. one_leaf side root n b c trail leaf other;
      alone = λ side other arena image root n m b trail way is leaves named leaf twin. lone_leaf {s = s} {arena = arena} {image = image} side other root n m b trail way laws (shown image leaves) is named leaf twin;
      path = λ image leaves. one_way {s = s} {image = image} laws (shown image leaves);
    }
