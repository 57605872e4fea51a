use Rattle.std.proofs.Common.{◌⊎◌, ℕ, length}
use Rattle.std.specs.List.{Contains}
use Rattle.fo_crash.specs.Images.{Image}
use Rattle.fo_dir_images.specs.Whole.{IsInPlace}
use Rattle.fo_dir_images.proofs.Same.{IsShown, HasLaws}
use Rattle.fo_dir_images.proofs.Listing.{shows_dir}
use Rattle.fo_dir_images.proofs.Hanging.{more_whole, whole_there}
use Rattle.fo_dir_images.proofs.placed.is_shown.Goals as goal

pub returns : goal.returns
returns g c = λ ok arena image root trail is images named whole.
    let on = c.args.on.now in
    let s = g.B.Blocks.state on in
    let tells = g.met.B.Blocks.told on image images in
    let shown : (image : Image) → s.may_leave image → IsShown s image = λ image leaves. record { leaves = leaves; placed = g.met.B.Blocks.placed on image leaves; few = g.met.B.Blocks.few on image leaves } in
    let laws : HasLaws s = record { super_at = g.met.B.Blocks.super_stands on tells; one_spot = g.met.B.Blocks.one_spot on; active = (g.met.B.Blocks.active on).0; now = shown s.now (g.met.B.Blocks.present on tells); named = g.met.B.Blocks.root_named on tells } in
    let leaves = c.args.leaves.now in
    let listed : ℕ → Type 0 = λ b. Contains leaves b ⊎ Contains c.args.entries.now b in
    let placed = more_whole arena s listed (IsInPlace s) (length leaves) trail leaves (λ side n b leaf among. record { sealed = c.all_sealed.ensures ok b among; spared = c.requires.spared tells b among }) whole in
    shows_dir {s = s} {arena = arena} {image = image} root (length leaves) trail leaves laws (shown image images) is named
    (whole_there arena s (length leaves) trail leaves laws is (λ b sealed spared reaches image images. g.met.B.Blocks.in_place on b sealed spared reaches image images) placed)
