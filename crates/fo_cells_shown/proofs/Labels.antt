-- What an image of the device has of labels.
use Rattle.std.proofs.Common.{◌≡◌, ℕ, List, sym, ◌∙◌, subst}
use Rattle.std.specs.List.{Contains}
use Rattle.fo_image.specs.declared.types.Pointer.TheVariants.{Local}
use Rattle.fo_crash.specs.Images.{Content, target, to_block}
use Rattle.fo_crash.specs.Places.{place_below}
use Rattle.fo_cells.specs.Known.{written}
use Rattle.fo_cells.proofs.Standing.{written_is, written_may, stands_below}
use Rattle.fo_cells.proofs.Read.{IsOld, reached_old}
use Rattle.fo_cells_shown.specs.Labels.{LabelsAreShown}

local_eq : {a b : ℕ} → Local a ≡ Local b → a ≡ b
local_eq e = cc

pub labelled : LabelsAreShown
labelled high t a i b p doubts k image labels safe left st settled r e =
    let first : (c : ℕ) → target (to_block t) ≡ Local c → IsOld k c = λ c is. subst (λ x. IsOld k x) (local_eq is) (record { place = p; stands = st; settled = settled }) in
    let old = reached_old safe left.each r.path (to_block t) first a r.leads in
    let among : Contains (written k a) (image a) = subst (λ (cs : List Content). Contains cs (image a)) (sym (written_is k a old.settled)) (left.each a (safe.of_device.blocks a old.place old.stands)) in
    let may = safe.kept.named a i b (image a) old.place old.stands among e in
    let below = stands_below i ((image a).slot i) b old.stands (written_may k a i (image a) among) e in
    let here = safe.kept.labelled b (place_below old.place i ((image a).slot i)) may.0 below in
    let fits = may.1.labels (labels b) (left.label b (safe.of_device.labels b (place_below old.place i ((image a).slot i)) may.0 below)) in
    record {
      place = place_below old.place i ((image a).slot i);
      stands = below;
      other = may.0;
      kind = fits.kind ∙ here.0;
      tag = fits.tag ∙ here.1;
      fits = fits;
    }
