-- In one image a spot has one block; and what is found at the spot of a leaf is what is read by the spot's trail.
use Rattle.std.proofs.Common.{◌≡◌, ℕ, zero, suc, List, [], ◌∷◌, refl, sym, ◌∙◌, ap, subst}
use Rattle.fo_image.specs.declared.types.Kind.{Kind}
use Rattle.fo_image.specs.declared.types.Kind.TheVariants.{Data, Dir, Root}
use Rattle.fo_image.specs.declared.types.Pointer.TheVariants.{Local}
use Rattle.fo_crash.specs.declared.slot.Slot.{Slot}
use Rattle.fo_crash.specs.declared.place.Place.{Place}
use Rattle.fo_crash.specs.Images.{Image, Arena, target, local, walk, to_block}
use Rattle.fo_crash.specs.Places.{super_place, IsPlaced}
use Rattle.fo_crash.specs.Spots.{Spot, FoundAt, FewSlots, spot_below, top_spot, spot_at}
use Rattle.fo_crash.proofs.Spots.{same_path}
use Rattle.fo_ports.specs.State.{State}
use Rattle.fo_ports.specs.Shown.{active}
use Rattle.fo_dir_images.proofs.Trailing.{level_of, spot, local_is, AtTrail, read_at}
use Rattle.fo_dir_names.proofs.Sources.{IsRanked}
use Rattle.fo_dir_fit.specs.Fit.{HaveOneBlock}

-- ---- a root block is no leaf but the first

below_first : (kind : Kind) (tag index rank : ℕ) (trail : List ℕ) (i : ℕ) (s : Slot) → (spot_below (spot kind tag index rank trail) i s).place.kind ≡ Root → (spot_below (spot kind tag index rank trail) i s).place.index ≡ 0
below_first (Data zero) tag index rank trail i s e = let no : Data zero ≡ Root = e in absurd (cc)
below_first (Data (suc l)) tag index rank trail i s e = let no : Data l ≡ Root = e in absurd (cc)
below_first (Dir zero) tag index rank trail i s e = refl
below_first (Dir (suc l)) tag index rank trail i s e = let no : Dir l ≡ Root = e in absurd (cc)
below_first Root tag index rank trail i s e = refl

pub root_first : (image : Image) (path : List ℕ) (p : Spot) (s : Slot) → (p.place.kind ≡ Root → p.place.index ≡ 0) → (spot_at image p s path).place.kind ≡ Root → (spot_at image p s path).place.index ≡ 0
root_first image [] p s first = first
root_first image (i ∷ path) p s first =
    let t = (local image (target s)).slot i in
    root_first image path (spot_below p i t) t (below_first p.place.kind p.place.tag p.place.index p.place.rank p.trail i t)

-- ---- what is found

-- from block 1
record Found (image : Image) (b : ℕ) (p : Spot) : Type 0 where
  path : List ℕ
  leads : target (walk image (to_block 1) path) ≡ Local b
  spot_is : spot_at image (top_spot 1) (to_block 1) path ≡ p

from_super : (image : Image) (b : ℕ) (p : Spot) → FoundAt active image b p → Found image b p
from_super image b p found = record {
  path = found.path;
  leads = subst (λ t. target (walk image (to_block t) found.path) ≡ Local b) found.is_top found.leads;
  spot_is = subst (λ t. spot_at image (top_spot t) (to_block t) found.path ≡ p) found.is_top found.spot;
}

module _ {stands : ℕ → Place → Type 0} {image : Image} (placed : IsPlaced stands image) (few : FewSlots stands image) (super_at : stands 1 super_place) where
  -- paths that come to one spot are one path
  same_block : (b c : ℕ) (p : Spot) → FoundAt active image b p → FoundAt active image c p → b ≡ c
  same_block b c p first second =
      let x = from_super image b p first in
      let y = from_super image c p second in
      let path = same_path placed few super_at x.path y.path b c x.leads y.leads (x.spot_is ∙ sym y.spot_is) in
      local_is (sym x.leads ∙ ap (λ way. target (walk image (to_block 1) way)) path ∙ y.leads)

  -- a block that is found at the spot of a leaf is read there
  pub read_found : (arena : Arena) (b : ℕ) (p : Spot) → level_of p.place.kind ≡ 0 → FoundAt active image b p → AtTrail arena image p.trail p.place.index b
  read_found arena b p level found = let x = from_super image b p found in read_at placed few arena x.path b p super_at x.leads x.spot_is level

pub one_block : (s : State) → s.stands 1 super_place → ((image : Image) → s.may_leave image → IsRanked s image) → HaveOneBlock s
one_block s super_at ranked = record { each = λ image p b c may first second. same_block (ranked image may).placed (ranked image may).few super_at b c p first second }
