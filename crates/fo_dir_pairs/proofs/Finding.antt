-- Blocks at spots of images.
use Rattle.std.proofs.Common.{◌≡◌, ℕ, ◌+◌, ◌*◌, ◌%◌, List, refl, sym, ◌∙◌, ap, subst}
use Rattle.fo_image.specs.declared.record.Record.{Record}
use Rattle.fo_image.specs.declared.types.Pointer.TheVariants.{Local}
use Rattle.fo_crash.specs.Images.{Image, Reaches, target, walk, to_block}
use Rattle.fo_crash.specs.Places.{super_place, IsPlaced}
use Rattle.fo_crash.specs.Spots.{Spot, FoundAt, OneSpot, FewSlots, spot_at, top_spot}
use Rattle.fo_crash.proofs.Spots.{same_path}
use Rattle.fo_ports.specs.State.{State}
use Rattle.fo_ports.specs.Shown.{active}
use Rattle.fo_dir_put.proofs.Once.{found_on}
use Rattle.fo_dir_put.proofs.Paired.{both_on}
use Rattle.fo_dir_pairs.specs.Pairs.{IsNamed, HasPairAt}

-- What is known of images where the device tells.
pub record HasWays (s : State) : Type 0 where
  pub top : s.tops 1
  pub one_spot : OneSpot s.tops s.may_leave
  pub present : s.may_leave s.now
  pub super_at : s.stands 1 super_place
  pub placed : (image : Image) → s.may_leave image → IsPlaced s.stands image
  pub few : (image : Image) → s.may_leave image → FewSlots s.stands image

local_is : {a b : ℕ} → Local a ≡ Local b → a ≡ b
local_is e = cc

-- the way to a block that is found
pub way_leads : {image : Image} {b : ℕ} {p : Spot} → (f : FoundAt active image b p) → target (walk image (to_block 1) f.path) ≡ Local b
way_leads {image} {b} f = subst (λ t. target (walk image (to_block t) f.path) ≡ Local b) f.is_top f.leads

pub way_spot : {image : Image} {b : ℕ} {p : Spot} → (f : FoundAt active image b p) → spot_at image (top_spot 1) (to_block 1) f.path ≡ p
way_spot {image} {b} {p} f = subst (λ t. spot_at image (top_spot t) (to_block t) f.path ≡ p) f.is_top f.spot

pub reach_found : {image : Image} {b : ℕ} → Reaches image (to_block 1) b → (p : Spot) × FoundAt active image b p
reach_found {image} r = (spot_at image (top_spot 1) (to_block 1) r.path, record { top = 1; is_top = refl; path = r.path; leads = r.leads; spot = refl })

-- one block, one spot
pub same_spot : {s : State} {image other : Image} {b : ℕ} {p q : Spot} → HasWays s → s.may_leave image → s.may_leave other → FoundAt active image b p → FoundAt active other b q → p ≡ q
same_spot {s} {image} {other} {b} {p} {q} ways is was f h = ways.one_spot.each image other b p q is was (kept f) (kept h)
  where
    kept : {x : Image} {z : Spot} → FoundAt active x b z → FoundAt s.tops x b z
    kept k = record { top = k.top; is_top = subst s.tops (sym k.is_top) ways.top; path = k.path; leads = k.leads; spot = k.spot }

-- one spot, one block
pub same_block : {s : State} {image : Image} {b c : ℕ} {p : Spot} → HasWays s → s.may_leave image → FoundAt active image b p → FoundAt active image c p → b ≡ c
same_block {s} {image} {b} {c} ways is f h =
    let path = same_path {t = 1} (ways.placed image is) (ways.few image is) ways.super_at f.path h.path b c (way_leads f) (way_leads h) (way_spot f ∙ sym (way_spot h)) in
    local_is (sym (way_leads f) ∙ ap (λ x. target (walk image (to_block 1) x)) path ∙ way_leads h)

-- a block that hangs from block 1 in each image is found where memory has it
pub there_found : {s : State} {image : Image} {b : ℕ} {p : Spot} → HasWays s → Reaches image (to_block 1) b → s.may_leave image → FoundAt active s.now b p → FoundAt active image b p
there_found {s} {image} {b} {p} ways hangs is f =
    let h = reach_found hangs in
    subst (λ z. FoundAt active image b z) (sym (same_spot ways ways.present is f h.1)) h.1

-- ---- images with the same slots

pub named_on : {image other : Image} {trail : List ℕ} {tag : ℕ} → ((a i : ℕ) → (image a).slot i ≡ (other a).slot i) → IsNamed image trail tag → IsNamed other trail tag
named_on same n = record {
  block = n.block;
  at = n.at;
  slot = n.slot;
  entry = n.entry;
  found = found_on same n.found;
  holds = n.holds;
  within = n.within;
  is = sym (same n.block n.slot) ∙ n.is;
  used = n.used;
  trail_is = n.trail_is;
  tag_is = n.tag_is;
}

pub pair_on : {image other : Image} {p : Spot} {r : Record} → ((a i : ℕ) → (image a).slot i ≡ (other a).slot i) → HasPairAt image p r → HasPairAt other p r
pair_on {image} {other} {p} {r} same h = record {
  block = h.block;
  found = found_on same h.found;
  both = both_on (sym (same h.block (2 * (r.slot % 102)))) (sym (same h.block (2 * (r.slot % 102) + 1))) h.both;
}
