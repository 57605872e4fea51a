-- What a path finds in one image, it finds in another that leads on in the same way.
use Rattle.std.proofs.Common.{◌≡◌, ℕ, zero, suc, ◌+◌, ◌*◌, List, [], ◌∷◌, refl, sym, ◌∙◌, ap, subst}
use Rattle.fo_ports.specs.of_image.declared.types.Kind.{Kind}
use Rattle.fo_ports.specs.of_image.declared.types.Kind.TheVariants.{Data, Dir, Root}
use Rattle.fo_ports.specs.of_image.declared.types.Pointer.{Pointer}
use Rattle.fo_ports.specs.of_image.declared.types.Pointer.TheVariants.{Nil, Local, Score as Held}
use Rattle.fo_crash.specs.declared.slot.Slot.{Slot}
use Rattle.fo_crash.specs.declared.place.Place.{Place}
use Rattle.fo_crash.specs.Images.{Image, target, local, walk, to_block}
use Rattle.fo_crash.specs.Places.{place, super_place, place_below, IsPlaced}
use Rattle.fo_crash.specs.Spots.{Spot, FoundAt, spot_below, top_spot, spot_at}
use Rattle.fo_crash.proofs.Reach.{lost}
use Rattle.fo_shown.specs.Shown.{active}

pub local_is : {a b : ℕ} → Local a ≡ Local b → a ≡ b
local_is e = cc

-- From a block and a spot of which `on` holds, the other image leads where this one does, to the same spot; and `on` holds there.
pub record Follows (on : ℕ → Spot → Type 0) (image other : Image) : Type 0 where
  pub each : (a j c : ℕ) (p : Spot) → on a p → target ((image a).slot j) ≡ Local c → (target ((other a).slot j) ≡ Local c) × (spot_below p j ((image a).slot j) ≡ spot_below p j ((other a).slot j)) × on c (spot_below p j ((image a).slot j))

-- From this slot and spot a path of an image leads to a block at a spot, of which `on` holds.
record Leads (on : ℕ → Spot → Type 0) (image : Image) (p : Spot) (s : Slot) (path : List ℕ) (b : ℕ) (q : Spot) : Type 0 where
  leads : target (walk image s path) ≡ Local b
  spot : spot_at image p s path ≡ q
  holds : on b q

follow : {on : ℕ → Spot → Type 0} {image other : Image} → Follows on image other → (path : List ℕ) (s t : Slot) (a b : ℕ) (p : Spot) → target s ≡ Local a → target t ≡ Local a → on a p → target (walk image s path) ≡ Local b → Leads on other p t path b (spot_at image p s path)
follow {on} {image} {other} follows [] s t a b p to to_too here e = record { leads = to_too ∙ sym to ∙ e; spot = refl; holds = subst (λ c. on c p) (local_is (sym to ∙ e)) here }
follow {on} {image} {other} follows (i ∷ path) s t a b p to to_too here e = by (target ((image a).slot i)) refl (λ c q r next on_it. follow follows path ((local image (target s)).slot i) ((local other (target t)).slot i) c b r q next on_it e)
  where
    u : Slot
    u = (local image (target s)).slot i

    v : Slot
    v = (local other (target t)).slot i

    u_is : u ≡ (image a).slot i
    u_is = ap (λ x. (local image x).slot i) to

    v_is : v ≡ (other a).slot i
    v_is = ap (λ x. (local other x).slot i) to_too

    by : (x : Pointer) → target ((image a).slot i) ≡ x → ((c : ℕ) → target u ≡ Local c → (r : Spot) → target v ≡ Local c → on c r → Leads on other r v path b (spot_at image r u path)) → Leads on other p t (i ∷ path) b (spot_at image p s (i ∷ path))
    by Nil q rest = absurd (lost image path u (λ c h. let x : Nil ≡ Local c = sym q ∙ ap target (sym u_is) ∙ h in cc) b e)
    by (Held x) q rest = absurd (lost image path u (λ c h. let y : Held x ≡ Local c = sym q ∙ ap target (sym u_is) ∙ h in cc) b e)
    by (Local c) q rest =
        let next = follows.each a i c p here q in
        let same : spot_below p i v ≡ spot_below p i u = ap (λ x. spot_below p i x) v_is ∙ sym next.1 ∙ ap (λ x. spot_below p i x) (sym u_is) in
        let on_it : on c (spot_below p i u) = subst (λ x. on c (spot_below p i x)) (sym u_is) next.2 in
        let way = rest c (ap target u_is ∙ q) (spot_below p i u) (ap target v_is ∙ next.0) on_it in
        record { leads = way.leads; spot = ap (λ x. spot_at other x v path) same ∙ way.spot; holds = way.holds }

-- What is found from block 1 is found there in the other image, and `on` holds of it.
pub found_on : {on : ℕ → Spot → Type 0} {image other : Image} {b : ℕ} {p : Spot} → Follows on image other → on 1 (top_spot 1) → FoundAt active image b p → FoundAt active other b p × on b p
found_on {on} {image} {other} {b} {p} follows first found =
    let start : on found.top (top_spot found.top) = subst (λ t. on t (top_spot t)) (sym found.is_top) first in
    let way = follow follows found.path (to_block found.top) (to_block found.top) found.top b (top_spot found.top) refl refl start found.leads in
    (record { top = found.top; is_top = found.is_top; path = found.path; leads = way.leads; spot = way.spot ∙ found.spot }, subst (λ x. on b x) found.spot way.holds)

-- one place below, one spot below
at_kind : (kind : Kind) (tag index rank : ℕ) (trail : List ℕ) (i : ℕ) (s t : Slot) → place_below (place kind tag index rank) i s ≡ place_below (place kind tag index rank) i t → spot_below (record { place = place kind tag index rank; trail = trail }) i s ≡ spot_below (record { place = place kind tag index rank; trail = trail }) i t
at_kind (Data level) tag index rank trail i s t e = ap (λ (x : Place). record { place = x; trail = trail }) e
at_kind (Dir zero) tag index rank trail i s t e = ap (λ (x : Place). record { place = x; trail = (204 * index + i) ∷ trail }) e
at_kind (Dir (suc level)) tag index rank trail i s t e = ap (λ (x : Place). record { place = x; trail = trail }) e
at_kind Root tag index rank trail i s t e = ap (λ (x : Place). record { place = x; trail = i ∷ trail }) e

pub same_below : (p : Spot) (i : ℕ) (s t : Slot) → place_below p.place i s ≡ place_below p.place i t → spot_below p i s ≡ spot_below p i t
same_below p i s t e = at_kind p.place.kind p.place.tag p.place.index p.place.rank p.trail i s t e

-- a block stands at the place of its spot
abbrev pub OnPlace : (ℕ → Place → Type 0) → ℕ → Spot → Type 0
OnPlace stands a p = stands a p.place

-- What is found from block 1 stands at the place of its spot.
pub found_stands : {stands : ℕ → Place → Type 0} {image : Image} {b : ℕ} {p : Spot} → stands 1 super_place → IsPlaced stands image → FoundAt active image b p → stands b p.place
found_stands {stands} {image} super_at placed found = (found_on {on = OnPlace stands} {other = image} (record { each = λ a j c p here to. (to, refl, placed.each a j c p.place here to) }) super_at found).1

-- What is known of images: block 1 stands at its place, and what a slot leads to stands at the place below.
pub record AllPlaced (stands : ℕ → Place → Type 0) (images : Image → Type 0) : Type 0 where
  pub super_at : (image : Image) → images image → stands 1 super_place
  pub each : (image : Image) → images image → IsPlaced stands image
