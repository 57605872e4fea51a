-- Where every image is what memory has, they show what memory shows.
use Rattle.std.proofs.Common.{◌≡◌, ℕ, List, [], ◌∷◌, refl, sym, ◌∙◌, ap, subst}
use Rattle.fo_image.specs.declared.types.Pointer.{Pointer}
use Rattle.fo_image.specs.declared.types.Pointer.TheVariants.{Nil, Local, Score as Held}
use Rattle.fo_crash.specs.declared.slot.Slot.{Slot}
use Rattle.fo_crash.specs.Images.{Image, target, local, to_block}
use Rattle.fo_crash.specs.Steps.{AllAre}
use Rattle.fo_crash.specs.Spots.{Spot, spot_below, top_spot, spot_at}
use Rattle.fo_crash.proofs.Reach.{same_walk}
use Rattle.fo_ports.specs.State.{State}
use Rattle.fo_shown.specs.Shown.{IsShownAt}
use Rattle.fo_dir_put.specs.Once.{StandOnce}
use Rattle.fo_dir_names.specs.Settled.{memory}

-- what shows no more stands once where the rest does
once_less : {images others : Image → Type 0} → ((p : Spot) (bytes : List ℕ) → IsShownAt images p bytes → IsShownAt others p bytes) → StandOnce others → StandOnce images
once_less less once = record {
  within = λ p bytes of shown. once.within p bytes of (less p bytes shown);
  between = λ p q xs ys r t of_p of_q ne first second in_xs in_ys clash. once.between p q xs ys r t of_p of_q ne (less p xs first) (less q ys second) in_xs in_ys clash;
}

same_spot : (image other : Image) → ((a i : ℕ) → (image a).slot i ≡ (other a).slot i) → (path : List ℕ) (p : Spot) (s : Slot) → spot_at image p s path ≡ spot_at other p s path
same_spot image other same [] p s = refl
same_spot image other same (i ∷ path) p s =
    ap (λ x. spot_at image (spot_below p i x) x path) (one (target s))
    ∙ same_spot image other same path (spot_below p i ((local other (target s)).slot i)) ((local other (target s)).slot i)
  where
    one : (x : Pointer) → (local image x).slot i ≡ (local other x).slot i
    one Nil = refl
    one (Held x) = refl
    one (Local a) = same a i

pub settled : (s : State) → AllAre s.now s.may_leave → StandOnce (memory s) → StandOnce s.may_leave
settled s all once = once_less
    (λ p bytes shown.
    let same = all.each shown.image shown.is in
    let slots : (a i : ℕ) → (shown.image a).slot i ≡ (s.now a).slot i = λ a i. (same.each a).slots i in
    let found = shown.found in
    record {
      image = s.now;
      is = refl;
      block = shown.block;
      found = record {
        top = found.top;
        is_top = found.is_top;
        path = found.path;
        leads = ap target (sym (same_walk shown.image s.now slots found.path (to_block found.top))) ∙ found.leads;
        spot = sym (same_spot shown.image s.now slots found.path (top_spot found.top) (to_block found.top)) ∙ found.spot;
      };
      same = sym (same.each shown.block).bytes ∙ shown.same;
    })
    once

pub present : (s : State) → s.may_leave s.now → StandOnce s.may_leave → StandOnce (memory s)
present s now once = once_less (λ p bytes shown. record { image = shown.image; is = subst s.may_leave (sym shown.is) now; block = shown.block; found = shown.found; same = shown.same }) once
