-- Where one path leads to each block, no block of a tree is at two places.
use Rattle.std.proofs.Common.{◌≡◌, ℕ, List, ◌∷◌, sym, subst}
use Rattle.fo_image.specs.declared.types.Pointer.TheVariants.{Local}
use Rattle.fo_crash.specs.declared.slot.Slot.{Slot}
use Rattle.fo_crash.specs.Images.{Image, Arena, IsArena, target, walk, to_block, from_block}
use Rattle.fo_crash.specs.Spots.{OnePath}
use Rattle.fo_crash.proofs.Reach.{walks}
use Rattle.fo_good.specs.Trees.{IsTree}

pub once : {arena : Arena} {image : Image} {root : ℕ} → IsArena arena → OnePath root image → IsTree arena image root
once {arena} {image} {root} is one = record { once = λ p q at a b. one.each at p q (walks arena image is p (from_block root) at a) (walks arena image is q (from_block root) at b) }

-- The active tree hangs from block 1.
pub below_super : {image : Image} {root : ℕ} → (image 1).slot 0 ≡ to_block root → OnePath 1 image → OnePath root image
below_super {image} {root} leads one = record { each = λ b p q x y. rest p q (one.each b (0 ∷ p) (0 ∷ q) (up p b x) (up q b y)) }
  where
    up : (path : List ℕ) (b : ℕ) → target (walk image (to_block root) path) ≡ Local b → target (walk image ((image 1).slot 0) path) ≡ Local b
    up path b e = subst (λ (s : Slot). target (walk image s path) ≡ Local b) (sym leads) e

    rest : (p q : List ℕ) → 0 ∷ p ≡ 0 ∷ q → p ≡ q
    rest p q e = cc
