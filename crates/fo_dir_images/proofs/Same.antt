-- A block that is there, and is a leaf of a directory in memory, is this leaf in each image.
use Rattle.std.proofs.Common.{◌≡◌, ℕ, List, [], ◌∷◌, ◌++◌, ◌*◌, ◌+◌, refl, sym, ◌∙◌, ap, subst}
use Rattle.fo_crash.specs.Images.{Image, Arena, Link, IsArena, step, to_block, from_block, entry_of, file_link}
use Rattle.fo_crash.specs.Places.{super_place, IsPlaced}
use Rattle.fo_crash.specs.Spots.{Spot, FoundAt, OneSpot, FewSlots, OnePath, top_spot, spot_at}
use Rattle.fo_crash.proofs.Spots.{one_path}
use Rattle.fo_good.specs.Trees.{IsDir}
use Rattle.fo_good.specs.Trees.IsDir.{top as dir_top, below as dir_below}
use Rattle.fo_ports.specs.State.{State}
use Rattle.fo_dir_put.specs.There.{IsThere}
use Rattle.fo_dir_images.specs.Leaves.{Side, Entries, Records, records_link, source_link, IsLeafOf, ReadsDirs}
use Rattle.fo_dir_images.proofs.Trailing.{local_is, AtTrail, read_at}
use Rattle.fo_dir_images.proofs.Placing.{On, FoundLeaf, found_leaf}
use Rattle.fo_dir_images.proofs.Siding.{numbers, to_trail, from_trail, one_source}

-- what is known of an image where the device tells
pub record IsShown (s : State) (image : Image) : Type 0 where
  pub leaves : s.may_leave image
  pub placed : IsPlaced s.stands image
  pub few : FewSlots s.stands image

pub record HasLaws (s : State) : Type 0 where
  pub super_at : s.stands 1 super_place
  pub one_spot : OneSpot s.tops s.may_leave
  pub active : s.tops 1
  pub now : IsShown s s.now
  pub named : (s.now 1).slot 0 ≡ to_block s.root

-- a block that a path from block 1 comes to is found
found_at : (s : State) {image : Image} {b : ℕ} {p : Spot} → s.tops 1 → On s.stands image b p → FoundAt s.tops image b p
found_at s is on = record { top = 1; is_top = is; path = on.path; leads = on.leads; spot = on.spot_is }

pub leaf_found : {s : State} {arena : Arena} {image : Image} (side : Side) (root n b : ℕ) (trail : List ℕ) → HasLaws s → IsShown s image → IsArena arena → (image 1).slot 0 ≡ to_block root → IsLeafOf side arena image root trail n b → FoundLeaf s.stands image (numbers side trail) n b
leaf_found {s} {arena} {image} side root n b trail laws shown is named leaf = found_leaf shown.placed shown.few laws.super_at arena is (numbers side trail) n b (to_trail arena image root named side trail n b leaf)

pub same_leaf : {s : State} {arena : Arena} {image : Image} (side : Side) (root n b : ℕ) (trail : List ℕ) → HasLaws s → IsShown s image → IsArena arena → (image 1).slot 0 ≡ to_block root → IsThere s b → IsLeafOf side arena s.now s.root trail n b → IsLeafOf side arena image root trail n b
same_leaf {s} {arena} {image} side root n b trail laws shown is named there leaf =
    let was = leaf_found {s = s} {arena = arena} {image = s.now} side s.root n b trail laws laws.now is laws.named leaf in
    let path = there.hangs image shown.leaves in
    let here : Spot = spot_at image (top_spot 1) (to_block 1) path.path in
    let one : here ≡ was.at = laws.one_spot.each image s.now b here was.at shown.leaves laws.now.leaves (record { top = 1; is_top = laws.active; path = path.path; leads = path.leads; spot = refl }) (found_at s laws.active was.on) in
    let read = read_at shown.placed shown.few arena path.path b was.at laws.super_at path.leads one was.level_is in
    from_trail arena image root named side trail n b (subst (λ t. AtTrail arena image t n b) was.trail_is (subst (λ k. AtTrail arena image was.at.trail k b) was.index_is read))

pub one_leaf : {arena : Arena} {image : Image} (side : Side) (root n b c : ℕ) (trail : List ℕ) → IsLeafOf side arena image root trail n b → IsLeafOf side arena image root trail n c → b ≡ c
one_leaf side root n b c trail leaf other = local_is (sym leaf.leads ∙ other.leads)

pub lone_leaf : {s : State} {arena : Arena} {image : Image} (side other : Side) (root n m b : ℕ) (trail way : List ℕ) → HasLaws s → IsShown s image → IsArena arena → (image 1).slot 0 ≡ to_block root → IsLeafOf side arena image root trail n b → IsLeafOf other arena image root way m b → (side ≡ other) × (trail ≡ way) × (n ≡ m)
lone_leaf {s} {arena} {image} side other root n m b trail way laws shown is named leaf twin =
    let x = leaf_found {s = s} {arena = arena} {image = image} side root n b trail laws shown is named leaf in
    let y = leaf_found {s = s} {arena = arena} {image = image} other root m b way laws shown is named twin in
    let one : x.at ≡ y.at = laws.one_spot.each image image b x.at y.at shown.leaves shown.leaves (found_at s laws.active x.on) (found_at s laws.active y.on) in
    let source = one_source side other trail way (sym x.trail_is ∙ ap (λ (p : Spot). p.trail) one ∙ y.trail_is) in
    (source.0, source.1, sym x.index_is ∙ ap (λ (p : Spot). p.place.index) one ∙ y.index_is)

pub one_way : {s : State} {image : Image} → HasLaws s → IsShown s image → OnePath 1 image
one_way laws shown = one_path shown.placed shown.few laws.super_at laws.one_spot shown.leaves laws.active

-- ---- what is read along names

entries_more : (arena : Arena) (image : Image) (trail : List ℕ) (pair : ℕ) (w : Link) → file_link arena image w (trail ++ pair ∷ []) ≡ entry_of arena image (file_link arena image w trail) (2 * pair)
entries_more arena image [] pair w = refl
entries_more arena image (next ∷ trail) pair w = entries_more arena image trail pair (entry_of arena image w (2 * next))

records_more : (arena : Arena) (image : Image) (trail : List ℕ) (pair : ℕ) (w meta : Link) → records_link arena image w meta (trail ++ pair ∷ []) ≡ entry_of arena image (file_link arena image w trail) (2 * pair + 1)
records_more arena image [] pair w meta = refl
records_more arena image (next ∷ trail) pair w meta = records_more arena image trail pair (entry_of arena image w (2 * next)) (entry_of arena image w (2 * next + 1))

dir_read : (arena : Arena) (image : Image) (root : ℕ) (trail : List ℕ) (below meta : Link) → IsDir arena image root trail below meta → (source_link Entries arena image root trail ≡ below) × (source_link Records arena image root trail ≡ meta)
dir_read arena image root trail below meta dir_top = (refl, refl)
dir_read arena image root trail below meta (dir_below up e m k j r dir listed folder) =
    let above = (dir_read arena image root up e m dir).0 in (
      entries_more arena image up r.slot (step arena image (from_block root) 0) ∙ ap (λ w. entry_of arena image w (2 * r.slot)) above,
      records_more arena image up r.slot (step arena image (from_block root) 0) (step arena image (from_block root) 1) ∙ ap (λ w. entry_of arena image w (2 * r.slot + 1)) above,
    )

pub reads_dirs : (arena : Arena) (image : Image) (root : ℕ) → ReadsDirs arena image root
reads_dirs arena image root = record { each = λ trail below meta dir. dir_read arena image root trail below meta dir }
