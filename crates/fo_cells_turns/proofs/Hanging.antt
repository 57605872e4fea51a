-- What was made hangs from no top in any image.
use Rattle.std.proofs.Common.{◌≡◌, ◌⊎◌, inl, inr, ⊎_elim, ℕ, Bool, List, [], sym, subst, arith}
use Rattle.std.specs.List.{Contains}
use Rattle.fo_disk.specs.Disk.{Content as Holds}
use Rattle.fo_image.specs.declared.types.Pointer.TheVariants.{Local}
use Rattle.fo_crash.specs.declared.place.Place.{Place}
use Rattle.fo_crash.specs.Images.{Image, Reaches, target, to_block}
use Rattle.fo_crash.specs.Places.{super_place, root_place, place_below}
use Rattle.fo_cells.specs.Known.{Known, MaySlot, Images, Remains, Stands}
use Rattle.fo_cells.specs.Safe.{super_top}
use Rattle.fo_cells.specs.Device.{known}
use Rattle.fo_cells.proofs.Standing.{stands_top, stands_below, first_among}
use Rattle.fo_cells_out.specs.Parents.{view}
use Rattle.fo_cells_out.specs.Origins.{Origins}
use Rattle.fo_cells_out.proofs.Asked.{walk_keeps}
use Rattle.fo_cells_epochs.specs.Epochs.{Root, root_top, tree_of}
use Rattle.fo_cells_epochs.proofs.Trees.{tree_stands}
use Rattle.fo_cells_steps.specs.of_cells_all.All.{Kept, Format}
use Rattle.fo_cells_steps.specs.Division.{HoldsMade}

-- an image's slot is one that may be there
image_may : (k : Known) (image : Image) → Images k image → (b j : ℕ) → MaySlot k b j ((image b).slot j)
image_may k image m b j = ⊎_elim (λ d. inl d) (λ r. inr (⊎_elim (λ is. inl is) (λ c. inr (c.leaf, c.waits, c.slot)) r)) (m.slots b j)

module _ {c : Kept} {f : Format} {Made : ℕ → Type 0} {h : Origins} {unsure : List Bool} {holds : Holds} (all : HoldsMade c f Made h unsure holds) (image : Image) (remains : Remains (known c.mind holds) image) where
  abbrev K : Known
  K = known c.mind holds

  -- from block 1: only what was made leads to what was made
  abbrev Unmade : ℕ → Type 0
  Unmade a = ((q : Place) × Stands (view K c.active) a q) × (Made a → ⊥)

  next_unmade : (a j z : ℕ) → Unmade a → target ((image a).slot j) ≡ Local z → Unmade z
  next_unmade a j z u e =
      let may = image_may K image remains.cells a j in (
        (place_below (u.0).0 j ((image a).slot j), stands_below j ((image a).slot j) z (u.0).1 may e),
        λ m. u.1 (all.all.queue.now.parents.made a j z ((image a).slot j) (u.0).0 (u.0).1 may e m),
      )

  from_one : (b : ℕ) → Made b → Reaches image (to_block 1) b → ⊥
  from_one b m r = (walk_keeps image Unmade next_unmade r.path (to_block 1) b (λ a e.
      let one : 1 ≡ a = cc in (
        (super_place, subst (λ z. Stands (view K c.active) z super_place) one (stands_top super_top all.all.epochs.trees.top)),
        λ made. all.all.queue.now.tree.apart a made (record { path = []; leads = e }),
      )) r.leads).1 m

  -- from a kept root: what hangs there is of an epoch before
  from_kept : (r : Root) → Contains c.roots r → (b : ℕ) → Made b → Reaches image (to_block r.at) b → ⊥
  from_kept r among b m p =
      let st = walk_keeps image (λ a. (q : Place) × Stands (tree_of K r) a q) (λ a j z q e. (place_below q.0 j ((image a).slot j), stands_below j ((image a).slot j) z q.1 (image_may K image remains.cells a j) e)) p.path (to_block r.at) b (λ a e.
      let is : r.at ≡ a = cc in
      (root_place, subst (λ z. Stands (tree_of K r) z root_place) is (stands_top (root_top r) (first_among (root_top r) [])))) p.leads in
      let late = all.all.epochs.trees.late r b st.0 among st.1 in
      let begun = late.1.begun in
      let kept = (all.all.epochs.trees.kept r among).1 in
      all.all.queue.now.forest.young b m (late.0, all.all.queue.live b (inr m), omega (arith, begun, kept))

  pub made_hangs : (t b : ℕ) → (t ≡ 1) ⊎ ((r : Root) × Contains c.roots r × (r.at ≡ t)) → Made b → Reaches image (to_block t) b → ⊥
  made_hangs t b is m r = ⊎_elim
      (λ one. from_one b m (subst (λ z. Reaches image (to_block z) b) one r))
      (λ k. from_kept k.0 k.1 b m (subst (λ z. Reaches image (to_block z) b) (sym k.2) r))
      is

pub roots_stand : {c : Kept} {f : Format} {Made : ℕ → Type 0} {h : Origins} {unsure : List Bool} {holds : Holds} → HoldsMade c f Made h unsure holds → (r : Root) → Contains c.roots r → Stands (known c.mind holds) r.at root_place
roots_stand all r among = tree_stands all.all.epochs.trees r among r.at root_place (stands_top (root_top r) (first_among (root_top r) []))
