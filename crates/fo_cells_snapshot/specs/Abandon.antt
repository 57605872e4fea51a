-- A snapshot is given up: its super block is overruled, and the root that it named waits to be closed.
use Rattle.std.specs.Prelude.{◌≡◌, ◌≢◌, ℕ, Bool, List, [], ◌∷◌, ◌++◌, map}
use Rattle.std.specs.List.{Contains}
use Rattle.fo_disk.specs.Disk.{Content as Holds}
use Rattle.fo_image.specs.declared.types.Pointer.TheVariants.{Local}
use Rattle.fo_image.specs.declared.types.State.TheVariants.{Live}
use Rattle.fo_crash.specs.declared.slot.Slot.{Slot}
use Rattle.fo_crash.specs.declared.place.Place.{Place}
use Rattle.fo_crash.specs.Images.{target}
use Rattle.fo_cells.specs.Known.{Known, MaySlot, Stands}
use Rattle.fo_cells.specs.Safe.{super_top}
use Rattle.fo_cells.specs.Device.{known}
use Rattle.fo_cells_out.specs.Parents.{Tree}
use Rattle.fo_cells_epochs.specs.Epochs.{Root, FewerTops, HasEpochs, IsRead, root_top}
use Rattle.fo_cells_all.specs.All.{Kept, Format, HoldsBeside}
use Rattle.fo_cells_steps.specs.Division.{HoldsMade, division}
use Rattle.fo_cells_turns.specs.Opening.{none_made, no_origins}

-- From before the new root was given out (`first`) until the super block that named it is overruled (`new`): nothing but the new root changed
-- in memory, it leads into the tree, and nothing leads to it; no other slot that leads on may be there anew.
pub record AbandonsQueue (next : ℕ) (first new : Known) (t : Tree) (roots : List Root) : Type 0 where
  pub memory : (a i : ℕ) → a ≢ next → (new.memory a).slot i ≡ (first.memory a).slot i
  pub leads : (i b : ℕ) → target ((new.memory next).slot i) ≡ Local b → t.Within b
  pub may : (a i b : ℕ) (s : Slot) → a ≢ next → MaySlot new a i s → target s ≡ Local b → MaySlot first a i s
  pub unled : (a i : ℕ) (s : Slot) (p : Place) → Stands new a p → MaySlot new a i s → target s ≡ Local next → ⊥
  pub other : next ≢ 1
  pub root : (r : Root) → Contains roots r → r.at ≢ next
  pub fresh : (t.Within next → ⊥) × (t.Covered next → ⊥)
  pub label : (b : ℕ) → b ≢ next → new.label b ≡ first.label b
  pub live : (new.label next).state ≡ Live

-- `first` is kept before the new root is given out, with nothing made; `c` once the super block that named it is overruled; in `d` the root is
-- a top no more, and waits after block 1.
pub record Abandons (next : ℕ) (first c d : Kept) (f : Format) (later : List Bool) (before holds : Holds) : Type 0 where
  pub active : first.active ≡ super_top ∷ []
  pub epochs : HasEpochs (known c.mind holds) first.high f.high_of d.doubts c.active first.roots
  pub fewer : FewerTops c.active (super_top ∷ [])
  pub mind : d.mind ≡ record c.mind { tops = super_top ∷ map root_top first.roots }
  pub queue : AbandonsQueue next (known first.mind before) (known d.mind holds) (division first none_made) first.roots
  pub beside : HoldsBeside d f later holds
  pub read : IsRead f.high_of
  pub high_now : d.high ≡ first.high
  pub active_now : d.active ≡ super_top ∷ []
  pub roots_now : d.roots ≡ first.roots
  pub past_now : d.past ≡ first.past
  pub queue_now : d.queue ≡ first.queue ++ record { blocks = next ∷ []; after = 1 } ∷ []

abbrev pub AbandonHolds : Type 0
AbandonHolds = (next : ℕ) (first c d : Kept) (f : Format) (unsure later : List Bool) (before holds : Holds) → Abandons next first c d f later before holds → HoldsMade first f none_made no_origins unsure before → HoldsMade d f none_made no_origins later holds
