-- A made block gets its index; and one is queued alone.
use Rattle.fo_image.specs.declared.types.Pointer.TheVariants.{Local}
use Rattle.fo_crash.specs.Images.{Reaches, target, to_block}
use Rattle.std.specs.Prelude.{◌≡◌, ◌≢◌, ℕ, Bool, List, ◌++◌, map, [], ◌∷◌}
use Rattle.std.specs.List.{Contains}
use Rattle.fo_disk.specs.Disk.{Content as Holds}
use Rattle.fo_crash.specs.declared.place.Place.{Place}
use Rattle.fo_crash.specs.Steps.{AddsNothing}
use Rattle.fo_cells.specs.Known.{Top, IsWait}
use Rattle.fo_cells.specs.Calls.{Indexes}
use Rattle.fo_cells.specs.Device.{known}
use Rattle.fo_cells_out.specs.Origins.{Origins}
use Rattle.fo_cells_held.specs.Room.{Used}
use Rattle.fo_cells_epochs.specs.Epochs.{MovesTop, root_top}
use Rattle.fo_cells_all.specs.All.{Kept, Format}
use Rattle.fo_cells_steps.specs.Division.{HoldsMade}
use Rattle.fo_cells_steps.specs.Calls.{SameEpoch, KeepsTops, Beside, images}
use Rattle.fo_cells_puts.specs.Putting.{put_after}

-- A block that was put into no slot yet, and for which nothing waits, is at another place: it alone of the tops.
pub record IndexesOne (at : ℕ) (q : Place) (c d : Kept) (Apart : ℕ → Type 0) (holds : Holds) : Type 0 where
  pub indexes : Indexes at q (known c.mind holds) (known d.mind holds)
  pub apart : Apart at
  pub current : (c.mind.label at).epoch ≡ c.high
  pub unwaited : (leaf on j : ℕ) → IsWait c.mind.waits leaf on j → (leaf ≢ at) × (on ≢ at)
  pub moves : MovesTop at q c.active d.active
  pub here : Contains d.active (record { at = at; place = q })
  pub others : (y : Top) → Contains c.active y → y.at ≢ at → Contains d.active y
  pub tops : d.mind.tops ≡ d.active ++ map root_top c.roots
  pub epoch : SameEpoch c d
  pub queue : d.queue ≡ c.queue

abbrev pub IndexKeeps : (ℕ → Type 0) → Origins → Type 0
IndexKeeps Made h = (at : ℕ) (q : Place) (c d : Kept) (f : Format) (x : Used) (unsure : List Bool) (holds : Holds) → IndexesOne at q c d h.Apart holds → Beside c d f x holds → HoldsMade c f Made h unsure holds → AddsNothing (images c holds) (images d holds) × HoldsMade d f Made h unsure holds

-- A MADE BLOCK IS QUEUED ALONE, which hangs nowhere and leads into the tree, as a new root that no super block came to name. It is a top no
-- more, and waits after a block of the tree.
pub record SetsAside (b after : ℕ) (c d : Kept) (Made Apart : ℕ → Type 0) : Type 0 where
  pub apart : Apart b
  pub leads : (j z : ℕ) → target ((c.mind.memory b).slot j) ≡ Local z → Reaches c.mind.memory (to_block 1) z
  pub within : Reaches c.mind.memory (to_block 1) after
  pub mind : d.mind ≡ record c.mind { tops = d.active ++ map root_top c.roots }
  pub keeps : KeepsTops c d (λ a. Made a × (a ≢ b)) (λ a. Apart a × (a ≢ b))
  pub epoch : SameEpoch c d
  pub queue : d.queue ≡ c.queue ++ record { blocks = b ∷ []; after = after } ∷ []

abbrev pub AsideKeeps : (ℕ → Type 0) → Origins → Type 0
AsideKeeps Made h = (b after : ℕ) (c d : Kept) (f : Format) (x : Used) (unsure : List Bool) (holds : Holds) → SetsAside b after c d Made h.Apart → Beside c d f x holds → HoldsMade c f Made h unsure holds → AddsNothing (images c holds) (images d holds) × HoldsMade d f (λ a. Made a × (a ≢ b)) (put_after h b) unsure holds
