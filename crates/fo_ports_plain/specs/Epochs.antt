-- An epoch begins.
use Rattle.std.specs.Prelude.{◌≡◌, ◌≢◌, ◌⊎◌, ◌↔◌, ◌+◌, ℕ}
use Rattle.fo_image.specs.declared.types.State.TheVariants.{Live}
use Rattle.fo_crash.specs.declared.place.Place.{Place}
use Rattle.fo_crash.specs.declared.slot.Slot.TheVariants.{Prev}
use Rattle.fo_crash.specs.Images.{SameContent, SameImage, to_block}
use Rattle.fo_crash.specs.Places.{root_place}
use Rattle.fo_ports.specs.State.{State}

-- A new root block, which was not in use, is that of the next epoch: it leads where the old one leads, which is kept; block 1 leads to
-- it. All else stays.
pub record Begins (old new : State) : Type 0 where
  pub high : new.high ≡ old.high + 1
  pub unused : ((old.label new.root).state ≢ Live) × (new.root ≢ 1) × (new.root ≢ old.root)
  pub label : new.label new.root ≡ record (old.label old.root) { epoch = new.high }
  pub labels : (b : ℕ) → b ≢ new.root → new.label b ≡ old.label b
  pub tops : (t : ℕ) → new.tops t ↔ (old.tops t ⊎ (t ≡ new.root))
  pub bytes : ((new.now new.root).bytes ≡ (old.now old.root).bytes) × ((new.now 1).bytes ≡ (old.now 1).bytes)
  pub slots : (i : ℕ) → i ≢ 2 → (new.now new.root).slot i ≡ (old.now old.root).slot i
  pub before : (new.now new.root).slot 2 ≡ Prev (old.label old.root).epoch old.root
  pub way : ((new.now 1).slot 0 ≡ to_block new.root) × ((i : ℕ) → i ≢ 0 → (new.now 1).slot i ≡ (old.now 1).slot i)
  pub blocks : (b : ℕ) → b ≢ 1 → b ≢ new.root → SameContent (new.now b) (old.now b)
  pub place : new.stands new.root root_place
  pub places : (b : ℕ) (p : Place) → old.stands b p → new.stands b p
  pub apart : (b : ℕ) → (new.apart b ↔ old.apart b) × ((x : ℕ) → new.instead b x ↔ old.instead b x)
  pub marks : (b : ℕ) → (new.is_block b ↔ old.is_block b) × (old.pinned b → new.pinned b)
  pub waits : (a on j : ℕ) → new.waits a on j ↔ old.waits a on j
  pub numbers : (new.spare + 1 ≡ old.spare) × (new.room ≡ old.room) × (new.pins_left ≡ old.pins_left) × (new.next ≡ old.next) × (new.queued ≡ old.queued)

-- The root block of an earlier epoch is kept no more, and so is no top. All else stays.
pub record Forgets (at : ℕ) (old new : State) : Type 0 where
  pub tops : (t : ℕ) → new.tops t ↔ (old.tops t × (t ≢ at))
  pub memory : SameImage new.now old.now
  pub labels : (b : ℕ) → new.label b ≡ old.label b
  pub epochs : (new.high ≡ old.high) × (new.root ≡ old.root)
  pub places : (b : ℕ) (p : Place) → old.stands b p → new.stands b p
  pub apart : (b : ℕ) → (new.apart b ↔ old.apart b) × ((x : ℕ) → new.instead b x ↔ old.instead b x)
  pub marks : (b : ℕ) → (new.is_block b ↔ old.is_block b) × (old.pinned b → new.pinned b)
  pub numbers : (new.spare ≡ old.spare) × (new.room ≡ old.room) × (new.pins_left ≡ old.pins_left) × (new.next ≡ old.next) × (new.queued ≡ old.queued)
