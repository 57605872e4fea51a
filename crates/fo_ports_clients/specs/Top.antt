-- What it means to raise a new top over a source.
use Rattle.std.specs.Prelude.{◌≡◌, ◌≢◌, ◌⊎◌, ◌+◌, ◌-◌, ◌^◌, ℕ}
use Rattle.fo_image.specs.declared.types.Label.{Label}
use Rattle.fo_image.specs.declared.types.State.TheVariants.{Live}
use Rattle.fo_image.specs.declared.types.Pointer.TheVariants.{Nil, Local}
use Rattle.fo_crash.specs.declared.slot.Slot.{Slot}
use Rattle.fo_crash.specs.declared.slot.Slot.TheVariants.{Pointer as To, Entry as Head, Prev}
use Rattle.fo_crash.specs.declared.place.Place.{Place}
use Rattle.fo_crash.specs.Images.{Image, target, to_block}
use Rattle.fo_crash.specs.Places.{place_below}

-- the entry of the source with one level more, of this size, with this top
abbrev pub raised : Slot → ℕ → ℕ → Slot
raised (To p) size to = To p
raised (Head e) size to = Head (record e { depth = e.depth + 1; size = size; top = Local to })
raised (Prev epoch at) size to = Prev epoch at

-- the label of the block of this epoch that the entry in slot i leads to
abbrev pub top_label : Place → ℕ → Slot → ℕ → Label
top_label p i s epoch = record { state = Live; kind = (place_below p i s).kind; tag = (place_below p i s).tag; epoch = epoch; closing = 2 ^ 32 - 1 }

-- In memory the entry leads to the new top, whose first slot alone leads on, to what hung from the entry; all else stays.
pub record RaisesTop (at i below size top : ℕ) (old new : Image) : Type 0 where
  pub entry : (new at).slot i ≡ raised ((old at).slot i) size top
  pub over : (new top).slot 0 ≡ to_block below
  pub rest : (j : ℕ) → j ≢ 0 → target ((new top).slot j) ≡ Nil
  pub slots : (b j : ℕ) → b ≢ top → (b ≢ at) ⊎ (j ≢ i) → (new b).slot j ≡ (old b).slot j
  pub bytes : (b : ℕ) → b ≢ top → (new b).bytes ≡ (old b).bytes

-- A new image is one of before in all but the new block, and in this slot may have what was put.
pub record PutsOne (at i : ℕ) (slot : Slot) (block : ℕ) (old new : Image → Type 0) : Type 0 where
  pub each : (image : Image) → new image → (other : Image) × old other × ((b : ℕ) → b ≢ block → ((image b).bytes ≡ (other b).bytes) × ((j : ℕ) → ((image b).slot j ≡ (other b).slot j) ⊎ ((b ≡ at) × (j ≡ i) × ((image b).slot j ≡ slot))))
