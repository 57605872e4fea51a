-- Labels of free and of live blocks, and which blocks may be given out (the labels and epochs of the Fossil paper, "Fossil, an Archival File Server").
use Rattle.std.specs.Prelude.{ℕ, ◌-◌, ◌^◌, ◌==◌, ◌||◌, Bool, true, false, nat_le}
use Rattle.fo_image.specs.declared.types.State.{State}
use Rattle.fo_image.specs.declared.types.State.TheVariants.{Free, Live, Closed}
use Rattle.fo_image.specs.declared.types.Kind.{Kind}
use Rattle.fo_image.specs.declared.types.Kind.TheVariants.{Data}
use Rattle.fo_image.specs.declared.types.Label.{Label}

-- the label of a block that is free
abbrev pub free_label : Label
free_label = record { state = Free; kind = Data 0; tag = 0; epoch = 0; closing = 0 }

-- the label of a block that is given out
abbrev pub live_label : Kind → ℕ → ℕ → Label
live_label kind tag epoch = record { state = Live; kind = kind; tag = tag; epoch = epoch; closing = 2 ^ 32 - 1 }

-- A free block may be given out, and a closed one that no snapshot from the low epoch on holds: it was closed in the epoch in
-- which it was given out, or at an epoch that is not above the low one.
abbrev pub is_usable_in : State → ℕ → Label → Bool
is_usable_in Free low l = true
is_usable_in Live low l = false
is_usable_in Closed low l = (l.closing == l.epoch) || nat_le l.closing low

abbrev pub is_usable : ℕ → Label → Bool
is_usable low l = is_usable_in l.state low l
