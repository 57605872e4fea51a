-- What closing leaves of memory.
use Rattle.std.specs.Prelude.{◌≡◌, ◌≢◌, ◌⊎◌, ◌≤◌, ℕ, true, false, List, length, None}
use Rattle.std.specs.List.{Contains}
use Rattle.fo_disk.specs.Disk.{Content as Holds}
use Rattle.fo_image.specs.declared.types.Label.{Label}
use Rattle.fo_image.specs.declared.types.State.TheVariants.{Closed as Shut, Live}
use Rattle.fo_image.specs.Place.{label_block}
use Rattle.fo_buffers.specs.Held.{held_at}
use Rattle.fo_order.specs.Turns.{flag_at}
use Rattle.fo_facts.specs.Known.{fact_at}
use Rattle.fo_labels.specs.Region.{closed_label, usable_count}
use Rattle.fo_unlink.specs.declared.removal.Removal.{Removal}
use Rattle.fo_waits.specs.Listed.{Listed}
use Rattle.fo_bring.specs.Holds.{StaysClean}
use Rattle.fo_mind.specs.Parts.{Parts, label_at}

-- a live label is closed now
abbrev pub Shuts : Label → Label → Type 0
Shuts old new = (old.state ≡ Live) × (new.state ≡ Shut)

-- A block was closed by one of these removals: at its epoch; it is of the tag of the block with which that begins, and is that block where it
-- goes alone; of no later epoch; not the root; and it was in the tree.
pub record ShutBy (removals : List Removal) (old new : Parts) (b : ℕ) : Type 0 where
  pub removal : Removal
  pub queued : Contains removals removal
  pub alone : removal.whole ≡ false → b ≡ removal.at
  pub live : (label_at old.region b).state ≡ Live
  pub is : label_at new.region b ≡ closed_label (label_at old.region b) removal.epoch
  pub tag : (label_at old.region b).tag ≡ (label_at old.region removal.at).tag
  pub begun : (label_at old.region b).epoch ≤ removal.epoch
  pub other : b ≢ old.one.active
  pub linked : (fact_at old.facts b).linked ≡ true

-- Labels stay, but that live ones may be closed, by removals that were queued; their blocks aren't held any more, and the blocks of their
-- labels have a turn. What else is held stays, and no other block has a turn that had none. Nobody begins to wait, and nothing is queued.
pub record Leaves (disk : Holds) (old new : Parts) : Type 0 where
  pub label : (b : ℕ) → (label_at new.region b ≡ label_at old.region b) ⊎ ShutBy old.removals old new b
  pub held : (b : ℕ) → (held_at new.held b ≡ held_at old.held b) ⊎ ((held_at new.held b ≡ None) × Shuts (label_at old.region b) (label_at new.region b))
  pub clean : StaysClean disk old.held new.held
  pub dirty : (b : ℕ) → (flag_at new.turns b).dirty ≡ true → ((flag_at old.turns b).dirty ≡ true) ⊎ ((x : ℕ) × Shuts (label_at old.region x) (label_at new.region x) × (b ≡ label_block x))
  pub turn : (b : ℕ) → Shuts (label_at old.region b) (label_at new.region b) → (flag_at new.turns (label_block b)).dirty ≡ true
  pub still : (b : ℕ) → (flag_at old.turns b).dirty ≡ true → (flag_at new.turns b).dirty ≡ true
  pub waits : (a on k : ℕ) → Listed new.waits a on k → Listed old.waits a on k
  pub usable : usable_count old.one.low old.region ≤ usable_count old.one.low new.region
  pub fewer : length new.removals ≤ length old.removals
  pub only : (r : Removal) → Contains new.removals r → Contains old.removals r
  pub room : new.held.room ≡ old.held.room
  pub faults : old.faults ≤ new.faults
  pub rest : new ≡ record old { held = new.held; turns = new.turns; region = new.region; waits = new.waits; removals = new.removals; faults = new.faults }
