-- Room for the calls of one request.
use Rattle.std.specs.Prelude.{◌≡◌, ◌≤◌, ℕ}
use Rattle.fo_rooms.specs.Grown.{GrownHeld, GrownTurns, GrownWalk}
use Rattle.fo_mind.specs.Parts.{Parts}

-- Some parts have more room, and nothing else changed.
pub record Grown (old new : Parts) : Type 0 where
  pub held : GrownHeld old.held new.held
  pub turns : GrownTurns old.turns new.turns
  pub walk : GrownWalk old.walk new.walk
  pub links : old.links ≤ new.links
  pub rest : new ≡ record old { held = new.held; turns = new.turns; walk = new.walk; links = new.links }

-- So many blocks may be made, so many pinned, and so many removals and waits are left. Beside that some parts have more room.
pub record Roomed (blocks pins removals : ℕ) (old new : Parts) : Type 0 where
  pub grown : Grown old (record new { spare = old.spare; pins = old.pins; room = old.room })
  pub spare : new.spare ≡ blocks
  pub pins_are : new.pins ≡ pins
  pub room : new.room ≡ removals
