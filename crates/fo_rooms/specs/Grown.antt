-- More room, and nothing else.
use Rattle.std.specs.Prelude.{◌≡◌, ◌≤◌, ℕ}
use Rattle.fo_linking.specs.of_buffers.Held.{Held}
use Rattle.fo_order.specs.Keeps.{Turns}
use Rattle.fo_unlink.specs.Pending.{Pending}
use Rattle.fo_takeout.specs.Walking.{Walking}
use Rattle.fo_rooms.specs.declared.rooms.Rooms.{Rooms}

pub record GrownHeld (old new : Held) : Type 0 where
  pub same : new ≡ record old { room = new.room }
  pub more : old.room ≤ new.room

pub record GrownTurns (old new : Turns) : Type 0 where
  pub same : new ≡ record old { room = new.room }
  pub more : old.room ≤ new.room

pub record GrownQueue (old new : Pending) : Type 0 where
  pub same : new ≡ record old { room = new.room }
  pub more : old.room ≤ new.room

pub record GrownWalk (old new : Walking) : Type 0 where
  pub same : new ≡ record old { room = new.room }
  pub more : old.room ≤ new.room

-- Each part has room for at least so much.
pub record HasRooms (r : Rooms) (held : Held) (turns : Turns) (queue : Pending) (walk : Walking) (links : ℕ) : Type 0 where
  pub held_room : r.held ≤ held.room
  pub turn_room : r.turns ≤ turns.room
  pub queue_room : r.removals ≤ queue.room
  pub walk_room : r.removals ≤ walk.room
  pub link_room : r.linked ≤ links
