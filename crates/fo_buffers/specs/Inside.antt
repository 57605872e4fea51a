-- What the fields of buffers mean.
use Rattle.std.specs.Prelude.{◌≡◌, ◌+◌, ◌≤◌, vec_len, vec_capacity}
use Rattle.std.specs.HashMap.{spare}
use Rattle.std.specs.FinMap.{from_entries}
use Rattle.fo_buffers.specs.Held.{Held}
use Rattle.fo_buffers.specs.Tables.{Listed}
use Rattle.fo_buffers.specs.declared.buffers.Buffers.TheInside.{Inside}

abbrev pub view_of : Inside → Held
view_of a = record { held = from_entries a.held.entries; clean = a.clean.entries; room = a.room }

-- There is room for so many more entries, blocks and pins, and each pinned block is among the pins.
pub record IsRoomy (a : Inside) : Type 0 where
  pub entries : a.room ≤ spare a.held
  pub blocks : a.room ≤ vec_len a.spare
  pub pins : vec_len a.pins + a.room ≤ vec_capacity a.pins
  pub listed : Listed a.held a.pins.items
  pub few : a.clean.cap ≡ 1024
