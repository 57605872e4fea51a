-- What the fields of an order mean.
use Rattle.std.specs.Prelude.{◌≡◌, ◌+◌, ◌<◌, ◌≤◌, ℕ, true, false, map, vec_len, vec_capacity, count_by}
use Rattle.std.specs.List.{Contains}
use Rattle.fo_order.specs.declared.marks.Tried.TheVariants.{Written, Failed}
use Rattle.fo_order.specs.declared.order.Order.TheInside.{Inside}
use Rattle.fo_order.specs.Flags.{flag, is_dirty}
use Rattle.fo_order.specs.Marks.{IsFalling, Marked, Known, mark_rank}
use Rattle.fo_order.specs.Keeps.{Turns}

abbrev pub view_of : Inside → Turns
view_of a = record { flags = a.flags; written = a.written.items; room = a.room }

pub record IsOrdered (a : Inside) : Type 0 where
  pub falls : IsFalling a.dirty.items
  pub marked : Marked a.flags a.dirty.items
  -- what counts as written was written since the last sync, and has no lower rank unless it is dirty
  pub known : Known a.flags a.written.items
  pub late : (q : ℕ) → (flag a.flags q).tried ≡ Written → (flag a.flags q).dirty ≡ false → a.least ≤ (flag a.flags q).rank
  pub failed : (q : ℕ) → (flag a.flags q).tried ≡ Failed → (flag a.flags q).dirty ≡ true
  pub least : (r : ℕ) → Contains (map mark_rank a.written.items) r → a.least ≤ r
  pub has_least : a.least < 4294967295 → Contains (map mark_rank a.written.items) a.least
  pub counted : a.count ≡ count_by is_dirty a.flags
  pub room_to_mark : vec_len a.dirty + a.room ≤ vec_capacity a.dirty
  pub room_to_write : vec_len a.written + (a.count + a.room) ≤ vec_capacity a.written
  -- where nothing is marked, there is one place beside the room
  pub one_to_mark : a.room < vec_capacity a.dirty
  pub one_to_write : a.room < vec_capacity a.written
