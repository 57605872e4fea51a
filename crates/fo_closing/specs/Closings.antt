-- What turns of closing do, one after the other.
use Rattle.std.specs.Prelude.{◌≡◌, ◌⊎◌, ◌≤◌, ℕ, List, [], ◌∷◌}
use Rattle.fo_disk.specs.Disk.{Content as Holds}
use Rattle.fo_labels.specs.Region.{usable_count}
use Rattle.fo_unlink.specs.Pending.{Pending}
use Rattle.fo_mind.specs.Parts.{Parts}
use Rattle.fo_closing.specs.declared.turn.Closing.{Closing}
use Rattle.fo_closing.specs.Known.{Looked}
use Rattle.fo_closing.specs.Turned.{Turned}

-- a turn: what it answered, what memory was before and after it, and the queue after it
pub record Taken : Type 0 where
  pub answer : Closing
  pub before : Parts
  pub after : Parts
  pub queue : Pending

-- These turns were taken; beside them blocks may have been looked at, and no more.
abbrev pub Takes : Holds → List Taken → Parts → Parts → Pending → Pending → Type 0
Takes disk [] old new q r = Looked disk old new × (r ≡ q)
Takes disk (t ∷ ts) old new q r = Looked disk old t.before × Turned disk t.answer t.before t.after q t.queue × Takes disk ts t.after new t.queue r

pub record Closings (disk : Holds) (old new : Parts) (q r : Pending) : Type 0 where
  pub turns : List Taken
  pub takes : Takes disk turns old new q r

-- So many blocks are usable, or no removal is left.
abbrev pub IsOver : ℕ → Parts → Pending → Type 0
IsOver blocks p q = (blocks ≤ usable_count p.one.low p.region) ⊎ (q.removals ≡ [])
