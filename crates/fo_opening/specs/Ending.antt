-- What steps of an end leave.
use Rattle.std.specs.Prelude.{◌≡◌, ℕ, length}
use Rattle.fo_disk.specs.Disk.{DiskState, versions_of}
use Rattle.fo_waits.specs.Listed.{Clears}
use Rattle.fo_mind.specs.Parts.{IsPinned, Parts}
use Rattle.fo_cache.specs.Settling.{Rested}
use Rattle.fo_opening.specs.Finished.{Ends, KeepsBytes}

-- What stays whatever is answered (`Ends`); memory's bytes, where no slot waits; nothing is pinned and no slot waits that didn't; and of
-- block 0 the device has the versions that it had, or the last of them.
pub record Ending (s t : DiskState) (f g : ℕ) (p q : Parts) : Type 0 where
  pub ends : Ends (record p { disk = s.holds; faults = f }) (record q { disk = t.holds; faults = g })
  pub bytes : ((b j : ℕ) → Clears p.clears b j → ⊥) → KeepsBytes s t p q
  pub pinned : (b : ℕ) → IsPinned q.held b → IsPinned p.held b
  pub order : (b j : ℕ) → Clears q.clears b j → Clears p.clears b j
  pub header : Rested (versions_of s.holds 0) (versions_of t.holds 0)
  pub count : length t.holds ≡ length s.holds
