-- What the end of a cache leaves.
use Rattle.std.specs.Prelude.{◌≡◌, ◌+◌, ◌<◌, ◌≤◌, ℕ, Bool, true, false, max, List, [], ◌∷◌, length, None}
use Rattle.std.specs.List.{Contains}
use Rattle.fo_disk.specs.Disk.{DiskState, IsSettled, latest_of, versions_of}
use Rattle.fo_image.specs.declared.types.Super.{Super}
use Rattle.fo_image.specs.Format.{SpellsSuper}
use Rattle.fo_labels.specs.Spelled.{SpellsLabels}
use Rattle.fo_order.specs.Turns.{IsQuiet}
use Rattle.fo_ports.specs.State.{Rests}
use Rattle.fo_facts.specs.Known.{fact_at}
use Rattle.fo_waits.specs.Listed.{Clears}
use Rattle.fo_mind.specs.Parts.{CacheKeeps, Parts, bytes_at, label_at, state_of}

-- the next file number, which is at least 1, or the one after it, where that was granted and isn't taken
abbrev pub saved_number : ℕ → Bool → ℕ
saved_number next true = next + 1
saved_number next false = max next 1

-- a super block, with the next file number of memory
abbrev pub saved : Super → Parts → Super
saved one p = record one { numbers = saved_number p.next p.granted }

-- Nothing has a turn, all is settled, no slot waits, and nothing is in doubt.
pub record Settled (p : Parts) : Type 0 where
  pub quiet : IsQuiet p.turns
  pub none : (b j : ℕ) → Clears p.clears b j → ⊥
  pub certain : p.doubt ≡ None

-- And the super block is the one of before, but that it says the next file number. As far as the device tells, it has all of memory alone:
-- block 1 with the super block, each block of labels with the labels, and each block that is in the tree with its bytes.
pub record Finished (one : Super) (t : DiskState) (p : Parts) : Type 0 where
  pub settled : Settled p
  pub says : p.one ≡ saved one p
  pub spells : SpellsSuper p.one p.one_bytes
  pub first : (bytes : List ℕ) → 1 < length t.holds → Contains (versions_of t.holds 1) bytes → bytes ≡ p.one_bytes
  pub labels : (b : ℕ) → 2 ≤ b → b < p.region.first → b < length t.holds → IsSettled t.holds b × SpellsLabels p.region b (latest_of (versions_of t.holds b))
  pub blocks : (b : ℕ) → p.region.first ≤ b → b < length t.holds → (fact_at p.facts b).linked ≡ true → versions_of t.holds b ≡ bytes_at p.held t.holds b ∷ []

-- ---- whatever is answered

-- What isn't doomed stays, with what every call keeps; all labels stay, and no removal is lost.
pub record Ends (p q : Parts) : Type 0 where
  pub rests : Rests (state_of p) (state_of q)
  pub keeps : CacheKeeps p q
  pub labels : (b : ℕ) → label_at q.region b ≡ label_at p.region b
  pub queued : length p.removals ≤ length q.removals

-- Memory has of each data block the bytes that it had.
pub record KeepsBytes (s t : DiskState) (p q : Parts) : Type 0 where
  pub first : q.region.first ≡ p.region.first
  pub bytes : (b : ℕ) → p.region.first ≤ b → bytes_at q.held t.holds b ≡ bytes_at p.held s.holds b
