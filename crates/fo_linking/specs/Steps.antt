-- Blocks are linked one by one, and listed until they are looked at.
use Rattle.std.specs.Prelude.{◌≡◌, ◌⊎◌, ◌+◌, ◌≤◌, ℕ, Bool, true, false, cond, List, length, count_by, slice_get, Some}
use Rattle.fo_image.specs.declared.types.Pointer.{Pointer}
use Rattle.fo_buffers.specs.Held.{Held}
use Rattle.fo_order.specs.Keeps.{Turns}
use Rattle.fo_order.specs.Turns.{changed}
use Rattle.fo_labels.specs.Region.{Region}
use Rattle.fo_facts.specs.declared.fact.Fact.{Fact}
use Rattle.fo_facts.specs.Counts.{owes, is_made}
use Rattle.fo_facts.specs.Known.{fact_at}
use Rattle.fo_linking.specs.Joined.{IsLinked, IsReached, Joins, LeadsToLinked}

abbrev pub taken_if : Bool → Turns → ℕ → ℕ → Turns
taken_if dirty t at rank = cond dirty (changed t at rank) t

-- What the next steps need, with so many in the list.
pub record IsAble (facts : List Fact) (turns : Turns) (len capacity : ℕ) : Type 0 where
  pub same : length turns.flags ≡ length facts
  pub owing : (b : ℕ) → (fact_at facts b).linked ≡ false → (fact_at facts b).owes ≡ true
  pub room : count_by owes facts ≤ turns.room
  pub list : len + count_by is_made facts ≤ capacity

-- it is among those from this place on
abbrev pub IsAmong : List ℕ → ℕ → ℕ → Type 0
IsAmong list from b = (k : ℕ) × (from ≤ k) × (slice_get list k ≡ Some b)

-- Whatever was linked is still to be looked at, or leads to what is linked.
pub record Looks (held : Held) (region : Region) (old new : List Fact) (list : List ℕ) (done : ℕ) : Type 0 where
  pub each : (b : ℕ) → IsLinked old new b → IsAmong list done b ⊎ LeadsToLinked held region new b

-- Only what hangs from the pointer by blocks that were made is linked, and only such is listed.
pub record Reaches (held : Held) (region : Region) (to : Pointer) (old new : List Fact) (list : List ℕ) : Type 0 where
  pub stays : (b : ℕ) → (fact_at old b).linked ≡ true → (fact_at new b).linked ≡ true
  pub each : (b : ℕ) → IsLinked old new b → IsReached held region old to b
  pub listed : (k b : ℕ) → slice_get list k ≡ Some b → IsLinked old new b

-- More blocks are linked, and listed, whatever was linked before.
pub record Grows (held : Held) (facts new : List Fact) (t u : Turns) (list longer : List ℕ) : Type 0 where
  pub stays : (b : ℕ) → (fact_at facts b).linked ≡ true → (fact_at new b).linked ≡ true
  pub joins : (old : List Fact) (s : Turns) → Joins held old facts s t → Joins held old new s u
  pub looks : (region : Region) (old : List Fact) (done : ℕ) → done ≤ length list → Looks held region old facts list done → Looks held region old new longer done
  pub kept : (k x : ℕ) → slice_get list k ≡ Some x → slice_get longer k ≡ Some x
  pub length_kept : length list ≤ length longer
