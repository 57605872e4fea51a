-- The blocks that are not free: in ascending order, reached or not.
use Rattle.std.specs.Prelude.{◌≡◌, ℕ, ◌-◌, ◌<◌, ◌≤◌, nat_eq, true, false, not, ◌&&◌, List, length, count_by, slice_index_or, slice_set}
use Rattle.std.specs.List.{All, AllPairs}
use Rattle.fo_image.specs.Place.{first_data}
use Rattle.fo_image.specs.Usable.{is_usable}
use Rattle.fo_image.specs.declared.types.Label.{Label}
use Rattle.fo_check_labels.specs.declared.labels.Known.{Known}

-- a block that was not reached
abbrev pub fresh : ℕ → Label → Known
fresh address label = record { address = address; label = label; reached = false }

-- Each address is below those after it.
abbrev pub Ascend : List Known → Type 0
Ascend = AllPairs (λ k m. k.address < m.address)

-- how many were not reached, and how many were
abbrev pub unreached : List Known → ℕ
unreached = count_by (λ k. not k.reached)

abbrev pub reached : List Known → ℕ
reached = count_by (λ k. k.reached)

-- how often a block may still be reached
abbrev pub left_at : ℕ → List Known → ℕ
left_at at = count_by (λ k. not k.reached && nat_eq k.address at)

-- how many were neither reached nor may be given out
abbrev pub leaked : ℕ → List Known → ℕ
leaked low = count_by (λ k. not k.reached && not (is_usable low k.label))

-- The block at index i has this address.
pub record IsAt (address : ℕ) (known : List Known) (i : ℕ) : Type 0 where
  pub within : i < length known
  pub is : (d : Known) → (slice_index_or known i d).address ≡ address

-- a block of this address with this label
pub record IsKnown (address : ℕ) (label : Label) (k : Known) : Type 0 where
  pub address_is : k.address ≡ address
  pub label_is : k.label ≡ label

-- A block that was not reached before is reached now, and no other changed.
pub record Marks (address : ℕ) (known known' : List Known) : Type 0 where
  pub at : ℕ
  pub block : IsAt address known at
  pub before : (d : Known) → (slice_index_or known at d).reached ≡ false
  pub after : (d : Known) → known' ≡ slice_set known at (record (slice_index_or known at d) { reached = true })

-- No block of this address may still be reached, and none changed.
pub record MarksNone (address : ℕ) (known known' : List Known) : Type 0 where
  pub none : All (λ k. k.address ≡ address → k.reached ≡ true) known
  pub same : known' ≡ known

-- Each address is below this one, and there are at most so many as there are addresses.
pub record IsBelow (upto : ℕ) (known : List Known) : Type 0 where
  pub each : All (λ k. k.address < upto) known
  pub few : length known ≤ upto

-- They are data blocks, and at most so many as there are below this address.
pub record IsFew (blocks upto : ℕ) (known : List Known) : Type 0 where
  pub below : length known ≤ upto - first_data blocks
  pub most : length known ≤ blocks - first_data blocks
  pub from : All (λ k. first_data blocks ≤ k.address) known
