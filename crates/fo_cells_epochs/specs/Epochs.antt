-- The trees of the active epoch and of kept snapshots, and which labels their blocks have.
use Rattle.std.specs.Prelude.{◌≡◌, ◌≢◌, ◌⊎◌, ◌<◌, ◌≤◌, ℕ, suc, false, List, [], ◌∷◌, ◌++◌, map}
use Rattle.std.specs.List.{Contains}
use Rattle.fo_image.specs.declared.types.Label.{Label}
use Rattle.fo_image.specs.declared.types.State.TheVariants.{Free, Live, Closed}
use Rattle.fo_image.specs.declared.types.Pointer.TheVariants.{Local}
use Rattle.fo_crash.specs.declared.slot.Slot.{Slot}
use Rattle.fo_crash.specs.declared.place.Place.{Place}
use Rattle.fo_crash.specs.Images.{Content, SameContent, target, to_block}
use Rattle.fo_crash.specs.Places.{root_place, place_below}
use Rattle.fo_cells.specs.Known.{Known, Top, HasSlot, IsClear, MaySlot, Stands, written}
use Rattle.fo_cells.specs.Calls.{CountsSuper}
use Rattle.fo_cells.specs.Safe.{super_top, IsSet}
use Rattle.fo_cells.specs.Laws.{Safe}
use Rattle.fo_cells_out.specs.Parents.{view}

-- the root of a kept snapshot, with its epoch
pub record Root : Type 0 where
  pub at : ℕ
  pub epoch : ℕ

abbrev pub root_top : Root → Top
root_top r = record { at = r.at; place = root_place }

-- what is seen from one kept root alone
abbrev pub tree_of : Known → Root → Known
tree_of k r = view k (root_top r ∷ [])

-- A label that a block in the tree of this epoch may have: it was given out by then, and not closed at or before that epoch.
pub record IsHeldAt (epoch : ℕ) (l : Label) : Type 0 where
  pub begun : l.epoch ≤ epoch
  pub used : l.state ≡ Free → ⊥
  pub later : l.state ≡ Closed → epoch < l.closing

-- THE TREES. `active` are block 1 and the blocks that were made and not yet put; `roots` those of kept snapshots.
pub record HasTrees (k : Known) (high : ℕ) (active : List Top) (roots : List Root) : Type 0 where
  pub tops : k.tops ≡ active ++ map root_top roots
  pub top : Contains active super_top
  pub kept : (r : Root) → Contains roots r → (k.low ≤ r.epoch) × (r.epoch < high)
  -- what a kept tree may reach is closed late, in memory and in every version of its label block
  pub late : (r : Root) (b : ℕ) (q : Place) → Contains roots r → Stands (tree_of k r) b q → (b ≢ 1) × IsHeldAt r.epoch (k.label b) × ((l : Label) → Contains (k.labels b) l → IsHeldAt r.epoch l)
  -- what the active trees may reach is live, and what they name on the device is live in every version of its label block
  pub live : (b : ℕ) (q : Place) → b ≢ 1 → Stands (view k active) b q → (k.label b).state ≡ Live
  pub named : (a i t : ℕ) (c : Content) (p : Place) → Stands (view k active) a p → Contains (written k a) c → target (c.slot i) ≡ Local t → (l : Label) → Contains (k.labels t) l → l.state ≡ Live

-- Each super block that may be there names roots that are live in every version of their labels, of that super block's high epoch.
-- `high_of` is the high epoch that a content of block 1 spells.
pub record HasRoots (k : Known) (high : ℕ) (high_of : Content → ℕ) : Type 0 where
  pub root : (c : Content) (i b : ℕ) → Contains (k.memory 1 ∷ k.versions 1) c → target (c.slot i) ≡ Local b → (b ≢ 1) × (c.slot i ≡ to_block b) × ((k.label b).epoch ≡ high_of c) × ((l : Label) → Contains (k.labels b) l → (l.state ≡ Live) × (l.epoch ≡ high_of c))
  pub high_is : high_of (k.memory 1) ≡ high

-- The high epoch is read off what block 1 holds.
abbrev pub IsRead : (Content → ℕ) → Type 0
IsRead high_of = (c d : Content) → SameContent c d → high_of c ≡ high_of d

-- Every version of its label block has of this block what memory has.
abbrev pub IsLabelSet : Known → ℕ → Type 0
IsLabelSet k t = (l : Label) → Contains (k.labels t) l → l ≡ k.label t

-- What is written of a block names only what is named on the device, or has a label that is set.
pub record NamesSet (at : ℕ) (f : Content) (old new : Known) : Type 0 where
  pub slots : old.newborn at ≡ false → (i t : ℕ) → target (f.slot i) ≡ Local t → HasSlot (written old at) i (f.slot i) ⊎ IsLabelSet old t
  pub names : (i t : ℕ) → target ((old.memory at).slot i) ≡ Local t → Contains (new.late at) (old.memory at) → IsLabelSet old t

-- The tops of the active trees: fewer, and block 1 among them.
pub record FewerTops (before after : List Top) : Type 0 where
  pub top : Contains after super_top
  pub fewer : (t : Top) → Contains after t → Contains before t

-- A STEP THAT KEEPS THE TREES: nothing stands anew in a kept tree; labels that change are of no block of the active trees, and may be those
-- of kept ones.
pub record KeepsTrees (old new : Known) (before after : List Top) (roots : List Root) : Type 0 where
  pub tops : new.tops ≡ after ++ map root_top roots
  pub fewer : FewerTops before after
  pub low : new.low ≡ old.low
  pub may : (a i b : ℕ) (s : Slot) → MaySlot new a i s → target s ≡ Local b → MaySlot old a i s ⊎ (((r : Root) (p : Place) → Contains roots r → Stands (tree_of old r) a p → ⊥) × ((p : Place) → Stands (view old before) a p → Stands (view old before) b (place_below p i s)))
  pub label : (b : ℕ) (q : Place) → Stands old b q → (new.label b ≡ old.label b) ⊎ (((p : Place) → Stands (view old before) b p → ⊥) × ((r : Root) → Contains roots r → (p : Place) → Stands (tree_of old r) b p → IsHeldAt r.epoch (new.label b)))
  pub labels : (b : ℕ) (l : Label) → Contains (new.labels b) l → Contains (old.labels b) l ⊎ (l ≡ old.label b)
  pub written : (a i t : ℕ) (c : Content) → Contains (written new a) c → target (c.slot i) ≡ Local t → ((d : Content) × Contains (written old a) d × (target (d.slot i) ≡ Local t)) ⊎ IsLabelSet old t

-- the same, from other tops and with another settled low epoch
abbrev pub from_tops : Known → List Top → ℕ → Known
from_tops k ts low = record k { tops = ts; low = low }

abbrev pub kept_root : ℕ → ℕ → Root
kept_root at epoch = record { at = at; epoch = epoch }

-- A SNAPSHOT: where all is settled, a super block that was tried counts, which names a new root, of the next epoch; the root of before is
-- kept. (`mid` is what is known then but for the tops.)
pub record BeginsEpoch (d : Content) (root next high : ℕ) (old mid : Known) : Type 0 where
  pub counts : CountsSuper d (from_tops old (root_top (kept_root root high) ∷ old.tops) old.low) mid
  pub was : (old.memory 1).slot 0 ≡ to_block root
  pub now : (i b : ℕ) → target (d.slot i) ≡ Local b → b ≡ next
  pub epoch : (old.label next).epoch ≡ suc high
  pub low : old.low ≤ high
  pub settled : (b : ℕ) (q : Place) → b ≢ 1 → Stands old b q → IsSet old b × IsLabelSet old b
  pub unclear : (b i leaf : ℕ) → IsClear old.clears b i leaf → ⊥

-- what is known once it began: the tops of after, and one kept root more
abbrev pub begun : Known → List Top → List Root → Known
begun mid after roots = from_tops mid (after ++ map root_top roots) mid.low

-- A block that was made is at another place now.
pub record MovesTop (at : ℕ) (q : Place) (before after : List Top) : Type 0 where
  pub top : Contains after super_top
  pub each : (t : Top) → Contains after t → (Contains before t × (t.at ≢ at)) ⊎ ((t.at ≡ at) × (t.place ≡ q))

-- THE LOW EPOCH RISES: roots of before it are kept no more.
pub record RaisesLow (low : ℕ) (roots kept : List Root) : Type 0 where
  pub each : (r : Root) → Contains kept r → Contains roots r × (low ≤ r.epoch)

-- THE INVARIANT with snapshots: of the blocks, of the trees, and of the roots that super blocks name.
pub record HasEpochs (k : Known) (high : ℕ) (high_of : Content → ℕ) (doubts : List Content) (active : List Top) (roots : List Root) : Type 0 where
  pub safe : Safe k high doubts
  pub trees : HasTrees k high active roots
  pub supers : HasRoots k high high_of
