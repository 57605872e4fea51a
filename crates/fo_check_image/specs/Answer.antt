-- What the check answers over the images of the two devices.
use Rattle.std.specs.Prelude.{◌≡◌, ℕ, ◌/◌, ◌<◌, ◌≤◌, true, List, [], ◌∷◌, ◌++◌}
use Rattle.fo_disk.specs.Disk.{Block}
use Rattle.fo_image.specs.declared.types.Super.{Super}
use Rattle.fo_image.specs.declared.record.RootBlock.{RootBlock}
use Rattle.fo_image.specs.declared.types.Kind.TheVariants.{Data}
use Rattle.fo_image.specs.declared.record.Record.{Record}
use Rattle.fo_crash.specs.Images.{Image, Arena, Link, from_block}
use Rattle.fo_sound.specs.Sizes.{HasSizes}
use Rattle.fo_sound.specs.Sound.{HasTable, HasRootEntries}
use Rattle.fo_good.specs.Means.{Means}
use Rattle.fo_meta.specs.Leaf.{IsLeaf}
use Rattle.fo_good.specs.Trees.{HasTreeLabels, IsTree, HasLeaves, HasPairs, HasNumbers, HasPair, NamesRecords, LeadsTo, Lists, at_path}
use Rattle.fo_good.specs.Sound.{Kept, IsSound}
use Rattle.fo_good.specs.Lost.{Numbers, HasCounts}
use Rattle.fo_check.specs.Answer.{Opens, IsNoArena, IsNotBuilt, IsUnsound as IsUnsoundBefore}
use Rattle.fo_check.specs.declared.error.CheckError.{CheckError}
use Rattle.fo_check.specs.declared.error.CheckError.TheVariants as error
use Rattle.fo_check.specs.declared.opening.Opening.{Opening}
use Rattle.fo_check_labels.specs.Table.{BreaksTable}
use Rattle.fo_check_tree.specs.Answer.{HoldsAny, IsAlone, IsClear, IsOwnDir, StandsAlone, HasOwnNames, HasOwnSlots, AreRecordsOf, BreaksLabels, BreaksFormats, BreaksPairs, BreaksOnce, BreaksNumbers, BreaksScores}
use Rattle.fo_check_image.specs.declared.report.Report.{Report}

-- ---- a report

-- the numbers of a report
abbrev pub numbers_of : Report → Numbers
numbers_of r = record { blocks = r.blocks; used = r.used; leaked = r.leaked; snapshots = r.snapshots }

-- The image is sound, with no root before the active one, and these are its numbers.
pub record Reports (image vault : List Block) (report : Report) : Type 0 where
  pub arena : Arena
  pub s : Super
  pub active : Kept
  pub reading : Image
  pub sound : IsSound arena image vault s active [] reading
  pub counts : HasCounts arena image reading s active [] (numbers_of report)

-- ---- the rules of trees

-- The rule is broken at this block.
pub data BreaksRule (arena : Arena) (device : List Block) (reading : Image) (s : Super) (k : Kept) (rule block : ℕ) : Type 0 where
  table : rule ≡ 4 → BreaksTable device block → BreaksRule arena device reading s k rule block
  labels : rule ≡ 4 → BreaksLabels arena device reading k block → BreaksRule arena device reading s k rule block
  formats : rule ≡ 5 → BreaksFormats arena reading k block → BreaksRule arena device reading s k rule block
  pairs : rule ≡ 6 → BreaksPairs arena reading k block → BreaksRule arena device reading s k rule block
  once : rule ≡ 7 → BreaksOnce arena reading k block → BreaksRule arena device reading s k rule block
  numbers : rule ≡ 8 → BreaksNumbers arena reading k s.numbers block → BreaksRule arena device reading s k rule block
  scores : rule ≡ 9 → BreaksScores arena reading k block → BreaksRule arena device reading s k rule block

-- The rules below this one hold. Where a block is at two places, rules 5 and 6 are asked of records in blocks at one place, with names
-- that lead there by such blocks (docs/FORMATS.md).
pub record KeepsBelow (arena : Arena) (device : List Block) (reading : Image) (s : Super) (k : Kept) (rule : ℕ) : Type 0 where
  pub table : 4 < rule → HasTable device
  pub labels : 4 < rule → HasTreeLabels arena device reading k.at k.root.epoch true
  pub formats : 5 < rule → Means arena device reading (from_block k.at)
  pub leaves : 5 < rule → IsTree arena reading k.at → HasRootEntries k.root → HasLeaves arena reading k.at
  pub entries : 6 < rule → HasRootEntries k.root
  pub pairs : 6 < rule → IsTree arena reading k.at → HasPairs arena reading k.at
  pub once : 7 < rule → IsTree arena reading k.at
  pub own_leaves : 5 < rule → (path more : List ℕ) (i at : ℕ) → NamesRecords arena reading k.at path i → (at_path arena reading k.at (path ++ i ∷ more)).kind ≡ Data 0 → LeadsTo arena reading k.at (path ++ i ∷ more) at → IsAlone arena reading k at → IsLeaf ((reading at).bytes)
  pub own_names : 5 < rule → (meta : Link) → AreRecordsOf arena reading k meta → HasOwnNames arena reading k meta
  pub own_slots : 6 < rule → (trail : List ℕ) (entries meta : Link) → IsOwnDir arena reading k trail entries meta → HasOwnSlots arena reading k meta
  pub own_pairs : 6 < rule → (trail : List ℕ) (entries meta : Link) (n j : ℕ) (r : Record) → IsOwnDir arena reading k trail entries meta → Lists arena reading meta n j r → StandsAlone arena reading k meta n → IsClear arena reading k entries (r.slot / 102) → HasPair arena reading entries r
  pub numbers : 8 < rule → HasNumbers arena reading k.at s.numbers

-- The tree of the active root breaks this rule at this block, as the device is read, and keeps those below it.
pub record BreaksTree (device : List Block) (s : Super) (root : RootBlock) (rule block : ℕ) : Type 0 where
  pub arena : Arena
  pub reading : Image
  pub holds : HoldsAny arena device reading s (record { at = s.active; root = root })
  pub breaks : BreaksRule arena device reading s (record { at = s.active; root = root }) rule block
  pub below : KeepsBelow arena device reading s (record { at = s.active; root = root }) rule

-- ---- a refusal

-- The lowest rule that is broken, and a block at which it is broken.
pub data IsUnsound (image vault : List Block) (rule block : ℕ) : Type 0 where
  before : IsUnsoundBefore image vault rule block → IsUnsound image vault rule block
  tree : (o : Opening) → Opens image vault o → 4 ≤ rule → rule ≤ 9 → BreaksTree image o.s o.root rule block → IsUnsound image vault rule block

-- Why there is no report. Of faults it is said elsewhere that they come only where that device's count rose.
abbrev pub Refuses : List Block → List Block → CheckError → Type 0
Refuses image vault error.Size = ¬ HasSizes image vault
Refuses image vault error.NotArena = IsNoArena image vault
Refuses image vault error.NotBuilt = IsNotBuilt image vault
Refuses image vault (error.Unsound rule block) = IsUnsound image vault rule block
Refuses image vault (error.Main fault) = Unit {0}
Refuses image vault (error.Arena fault) = Unit {0}
Refuses image vault error.Memory = Unit {0}
