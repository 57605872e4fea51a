-- The pairs of a directory, while its entries are walked: which records have theirs, and which folders they lead to.
use Rattle.std.specs.Prelude.{◌≡◌, ◌⊎◌, ◌||◌, ℕ, ◌+◌, ◌-◌, ◌*◌, ◌/◌, ◌^◌, ◌<◌, ◌≤◌, zero, suc, min, Bool, true, false, List, map, ◌∷◌, [], ◌++◌, length, slice_index_or, Option, Some}
use Rattle.std.specs.List.{AllByRecursion}
use Rattle.std.specs.List.Sorted.{IsNonDecreasingBy}
use Rattle.fo_image.specs.declared.types.Kind.{Kind}
use Rattle.fo_image.specs.declared.types.Kind.TheVariants.{Data, Dir, Root}
use Rattle.fo_image.specs.declared.types.Entry.{Entry}
use Rattle.fo_image.specs.declared.record.Record.{Record}
use Rattle.fo_image.specs.declared.types.Pointer.TheVariants.{Local}
use Rattle.fo_crash.specs.declared.slot.Slot.TheVariants.{Entry as Head}
use Rattle.fo_crash.specs.Images.{Content, Image, Arena, Link, target, goes, way, leaf_path, depth_of, entry_of as entry_at}
use Rattle.fo_world.specs.Step.{is_dir_mode}
use Rattle.fo_good.specs.Trees.{Lists, IsDir, IsFirst, IsSecond, HasPair}
use Rattle.fo_good.specs.Sound.{Kept}
use Rattle.fo_check_names.specs.Finds.{Misses, leaf_for}
use Rattle.fo_check_names.specs.Names.{number_in, slot_of}
use Rattle.fo_check_names.specs.declared.names.Named.{Named}
use Rattle.fo_check_names.specs.declared.names.Number.{Number}
use Rattle.fo_check_tree.specs.declared.broken.Broken.{Broken}
use Rattle.fo_check_tree.specs.declared.walk.Folder.{Folder}
use Rattle.fo_check_tree.specs.declared.walk.Holds.TheVariants.{Bytes}
use Rattle.fo_check_tree.specs.declared.walk.Step.{Step}
use Rattle.fo_check_tree.specs.Answer.{BreaksOnce, StandsAlone, IsClear, HasOwnSlots, IsOwnDir, NamesPairs}
use Rattle.fo_check_tree.specs.Listing.{SomeOf, IsMetaOf}
use Rattle.fo_check_tree.specs.Lower.{level}
use Rattle.fo_check_tree.specs.Slots.{entry_of}

-- ---- one leaf of entries

-- The lists have the same records, whatever was found of them.
pub record SameRecords (old new : List Named) : Type 0 where
  pub long : length new ≡ length old
  pub each : (i : ℕ) (d : Named) → i < length new → (slice_index_or new i d).listed ≡ (slice_index_or old i d).listed
  pub leaves : (i : ℕ) (d : Named) → i < length new → (slice_index_or new i d).leaf ≡ (slice_index_or old i d).leaf

-- The record is in the list.
pub record IsNamedIn (named : List Named) (r : Record) : Type 0 where
  pub at : ℕ
  pub within : at < length named
  pub is : (d : Named) → (slice_index_or named at d).listed ≡ r

-- the folder of these two entries, to which names lead
pub record IsOfPair (first second : Entry) (f : Folder) : Type 0 where
  pub entries : f.entries ≡ first
  pub records : f.records ≡ Some second
  pub named : f.named ≡ true

-- the number of pair k of the leaf with this number
abbrev pub pair_number : ℕ → ℕ → ℕ
pair_number index k = min (min (index * 102) (2 ^ 64 - 1) + k) (2 ^ 64 - 1)

-- The record has one of the first pairs of a leaf, and is a directory only where its folder is left.
pub record HasPairHere (index : ℕ) (c : Content) (named : Bool) (pairs : ℕ) (folders : List Folder) (r : Record) : Type 0 where
  pub pair : ℕ
  pub within : pair < pairs
  pub slot : r.slot ≡ pair_number index pair
  pub first : IsFirst (Head (entry_of (c.slot (2 * pair)))) r
  pub second : IsSecond (Head (entry_of (c.slot (2 * pair + 1)))) r
  pub folder : named ≡ true → is_dir_mode r.mode ≡ true → SomeOf (IsOfPair (entry_of (c.slot (2 * pair))) (entry_of (c.slot (2 * pair + 1)))) folders

-- What was found in the first pairs of a leaf of entries.
pub record Searches (index : ℕ) (c : Content) (named : Bool) (pairs : ℕ) (old new : List Named) (folders : List Folder) : Type 0 where
  pub same : SameRecords old new
  pub each : (i : ℕ) (d : Named) → i < length new → (slice_index_or new i d).found ≡ true → ((slice_index_or old i d).found ≡ true) ⊎ HasPairHere index c named pairs folders (slice_index_or new i d).listed
  pub still : (i : ℕ) (d : Named) → i < length new → (slice_index_or new i d).missed ≡ (slice_index_or old i d).missed

-- The records behind a step to a block of entries that was entered from elsewhere are marked as missed.
pub record IsMissedBy (step : Step) (level : ℕ) (old new : List Named) : Type 0 where
  pub count : ℕ
  pub is : level ≤ 4 → count ≡ 409 ^ level
  pub misses : Misses step.index count old new

abbrev pub MissesBy : Step → Kind → List Named → List Named → Type 0
MissesBy step (Data level) old new = new ≡ old
MissesBy step (Dir level) old new = IsMissedBy step level old new
MissesBy step Root old new = new ≡ old

-- The folder is that of a record in this list, which has its pair among the first of a leaf.
pub record IsLedHere (index : ℕ) (c : Content) (pairs : ℕ) (names : List Named) (f : Folder) : Type 0 where
  pub has : Record
  pub dir : is_dir_mode has.mode ≡ true
  pub listed : IsNamedIn names has
  pub pair : ℕ
  pub within : pair < pairs
  pub slot : has.slot ≡ pair_number index pair
  pub first : IsFirst (Head (entry_of (c.slot (2 * pair)))) has
  pub second : IsSecond (Head (entry_of (c.slot (2 * pair + 1)))) has
  pub folder : IsOfPair (entry_of (c.slot (2 * pair))) (entry_of (c.slot (2 * pair + 1))) f

-- Folders came from a leaf of entries: names lead to those of records in the list alone.
pub record Leads (index : ℕ) (c : Content) (pairs : ℕ) (names : List Named) (old new : List Folder) : Type 0 where
  pub added : List Folder
  pub is : new ≡ old ++ added
  pub each : AllByRecursion (λ (f : Folder). f.named ≡ true → IsLedHere index c pairs names f) added

-- The records ascend by their slot pairs, and no two have one.
pub record IsApart (named : List Named) : Type 0 where
  pub sorted : IsNonDecreasingBy slot_of named
  pub differ : (i j : ℕ) (d : Named) → i < j → j < length named → slot_of (slice_index_or named i d) ≡ slot_of (slice_index_or named j d) → ⊥

-- In the first pairs of a leaf of entries each record was marked whose pair is there, and others stayed marked.
pub record Asks (index : ℕ) (c : Content) (pairs : ℕ) (old new : List Named) : Type 0 where
  pub each : (p : ℕ) → p < pairs → (i : ℕ) (d : Named) → i < length new → slot_of (slice_index_or new i d) ≡ pair_number index p → IsFirst (Head (entry_of (c.slot (2 * p)))) (slice_index_or new i d).listed → IsSecond (Head (entry_of (c.slot (2 * p + 1)))) (slice_index_or new i d).listed
      → (slice_index_or new i d).found ≡ true
  pub kept : (i : ℕ) (d : Named) → i < length new → (slice_index_or old i d).found ≡ true → ((p : ℕ) → p < pairs → slot_of (slice_index_or new i d) ≡ pair_number index p → ⊥) → (slice_index_or new i d).found ≡ true

-- The same of a block of this kind: only in a leaf of entries anything is found.
abbrev pub Seeks : Step → Content → Bool → Kind → List Named → List Named → List Folder → Type 0
Seeks step c named (Data level) old new folders = Unit {0}
Seeks step c named (Dir zero) old new folders = Searches step.index c named 102 old new folders
Seeks step c named (Dir (suc level)) old new folders = new ≡ old
Seeks step c named Root old new folders = Unit {0}

abbrev pub AsksOf : Step → Content → Kind → List Named → List Named → Type 0
AsksOf step c (Data level) old new = Unit {0}
AsksOf step c (Dir zero) old new = step.index < 27982932961 → IsApart old → Asks step.index c 102 old new
AsksOf step c (Dir (suc level)) old new = Unit {0}
AsksOf step c Root old new = Unit {0}

abbrev pub LeadsOf : Step → Content → Kind → List Named → List Folder → List Folder → Type 0
LeadsOf step c (Data level) names old new = Unit {0}
LeadsOf step c (Dir zero) names old new = Leads step.index c 102 names old new
LeadsOf step c (Dir (suc level)) names old new = Unit {0}
LeadsOf step c Root names old new = Unit {0}

-- ---- all leaves of entries

-- The folder is of a directory to which names lead, with its entries and its records below these two links.
pub record IsHeadOf (entries meta : Link) (f : Folder) : Type 0 where
  pub named : f.named ≡ true
  pub slot : entries.slot ≡ Head f.entries
  pub dir : f.entries.dir ≡ true
  pub kind : entries.kind ≡ Dir f.entries.depth
  pub shallow : f.entries.depth ≤ 4
  pub room : f.entries.size ≤ 8192 * 409 ^ f.entries.depth
  pub records : IsMetaOf f meta

-- A step to a block of the source of entries, at the end of this path.
pub record IsInEntries (arena : Arena) (image : Image) (entries : Link) (step : Step) : Type 0 where
  pub path : List ℕ
  pub level : ℕ
  pub kind : step.kind ≡ Dir level
  pub pointer : step.pointer ≡ target ((goes arena image entries path).slot)
  pub depth : length path + level ≡ depth_of entries.slot
  pub index : (more : List ℕ) → way (length path) step.index more ≡ path ++ more
  pub few : step.index < 409 ^ length path

-- A step to a block of a source of which no record is listed.
pub record IsQuiet (step : Step) : Type 0 where
  pub level : ℕ
  pub kind : step.kind ≡ Data level
  pub quiet : (step.holds ≡ Bytes) ⊎ (step.size ≡ 0)

abbrev pub IsEntriesStep : Arena → Image → Link → Step → Type 0
IsEntriesStep arena image entries step = IsInEntries arena image entries step ⊎ IsQuiet step

-- The record has its pair in this source of entries, and is a directory only where its folder is left.
pub record IsFound (arena : Arena) (image : Image) (entries : Link) (folders : List Folder) (r : Record) : Type 0 where
  pub first : IsFirst (entry_at arena image entries (2 * r.slot)).slot r
  pub second : IsSecond (entry_at arena image entries (2 * r.slot + 1)).slot r
  pub folder : is_dir_mode r.mode ≡ true → SomeOf (IsHeadOf (entry_at arena image entries (2 * r.slot)) (entry_at arena image entries (2 * r.slot + 1))) folders

-- While the entries are walked: these are the records of the directory, and those that are marked have their pairs.
pub record AreSought (arena : Arena) (image : Image) (entries : Link) (names : List Named) (noted : Option Broken) (steps : List Step) (named : List Named) (folders : List Folder) : Type 0 where
  pub shallow : depth_of entries.slot ≤ 4
  pub kind : entries.kind ≡ Dir (depth_of entries.slot)
  pub same : SameRecords names named
  pub sources : AllByRecursion (IsEntriesStep arena image entries) steps
  pub found : 5 < level noted → (i : ℕ) (d : Named) → i < length named → (slice_index_or named i d).found ≡ true → IsFound arena image entries folders (slice_index_or named i d).listed

-- A step to a block of the source of entries, on the way to its leaf with this number.
pub record IsOnEntries (arena : Arena) (image : Image) (entries : Link) (index : ℕ) (step : Step) : Type 0 where
  pub source : IsInEntries arena image entries step
  pub more : List ℕ
  pub is : leaf_path entries.slot index ≡ source.path ++ more

-- Each record whose pair is in the leaf with this number, in this block, is marked as found or missed.
pub record IsAsked (image : Image) (index at : ℕ) (named : List Named) : Type 0 where
  pub each : (p : ℕ) → p < 102 → (i : ℕ) (d : Named) → i < length named → slot_of (slice_index_or named i d) ≡ index * 102 + p → IsFirst ((image at).slot (2 * p)) (slice_index_or named i d).listed → IsSecond ((image at).slot (2 * p + 1)) (slice_index_or named i d).listed → ((slice_index_or named i d).found || (slice_index_or named i d).missed) ≡ true

-- This is so of each leaf of entries, or it is behind a step that is left.
pub record AreAsked (arena : Arena) (image : Image) (entries : Link) (steps : List Step) (named : List Named) : Type 0 where
  pub whole : (index at : ℕ) → index < 409 ^ depth_of entries.slot → target ((goes arena image entries (leaf_path entries.slot index)).slot) ≡ Local at → SomeOf (IsOnEntries arena image entries index) steps ⊎ IsAsked image index at named

-- On the way to the leaf with this number is a block at two places.
pub record IsHidden (arena : Arena) (image : Image) (k : Kept) (entries : Link) (index : ℕ) : Type 0 where
  pub front : List ℕ
  pub rest : List ℕ
  pub block : ℕ
  pub is : leaf_path entries.slot index ≡ front ++ rest
  pub leads : target ((goes arena image entries front).slot) ≡ Local block
  pub twice : BreaksOnce arena image k block

-- This is so of each record that is marked as missed.
pub record AreHidden (arena : Arena) (image : Image) (k : Kept) (entries : Link) (named : List Named) : Type 0 where
  pub each : (i : ℕ) (d : Named) → i < length named → (slice_index_or named i d).missed ≡ true → leaf_for (slice_index_or named i d) < 409 ^ depth_of entries.slot → IsHidden arena image k entries (leaf_for (slice_index_or named i d))

-- The folder is that of a directory among these records.
pub record IsLedBy (arena : Arena) (image : Image) (entries : Link) (names : List Named) (f : Folder) : Type 0 where
  pub has : Record
  pub dir : is_dir_mode has.mode ≡ true
  pub listed : IsNamedIn names has
  pub head : IsHeadOf (entry_at arena image entries (2 * has.slot)) (entry_at arena image entries (2 * has.slot + 1)) f

-- Folders came while the entries were walked: so is each of them to which names lead.
pub record AreLed (arena : Arena) (image : Image) (entries : Link) (names : List Named) (noted : Option Broken) (old new : List Folder) : Type 0 where
  pub added : List Folder
  pub is : new ≡ old ++ added
  pub each : 5 < level noted → AllByRecursion (λ (f : Folder). f.named ≡ true → IsLedBy arena image entries names f) added

-- ---- one directory

-- The record stands at this place of a leaf of the source, which is the one that it is said to be in.
pub record IsListedAt (arena : Arena) (image : Image) (meta : Link) (place : ℕ) (x : Named) : Type 0 where
  pub leaf : ℕ
  pub lists : Lists arena image meta leaf place x.listed
  pub leads : target ((goes arena image meta (leaf_path meta.slot leaf)).slot) ≡ Local x.leaf

-- The records of a directory whose entries were not walked yet.
pub record AreInOrder (arena : Arena) (image : Image) (k : Kept) (meta : Link) (lead : Bool) (noted : Option Broken) (named : List Named) : Type 0 where
  pub fresh : (i : ℕ) (d : Named) → i < length named → (slice_index_or named i d).found ≡ false
  pub unmissed : (i : ℕ) (d : Named) → i < length named → (slice_index_or named i d).missed ≡ false
  pub whole : (n j : ℕ) (r : Record) → Lists arena image meta n j r → StandsAlone arena image k meta n → IsNamedIn named r
  pub differ : lead ≡ true → 6 < level noted → HasOwnSlots arena image k meta
  pub place : ℕ → ℕ
  pub places : (i : ℕ) (d : Named) → i < length named → IsListedAt arena image meta (place i) (slice_index_or named i d)
  pub own : (i j : ℕ) (d : Named) → i < length named → j < length named → (i ≡ j → ⊥) → (slice_index_or named i d).leaf ≡ (slice_index_or named j d).leaf → place i ≡ place j → ⊥

-- Of records in leaves at one place: each is in the list, no two have one pair, and the folder of each directory whose pair is at one place
-- is left. Each has its pair, where the way to it is clear.
pub record IsSettled (arena : Arena) (image : Image) (k : Kept) (entries meta : Link) (names : List Named) (folders : List Folder) : Type 0 where
  pub whole : (n j : ℕ) (r : Record) → Lists arena image meta n j r → StandsAlone arena image k meta n → IsNamedIn names r
  pub fit : (n j : ℕ) (r : Record) → Lists arena image meta n j r → StandsAlone arena image k meta n → IsClear arena image k entries (r.slot / 102) → HasPair arena image entries r
  pub differ : HasOwnSlots arena image k meta
  pub below : (n j : ℕ) (r : Record) → Lists arena image meta n j r → StandsAlone arena image k meta n → is_dir_mode r.mode ≡ true → HasPair arena image entries r → StandsAlone arena image k entries (r.slot / 102) → SomeOf (IsHeadOf (entry_at arena image entries (2 * r.slot)) (entry_at arena image entries (2 * r.slot + 1))) folders

-- A folder to which names lead was walked: these numbers came to the others, and where no rule up to 6 is noted, they are those of its
-- directory.
pub record Settles (arena : Arena) (image : Image) (k : Kept) (f : Folder) (noted : Option Broken) (folders : List Folder) (old new : List Number) : Type 0 where
  pub names : List Named
  pub grown : new ≡ old ++ map number_in names
  pub each : (entries meta : Link) → IsHeadOf entries meta f → 6 < level noted → IsSettled arena image k entries meta names folders

-- ---- all directories

pub record Grows (old new : List Folder) : Type 0 where
  pub added : List Folder
  pub is : new ≡ old ++ added

-- Names lead to none of the folders that came.
pub record GrowsUnnamed (old new : List Folder) : Type 0 where
  pub added : List Folder
  pub is : new ≡ old ++ added
  pub each : AllByRecursion (λ (f : Folder). f.named ≡ false) added

-- A folder of the directory with these two links is left, or one of a directory above it.
pub data IsLeft (arena : Arena) (image : Image) (k : Kept) (folders : List Folder) : Link → Link → Type 0 where
  here : (entries meta : Link) → SomeOf (IsHeadOf entries meta) folders → IsLeft arena image k folders entries meta
  below : (entries meta : Link) (n j : ℕ) (r : Record) → IsLeft arena image k folders entries meta → Lists arena image meta n j r → StandsAlone arena image k meta n → is_dir_mode r.mode ≡ true → HasPair arena image entries r → StandsAlone arena image k entries (r.slot / 102)
      → IsLeft arena image k folders (entry_at arena image entries (2 * r.slot)) (entry_at arena image entries (2 * r.slot + 1))

-- The records of a directory that are in leaves at one place have their pairs, where the way to these is clear.
pub record HasOwnPairs (arena : Arena) (image : Image) (k : Kept) (entries meta : Link) : Type 0 where
  pub fit : (n j : ℕ) (r : Record) → Lists arena image meta n j r → StandsAlone arena image k meta n → IsClear arena image k entries (r.slot / 102) → HasPair arena image entries r
  pub differ : HasOwnSlots arena image k meta

-- a folder that was walked, and its records
pub record Counted : Type 0 where
  pub folder : Folder
  pub names : List Named

-- the numbers of their records, those of the newest folder last
abbrev pub all_numbers : List Counted → List Number
all_numbers [] = []
all_numbers (c ∷ counted) = all_numbers counted ++ map number_in c.names

-- Each directory whose folder it may be has its pairs, and all its records are among these, as far as they are in leaves at one place.
pub record IsCounted (arena : Arena) (image : Image) (k : Kept) (c : Counted) : Type 0 where
  pub whole : (entries meta : Link) → IsHeadOf entries meta c.folder → (n j : ℕ) (r : Record) → Lists arena image meta n j r → StandsAlone arena image k meta n → IsNamedIn c.names r
  pub own : (entries meta : Link) → IsHeadOf entries meta c.folder → HasOwnPairs arena image k entries meta

-- Each directory to which names lead by blocks at one place is left or was walked, and the numbers are those of all that were walked.
pub record AreCounted (arena : Arena) (image : Image) (k : Kept) (folders : List Folder) (numbers : List Number) : Type 0 where
  pub counted : List Counted
  pub numbers_are : numbers ≡ all_numbers counted
  pub right : AllByRecursion (IsCounted arena image k) counted
  pub each : (trail : List ℕ) (entries meta : Link) → IsOwnDir arena image k trail entries meta → IsLeft arena image k folders entries meta ⊎ SomeOf (λ (c : Counted). IsHeadOf entries meta c.folder) counted

-- This is so where no rule up to 6 is noted.
pub record AreSettled (arena : Arena) (image : Image) (k : Kept) (noted : Option Broken) (folders : List Folder) (numbers : List Number) : Type 0 where
  pub counts : 6 < level noted → AreCounted arena image k folders numbers

-- ---- a whole tree

-- The same of all records, where no block is at two places.
pub record HasAllPairs (arena : Arena) (image : Image) (entries meta : Link) : Type 0 where
  pub fit : (n j : ℕ) (r : Record) → Lists arena image meta n j r → HasPair arena image entries r
  pub differ : (n j m i : ℕ) (r q : Record) → Lists arena image meta n j r → Lists arena image meta m i q → r.slot ≡ q.slot → (n ≡ m) × (j ≡ i)

pub record IsWhole (arena : Arena) (image : Image) (c : Counted) : Type 0 where
  pub whole : (entries meta : Link) → IsHeadOf entries meta c.folder → (n j : ℕ) (r : Record) → Lists arena image meta n j r → IsNamedIn c.names r
  pub own : (entries meta : Link) → IsHeadOf entries meta c.folder → HasAllPairs arena image entries meta

pub record AreWhole (arena : Arena) (image : Image) (k : Kept) (numbers : List Number) : Type 0 where
  pub counted : List Counted
  pub numbers_are : numbers ≡ all_numbers counted
  pub right : AllByRecursion (IsWhole arena image) counted
  pub each : (trail : List ℕ) (entries meta : Link) → IsDir arena image k.at trail entries meta → SomeOf (λ (c : Counted). IsHeadOf entries meta c.folder) counted

-- ---- directories to which names lead

pub record IsOfDir (arena : Arena) (image : Image) (k : Kept) (f : Folder) : Type 0 where
  pub trail : List ℕ
  pub entries : Link
  pub meta : Link
  pub dir : IsDir arena image k.at trail entries meta
  pub head : IsHeadOf entries meta f

-- Rule 6 is broken where it is noted, and each folder to which names lead is that of a directory, unless a rule no higher than 6 is noted.
pub record HasHeads (arena : Arena) (image : Image) (k : Kept) (noted : Option Broken) (folders : List Folder) : Type 0 where
  pub pairs : NamesPairs arena image k noted
  pub heads : 6 < level noted → AllByRecursion (λ (f : Folder). f.named ≡ true → IsOfDir arena image k f) folders
