-- What is to be followed from a block, slot by slot.
use Rattle.std.specs.Prelude.{◌≡◌, ℕ, ◌+◌, ◌-◌, ◌*◌, ◌^◌, ◌<◌, zero, suc, cond, min, Bool, true, false, not, ◌&&◌, List, [], ◌∷◌, ◌++◌, take, drop, Option, None}
use Rattle.fo_disk.specs.Disk.{Block}
use Rattle.fo_image.specs.declared.types.Kind.{Kind}
use Rattle.fo_image.specs.declared.types.Kind.TheVariants.{Data, Dir, Root}
use Rattle.fo_image.specs.declared.types.Entry.{Entry}
use Rattle.fo_image.specs.declared.types.Pointer.{Pointer}
use Rattle.fo_image.specs.declared.types.Pointer.TheVariants.{Nil, Local, Score as Held}
use Rattle.fo_image.specs.Format.{SpellsEntry}
use Rattle.fo_crash.specs.declared.slot.Slot.{Slot}
use Rattle.fo_crash.specs.declared.slot.Slot.TheVariants.{Pointer as To, Entry as Head, Prev}
use Rattle.fo_crash.specs.Images.{Content, target}
use Rattle.fo_good.specs.Means.{EndsAt, HasPointer, HasEntry}
use Rattle.fo_check_tree.specs.declared.broken.Broken.{Broken}
use Rattle.fo_check_tree.specs.declared.walk.Folder.{Folder}
use Rattle.fo_check_tree.specs.declared.walk.Holder.{Holder}
use Rattle.fo_check_tree.specs.declared.walk.Holds.{Holds}
use Rattle.fo_check_tree.specs.declared.walk.Holds.TheVariants.{Bytes, Records}
use Rattle.fo_check_tree.specs.declared.walk.Step.{Step}
use Rattle.fo_check_names.specs.Pairs.{no_entry, is_folder, is_source, records_of}
use Rattle.fo_check_tree.specs.Lower.{lower}

-- what is noted where a test that has to hold does not
abbrev pub unless : Bool → ℕ → ℕ → Option Broken → Option Broken
unless true rule block noted = noted
unless false rule block noted = lower noted rule block

-- ---- a device's content, whatever its blocks hold

-- Slot i of a leaf of entries: the entry there, or nothing where none is that may be followed.
pub data HasSlot (c : Content) (bytes : Block) (i : ℕ) : Type 0 where
  entry : HasEntry c bytes i → HasSlot c bytes i
  other : c.slot i ≡ To Nil → ((e : Entry) → SpellsEntry e (take 40 (drop (40 * i) bytes)) → 4 < e.depth) → HasSlot c bytes i

-- The slots of a block, read as its label says.
abbrev pub HasSlots : Kind → Content → Block → Type 0
HasSlots (Data zero) c bytes = EndsAt 0 c
HasSlots (Data (suc level)) c bytes = ((i : ℕ) → i < 409 → HasPointer c bytes i) × EndsAt 409 c
HasSlots (Dir zero) c bytes = ((i : ℕ) → i < 204 → HasSlot c bytes i) × EndsAt 204 c
HasSlots (Dir (suc level)) c bytes = ((i : ℕ) → i < 409 → HasPointer c bytes i) × EndsAt 409 c
HasSlots Root c bytes = Unit {0}

-- ---- blocks of pointers

-- the number at its level of the block below slot i of the block with this number
abbrev pub index_below : ℕ → ℕ → ℕ
index_below index i = min (min (index * 409) (2 ^ 64 - 1) + i) (2 ^ 64 - 1)

-- the step by slot i of a block to which a step led
abbrev pub step_below : Step → Kind → Holder → ℕ → Pointer → Step
step_below step kind here i p = record step { pointer = p; kind = kind; index = index_below step.index i; holder = here }

-- No step is made where the slot leads nowhere.
abbrev pub steps_by : Step → Kind → Holder → ℕ → Pointer → List Step
steps_by step kind here i Nil = []
steps_by step kind here i (Local at) = step_below step kind here i (Local at) ∷ []
steps_by step kind here i (Held score) = step_below step kind here i (Held score) ∷ []

-- the steps by the first slots of a block of pointers
unfoldable pub steps_below : Step → Kind → Holder → Content → ℕ → List Step
steps_below step kind here c zero = []
steps_below step kind here c (suc n) = steps_below step kind here c n ++ steps_by step kind here n (target (c.slot n))

-- ---- pairs of entries

abbrev pub entry_of : Slot → Entry
entry_of (Head e) = e
entry_of (To p) = no_entry
entry_of (Prev epoch at) = no_entry

-- the step to the top of the source of an entry
abbrev pub top_step : Entry → Holds → Holder → Step
top_step e holds here = record { pointer = e.top; kind = cond e.dir (Dir e.depth) (Data e.depth); tag = e.tag; index = 0; size = e.size; holds = holds; holder = here }

-- A source that is the first of a pair has a file's bytes.
abbrev pub first_steps : Holder → Entry → List Step
first_steps here e = cond (is_source e) (top_step e Bytes here ∷ []) []

-- A source that is the second of a pair has records, of which none is listed where the first names no entries.
abbrev pub second_steps : Holder → Bool → Entry → List Step
second_steps here together e = cond (is_source e && not together) (record (top_step e Records here) { size = 0 } ∷ []) []

abbrev pub pair_steps : Holder → Entry → Entry → List Step
pair_steps here first second = first_steps here first ++ second_steps here (is_folder first) second

abbrev pub folders_by : Holder → Entry → Option Entry → ℕ → Bool → List Folder
folders_by here e records depth named = cond (is_folder e) (record { entries = e; records = records; holder = here; depth = depth; named = named } ∷ []) []

abbrev pub pair_folders : Holder → Entry → Entry → ℕ → Bool → List Folder
pair_folders here first second depth named = folders_by here first (records_of first second) depth named ++ folders_by here second None depth false

-- the steps by the first pairs of a leaf of entries
unfoldable pub steps_by_pairs : Holder → Content → ℕ → List Step
steps_by_pairs here c zero = []
steps_by_pairs here c (suc k) = steps_by_pairs here c k ++ pair_steps here (entry_of (c.slot (2 * k))) (entry_of (c.slot (2 * k + 1)))

-- The folders by the first pairs of a leaf of entries: names may lead to each first of a pair, where they lead to the leaf.
pub data AreFolders (here : Holder) (c : Content) (depth : ℕ) (named : Bool) : ℕ → List Folder → Type 0 where
  none : AreFolders here c depth named zero []
  more : (k : ℕ) (found : Bool) (folders : List Folder) → AreFolders here c depth named k folders
      → AreFolders here c depth named (suc k) (folders ++ pair_folders here (entry_of (c.slot (2 * k))) (entry_of (c.slot (2 * k + 1))) depth (named && found))

pub record AddsFolders (here : Holder) (c : Content) (depth : ℕ) (named : Bool) (pairs : ℕ) (old new : List Folder) : Type 0 where
  pub added : List Folder
  pub behind : new ≡ old ++ added
  pub are : AreFolders here c depth named pairs added

-- ---- any block

-- the steps by the slots of a block of this kind, to which a step led
abbrev pub steps_of : Step → Holder → Content → Kind → List Step
steps_of step here c (Data zero) = []
steps_of step here c (Data (suc level)) = steps_below step (Data level) here c 409
steps_of step here c (Dir zero) = steps_by_pairs here c 102
steps_of step here c (Dir (suc level)) = steps_below step (Dir level) here c 409
steps_of step here c Root = []
