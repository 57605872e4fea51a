-- The whole walk: which blocks were reached, what is left to be followed, and what was noted.
--
-- A slot is known by its block and its number. How often a slot is still to be followed is a number: 1, and 0 once that was done.
use Rattle.std.specs.Prelude.{◌≡◌, ◌⊎◌, ℕ, ◌+◌, ◌<◌, ◌≤◌, nat_eq, cond, ◌&&◌, zero, suc, true, false, List, [], ◌∷◌, ◌++◌, length, Option, Some, None, MatchOption}
use Rattle.std.specs.List.{All, Any}
use Rattle.fo_disk.specs.Disk.{Block}
use Rattle.fo_image.specs.declared.types.Kind.{Kind}
use Rattle.fo_image.specs.declared.types.Kind.TheVariants.{Data, Dir, Root}
use Rattle.fo_image.specs.declared.types.Entry.{Entry}
use Rattle.fo_image.specs.declared.types.Label.{Label}
use Rattle.fo_image.specs.declared.types.State.TheVariants.{Free}
use Rattle.fo_image.specs.declared.types.Super.{Super}
use Rattle.fo_image.specs.declared.types.Score.{Score}
use Rattle.fo_image.specs.declared.types.Pointer.TheVariants.{Nil, Local, Score as Held}
use Rattle.fo_crash.specs.declared.slot.Slot.{Slot}
use Rattle.fo_crash.specs.declared.place.Place.{Place}
use Rattle.fo_crash.specs.Images.{Image, Arena, target, kind_below}
use Rattle.fo_crash.specs.Places.{tag_of_top}
use Rattle.fo_good.specs.Means.{IsRead}
use Rattle.fo_sound.specs.Image.{block_of, IsDataBlock, HasLabel}
use Rattle.fo_sound.specs.Sound.{root_label}
use Rattle.fo_good.specs.Trees.{MayHave, LeadsTo, at_path, place_of}
use Rattle.fo_good.specs.Sound.{Kept}
use Rattle.fo_check_tree.specs.declared.broken.Broken.{Broken}
use Rattle.fo_check_labels.specs.declared.labels.Known.{Known}
use Rattle.fo_check_tree.specs.declared.walk.Folder.{Folder}
use Rattle.fo_check_tree.specs.declared.walk.Holder.{Holder}
use Rattle.fo_check_tree.specs.declared.walk.Holds.TheVariants.{Bytes, Records}
use Rattle.fo_check_tree.specs.declared.walk.Step.{Step}
use Rattle.fo_check_tree.specs.declared.walk.Walk.{Walk}
use Rattle.fo_check_tree.specs.Answer.{HoldsAny, IsNamed}
use Rattle.fo_check_labels.specs.Known.{Ascend, IsKnown}
use Rattle.fo_check_tree.specs.Lower.{level}
use Rattle.fo_check_tree.specs.Slots.{top_step}

-- ---- blocks that were reached

pub record IsIn (at : ℕ) (l : Label) (m : Known) : Type 0 where
  pub address_is : m.address ≡ at
  pub label_is : m.label ≡ l
  pub reached_is : m.reached ≡ true

-- The block was reached, and has this label.
abbrev pub Reached : List Known → ℕ → Label → Type 0
Reached known at l = Any (IsIn at l) known

-- a block of the list: a data block that is not free
pub record IsTaken (device : List Block) (m : Known) : Type 0 where
  pub place : IsDataBlock (length device) m.address
  pub has : HasLabel device m.address m.label
  pub used : m.label.state ≡ Free → ⊥

-- The list has the data blocks that are not free, in order.
pub record IsTable (device : List Block) (known : List Known) : Type 0 where
  pub right : All (IsTaken device) known
  pub listed : (at : ℕ) (l : Label) → IsDataBlock (length device) at → HasLabel device at l → (l.state ≡ Free → ⊥) → Any (IsKnown at l) known
  pub up : Ascend known

-- A path from the root leads to the block, and its place there is of the kind and tag of its label.
pub record HasPath (arena : Arena) (image : Image) (k : Kept) (at : ℕ) (l : Label) : Type 0 where
  pub path : List ℕ
  pub leads : LeadsTo arena image k.at path at
  pub kind : (place_of arena image k.at path).kind ≡ l.kind
  pub tag : (place_of arena image k.at path).tag ≡ l.tag
  pub link : (at_path arena image k.at path).kind ≡ l.kind

-- ---- steps that are left

abbrev pub tag_below : Kind → ℕ → Slot → ℕ
tag_below (Data level) tag s = tag
tag_below (Dir zero) tag s = tag_of_top s
tag_below (Dir (suc level)) tag s = tag
tag_below Root tag s = tag_of_top s

-- the place below a slot of a block with this label; nothing is asked of its number and rank
abbrev pub place_under : Label → Slot → Place
place_under l s = record { kind = kind_below l.kind s; tag = tag_below l.kind l.tag s; index = 0; rank = 0 }

-- the step by slot i of a block
pub record IsStepOf (device : List Block) (image : Image) (at : ℕ) (l : Label) (i : ℕ) (step : Step) : Type 0 where
  pub has : HasLabel device at l
  pub holder : step.holder ≡ record { block = at; label = l }
  pub pointer : step.pointer ≡ target ((image at).slot i)
  pub kind : (step.pointer ≡ Nil → ⊥) → step.kind ≡ kind_below l.kind ((image at).slot i)
  pub tag : (step.pointer ≡ Nil → ⊥) → step.tag ≡ tag_below l.kind l.tag ((image at).slot i)
  pub not_root : step.kind ≡ Root → ⊥

-- once this slot, and no other
abbrev pub one : ℕ → ℕ → ℕ → ℕ → ℕ
one at i b j = cond (nat_eq b at && nat_eq j i) 1 0

-- No slot is left.
pub record AreNone (n : ℕ → ℕ → ℕ) : Type 0 where
  pub each : (b j : ℕ) → n b j ≡ 0

-- This step is by a slot, and others by those that are left else.
pub record IsOneMore (device : List Block) (image : Image) (step : Step) (Rest : (ℕ → ℕ → ℕ) → Type 0) (n : ℕ → ℕ → ℕ) : Type 0 where
  pub at : ℕ
  pub label : Label
  pub slot : ℕ
  pub is : IsStepOf device image at label slot step
  pub others : ℕ → ℕ → ℕ
  pub rest : Rest others
  pub sum : (b j : ℕ) → n b j ≡ one at slot b j + others b j

-- These are the steps of so many slots each.
abbrev pub Fits : List Block → Image → List Step → (ℕ → ℕ → ℕ) → Type 0
Fits device image [] n = AreNone n
Fits device image (step ∷ steps) n = IsOneMore device image step (λ m. Fits device image steps m) n

-- the steps to the tops of the sources of a folder, and of many
abbrev pub records_top : Holder → Option Entry → List Step
records_top here None = []
records_top here (Some e) = top_step e Records here ∷ []

abbrev pub tops : Folder → List Step
tops f = top_step f.entries Bytes f.holder ∷ records_top f.holder f.records

abbrev pub all_tops : List Folder → List Step
all_tops [] = []
all_tops (f ∷ folders) = tops f ++ all_tops folders

-- ---- what was done

-- Of slot i of a block that was reached: it leads nowhere, is left, is a score, or leads to a block that was reached and may stand there.
pub data IsDone (image : Image) (k : Kept) (known : List Known) (noted : Option Broken) (n : ℕ → ℕ → ℕ) (at : ℕ) (l : Label) (i : ℕ) : Type 0 where
  nowhere : target ((image at).slot i) ≡ Nil → IsDone image k known noted n at l i
  left : 1 ≤ n at i → IsDone image k known noted n at l i
  held : (score : Score) → target ((image at).slot i) ≡ Held score → level noted ≤ 9 → IsDone image k known noted n at l i
  local : (below : ℕ) (m : Label) → target ((image at).slot i) ≡ Local below → Reached known below m → MayHave k.root.epoch true (place_under l ((image at).slot i)) l m → IsDone image k known noted n at l i

-- A slot by which the block was reached.
pub record HasParent (image : Image) (known : List Known) (n : ℕ → ℕ → ℕ) (below : ℕ) : Type 0 where
  pub at : ℕ
  pub slot : ℕ
  pub label : Label
  pub reached : Reached known at label
  pub leads : target ((image at).slot slot) ≡ Local below
  pub taken : n at slot ≡ 0

-- What is so all through the walk, with so many slots left. While rule 7 is not noted, each block was reached by one slot.
pub record Goes (arena : Arena) (device : List Block) (image : Image) (s : Super) (k : Kept) (known : List Known) (noted : Option Broken) (n : ℕ → ℕ → ℕ) : Type 0 where
  pub table : IsTable device known
  pub root : Reached known k.at (root_label s)
  pub holders : (at i : ℕ) → 1 ≤ n at i → (l : Label) × Reached known at l
  pub few : (at i : ℕ) → n at i ≤ 1
  pub done : (at : ℕ) (l : Label) (i : ℕ) → Reached known at l → IsDone image k known noted n at l i
  pub paths : (at : ℕ) (l : Label) → Reached known at l → HasPath arena image k at l
  pub parents : (at : ℕ) (l : Label) → Reached known at l → (at ≡ k.at) ⊎ HasParent image known n at
  pub once : 7 < level noted → (a i b j below : ℕ) (l m : Label) → Reached known a l → Reached known b m → n a i ≡ 0 → n b j ≡ 0 → target ((image a).slot i) ≡ Local below → target ((image b).slot j) ≡ Local below → (a ≡ b) × (i ≡ j)
  pub top : 7 < level noted → (a i : ℕ) (l : Label) → Reached known a l → n a i ≡ 0 → ¬ (target ((image a).slot i) ≡ Local k.at)
  pub read : 5 < level noted → (at : ℕ) (l : Label) → Reached known at l → IsRead l.kind (image at) (block_of device at)
  pub notes : MatchOption noted (Unit {0}) (IsNamed arena image k)

-- The walk, with these steps left beside its own.
pub record Walking (arena : Arena) (device : List Block) (image : Image) (s : Super) (k : Kept) (rest : List Step) (walk : Walk) : Type 0 where
  pub holds : HoldsAny arena device image s k
  pub size : walk.blocks ≡ length device
  pub tree : (walk.epoch ≡ k.root.epoch) × (walk.active ≡ true)
  pub others : ℕ → ℕ → ℕ
  pub steps : ℕ → ℕ → ℕ
  pub folders : ℕ → ℕ → ℕ
  pub others_fit : Fits device image rest others
  pub steps_fit : Fits device image walk.steps.items steps
  pub folders_fit : Fits device image (all_tops walk.folders.items) folders
  pub goes : Goes arena device image s k walk.labels.known.items walk.noted (λ b j. others b j + steps b j + folders b j)

-- The walk before it begins: no block was reached, and nothing is left or noted.
pub record IsUnbegun (device : List Block) (s : Super) (walk : Walk) : Type 0 where
  pub size : walk.blocks ≡ length device
  pub tree : (walk.epoch ≡ s.high) × (walk.active ≡ true)
  pub table : IsTable device walk.labels.known.items
  pub unreached : All (λ m. m.reached ≡ false) walk.labels.known.items
  pub nothing : (walk.steps.items ≡ []) × (walk.folders.items ≡ []) × (walk.noted ≡ None)
