-- What is answered of the images of the two devices before their trees are looked at.
use Rattle.std.specs.Prelude.{◌≡◌, ◌≢◌, ℕ, ◌<◌, List, length, None, Result, IfErr, MatchResult}
use Rattle.fo_base.specs.Cause.{Rose, Counted}
use Rattle.fo_disk.specs.Disk.{Block}
use Rattle.fo_disk.specs.declared.disk.DiskFault.TheVariants.{Read}
use Rattle.fo_image.specs.declared.types.Super.{Super}
use Rattle.fo_image.specs.declared.record.RootBlock.{RootBlock}
use Rattle.fo_image.specs.Format.{SpellsHeader, SpellsSuper}
use Rattle.fo_image.specs.Record.{SpellsRoot}
use Rattle.fo_sound.specs.Sizes.{IsMainSize, InRange, HasSizes, IsArena}
use Rattle.fo_check.specs.declared.error.CheckError.{CheckError}
use Rattle.fo_check.specs.declared.error.CheckError.TheVariants.{Size, NotArena, NotBuilt, Unsound, Main, Arena, Memory}
use Rattle.fo_check.specs.declared.opening.Opening.{Opening}
use Rattle.fo_sound.specs.Image.{block_of, IsDataBlock, HasLabel}
use Rattle.fo_sound.specs.Sound.{IsFormatted, HasEpochs, root_label, HasActiveRoot, ReachesLow}

-- ---- before the rules

-- What is asked before any rule but S1: sizes in range, S1, and an arena in which nothing is used.
pub record IsOpen (image vault : List Block) (s : Super) : Type 0 where
  pub sizes : HasSizes image vault
  pub formatted : IsFormatted image s
  pub arena : IsArena vault 0

-- ---- the rules that are broken, and the block that is named

-- S1: the block that is not of its format
pub data BreaksFormat (image : List Block) (block : ℕ) : Type 0 where
  header : block ≡ 0 → ¬ SpellsHeader (record { blocks = length image }) (block_of image 0) → BreaksFormat image block
  super_block : block ≡ 1 → ((s : Super) → ¬ SpellsSuper s (block_of image 1)) → BreaksFormat image block

-- S2: block 1 for what the super block itself says, else the active root
pub data BreaksActive (image : List Block) (s : Super) (block : ℕ) : Type 0 where
  epochs : block ≡ 1 → ¬ HasEpochs s → BreaksActive image s block
  place : block ≡ 1 → ¬ IsDataBlock (length image) s.active → BreaksActive image s block
  label : block ≡ s.active → IsDataBlock (length image) s.active → ¬ HasLabel image s.active (root_label s) → BreaksActive image s block
  root : block ≡ s.active → IsDataBlock (length image) s.active → ((root : RootBlock) → SpellsRoot root (block_of image s.active) → root.epoch ≢ s.high) → BreaksActive image s block

-- ---- the answer

-- No root before the active one is kept, and nothing was archived.
pub record IsAlone (s : Super) (root : RootBlock) : Type 0 where
  pub before : root.prev_epoch < s.low
  pub last : s.last ≡ None

-- What is known before trees are looked at: sizes, S1, an arena in which nothing is used, S2, no root before the active one from the low
-- epoch on and no archive, and S3.
pub record Opens (image vault : List Block) (o : Opening) : Type 0 where
  pub blocks : o.blocks ≡ length image
  pub opened : IsOpen image vault o.s
  pub active : HasActiveRoot image o.s o.root
  pub alone : IsAlone o.s o.root
  pub chain : ReachesLow o.s

-- No arena: S1 holds, and block 0 of the arena is not of its format, or says another number of blocks or more used places than
-- there are.
pub record IsNoArena (image vault : List Block) : Type 0 where
  pub sizes : HasSizes image vault
  pub s : Super
  pub formatted : IsFormatted image s
  pub none : (used : ℕ) → ¬ IsArena vault used

-- Not built yet: something is archived, or S1 and S2 hold and there is a root before the active one from the low epoch on, or a score of a
-- last archive.
pub data IsNotBuilt (image vault : List Block) : Type 0 where
  archived : (s : Super) (used : ℕ) → HasSizes image vault → IsFormatted image s → IsArena vault used → 0 < used → IsNotBuilt image vault
  more : (s : Super) (root : RootBlock) → IsOpen image vault s → HasActiveRoot image s root → ¬ IsAlone s root → IsNotBuilt image vault

-- The lowest rule that is broken, and a block at which it is broken. For S3 that is the last root block which the chain reaches: no root
-- before the active one is kept, so it is the active root.
pub data IsUnsound (image vault : List Block) (rule block : ℕ) : Type 0 where
  format : rule ≡ 1 → HasSizes image vault → BreaksFormat image block → IsUnsound image vault rule block
  active : (s : Super) → rule ≡ 2 → IsOpen image vault s → BreaksActive image s block → IsUnsound image vault rule block
  chain : (s : Super) (root : RootBlock) → rule ≡ 3 → IsOpen image vault s → HasActiveRoot image s root → IsAlone s root → ¬ ReachesLow s → block ≡ s.active → IsUnsound image vault rule block

-- Why it is refused. Of faults it is said elsewhere that they come only where that device's count rose.
abbrev pub Refuses : List Block → List Block → CheckError → Type 0
Refuses image vault Size = ¬ HasSizes image vault
Refuses image vault NotArena = IsNoArena image vault
Refuses image vault NotBuilt = IsNotBuilt image vault
Refuses image vault (Unsound rule block) = IsUnsound image vault rule block
Refuses image vault (Main fault) = Unit {0}
Refuses image vault (Arena fault) = Unit {0}
Refuses image vault Memory = Unit {0}

-- a fault or want of memory
abbrev pub IsOutside : CheckError → Type 0
IsOutside Size = ⊥
IsOutside NotArena = ⊥
IsOutside NotBuilt = ⊥
IsOutside (Unsound rule block) = ⊥
IsOutside (Main fault) = Unit {0}
IsOutside (Arena fault) = Unit {0}
IsOutside Memory = Unit {0}

-- What a step of the check answers: a value that is right, or a refusal with its reason. A value that is right is found,
-- but for a fault or want of memory.
pub record Finds {V : Type 0} (Right : V → Type 0) (Reason : CheckError → Type 0) (result : Result V CheckError) : Type 0 where
  pub found : MatchResult result Right Reason
  pub only : (v : V) → Right v → MatchResult result (λ w. w ≡ v) IsOutside

-- ---- over any devices

-- What a refusal says of the numbers of blocks that were found. The main device is asked first. Where the blocks of a device could
-- not be counted, nothing is known of their number.
abbrev pub RefusesAt : ℕ → ℕ → CheckError → Type 0
RefusesAt main arena Size = ¬ InRange main arena
RefusesAt main arena NotArena = InRange main arena
RefusesAt main arena NotBuilt = InRange main arena
RefusesAt main arena (Unsound rule block) = InRange main arena
RefusesAt main arena (Main fault) = Unit {0}
RefusesAt main arena (Arena fault) = IsMainSize main
RefusesAt main arena Memory = InRange main arena

-- `Size` is answered exactly where one of the numbers of blocks that were found is out of range.
abbrev pub KnowsSizes : {V : Type 0} → ℕ → ℕ → Result V CheckError → Type 0
KnowsSizes main arena result = MatchResult result (λ _. InRange main arena) (RefusesAt main arena)

-- `Size` is answered only where the main device was asked for its number of blocks, and so was the arena if that number is in range.
abbrev pub AsksSizes : {V : Type 0} → ℕ → ℕ → ℕ → ℕ → ℕ → Result V CheckError → Type 0
AsksSizes size main main_now arena arena_now result = IfErr result (λ e. e ≡ Size → Counted main main_now × (IsMainSize size → Counted arena arena_now))

-- A fault is one of a read, and is answered only where that device's count rose. `Size` is answered only where no device failed.
abbrev pub Blames : ℕ → ℕ → ℕ → ℕ → CheckError → Type 0
Blames main main_now arena arena_now Size = (main_now ≡ main) × (arena_now ≡ arena)
Blames main main_now arena arena_now (Main fault) = (fault ≡ Read) × Rose main main_now
Blames main main_now arena arena_now (Arena fault) = (fault ≡ Read) × Rose arena arena_now
Blames main main_now arena arena_now _ = Unit {0}
