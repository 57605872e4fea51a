-- What formatting leaves on the two devices, and what is said where it is refused or broken off.
use Rattle.std.specs.Prelude.{◌≡◌, ◌≢◌, ℕ, ◌≤◌, Bool, true, false, List, length, Result, IfErr, MatchResult}
use Rattle.fo_base.specs.Cause.{Rose, Counted}
use Rattle.fo_disk.specs.Disk.{Block, Content, latest}
use Rattle.fo_disk.specs.declared.disk.DiskFault.{DiskFault}
use Rattle.fo_disk.specs.declared.disk.DiskFault.TheVariants.{Read, Write, Sync}
use Rattle.fo_image.specs.Place.{first_data}
use Rattle.fo_sound.specs.Image.{block_of, IsDataBlock}
use Rattle.fo_sound.specs.Sizes.{IsMainSize, InRange, HasSizes, IsArena}
use Rattle.fo_sound.specs.Device.{Shows}
use Rattle.fo_sound.specs.Fresh.{IsFresh}
use Rattle.fo_format.specs.declared.error.FormatError.{FormatError}
use Rattle.fo_format.specs.declared.error.FormatError.TheVariants.{Size, Main, Arena, Memory}

-- The fresh image of this moment. Data blocks but the root's are as they were.
pub record MakesFresh (time : ℕ) (image now : List Block) : Type 0 where
  pub count : length now ≡ length image
  pub fresh : IsFresh time now
  pub others : (at : ℕ) → IsDataBlock (length image) at → at ≢ first_data (length image) → block_of now at ≡ block_of image at

-- An empty arena. Its other blocks are as they were.
pub record MakesEmpty (vault now : List Block) : Type 0 where
  pub count : length now ≡ length vault
  pub arena : IsArena now 0
  pub others : (at : ℕ) → at ≢ 0 → block_of now at ≡ block_of vault at

-- The main device is quiet and holds the fresh image of this moment. Data blocks but the root's are as they were.
pub record HoldsFresh (time : ℕ) (image : List Block) (holds : Content) : Type 0 where
  pub now : List Block
  pub shown : Shows holds now
  pub made : MakesFresh time image now

-- The arena is quiet and empty. Its other blocks are as they were.
pub record HoldsEmpty (vault : List Block) (holds : Content) : Type 0 where
  pub now : List Block
  pub shown : Shows holds now
  pub made : MakesEmpty vault now

-- Both devices are formatted, and their sizes are in range.
pub record Formats (time : ℕ) (image vault : List Block) (main arena : Content) : Type 0 where
  pub sizes : HasSizes image vault
  pub main_holds : HoldsFresh time image main
  pub arena_holds : HoldsEmpty vault arena

-- what holds of a device whose sync failed, once all was written
abbrev pub Unsettled : Type 0 → DiskFault → Type 0
Unsettled P Read = Unit {0}
Unsettled P Write = Unit {0}
Unsettled P Sync = P

-- Why there is no format: `Size` exactly where a size is out of range, but for a device whose blocks could not be counted. A sync
-- that failed comes after all writes of its device, and the main device after the arena. Of faults it is said elsewhere that they
-- come only where that device's count rose.
abbrev pub Refuses : ℕ → List Block → List Block → Content → Content → FormatError → Type 0
Refuses time image vault main arena Size = ¬ HasSizes image vault
Refuses time image vault main arena (Main Read) = Unit {0}
Refuses time image vault main arena (Main Write) = HasSizes image vault × HoldsEmpty vault arena
Refuses time image vault main arena (Main Sync) = HasSizes image vault × HoldsEmpty vault arena × MakesFresh time image (latest main)
Refuses time image vault main arena (Arena Read) = Unit {0}
Refuses time image vault main arena (Arena Write) = HasSizes image vault
Refuses time image vault main arena (Arena Sync) = HasSizes image vault × MakesEmpty vault (latest arena)
Refuses time image vault main arena Memory = HasSizes image vault

-- a size out of range, or blocks that could not be counted
abbrev pub RefusesSizes : List Block → List Block → FormatError → Type 0
RefusesSizes image vault Size = ¬ HasSizes image vault
RefusesSizes image vault (Main fault) = fault ≡ Read
RefusesSizes image vault (Arena fault) = fault ≡ Read
RefusesSizes image vault Memory = ⊥

-- Whether the call wrote to the device before it was refused. It writes the arena first.
abbrev pub wrote_main : FormatError → Bool
wrote_main (Main Write) = true
wrote_main (Main Sync) = true
wrote_main _ = false

abbrev pub wrote_arena : FormatError → Bool
wrote_arena (Arena Write) = true
wrote_arena (Arena Sync) = true
wrote_arena e = wrote_main e

-- a refusal from before the first write, but for want of memory
abbrev pub IsOfSizes : FormatError → Type 0
IsOfSizes Size = Unit {0}
IsOfSizes (Main fault) = fault ≡ Read
IsOfSizes (Arena fault) = fault ≡ Read
IsOfSizes Memory = ⊥

-- a write or a sync
abbrev pub IsLater : DiskFault → Type 0
IsLater Read = ⊥
IsLater Write = Unit {0}
IsLater Sync = Unit {0}

-- ---- over any devices

-- What a refusal says of the numbers of blocks that were found. The main device is asked first. Where the blocks of a device could
-- not be counted, nothing is known of their number.
abbrev pub RefusesAt : ℕ → ℕ → FormatError → Type 0
RefusesAt main arena Size = ¬ InRange main arena
RefusesAt main arena (Main Read) = Unit {0}
RefusesAt main arena (Main Write) = InRange main arena
RefusesAt main arena (Main Sync) = InRange main arena
RefusesAt main arena (Arena Read) = IsMainSize main
RefusesAt main arena (Arena Write) = InRange main arena
RefusesAt main arena (Arena Sync) = InRange main arena
RefusesAt main arena Memory = InRange main arena

-- `Size` is answered exactly where one of the numbers of blocks that were found is out of range.
abbrev pub KnowsSizes : {V : Type 0} → ℕ → ℕ → Result V FormatError → Type 0
KnowsSizes main arena result = MatchResult result (λ _. InRange main arena) (RefusesAt main arena)

-- `Size` is answered only where the main device was asked for its number of blocks, and so was the arena if that number is in range.
abbrev pub AsksSizes : {V : Type 0} → ℕ → ℕ → ℕ → ℕ → ℕ → Result V FormatError → Type 0
AsksSizes size main main_now arena arena_now result = IfErr result (λ e. e ≡ Size → Counted main main_now × (IsMainSize size → Counted arena arena_now))

-- A fault is answered only where that device's count rose, and `Size` only where no device failed.
abbrev pub Blames : ℕ → ℕ → ℕ → ℕ → FormatError → Type 0
Blames main main_now arena arena_now Size = (main_now ≡ main) × (arena_now ≡ arena)
Blames main main_now arena arena_now (Main fault) = Rose main main_now
Blames main main_now arena arena_now (Arena fault) = Rose arena arena_now
Blames main main_now arena arena_now _ = Unit {0}

-- The counts of faults never fall, a fault is answered only where its device's count rose, and `Size` only where neither did.
pub record HasCauses {T : Type 0} (main main_now arena arena_now : ℕ) (result : Result T FormatError) : Type 0 where
  pub main_later : main ≤ main_now
  pub arena_later : arena ≤ arena_now
  pub failed : IfErr result (Blames main main_now arena arena_now)
