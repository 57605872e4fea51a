-- What a disk may hold after a crash, and what each call does to it.
use Rattle.std.specs.Prelude.{◌≡◌, ◌⊎◌, ℕ, ◌-◌, ◌<◌, Bool, true, false, if◌then◌else◌, List, [], ◌∷◌, ◌++◌, length, map, drop, slice_index_or, slice_set, Result, MatchResult, is_err}
use Rattle.std.specs.List.{All, Contains}

-- the bytes of one block
abbrev pub Block : Type 0
Block = List ℕ

-- the versions of one block that a crash may leave, oldest first
abbrev pub Versions : Type 0
Versions = List Block

-- the versions of each block at one moment
abbrev pub Content : Type 0
Content = List Versions

-- the versions of the block at this number
abbrev pub versions_of : Content → ℕ → Versions
versions_of content at = slice_index_or content at []

-- a disk that tells its moments
abbrev pub Tells : List Content → Type 0
Tells moments = 0 < length moments

-- Where a disk tells its moments, the newest is like this.
abbrev pub AtNewest : (Content → Type 0) → List Content → Type 0
AtNewest P [] = Unit {0}
AtNewest P (content ∷ past) = P content

-- what a crash may leave: a choice of one version for each block
pub record IsImage (content : Content) (image : List Block) : Type 0 where
  pub count : length image ≡ length content
  pub each : (k : ℕ) → k < length content → Contains (versions_of content k) (slice_index_or image k [])

-- every image of this content has P
abbrev pub EachImage : (List Block → Type 0) → Content → Type 0
EachImage P content = (image : List Block) → IsImage content image → P image

-- a block with one version
abbrev pub IsSettled : Content → ℕ → Type 0
IsSettled content at = length (versions_of content at) ≡ 1

-- all blocks are settled
pub record IsQuiet (content : Content) : Type 0 where
  pub each : (k : ℕ) → k < length content → IsSettled content k

-- the content of a quiet disk with these blocks
abbrev pub settled : List Block → Content
settled blocks = map (λ (b : Block). b ∷ []) blocks

-- each block has a version, and all versions are whole blocks
pub record IsContent (blocks : ℕ) (content : Content) : Type 0 where
  pub count : length content ≡ blocks
  pub some : (k : ℕ) → k < blocks → 0 < length (versions_of content k)
  pub whole : (k : ℕ) (b : Block) → k < blocks → Contains (versions_of content k) b → length b ≡ 8192

-- All versions hold bytes: numbers below 256.
pub record AreBytes (content : Content) : Type 0 where
  pub each : (at : ℕ) (b : Block) (i : ℕ) → Contains (versions_of content at) b → slice_index_or b i 0 < 256

-- The newest moment, where moments are told, is what the disk holds now.
pub record IsNewest (blocks : ℕ) (now : Content) (moments : List Content) : Type 0 where
  pub newest : AtNewest (λ content. (content ≡ now) × IsContent blocks content) moments

-- the last version alone
abbrev pub newest : Versions → Versions
newest versions = drop (length versions - 1) versions

-- the last version
abbrev pub latest_of : Versions → Block
latest_of versions = slice_index_or versions (length versions - 1) []

-- the last version of each block, as a sync of all blocks would leave them
abbrev pub latest : Content → List Block
latest content = map latest_of content

-- These bytes are the last version of this block. Older ones, which a crash can no longer leave, may be gone.
pub record Adds (at : ℕ) (bytes : Block) (old new : Content) : Type 0 where
  pub gone : ℕ
  pub is : new ≡ slice_set old at (drop gone (versions_of old at) ++ bytes ∷ [])

-- These bytes are the last version of this block, after all older ones.
pub record Appends (at : ℕ) (bytes : Block) (old new : Content) : Type 0 where
  pub is : new ≡ slice_set old at (versions_of old at ++ bytes ∷ [])

-- Of each block the last version is left, and all of them where its last write failed.
pub record Settles (unsure : List Bool) (old new : Content) : Type 0 where
  pub count : length new ≡ length old
  pub each : (k : ℕ) → k < length old → versions_of new k ≡ (if slice_index_or unsure k false then versions_of old k else newest (versions_of old k))

-- A write that answers Ok adds its bytes. One that fails adds them and keeps all older versions, or changes nothing.
abbrev pub Writes : {E : Type 0} → ℕ → Block → Result Unit E → Content → Content → Type 0
Writes at bytes result old new = MatchResult result (λ _. Adds at bytes old new) (λ _. (new ≡ old) ⊎ Appends at bytes old new)

-- a sync that answers Ok settles, and one that fails changes nothing
abbrev pub Syncs : {E : Type 0} → List Bool → Result Unit E → Content → Content → Type 0
Syncs unsure result old new = MatchResult result (λ _. Settles unsure old new) (λ _. new ≡ old)

-- with one moment more, where moments are told
abbrev pub entered : Content → List Content → List Content
entered now [] = []
entered now (content ∷ past) = now ∷ content ∷ past

-- A call ends: what the disk holds now is the newest moment. A call that changed nothing may add no moment.
pub record Passes (before now : Content) (old new : List Content) : Type 0 where
  pub either : (new ≡ entered now old) ⊎ ((now ≡ before) × (new ≡ old))

-- Every image of every moment from old to new, both included, has P.
pub record Since (old new : List Content) (P : List Block → Type 0) : Type 0 where
  pub start : AtNewest (EachImage P) old
  pub added : List Content
  pub follows : new ≡ added ++ old
  pub told : Tells new → Tells old
  pub each : All (EachImage P) added

-- Two disks, of which the second is changed first. Every pair of images has P: of what the first held at the start with each
-- moment of the second, and of each moment of the first with what the second holds at the end.
pub record SinceBoth (first_held second_holds : Content) (first_old first_new second_old second_new : List Content) (P : List Block → List Block → Type 0) : Type 0 where
  pub second : Since second_old second_new (λ image. 0 < length first_held → EachImage (λ other. P other image) first_held)
  pub first : Since first_old first_new (λ image. 0 < length second_holds → EachImage (λ other. P image other) second_holds)

-- What is known of a disk. One that tells nothing has no blocks here, and one that keeps no record of its moments has none.
pub record DiskState : Type 0 where
  -- the versions of each block
  pub holds : Content
  -- what it has held at every moment so far, the newest moment first
  pub moments : List Content
  -- the blocks whose last write failed
  pub unsure : List Bool

-- Each block is settled, or its last write answered Ok: a sync that answers Ok leaves the disk quiet.
pub record IsSure (s : DiskState) : Type 0 where
  pub each : (k : ℕ) → k < length s.holds → slice_index_or s.unsure k false ≡ true → IsSettled s.holds k

-- a write of a block: its versions, one moment more, and whether it failed
pub record IsWrite {E : Type 0} (at : ℕ) (bytes : Block) (result : Result Unit E) (old new : DiskState) : Type 0 where
  pub holds : Writes at bytes result old.holds new.holds
  pub moments : Passes old.holds new.holds old.moments new.moments
  pub unsure : new.unsure ≡ slice_set old.unsure at (is_err result)

-- a sync: what it leaves, and one moment more
pub record IsSync {E : Type 0} (result : Result Unit E) (old new : DiskState) : Type 0 where
  pub holds : Syncs old.unsure result old.holds new.holds
  pub moments : Passes old.holds new.holds old.moments new.moments
  pub unsure : new.unsure ≡ old.unsure

-- A run over events: each goes from a state to the next, and every image of every moment of it is good for this event.
abbrev pub Runs : {W E : Type 0} → (W → E → W → Type 0) → (W → E → W → List Block → Type 0) → List E → W → W → List Content → List Content → Type 0
Runs goes good [] first last old new = (last ≡ first) × (new ≡ old)
Runs {W} goes good (event ∷ events) first last old new = (next : W) × (mid : List Content) × goes first event next × Since old mid (good first event next) × Runs goes good events next last mid new
