-- Refusals and their texts, and steps that may be refused (error(5) of the Plan 9 manual).
use Rattle.std.specs.Prelude.{ℕ, List, Bool, true, false, Option, Some, None, Result, Ok, Err, if◌then◌else◌, codes}
use Rattle.fo_world.specs.declared.error.FileError.{FileError}
use Rattle.fo_world.specs.declared.error.FileError.TheVariants as error
use Rattle.fo_world.specs.Texts.{error_text}
use Rattle.fo_world.specs.World.{World}
use Rattle.nine_fids.specs.declared.refusal.Refusal.{Refusal}
use Rattle.nine_fids.specs.declared.refusal.Refusal.TheVariants as refusal

abbrev pub refusal_text : Refusal → List ℕ
refusal_text refusal.NoVersion = codes "no version"
refusal_text refusal.NoAuthentication = codes "no authentication here"
refusal_text refusal.FidInUse = codes "fid in use"
refusal_text refusal.TooManyFids = codes "too many fids"
refusal_text refusal.UnknownTree = codes "unknown tree"
refusal_text refusal.UnknownFid = codes "unknown fid"
refusal_text refusal.TooManyNames = codes "too many names"
refusal_text refusal.FidIsOpen = codes "fid is open"
refusal_text refusal.FidIsNotOpen = codes "fid is not open"
refusal_text refusal.BadOpenMode = codes "bad open mode"
refusal_text refusal.PermissionDenied = codes "permission denied"
refusal_text refusal.ExclusivelyOpen = codes "file is exclusively open"
refusal_text refusal.BadName = codes "bad name"
refusal_text refusal.NotForReading = codes "not open for reading"
refusal_text refusal.NotForWriting = codes "not open for writing"
refusal_text refusal.BadOffset = codes "bad directory offset"
refusal_text refusal.CountTooSmall = codes "count too small"
refusal_text refusal.RemovesRoot = codes "cannot remove the root"
refusal_text refusal.StatTooLong = codes "stat too long"
refusal_text refusal.BadStat = codes "bad stat"
refusal_text refusal.RenamesRoot = codes "cannot rename the root"
refusal_text (refusal.File e) = error_text e

-- want of memory or of blocks, a device's fault, or damage
abbrev pub is_failure : Refusal → Bool
is_failure (refusal.File error.Memory) = true
is_failure (refusal.File error.Full) = true
is_failure (refusal.File error.MainRead) = true
is_failure (refusal.File error.MainWrite) = true
is_failure (refusal.File error.MainSync) = true
is_failure (refusal.File error.ArenaRead) = true
is_failure (refusal.File error.ArenaWrite) = true
is_failure (refusal.File error.ArenaSync) = true
is_failure (refusal.File (error.Damaged block)) = true
is_failure _ = false

-- what a call on files tells
abbrev pub looked : {A : Type 0} → Result (A × World) FileError → Result A Refusal
looked (Ok p) = Ok p.0
looked (Err e) = Err (refusal.File e)

-- what a call on files tells, with the world after it
abbrev pub changed : {A : Type 0} → Result (A × World) FileError → Result (A × World) Refusal
changed (Ok p) = Ok p
changed (Err e) = Err (refusal.File e)

-- none where there is none; a failure stays
abbrev pub told_apart : {A : Type 0} → Result A Refusal → Result (Option A) Refusal
told_apart (Ok x) = Ok (Some x)
told_apart (Err r) = if is_failure r then Err r else Ok None
