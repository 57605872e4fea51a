-- What the calls of a walk, of a read of a directory and of a write answer.
use Rattle.std.specs.Prelude.{◌≡◌, ℕ, suc, ◌-◌, ◌≤◌, List, [], ◌∷◌, ◌++◌, length, ◌==◌, nat_lt, false, Option, Some, None, IfSome, Result, Ok, Err, if◌then◌else◌}
use Rattle.fo_world.specs.declared.place.Info.{Info}
use Rattle.fo_world.specs.declared.place.Place.{Place}
use Rattle.fo_world.specs.World.{World}
use Rattle.nine_fids.specs.declared.fid.Fid.{Fid}
use Rattle.nine_fids.specs.declared.refusal.Refusal.{Refusal}
use Rattle.nine_fids.specs.declared.refusal.Refusal.TheVariants as refusal
use Rattle.fo_world.specs.Chain.{and_then, refuse_if}
use Rattle.nine_fids.specs.Refusing.{is_failure}
use Rattle.nine_fids.specs.Told.{Files, info_at, next_at, appends, record_of}
use Rattle.nine_files.specs.declared.walking.Walked.{Walked}
use Rattle.nine_files.specs.Reading.{exceeds, files_above, last_name, records_of}
use Rattle.nine_files.specs.Walking.{walked}

-- ---- walks

-- how far a walk comes from a fid
abbrev pub arrived : Files → World → Fid → List (List ℕ) → Result Walked Refusal
arrived e w f [] = Ok (record { qids = []; last = f.place; stopped = None })
arrived e w f (name ∷ names) = and_then (info_at e w f.place) (λ i. Ok (walked e w f.user (name ∷ names) i))

-- Over any devices a walk passes no more files than it has names, as many where it doesn't stop, and what stops it is no failure.
pub record IsPart (names : List (List ℕ)) (w : Walked) : Type 0 where
  pub within : length w.qids ≤ length names
  pub whole : w.stopped ≡ None → length w.qids ≡ length names
  pub plain : IfSome w.stopped (λ r. is_failure r ≡ false)

-- ---- reads

-- the files of a directory that a read gives
unfoldable pub listed : Files → World → Place → Option (List ℕ) → ℕ → Result (List Info) Refusal
listed e w at after count =
    and_then (next_at e w at after) (λ first.
    refuse_if (exceeds count first) refusal.CountTooSmall (files_above (suc count) e w at after count))

-- What a read gives: over any devices whole records of files within the count, and the name of the last; where the devices tell what they
-- hold, the files are those that are told.
pub record Gives (honest : Type 0) (told : Result (List Info) Refusal) (after : Option (List ℕ)) (count : ℕ) (bytes : List ℕ) (last : Option (List ℕ)) : Type 0 where
  pub files : List Info
  pub told_so : honest → told ≡ Ok files
  pub bytes_so : bytes ≡ records_of files
  pub last_so : last ≡ last_name after files
  pub within : length bytes ≤ count

-- the next file of a read that holds so many bytes already, where its record stands within the count
abbrev pub taken : ℕ → ℕ → Option Info → Result (Option Info) Refusal
taken count held None = Ok None
taken count held (Some i) =
    if nat_lt (count - held) (length (record_of i)) then (if held == 0 then Err refusal.CountTooSmall else Ok None) else Ok (Some i)

-- The same of the file with the least name above the last one.
abbrev pub next_taken : Files → World → Place → Option (List ℕ) → ℕ → ℕ → Result (Option Info) Refusal
next_taken e w at last count held = and_then (next_at e w at last) (taken count held)

-- The record of the file that is taken is added, or there is none and nothing changes.
abbrev pub Adds : Option Info → List ℕ → List ℕ → Option (List ℕ) → Option (List ℕ) → Type 0
Adds None old new before after = (new ≡ old) × (after ≡ before)
Adds (Some i) old new before after = (new ≡ old ++ record_of i) × (after ≡ Some i.name)

-- ---- writes

-- where a write begins: at the end of a file with DMAPPEND
abbrev pub write_start : Info → ℕ → ℕ
write_start i offset = if appends i.mode then i.length else offset
