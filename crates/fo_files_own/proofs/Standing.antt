-- Where the own record of a directory stands.
use Rattle.std.proofs.Common.{◌≡◌, ◌≢◌, ◌⊎◌, ℕ, Option, Some, None, inl, inr, refl}
use Rattle.std.specs.Prelude.{MatchOption}
use Rattle.fo_ports.specs.State.{State}
use Rattle.fo_files_dir.specs.declared.dir.DirAt.{DirAt}
use Rattle.fo_files_dir.specs.Dir.{IsDirAt}
use Rattle.fo_files_record.specs.Leaf.{IsEntriesAt}
use Rattle.fo_files_record.specs.Own.{IsRootAt}
use Rattle.fo_files_own.specs.Own.{IsApartFrom, IsOwnAt, block_of, own_of}

pub own_stands : (s : State) (dir : DirAt) (above : Option DirAt) (leaf spare : ℕ) → IsDirAt s dir → MatchOption above (IsRootAt s dir.at) (λ a. IsDirAt s a × IsEntriesAt s dir.at × (a.number ≢ dir.number))
    → IsOwnAt s (own_of dir above leaf spare) × IsApartFrom dir (own_of dir above leaf spare)
own_stands s dir None leaf spare at h = ((h, at.pair.live), refl)
own_stands s dir (Some a) leaf spare at h = ((h.0, h.1), (refl, h.2))

-- the block that may be put into is that with the pair of the directory, or of the one above
pub own_in : (dir : DirAt) (above : Option DirAt) (leaf spare : ℕ) → (block_of (own_of dir above leaf spare) ≡ dir.at) ⊎ MatchOption above ⊥ (λ a. block_of (own_of dir above leaf spare) ≡ a.at)
own_in dir None leaf spare = inl refl
own_in dir (Some a) leaf spare = inr refl
