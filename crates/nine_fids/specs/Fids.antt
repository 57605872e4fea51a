-- What a session keeps, and its fids (intro(5) of the Plan 9 manual).
use Rattle.std.specs.Prelude.{ℕ, filter, ◌-◌, List, [], ◌∷◌, length, slice_index_or, Bool, false, not, ◌||◌, ◌==◌, nat_eq, nat_lt, Option, Some, None, is_some, Result, if◌then◌else◌}
use Rattle.std.specs.List.{list_any, AllByRecursion}
use Rattle.std.specs.Option.{option_map_or}
use Rattle.fo_world.specs.declared.place.Place.{Place}
use Rattle.fo_world.specs.Limits.{IsUser}
use Rattle.fo_world.specs.World.{World}
use Rattle.nine_fids.specs.declared.fid.Fid.{Fid}
use Rattle.nine_fids.specs.declared.fid.Opened.{Opened}
use Rattle.nine_fids.specs.declared.refusal.Refusal.{Refusal}
use Rattle.nine_fids.specs.declared.refusal.Refusal.TheVariants as refusal
use Rattle.std.specs.Option.{ok_or}

-- the message size, where a version is agreed to, and the fids
pub record Fids : Type 0 where
  pub msize : Option ℕ
  pub fids : List Fid

-- the users of fids are users of files
abbrev pub AreUsers : List Fid → Type 0
AreUsers fids = AllByRecursion (λ f. IsUser f.user) fids

-- before any message
abbrev pub no_fids : Fids
no_fids = record { msize = None; fids = [] }

-- a session with what all sessions share: the numbers of the files that are open for exclusive use, and the world
pub record State : Type 0 where
  pub session : Fids
  pub exclusive : List ℕ
  pub world : World

-- the number that stands for no fid
abbrev pub nofid : ℕ
nofid = 4294967295

abbrev pub most_fids : ℕ
most_fids = 4096

-- the fid with a number
abbrev pub fid_of : ℕ → List Fid → Option Fid
fid_of k [] = None
fid_of k (f ∷ fs) = if f.number == k then Some f else fid_of k fs

-- NOFID is the number of none
abbrev pub known : ℕ → List Fid → Option Fid
known k fids = if k == nofid then None else fid_of k fids

-- NOFID counts as one that is in use
abbrev pub in_use : ℕ → List Fid → Bool
in_use k fids = (k == nofid) || is_some (fid_of k fids)

-- the others
abbrev pub without : ℕ → List Fid → List Fid
without k [] = []
without k (f ∷ fs) = if f.number == k then fs else f ∷ without k fs

-- with this one in place of the one that had its number
abbrev pub with_fid : Fid → List Fid → List Fid
with_fid f [] = []
with_fid f (g ∷ gs) = if g.number == f.number then f ∷ gs else g ∷ with_fid f gs

-- the fid with the least number
abbrev pub lesser : Fid → Option Fid → Option Fid
lesser f None = Some f
lesser f (Some g) = if nat_lt g.number f.number then Some g else Some f

abbrev pub least : List Fid → Option Fid
least [] = None
least (f ∷ fs) = lesser f (least fs)

-- ---- exclusive use

-- the file number at a place; a root has number 0
abbrev pub number_at : Place → ℕ
number_at at = slice_index_or at.trail (length at.trail - 1) 0

abbrev pub holds : Fid → Bool
holds f = option_map_or (λ o. o.exclusive) f.opened false

-- the list without the number that a fid put on it
abbrev pub released : Fid → List ℕ → List ℕ
released f exclusive = if holds f then filter (λ k. not (k == number_at f.place)) exclusive else exclusive

abbrev pub all_released : List Fid → List ℕ → List ℕ
all_released [] exclusive = exclusive
all_released (f ∷ fs) exclusive = all_released fs (released f exclusive)

-- ---- states

abbrev pub with_fids : State → List Fid → State
with_fids z fids = record z { session = record { msize = z.session.msize; fids = fids } }

-- a fid is gone
abbrev pub clunked : State → Fid → State
clunked z f = record { session = record { msize = z.session.msize; fids = without f.number z.session.fids }; exclusive = released f z.exclusive; world = z.world }

-- all fids are gone, and this message size is agreed to, or none
abbrev pub restarted : State → Option ℕ → State
restarted z msize = record { session = record { msize = msize; fids = [] }; exclusive = all_released z.session.fids z.exclusive; world = z.world }

abbrev pub in_world : State → World → State
in_world z w = record z { world = w }

-- ---- what requests ask for first

abbrev pub version_of : State → Result ℕ Refusal
version_of z = ok_or z.session.msize refusal.NoVersion

abbrev pub fid_at : State → ℕ → Result Fid Refusal
fid_at z k = ok_or (known k z.session.fids) refusal.UnknownFid

abbrev pub is_open : Fid → Bool
is_open f = is_some f.opened

abbrev pub opened_of : Fid → Result Opened Refusal
opened_of f = ok_or f.opened refusal.FidIsNotOpen

-- ---- exclusive opens

abbrev pub is_listed : ℕ → List ℕ → Bool
is_listed k exclusive = list_any (nat_eq k) exclusive
