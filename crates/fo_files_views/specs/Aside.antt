-- What is told of views other than the active tree, where there is no snapshot and no archive.
use Rattle.std.specs.Prelude.{◌≡◌, ◌⊎◌, ℕ, [], Bool, false, ◌&&◌, nat_eq, nat_lt, length, cond, Option, Some, None, Result, Ok, Err, MatchResult}
use Rattle.fo_world.specs.declared.error.FileError.{FileError}
use Rattle.fo_world.specs.declared.error.FileError.TheVariants as error
use Rattle.fo_world.specs.declared.place.View.{View}
use Rattle.fo_world.specs.declared.place.View.TheVariants.{Active, Snap, Archive, Dated}
use Rattle.fo_world.specs.declared.place.Place.{Place}
use Rattle.fo_world.specs.World.{World}

-- no snapshot is kept, and there is no archive
pub record HasNone (w : World) : Type 0 where
  pub snaps : w.snaps ≡ []
  pub archives : w.archives ≡ []

-- In each world without snapshots and archives the step gives this, and leaves the world.
abbrev pub Says : {A : Type 0} → (World → Result (A × World) FileError) → Result A FileError → Type 0
Says step r = MatchResult r (λ x. (w : World) → HasNone w → step w ≡ Ok (x, w)) (λ e. (w : World) → HasNone w → step w ≡ Err e)

-- It does, or memory is wanting.
abbrev pub SaysOrWants : {A : Type 0} → (World → Result (A × World) FileError) → Result A FileError → Type 0
SaysOrWants step r = MatchResult r (λ x. (w : World) → HasNone w → step w ≡ Ok (x, w)) (λ e. ((w : World) → HasNone w → step w ≡ Err e) ⊎ (e ≡ error.Memory))

-- In each such world the step is refused so.
abbrev pub SaysWhy : {A : Type 0} → (World → Result A FileError) → FileError → Type 0
SaysWhy step e = (w : World) → HasNone w → step w ≡ Err e

-- the view is that of the years of the dated directories
abbrev pub is_years : View → Bool
is_years Active = false
is_years (Snap e) = false
is_years (Archive e) = false
is_years (Dated archive year monthday) = nat_eq year 0 && nat_eq monthday 0

-- the place is the root of the dated directories
abbrev pub is_dated_root : Place → Bool
is_dated_root at = is_years at.view && nat_eq (length at.trail) 0

-- the refusal at the root of the dated directories; elsewhere nothing is there
abbrev pub refused_at : Place → FileError → FileError
refused_at at e = cond (is_dated_root at) e error.Gone

-- why the root of the dated directories isn't changed, where a length is given or not
abbrev pub unchanged : Option ℕ → FileError
unchanged None = error.ReadOnly
unchanged (Some n) = cond (nat_lt 0 n) error.IsDir error.ReadOnly

-- a refusal that no device and no room is to blame for
abbrev pub IsOwn : FileError → Type 0
IsOwn error.Full = ⊥
IsOwn error.MainRead = ⊥
IsOwn error.MainWrite = ⊥
IsOwn error.MainSync = ⊥
IsOwn error.ArenaRead = ⊥
IsOwn error.ArenaWrite = ⊥
IsOwn error.ArenaSync = ⊥
IsOwn (error.Damaged b) = ⊥
IsOwn _ = Unit {0}
