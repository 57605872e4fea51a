-- Blocks that a walk from a root block comes to.
use Rattle.std.specs.Prelude.{◌≡◌, ◌≢◌, ℕ, ◌+◌, ◌<◌, ◌^◌, List, Option, Some, None}
use Rattle.fo_image.specs.declared.types.Kind.{Kind}
use Rattle.fo_image.specs.declared.types.Kind.TheVariants.{Data, Dir, Root}
use Rattle.fo_image.specs.declared.types.Pointer.TheVariants.{Local}
use Rattle.fo_image.specs.Format.{KindHolds}
use Rattle.fo_crash.specs.declared.place.Place.{Place}
use Rattle.fo_crash.specs.Images.{Content, target}
use Rattle.fo_crash.specs.Places.{place, place_below}
use Rattle.fo_ports.specs.State.{State}
use Rattle.fo_arch_form.specs.declared.stored.Stored.{Stored}
use Rattle.fo_arch_form.specs.Stored.{found}
use Rattle.fo_arch_walk.specs.declared.spot.Spot.{Spot}
use Rattle.fo_arch_walk.specs.Forms.{IsForm}
use Rattle.fo_arch_walk.specs.Reached.{Comes}

-- the kind in the arena of a block of this kind: a root block becomes a top block
abbrev pub arena_code : Kind → ℕ
arena_code (Data level) = level
arena_code (Dir level) = 8 + level
arena_code Root = 17

-- a place of this kind and rank
abbrev pub place_of : Spot → Place
place_of spot = place spot.kind 0 0 spot.rank

-- By slots of memory the root block of a kept snapshot leads to this block, at a place of this kind and rank.
pub record IsReached (s : State) (root : ℕ) (spot : Spot) : Type 0 where
  pub there : Place
  pub comes : Comes s.now root spot.at there
  pub kind_is : there.kind ≡ spot.kind
  pub rank_is : there.rank ≡ spot.rank

-- the root of a kept snapshot
abbrev pub IsSnapshot : State → ℕ → Type 0
IsSnapshot s root = s.tops root × (root ≢ 1)

-- Slots of memory lead to this block from the root block of a kept snapshot.
pub record IsOfSnapshot (s : State) (spot : Spot) : Type 0 where
  pub root : ℕ
  pub kept : IsSnapshot s root
  pub reached : IsReached s root spot

-- A slot of a block names this one, which isn't stored. Its rank is lower.
pub record NamesNext (done : Stored) (c : Content) (spot next : Spot) : Type 0 where
  pub i : ℕ
  pub leads : target (c.slot i) ≡ Local next.at
  pub kind_is : next.kind ≡ (place_below (place_of spot) i (c.slot i)).kind
  pub rank_is : next.rank ≡ (place_below (place_of spot) i (c.slot i)).rank
  pub holds : KindHolds next.kind
  pub none : found done next.at (arena_code next.kind) ≡ None

-- What a look at a block finds: its form, or a block of lower rank that it names and that isn't stored.
abbrev pub Finds : Stored → Content → Spot → List ℕ → Option Spot → Type 0
Finds done c spot form None = IsForm done spot.kind c form
Finds done c spot form (Some next) = NamesNext done c spot next × (next.rank < spot.rank)

-- A walk from the root has come to this block, which isn't stored.
pub record IsOpen (done : Stored) (s : State) (root : ℕ) (spot : Spot) : Type 0 where
  pub is_one : s.is_block spot.at
  pub holds : KindHolds spot.kind
  pub low : spot.rank < 2 ^ 31
  pub none : found done spot.at (arena_code spot.kind) ≡ None
  pub told : s.tells → IsReached s root spot

-- The walk came to this block by the one above. All that it names is stored, and this is its form.
pub record IsNext (done : Stored) (s : State) (root : ℕ) (form : List ℕ) (spot above : Spot) : Type 0 where
  pub here : IsOpen done s root spot
  pub before : IsOpen done s root above
  pub is : IsForm done spot.kind (s.now spot.at) form
