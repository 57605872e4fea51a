-- The world that `PlainFiles` keeps, and what its private calls answer.
use Rattle.std.specs.Prelude.{◌≡◌, ◌+◌, ℕ, ◌⊎◌, [], List, false, Option, Some, None, Result, Ok, Err, MatchResult}
use Rattle.fo_world.specs.declared.place.Place.{Place}
use Rattle.fo_world.specs.declared.place.Change.{Change}
use Rattle.fo_world.specs.declared.place.Info.{Info}
use Rattle.fo_world.specs.declared.tree.Body.TheVariants.{Dir}
use Rattle.fo_plain.specs.declared.plain.PlainFiles.{PlainFiles}
use Rattle.fo_world.specs.declared.error.FileError.{FileError}
use Rattle.fo_world.specs.declared.error.FileError.TheVariants as error
use Rattle.fo_world.specs.Names.{no_names}
use Rattle.fo_world.specs.Dated.{adm}
use Rattle.fo_world.specs.World.{World}
use Rattle.fo_world.specs.declared.tree.Node.{Node}
use Rattle.fo_world.specs.Tree.{change_along, with_name}
use Rattle.fo_world.specs.Step.{after_change}

abbrev pub kept : PlainFiles → World
kept p = p.world

-- the empty world that is made at a moment: a root of mode DMDIR and 0777, of `adm`
abbrev pub empty_world : ℕ → World
empty_world now = record { active = record { root = record { number = 0; vers = 0; mode = 2147484159; atime = now; mtime = now; uid = adm; gid = adm; muid = adm; body = Dir no_names } }; low = 1; high = 1; snaps = []; archives = []; pending = 0; next = 1; halted = false; exclusive = [] }

-- A call that changes nothing answers what the step says, or want of memory.
abbrev pub Tells : {A : Type 0} → Result (A × World) FileError → World → Result A FileError → Type 0
Tells told w r = MatchResult r (λ x. told ≡ Ok (x, w)) (λ e. (told ≡ Err e) ⊎ (e ≡ error.Memory))

-- A call that is looked at beforehand says what the world would be after it, or why it is refused, or want of memory.
abbrev pub Grants : {A : Type 0} → (A → World) → Result (Unit {0} × World) FileError → Result A FileError → Type 0
Grants after told r = MatchResult r (λ x. told ≡ Ok (tt, after x)) (λ e. (told ≡ Err e) ⊎ (e ≡ error.Memory))

-- the world after a change of the file of this name, or as it was where nothing was to be changed
abbrev pub changed_world : World → Place → Change → Option (List ℕ) → List ℕ → ℕ → World
changed_world w at what None who now = w
changed_world w at what (Some old) who now = after_change w at what old who now

-- the world with a file more in the directory at a place, whose number counts as given
abbrev pub with_added : World → Place → List ℕ → Node → List ℕ → ℕ → World
with_added w at name node who now = record w { active = record { root = change_along at.trail (with_name name node who now) w.active.root }; next = w.next + 1 }

-- A granted change leads to this world, or memory is wanting and the world stays.
abbrev pub Becomes : World → World → World → Result (Unit {0}) FileError → Type 0
Becomes after old new r = MatchResult r (λ _. new ≡ after) (λ e. (e ≡ error.Memory) × (new ≡ old))

-- a granted call that also tells of a file
abbrev pub Makes : Info × World → World → World → Result Info FileError → Type 0
Makes after old new r = MatchResult r (λ i. (i, new) ≡ after) (λ e. (e ≡ error.Memory) × (new ≡ old))
