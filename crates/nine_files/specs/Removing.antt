-- Files removed (remove(5), clunk(5) of the Plan 9 manual).
use Rattle.std.specs.Prelude.{ℕ, length, Bool, false, not, ◌&&◌, ◌==◌, Result, Ok, Err, if◌then◌else◌, true}
use Rattle.std.specs.Option.{option_map_or}
use Rattle.fo_world.specs.declared.place.Info.{Info}
use Rattle.fo_world.specs.declared.error.FileError.TheVariants as error
use Rattle.fo_world.specs.World.{World}
use Rattle.fo_world.specs.Step as step
use Rattle.nine_fids.specs.declared.fid.Fid.{Fid}
use Rattle.nine_fids.specs.declared.refusal.Refusal.{Refusal}
use Rattle.nine_fids.specs.declared.refusal.Refusal.TheVariants as refusal
use Rattle.fo_world.specs.Chain.{and_then, refuse_if}
use Rattle.nine_fids.specs.Refusing.{changed}
use Rattle.nine_fids.specs.Told.{Files, info_at}
use Rattle.nine_fids.specs.Rights.{may_write_above}

-- the world without the file of a fid
unfoldable pub removed : Files → World → Fid → ℕ → Result World Refusal
removed e w f now =
    refuse_if (not (step.is_active f.place.view)) (refusal.File error.ReadOnly) (
    refuse_if (length f.place.trail == 0) refusal.RemovesRoot (
    and_then (may_write_above e w f) (λ _.
    and_then (changed (step.remove e.whole w f.place f.user now)) (λ p. Ok p.1))))

-- a fid that was opened with ORCLOSE
abbrev pub removes : Fid → Bool
removes f = option_map_or (λ o. o.remove) f.opened false

-- the world without the file of such a fid, where it is not gone
abbrev pub removed_unless_gone : Files → World → Fid → ℕ → Result Info Refusal → Result World Refusal
removed_unless_gone e w f now (Err (refusal.File error.Gone)) = Ok w
removed_unless_gone e w f now (Err r) = Err r
removed_unless_gone e w f now (Ok i) = removed e w f now

-- the world after the end of a fid
unfoldable pub closed : Files → World → Fid → ℕ → Result World Refusal
closed e w f now = if removes f then removed_unless_gone e w f now (info_at e w f.place) else Ok w

-- the world without the file of a fid, where that is there
abbrev pub removed_there : Files → World → Fid → ℕ → Result World Refusal
removed_there e w f now = and_then (info_at e w f.place) (λ _. removed e w f now)

-- what was looked at is gone
abbrev pub gone : Result Info Refusal → Bool
gone (Err (refusal.File error.Gone)) = true
gone _ = false

-- ---- the blocks that it needs

-- to take the file of a fid out
abbrev pub remove_need : Fid → ℕ
remove_need f = step.give (step.depth_of f.place)

-- at the end of a fid: only with ORCLOSE, and where the file is not gone
abbrev pub close_need : Files → World → Fid → ℕ
close_need e w f = if removes f && not (gone (info_at e w f.place)) then remove_need f else 0

-- the most of them, whatever the world
abbrev pub most_close : Fid → ℕ
most_close f = if removes f then remove_need f else 0
