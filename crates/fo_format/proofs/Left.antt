-- What is left on the two devices.
use Rattle.std.proofs.Common.{◌≡◌, ℕ, ◌<◌, List, length, sym, ◌∙◌, ap, subst, arith}
use Rattle.std.specs.Prelude.{Result, Ok, Err, IfErr, MatchResult}
use Rattle.fo_disk.specs.Disk.{Block, Content, DiskState, latest, IsSure, IsQuiet}
use Rattle.fo_disk.specs.declared.disk.DiskFault.{DiskFault}
use Rattle.fo_disk.specs.declared.disk.DiskFault.TheVariants.{Read, Write, Sync}
use Rattle.fo_disk.proofs.Quiet.{settled-quiet, quiet-sure}
use Rattle.fo_sound.specs.Sizes.{HasSizes}
use Rattle.fo_sound.specs.Device.{Shows}
use Rattle.fo_format.specs.declared.error.FormatError.TheVariants.{Main, Arena}
use Rattle.fo_format.specs.Formatted.{MakesFresh, MakesEmpty, HoldsFresh, HoldsEmpty, Unsettled, IsLater, Refuses}
use Rattle.fo_format.proofs.Latest.{shown-latest, quiet-shows}

-- a sync after all writes
pub after-sync : {P : Type 0} (result : Result Unit DiskFault) → IfErr result (λ e. e ≡ Sync) → P → MatchResult result (λ _. P) (Unsettled P)
after-sync (Ok u) fault p = p
after-sync {P} (Err e) fault p = subst (Unsettled P) (sym fault) p

-- a device that was quiet and showed this image before the calls that made another one of it
pub record IsShown (image : List Block) (old new : DiskState) : Type 0 where
  pub shown : Shows old.holds image
  pub kept : new ≡ old

same : {image : List Block} {old new : DiskState} → IsShown image old new → new.holds ≡ old.holds
same s = ap (λ (state : DiskState). state.holds) s.kept

pub shown-image : {image : List Block} {old new : DiskState} → IsShown image old new → latest new.holds ≡ image
shown-image s = ap latest (same s) ∙ shown-latest s.shown

pub shown-sure : {image : List Block} {old new : DiskState} → IsShown image old new → IsSure new
shown-sure {image} s = quiet-sure (subst IsQuiet (sym (same s ∙ s.shown.quiet)) (settled-quiet image))

some : {image : List Block} {old new : DiskState} (now : List Block) → IsShown image old new → length now ≡ length image → 0 < length now
some now s count = omega (arith, s.shown.some, count)

pub holds-fresh : {time : ℕ} {image : List Block} {old new : DiskState} {now : Content} → IsShown image old new → MakesFresh time image (latest now) → IsQuiet now → HoldsFresh time image now
holds-fresh {now = now} s made quiet = record { now = latest now; shown = quiet-shows quiet (some (latest now) s made.count); made = made }

pub holds-empty : {vault : List Block} {old new : DiskState} {now : Content} → IsShown vault old new → MakesEmpty vault (latest now) → IsQuiet now → HoldsEmpty vault now
holds-empty {now = now} s made quiet = record { now = latest now; shown = quiet-shows quiet (some (latest now) s made.count); made = made }

pub arena-refuses : (time : ℕ) (image vault : List Block) (main arena : Content) (fault : DiskFault) → IsLater fault → HasSizes image vault → Unsettled (MakesEmpty vault (latest arena)) fault → Refuses time image vault main arena (Arena fault)
arena-refuses time image vault main arena Read later sizes made = absurd later
arena-refuses time image vault main arena Write later sizes made = sizes
arena-refuses time image vault main arena Sync later sizes made = (sizes, made)

pub main-refuses : (time : ℕ) (image vault : List Block) (main arena : Content) (fault : DiskFault) → IsLater fault → HasSizes image vault → HoldsEmpty vault arena → Unsettled (MakesFresh time image (latest main)) fault → Refuses time image vault main arena (Main fault)
main-refuses time image vault main arena Read later sizes empty made = absurd later
main-refuses time image vault main arena Write later sizes empty made = (sizes, empty)
main-refuses time image vault main arena Sync later sizes empty made = (sizes, empty, made)
