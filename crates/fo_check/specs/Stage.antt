-- Why a step of the check refuses.
use Rattle.std.specs.Prelude.{◌≡◌, ◌≢◌, ℕ, ◌<◌, List}
use Rattle.fo_disk.specs.Disk.{Block}
use Rattle.fo_image.specs.declared.types.Super.{Super}
use Rattle.fo_image.specs.declared.record.RootBlock.{RootBlock}
use Rattle.fo_image.specs.Record.{SpellsRoot}
use Rattle.fo_check.specs.declared.error.CheckError.{CheckError}
use Rattle.fo_check.specs.declared.error.CheckError.TheVariants.{Size, NotArena, NotBuilt, Unsound, Main, Arena, Memory}
use Rattle.fo_sound.specs.Sound.{ReachesLow}
use Rattle.fo_sound.specs.Sizes.{HasSizes, IsArena}
use Rattle.fo_check.specs.Answer.{BreaksFormat, BreaksActive, IsAlone}

-- a size out of range
abbrev pub RefusesSizes : List Block → List Block → CheckError → Type 0
RefusesSizes image vault Size = ¬ HasSizes image vault
RefusesSizes image vault NotArena = ⊥
RefusesSizes image vault NotBuilt = ⊥
RefusesSizes image vault (Unsound rule block) = ⊥
RefusesSizes image vault (Main fault) = Unit {0}
RefusesSizes image vault (Arena fault) = Unit {0}
RefusesSizes image vault Memory = ⊥

-- no header or no super block
abbrev pub RefusesStart : List Block → CheckError → Type 0
RefusesStart image Size = ⊥
RefusesStart image NotArena = ⊥
RefusesStart image NotBuilt = ⊥
RefusesStart image (Unsound rule block) = (rule ≡ 1) × BreaksFormat image block
RefusesStart image (Main fault) = Unit {0}
RefusesStart image (Arena fault) = ⊥
RefusesStart image Memory = ⊥

-- no arena, or one in which something is used
abbrev pub RefusesArena : List Block → CheckError → Type 0
RefusesArena vault Size = ⊥
RefusesArena vault NotArena = (used : ℕ) → ¬ IsArena vault used
RefusesArena vault NotBuilt = (used : ℕ) × (0 < used) × IsArena vault used
RefusesArena vault (Unsound rule block) = ⊥
RefusesArena vault (Main fault) = ⊥
RefusesArena vault (Arena fault) = Unit {0}
RefusesArena vault Memory = ⊥

-- no root block of this epoch
abbrev pub RefusesRoot : Super → Block → CheckError → Type 0
RefusesRoot s block Size = ⊥
RefusesRoot s block NotArena = ⊥
RefusesRoot s block NotBuilt = ⊥
RefusesRoot s block (Unsound rule at) = (rule ≡ 2) × (at ≡ s.active) × ((root : RootBlock) → SpellsRoot root block → root.epoch ≢ s.high)
RefusesRoot s block (Main fault) = ⊥
RefusesRoot s block (Arena fault) = ⊥
RefusesRoot s block Memory = Unit {0}

-- no active root
abbrev pub RefusesActive : List Block → Super → CheckError → Type 0
RefusesActive image s Size = ⊥
RefusesActive image s NotArena = ⊥
RefusesActive image s NotBuilt = ⊥
RefusesActive image s (Unsound rule block) = (rule ≡ 2) × BreaksActive image s block
RefusesActive image s (Main fault) = Unit {0}
RefusesActive image s (Arena fault) = ⊥
RefusesActive image s Memory = Unit {0}

-- not built yet, or a chain of roots that doesn't reach the low epoch
abbrev pub RefusesRest : Super → RootBlock → CheckError → Type 0
RefusesRest s root Size = ⊥
RefusesRest s root NotArena = ⊥
RefusesRest s root NotBuilt = ¬ IsAlone s root
RefusesRest s root (Unsound rule block) = (rule ≡ 3) × IsAlone s root × ¬ ReachesLow s × (block ≡ s.active)
RefusesRest s root (Main fault) = ⊥
RefusesRest s root (Arena fault) = ⊥
RefusesRest s root Memory = ⊥

-- any refusal but one for a size
abbrev pub IsNoSize : CheckError → Type 0
IsNoSize Size = ⊥
IsNoSize NotArena = Unit {0}
IsNoSize NotBuilt = Unit {0}
IsNoSize (Unsound rule block) = Unit {0}
IsNoSize (Main fault) = Unit {0}
IsNoSize (Arena fault) = Unit {0}
IsNoSize Memory = Unit {0}
