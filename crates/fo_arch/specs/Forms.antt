-- What was stored, and that an index names it.
use Rattle.std.specs.Prelude.{◌≡◌, ℕ, List, Some}
use Rattle.fo_image.specs.declared.types.Score.{Score}
use Rattle.fo_image.specs.declared.types.ArenaLine.{ArenaLine}
use Rattle.venti_store.specs.Held.{IsNamed}
use Rattle.fo_arch_form.specs.declared.stored.Stored.{Stored}
use Rattle.fo_arch_form.specs.Stored.{found}

-- The index names the score of each block that was stored.
pub record AreNamed (done : Stored) (lines : List ArenaLine) : Type 0 where
  pub each : (at kind : ℕ) (score : Score) → found done at kind ≡ Some score → IsNamed lines score.0 kind

-- What was stored is stored still.
pub record StoresMore (old new : Stored) : Type 0 where
  pub each : (at kind : ℕ) (score : Score) → found old at kind ≡ Some score → found new at kind ≡ Some score
