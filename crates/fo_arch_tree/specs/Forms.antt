-- What was stored of an image, and that an arena holds it.
use Rattle.std.specs.Prelude.{◌≡◌, ℕ, List, Some}
use Rattle.sha1.specs.Sha1.{sha1}
use Rattle.fo_image.specs.declared.types.Score.{Score}
use Rattle.fo_image.specs.declared.types.Kind.{Kind}
use Rattle.fo_image.specs.declared.types.ArenaLine.{ArenaLine}
use Rattle.fo_image.specs.Format.{KindHolds}
use Rattle.fo_crash.specs.Images.{Image}
use Rattle.venti_store.specs.Held.{IsHeld}
use Rattle.fo_arch_form.specs.declared.stored.Stored.{Stored}
use Rattle.fo_arch_form.specs.Stored.{found}
use Rattle.fo_arch_walk.specs.Pieces.{IsCutForm}
use Rattle.fo_arch_walk.specs.Spots.{arena_code}

-- An arena holds under this score what is stored of the block that an image has here.
pub record IsStoredAt (done : Stored) (image : Image) (lines : List ArenaLine) (stored : List (List ℕ)) (at : ℕ) (kind : Kind) (score : Score) : Type 0 where
  pub bytes : List ℕ
  pub is : IsCutForm done kind (image at) bytes
  pub hash : sha1 bytes ≡ score.0
  pub held : IsHeld lines stored score.0 (arena_code kind) bytes

-- An arena holds the forms of all blocks that were stored, of what an image has at their addresses: each under its score, with the scores
-- under which the blocks were stored that its slots name.
pub record StoresForms (done : Stored) (image : Image) (lines : List ArenaLine) (stored : List (List ℕ)) : Type 0 where
  pub each : (at : ℕ) (kind : Kind) (score : Score) → KindHolds kind → found done at (arena_code kind) ≡ Some score → IsStoredAt done image lines stored at kind score
