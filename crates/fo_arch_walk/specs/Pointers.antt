-- The form of a block of pointers, by what memory has of it.
use Rattle.std.specs.Prelude.{◌≡◌, ℕ, ◌-◌, ◌<◌, List, length, drop, Some, None}
use Rattle.fo_image.specs.declared.types.Kind.{Kind}
use Rattle.fo_image.specs.declared.types.Score.{Score}
use Rattle.fo_image.specs.declared.types.Pointer.TheVariants.{Local}
use Rattle.fo_image.specs.Format.{kind_code}
use Rattle.fo_crash.specs.Images.{Content, target}
use Rattle.fo_arch_form.specs.declared.stored.Stored.{Stored}
use Rattle.fo_arch_form.specs.Stored.{found, score_under}
use Rattle.fo_arch_form.specs.Pointers.{pointer_at}

-- Slot i of the form has the score under which what slot i of the block names was stored, as a block of this kind.
pub record HasSlot (done : Stored) (below : ℕ) (c : Content) (i : ℕ) (form : List ℕ) : Type 0 where
  pub score : Score
  pub stored : score_under done below (target (c.slot i)) ≡ Some score
  pub here : pointer_at form i ≡ score.0

-- The form of a block of pointers: scores in all slots, and behind them what the block has.
pub record IsPointersForm (done : Stored) (kind : Kind) (c : Content) (form : List ℕ) : Type 0 where
  pub each : (i : ℕ) → i < 409 → HasSlot done (kind_code kind - 1) c i form
  pub behind : drop 8180 form ≡ drop 8180 c.bytes
  pub length_is : length form ≡ 8192

-- A slot names this block, which isn't stored.
pub record NamesMissing (done : Stored) (kind : Kind) (c : Content) (at : ℕ) : Type 0 where
  pub i : ℕ
  pub within : i < 409
  pub leads : target (c.slot i) ≡ Local at
  pub none : found done at (kind_code kind - 1) ≡ None
