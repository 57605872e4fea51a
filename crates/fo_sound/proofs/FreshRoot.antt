-- The root block of a device that was just formatted has a spelling.
use Rattle.std.proofs.Common.{◌≡◌, ℕ, zero, suc, List, codes, refl, arith, false}
use Rattle.std.specs.Str.{IsAscii}
use Rattle.std.proofs.lemmas.Str.{IsUtf8-from_ascii, is_utf8-from_IsUtf8}
use Rattle.fo_base.specs.Text.{has_zero, IsText}
use Rattle.fo_image.specs.Record.{RootHolds}
use Rattle.fo_sound.specs.Fresh.{fresh_root}

slash : IsAscii (codes "/")
slash zero = omega arith
slash (suc k) = omega arith

adm : IsAscii (codes "adm")
adm zero = omega arith
adm (suc zero) = omega arith
adm (suc (suc zero)) = omega arith
adm (suc (suc (suc k))) = omega arith

text : (bytes : List ℕ) → IsAscii bytes → has_zero bytes ≡ false → IsText bytes
text bytes ascii some = rw (is_utf8-from_IsUtf8 bytes (IsUtf8-from_ascii bytes ascii), some) refl

pub fresh_root_holds : (time : ℕ) → RootHolds (fresh_root time)
fresh_root_holds time = record {
  epoch_is = (omega arith, omega arith);
  prev_epoch_is = omega arith;
  prev_is = (λ _. refl, λ _. refl);
  entries_hold = record { active_holds = (record { room = omega arith; least = λ less lt. absurd (omega (arith, lt)) }, tt) };
  meta_holds = record { active_holds = (record { room = omega arith; least = λ less lt. absurd (omega (arith, lt)) }, tt) };
  own_holds = record {
    holds = record {
      name_is = record { some = omega arith; within = omega arith; is_text = text (codes "/") slash refl };
      uid_is = record { some = omega arith; within = omega arith; is_text = text (codes "adm") adm refl };
      gid_is = record { some = omega arith; within = omega arith; is_text = text (codes "adm") adm refl };
      muid_is = record { some = omega arith; within = omega arith; is_text = text (codes "adm") adm refl };
    };
    name_is = refl;
    number_is = refl;
    slot_is = refl;
    generation_is = refl;
  };
}
