-- Labels of free blocks.
use Rattle.std.proofs.Common.{◌≡◌, ℕ, true, lit<, List, length, refl, ◌∙◌, ap}
use Rattle.fo_image.specs.Field.{zeros}
use Rattle.fo_image.specs.Format.{SpellsLabel}
use Rattle.fo_image.specs.Usable.{free_label}
use Rattle.fo_image.proofs.Padding.{zeros-from_all}
use Rattle.fo_sound.specs.Image.{is_zero}

-- zeros spell the label of a free block
pub free_spelled : (bytes : List ℕ) → length bytes ≡ 14 → is_zero bytes ≡ true → SpellsLabel free_label bytes
unfolding zeros
free_spelled bytes len z = record {
  holds = record { state_holds = (refl, refl, refl, refl) };
  fit = (lit< tt, (lit< tt, (lit< tt, (lit< tt, (lit< tt, tt)))));
  bytes_are = zeros-from_all bytes z ∙ ap zeros len;
}
