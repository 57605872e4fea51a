-- No block of devices that were just formatted is lost.
use Rattle.std.proofs.Common.{◌≡◌, ◌<◌, ◌%◌, ◌^◌, ℕ, List, length, get_or, refl, sym, ap, ◌∙◌, ⊎_elim, arith}
use Rattle.std.proofs.lemmas.Bool.{cases_eq}
use Rattle.fo_disk.specs.Disk.{Block}
use Rattle.fo_image.specs.declared.types.Label.{Label}
use Rattle.fo_image.specs.declared.types.State.{State}
use Rattle.fo_image.specs.declared.types.State.TheVariants.{Free, Live, Closed}
use Rattle.fo_image.specs.declared.types.Super.{Super}
use Rattle.fo_image.specs.Format.{state_code, SpellsLabel}
use Rattle.fo_image.specs.Place.{first_data}
use Rattle.fo_image.specs.Usable.{free_label}
use Rattle.fo_crash.specs.Images.{Image, Arena}
use Rattle.fo_sound.specs.Fresh.{IsFresh, fresh_super}
use Rattle.fo_sound.specs.Image.{label_bytes}
use Rattle.fo_good.specs.Lost.{IsLostIn, IsTaken}
use Rattle.fo_good.specs.Lost.IsNamed.{itself}

-- ---- bytes that spell a free label spell no other

small : (n : ℕ) → n < 2 ^ 8 → n % 256 ≡ n
small n lt = omega arith

state_at : (l : Label) (bytes : List ℕ) → SpellsLabel l bytes → get_or bytes 0 0 ≡ state_code l.state
state_at l bytes s = ap (λ (b : List ℕ). get_or b 0 0) s.bytes_are ∙ small (state_code l.state) s.fit.0

free_state : (s : State) → state_code s ≡ 0 → s ≡ Free
free_state Free e = refl
free_state Live e = absurd (omega (arith, e))
free_state Closed e = absurd (omega (arith, e))

is_free : (l : Label) (bytes : List ℕ) → SpellsLabel l bytes → SpellsLabel free_label bytes → l.state ≡ Free
is_free l bytes s free = free_state l.state (sym (state_at l bytes s) ∙ state_at free_label bytes free)

free_live : Free ≡ Live → ⊥
free_live e = cc

free_closed : Free ≡ Closed → ⊥
free_closed e = cc

not_taken : (s : Super) (l : Label) → l.state ≡ Free → IsTaken s l → ⊥
not_taken s l free taken = ⊎_elim (λ live. free_live (sym free ∙ live)) (λ closed. free_closed (sym free ∙ closed.0)) taken

-- ---- the root is named, and all others are free

pub none_lost : {arena : Arena} {device : List Block} {image : Image} {time at : ℕ} → IsFresh time device → IsLostIn device arena image (fresh_super (length device)) at → ⊥
none_lost {arena} {device} {image} {time} {at} fresh lost = ⊎_elim
    (λ same. lost.unnamed (itself same))
    (λ apart. not_taken (fresh_super (length device)) lost.label (is_free lost.label (label_bytes device at) lost.has.spelled (fresh.free at lost.place apart).spelled) lost.taken)
    (cases_eq at (first_data (length device)))
