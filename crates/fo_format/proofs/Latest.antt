-- The last versions of the blocks of a device.
use Rattle.std.proofs.Common.{◌≡◌, ◌⊎◌, ⊎_elim, ℕ, ◌<◌, Bool, List, [], ◌∷◌, length, refl, sym, ◌∙◌, ap, arith}
use Rattle.fo_disk.specs.Disk.{Block, Content, DiskState, IsContent, IsSure, IsQuiet, settled, latest, Settles}
use Rattle.fo_disk.proofs.Quiet.{latest-settles, sure-settles, quiet-latest}
use Rattle.fo_sound.specs.Device.{Shows}

nothing : (content : Content) → length content ≡ 0 → content ≡ []
nothing [] is = refl
nothing (v ∷ vs) is = absurd (omega (arith, is))

-- a sync keeps the last versions
pub settles-latest : {size : ℕ} {unsure : List Bool} {old new : Content} → (old ≡ []) ⊎ IsContent size old → Settles unsure old new → latest new ≡ latest old
settles-latest {size} {unsure} {old} {new} told s = ⊎_elim
    (λ none. ap latest (nothing new (s.count ∙ ap length none) ∙ sym none))
    (λ content. latest-settles content s)
    told

-- and leaves a device quiet of which all is sure
pub settles-quiet : {size : ℕ} {old : DiskState} {new : Content} → (old.holds ≡ []) ⊎ IsContent size old.holds → Settles old.unsure old.holds new → IsSure old → IsQuiet new
settles-quiet {size} {old} {new} told s sure = ⊎_elim
    (λ none. record { each = λ k lt. absurd (omega (arith, lt, s.count, ap length none)) })
    (λ content. sure-settles content sure s)
    told

-- the last versions of a quiet device
pub latest-settled : (image : List Block) → latest (settled image) ≡ image
latest-settled [] = refl
latest-settled (b ∷ image) = ap (λ (bs : List Block). b ∷ bs) (latest-settled image)

pub shown-latest : {holds : Content} {image : List Block} → Shows holds image → latest holds ≡ image
shown-latest {holds} {image} shows = ap latest shows.quiet ∙ latest-settled image

pub quiet-shows : {holds : Content} → IsQuiet holds → 0 < length (latest holds) → Shows holds (latest holds)
quiet-shows quiet some = record { quiet = quiet-latest quiet; some = some }
