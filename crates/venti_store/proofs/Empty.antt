-- The score of the empty block (FIPS 180-4).
use Rattle.std.specs.Prelude.{[], ◌∷◌}
use Rattle.std.proofs.Common.{◌≡◌, refl}
use Rattle.sha1.specs.Sha1.{sha1, digest_bytes, hash_after, compress, rounds, schedule, first_words}

pub empty_score : sha1 [] ≡ 218 ∷ 57 ∷ 163 ∷ 238 ∷ 94 ∷ 107 ∷ 75 ∷ 13 ∷ 50 ∷ 85 ∷ 191 ∷ 239 ∷ 149 ∷ 96 ∷ 24 ∷ 144 ∷ 175 ∷ 216 ∷ 7 ∷ 9 ∷ []
unfolding sha1 digest_bytes hash_after compress rounds schedule first_words
empty_score = refl
