-- The score of the empty block is the hash of no bytes (FIPS 180-4).
use Rattle.std.proofs.Common.{◌≡◌, ℕ, List, [], refl}
use Rattle.sha1.specs.Sha1.{sha1, first_words, schedule, rounds, compress, hash_after, digest_bytes}
use Rattle.fo_vacput.specs.declared.types.TheConstants.{EMPTY}

abbrev no_bytes : List ℕ
no_bytes = []

pub empty_hash : sha1 no_bytes ≡ EMPTY.0
unfolding first_words schedule rounds compress hash_after digest_bytes sha1
empty_hash = refl
