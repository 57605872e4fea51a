-- What is known of the bytes of a block.
use Rattle.std.proofs.Common.{◌≡◌, ℕ, false, List}
use Rattle.fo_buffers.specs.Formed.{IsKnown}

-- where nothing was found out, that is so
pub knows_nothing : (bytes : List ℕ) → IsKnown false false bytes
knows_nothing bytes = record { is_leaf = λ e. cc; is_root = λ e. cc }
