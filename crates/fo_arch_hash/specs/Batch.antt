-- Batches as plain values.
use Rattle.std.specs.Prelude.{◌≡◌, ℕ, List, map}
use Rattle.sha1.specs.Sha1.{sha1}
use Rattle.fo_image.specs.declared.types.Score.{Score}
use Rattle.fo_arch_hash.specs.declared.types.Piece.{Piece}
use Rattle.fo_arch_hash.specs.declared.types.Batch.{Batch}

-- the score of a piece
abbrev pub score_of : Piece → Score
score_of p = record { 0 = sha1 p.bytes.items }

-- what a piece says: the address of its block, its kind and its bytes
abbrev pub kept : Piece → ℕ × ℕ × List ℕ
kept p = (p.at, p.kind, p.bytes.items)

-- Two batches say the same.
pub record IsSame (a b : Batch) : Type 0 where
  pub epoch : a.epoch ≡ b.epoch
  pub stored : a.stored ≡ b.stored
  pub pieces : map kept a.pieces.items ≡ map kept b.pieces.items
