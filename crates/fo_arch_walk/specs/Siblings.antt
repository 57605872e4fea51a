-- Blocks that one block names, and the pieces of a batch as it grows.
use Rattle.std.specs.Prelude.{◌≡◌, ℕ, ◌<◌, List, map}
use Rattle.std.specs.List.{AllByRecursion}
use Rattle.fo_image.specs.declared.types.Pointer.TheVariants.{Local}
use Rattle.fo_crash.specs.declared.slot.Slot.{Slot}
use Rattle.fo_crash.specs.Images.{Content, SameContent, target}
use Rattle.fo_crash.specs.Places.{place_below}
use Rattle.fo_ports.specs.Blocks.{slot_count, ReadsSlots}
use Rattle.fo_ports.specs.State.{State}
use Rattle.fo_slots.specs.Read.{IsSlot}
use Rattle.fo_arch_hash.specs.Batch.{kept}
use Rattle.fo_arch_hash.specs.declared.types.Piece.{Piece}
use Rattle.fo_arch_form.specs.declared.stored.Stored.{Stored}
use Rattle.fo_arch_walk.specs.declared.spot.Spot.{Spot}
use Rattle.fo_arch_walk.specs.Pieces.{IsPiece, AreFresh, AreApart}
use Rattle.fo_arch_walk.specs.Spots.{place_of, IsOpen}

-- The bytes of slot i spell a slot that leads to this block.
pub record IsChild (above : Spot) (bytes : List ℕ) (i : ℕ) (child : Spot) : Type 0 where
  pub slot : Slot
  pub is : IsSlot above.kind bytes i slot
  pub leads : target slot ≡ Local child.at
  pub kind_is : child.kind ≡ (place_below (place_of above) i slot).kind
  pub rank_is : child.rank ≡ (place_below (place_of above) i slot).rank

-- A block to which a walk came was got, with these bytes.
pub record WasGot (done : Stored) (s : State) (root : ℕ) (above : Spot) (bytes : List ℕ) : Type 0 where
  pub here : IsOpen done s root above
  pub content : Content
  pub slots : ReadsSlots above.kind content bytes
  pub known : s.tells → SameContent (s.now above.at) content
  pub names : (i b : ℕ) → i < slot_count above.kind → target (content.slot i) ≡ Local b → s.is_block b

-- the pieces of a batch so far
pub record Batching (done : Stored) (s : State) (root : ℕ) (pieces : List Piece) : Type 0 where
  pub each : AllByRecursion (IsPiece done s root) pieces
  pub fresh : AreFresh done (map kept pieces)
  pub apart : AreApart (map kept pieces)
