-- The pieces of a batch.
use Rattle.std.specs.Prelude.{◌≡◌, ℕ, List, [], ◌∷◌, None}
use Rattle.std.specs.List.{AllByRecursion}
use Rattle.fo_crash.specs.Images.{Content, Image, SameContent}
use Rattle.fo_image.specs.declared.types.Kind.{Kind}
use Rattle.fo_image.specs.Format.{KindHolds}
use Rattle.fo_ports.specs.State.{State}
use Rattle.fo_arch_hash.specs.Form.{IsStored}
use Rattle.fo_arch_hash.specs.declared.types.Piece.{Piece}
use Rattle.fo_arch_form.specs.declared.stored.Stored.{Stored}
use Rattle.fo_arch_form.specs.Stored.{found}
use Rattle.fo_arch_walk.specs.declared.spot.Spot.{Spot}
use Rattle.fo_arch_walk.specs.Forms.{IsForm}
use Rattle.fo_arch_walk.specs.Spots.{arena_code, IsOpen}

-- what is stored of a block of this kind with this content: its form without the tail
pub record IsCutForm (done : Stored) (kind : Kind) (c : Content) (bytes : List ℕ) : Type 0 where
  pub form : List ℕ
  pub is : IsForm done kind c form
  pub stored : IsStored (arena_code kind) form bytes

-- The piece of a block that a walk from the root came to: what is stored of a content that was read at its address as a block of its
-- kind. Where the device tells, it is what memory has there.
pub record IsPiece (done : Stored) (s : State) (root : ℕ) (p : Piece) : Type 0 where
  pub spot : Spot
  pub at_is : p.at ≡ spot.at
  pub code_is : p.kind ≡ arena_code spot.kind
  pub here : IsOpen done s root spot
  pub content : Content
  pub known : s.tells → SameContent (s.now spot.at) content
  pub is : IsCutForm done spot.kind content p.bytes.items

-- The piece is what is stored of what an image has at its address.
pub record IsPieceOf (done : Stored) (image : Image) (p : Piece) : Type 0 where
  pub kind : Kind
  pub holds : KindHolds kind
  pub code_is : p.kind ≡ arena_code kind
  pub is : IsCutForm done kind (image p.at) p.bytes.items

-- address, kind and bytes of a piece
abbrev pub Kept : Type 0
Kept = ℕ × ℕ × List ℕ

-- None of them is stored.
abbrev pub AreFresh : Stored → List Kept → Type 0
AreFresh done ks = AllByRecursion (λ (k : Kept). found done k.0 k.1 ≡ None) ks

-- None of them is of this address and kind.
abbrev pub IsApartFrom : ℕ → ℕ → List Kept → Type 0
IsApartFrom at kind ks = AllByRecursion (λ (k : Kept). k.0 ≡ at → k.1 ≡ kind → ⊥) ks

-- No two of them are of one address and kind.
abbrev pub AreApart : List Kept → Type 0
AreApart [] = Unit {0}
AreApart (k ∷ ks) = IsApartFrom k.0 k.1 ks × AreApart ks
