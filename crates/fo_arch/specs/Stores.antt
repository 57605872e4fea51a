-- What a call that stores pieces does.
use Rattle.std.specs.Prelude.{◌≡◌, ◌⊎◌, ℕ, ◌+◌, List, ◌∷◌, ◌++◌, take, drop, Some}
use Rattle.std.specs.List.{AllByRecursion}
use Rattle.sha1.specs.Sha1.{sha1}
use Rattle.fo_disk.specs.Disk.{Content, DiskState, Since}
use Rattle.fo_image.specs.declared.types.ArenaLine.{ArenaLine}
use Rattle.fo_crash.specs.Images.{Image}
use Rattle.venti_store.specs.Held.{Recovers}
use Rattle.venti_store.specs.Arena.{lines_of, Keeps, PutRefuses, PutsLine, RefusesHeld, IsMemory}
use Rattle.venti_store.specs.declared.shelf.Shelf.{Shelf}
use Rattle.venti_store.specs.declared.error.ArenaError.{ArenaError}
use Rattle.fo_arch_hash.specs.Batch.{score_of}
use Rattle.fo_arch_hash.specs.declared.types.Piece.{Piece}
use Rattle.fo_arch_form.specs.declared.stored.Stored.{Stored}
use Rattle.fo_arch_form.specs.Stored.{found, count_of, Adds}
use Rattle.fo_arch_walk.specs.Pieces.{IsPieceOf}
use Rattle.fo_arch_tree.specs.Forms.{StoresForms}

-- One list begins with the other.
pub record IsMore {X : Type 0} (old new : List X) : Type 0 where
  pub added : List X
  pub is : new ≡ old ++ added

-- The piece was stored under its score.
pub record IsNoted (p : Piece) (old new : Stored) : Type 0 where
  pub adds : Adds p.at p.kind (score_of p) old new
  pub count : count_of new ≡ count_of old + 1

-- The first so many pieces were stored, each under its score, and nothing else.
pub record Took (pieces : List Piece) (n : ℕ) (old new : Stored) : Type 0 where
  pub here : AllByRecursion (λ (p : Piece). found new p.at p.kind ≡ Some (score_of p)) (take n pieces)
  pub others : (at kind : ℕ) → AllByRecursion (λ (p : Piece). p.at ≡ at → p.kind ≡ kind → ⊥) (take n pieces) → found new at kind ≡ found old at kind
  pub count : count_of new ≡ count_of old + n

-- The first so many pieces were put, one after another: one that is held takes no place, each other takes the next, and nothing else does.
pub data PutsAll (pieces : List Piece) (old : List ArenaLine) : ℕ → List ArenaLine → Type 0 where
  none : (n : ℕ) (new : List ArenaLine) → n ≡ 0 → new ≡ old → PutsAll pieces old n new
  one : (n m : ℕ) (p : Piece) (rest : List Piece) (mid new : List ArenaLine) → PutsAll pieces old n mid → drop n pieces ≡ p ∷ rest → PutsLine p.kind p.bytes.items mid new → m ≡ n + 1 → PutsAll pieces old m new

-- Nothing was put, or the piece was and then memory was wanting.
abbrev pub MayPut : Piece → List ArenaLine → List ArenaLine → ArenaError → Type 0
MayPut p old new e = (new ≡ old) ⊎ (IsMemory e × PutsLine p.kind p.bytes.items old new)

-- Over an arena that tells what it holds, where a block is refused: what was held is held, and where the answer says so, the bytes of its
-- place are damaged or other ones are held under its score.
pub record HeldRefuses (kind : ℕ) (bytes : List ℕ) (new : Shelf) (stored : List (List ℕ)) (synced : ℕ) (s : DiskState) (e : ArenaError) : Type 0 where
  pub held : List (List ℕ)
  pub more : IsMore stored held
  pub keeps : Keeps new held synced s
  pub why : RefusesHeld (lines_of new) held (sha1 bytes) kind e

-- The first n pieces were put and stored, and the arena refused the next one, or there was no memory: for its put, or to note it then.
pub record StoreRefused (pieces : List Piece) (done now : Stored) (old new : Shelf) (s t : DiskState) (e : ArenaError) : Type 0 where
  pub n : ℕ
  pub piece : Piece
  pub rest : List Piece
  pub is : drop n pieces ≡ piece ∷ rest
  pub took : Took pieces n done now
  pub puts : PutsAll pieces (lines_of old) n (lines_of new) ⊎ (IsMemory e × PutsAll pieces (lines_of old) (n + 1) (lines_of new))
  pub refused : PutRefuses new.blocks (lines_of new) piece.kind piece.bytes.items e
  pub told : (stored : List (List ℕ)) (synced : ℕ) → Keeps old stored synced s → HeldRefuses piece.kind piece.bytes.items new stored synced t e

-- Over an arena that tells what it holds: all that was held stays, each image of each moment is an arena in which what was synced is
-- held, and of each image of which these are pieces the arena holds the forms of all that was stored, if it held those of before.
pub record Stores (pieces : List Piece) (done now : Stored) (old new : Shelf) (stored : List (List ℕ)) (synced : ℕ) (before : List Content) (s : DiskState) : Type 0 where
  pub held : List (List ℕ)
  pub more : IsMore stored held
  pub keeps : Keeps new held synced s
  pub since : Since before s.moments (Recovers synced (lines_of new) held)
  pub forms : (image : Image) → AllByRecursion (IsPieceOf done image) pieces → StoresForms done image (lines_of old) stored → StoresForms now image (lines_of new) held
