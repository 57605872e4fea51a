-- A source gets another length.
use Rattle.std.specs.Prelude.{◌≡◌, ◌⊎◌, ◌*◌, ◌<◌, ℕ, List}
use Rattle.fo_crash.specs.Images.{Image, Reaches, to_block}
use Rattle.fo_crash.specs.Steps.{AllAre}
use Rattle.fo_ports.specs.Causes.{Caused}
use Rattle.fo_ports.specs.State.{State, KeepsAll, Rests, StaysKnown}
use Rattle.fo_tree_read.specs.declared.tree.Tree.{Tree}
use Rattle.fo_tree_look.specs.declared.ways.Kept.{Kept}
use Rattle.fo_tree_look.specs.Source.{WayReady}
use Rattle.fo_tree_down.specs.Clear.{last_leaf}
use Rattle.fo_tree_down.specs.Way.{with_top}
use Rattle.fo_tree_trim.specs.Behind.{IsPast}
use Rattle.fo_tree_trim.specs.Cut.{CutSlot, Cuts}
use Rattle.fo_tree_trim.specs.Trim.{Shows, IsEndCurrent}
use Rattle.fo_tree_append.specs.Append.{ended}
use Rattle.fo_tree_append.specs.Grown.{GrownTo}
use Rattle.fo_tree_shorten.specs.Shorten.{EntryAt, Links, Readies, shorter}
use Rattle.fo_tree_set.specs.declared.error.LengthError.{LengthError}
use Rattle.fo_tree_set.specs.declared.error.LengthError.TheVariants.{TooBig, Refused, Untrimmed}

-- The blocks above the last leaf were made current, the source was linked, and all was settled then, as far as that was granted.
pub record Rested (s m u v : State) (t : Tree) (generation at i top : ℕ) : Type 0 where
  pub ready : Readies s m u t generation at i top
  pub entry : EntryAt u (with_top t top) generation at i
  pub kept : KeepsAll s u
  pub rests : Rests u v
  pub known : (b : ℕ) → u.pinned b → StaysKnown u v b
  pub blocks : (b : ℕ) → (v.label b ≡ u.label b) × (u.pinned b → v.pinned b) × (u.sealed b → v.sealed b)
  pub units : (v.spare ≡ u.spare) × (v.pins_left ≡ u.pins_left) × (v.room ≡ u.room)
  pub settled : KeepsAll u v

-- What stood behind a source's end was cut where all was settled, in blocks that are current: it hangs from block 1 no more, and each image
-- has the leaves that memory has.
pub record CutsSettled (v w : State) (t : Tree) (kept : List Kept) (generation at i : ℕ) : Type 0 where
  pub settled : AllAre v.now v.may_leave
  pub entry : EntryAt v t generation at i
  pub deep : 0 < t.depth
  pub ready : WayReady v t kept t.depth (last_leaf t.size)
  pub current : IsEndCurrent v t
  pub cuts : Cuts (CutSlot v t (last_leaf t.size) (409 * t.depth)) v w
  pub gone : v.tells → (b : ℕ) → IsPast v t (last_leaf t.size) b → (Reaches w.now (to_block 1) b → ⊥) × w.covered b
  pub shows : v.tells → (image : Image) → w.may_leave image → Shows v image t (last_leaf t.size)
  pub all : KeepsAll v w

-- A source was made ready to be trimmed, with all settled; and it was trimmed, where that was granted.
pub record TrimsBy (B : Type 0) (state : B → State) (old new : B) (t now : Tree) (kept : List Kept) (generation at i : ℕ) : Type 0 where
  pub top : ℕ
  pub is : now ≡ with_top t top
  pub own : B
  pub put : B
  pub rest : B
  pub rested : Rested (state old) (state own) (state put) (state rest) t generation at i top
  pub cut : (new ≡ rest) ⊎ CutsSettled (state rest) (state new) now kept generation at i

-- or nothing stood behind its end, and nothing was done
abbrev pub MayTrim : (B : Type 0) (state : B → State) (old new : B) (t now : Tree) (kept : List Kept) (generation at i : ℕ) → Type 0
MayTrim B state old new t now kept generation at i = ((new ≡ old) × (now ≡ t)) ⊎ TrimsBy B state old new t now kept generation at i

-- A source was shortened by a put of its entry, and trimmed then.
pub record ShortensBy (B : Type 0) (state : B → State) (old new : B) (t now : Tree) (kept : List Kept) (generation at i len : ℕ) : Type 0 where
  pub less : len < t.size
  pub put : B
  pub links : Links (state old) (state put) (shorter (state old) t kept len) generation at i
  pub entry : EntryAt (state put) (shorter (state old) t kept len) generation at i
  pub all : KeepsAll (state old) (state put)
  pub trims : MayTrim B state put new (shorter (state old) t kept len) now kept generation at i

-- A source that is trimmed got zeros behind its end and the levels for another end, and its entry was put.
pub record GrowsBy (B : Type 0) (state : B → State) (old new : B) (t now : Tree) (kept : List Kept) (generation at i len : ℕ) : Type 0 where
  pub is : now ≡ ended t len now.top
  pub grown : B
  pub grows : GrownTo (state old) (state grown) t now kept
  pub links : Links (state grown) (state new) now generation at i

-- A source was trimmed, and got a longer end; where the first was refused, not the second.
pub record LengthensBy (B : Type 0) (state : B → State) (old new : B) (t now : Tree) (kept : List Kept) (generation at i len : ℕ) : Type 0 where
  pub more : t.size < len
  pub middle : B
  pub tree : Tree
  pub trims : MayTrim B state old middle t tree kept generation at i
  pub entry : EntryAt (state middle) tree generation at i
  pub all : KeepsAll (state old) (state middle)
  pub grows : ((new ≡ middle) × (now ≡ tree)) ⊎ GrowsBy B state middle new tree now kept generation at i len

-- all that may be done for a length
abbrev pub SetsBy : (B : Type 0) (state : B → State) (old new : B) (t now : Tree) (kept : List Kept) (generation at i len : ℕ) → Type 0
SetsBy B state old new t now kept generation at i len = ((new ≡ old) × (now ≡ t)) ⊎ (ShortensBy B state old new t now kept generation at i len ⊎ LengthensBy B state old new t now kept generation at i len)

-- A source is another at another time: of the same kind, tag and rank.
pub record SameForm (t new : Tree) : Type 0 where
  pub dir : new.dir ≡ t.dir
  pub tag : new.tag ≡ t.tag
  pub rank : new.rank ≡ t.rank

-- Why a length is refused; want of memory needs no cause.
abbrev pub LengthCaused : (too_big fault : Type 0) → LengthError → Type 0
LengthCaused too_big fault TooBig = too_big
LengthCaused too_big fault (Refused why) = Caused ⊥ (λ b. ⊥) fault ⊥ why
LengthCaused too_big fault (Untrimmed why) = Caused ⊥ (λ b. ⊥) fault ⊥ why

-- the size of a source for which a length was refused
abbrev pub SizeLeft : (size len now : ℕ) → LengthError → Type 0
SizeLeft size len now TooBig = now ≡ size
SizeLeft size len now (Refused why) = now ≡ size
SizeLeft size len now (Untrimmed why) = (now ≡ len) × (len < size)
