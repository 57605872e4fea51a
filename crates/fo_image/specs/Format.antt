-- The formats, each by its fields in their order and the condition on its values.
use Rattle.std.specs.Prelude.{◌≡◌, ◌≢◌, ℕ, ◌+◌, ◌-◌, ◌*◌, ◌^◌, ◌<◌, ◌≤◌, ◌==◌, ◌&&◌, ◌||◌, nat_le, Bool, true, false, List, [], ◌∷◌, ◌++◌, take, codes, replicate, Option, Some, None, if◌then◌else◌}
use Rattle.fo_image.specs.declared.types.Header.{Header}
use Rattle.fo_image.specs.declared.types.Score.{Score}
use Rattle.fo_image.specs.declared.types.State.{State}
use Rattle.fo_image.specs.declared.types.State.TheVariants.{Free, Live, Closed}
use Rattle.fo_image.specs.declared.types.Kind.{Kind}
use Rattle.fo_image.specs.declared.types.Kind.TheVariants.{Data, Dir, Root}
use Rattle.fo_image.specs.declared.types.Label.{Label}
use Rattle.fo_image.specs.declared.types.Super.{Super}
use Rattle.fo_image.specs.declared.types.Pointer.{Pointer}
use Rattle.fo_image.specs.declared.types.Pointer.TheVariants as pointer
use Rattle.fo_image.specs.declared.types.Entry.{Entry}
use Rattle.fo_image.specs.declared.types.ArenaHead.{ArenaHead}
use Rattle.fo_image.specs.declared.types.ArenaLine.{ArenaLine}
use Rattle.fo_image.specs.Field.{One, Two, Four, Eight, Field, Number, Fixed, number, Spells}

-- ---- labels

abbrev pub state_code : State → ℕ
state_code Free = 0
state_code Live = 1
state_code Closed = 9

-- the levels of data are 0 to 4, those of entries 8 to 12
abbrev pub kind_code : Kind → ℕ
kind_code (Data level) = level
kind_code (Dir level) = 8 + level
kind_code Root = 16

abbrev pub KindHolds : Kind → Type 0
KindHolds (Data level) = level ≤ 4
KindHolds (Dir level) = level ≤ 4
KindHolds Root = Unit {0}

abbrev pub IsEpoch : ℕ → Type 0
IsEpoch epoch = (1 ≤ epoch) × (epoch < 2 ^ 31)

-- all fields of a free label are zero; a live one has no closing epoch; a closed one has one that is not before its own
abbrev pub StateHolds : State → Label → Type 0
StateHolds Free l = (l.kind ≡ Data 0) × (l.epoch ≡ 0) × (l.closing ≡ 0) × (l.tag ≡ 0)
StateHolds Live l = KindHolds l.kind × IsEpoch l.epoch × (l.closing ≡ 2 ^ 32 - 1)
StateHolds Closed l = KindHolds l.kind × IsEpoch l.epoch × (l.epoch ≤ l.closing) × (l.closing < 2 ^ 31)

pub record LabelHolds (l : Label) : Type 0 where
  pub state_holds : StateHolds l.state l

abbrev pub label_fields : Label → List Field
label_fields l = Number One (state_code l.state) ∷ Number One (kind_code l.kind) ∷ Number Four l.epoch ∷ Number Four l.closing ∷ Number Four l.tag ∷ []

abbrev pub SpellsLabel : Label → List ℕ → Type 0
SpellsLabel = Spells 14 label_fields LabelHolds

-- ---- pointers

-- all zero is nil; sixteen zeros and one more than an address is that address; all else is a score
abbrev pub pointer_bytes : Pointer → List ℕ
pointer_bytes pointer.Nil = replicate 20 0
pointer_bytes (pointer.Local address) = replicate 16 0 ++ number Four (address + 1)
pointer_bytes (pointer.Score score) = score.0

abbrev pub IsScore : List ℕ → Type 0
IsScore bytes = take 16 bytes ≢ replicate 16 0

abbrev pub PointerHolds : Pointer → Type 0
PointerHolds pointer.Nil = Unit {0}
PointerHolds (pointer.Local address) = address < 2 ^ 32 - 1
PointerHolds (pointer.Score score) = IsScore score.0

abbrev pub pointer_fields : Pointer → List Field
pointer_fields p = Fixed 20 (pointer_bytes p) ∷ []

abbrev pub SpellsPointer : Pointer → List ℕ → Type 0
SpellsPointer = Spells 20 pointer_fields PointerHolds

-- ---- entries

-- the least depth at which a tree of blocks of 8192 bytes, with 409 pointers in a block, has room for so many bytes
pub record IsDepth (size depth : ℕ) : Type 0 where
  pub room : size ≤ 8192 * 409 ^ depth
  pub least : (less : ℕ) → less < depth → 8192 * 409 ^ less < size

abbrev pub flag_bits : Bool → Bool → ℕ
flag_bits active dir = (if active then 1 else 0) + (if dir then 2 else 0)

-- an entry that is not active keeps its generation alone
abbrev pub ActiveHolds : Bool → Entry → Type 0
ActiveHolds true e = IsDepth e.size e.depth × PointerHolds e.top
ActiveHolds false e = (e.dir ≡ false) × (e.depth ≡ 0) × (e.tag ≡ 0) × (e.size ≡ 0) × (e.top ≡ pointer.Nil)

pub record EntryHolds (e : Entry) : Type 0 where
  pub active_holds : ActiveHolds e.active e

abbrev pub entry_fields : Entry → List Field
entry_fields e = Number Four e.generation ∷ Number One (flag_bits e.active e.dir) ∷ Number One e.depth ∷ Number Two 0 ∷ Number Four e.tag ∷ Number Eight e.size ∷ Fixed 20 (pointer_bytes e.top) ∷ []

abbrev pub SpellsEntry : Entry → List ℕ → Type 0
SpellsEntry = Spells 40 entry_fields EntryHolds

-- ---- header and super block

abbrev pub HeaderHolds : Header → Type 0
HeaderHolds h = Unit {0}

abbrev pub header_fields : Header → List Field
header_fields h = Fixed 8 (codes "FOSSILHD") ∷ Number Four 8192 ∷ Number Four h.blocks ∷ []

abbrev pub SpellsHeader : Header → List ℕ → Type 0
SpellsHeader = Spells 8192 header_fields HeaderHolds

abbrev pub has_code : Option Score → ℕ
has_code None = 0
has_code (Some score) = 1

abbrev pub last_bytes : Option Score → List ℕ
last_bytes None = replicate 20 0
last_bytes (Some score) = score.0

pub record SuperHolds (s : Super) : Type 0 where
  pub version_is : s.version ≡ 1
  pub low_is : IsEpoch s.low
  pub high_is : IsEpoch s.high
  pub numbers_are : (1 ≤ s.numbers) × (s.numbers ≤ 2 ^ 30)
  pub pending_is : s.pending < 2 ^ 31

abbrev pub super_fields : Super → List Field
super_fields s = Fixed 8 (codes "FOSSILSB") ∷ Number Two s.version ∷ Number Four s.low ∷ Number Four s.high ∷ Number Four s.active ∷ Number Four s.numbers ∷ Number Four s.pending ∷ Number One (has_code s.last) ∷ Fixed 20 (last_bytes s.last) ∷ []

abbrev pub SpellsSuper : Super → List ℕ → Type 0
SpellsSuper = Spells 8192 super_fields SuperHolds

-- ---- the arena

abbrev pub ArenaHeadHolds : ArenaHead → Type 0
ArenaHeadHolds h = Unit {0}

abbrev pub arena_head_fields : ArenaHead → List Field
arena_head_fields h = Fixed 8 (codes "FSARENA1") ∷ Number Four h.blocks ∷ Number Four h.used ∷ []

abbrev pub SpellsArenaHead : ArenaHead → List ℕ → Type 0
SpellsArenaHead = Spells 8192 arena_head_fields ArenaHeadHolds

-- the kinds of labels, and 17 for a top block
abbrev pub is_arena_kind : ℕ → Bool
is_arena_kind kind = nat_le kind 4 || (nat_le 8 kind && nat_le kind 12) || kind == 16 || kind == 17

pub record ArenaLineHolds (l : ArenaLine) : Type 0 where
  pub score_is : IsScore l.score.0
  pub kind_is : is_arena_kind l.kind ≡ true
  pub len_fits : l.len ≤ 8192

abbrev pub arena_line_fields : ArenaLine → List Field
arena_line_fields l = Fixed 20 l.score.0 ∷ Number One l.kind ∷ Number One 0 ∷ Number Two l.len ∷ []

abbrev pub SpellsArenaLine : ArenaLine → List ℕ → Type 0
SpellsArenaLine = Spells 24 arena_line_fields ArenaLineHolds
