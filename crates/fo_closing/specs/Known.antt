-- Which blocks belong to a removal, and what is known of their content.
use Rattle.std.specs.Prelude.{◌≡◌, ◌≢◌, ◌⊎◌, ◌-◌, ◌^◌, ◌<◌, ◌≤◌, ℕ, Bool, true, false, List, nat_eq, Option, Some, None, is_some}
use Rattle.std.specs.Map.{lookup}
use Rattle.fo_disk.specs.Disk.{Content as Holds}
use Rattle.fo_image.specs.declared.types.Kind.{Kind}
use Rattle.fo_image.specs.declared.types.Kind.TheVariants.{Data, Dir, Root}
use Rattle.fo_image.specs.declared.types.State.TheVariants.{Live}
use Rattle.fo_buffers.specs.declared.block.Buffer.{Buffer}
use Rattle.fo_buffers.specs.Held.{Held, held_at}
use Rattle.fo_ports.specs.Blocks.{AreZeros}
use Rattle.fo_ports.specs.declared.error.BlockError.{BlockError}
use Rattle.fo_ports.specs.declared.error.BlockError.TheVariants.{Full, Damaged, Fault, Arena, Memory}
use Rattle.fo_facts.specs.declared.fact.Fact.{Fact}
use Rattle.fo_facts.specs.Known.{fact_at}
use Rattle.fo_bring.specs.Blocks.{Good, IsData}
use Rattle.fo_bring.specs.Holds.{IsFrom, StaysClean}
use Rattle.fo_unlink.specs.declared.removal.Removal.{Removal}
use Rattle.fo_unlink.specs.Pending.{Pending, wanted, way_level}
use Rattle.fo_labels.specs.Region.{Region}
use Rattle.fo_mind.specs.Parts.{Parts, count_of, label_at}

-- the kind of a source's blocks at this level
abbrev pub at_level : Kind → ℕ → Kind
at_level (Data n) level = Data level
at_level (Dir n) level = Dir level
at_level Root level = Root

-- the kind of what hangs from a pointer block of this level, and without one of what a removal begins with
abbrev pub kind_below : Kind → Option ℕ → Kind
kind_below kind None = kind
kind_below kind (Some level) = at_level kind (level - 1)

-- The label says that a block is one of this removal: of this kind, of the source that the removal is of, and given out by then.
pub record IsPart (region : Region) (r : Removal) (kind : Kind) (at : ℕ) : Type 0 where
  pub block : IsData region.first (count_of region) at
  pub top : IsData region.first (count_of region) r.at
  pub live : (label_at region at).state ≡ Live
  pub is_kind : (label_at region at).kind ≡ kind
  pub tag : (label_at region at).tag ≡ (label_at region r.at).tag
  pub begun : (label_at region at).epoch ≤ r.epoch

-- And it may be closed, where all is at rest: it isn't the root, and was linked.
pub record MayGo (region : Region) (root : ℕ) (facts : List Fact) (r : Removal) (kind : Kind) (at : ℕ) : Type 0 where
  pub part : IsPart region r kind at
  pub other : at ≢ root
  pub linked : (fact_at facts at).linked ≡ true
  pub small : r.epoch < 2 ^ 31

abbrev pub IsClosable : Parts → Removal → Kind → ℕ → Type 0
IsClosable p r kind at = MayGo p.region p.one.active p.facts r kind at

-- Bytes that are held of a block, else clean, else one of the device's versions; and they are what a block of this kind may have.
pub record IsShown (disk : Holds) (first count : ℕ) (held : Held) (kind : Kind) (at : ℕ) (bytes : List ℕ) : Type 0 where
  pub from : IsFrom disk at held bytes
  pub good : Good first count kind bytes

-- They aren't what a block of this kind may have.
pub record IsBad (disk : Holds) (first count : ℕ) (held : Held) (kind : Kind) (at : ℕ) : Type 0 where
  pub bytes : List ℕ
  pub from : IsFrom disk at held bytes
  pub bad : Good first count kind bytes → ⊥

-- What the queue is given as the content of a block: its bytes; but zeros, so that nothing hangs from it, where its label says that it is
-- none of this removal, or its bytes are damaged.
abbrev pub IsKnown : Holds → Region → Held → Removal → Kind → ℕ → List ℕ → Type 0
IsKnown disk region held r kind at bytes = (IsPart region r kind at × IsShown disk region.first (count_of region) held kind at bytes) ⊎ (AreZeros bytes × ((IsPart region r kind at → ⊥) ⊎ IsBad disk region.first (count_of region) held kind at))

-- That of the block that is wanted.
abbrev pub IsWanted : Holds → Region → Held → Pending → Removal → List ℕ → Type 0
IsWanted disk region held q r block = (b level : ℕ) → wanted q ≡ Some b → way_level q.way ≡ Some level → IsKnown disk region held r (at_level r.kind level) b block

-- what is held of a block, else what is clean of it
abbrev pub seen_in : Option Buffer → Option (List ℕ) → Option (List ℕ)
seen_in (Some x) clean = Some x.block
seen_in None clean = clean

-- A block is held or clean now, with bytes that were held, else clean, else are one of the device's versions.
pub record IsSeen (disk : Holds) (at : ℕ) (old new : Held) : Type 0 where
  pub bytes : List ℕ
  pub is : seen_in (held_at new at) (lookup (nat_eq at) new.clean) ≡ Some bytes
  pub from : IsFrom disk at old bytes

-- these bytes were copied exactly where they are good
abbrev pub CopiesGood : (first count : ℕ) → Kind → List ℕ → Bool → List ℕ → Type 0
CopiesGood first count kind bytes result into = (result ≡ true → Good first count kind bytes × (into ≡ bytes)) × (result ≡ false → Good first count kind bytes → ⊥)

-- What a reading leaves: what is held stays; what is clean was so, or is one of the device's versions; there may be more room for turns.
pub record Looked (disk : Holds) (old new : Parts) : Type 0 where
  pub held : (q : ℕ) → held_at new.held q ≡ held_at old.held q
  pub clean : StaysClean disk old.held new.held
  pub room : new.held.room ≡ old.held.room
  pub turns : old.turns.room ≤ new.turns.room
  pub faults : old.faults ≤ new.faults
  pub rest : new ≡ record old { held = new.held; turns = record old.turns { room = new.turns.room }; faults = new.faults }

-- neither held nor clean
pub record IsUnseen (h : Held) (at : ℕ) : Type 0 where
  pub unheld : held_at h at ≡ None
  pub unclean : is_some (lookup (nat_eq at) h.clean) ≡ false

-- a fault of the main device
abbrev pub IsFault : BlockError → Type 0
IsFault Full = ⊥
IsFault (Damaged at) = ⊥
IsFault (Fault which) = Unit {0}
IsFault (Arena which) = ⊥
IsFault Memory = ⊥
