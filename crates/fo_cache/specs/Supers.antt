-- What a trial of another super block does.
use Rattle.std.specs.Prelude.{◌≡◌, ◌<◌, ℕ, List, [], ◌∷◌, length, None, Some}
use Rattle.fo_disk.specs.Disk.{DiskState, versions_of}
use Rattle.fo_image.specs.declared.types.Super.{Super}
use Rattle.fo_image.specs.Format.{SpellsSuper}
use Rattle.fo_order.specs.Turns.{IsSynced}
use Rattle.fo_ports.specs.declared.error.BlockError.{BlockError}
use Rattle.fo_ports.specs.declared.error.BlockError.TheVariants.{Full, Damaged, Fault, Arena, Memory}
use Rattle.fo_mind.specs.Parts.{Parts}

-- It counts: block 1 has one version, as far as the device tells, which spells it. What was written is settled, too.
pub record Counts (one : Super) (s t : DiskState) (p q : Parts) : Type 0 where
  pub spells : SpellsSuper one q.one_bytes
  pub settled : 1 < length s.holds → versions_of t.holds 1 ≡ q.one_bytes ∷ []
  pub turns : IsSynced p.turns q.turns
  pub rest : q ≡ record p { one = one; one_bytes = q.one_bytes; turns = q.turns; doubt = None }

-- It is in doubt: memory has the one that it had.
pub record Doubted (one : Super) (p q : Parts) : Type 0 where
  pub bytes : List ℕ
  pub spells : SpellsSuper one bytes
  pub rest : q ≡ record p { doubt = Some bytes }

-- Nothing is in doubt any more: block 1 has one version, as far as the device tells, which is memory's.
pub record Overruled (s t : DiskState) (p q : Parts) : Type 0 where
  pub settled : 1 < length s.holds → versions_of t.holds 1 ≡ p.one_bytes ∷ []
  pub turns : IsSynced p.turns q.turns
  pub rest : q ≡ record p { turns = q.turns; doubt = None }

-- The device failed.
abbrev pub IsFault : BlockError → Type 0
IsFault Full = ⊥
IsFault (Damaged at) = ⊥
IsFault (Fault which) = Unit {0}
IsFault (Arena which) = ⊥
IsFault Memory = ⊥
