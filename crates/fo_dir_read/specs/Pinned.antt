-- Leaves that are pinned.
use Rattle.std.specs.Prelude.{◌≡◌, ℕ}
use Rattle.fo_image.specs.declared.types.Kind.{Kind}
use Rattle.fo_ports.specs.State.{State}

-- A block of this kind is pinned: it is had again without a pin.
abbrev pub IsPinned : State → Kind → ℕ → Type 0
IsPinned s kind at = s.pinned at × ((s.label at).kind ≡ kind)
