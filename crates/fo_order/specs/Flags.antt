-- Flags of blocks.
use Rattle.std.specs.Prelude.{◌&&◌, ℕ, Bool, false, nat_eq, List, slice_index_or}
use Rattle.fo_order.specs.declared.marks.Flags.{Flags}
use Rattle.fo_order.specs.declared.marks.Mark.{Mark}
use Rattle.fo_order.specs.declared.marks.Tried.{Tried}
use Rattle.fo_order.specs.declared.marks.Tried.TheVariants.{Settled, Written, Failed}

abbrev pub flags_of : Bool → Tried → ℕ → Flags
flags_of dirty tried rank = record { dirty = dirty; tried = tried; rank = rank }

-- a settled block
abbrev pub quiet : Flags
quiet = flags_of false Settled 0

-- what is known of the block at an address
abbrev pub flag : List Flags → ℕ → Flags
flag flags at = slice_index_or flags at quiet

abbrev pub is_dirty : Flags → Bool
is_dirty f = f.dirty

-- after a sync
abbrev pub settled_tried : Tried → Tried
settled_tried Settled = Settled
settled_tried Written = Settled
settled_tried Failed = Failed

abbrev pub settled : Flags → Flags
settled f = record f { tried = settled_tried f.tried }

-- whether a mark says what the flags say
abbrev pub is_current : List Flags → Mark → Bool
is_current flags m = (flag flags m.at).dirty && nat_eq (flag flags m.at).rank m.rank
