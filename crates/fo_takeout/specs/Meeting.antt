-- What two slots at one place say of what leaves, and two blocks at one place, slot by slot.
use Rattle.std.specs.Prelude.{◌≡◌, ◌==◌, ◌+◌, ◌-◌, ℕ, zero, suc, Bool, true, false, cond, nat_lt, if◌then◌else◌, List, Option, Some, None, length}
use Rattle.fo_image.specs.declared.types.Kind.{Kind}
use Rattle.fo_image.specs.declared.types.Kind.TheVariants.{Data, Dir, Root}
use Rattle.fo_image.specs.declared.types.Pointer.{Pointer}
use Rattle.fo_image.specs.declared.types.Pointer.TheVariants.{Nil, Local, Score as Held}
use Rattle.fo_slots.specs.of_crash.declared.slot.Slot.{Slot}
use Rattle.fo_slots.specs.of_crash.Images.{Content, kind_below, target}
use Rattle.fo_slots.specs.of_ports.Blocks.{slot_count, IsLevel, ReadsSlots}
use Rattle.fo_unlink.specs.Closing.{level_of}
use Rattle.fo_slots.specs.Read.{read}
use Rattle.fo_takeout.specs.declared.pair.Below.{Below}
use Rattle.fo_takeout.specs.declared.pair.Pair.{Pair}
use Rattle.fo_takeout.specs.declared.pair.Change.{Change}
use Rattle.fo_takeout.specs.declared.pair.Change.TheVariants.{Copied, Gained, Lost, Apart}
use Rattle.fo_takeout.specs.declared.pair.Met.{Met}
use Rattle.fo_takeout.specs.declared.pair.Met.TheVariants.{Nothing, Alone, Whole, Follows}

-- ---- two slots

abbrev pub led_at : Kind → Pointer → Option Below
led_at kind Nil = None
led_at kind (Local at) = Some (record { at = at; kind = kind })
led_at kind (Held score) = None

-- the block that a slot of a block of this kind leads to
abbrev pub led_to : Kind → Slot → Option Below
led_to kind s = led_at (kind_below kind s) (target s)

-- A slot led to the first, and leads to the second. What leads nowhere now leaves whole; two blocks are looked at together, later.
abbrev pub meeting : Option Below → Option Below → Met
meeting None y = Nothing
meeting (Some x) None = Whole x
meeting (Some x) (Some y) = if x.at == y.at then Nothing else Follows (record { old = x; new = y })

-- ---- two blocks

abbrev pub same_sort : Kind → Kind → Bool
same_sort (Data l) (Data m) = true
same_sort (Dir l) (Dir m) = true
same_sort _ _ = false

-- A block of the same level came as a copy. One of a higher level was put over the old one, or over its copy; one of a lower level
-- stood below it. One of another sort has nothing to do with it.
abbrev pub change : Pair → Change
change p = cond (nat_lt (level_of p.old.kind) (level_of p.new.kind)) Gained (cond (nat_lt (level_of p.new.kind) (level_of p.old.kind)) Lost (cond (same_sort p.old.kind p.new.kind) Copied Apart))

-- how many items a pair has: the old block itself and each of its slots, or one
abbrev pub items_of : Change → Pair → ℕ
items_of Copied p = slot_count p.old.kind + 1
items_of Lost p = slot_count p.old.kind + 1
items_of Gained p = 1
items_of Apart p = 1

abbrev pub items : Pair → ℕ
items p = items_of (change p) p

-- Item n of a pair, of which the blocks hold c and d. A block that has a copy leaves alone, and then each of its slots is held against the
-- same slot of the copy. What was put over a block has it, or its copy, in slot 0. A block that a source lost leaves alone; its slot 0 led
-- down to what came, and its other slots lead nowhere now.
abbrev pub item_of : Change → Pair → Content → Content → ℕ → Met
item_of Copied p c d n = if n == 0 then Alone p.old else meeting (led_to p.old.kind (c.slot (n - 1))) (led_to p.new.kind (d.slot (n - 1)))
item_of Lost p c d n = if n == 0 then Alone p.old else meeting (led_to p.old.kind (c.slot (n - 1))) (if n == 1 then Some p.new else None)
item_of Gained p c d n = meeting (Some p.old) (led_to p.new.kind (d.slot 0))
item_of Apart p c d n = Whole p.old

abbrev pub item : Pair → Content → Content → ℕ → Met
item p c d n = item_of (change p) p c d n

-- ---- what is known of them

-- no root block hangs from a slot that may be put
abbrev pub IsBelow : Below → Type 0
IsBelow x = IsLevel x.kind

abbrev pub IsPair : Pair → Type 0
IsPair p = IsBelow p.old × IsBelow p.new

abbrev pub IsMet : Met → Type 0
IsMet Nothing = Unit {0}
IsMet (Alone x) = IsBelow x
IsMet (Whole x) = IsBelow x
IsMet (Follows p) = IsPair p

-- These are bytes of a block of this kind.
pub record IsContent (x : Below) (bytes : List ℕ) : Type 0 where
  pub whole : length bytes ≡ 8192
  pub slots : ReadsSlots x.kind (read x.kind bytes) bytes

-- the bytes of which blocks of a pair are looked at
abbrev pub AreGiven : Change → Pair → List ℕ → List ℕ → Type 0
AreGiven Copied p old new = IsContent p.old old × IsContent p.new new
AreGiven Lost p old new = IsContent p.old old
AreGiven Gained p old new = IsContent p.new new
AreGiven Apart p old new = Unit {0}
