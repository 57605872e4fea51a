-- What calls keep of two states they keep with any counts of the arena's faults.
use Rattle.std.specs.Prelude.{◌≡◌, ℕ, Result, Ok, Err, IfErr}
use Rattle.std.proofs.Common.{inl, inr, subst, ⊎_elim}
use Rattle.fo_image.specs.declared.types.Label.{Label}
use Rattle.fo_crash.specs.declared.slot.Slot.{Slot}
use Rattle.fo_crash.specs.Images.{Content}
use Rattle.fo_ports.specs.State.{AddsNoRemoval, AddsNoWait, AddsRemovals, Calm, Frame, Gives, Hangs, IsSettled, IsShut, IsUnlinked, KeepsCovered, KeepsNumbers, KeepsOrder, Looks, Numbers, Rests, State, Stays, StaysKnown, StaysUndoomed, Uses, WaitsForPairs, none}
use Rattle.fo_ports.specs.Causes.{Caused, IsFull}
use Rattle.fo_ports.specs.declared.error.BlockError.{BlockError}
use Rattle.fo_ports.specs.declared.error.BlockError.TheVariants.{Arena, Damaged, Fault, Full, Memory}
use Rattle.fo_devices.specs.Seen.{beside}

module _ (s t : State) (a b : ℕ) where
  pub stays : (made put : ℕ → Type 0) → Stays made put s t → Stays made put (beside s a) (beside t b)
  stays made put h = record { labels = h.labels; marks = h.marks; places = h.places; rooted = h.rooted; newborn = h.newborn; apart = h.apart; instead = h.instead; waits = h.waits }

  pub no_wait : (but : ℕ → Type 0) → AddsNoWait but s t → AddsNoWait but (beside s a) (beside t b)
  no_wait but h = record { each = h.each }

  pub no_removal : AddsNoRemoval s t → AddsNoRemoval (beside s a) (beside t b)
  no_removal h = record { each = h.each }

  pub removals : (slot : Slot) → AddsRemovals slot s t → AddsRemovals slot (beside s a) (beside t b)
  removals slot h = record { each = h.each }

  pub shut : (x : ℕ) → IsShut s t x → IsShut (beside s a) (beside t b) x
  shut x h = record {
    closing = h.closing;
    removal = h.removal;
    epoch = h.epoch;
    whole = h.whole;
    may = h.may;
    alone = h.alone;
    live = h.live;
    is = h.is;
    tag = h.tag;
    begun = h.begun;
    other = h.other;
    linked = h.linked;
  }

  pub order : (made : ℕ → Type 0) → KeepsOrder made s t → KeepsOrder made (beside s a) (beside t b)
  order made h = record { clearing = h.clearing; goes_on = h.goes_on }

  pub covered : KeepsCovered s t → KeepsCovered (beside s a) (beside t b)
  covered h = record { covered = h.covered }

  pub uses : (blocks removals : ℕ) → Uses blocks removals s t → Uses blocks removals (beside s a) (beside t b)
  uses blocks removals h = record { spare = h.spare; usable = h.usable; room = h.room; pins = h.pins; moments = h.moments; left = h.left }

  pub numbers : KeepsNumbers s t → KeepsNumbers (beside s a) (beside t b)
  numbers h = record { next = h.next; grants = h.grants }

  pub frame : (here put : ℕ → Type 0) (removals : ℕ) → Frame here put removals s t → Frame here put removals (beside s a) (beside t b)
  frame here put removals h = record { stays = stays none put h.stays; dirty = h.dirty; uses = uses 0 removals h.uses; numbers = numbers h.numbers }

  pub calm : (here : ℕ → Type 0) (removals : ℕ) → Calm here removals s t → Calm here removals (beside s a) (beside t b)
  calm here removals h = record { frame = frame here none removals h.frame; order = order none h.order; covered = covered h.covered; newborn = h.newborn; queued = h.queued; no_removal = no_removal h.no_removal }

  pub gives : (at : ℕ) (c : Content) (l : Label) → Gives at c l s t → Gives at c l (beside s a) (beside t b)
  gives at c l h = record {
    memory = h.memory;
    images = h.images;
    label = h.label;
    free = h.free;
    was = h.was;
    alone = h.alone;
    is = h.is;
    stays = stays (λ x. x ≡ at) none h.stays;
    order = order (λ x. x ≡ at) h.order;
    covered = h.covered;
    no_wait = no_wait none h.no_wait;
    dirty = h.dirty;
    uses = uses 1 0 h.uses;
    queued = h.queued;
    no_removal = no_removal h.no_removal;
    numbers = numbers h.numbers;
  }

  pub looks : Looks s t → Looks (beside s a) (beside t b)
  looks h = record {
    holds = h.holds;
    memory = h.memory;
    known = h.known;
    images = h.images;
    passes = h.passes;
    stays = stays none none h.stays;
    order = order none h.order;
    covered = covered h.covered;
    newborn = h.newborn;
    no_wait = no_wait none h.no_wait;
    dirty = h.dirty;
    room = h.room;
    usable = h.usable;
    no_removal = no_removal h.no_removal;
    numbers = numbers h.numbers;
  }

  pub renumbers : Numbers s t → Numbers (beside s a) (beside t b)
  renumbers h = record {
    label = h.label;
    marks = h.marks;
    places = h.places;
    apart = h.apart;
    instead = h.instead;
    newborn = h.newborn;
    waits = h.waits;
    order = order none h.order;
    covered = covered h.covered;
    no_wait = no_wait none h.no_wait;
    dirty = h.dirty;
    room = h.room;
    usable = h.usable;
    no_removal = no_removal h.no_removal;
  }

  pub hangs : (at i : ℕ) (slot : Slot) → Hangs at i slot s t → Hangs at i slot (beside s a) (beside t b)
  hangs at i slot h = record {
    place = h.place;
    put = h.put;
    at_place = h.at_place;
    at_apart = h.at_apart;
    raised = h.raised;
    raises = h.raises;
    still = h.still;
    waits = h.waits;
  }

  pub pairs : (at on : ℕ) → WaitsForPairs at on s t → WaitsForPairs at on (beside s a) (beside t b)
  pairs at on h = record { each = h.each }

  pub known : (x : ℕ) → StaysKnown s t x → StaysKnown (beside s a) (beside t b) x
  known x h = record { bytes = h.bytes; slots = h.slots }

  pub undoomed : (x : ℕ) → StaysUndoomed s t x → StaysUndoomed (beside s a) (beside t b) x
  undoomed x h = record { bytes = h.bytes; slots = h.slots; label = h.label; sealed = h.sealed; uncovered = h.uncovered; places = h.places }

pub unlinked : (s : State) (a x : ℕ) → IsUnlinked s x → IsUnlinked (beside s a) x
unlinked s a x h = record { maker = h.maker; apart = h.apart; hangs = h.hangs; free = h.free }

unlinked_before : (s : State) (a x : ℕ) → IsUnlinked (beside s a) x → IsUnlinked s x
unlinked_before s a x h = record { maker = h.maker; apart = h.apart; hangs = h.hangs; free = h.free }

pub settled : (s : State) (a : ℕ) → IsSettled s → IsSettled (beside s a)
settled s a h = record { settled = h.settled; clean = λ x d. let is = h.clean x d in (is.0, λ told. unlinked s a x (is.1 told)); empty = h.empty; cleared = h.cleared }

settled_before : (s : State) (a : ℕ) → IsSettled (beside s a) → IsSettled s
settled_before s a h = record { settled = h.settled; clean = λ x d. let is = h.clean x d in (is.0, λ told. unlinked_before s a x (is.1 told)); empty = h.empty; cleared = h.cleared }

pub rests : (s t : State) (a b : ℕ) → Rests s t → Rests (beside s a) (beside t b)
rests s t a b h = record {
  blocks = λ told x free. undoomed s t a b x (h.blocks told x free);
  images = h.images;
  passes = h.passes;
  fills = h.fills;
  order = h.order;
  no_wait = no_wait s t a b none h.no_wait;
  dirty = h.dirty;
  closes = h.closes;
  leaves = h.leaves;
  apart = h.apart;
  instead = h.instead;
  newborn = h.newborn;
  newborns = h.newborns;
  kept = λ x is old new. known s t a b x (h.kept x is old new);
  labels = λ x. ⊎_elim (λ same. inl same) (λ is. inr (shut s t a b x is)) (h.labels x);
  removes = h.removes;
  queues = h.queues;
  usable = h.usable;
  settled = λ was. let now = h.settled (settled_before s a was) in (settled t b now.0, now.1);
  numbers = numbers s t a b h.numbers;
}

-- A refusal for want of room is caused by the same.
pub caused : {T : Type 0} (r : Result T BlockError) (t : State) (b asked : ℕ) (quiet rest : Type 0) (damaged : ℕ → Type 0) (fault arena : Type 0) → IfErr r (Caused (IsFull t asked × quiet × rest) damaged fault arena) → IfErr r (Caused (IsFull (beside t b) asked) damaged fault arena)
caused (Ok x) t b asked quiet rest damaged fault arena h = tt
caused (Err Full) t b asked quiet rest damaged fault arena h = (h.0.0, settled t b h.0.1)
caused (Err (Damaged at)) t b asked quiet rest damaged fault arena h = h
caused (Err (Fault which)) t b asked quiet rest damaged fault arena h = h
caused (Err (Arena which)) t b asked quiet rest damaged fault arena h = h
caused (Err Memory) t b asked quiet rest damaged fault arena h = h

-- what is so beside that where there is no room
pub full_more : {T : Type 0} (r : Result T BlockError) (full quiet rest : Type 0) (damaged : ℕ → Type 0) (fault arena : Type 0) → IfErr r (Caused (full × quiet × rest) damaged fault arena) → IfErr r (λ e. e ≡ Full → quiet × rest)
full_more (Ok x) full quiet rest damaged fault arena h = tt
full_more (Err e) full quiet rest damaged fault arena h = λ is. let c : full × quiet × rest = subst (Caused (full × quiet × rest) damaged fault arena) is h in (c.1, c.2)
