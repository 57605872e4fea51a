-- What the steps of a reservation leave.
use Rattle.std.specs.Prelude.{◌≡◌, ◌≢◌, ◌⊎◌, ◌+◌, ◌<◌, ◌≤◌, ℕ, zero, suc, true, false, cond, List, [], ◌∷◌, length, count_by, Option, None, is_some}
use Rattle.std.specs.Option.{option_map}
use Rattle.fo_disk.specs.Disk.{versions_of}
use Rattle.fo_buffers.specs.declared.block.Buffer.{Buffer}
use Rattle.fo_buffers.specs.Held.{Held, held_at, pinned_as}
use Rattle.fo_facts.specs.Known.{fact_at, owing_no_more}
use Rattle.fo_image.specs.Place.{label_block}
use Rattle.fo_order.specs.declared.marks.Tried.TheVariants.{Settled}
use Rattle.fo_order.specs.Flags.{is_dirty}
use Rattle.fo_order.specs.Keeps.{Turns}
use Rattle.fo_order.specs.Turns.{IsQuiet, flag_at}
use Rattle.fo_ports.specs.Causes.{IsFull}
use Rattle.fo_ports.specs.State.{Rests}
use Rattle.fo_unlink.specs.Pending.{Pending}
use Rattle.fo_waits.specs.Listed.{Clears, ClearsAfter}
use Rattle.fo_closing.specs.of_mind.Due.{is_over}
use Rattle.fo_closing.specs.of_mind.Parts.{CacheKeeps, IsBlock, IsNewborn, IsPinned, Parts, bytes_at, label_at, state_of}
use Rattle.fo_closing.specs.of_mind.Turning.{is_changed, is_pinned_at, may_release}
use Rattle.fo_settling.specs.Clearings.{Clearings, IsCleared}
use Rattle.fo_closing.specs.Closings.{Closings}
use Rattle.fo_closing.specs.Rest.{AtRest}

-- what is held of a block, pinned or not
abbrev pub as_held : Held → ℕ → Option Buffer
as_held h b = option_map (pinned_as false) (held_at h b)

-- A block isn't held any more, which memory didn't change, and of which no slot waited to be cleared.
abbrev pub IsLet : Parts → Parts → ℕ → Type 0
IsLet p q b = (held_at q.held b ≡ None) × (is_changed (held_at p.held b) ≡ false) × ((j : ℕ) → Clears p.clears b j → ⊥)

-- Pins end, and blocks are given up that were not changed. Nothing is pinned that wasn't; what is held has its bytes; all else that is
-- known of addresses stays, but that no room may be kept for turns of blocks that were pinned.
pub record Lets (p q : Parts) : Type 0 where
  pub held : (b : ℕ) → (as_held q.held b ≡ as_held p.held b) ⊎ IsLet p q b
  pub pinned : (b : ℕ) → IsPinned q.held b → IsPinned p.held b
  pub facts : (b : ℕ) → owing_no_more (fact_at q.facts b) ≡ owing_no_more (fact_at p.facts b)
  pub rest : q ≡ record p { held = q.held; facts = q.facts }

-- It is pinned, or may not be given up.
abbrev pub IsKept : Parts → ℕ → Type 0
IsKept p b = IsPinned p.held b ⊎ (may_release p b ≡ false)

-- At most so many blocks are to be written or settled; or no data block is.
abbrev pub AreFew : Turns → ℕ → Type 0
AreFew t first = (count_by is_dirty t.flags + length t.written ≤ 4096) ⊎ ((b : ℕ) → first ≤ b → ((flag_at t b).dirty ≡ false) × ((flag_at t b).tried ≡ Settled))

-- how many blocks below an address are pinned
abbrev pub pins_below : Held → ℕ → ℕ
pins_below h zero = 0
pins_below h (suc n) = pins_below h n + cond (is_pinned_at h n) 1 0

-- Labels stay, and no removal is lost. Removals are queued with slots that waited for settled leaves and are cleared, and by nothing else;
-- beside that memory's bytes stay, as far as the device tells, and so does who is in the tree.
pub record KeepsLabels (p q : Parts) : Type 0 where
  pub label : (x : ℕ) → label_at q.region x ≡ label_at p.region x
  pub queued : (q.removals ≡ p.removals) ⊎ ((length p.removals ≤ length q.removals) × ((b : ℕ) × (j : ℕ) × Clears p.clears b j))
  pub clears : Clearings p q
  pub order : (b j : ℕ) → Clears q.clears b j → Clears p.clears b j
  pub keeps : CacheKeeps p q

-- turns of closing, one after the other: what memory and the queue were before and after them
pub record Row : Type 0 where
  pub before : Parts
  pub after : Parts
  pub queue : Pending
  pub left : Pending

-- They were taken where all is settled and at rest, and nothing is held but what is newborn; over the device as it was then, which has
-- memory's bytes of each block of the tree, and the queue of memory. After them all is at rest.
pub record IsRow (r : Row) : Type 0 where
  pub quiet : IsQuiet r.before.turns
  pub rest : AtRest r.before
  pub held : (b : ℕ) → is_some (held_at r.before.held b) ≡ true → IsNewborn r.before.facts b
  pub memory : (b : ℕ) → r.before.region.first ≤ b → b < length r.before.disk → (fact_at r.before.facts b).linked ≡ true → versions_of r.before.disk b ≡ bytes_at r.before.held r.before.disk b ∷ []
  pub queue : r.queue.removals ≡ r.before.removals
  pub left : r.left.removals ≡ r.after.removals
  pub closes : Closings r.before.disk r.before r.after r.queue r.left
  pub rested : AtRest r.after

-- Labels change and removals leave the queue by these turns of closing, and by nothing else.
abbrev pub ClosesBy : List Row → Parts → Parts → Type 0
ClosesBy [] p q = KeepsLabels p q
ClosesBy (r ∷ rs) p q = KeepsLabels p r.before × IsRow r × ClosesBy rs r.after q

-- Each slot that waited waits still, or it waited for a leaf that is settled and has no turn at the end, if that is a data block; but it may
-- have one again where a slot of its own was cleared.
abbrev pub AfterData : Parts → Parts → Type 0
AfterData p q = (b j : ℕ) → Clears p.clears b j → Clears q.clears b j ⊎ ((leaf : ℕ) × ClearsAfter p.clears b j leaf × (p.region.first ≤ leaf → (is_over q.turns leaf ≡ true) ⊎ IsCleared p q leaf))

-- Blocks are closed by these rows alone. Whatever the states in between, the leaves of slots that were cleared are settled at the end.
pub record ClosesAtRest (p q : Parts) : Type 0 where
  pub rows : List Row
  pub closes : ClosesBy rows p q
  pub after : AfterData p q

-- What steps of a reservation leave, in the words of calls on blocks; labels that changed have their places in blocks of labels; and which
-- blocks are closed.
pub record Reserves (p q : Parts) : Type 0 where
  pub rests : Rests (state_of p) (state_of q)
  pub keeps : CacheKeeps p q
  pub apart : (x : ℕ) → label_at q.region x ≢ label_at p.region x → IsBlock p (label_block x) → ⊥
  pub closes : ClosesAtRest p q

-- Nothing is pinned, and no block is held that may be given up.
pub record GivesAll (p : Parts) : Type 0 where
  pub free : (b : ℕ) → IsPinned p.held b → ⊥
  pub none : (b : ℕ) → IsBlock p b → may_release p b ≡ false

-- There is no room: too few blocks are usable, all is settled, no removal is queued and no slot waits; and the device has all of it for certain.
abbrev pub IsStuck : Parts → ℕ → Type 0
IsStuck p asked = IsFull (state_of p) asked × IsQuiet p.turns × AtRest p
