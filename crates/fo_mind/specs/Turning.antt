-- Which blocks have a turn in the order of writing, and what an answer of the device does to the fields of a cache.
use Rattle.std.specs.Prelude.{◌≡◌, ◌⊎◌, ◌==◌, nat_eq, Some, ◌+◌, ◌*◌, ◌<◌, ◌≤◌, ◌&&◌, ℕ, Bool, true, false, not, cond, List, length, count_by, slice_set, Option, None}
use Rattle.std.specs.List.{Contains, list_any}
use Rattle.std.specs.Map.{remove_entry}
use Rattle.std.specs.Option.{option_map_or}
use Rattle.lru.specs.LruCache.{lru_cache, put_entries}
use Rattle.fo_buffers.specs.declared.block.Buffer.{Buffer}
use Rattle.fo_buffers.specs.Held.{Held, cut, held_at, is_dirty, is_pinned, pinned_as, settled, unlisted, updated}
use Rattle.fo_order.specs.declared.marks.Flags.{Flags}
use Rattle.fo_order.specs.declared.marks.Tried.{Tried}
use Rattle.fo_order.specs.declared.marks.Tried.TheVariants.{Settled, Written, Failed}
use Rattle.fo_order.specs.Keeps.{Turns}
use Rattle.fo_order.specs.Turns.{IsSynced, flag_at, wrote}
use Rattle.fo_facts.specs.declared.fact.Fact.{Fact}
use Rattle.fo_facts.specs.Known.{fact_at, written_as}
use Rattle.fo_facts.specs.Counts.{owes}
use Rattle.fo_mind.specs.Parts.{IsPinned, Parts}

-- memory has this block changed
abbrev pub is_changed : Option Buffer → Bool
is_changed o = option_map_or is_dirty o false

-- A block has a turn only where it is one of labels, or is held and was changed; if it was changed it has one, once it is in the tree; and
-- one that isn't held is settled.
pub record TurnsAt (first b : ℕ) (o : Option Buffer) (f : Flags) (linked : Bool) : Type 0 where
  pub begins : f.dirty ≡ true → 2 ≤ b
  pub held : f.dirty ≡ true → first ≤ b → is_changed o ≡ true
  pub turn : is_changed o ≡ true → linked ≡ true → f.dirty ≡ true
  pub unheld : first ≤ b → o ≡ None → f.tried ≡ Settled

pub record Turning (first : ℕ) (held : Held) (turns : Turns) (facts : List Fact) : Type 0 where
  pub each : (b : ℕ) → TurnsAt first b (held_at held b) (flag_at turns b) (fact_at facts b).linked

-- Beside what was promised there is room for one turn more.
abbrev pub HasTurn : Parts → Type 0
HasTurn p = count_by owes p.facts + (2 * p.spare + p.pins + (p.room + length p.clears)) < p.turns.room

-- The order of writing may have room for one turn more; nothing else changed.
pub record KeepsTurn (old new : Parts) : Type 0 where
  pub more : old.turns.room ≤ new.turns.room
  pub rest : new ≡ record old { turns = record old.turns { room = new.turns.room } }

abbrev pub is_pinned_at : Held → ℕ → Bool
is_pinned_at held b = option_map_or is_pinned (held_at held b) false

-- A write of a block answered Ok. One that is in the tree of memory is not dirty any more; another stays so, since it has to be written
-- again when it comes into the tree.
pub record Landed (at : ℕ) (old new : Parts) : Type 0 where
  pub turns : new.turns ≡ wrote old.turns at true
  pub held : new.held ≡ cond (fact_at old.facts at).linked (updated old.held at settled) old.held
  pub facts : new.facts ≡ slice_set old.facts at (written_as (is_pinned_at old.held at) (fact_at old.facts at))
  pub rest : new ≡ record old { held = new.held; turns = new.turns; facts = new.facts }

-- A write of a block failed. It stays dirty.
pub record Missed (at : ℕ) (old new : Parts) : Type 0 where
  pub turns : new.turns ≡ wrote old.turns at false
  pub facts : new.facts ≡ slice_set old.facts at (written_as false (fact_at old.facts at))
  pub rest : new ≡ record old { turns = new.turns; facts = new.facts }

-- A sync answered Ok.
pub record Synced (old new : Parts) : Type 0 where
  pub turns : IsSynced old.turns new.turns
  pub rest : new ≡ record old { turns = new.turns }

-- No room is kept for a block that is not pinned any more, but for one that has no turn yet since it isn't linked.
abbrev pub unpinned_fact : Fact → Fact
unpinned_fact f = record f { owes = f.owes && not f.linked }

-- A pinned block isn't pinned any more.
pub record Unpinned (at : ℕ) (old new : Parts) : Type 0 where
  pub pinned : IsPinned old.held at
  pub held : new.held ≡ updated old.held at (pinned_as false)
  pub facts : new.facts ≡ slice_set old.facts at (unpinned_fact (fact_at old.facts at))
  pub rest : new ≡ record old { held = new.held; facts = new.facts }

abbrev pub is_settled : Tried → Bool
is_settled Settled = true
is_settled Written = false
is_settled Failed = false

-- A block may be given up: it is held, not pinned and not changed, settled, in the tree of memory, nothing waits for its entries, and no
-- slot of it waits to be cleared.
abbrev pub may_release : Parts → ℕ → Bool
may_release p at = not (option_map_or is_pinned (held_at p.held at) true) && (not (is_changed (held_at p.held at)) && (is_settled (flag_at p.turns at).tried && (not (list_any (λ w. w.on == at) p.waits) && (not (list_any (λ c. c.at == at) p.clears) && (fact_at p.facts at).linked))))

-- It isn't held any more, and is the first of the clean ones, where it is once; or it is forgotten for want of memory.
pub record Released (at : ℕ) (old new : Parts) : Type 0 where
  pub was : Buffer
  pub held : held_at old.held at ≡ Some was
  pub is : (new.held ≡ record (cut old.held at) { clean = put_entries nat_eq (lru_cache (remove_entry (nat_eq at) old.held.clean) 1024) at was.block }) ⊎ (new.held ≡ cut (unlisted old.held at) at)
  pub alone : (bytes : List ℕ) → Contains new.held.clean (at, bytes) → bytes ≡ was.block
  pub rest : new ≡ record old { held = new.held }
