-- What changes of memory do to the fields of a cache.
use Rattle.std.specs.Prelude.{◌≡◌, ◌+◌, ◌&&◌, ℕ, Bool, true, false, not, cond, List, Option, Some, slice_set}
use Rattle.fo_image.specs.declared.types.Kind.{Kind}
use Rattle.fo_image.specs.Place.{label_block}
use Rattle.fo_image.specs.Usable.{live_label}
use Rattle.fo_buffers.specs.Held.{buffer_of, put, unlisted, updated, used, with_bytes}
use Rattle.fo_order.specs.Keeps.{Turns}
use Rattle.fo_order.specs.Turns.{changed, flag_at}
use Rattle.fo_labels.specs.Region.{IsUsableBlock, least_usable, relabeled, usable_count}
use Rattle.fo_facts.specs.declared.fact.Fact.{Fact}
use Rattle.fo_facts.specs.Known.{fact_at, made_fact}
use Rattle.fo_mind.specs.Parts.{Parts}

-- The least usable block was given out with these bytes, to come in the place of another: its label is live, so one less is usable, it is
-- held, dirty and pinned, it has no turn yet, and the block of its label has one.
pub record Given (at : ℕ) (kind : Kind) (tag rank : ℕ) (bytes : List ℕ) (origin : Option ℕ) (old new : Parts) : Type 0 where
  pub least : Some at ≡ least_usable old.one.low old.region
  pub usable : IsUsableBlock old.one.low old.region at
  pub region : new.region ≡ relabeled old.region at (live_label kind tag old.one.high)
  pub count : usable_count old.one.low new.region + 1 ≡ usable_count old.one.low old.region
  pub held : new.held ≡ used (put (unlisted old.held at) at (buffer_of bytes true true))
  pub turns : new.turns ≡ changed old.turns (label_block at) 0
  pub facts : new.facts ≡ slice_set old.facts at (made_fact origin rank)
  pub spare : new.spare + 1 ≡ old.spare
  pub rest : new ≡ record old { region = new.region; held = new.held; turns = new.turns; facts = new.facts; spare = new.spare }

-- A block that was changed takes a turn, where it is in the tree of memory and has none.
abbrev pub takes_turn : List Fact → Turns → ℕ → Bool
takes_turn facts t at = (fact_at facts at).linked && not (flag_at t at).dirty

abbrev pub turned : List Fact → Turns → ℕ → Turns
turned facts t at = cond (takes_turn facts t at) (changed t at (fact_at facts at).rank) t

abbrev pub turned_facts : List Fact → Turns → ℕ → List Fact
turned_facts facts t at = cond (takes_turn facts t at) (slice_set facts at (record (fact_at facts at) { owes = false })) facts

-- A held block has these bytes, and is dirty.
pub record Refilled (at : ℕ) (bytes : List ℕ) (old new : Parts) : Type 0 where
  pub held : new.held ≡ updated old.held at (with_bytes 0 bytes)
  pub turns : new.turns ≡ turned old.facts old.turns at
  pub facts : new.facts ≡ turned_facts old.facts old.turns at
  pub rest : new ≡ record old { held = new.held; turns = new.turns; facts = new.facts }
