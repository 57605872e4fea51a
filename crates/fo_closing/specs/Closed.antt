-- A block is closed.
use Rattle.std.specs.Prelude.{◌≡◌, ◌≢◌, ◌==◌, ◌&&◌, ◌+◌, ◌^◌, ◌<◌, ◌≤◌, ℕ, Bool, true, false, not, cond, length}
use Rattle.std.specs.List.{filter}
use Rattle.fo_image.specs.declared.types.State.TheVariants.{Live}
use Rattle.fo_image.specs.Place.{label_block}
use Rattle.fo_image.specs.Usable.{is_usable}
use Rattle.fo_buffers.specs.Held.{cut, held_at, unlisted}
use Rattle.fo_order.specs.declared.marks.Tried.TheVariants.{Settled}
use Rattle.fo_order.specs.Turns.{IsQuiet, changed, flag_at}
use Rattle.fo_labels.specs.Region.{closed_label, relabeled, usable_count}
use Rattle.fo_facts.specs.Known.{fact_at}
use Rattle.fo_waits.specs.declared.listed.Wait.{Wait}
use Rattle.fo_waits.specs.Listed.{Clears}
use Rattle.fo_mind.specs.Parts.{IsBlock, Parts, label_at}
use Rattle.fo_mind.specs.Turning.{HasTurn, is_changed, is_pinned_at}

-- A block may be closed at this epoch: its label is live, and not of a later epoch; it isn't the root; it was linked, and is settled with
-- what memory has of it; nobody has it pinned, and none of its slots waits.
pub record MayClose (p : Parts) (at epoch : ℕ) : Type 0 where
  pub block : IsBlock p at
  pub live : (label_at p.region at).state ≡ Live
  pub begun : (label_at p.region at).epoch ≤ epoch
  pub small : epoch < 2 ^ 31
  pub other : at ≢ p.one.active
  pub linked : (fact_at p.facts at).linked ≡ true
  pub free : is_pinned_at p.held at ≡ false
  pub calm : is_changed (held_at p.held at) ≡ false
  pub clean : (flag_at p.turns at).dirty ≡ false
  pub settled : (flag_at p.turns at).tried ≡ Settled
  pub unclear : (j : ℕ) → Clears p.clears at j → ⊥

-- this is no wait of a block, and none for entries of it
abbrev pub is_apart : ℕ → Wait → Bool
is_apart at w = not (w.at == at) && not (w.on == at)

-- Its label is closed at this epoch, and all others are as they were. The block of its label has a turn. It is neither held nor clean, and
-- nobody waits for its entries, nor it for any.
pub record Closed (at epoch : ℕ) (old new : Parts) : Type 0 where
  pub may : MayClose old at epoch
  pub within : label_block at < length old.turns.flags
  pub region : new.region ≡ relabeled old.region at (closed_label (label_at old.region at) epoch)
  pub usable : usable_count old.one.low new.region ≡ usable_count old.one.low old.region + cond (is_usable old.one.low (closed_label (label_at old.region at) epoch)) 1 0
  pub held : new.held ≡ cut (unlisted old.held at) at
  pub turns : new.turns ≡ changed old.turns (label_block at) 0
  pub waits : new.waits ≡ filter (is_apart at) old.waits
  pub rest : new ≡ record old { region = new.region; held = new.held; turns = new.turns; waits = new.waits }

-- with room for one turn more
abbrev pub with_turn : Parts → Parts
with_turn p = record p { turns = record p.turns { room = p.turns.room + 1 } }

-- There is room for a turn, or, where all is to be quiet, it is.
abbrev pub MayTurn : Bool → Parts → Type 0
MayTurn true p = IsQuiet p.turns
MayTurn false p = HasTurn p
