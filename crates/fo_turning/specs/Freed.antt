-- What is left where blocks are pinned no more, and what each turn leaves in the words of calls on blocks.
use Rattle.std.specs.Prelude.{◌≡◌, ◌≢◌, ◌+◌, ℕ, zero, suc, cond}
use Rattle.fo_image.specs.Place.{label_block}
use Rattle.fo_buffers.specs.Held.{Held}
use Rattle.fo_ports.specs.State.{Rests}
use Rattle.fo_mind.specs.Parts.{CacheKeeps, IsBlock, Parts, label_at, state_of}
use Rattle.fo_mind.specs.Turning.{is_pinned_at}

-- What isn't doomed stays, and only labels of data blocks change.
pub record Yields (p q : Parts) : Type 0 where
  pub rests : Rests (state_of p) (state_of q)
  pub keeps : CacheKeeps p q
  pub far : (x : ℕ) → label_at q.region x ≢ label_at p.region x → IsBlock p (label_block x) → ⊥

-- Blocks may be pinned no more, and no longer held where the device has them; all else stays.
pub record Loosens (p q : Parts) : Type 0 where
  pub yields : Yields p q
  pub rest : q ≡ record p { held = q.held; facts = q.facts }

-- how many blocks below this address are pinned
abbrev pub pins_below : ℕ → Held → ℕ
pins_below zero held = 0
pins_below (suc n) held = cond (is_pinned_at held n) 1 0 + pins_below n held
