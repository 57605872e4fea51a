-- What the steps of a settling leave, in the words of calls on blocks.
use Rattle.std.specs.Prelude.{◌≡◌, ◌≤◌, ℕ, true, length}
use Rattle.fo_ports.specs.State.{Rests, StaysKnown}
use Rattle.fo_facts.specs.Known.{fact_at}
use Rattle.fo_mind.specs.Parts.{CacheKeeps, IsPinned, Parts, label_at, state_of}

-- What isn't doomed stays; pinned blocks are what they were, but for slots that waited; labels, pins and seals stay, and so does room; and
-- no removal is lost.
pub record Eases (p q : Parts) : Type 0 where
  pub rests : Rests (state_of p) (state_of q)
  pub known : (b : ℕ) → IsPinned p.held b → StaysKnown (state_of p) (state_of q) b
  pub blocks : (b : ℕ) → (label_at q.region b ≡ label_at p.region b) × (IsPinned p.held b → IsPinned q.held b) × ((fact_at p.facts b).sealed ≡ true → (fact_at q.facts b).sealed ≡ true)
  pub room : (q.spare ≡ p.spare) × (q.pins ≡ p.pins) × (q.room ≡ p.room)
  pub queued : length p.removals ≤ length q.removals
  pub keeps : CacheKeeps p q
