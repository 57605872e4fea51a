-- What blocks in memory are, as the calls on blocks see them.
use Rattle.std.specs.Prelude.{◌≡◌, ◌⊎◌, ◌^◌, ◌+◌, ◌*◌, ◌-◌, ◌<◌, ℕ, List, [], ◌∷◌, length}
use Rattle.fo_crash.specs.Images.{Image, SameImage}
use Rattle.fo_ports.specs.State.{State}
use Rattle.fo_ports_plain.specs.declared.block.PlainBlock.{PlainBlock}
use Rattle.fo_ports_plain.specs.declared.held.HeldBlock.{HeldBlock}
use Rattle.fo_ports_plain.specs.declared.wait.Wait.{Wait}
use Rattle.fo_ports_plain.specs.declared.moment.Moment.{Moment}
use Rattle.fo_ports_plain.specs.Plain.{block_at, memory, label_at, Stands, IsData, IsMade, IsApart, Instead, IsTop, Covered, Awaits, held_in}

-- the fields of the device
pub record Plain : Type 0 where
  pub blocks : List PlainBlock
  pub held : List HeldBlock
  pub waits : List Wait
  pub seen : List Moment
  pub made : ℕ
  pub high : ℕ
  pub root : ℕ
  pub spare : ℕ
  pub next : ℕ
  pub room : ℕ
  pub queued : ℕ

-- Of each moment that was kept the image that a crash could have left is what memory had. After it another one goes on until the next that is
-- kept: of that nothing is said.
abbrev pub Shows : List Moment → ℕ → Image → Type 0
Shows [] k image = ⊥
Shows (m ∷ seen) k image = ((k ≡ 2 * length seen + 1) × SameImage image (memory m.blocks.items)) ⊎ Shows seen k image

-- Every image is what memory has, so all is settled, sure and sealed, nothing is newborn, and no slot waits to be cleared. What is queued is counted alone, as it closes nothing. The root blocks of all epochs are kept.
abbrev pub state_of : Plain → State
state_of p = record {
  now = memory p.blocks;
  label = label_at p.blocks p.made;
  stands = Stands p.blocks p.made;
  apart = IsApart p.blocks;
  instead = Instead p.blocks;
  newborn = λ b. ⊥;
  high = p.high;
  low = 1;
  root = p.root;
  tops = IsTop p.blocks;
  is_block = IsData p.blocks;
  held = held_in p.held;
  next = p.next;
  grants = p.next < 2 ^ 30;
  limit = λ c. 2 ^ 30;
  tells = Unit {0};
  may_leave = λ image. SameImage image (memory p.blocks);
  moments = 2 * length p.seen;
  left = Shows p.seen;
  doubt = λ c. ⊥;
  sure = λ b. Unit {0};
  fresh = λ b. Unit {0};
  sealed = λ b. Unit {0};
  spare = p.spare;
  pins_left = 2 ^ 32;
  room = p.room;
  pinned = IsMade p.made;
  usable = length p.blocks - p.made;
  label_block = λ b. 0;
  dirty = λ b. ⊥;
  queued = p.queued;
  removes = λ b e whole. ⊥;
  waits = Awaits p.waits;
  clearing = λ b j. ⊥;
  covered = Covered p.blocks;
  holds = [];
  faults = 0;
  arena_faults = 0;
}

-- What every call keeps.
pub record PlainKeeps (old new : Plain) : Type 0 where
  pub as_long : length new.blocks ≡ length old.blocks
  pub held : new.held ≡ old.held
  pub high : new.high ≡ old.high
  pub root : new.root ≡ old.root
  pub tops : (t : ℕ) → (block_at new.blocks t).kept ≡ (block_at old.blocks t).kept
