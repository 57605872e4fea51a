-- What a put queues.
use Rattle.std.specs.Prelude.{◌≡◌, ◌<◌, ◌≤◌, ℕ}
use Rattle.fo_crash.specs.declared.slot.Slot.{Slot}
use Rattle.fo_crash.specs.Images.{target}
use Rattle.fo_mind.specs.of_ports.Blocks.{ends}

-- No removal goes; and where a slot led to a block and leads to none, one more is queued.
pub record Queues (old slot : Slot) (before queued : ℕ) : Type 0 where
  pub more : before ≤ queued
  pub some : ends (target old) (target slot) ≡ 1 → before < queued
