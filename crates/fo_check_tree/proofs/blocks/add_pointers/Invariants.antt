use Rattle.std.proofs.Common.{◌≡◌, ℕ, ◌+◌, ◌<◌, ◌≤◌, ◌++◌, length, drop}
use Rattle.fo_crash.specs.Images.{Content}
use Rattle.fo_good.specs.Means.{HasPointer}
use Rattle.fo_sound.specs.Image.{is_zero}
use Rattle.fo_check_tree.specs.Lower.{level}
use Rattle.fo_check_tree.specs.Slots.{unless, steps_below}
use Rattle.fo_check_tree.proofs.blocks.add_pointers.Given as goal

abbrev pub invariant-loop-i : goal.invariant-loop-i
invariant-loop-i l = record {
  pushed : (c : Content) → ((i : ℕ) → i < 409 → HasPointer c l.block i) → l.walk.steps.items ≡ l.fn.walk.steps.items ++ steps_below l.step l.kind l.here c l.i;
  noted : l.walk.noted ≡ unless (is_zero (drop 8180 l.block)) 5 l.here.block l.fn.walk.noted;
  blocks : l.walk.blocks ≡ l.fn.walk.blocks;
  tree : (l.walk.epoch ≡ l.fn.walk.epoch) × (l.walk.active ≡ l.fn.walk.active);
  low : level l.walk.noted ≤ level l.fn.walk.noted;
  labels : l.walk.labels ≡ l.fn.walk.labels;
  named : l.walk.named.items ≡ l.fn.walk.named.items;
  steps : length l.walk.steps.items ≤ length l.fn.walk.steps.items + l.i;
  folders : l.walk.folders.items ≡ l.fn.walk.folders.items;
}
