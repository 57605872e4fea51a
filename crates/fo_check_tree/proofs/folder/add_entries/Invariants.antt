use Rattle.std.proofs.Common.{◌≡◌, ℕ, ◌+◌, ◌-◌, ◌*◌, ◌^◌, ◌<◌, ◌≤◌, true, false, ◌++◌, length, drop}
use Rattle.std.specs.Prelude.{min}
use Rattle.fo_crash.specs.Images.{Content}
use Rattle.fo_good.specs.Means.{HasEntry}
use Rattle.fo_sound.specs.Image.{is_zero}
use Rattle.fo_check_tree.specs.Lower.{level}
use Rattle.fo_check_tree.specs.Notes.{NotesAt, NotesFolders, KeepsFormats}
use Rattle.fo_check_tree.specs.Depths.{HasFolder}
use Rattle.fo_check_tree.specs.Pairing.{Searches, IsApart, Asks, Leads}
use Rattle.fo_check_names.specs.Pairs.{is_folder}
use Rattle.fo_check_tree.specs.Slots.{entry_of, HasSlot, steps_by_pairs, AddsFolders}
use Rattle.fo_check_tree.proofs.folder.add_entries.Given as goal

abbrev pub invariant-loop-k : goal.invariant-loop-k
invariant-loop-k l = record {
  pushed : (c : Content) → ((i : ℕ) → i < 204 → HasSlot c l.block i) → l.walk.steps.items ≡ l.fn.walk.steps.items ++ steps_by_pairs l.here c l.k;
  put : (c : Content) → ((i : ℕ) → i < 204 → HasSlot c l.block i) → AddsFolders l.here c (min (l.depth + 1) (2 ^ 32 - 1)) l.named l.k l.fn.walk.folders.items l.walk.folders.items;
  whole : (c : Content) → ((i : ℕ) → i < 204 → HasSlot c l.block i) → 5 < level l.walk.noted → (i : ℕ) → i < 2 * l.k → HasEntry c l.block i;
  sought : (c : Content) → ((i : ℕ) → i < 204 → HasSlot c l.block i) → Searches l.index c l.named l.k l.fn.walk.named.items l.walk.named.items l.walk.folders.items;
  asks : (c : Content) → ((i : ℕ) → i < 204 → HasSlot c l.block i) → l.index < 27982932961 → IsApart l.fn.walk.named.items → Asks l.index c l.k l.fn.walk.named.items l.walk.named.items;
  eight : (c : Content) → ((i : ℕ) → i < 204 → HasSlot c l.block i) → NotesFolders (HasFolder c) (min (l.depth + 1) (2 ^ 32 - 1)) l.here.block l.fn.walk.noted l.walk.noted;
  heads : (c : Content) → ((i : ℕ) → i < 204 → HasSlot c l.block i) → Leads l.index c l.k l.fn.walk.named.items l.fn.walk.folders.items l.walk.folders.items;
  deep : (c : Content) → ((i : ℕ) → i < 204 → HasSlot c l.block i) → 8 < level l.walk.noted → (i : ℕ) → i < 2 * l.k → is_folder (entry_of (c.slot i)) ≡ true → min (l.depth + 1) (2 ^ 32 - 1) ≤ 64;
  rest : is_zero (drop 8160 l.block) ≡ false → level l.walk.noted ≤ 5;
  clean : (c : Content) → ((i : ℕ) → i < 204 → HasEntry c l.block i) → is_zero (drop 8160 l.block) ≡ true → KeepsFormats l.fn.walk.noted l.walk.noted;
  notes : NotesAt l.here.block l.fn.walk.noted l.walk.noted;
  blocks : l.walk.blocks ≡ l.fn.walk.blocks;
  tree : (l.walk.epoch ≡ l.fn.walk.epoch) × (l.walk.active ≡ l.fn.walk.active);
  low : level l.walk.noted ≤ level l.fn.walk.noted;
  labels : l.walk.labels ≡ l.fn.walk.labels;
  steps : length l.walk.steps.items ≤ length l.fn.walk.steps.items + 2 * l.k;
  folders : length l.walk.folders.items ≤ length l.fn.walk.folders.items + 2 * l.k;
}
