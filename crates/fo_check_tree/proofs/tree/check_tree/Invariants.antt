use Rattle.std.proofs.Common.{◌≡◌, ◌+◌, ◌-◌, ◌*◌, ◌<◌, ◌≤◌, List, [], length, Some}
use Rattle.fo_crash.specs.Images.{Image, Arena}
use Rattle.fo_disk.specs.Disk.{Block}
use Rattle.fo_check_labels.specs.Known.{left_at}
use Rattle.fo_image.specs.Place.{label_blocks, first_data}
use Rattle.fo_good.specs.Sound.{Kept}
use Rattle.fo_sound.specs.Device.{Shows}
use Rattle.fo_check_tree.specs.Answer.{HoldsAny}
use Rattle.fo_check_tree.specs.Formats.{AreFormed}
use Rattle.fo_check_tree.specs.Dirs.{AreJudged}
use Rattle.fo_check_tree.specs.Grounds.{HasGrounds}
use Rattle.fo_check_tree.specs.Depths.{AreAbove}
use Rattle.fo_check_tree.specs.Numbers.{HasSources, AreNumbers}
use Rattle.fo_check_tree.specs.Pairing.{AreSettled, HasHeads}
use Rattle.fo_check_tree.specs.Walking.{Walking}
use Rattle.fo_check_tree.specs.Lower.{IsRule, level, JudgesRoot}
use Rattle.fo_check_tree.specs.declared.broken.Broken.{Broken}
use Rattle.fo_check_tree.proofs.tree.check_tree.Given as goal

abbrev pub invariant-loop-folder : goal.invariant-loop-folder
invariant-loop-folder g l = record {
  size : g.D.Reads.size l.main ≡ l.walk.blocks;
  walks : (arena : Arena) (device : List Block) (image : Image) (k : Kept) → length device ≡ l.fn.setting.blocks → Shows (g.D.Reads.state l.fn.main).holds device → k.root ≡ l.root → HoldsAny arena device image l.fn.setting.s k
      → Walking arena device image l.fn.setting.s k [] l.walk × (l.walk.steps.items ≡ []);
  dirs : (arena : Arena) (device : List Block) (image : Image) (k : Kept) → length device ≡ l.fn.setting.blocks → Shows (g.D.Reads.state l.fn.main).holds device → k.root ≡ l.root → HoldsAny arena device image l.fn.setting.s k
      → AreJudged arena image k [] l.walk;
  formed : (arena : Arena) (device : List Block) (image : Image) (k : Kept) → length device ≡ l.fn.setting.blocks → Shows (g.D.Reads.state l.fn.main).holds device → k.root ≡ l.root → HoldsAny arena device image l.fn.setting.s k
      → AreFormed arena image k l.walk.labels.known.items l.walk.noted l.walk.steps.items l.walk.folders.items;
  settled : (arena : Arena) (device : List Block) (image : Image) (k : Kept) → length device ≡ l.fn.setting.blocks → Shows (g.D.Reads.state l.fn.main).holds device → k.root ≡ l.root → HoldsAny arena device image l.fn.setting.s k
      → AreSettled arena image k l.walk.noted l.walk.folders.items l.numbers.items;
  depths : (arena : Arena) (device : List Block) (image : Image) (k : Kept) → length device ≡ l.fn.setting.blocks → Shows (g.D.Reads.state l.fn.main).holds device → k.root ≡ l.root → HoldsAny arena device image l.fn.setting.s k
      → AreAbove arena image k l.walk.noted l.walk.folders.items;
  grounds : (arena : Arena) (device : List Block) (image : Image) (k : Kept) → length device ≡ l.fn.setting.blocks → Shows (g.D.Reads.state l.fn.main).holds device → k.root ≡ l.root → HoldsAny arena device image l.fn.setting.s k
      → HasGrounds arena image k l.walk.noted l.walk.steps.items l.walk.folders.items;
  heads : (arena : Arena) (device : List Block) (image : Image) (k : Kept) → length device ≡ l.fn.setting.blocks → Shows (g.D.Reads.state l.fn.main).holds device → k.root ≡ l.root → HoldsAny arena device image l.fn.setting.s k
      → HasHeads arena image k l.walk.noted l.walk.folders.items;
  eight : (arena : Arena) (device : List Block) (image : Image) (k : Kept) → length device ≡ l.fn.setting.blocks → Shows (g.D.Reads.state l.fn.main).holds device → k.root ≡ l.root → HoldsAny arena device image l.fn.setting.s k
      → HasSources arena image k l.fn.setting.s.numbers l.walk.noted l.walk.folders.items;
  counts : (arena : Arena) (device : List Block) (image : Image) (k : Kept) → length device ≡ l.fn.setting.blocks → Shows (g.D.Reads.state l.fn.main).holds device → k.root ≡ l.root → HoldsAny arena device image l.fn.setting.s k
      → 6 < level l.walk.noted → AreNumbers arena image k l.walk.labels.known.items l.numbers.items;
  rules : (b : Broken) → l.walk.noted ≡ Some b → IsRule b.rule;
  judged : JudgesRoot l.root l.walk.noted;
  same : g.D.Reads.size l.main ≡ g.D.Reads.size l.fn.main;
  reads : g.D.Reads.calls l.main + l.walk.labels.left ≤ g.D.Reads.calls l.fn.main + (label_blocks l.fn.setting.blocks + length l.walk.labels.known.items);
  once : g.D.Reads.reads l.main + left_at g.D.Reads.watched l.walk.labels.known.items ≤ g.D.Reads.reads l.fn.main + 1;
  few : length l.walk.labels.known.items ≤ l.fn.setting.blocks - first_data l.fn.setting.blocks;
  kept : g.D.Reads.state l.main ≡ g.D.Reads.state l.fn.main;
  later : g.D.Reads.faults l.fn.main ≤ g.D.Reads.faults l.main;
}

abbrev pub decreases-loop-folder : goal.decreases-loop-folder
decreases-loop-folder g l = 205 * l.walk.labels.left + length l.walk.folders.items
