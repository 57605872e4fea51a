use Rattle.std.proofs.Common.{◌≡◌, ◌+◌, ℕ, ◌^◌, ◌-◌, ◌*◌, ◌<◌, ◌≤◌, true, false, List, ◌++◌, length}
use Rattle.std.specs.Prelude.{min}
use Rattle.fo_check_tree.specs.Depths.{AreSpread}
use Rattle.fo_crash.specs.Images.{Image, Arena, Link}
use Rattle.fo_disk.specs.Disk.{Block}
use Rattle.fo_good.specs.Sound.{Kept}
use Rattle.fo_image.specs.declared.types.Super.{Super}
use Rattle.fo_image.specs.declared.types.Label.{Label}
use Rattle.fo_check_labels.specs.declared.labels.Known.{Known}
use Rattle.fo_check_labels.specs.Known.{left_at}
use Rattle.fo_sound.specs.Device.{Shows}
use Rattle.fo_check_tree.specs.declared.walk.Step.{Step}
use Rattle.fo_check_tree.specs.declared.walk.Folder.{Folder}
use Rattle.fo_check_tree.specs.Formats.{AreFormed}
use Rattle.fo_check_tree.specs.Grounds.{HasGrounds}
use Rattle.fo_check_tree.specs.Notes.{KeepsPairs, KeepsRules}
use Rattle.fo_check_tree.specs.Dirs.{AreJudged}
use Rattle.fo_check_tree.specs.Listing.{IsListing}
use Rattle.fo_check_tree.specs.Walking.{Reached, Walking}
use Rattle.fo_check_tree.specs.Lower.{level}
use Rattle.fo_check_tree.specs.Numbers.{AreBelow, HasSources, AreFresh}
use Rattle.fo_check_tree.specs.Pairing.{IsApart, AreSought, AreAsked, AreHidden, AreLed, Grows, GrowsUnnamed}
use Rattle.fo_check_names.specs.declared.names.Named.{Named}
use Rattle.fo_check_tree.proofs.blocks.follow_all.Given as goal

abbrev pub invariant-loop-step : goal.invariant-loop-step
invariant-loop-step g l = record {
  walks : (arena : Arena) (device : List Block) (image : Image) (s : Super) (k : Kept) (rest : List Step) → Shows (g.D.Reads.state l.fn.main).holds device → Walking arena device image s k rest l.fn.walk → Walking arena device image s k rest l.walk;
  lists : (arena : Arena) (device : List Block) (image : Image) (s : Super) (k : Kept) (meta : Link) (rest : List Step) → Shows (g.D.Reads.state l.fn.main).holds device → Walking arena device image s k rest l.fn.walk
      → IsListing arena image k meta l.fn.walk.labels.known.items l.fn.walk.steps.items l.fn.walk.named.items → IsListing arena image k meta l.walk.labels.known.items l.walk.steps.items l.walk.named.items;
  dirs : (arena : Arena) (device : List Block) (image : Image) (s : Super) (k : Kept) (rest : List Step) (others : List Folder) → Shows (g.D.Reads.state l.fn.main).holds device → Walking arena device image s k rest l.fn.walk
      → AreJudged arena image k others l.fn.walk → AreJudged arena image k others l.walk;
  formed : (arena : Arena) (device : List Block) (image : Image) (s : Super) (k : Kept) (rest : List Step) (others : List Folder) → Shows (g.D.Reads.state l.fn.main).holds device → Walking arena device image s k rest l.fn.walk
      → AreFormed arena image k l.fn.walk.labels.known.items l.fn.walk.noted l.fn.walk.steps.items (others ++ l.fn.walk.folders.items)
      → AreFormed arena image k l.walk.labels.known.items l.walk.noted l.walk.steps.items (others ++ l.walk.folders.items);
  grounds : (arena : Arena) (device : List Block) (image : Image) (s : Super) (k : Kept) (rest : List Step) → Shows (g.D.Reads.state l.fn.main).holds device → Walking arena device image s k rest l.fn.walk
      → HasGrounds arena image k l.fn.walk.noted l.fn.walk.steps.items l.fn.walk.folders.items → HasGrounds arena image k l.walk.noted l.walk.steps.items l.walk.folders.items;
  pairs : (arena : Arena) (device : List Block) (image : Image) (s : Super) (k : Kept) (entries : Link) (names : List Named) (rest : List Step) → Shows (g.D.Reads.state l.fn.main).holds device → Walking arena device image s k rest l.fn.walk → l.named ≡ true
      → AreSought arena image entries names l.fn.walk.noted l.fn.walk.steps.items l.fn.walk.named.items l.fn.walk.folders.items → AreSought arena image entries names l.walk.noted l.walk.steps.items l.walk.named.items l.walk.folders.items;
  asked : (arena : Arena) (device : List Block) (image : Image) (s : Super) (k : Kept) (entries : Link) (names : List Named) (rest : List Step) → Shows (g.D.Reads.state l.fn.main).holds device → Walking arena device image s k rest l.fn.walk → l.named ≡ true → IsApart names
      → AreSought arena image entries names l.fn.walk.noted l.fn.walk.steps.items l.fn.walk.named.items l.fn.walk.folders.items → AreAsked arena image entries l.fn.walk.steps.items l.fn.walk.named.items → AreAsked arena image entries l.walk.steps.items l.walk.named.items;
  hidden : (arena : Arena) (device : List Block) (image : Image) (s : Super) (k : Kept) (entries : Link) (names : List Named) (rest : List Step) → Shows (g.D.Reads.state l.fn.main).holds device → Walking arena device image s k rest l.fn.walk → l.named ≡ true
      → AreSought arena image entries names l.fn.walk.noted l.fn.walk.steps.items l.fn.walk.named.items l.fn.walk.folders.items → AreHidden arena image k entries l.fn.walk.named.items → AreHidden arena image k entries l.walk.named.items;
  rules : KeepsRules l.fn.walk.noted l.walk.noted;
  heads : (arena : Arena) (device : List Block) (image : Image) (s : Super) (k : Kept) (entries : Link) (names : List Named) (rest : List Step) (before : List Folder) → Shows (g.D.Reads.state l.fn.main).holds device → Walking arena device image s k rest l.fn.walk → l.named ≡ true
      → AreSought arena image entries names l.fn.walk.noted l.fn.walk.steps.items l.fn.walk.named.items l.fn.walk.folders.items → AreLed arena image entries names l.fn.walk.noted before l.fn.walk.folders.items → AreLed arena image entries names l.walk.noted before l.walk.folders.items;
  reached : (arena : Arena) (device : List Block) (image : Image) (s : Super) (k : Kept) (rest : List Step) → Shows (g.D.Reads.state l.fn.main).holds device → Walking arena device image s k rest l.fn.walk → (at : ℕ) (m : Label) → Reached l.fn.walk.labels.known.items at m → Reached l.walk.labels.known.items at m;
  news : (arena : Arena) (device : List Block) (image : Image) (s : Super) (k : Kept) (meta : Link) (rest : List Step) (before : List Known) → Shows (g.D.Reads.state l.fn.main).holds device → Walking arena device image s k rest l.fn.walk
      → IsListing arena image k meta l.fn.walk.labels.known.items l.fn.walk.steps.items l.fn.walk.named.items → AreFresh before l.fn.walk.labels.known.items l.fn.walk.named.items → AreFresh before l.walk.labels.known.items l.walk.named.items;
  eight : (arena : Arena) (device : List Block) (image : Image) (s : Super) (k : Kept) (rest : List Step) (numbers : ℕ) → Shows (g.D.Reads.state l.fn.main).holds device → Walking arena device image s k rest l.fn.walk → (8 < level l.fn.walk.noted → AreBelow arena image k l.depth l.fn.walk.steps.items)
      → HasSources arena image k numbers l.fn.walk.noted l.fn.walk.folders.items → (8 < level l.walk.noted → AreBelow arena image k l.depth l.walk.steps.items) × HasSources arena image k numbers l.walk.noted l.walk.folders.items;
  unnamed : (arena : Arena) (device : List Block) (image : Image) (s : Super) (k : Kept) (rest : List Step) → Shows (g.D.Reads.state l.fn.main).holds device → Walking arena device image s k rest l.fn.walk → l.named ≡ false → GrowsUnnamed l.fn.walk.folders.items l.walk.folders.items;
  six : (device : List Block) (image : Image) → Shows (g.D.Reads.state l.fn.main).holds device → KeepsPairs l.fn.walk.noted l.walk.noted;
  spread : (arena : Arena) (device : List Block) (image : Image) (s : Super) (k : Kept) (w : Link) (deep : ℕ) (rest : List Step) → Shows (g.D.Reads.state l.fn.main).holds device → Walking arena device image s k rest l.fn.walk → deep ≡ min (l.depth + 1) (2 ^ 32 - 1)
      → AreSpread arena image k w deep l.fn.walk.noted l.fn.walk.steps.items l.fn.walk.folders.items → AreSpread arena image k w deep l.walk.noted l.walk.steps.items l.walk.folders.items;
  grows : (arena : Arena) (device : List Block) (image : Image) (s : Super) (k : Kept) (rest : List Step) → Shows (g.D.Reads.state l.fn.main).holds device → Walking arena device image s k rest l.fn.walk → Grows l.fn.walk.folders.items l.walk.folders.items;
  blocks : l.walk.blocks ≡ l.fn.walk.blocks;
  low : level l.walk.noted ≤ level l.fn.walk.noted;
  size : g.D.Reads.size l.main ≡ l.walk.blocks;
  same : g.D.Reads.size l.main ≡ g.D.Reads.size l.fn.main;
  kept : g.D.Reads.state l.main ≡ g.D.Reads.state l.fn.main;
  later : g.D.Reads.faults l.fn.main ≤ g.D.Reads.faults l.main;
  reads : (g.D.Reads.calls l.main + l.walk.labels.left ≤ g.D.Reads.calls l.fn.main + l.fn.walk.labels.left) × (length l.walk.labels.known.items ≡ length l.fn.walk.labels.known.items);
  once : g.D.Reads.reads l.main + left_at g.D.Reads.watched l.walk.labels.known.items ≤ g.D.Reads.reads l.fn.main + left_at g.D.Reads.watched l.fn.walk.labels.known.items;
  budget : 205 * l.walk.labels.left + length l.walk.folders.items ≤ 205 * l.fn.walk.labels.left + length l.fn.walk.folders.items;
}

abbrev pub decreases-loop-step : goal.decreases-loop-step
decreases-loop-step g l = 410 * l.walk.labels.left + length l.walk.steps.items
