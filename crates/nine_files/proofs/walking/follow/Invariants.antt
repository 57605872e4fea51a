use Rattle.std.proofs.Common.{◌≡◌, ◌≤◌, drop, length}
use Rattle.nine_fids.specs.Told.{served}
use Rattle.nine_files.specs.Walking.{walked_by}
use Rattle.nine_files.proofs.Walks.{behind}
use Rattle.nine_files.proofs.walking.follow.Given as goal

abbrev pub invariant-loop-name : goal.invariant-loop-name
invariant-loop-name g l =
    let e = served (g.F.FileOps.whole l.fn.files) (g.F.FileOps.largest l.fn.files) in
    let w = g.F.FileOps.world l.fn.files in
    record {
      comes : g.F.FileOps.honest l.fn.files → walked_by l.users e w l.user l.names l.fn.from ≡ behind l.qids.items (walked_by l.users e w l.user (drop l.name-index l.names) l.last);
      passed : length l.qids.items ≡ l.name-index;
      within : l.name-index ≤ length l.names;
      world : g.F.FileOps.honest l.fn.files → g.F.FileOps.world l.files ≡ g.F.FileOps.world l.fn.files;
      keeps : g.F.FileOps.keeps l.fn.files l.files;
    }
