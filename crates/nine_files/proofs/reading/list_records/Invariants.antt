use Rattle.std.proofs.Common.{◌≡◌, ◌-◌, length}
use Rattle.nine_fids.specs.Told.{served}
use Rattle.nine_files.proofs.Listing.{Given}
use Rattle.nine_files.proofs.reading.list_records.Given as goal

abbrev pub invariant-records : goal.invariant-records
invariant-records g l = record {
  given : Given (g.F.FileOps.honest l.fn.files) (served (g.F.FileOps.whole l.fn.files) (g.F.FileOps.largest l.fn.files)) (g.F.FileOps.world l.fn.files) l.at l.fn.after l.count l.given.bytes.items l.given.last;
  world : g.F.FileOps.honest l.fn.files → g.F.FileOps.world l.files ≡ g.F.FileOps.world l.fn.files;
  keeps : g.F.FileOps.keeps l.fn.files l.files;
}

-- each record has bytes
abbrev pub decreases-records : goal.decreases-records
decreases-records g l = l.count - length l.given.bytes.items
