-- The lines that the tools print, each ended by a newline (flfmt and flchk of fossil(4)).
use Rattle.std.specs.Prelude.{ℕ, ◌-◌, List, ◌++◌, take, Option, codes}
use Rattle.std.specs.Fmt.{decimal}
use Rattle.fo_links.specs.Links.{GainsEnd}
use Rattle.fo_image.specs.Place.{first_data}
use Rattle.fo_check_image.specs.declared.report.Report.{Report}

-- formatted <blocks> blocks <data blocks> data
abbrev pub format_line : ℕ → List ℕ
format_line blocks = codes "formatted " ++ decimal blocks ++ codes " blocks " ++ decimal (blocks - first_data blocks) ++ codes " data\n"

-- sound <blocks> blocks <used> used <leaked> leaked <snapshots> snapshots
abbrev pub report_line : Report → List ℕ
report_line r = codes "sound " ++ decimal r.blocks ++ codes " blocks " ++ decimal r.used ++ codes " used " ++ decimal r.leaked ++ codes " leaked " ++ decimal r.snapshots ++ codes " snapshots\n"

-- a front of the line was put
pub record PutsFront (line : List ℕ) (held held' : Option (List ℕ)) : Type 0 where
  pub put : ℕ
  pub told : GainsEnd (take put line) held held'
