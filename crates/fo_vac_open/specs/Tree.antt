-- The tree of an archive: its epoch and time, and the plain tree below its top block.
use Rattle.std.specs.Prelude.{ℕ, List}
use Rattle.fo_image.specs.declared.types.ArenaLine.{ArenaLine}
use Rattle.fo_crash.specs.declared.slot.Slot.TheVariants.{Entry as Head}
use Rattle.fo_crash.specs.Images.{Image, Arena, Link, kind_of_top, nothing}
use Rattle.fo_world.specs.declared.tree.Node.{Node}
use Rattle.fo_world.specs.declared.tree.Tree.{Tree}
use Rattle.fo_world.specs.declared.tree.Body.TheVariants.{Dir}
use Rattle.fo_world.specs.Tree.{node_of}
use Rattle.fo_world.specs.World.{Archive}
use Rattle.fo_good.specs.Reading.{stat_in, dir_in, levels}
use Rattle.fo_vacput.specs.declared.types.VacEntry.{VacEntry}
use Rattle.fo_vacput.specs.declared.types.VacTop.{VacTop}
use Rattle.fo_vac_open.specs.Held.{entry_for, arena_of}
use Rattle.fo_vac_open.specs.declared.types.Archived.{Archived}

-- no block of a main device is part of an archive
abbrev pub no_image : Image
no_image = λ at. nothing

-- the way from a top block to one of its sources
abbrev pub link_to : VacEntry → Link
link_to e = record { kind = kind_of_top (Head (entry_for e)); slot = Head (entry_for e) }

abbrev pub top_node : Arena → VacTop → Node
top_node arena top = node_of (stat_in top.own) (Dir (dir_in levels arena no_image (link_to top.entries) (link_to top.meta)))

abbrev pub top_tree : Arena → VacTop → Tree
top_tree arena top = record { root = top_node arena top }

-- the archive of this score, as a world has it
abbrev pub archive_of : List ArenaLine → List (List ℕ) → List ℕ → Archived → Archive
archive_of lines stored score a = record { epoch = a.root.epoch; time = a.root.time; score = score; tree = top_tree (arena_of lines stored) a.top }
