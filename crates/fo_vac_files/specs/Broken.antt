-- Directories of an archive, and what is broken of one that is open.
use Rattle.std.specs.Prelude.{◌≡◌, ℕ, ◌*◌, ◌+◌, true}
use Rattle.fo_image.specs.declared.record.Record.{Record}
use Rattle.fo_crash.specs.Images.{Link}
use Rattle.fo_world.specs.Step.{is_dir_mode}
use Rattle.fo_vacput.specs.declared.types.VacTop.{VacTop}
use Rattle.fo_vac_open.specs.Tree.{link_to}
use Rattle.fo_vac_walk.specs.Walk.{Holding, entry_at, Breaks}
use Rattle.fo_vac_dir.specs.Dir.{IsAmong, records_of, BadLeaf}
use Rattle.fo_vac_files.specs.declared.opened.Opened.{Opened}

-- the entries and the records of a directory of the archive: of the root directory, or of one below
pub data IsFolder (h : Holding) (top : VacTop) : Link → Link → Type 0 where
  first : IsFolder h top (link_to top.entries) (link_to top.meta)
  below : (entries meta : Link) (r : Record) → IsFolder h top entries meta → IsAmong (records_of h meta) r → is_dir_mode r.mode ≡ true → IsFolder h top (entry_at h entries (2 * r.slot)) (entry_at h entries (2 * r.slot + 1))

-- What is broken of an archive that is open: a block of a source below its top block, or a leaf of a directory.
pub data IsBroken (h : Holding) (o : Opened) (at : ℕ) : Type 0 where
  in_entries : Breaks h o.root.entries.holder (link_to o.found.top.entries) at → IsBroken h o at
  in_meta : Breaks h o.root.meta.holder (link_to o.found.top.meta) at → IsBroken h o at
  in_leaf : (entries meta : Link) (holder : ℕ) → IsFolder h o.found.top entries meta → BadLeaf h meta holder at → IsBroken h o at
