-- The data of a file.
use Rattle.std.specs.Prelude.{◌≡◌, ◌+◌, ◌*◌, ◌/◌, ◌^◌, ◌<◌, ℕ, true, false, max}
use Rattle.fo_image.specs.declared.types.Entry.{Entry}
use Rattle.fo_crash.specs.declared.slot.Slot.TheVariants.{Entry as Head}
use Rattle.fo_ports.specs.State.{State}
use Rattle.fo_tree_read.specs.declared.tree.Tree.{Tree}
use Rattle.fo_tree.specs.declared.source.Source.{Source}
use Rattle.fo_tree_look.specs.Source.{Over, Prepared, form_of}
use Rattle.fo_tree_trim.specs.of_tree_down.Clear.{EndsClear}
use Rattle.fo_tree_shorten.specs.Shorten.{EntryAt}
use Rattle.fo_files_dir.specs.declared.dir.FileAt.{FileAt}

-- The entry of a file's data stands there, in use, of this generation, and says this length.
pub record HasData (s : State) (file : FileAt) (generation size : ℕ) : Type 0 where
  pub entry : Entry
  pub is : (s.now file.at).slot file.slot ≡ Head entry
  pub generation_is : entry.generation ≡ generation
  pub used : entry.active ≡ true
  pub is_data : entry.dir ≡ false
  pub tagged : entry.tag ≡ 32 + 2 * file.number
  pub long : entry.size ≡ size

-- how many blocks so many bytes of a file touch at most: a leaf for each 8192 bytes, blocks of pointers above these, and three ways
abbrev pub most_of : ℕ → ℕ
most_of n = n / 8192 + n / 2 ^ 21 + 15

-- A source is another at another time: of the same kind, tag, rank and length.
pub record SameData (t new : Tree) : Type 0 where
  pub dir : new.dir ≡ t.dir
  pub tag : new.tag ≡ t.tag
  pub rank : new.rank ≡ t.rank
  pub size : new.size ≡ t.size

-- A piece of n bytes was put into a file's data, the source whose entry stood there was prepared for it, and nothing was
-- named behind its end where it had to grow. The one whose entry stands there then is of the same form, and prepared there.
pub record PutsPiece (m u : State) (file : FileAt) (offset n : ℕ) : Type 0 where
  pub before : Source
  pub after : Source
  pub entry_was : EntryAt m before.ways.tree before.ways.generation file.at file.slot
  pub over_was : Over m before.ways.tree before.ways.kept.items before.ways.limit
  pub prepared : Prepared m before.ways.tree before.ways.kept.items before.ways.limit offset n
  pub clear : before.ways.tree.size < offset + n → EndsClear m before.ways.tree before.ways.kept.items
  pub entry : EntryAt u after.ways.tree after.ways.generation file.at file.slot
  pub over : Over u after.ways.tree after.ways.kept.items after.ways.limit
  pub form : form_of after.ways.tree after.ways.generation after.ways.limit ≡ form_of before.ways.tree before.ways.generation before.ways.limit
  pub size : after.ways.tree.size ≡ max before.ways.tree.size (offset + n)
  pub still : Prepared u after.ways.tree after.ways.kept.items after.ways.limit offset n
