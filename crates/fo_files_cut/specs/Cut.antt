-- The data of a file gets another length.
use Rattle.std.specs.Prelude.{◌≡◌, ◌+◌, ◌*◌, ◌^◌, ◌<◌, ℕ, false, List}
use Rattle.fo_image.specs.declared.types.Entry.{Entry}
use Rattle.fo_crash.specs.declared.slot.Slot.TheVariants.{Entry as Head}
use Rattle.fo_ports.specs.Causes.{Caused}
use Rattle.fo_ports.specs.State.{State, Looks}
use Rattle.fo_tree_read.specs.declared.tree.Tree.{Tree}
use Rattle.fo_tree_look.specs.declared.ways.Kept.{Kept}
use Rattle.fo_tree_open.specs.Open.{IsFit}
use Rattle.fo_files_write.specs.of_tree_shorten.Shorten.{EntryAt}
use Rattle.fo_tree_set.specs.Set.{SetsBy}
use Rattle.fo_files_dir.specs.declared.dir.FileAt.{FileAt}
use Rattle.fo_files_cut.specs.declared.error.CutError.{CutError}
use Rattle.fo_files_cut.specs.declared.error.CutError.TheVariants.{TooBig, Blocks}

-- The entry of a file's data stands there: in use, of the file's tag, no longer than a file may get, and not waiting to be cleared; and the
-- block with it is of another tag.
pub record IsData (s : State) (file : FileAt) : Type 0 where
  pub entry : Entry
  pub is : (s.now file.at).slot file.slot ≡ Head entry
  pub still : s.clearing file.at file.slot → ⊥
  pub fit : IsFit entry (32 + 2 * file.number) (2 ^ 40)
  pub plain : entry.dir ≡ false
  pub few : file.number < 2 ^ 30
  pub apart : (s.label file.at).tag ≡ 32 + 2 * file.number → ⊥

-- An entry is of the use that it was of.
abbrev pub KeepsUse : State → State → (at k : ℕ) → Type 0
KeepsUse s u at k = (e : Entry) → (s.now at).slot k ≡ Head e → (f : Entry) × ((u.now at).slot k ≡ Head f) × (f.generation ≡ e.generation) × (f.active ≡ e.active) × (f.dir ≡ e.dir) × (f.tag ≡ e.tag)

-- The data was opened from its entry, the blocks on the way to the last leaf that stays were looked at, and its length was set.
pub record CutsBy (B : Type 0) (state : B → State) (old new : B) (file : FileAt) (len : ℕ) : Type 0 where
  pub was : Tree
  pub now : Tree
  pub kept : List Kept
  pub generation : ℕ
  pub stood : EntryAt (state old) was generation file.at file.slot
  pub stands : EntryAt (state new) now generation file.at file.slot
  pub tagged : was.tag ≡ 32 + 2 * file.number
  pub looked : B
  pub looks : Looks (state old) (state looked)
  pub sets : SetsBy B state looked new was now kept generation file.at file.slot len

-- Why a length is refused; want of memory needs no cause.
abbrev pub CutCaused : (too_big : Type 0) (damaged : ℕ → Type 0) (fault arena : Type 0) → CutError → Type 0
CutCaused too_big damaged fault arena TooBig = too_big
CutCaused too_big damaged fault arena (Blocks why) = Caused ⊥ damaged fault arena why
