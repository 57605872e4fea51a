-- The two sides: what an image shows, and what an arena holds of it.
use Rattle.std.proofs.Common.{◌≡◌, ◌⊎◌, ℕ, ◌≤◌, Bool, true, cond, List, []}
use Rattle.std.specs.Prelude.{length, Some}
use Rattle.fo_disk.specs.Disk.{Block}
use Rattle.fo_image.specs.declared.types.Score.{Score}
use Rattle.fo_image.specs.declared.types.Entry.{Entry}
use Rattle.fo_image.specs.declared.types.Kind.{Kind}
use Rattle.fo_image.specs.declared.types.Kind.TheVariants.{Data, Dir}
use Rattle.fo_image.specs.declared.types.Pointer.TheVariants.{Nil, Local, Score as ToScore}
use Rattle.fo_image.specs.declared.types.ArenaLine.{ArenaLine}
use Rattle.fo_image.specs.Format.{kind_code, KindHolds}
use Rattle.fo_crash.specs.declared.slot.Slot.{Slot}
use Rattle.fo_crash.specs.declared.slot.Slot.TheVariants.{Entry as Head}
use Rattle.fo_crash.specs.Images.{Image, Arena, Content, Link, target, meant, step, goes}
use Rattle.fo_sound.specs.Image.{block_of}
use Rattle.fo_good.specs.Means.{IsRead}
use Rattle.fo_vacput.specs.Cut.{tail_of, grown}
use Rattle.fo_vac_open.specs.Held.{held, pointer_to, arena_of}
use Rattle.fo_vac_open.specs.Laws.{AreApart}
use Rattle.fo_vac_open.specs.Tree.{no_image, link_to}
use Rattle.fo_arch_hash.specs.Form.{archived}
use Rattle.fo_arch_form.specs.declared.stored.Stored.{Stored}
use Rattle.fo_arch_form.specs.Stored.{score_under}
use Rattle.fo_arch_form.specs.Entries.{code_of}
use Rattle.fo_arch_walk.specs.Forms.{IsForm}
use Rattle.fo_arch_walk.specs.Spots.{arena_code}
use Rattle.fo_arch_tree.specs.Forms.{StoresForms}

pub record Sides : Type 0 where
  pub arena : Arena
  pub device : List Block
  pub image : Image
  pub done : Stored
  pub lines : List ArenaLine
  pub stored : List (List ℕ)

pub record Holds (s : Sides) : Type 0 where
  pub apart : AreApart s.lines
  pub forms : StoresForms s.done s.image s.lines s.stored

-- what the arena holds, read by scores alone
abbrev pub archive : Sides → Arena
archive s = arena_of s.lines s.stored

-- what a pointer to a block of this kind means on each side
abbrev pub shown : Sides → Kind → Slot → Content
shown s kind slot = meant s.arena s.image kind (target slot)

abbrev pub read_back : Sides → Kind → Slot → Content
read_back s kind slot = meant (archive s) no_image kind (target slot)

-- one slot down, and along a path
abbrev pub down : Sides → Link → ℕ → Link
down s w i = step s.arena s.image w i

abbrev pub down_back : Sides → Link → ℕ → Link
down_back s v i = step (archive s) no_image v i

abbrev pub along : Sides → Link → List ℕ → Link
along s w path = goes s.arena s.image w path

abbrev pub along_back : Sides → Link → List ℕ → Link
along_back s v path = goes (archive s) no_image v path

abbrev pub link : Kind → Slot → Link
link kind slot = record { kind = kind; slot = slot }

-- the kind of a block of a source, by its level
abbrev pub kind_at : Bool → ℕ → Kind
kind_at dir level = cond dir (Dir level) (Data level)

-- the slots name the same block: the archive's by the score under which it was stored
pub record Alike (s : Sides) (kind : Kind) (here there : Slot) : Type 0 where
  pub holds : KindHolds kind
  pub code_is : arena_code kind ≡ kind_code kind
  pub score : Score
  pub known : score_under s.done (arena_code kind) (target here) ≡ Some score
  pub leads : target there ≡ pointer_to score.0

-- the block is in the image, and its form is held; the empty block is nowhere
pub record HeldAt (s : Sides) (kind : Kind) (here there : Slot) (at : ℕ) : Type 0 where
  pub leads : target here ≡ Local at
  pub form : List ℕ
  pub is : IsForm s.done kind (s.image at) form
  pub bytes : List ℕ
  pub again : grown (tail_of (kind_code kind)) (length form) bytes ≡ form
  pub found : ((target there ≡ Nil) × (bytes ≡ [])) ⊎ ((score : Score) × (target there ≡ ToScore score) × (held s.lines s.stored score.0 (kind_code kind) ≡ bytes))

abbrev pub Finds : Sides → Kind → Slot → Slot → Type 0
Finds s kind here there = ((target here ≡ Nil) × (target there ≡ Nil)) ⊎ ((at : ℕ) × HeldAt s kind here there at)

-- below this link no pointer is a score, and the blocks are of their formats
pub record IsClean (s : Sides) (w : Link) : Type 0 where
  pub none : (path : List ℕ) (score : Score) → target ((along s w path).slot) ≡ ToScore score → ⊥
  pub read : (path : List ℕ) (at : ℕ) → target ((along s w path).slot) ≡ Local at → IsRead ((along s w path).kind) (s.image at) (block_of s.device at)

-- both links lead to a block of this level
pub record AreBoth (s : Sides) (dir : Bool) (level : ℕ) (w v : Link) : Type 0 where
  pub here : w.kind ≡ kind_at dir level
  pub there : v.kind ≡ kind_at dir level
  pub alike : Alike s (kind_at dir level) w.slot v.slot

-- the link to the source of an entry
abbrev pub source : Entry → Link
source e = record { kind = kind_at e.dir e.depth; slot = Head e }

-- the links lead to an entry in use, and to its archived entry
pub record AreEntries (s : Sides) (e : Entry) (w v : Link) : Type 0 where
  pub here : w ≡ source e
  pub active : e.active ≡ true
  pub shallow : e.depth ≤ 4
  pub score : Score
  pub known : score_under s.done (code_of e) e.top ≡ Some score
  pub there : v ≡ link_to (archived e score)
