-- Each block of a disk in memory has a version, and all versions are whole blocks of bytes.
use Rattle.std.proofs.Common.{◌≡◌, ℕ, zero, suc, ◌<◌, ◌+◌, List, [], ◌∷◌, length, get_or, map, sym, ◌∙◌, ap, arith, length-drop}
use Rattle.std.proofs.lemmas.List.{get_or-drop, length-map}
use Rattle.std.specs.List.{Contains}
use Rattle.fo_disk.specs.Disk.{Block, versions_of, AreBytes, IsContent}
use Rattle.fo_disk.specs.Memory.{bytes_of, cell_of, cells_of, versions_in, content_of, holds_of}
use Rattle.fo_disk.specs.declared.memory.Version.{Version}
use Rattle.fo_disk.specs.declared.memory.Cell.{Cell}
use Rattle.fo_disk.specs.declared.memory.MemDisk.{MemDisk}

some : (cells : List Cell) (k : ℕ) → k < length cells → 0 < length (versions_of (content_of (cells_of cells)) k)
some [] k lt = absurd (omega arith)
some (cell ∷ cells) zero lt = omega (arith, length-drop cell.from (map bytes_of cell.all.items), length-map cell.all.items bytes_of, cell.some)
some (cell ∷ cells) (suc k) lt = some cells k (omega arith)

whole_at : (versions : List Version) (k : ℕ) (b : Block) → k < length (map bytes_of versions) → get_or (map bytes_of versions) k b ≡ b → length b ≡ 8192
whole_at [] k b lt is = absurd (omega arith)
whole_at (v ∷ versions) zero b lt is = ap length (sym is) ∙ v.whole
whole_at (v ∷ versions) (suc k) b lt is = whole_at versions k b (omega arith) is

whole : (cells : List Cell) (k : ℕ) (b : Block) → k < length cells → Contains (versions_of (content_of (cells_of cells)) k) b → length b ≡ 8192
whole [] k b lt has = absurd (omega arith)
whole (cell ∷ cells) zero b lt (j, within, is) = whole_at cell.all.items (cell.from + j) b (omega (arith, length-drop cell.from (map bytes_of cell.all.items))) (sym (get_or-drop cell.from (map bytes_of cell.all.items) j b) ∙ is)
whole (cell ∷ cells) (suc k) b lt has = whole cells k b (omega arith) has

pub is_content : (m : MemDisk) → IsContent (length m.cells.items) (holds_of m)
is_content m = record {
  count = length-map (cells_of m.cells.items) versions_in ∙ length-map m.cells.items cell_of;
  some = λ k lt. some m.cells.items k lt;
  whole = λ k b lt has. whole m.cells.items k b lt has;
}

small_at : (versions : List Version) (k : ℕ) (b : Block) (i : ℕ) → k < length (map bytes_of versions) → get_or (map bytes_of versions) k b ≡ b → get_or b i 0 < 256
small_at [] k b i lt is = absurd (omega arith)
small_at (v ∷ versions) zero b i lt is = let e = ap (λ (x : Block). get_or x i 0) is in let lt = v.small i in omega (arith, e, lt)
small_at (v ∷ versions) (suc k) b i lt is = small_at versions k b i (omega arith) is

small : (cells : List Cell) (k : ℕ) (b : Block) (i : ℕ) → Contains (versions_of (content_of (cells_of cells)) k) b → get_or b i 0 < 256
small [] k b i has = absurd (omega (arith, has.1))
small (cell ∷ cells) zero b i (j, within, is) = small_at cell.all.items (cell.from + j) b i (omega (arith, length-drop cell.from (map bytes_of cell.all.items))) (sym (get_or-drop cell.from (map bytes_of cell.all.items) j b) ∙ is)
small (cell ∷ cells) (suc k) b i has = small cells k b i has

pub are_bytes : (m : MemDisk) → AreBytes (holds_of m)
are_bytes m = record { each = λ at b i has. small m.cells.items at b i has }

pub has_flags : (m : MemDisk) → length m.unsure.items ≡ length (holds_of m)
has_flags m = m.flags ∙ sym (length-map (cells_of m.cells.items) versions_in ∙ length-map m.cells.items cell_of)
