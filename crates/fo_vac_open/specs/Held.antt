-- What an arena holds, as a function: the blocks of an archive, read by their scores alone.
use Rattle.std.specs.Prelude.{ℕ, ◌+◌, ◌*◌, ◌/◌, ◌%◌, ◌^◌, ◌&&◌, zero, suc, nat_eq, nat_lt, List, [], ◌∷◌, take, drop, slice_index_or, if◌then◌else◌}
use Rattle.std.specs.Str.{bytes_eq}
use Rattle.sha1.specs.Sha1.{sha1}
use Rattle.fo_image.specs.declared.types.Score.{Score}
use Rattle.fo_image.specs.declared.types.Kind.{Kind}
use Rattle.fo_image.specs.declared.types.Kind.TheVariants.{Data, Dir, Root}
use Rattle.fo_image.specs.declared.types.Pointer.{Pointer}
use Rattle.fo_image.specs.declared.types.Pointer.TheVariants.{Nil, Score as ToScore}
use Rattle.fo_image.specs.declared.types.Entry.{Entry}
use Rattle.fo_image.specs.declared.types.ArenaLine.{ArenaLine}
use Rattle.fo_image.specs.Field.{Two, Four, number_at}
use Rattle.fo_image.specs.Format.{kind_code}
use Rattle.fo_crash.specs.declared.slot.Slot.{Slot}
use Rattle.fo_crash.specs.declared.slot.Slot.TheVariants.{Pointer as To, Entry as Head}
use Rattle.fo_crash.specs.Images.{Arena}
use Rattle.fo_vacput.specs.declared.types.TheConstants.{EMPTY}
use Rattle.fo_vacput.specs.declared.types.VacEntry.{VacEntry}
use Rattle.fo_vacput.specs.Cut.{tail_of, grown}

-- the bytes of the first place with this score and this kind
unfoldable pub first_held : List ArenaLine → List (List ℕ) → List ℕ → ℕ → List ℕ
first_held [] stored score kind = []
first_held (line ∷ lines) stored score kind = if bytes_eq line.score.0 score && nat_eq line.kind kind then slice_index_or stored 0 [] else first_held lines (drop 1 stored) score kind

-- the bytes that are held under a score and a kind; the empty block is held for every kind
abbrev pub held : List ArenaLine → List (List ℕ) → List ℕ → ℕ → List ℕ
held lines stored score kind = if bytes_eq score (sha1 []) then [] else first_held lines stored score kind

-- ---- slots of an archived block

-- a pointer is a score; that of the empty block is nil
abbrev pub pointer_to : List ℕ → Pointer
pointer_to score = if bytes_eq score EMPTY.0 then Nil else ToScore (record { 0 = score })

-- an archived entry as a slot; no archive has tags
abbrev pub entry_for : VacEntry → Entry
entry_for e = record { generation = e.generation; active = e.active; dir = e.dir; depth = e.depth; tag = 0; size = e.size; top = if e.active then pointer_to e.score.0 else Nil }

-- the entry that these 40 bytes spell
abbrev pub entry_in : List ℕ → VacEntry
entry_in bytes = record {
  generation = number_at Four 0 bytes;
  active = nat_eq (slice_index_or bytes 8 0 % 2) 1;
  dir = nat_eq (slice_index_or bytes 8 0 / 2 % 2) 1;
  depth = slice_index_or bytes 8 0 / 4;
  size = number_at Two 14 bytes * 2 ^ 32 + number_at Four 16 bytes;
  score = record { 0 = take 20 (drop 20 bytes) };
}

abbrev pub pointer_slot : List ℕ → ℕ → Slot
pointer_slot block i = if nat_lt i 409 then To (pointer_to (take 20 (drop (20 * i) block))) else To Nil

abbrev pub entry_slot : List ℕ → ℕ → Slot
entry_slot block i = if nat_lt i 204 then Head (entry_for (entry_in (take 40 (drop (40 * i) block)))) else To Nil

-- slot i of a block of this kind
abbrev pub slot_in : Kind → List ℕ → ℕ → Slot
slot_in (Data zero) block i = To Nil
slot_in (Data (suc level)) block i = pointer_slot block i
slot_in (Dir zero) block i = entry_slot block i
slot_in (Dir (suc level)) block i = pointer_slot block i
slot_in Root block i = To Nil

-- the block that is made again of what is held
abbrev pub block_held : List ArenaLine → List (List ℕ) → ℕ → Score → List ℕ
block_held lines stored kind score = grown (tail_of kind) 8192 (held lines stored score.0 kind)

-- what is held, read as the kind that leads to it
abbrev pub arena_of : List ArenaLine → List (List ℕ) → Arena
arena_of lines stored kind score = record { bytes = block_held lines stored (kind_code kind) score; slot = slot_in kind (block_held lines stored (kind_code kind) score) }
