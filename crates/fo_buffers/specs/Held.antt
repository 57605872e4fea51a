-- What is held in memory.
use Rattle.std.specs.Prelude.{◌≡◌, ℕ, Bool, true, false, not, ◌-◌, ◌+◌, List, ◌++◌, length, take, drop, nat_eq, Option, refl}
use Rattle.std.specs.Option.{option_map_or}
use Rattle.std.specs.Ordering.{nat_cmp}
use Rattle.std.specs.Map.{remove_entry}
use Rattle.std.specs.FinMap.{FinMap, get, insert, remove, code}
use Rattle.std.specs.Coded.{Coded, code_by, coded×, coded_list, coded_ℕ, coded_bool}
use Rattle.fo_buffers.specs.declared.block.Buffer.{Buffer}

-- The blocks that are held; clean ones with their bytes, the last used first; and how many calls that take a buffer or a pin need no
-- memory.
pub record Held : Type 0 where
  pub held : FinMap nat_cmp Buffer
  pub clean : List (ℕ × List ℕ)
  pub room : ℕ

abbrev pub buffer_code : Coded Buffer
buffer_code =
    code_by (List ℕ × (Bool × Bool)) (coded× (coded_list coded_ℕ) (coded× coded_bool coded_bool))
    (λ b. (b.block, (b.dirty, b.pinned))) (λ p. record { block = p.0; dirty = p.1.0; pinned = p.1.1 }) (λ _. refl)

abbrev pub held_code : Coded Held
held_code =
    code_by (FinMap nat_cmp Buffer × (List (ℕ × List ℕ) × ℕ)) (coded× (code coded_ℕ buffer_code) (coded× (coded_list (coded× coded_ℕ (coded_list coded_ℕ))) coded_ℕ))
    (λ h. (h.held, (h.clean, h.room))) (λ p. record { held = p.0; clean = p.1.0; room = p.1.1 }) (λ _. refl)

abbrev pub buffer_of : List ℕ → Bool → Bool → Buffer
buffer_of bytes dirty pinned = record { block = bytes; dirty = dirty; pinned = pinned }

-- what is held of a block
abbrev pub held_at : Held → ℕ → Option Buffer
held_at h at = get h.held at

-- this is held of a block from now on
abbrev pub put : Held → ℕ → Buffer → Held
put h at b = record h { held = insert h.held at b }

-- the block is no longer among the clean ones
abbrev pub unlisted : Held → ℕ → Held
unlisted h at = record h { clean = remove_entry (nat_eq at) h.clean }

-- one unit of room is used
abbrev pub used : Held → Held
used h = record h { room = h.room - 1 }

-- of a held block this is held from now on
abbrev pub updated : Held → ℕ → (Buffer → Buffer) → Held
updated h at f = option_map_or (λ b. put h at (f b)) (held_at h at) h

abbrev pub with_bytes : ℕ → List ℕ → Buffer → Buffer
with_bytes from bytes b = record b { block = take from b.block ++ bytes ++ drop (from + length bytes) b.block; dirty = true }

abbrev pub itself : Buffer → Buffer
itself b = b

abbrev pub settled : Buffer → Buffer
settled b = record b { dirty = false }

abbrev pub pinned_as : Bool → Buffer → Buffer
pinned_as pinned b = record b { pinned = pinned }

-- the block is no longer held
abbrev pub cut : Held → ℕ → Held
cut h at = record h { held = remove h.held at }

abbrev pub block_in : Buffer → List ℕ
block_in b = b.block

abbrev pub is_dirty : Buffer → Bool
is_dirty b = b.dirty

abbrev pub is_pinned : Buffer → Bool
is_pinned b = b.pinned

abbrev pub is_free : Buffer → Bool
is_free b = not b.pinned

-- a block is held and pinned
pub record IsPinned (h : Held) (at : ℕ) : Type 0 where
  pub is : option_map_or is_pinned (held_at h at) false ≡ true
