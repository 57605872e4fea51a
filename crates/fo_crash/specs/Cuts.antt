-- Images as cuts of the history of memory: each slot and each block's bytes at a moment of its own, with some orders between them.
use Rattle.std.specs.Prelude.{◌≡◌, ℕ, ◌≤◌}
use Rattle.fo_crash.specs.Images.{Image}

-- what is settled, and which orders stand
pub record Order : Type 1 where
  -- an image has each slot and the bytes of each block from this moment on
  pub slot_from : ℕ → ℕ → ℕ
  pub bytes_from : ℕ → ℕ
  -- Waits leaf t on j u: bytes of `leaf` from moment t on are in an image only with slot j of `on` from moment u on
  pub Waits : ℕ → ℕ → ℕ → ℕ → ℕ → Type 0
  -- After at i t leaf u: slot i of `at` from moment t on is in an image only with the bytes of `leaf` from moment u on
  pub After : ℕ → ℕ → ℕ → ℕ → ℕ → Type 0

-- The orders speak of moments up to n.
pub record IsUpTo (n : ℕ) (o : Order) : Type 0 where
  pub slots : (b i : ℕ) → o.slot_from b i ≤ n
  pub bytes : (b : ℕ) → o.bytes_from b ≤ n
  pub waits : (leaf t on j u : ℕ) → o.Waits leaf t on j u → u ≤ n
  pub after : (at i t leaf u : ℕ) → o.After at i t leaf u → u ≤ n

-- One has all that another has.
pub record IsStricter (new old : Order) : Type 0 where
  pub slots : (b i : ℕ) → old.slot_from b i ≤ new.slot_from b i
  pub bytes : (b : ℕ) → old.bytes_from b ≤ new.bytes_from b
  pub waits : (leaf t on j u : ℕ) → old.Waits leaf t on j u → new.Waits leaf t on j u
  pub after : (at i t leaf u : ℕ) → old.After at i t leaf u → new.After at i t leaf u

-- An image is a cut of the history up to moment n.
pub record IsCut (memory : ℕ → Image) (n : ℕ) (o : Order) (image : Image) : Type 0 where
  pub slot_at : ℕ → ℕ → ℕ
  pub bytes_at : ℕ → ℕ
  pub slots : (b i : ℕ) → (image b).slot i ≡ (memory (slot_at b i) b).slot i
  pub bytes : (b : ℕ) → (image b).bytes ≡ (memory (bytes_at b) b).bytes
  pub slots_up_to : (b i : ℕ) → slot_at b i ≤ n
  pub bytes_up_to : (b : ℕ) → bytes_at b ≤ n
  pub slots_from : (b i : ℕ) → o.slot_from b i ≤ slot_at b i
  pub bytes_from : (b : ℕ) → o.bytes_from b ≤ bytes_at b
  pub waits : (leaf t on j u : ℕ) → o.Waits leaf t on j u → t ≤ bytes_at leaf → u ≤ slot_at on j
  pub after : (at i t leaf u : ℕ) → o.After at i t leaf u → t ≤ slot_at at i → u ≤ bytes_at leaf
