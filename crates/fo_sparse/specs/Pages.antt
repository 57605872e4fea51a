-- The bytes that pages of 4096 bytes, kept by their numbers, stand for.
use Rattle.std.specs.Prelude.{◌≡◌, ℕ, ◌+◌, ◌*◌, ◌/◌, ◌%◌, ◌^◌, ◌<◌, ◌≤◌, List, [], length, map, slice_index, unwrap_or, IsSome, None}
use Rattle.std.specs.List.{range_with_len}
use Rattle.std.specs.Ordering.{nat_cmp}
use Rattle.std.specs.BTreeMap.{BTreeMap, get}

-- the byte at a place: 0 where no page is kept
abbrev pub byte_at : BTreeMap ℕ (List ℕ) → ℕ → ℕ
byte_at pages place = slice_index (unwrap_or (get nat_cmp pages (place / 4096)) []) (place % 4096)

-- the list of the bytes at each place below the length
abbrev pub bytes_of : BTreeMap ℕ (List ℕ) → ℕ → List ℕ
bytes_of pages len = map (byte_at pages) (range_with_len 0 len)

-- each place has the byte that it had
pub record SameBytes (old new : BTreeMap ℕ (List ℕ)) : Type 0 where
  pub same : (k : ℕ) → byte_at new k ≡ byte_at old k

-- The places from the offset on have these bytes, and the others the bytes that they had.
pub record Puts (old new : BTreeMap ℕ (List ℕ)) (offset : ℕ) (bytes : List ℕ) : Type 0 where
  pub within : (i : ℕ) → i < length bytes → byte_at new (offset + i) ≡ slice_index bytes i
  pub before : (k : ℕ) → k < offset → byte_at new k ≡ byte_at old k
  pub behind : (k : ℕ) → offset + length bytes ≤ k → byte_at new k ≡ byte_at old k

-- The places below the length have the bytes that they had, and the others 0, with no page.
pub record CutAt (old new : BTreeMap ℕ (List ℕ)) (len : ℕ) : Type 0 where
  pub below : (k : ℕ) → k < len → byte_at new k ≡ byte_at old k
  pub past : (k : ℕ) → len ≤ k → byte_at new k ≡ 0
  pub none : (q : ℕ) → len ≤ q * 4096 → get nat_cmp new q ≡ None

-- the same pages are kept
pub record SamePages (old new : BTreeMap ℕ (List ℕ)) : Type 0 where
  pub keeps : (q : ℕ) → IsSome (get nat_cmp old q) → IsSome (get nat_cmp new q)
  pub none : (q : ℕ) → get nat_cmp old q ≡ None → get nat_cmp new q ≡ None

-- The length is in range, each place past it has 0, and no page lies wholly past it.
pub record IsSparse (pages : BTreeMap ℕ (List ℕ)) (len : ℕ) : Type 0 where
  pub small : len ≤ 2 ^ 47
  pub past : (k : ℕ) → len ≤ k → byte_at pages k ≡ 0
  pub none : (q : ℕ) → len ≤ q * 4096 → get nat_cmp pages q ≡ None
