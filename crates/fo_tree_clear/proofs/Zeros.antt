-- Zeros were put behind the end of a source.
use Rattle.std.specs.List.{range_with_len}
use Rattle.std.proofs.Common.{◌≡◌, ◌≢◌, ◌+◌, ◌-◌, ◌*◌, ◌/◌, ◌%◌, ◌^◌, ◌<◌, ◌≤◌, ℕ, Bool, true, false, cond, nat_lt, List, ◌++◌, length, take, drop, map, slice_index, Option, Some, None, MatchOption, inl, ⊎_elim, refl, sym, ap, ◌∙◌, subst, arith}
use Rattle.std.proofs.lemmas.Bool.{cases_eq, cases_lt, lt-ltb}
use Rattle.std.proofs.lemmas.List.{ext_get_or, length-take, length-take-le, length-drop, get_or-take, get_or-drop, get_or_past, drop_all, append-nil, length-append, get_or_append_left, get_or-append_right}
use Rattle.std.proofs.lemmas.List.FromFn.{length-map-range_with_len, get_or-map-range_with_len}
use Rattle.fo_image.specs.declared.types.Pointer.{Pointer}
use Rattle.fo_image.specs.declared.types.Pointer.TheVariants.{Nil, Local, Score as Held}
use Rattle.fo_image.specs.Format.{kind_code}
use Rattle.fo_ports.specs.of_sparse.Written.{resized}
use Rattle.fo_ports.proofs.of_sparse.Lists.{is_resized}
use Rattle.fo_ports.specs.of_crash.Images.{SameContent}
use Rattle.fo_ports.specs.Blocks.{blank, zero_bytes, put_at}
use Rattle.fo_ports.specs.State.{State}
use Rattle.fo_ports.specs.Sources.{EndsWithin, IsCut, Owned, byte_at, source_bytes}
use Rattle.fo_tree_leaf.specs.of_tree_read.declared.tree.Tree.{Tree}
use Rattle.fo_tree_leaf.specs.of_tree_read.Tree.{kind_at, block_at, address_of, held_of, address, held_leaf}
use Rattle.fo_tree_leaf.specs.of_tree_look.declared.ways.Kept.{Kept}
use Rattle.fo_tree_leaf.specs.of_tree_look.Source.{IsKept, Over, find_kept, or_held, seen, Ready, form_of, leaves_of, address_here, held_here}
use Rattle.fo_tree_leaf.proofs.of_tree_look.Held.{seen_address}
use Rattle.fo_tree_leaf.proofs.of_tree_look.Shown.{address_past, held_past}
use Rattle.fo_tree_leaf.specs.of_tree_down.Way.{with_top}
use Rattle.fo_tree_clear.specs.Put.{byte_here, Puts, LeafPut, EndsHere}

cond_true : {T : Type 0} (b : Bool) (x y : T) → b ≡ true → cond b x y ≡ x
cond_true b x y e = ap (λ c. cond c x y) e

none_some : {T : Type 0} (x : T) → Some x ≡ None → ⊥
none_some x e = cc

-- no byte stands behind the last leaf
pub byte_past : (s : State) (t : Tree) (kept : List Kept) (k : ℕ) → t.size ≤ 8192 * (k / 8192) → byte_here s t kept k ≡ 0
byte_past s t kept k ge =
    ap (λ a. byte_at s.now a (held_here s t kept (k / 8192)) (k % 8192)) (address_past s t (k / 8192) ge)
    ∙ ap (λ h. byte_at s.now None h (k % 8192)) (held_past s t kept (k / 8192) ge)

-- nor where there is no leaf
pub byte_nil : (s : State) (t : Tree) (kept : List Kept) (k : ℕ) → block_at (seen s kept) t t.depth (k / 8192) ≡ Nil → byte_here s t kept k ≡ 0
byte_nil s t kept k e =
    ap (λ a. byte_at s.now a (held_here s t kept (k / 8192)) (k % 8192)) none_at
    ∙ ap (λ h. byte_at s.now None h (k % 8192)) none_held
  where
    none_at : address_here s t (k / 8192) ≡ None
    none_at = by (nat_lt (8192 * (k / 8192)) t.size) (nat_lt (k / 8192) (409 ^ t.depth)) (block_at s t t.depth (k / 8192)) (sym (seen_address s kept t t.depth (k / 8192)) ∙ ap (λ (p : Pointer). address_of p) e)
      where
        by : (inside few : Bool) (p : Pointer) → address_of p ≡ None → cond inside (address_of (cond few p Nil)) None ≡ None
        by true true p is = is
        by true false p is = refl
        by false few p is = refl

    none_held : held_here s t kept (k / 8192) ≡ None
    none_held = by (nat_lt (8192 * (k / 8192)) t.size) (nat_lt (k / 8192) (409 ^ t.depth)) (block_at (seen s kept) t t.depth (k / 8192)) e
      where
        by : (inside few : Bool) (p : Pointer) → p ≡ Nil → cond inside (held_of (seen s kept) (kind_at t.dir 0) (cond few p Nil)) None ≡ None
        by true true p is = ap (λ (q : Pointer). held_of (seen s kept) (kind_at t.dir 0) q) is
        by true false p is = refl
        by false few p is = refl

-- ---- zeros from a place on

-- a part of zeros
pub part_zero : (from m : ℕ) (zeros : List ℕ) → ((k : ℕ) → slice_index zeros k ≡ 0) → (k : ℕ) → slice_index (take m (drop from zeros)) k ≡ 0
part_zero from m zeros zero k = ⊎_elim
    (λ lt. get_or-take m (drop from zeros) k 0 lt ∙ get_or-drop from zeros k 0 ∙ zero (from + k))
    (λ ge. get_or_past (take m (drop from zeros)) k 0 (omega (arith, length-take m (drop from zeros), ge)))
    (cases_lt k m)

module _ (from : ℕ) (zeros bytes : List ℕ) (lt : from < 8192) (many : length zeros ≡ 8192 - from) (zero : (k : ℕ) → slice_index zeros k ≡ 0) (whole : length (put_at from zeros bytes) ≡ 8192) where
  parts : (length bytes ≤ 8192) × (from ≤ length bytes)
  parts =
      let all = length-append (take from bytes ++ zeros) (drop (from + length zeros) bytes) in
      let front = length-append (take from bytes) zeros in
      let first = length-take from bytes in
      let rest = length-drop (from + length zeros) bytes in
      (omega (arith, lt, many, whole, all, front, first, rest), omega (arith, lt, many, whole, all, front, first, rest))

  joined : put_at from zeros bytes ≡ take from bytes ++ zeros
  joined = let few = parts.0 in ap (λ xs. (take from bytes ++ zeros) ++ xs) (drop_all (from + length zeros) bytes (omega (arith, few, many, lt))) ∙ append-nil (take from bytes ++ zeros)

  front_is : length (take from bytes) ≡ from
  front_is = length-take-le from bytes parts.1

  behind_zero : (k : ℕ) → from ≤ k → slice_index (take from bytes ++ zeros) k ≡ 0
  behind_zero k ge = get_or-append_right (take from bytes) zeros from k 0 front_is ge ∙ zero (k - from)

  each : (k : ℕ) → slice_index (take from bytes ++ zeros) k ≡ slice_index (take from bytes) k
  each k = ⊎_elim
      (λ below. get_or_append_left (take from bytes) zeros 0 k (omega (arith, front_is, below)))
      (λ ge. behind_zero k ge ∙ sym (get_or_past (take from bytes) k 0 (omega (arith, front_is, ge))))
      (cases_lt k from)

  pub zeros_behind : (k : ℕ) → from ≤ k → slice_index (put_at from zeros bytes) k ≡ 0
  zeros_behind k ge = ap (λ xs. slice_index xs k) joined ∙ behind_zero k ge

  pub zeros_cut : put_at from zeros bytes ≡ resized (take from bytes) 8192
  zeros_cut =
      joined
      ∙ is_resized (take from bytes) (take from bytes ++ zeros) (λ k below. each k)
      ∙ ap (λ n. resized (take from bytes) n) (ap (λ xs. length xs) (sym joined) ∙ whole)

-- ---- the leaf at the end

-- What is known where zeros were put behind the end.
pub record TailPut (s u : State) (t : Tree) (kept : List Kept) (limit top at : ℕ) (zeros : List ℕ) : Type 0 where
  pub ends : EndsHere s t kept
  pub over : Over s t kept limit
  pub ready : Ready s t kept t.depth (block_at (seen s kept) t t.depth (t.size / 8192))
  pub many : length zeros ≡ 8192 - t.size % 8192
  pub zero : (k : ℕ) → slice_index zeros k ≡ 0
  pub put : LeafPut (form_of t 0 limit) (t.size / 8192) at (t.size % 8192) zeros s u (leaves_of s t kept limit) (leaves_of u (with_top t top) kept limit)

module _ {s u : State} {t : Tree} {kept : List Kept} {limit top at : ℕ} {zeros : List ℕ} (x : TailPut s u t kept limit top at zeros) where
  abbrev last : ℕ
  last = t.size / 8192

  abbrev from : ℕ
  from = t.size % 8192

  pub ends_within : (generation : ℕ) → EndsWithin (form_of t generation limit) t.size last
  ends_within generation = let some = x.ends.within in (x.ends.plain, omega (arith, some), omega (arith, some))

  few : last < 409 ^ t.depth
  few = let room = x.over.hangs.room in let some = x.ends.within in omega (arith, room, some)

  -- there was a leaf
  was_there : (p : Pointer) → p ≢ Nil → Ready s t kept t.depth p → address_of p ≡ None → held_of (seen s kept) (kind_at t.dir 0) p ≡ None → ⊥
  was_there Nil some is e f = some refl
  was_there (Local b) some is e f = none_some b e
  was_there (Held score) some is e f =
      let none : t.depth - t.depth ≡ 0 = omega arith in
      let kept_is : IsKept kept score (kind_code (kind_at t.dir 0)) = subst (λ l. IsKept kept score (kind_code (kind_at t.dir l))) none is.0 in
      let found : or_held (find_kept kept score (kind_code (kind_at t.dir 0))) (s.held score (kind_code (kind_at t.dir 0))) ≡ Some kept_is.0 = ap (λ h. or_held h (s.held score (kind_code (kind_at t.dir 0)))) kept_is.1 in
      none_some kept_is.0 (sym found ∙ f)

  inside : nat_lt (8192 * last) t.size ≡ true
  inside = let some = x.ends.within in lt-ltb (8192 * last) t.size (omega (arith, some))

  old_address : address_here s t last ≡ address_of (block_at (seen s kept) t t.depth last)
  old_address =
      cond_true (nat_lt (8192 * last) t.size) (address s t last) None inside
      ∙ ap (λ (p : Pointer). address_of p) (cond_true (nat_lt last (409 ^ t.depth)) (block_at s t t.depth last) Nil (lt-ltb last (409 ^ t.depth) few))
      ∙ sym (seen_address s kept t t.depth last)

  old_held : held_here s t kept last ≡ held_of (seen s kept) (kind_at t.dir 0) (block_at (seen s kept) t t.depth last)
  old_held =
      cond_true (nat_lt (8192 * last) t.size) (held_leaf (seen s kept) t last) None inside
      ∙ ap (λ (p : Pointer). held_of (seen s kept) (kind_at t.dir 0) p) (cond_true (nat_lt last (409 ^ t.depth)) (block_at (seen s kept) t t.depth last) Nil (lt-ltb last (409 ^ t.depth) few))

  pub there : address_here s t last ≡ None → held_here s t kept last ≡ None → ⊥
  there e f = was_there (block_at (seen s kept) t t.depth last) x.ends.leaf x.ready (sym old_address ∙ e) (sym old_held ∙ f)

  -- what it has now
  put_long : (was : List ℕ) → (u.now at).bytes ≡ put_at from zeros was → length (put_at from zeros was) ≡ 8192
  put_long was is = ap (λ xs. length xs) (sym is) ∙ x.put.ready.2

  cut : (generation : ℕ) (was : List ℕ) → (u.now at).bytes ≡ put_at from zeros was → IsCut (form_of t generation limit) t.size last ((u.now at).bytes) was
  cut generation was is =
      let rest : from ≡ t.size - 8192 * last = omega arith in
      record {
        whole = λ apart. absurd (apart (ends_within generation));
        cut = λ h. is ∙ zeros_cut from zeros was (omega arith) x.many x.zero (put_long was is) ∙ ap (λ n. resized (take n was) 8192) rest;
      }

  abbrev Had : Option ℕ → Option (List ℕ) → Type 0
  Had leaf held = MatchOption leaf (MatchOption held ((u.now at).bytes ≡ put_at from zeros zero_bytes) (λ bytes. (u.now at).bytes ≡ put_at from zeros bytes)) (λ b. ((u.now at).bytes ≡ put_at from zeros ((s.now b).bytes)) × ((k : ℕ) → (u.now at).slot k ≡ (s.now b).slot k))

  abbrev Has : ℕ → Option ℕ → Option (List ℕ) → Type 0
  Has generation leaf held = MatchOption leaf (MatchOption held (SameContent (u.now at) (blank (form_of t generation limit).kind)) (λ bytes. IsCut (form_of t generation limit) t.size last ((u.now at).bytes) bytes)) (λ b. IsCut (form_of t generation limit) t.size last ((u.now at).bytes) ((s.now b).bytes) × ((k : ℕ) → (u.now at).slot k ≡ (s.now b).slot k))

  has : (generation : ℕ) (leaf : Option ℕ) (held : Option (List ℕ)) → (leaf ≡ None → held ≡ None → ⊥) → Had leaf held → Has generation leaf held
  has generation (Some b) held some had = (cut generation ((s.now b).bytes) had.0, had.1)
  has generation None (Some bytes) some had = cut generation bytes had
  has generation None None some had = absurd (some refl refl)

  pub owned_tail : (generation : ℕ) → Owned (form_of t generation limit) t.size last at s u (leaves_of s t kept limit) (leaves_of u (with_top t top) kept limit)
  owned_tail generation = record {
    is = x.put.is;
    others = λ told j ne. let same = x.put.others told j ne in inl (record { at = same.0; held = inl same.1 });
    content = has generation (address_here s t last) (held_here s t kept last) there x.put.content;
    copied = x.put.copied;
    label = x.put.label;
    ready = x.put.ready;
  }

  -- ---- zeros stand behind the end

  had_zero : (leaf : Option ℕ) (held : Option (List ℕ)) (k : ℕ) → from ≤ k → Had leaf held → slice_index ((u.now at).bytes) k ≡ 0
  had_zero (Some b) held k ge had = ap (λ xs. slice_index xs k) had.0 ∙ zeros_behind from zeros ((s.now b).bytes) (omega arith) x.many x.zero (put_long ((s.now b).bytes) had.0) k ge
  had_zero None (Some bytes) k ge had = ap (λ xs. slice_index xs k) had ∙ zeros_behind from zeros bytes (omega arith) x.many x.zero (put_long bytes had) k ge
  had_zero None None k ge had = ap (λ xs. slice_index xs k) had ∙ zeros_behind from zeros zero_bytes (omega arith) x.many x.zero (put_long zero_bytes had) k ge

  byte_last : (k : ℕ) → k / 8192 ≡ last → t.size ≤ k → byte_here u (with_top t top) kept k ≡ 0
  byte_last k e ge =
      ap (λ j. byte_at u.now (address_here u (with_top t top) j) (held_here u (with_top t top) kept j) (k % 8192)) e
      ∙ ap (λ a. byte_at u.now a (held_here u (with_top t top) kept last) (k % 8192)) x.put.is
      ∙ had_zero (address_here s t last) (held_here s t kept last) (k % 8192) (omega (arith, e, ge)) x.put.content

  pub zeros_end : (k : ℕ) → t.size ≤ k → byte_here u (with_top t top) kept k ≡ 0
  zeros_end k ge = ⊎_elim
      (λ e. byte_last k e ge)
      (λ ne. byte_past u (with_top t top) kept k (omega (arith, ne, ge)))
      (cases_eq (k / 8192) last)

-- ---- bytes

-- two lists of values below a length
pub values_same : (f g : ℕ → ℕ) (len : ℕ) → ((k : ℕ) → k < len → f k ≡ g k) → map f (range_with_len 0 len) ≡ map g (range_with_len 0 len)
values_same f g len same =
    ext_get_or 0 (map f (range_with_len 0 len)) (map g (range_with_len 0 len))
    (length-map-range_with_len f 0 len ∙ sym (length-map-range_with_len g 0 len))
    (λ k lt. let below : k < len = omega (arith, lt, length-map-range_with_len f 0 len) in
    get_or-map-range_with_len f 0 len k k 0 below (omega arith) ∙ same k below ∙ sym (get_or-map-range_with_len g 0 len k k 0 below (omega arith)))

-- what is put behind the end leaves the bytes of the source
pub bytes_before : (s u : State) (t new : Tree) (kept : List Kept) (offset : ℕ) (piece : List ℕ) → new.size ≡ t.size → t.size ≤ offset → Puts (byte_here s t kept) (byte_here u new kept) offset piece
    → source_bytes (address_here u new) (held_here u new kept) u.now new.size ≡ source_bytes (address_here s t) (held_here s t kept) s.now t.size
bytes_before s u t new kept offset piece same le puts =
    ap (λ n. source_bytes (address_here u new) (held_here u new kept) u.now n) same
    ∙ values_same (λ k. byte_here u new kept k) (λ k. byte_here s t kept k) t.size (λ k lt. puts.before k (omega (arith, lt, le)))

-- a leaf below the end is at its address
pub end_block : (s : State) (t : Tree) (i b : ℕ) → 8192 * i < t.size → t.size ≤ 8192 * 409 ^ t.depth → block_at s t t.depth i ≡ Local b → address_here s t i ≡ Some b
end_block s t i b lt room e =
    cond_true (nat_lt (8192 * i) t.size) (address s t i) None (lt-ltb (8192 * i) t.size lt)
    ∙ ap (λ (p : Pointer). address_of p) (cond_true (nat_lt i (409 ^ t.depth)) (block_at s t t.depth i) Nil (lt-ltb i (409 ^ t.depth) (omega (arith, lt, room))) ∙ e)
