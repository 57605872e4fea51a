-- The bytes of a source up to an end within it.
use Rattle.std.specs.List.{range_with_len}
use Rattle.std.proofs.Common.{◌≡◌, ◌*◌, ◌/◌, ◌%◌, ◌^◌, ◌<◌, ◌≤◌, ℕ, Bool, cond, List, map, take, length, slice_index, Option, Some, None, refl, sym, ap, ◌∙◌, arith}
use Rattle.std.proofs.lemmas.Bool.{lt-ltb}
use Rattle.std.proofs.lemmas.List.{ext_get_or, length-take-le, get_or-take, take_all}
use Rattle.std.proofs.lemmas.List.FromFn.{length-map-range_with_len, get_or-map-range_with_len}
use Rattle.fo_image.specs.declared.types.Score.{Score}
use Rattle.fo_image.specs.declared.types.Pointer.{Pointer}
use Rattle.fo_image.specs.declared.types.Pointer.TheVariants.{Nil, Local, Score as Held}
use Rattle.fo_image.specs.Format.{kind_code}
use Rattle.fo_ports.specs.State.{State}
use Rattle.fo_ports.specs.Sources.{byte_at, source_bytes}
use Rattle.fo_tree_read.specs.declared.tree.Tree.{Tree}
use Rattle.fo_tree_read.specs.Tree.{kind_at, block_at, leaf_at, address_of, held_of}
use Rattle.fo_tree_look.specs.declared.ways.Kept.{Kept}
use Rattle.fo_tree_look.specs.Source.{AllHeld, address_here, held_here}
use Rattle.fo_tree_look.proofs.Held.{seen_leaf}
use Rattle.fo_tree_look.proofs.Shown.{address_below, held_below}

front_same : (f g : ℕ → ℕ) (n len : ℕ) → n ≤ len → ((k : ℕ) → k < n → g k ≡ f k) → map g (range_with_len 0 n) ≡ take n (map f (range_with_len 0 len))
front_same f g n len le same =
    let all : List ℕ = map f (range_with_len 0 len) in
    let is : length (take n (map f (range_with_len 0 len))) ≡ n = length-take-le n (map f (range_with_len 0 len)) (omega (arith, le, length-map-range_with_len f 0 len)) in
    ext_get_or 0 (map g (range_with_len 0 n)) (take n (map f (range_with_len 0 len)))
    (length-map-range_with_len g 0 n ∙ sym is)
    (λ k lt.
    let near : k < n = omega (arith, lt, length-map-range_with_len g 0 n) in
    get_or-map-range_with_len g 0 n k k 0 near (omega arith) ∙ same k near
    ∙ sym (get_or-take n (map f (range_with_len 0 len)) k 0 near ∙ get_or-map-range_with_len f 0 len k k 0 (omega (arith, near, le)) (omega arith)))

-- A source has the leaves of another up to its end.
pub record SameFront (s u : State) (t new : Tree) (kept : List Kept) : Type 0 where
  pub told : s.tells
  pub now : u.tells
  pub held : AllHeld s kept
  pub held_now : AllHeld u kept
  pub same_held : (score : Score) (kind : ℕ) → u.held score kind ≡ s.held score kind
  pub dir : new.dir ≡ t.dir
  pub within : new.size ≤ t.size
  pub room : t.size ≤ 8192 * 409 ^ t.depth
  pub room_now : new.size ≤ 8192 * 409 ^ new.depth
  pub each : (i : ℕ) → 8192 * i < new.size → block_at u new new.depth i ≡ block_at s t t.depth i
  pub content : (i b : ℕ) → 8192 * i < new.size → block_at s t t.depth i ≡ Local b → (u.now b).bytes ≡ (s.now b).bytes

module _ {s u : State} {t new : Tree} {kept : List Kept} (x : SameFront s u t new kept) where
  leaf_is : (s : State) (t : Tree) (i : ℕ) → i < 409 ^ t.depth → leaf_at s t i ≡ block_at s t t.depth i
  leaf_is s t i few = ap (λ (b : Bool). cond b (block_at s t t.depth i) Nil) (lt-ltb i (409 ^ t.depth) few)

  module _ (i : ℕ) (lt : 8192 * i < new.size) where
    old_lt : 8192 * i < t.size
    old_lt = let le = x.within in omega (arith, lt, le)

    leaf_old : leaf_at s t i ≡ block_at s t t.depth i
    leaf_old = let room = x.room in let old = old_lt in leaf_is s t i (omega (arith, room, old))

    leaf_new : leaf_at u new i ≡ block_at s t t.depth i
    leaf_new = let room = x.room_now in leaf_is u new i (omega (arith, room, lt)) ∙ x.each i lt

    held_same : (p : Pointer) → held_of u (kind_at new.dir 0) p ≡ held_of s (kind_at t.dir 0) p
    held_same Nil = refl
    held_same (Local b) = refl
    held_same (Held score) = ap (λ d. u.held score (kind_code (kind_at d 0))) x.dir ∙ x.same_held score (kind_code (kind_at t.dir 0))

    address_is : address_here u new i ≡ address_here s t i
    address_is = address_below u new i lt ∙ ap (λ (p : Pointer). address_of p) (leaf_new ∙ sym leaf_old) ∙ sym (address_below s t i old_lt)

    held_is : held_here u new kept i ≡ held_here s t kept i
    held_is =
        seen_leaf u new kept x.held_now x.now i ∙ held_below u new i lt
        ∙ ap (λ (p : Pointer). held_of u (kind_at new.dir 0) p) (leaf_new ∙ sym leaf_old) ∙ held_same (leaf_at s t i)
        ∙ sym (seen_leaf s t kept x.held x.told i ∙ held_below s t i old_lt)

    byte_is : (p : Pointer) → leaf_at s t i ≡ p → (held : Option (List ℕ)) (r : ℕ) → byte_at u.now (address_of p) held r ≡ byte_at s.now (address_of p) held r
    byte_is Nil e None r = refl
    byte_is Nil e (Some bytes) r = refl
    byte_is (Local b) e held r = ap (λ xs. slice_index xs r) (x.content i b lt (sym leaf_old ∙ e))
    byte_is (Held score) e None r = refl
    byte_is (Held score) e (Some bytes) r = refl

    byte_same : (r : ℕ) → byte_at u.now (address_here u new i) (held_here u new kept i) r ≡ byte_at s.now (address_here s t i) (held_here s t kept i) r
    byte_same r =
        ap (λ a. byte_at u.now a (held_here u new kept i) r) (address_is ∙ address_below s t i old_lt)
        ∙ ap (λ h. byte_at u.now (address_of (leaf_at s t i)) h r) held_is
        ∙ byte_is (leaf_at s t i) refl (held_here s t kept i) r
        ∙ sym (ap (λ a. byte_at s.now a (held_here s t kept i) r) (address_below s t i old_lt))

  pub bytes_front : source_bytes (address_here u new) (held_here u new kept) u.now new.size ≡ take new.size (source_bytes (address_here s t) (held_here s t kept) s.now t.size)
  bytes_front = front_same
      (λ k. byte_at s.now (address_here s t (k / 8192)) (held_here s t kept (k / 8192)) (k % 8192))
      (λ k. byte_at u.now (address_here u new (k / 8192)) (held_here u new kept (k / 8192)) (k % 8192))
      new.size t.size x.within
      (λ k lt. byte_same (k / 8192) (omega (arith, lt)) (k % 8192))

-- with its end, where that is the same
pub bytes_same : {s u : State} {t new : Tree} {kept : List Kept} → SameFront s u t new kept → new.size ≡ t.size → source_bytes (address_here u new) (held_here u new kept) u.now new.size ≡ source_bytes (address_here s t) (held_here s t kept) s.now t.size
bytes_same {s = s} {u = u} {t = t} {new = new} {kept = kept} x same =
    let all : List ℕ = source_bytes (address_here s t) (held_here s t kept) s.now t.size in
    let len = length-map-range_with_len (λ k. byte_at s.now (address_here s t (k / 8192)) (held_here s t kept (k / 8192)) (k % 8192)) 0 t.size in
    bytes_front x ∙ take_all new.size all (omega (arith, len, same))
