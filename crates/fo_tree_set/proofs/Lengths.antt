-- What a source has that got another length.
use Rattle.std.specs.List.{range_with_len}
use Rattle.std.specs.Prelude.{Result, Ok, Err, IfOk, IfErr, OnOk}
use Rattle.std.proofs.Common.{◌≡◌, ◌-◌, ◌/◌, ◌<◌, ◌≤◌, ℕ, zero, suc, List, length, map, take, slice_index, ⊎_elim, refl, sym, ◌∙◌, ap, subst, arith}
use Rattle.std.proofs.lemmas.Bool.{cases_lt}
use Rattle.std.proofs.lemmas.List.{length-take, get_or-take, get_or_past}
use Rattle.std.proofs.lemmas.List.FromFn.{length-map-range_with_len, get_or-map-range_with_len}
use Rattle.fo_base.specs.Cause.{Rose}
use Rattle.fo_sparse.specs.Written.{resized}
use Rattle.fo_sparse.proofs.Lists.{is_resized}
use Rattle.fo_image.specs.declared.types.Pointer.{Pointer}
use Rattle.fo_image.specs.declared.types.Pointer.TheVariants.{Nil, Local, Score as Held}
use Rattle.fo_crash.specs.declared.slot.Slot.{Slot}
use Rattle.fo_crash.specs.declared.slot.Slot.TheVariants.{Entry as Head}
use Rattle.fo_crash.specs.Images.{target}
use Rattle.fo_tree_read.proofs.of_looks.Looks.{rose_later}
use Rattle.fo_ports.specs.Blocks.{ends, dropped, cost}
use Rattle.fo_ports.specs.Causes.{Caused}
use Rattle.fo_ports.specs.State.{State, KeepsAll}
use Rattle.fo_ports.specs.declared.error.BlockError.{BlockError}
use Rattle.fo_ports.specs.declared.error.BlockError.TheVariants.{Full, Damaged, Fault, Arena, Memory}
use Rattle.fo_tree_read.specs.declared.tree.Tree.{Tree}
use Rattle.fo_tree_look.specs.declared.ways.Kept.{Kept}
use Rattle.fo_tree_look.specs.Source.{WayReady, Ready, leaves_of}
use Rattle.fo_tree_down.specs.Way.{with_top}
use Rattle.fo_tree_append.specs.of_tree_clear.Put.{byte_here}
use Rattle.fo_tree_link.specs.Link.{entry_of}
use Rattle.fo_tree_append.specs.Grown.{GrownTo}
use Rattle.fo_tree_set.specs.Set.{MayTrim, SameForm}

-- ---- lists

length_values : (f : ℕ → ℕ) (len : ℕ) → length (map f (range_with_len 0 len)) ≡ len
length_values f len = length-map-range_with_len f 0 len

values_below : (f : ℕ → ℕ) (len k : ℕ) → k < len → slice_index (map f (range_with_len 0 len)) k ≡ f k
values_below f len k lt = get_or-map-range_with_len f 0 len k k 0 lt (omega arith)

values_past : (f : ℕ → ℕ) (len k : ℕ) → len ≤ k → slice_index (map f (range_with_len 0 len)) k ≡ 0
values_past f len k ge = get_or_past (map f (range_with_len 0 len)) k 0 (omega (arith, length_values f len, ge))

resized_to : (xs ys : List ℕ) (z : ℕ) → length ys ≡ z → ((k : ℕ) → k < z → slice_index ys k ≡ slice_index xs k) → ys ≡ resized xs z
resized_to xs ys z long same = subst (λ n. ys ≡ resized xs n) long (is_resized xs ys (λ k lt. same k (omega (arith, long, lt))))

-- values that are 0 from a place on
values_resized : (h : ℕ → ℕ) (size z : ℕ) → ((k : ℕ) → size ≤ k → h k ≡ 0) → map h (range_with_len 0 z) ≡ resized (map h (range_with_len 0 size)) z
values_resized h size z none = resized_to (map h (range_with_len 0 size)) (map h (range_with_len 0 z)) z (length_values h z)
    (λ k lt. values_below h z k lt ∙ ⊎_elim
    (λ small. sym (values_below h size k small))
    (λ ge. none k ge ∙ sym (values_past h size k ge))
    (cases_lt k size))

pub take_resized : (xs : List ℕ) (z : ℕ) → z ≤ length xs → take z xs ≡ resized xs z
take_resized xs z le = resized_to xs (take z xs) z (let long = length-take z xs in omega (arith, long, le)) (λ k lt. get_or-take z xs k 0 lt)

-- ---- bytes

pub bytes_long : (s : State) (t : Tree) (kept : List Kept) (limit : ℕ) → length ((leaves_of s t kept limit).bytes) ≡ t.size
bytes_long s t kept limit = length_values (λ k. byte_here s t kept k) t.size

-- of a source that has its length
pub bytes_kept : (s : State) (t : Tree) (kept : List Kept) (limit z : ℕ) → z ≡ t.size → (leaves_of s t kept limit).bytes ≡ resized (leaves_of s t kept limit).bytes z
bytes_kept s t kept limit z same = resized_to ((leaves_of s t kept limit).bytes) ((leaves_of s t kept limit).bytes) z (bytes_long s t kept limit ∙ sym same) (λ k lt. refl)

-- of one that loses the last of them
pub bytes_taken : (s : State) (t : Tree) (kept : List Kept) (limit z : ℕ) → z < t.size → take z (leaves_of s t kept limit).bytes ≡ resized (leaves_of s t kept limit).bytes z
bytes_taken s t kept limit z lt = take_resized ((leaves_of s t kept limit).bytes) z (let long = bytes_long s t kept limit in omega (arith, long, lt))

-- and of one that has a longer one
pub bytes_grown : {s m : State} {t new : Tree} {kept : List Kept} (limit : ℕ) → s.tells → GrownTo s m t new kept → (leaves_of m new kept limit).bytes ≡ resized (leaves_of s t kept limit).bytes new.size
bytes_grown {s = s} {m = m} {t = t} {new = new} {kept = kept} limit told x =
    values_resized (λ k. byte_here m new kept k) t.size new.size (x.zeros told)
    ∙ ap (λ xs. resized xs new.size) (x.bytes told limit)

-- ---- the tree

-- A source below another top.
pub record SameShape (t now : Tree) : Type 0 where
  pub dir : now.dir ≡ t.dir
  pub tag : now.tag ≡ t.tag
  pub rank : now.rank ≡ t.rank
  pub depth : now.depth ≡ t.depth
  pub size : now.size ≡ t.size

pub shape_same : (t now : Tree) → now ≡ t → SameShape t now
shape_same t now is = record { dir = ap (λ (y : Tree). y.dir) is; tag = ap (λ (y : Tree). y.tag) is; rank = ap (λ (y : Tree). y.rank) is; depth = ap (λ (y : Tree). y.depth) is; size = ap (λ (y : Tree). y.size) is }

pub shape_top : (t now : Tree) (top : ℕ) → now ≡ with_top t top → SameShape t now
shape_top t now top is = record { dir = ap (λ (y : Tree). y.dir) is; tag = ap (λ (y : Tree). y.tag) is; rank = ap (λ (y : Tree). y.rank) is; depth = ap (λ (y : Tree). y.depth) is; size = ap (λ (y : Tree). y.size) is }

pub shape_trims : (B : Type 0) (state : B → State) (old new : B) (t now : Tree) (kept : List Kept) (generation at i : ℕ) → MayTrim B state old new t now kept generation at i → SameShape t now
shape_trims B state old new t now kept generation at i x = ⊎_elim
    (λ none. shape_same t now none.1)
    (λ done. shape_top t now done.top done.is)
    x

pub form_shape : {t now : Tree} → SameShape t now → SameForm t now
form_shape x = record { dir = x.dir; tag = x.tag; rank = x.rank }

pub form_joins : {a b c : Tree} → SameForm a b → SameForm b c → SameForm a c
form_joins p q = record { dir = q.dir ∙ p.dir; tag = q.tag ∙ p.tag; rank = q.rank ∙ p.rank }

pub way_top : (s : State) (t : Tree) (kept : List Kept) (n k : ℕ) → WayReady s t kept n k → Ready s t kept zero t.top
way_top s t kept zero k ready = ready
way_top s t kept (suc n) k ready = way_top s t kept n (k / 409) ready.0

-- ---- what a link takes

ends_few : (p q : Pointer) → ends p q ≤ 1
ends_few Nil q = omega arith
ends_few (Local x) Nil = omega arith
ends_few (Local x) (Local y) = omega arith
ends_few (Local x) (Held score) = omega arith
ends_few (Held score) q = omega arith

pub none_dropped : (w : Slot) (t new : Tree) (generation other : ℕ) → w ≡ Head (entry_of t generation) → t.depth ≤ new.depth → dropped w (Head (entry_of new other)) ≡ 0
none_dropped w t new generation other is more = ap (λ (q : Slot). dropped q (Head (entry_of new other))) is ∙ less
  where
    less : t.depth - new.depth ≡ 0
    less = omega (arith, more)

pub cost_few : (w : Slot) (t new : Tree) (generation other : ℕ) → w ≡ Head (entry_of t generation) → t.depth ≤ new.depth → cost w (Head (entry_of new other)) ≤ 1
cost_few w t new generation other is more =
    let none = none_dropped w t new generation other is more in
    let end = ends_few (target w) new.top in
    omega (arith, none, end)

-- ---- results

pub if_ok : {A E : Type 0} (r : Result A E) (P : Type 0) → OnOk r P → IfOk r (λ x. P)
if_ok (Ok x) P h = h
if_ok (Err why) P h = tt

pub rose_since : {A : Type 0} (a b c : State) → KeepsAll a b → (r : Result A BlockError) → IfErr r (Caused ⊥ (λ x. ⊥) (Rose b.faults c.faults) ⊥) → IfErr r (Caused ⊥ (λ x. ⊥) (Rose a.faults c.faults) ⊥)
rose_since a b c all (Ok p) cause = cause
rose_since a b c all (Err Full) cause = cause
rose_since a b c all (Err (Damaged x)) cause = cause
rose_since a b c all (Err (Fault which)) cause = rose_later a.faults b.faults c.faults all.more_faults cause
rose_since a b c all (Err (Arena which)) cause = cause
rose_since a b c all (Err Memory) cause = cause
