-- What a source has stays where it is only looked at.
use Rattle.std.specs.List.{range_with_len}
use Rattle.std.proofs.Common.{◌≡◌, ◌+◌, ◌-◌, ◌*◌, ◌/◌, ◌%◌, ◌^◌, ◌<◌, ◌≤◌, ℕ, zero, suc, Bool, true, false, cond, nat_lt, List, [], ◌∷◌, map, min, take, drop, Option, Some, None, slice_index, length, ◌++◌, inl, inr, ⊎_elim, refl, sym, ap, ◌∙◌, subst, arith}
use Rattle.std.proofs.lemmas.Bool.{lt-ltb, le-ltb}
use Rattle.std.proofs.lemmas.List.{ext_get_or, append-nil, append_assoc, length-drop, length-take, get_or-take, get_or-drop}
use Rattle.std.proofs.lemmas.List.FromFn.{length-map-range_with_len, get_or-map-range_with_len}
use Rattle.fo_image.specs.declared.types.Kind.{Kind}
use Rattle.fo_image.specs.declared.types.Kind.TheVariants.{Data, Dir, Root}
use Rattle.fo_image.specs.declared.types.Score.{Score}
use Rattle.fo_image.specs.declared.types.Label.{Label}
use Rattle.fo_image.specs.declared.types.Pointer.{Pointer}
use Rattle.fo_image.specs.declared.types.Pointer.TheVariants.{Nil, Local, Score as Held}
use Rattle.fo_image.specs.Format.{kind_code}
use Rattle.fo_tree_read.specs.of_crash.declared.slot.Slot.{Slot}
use Rattle.fo_tree_read.specs.of_crash.Images.{Content, Reaches, target, to_block}
use Rattle.fo_tree_read.proofs.of_crash.Reach.{same_walk}
use Rattle.fo_tree_read.specs.of_ports.Blocks.{Reads}
use Rattle.fo_tree_read.specs.of_ports.State.{State, KeepsAll, Looks}
use Rattle.fo_tree_read.specs.of_ports.Sources.{byte_at, source_bytes, depth_for, most_for, Finds, AreLocal, SameLeaves}
use Rattle.fo_tree_read.proofs.of_looks.Looks.{hung_looks}
use Rattle.fo_tree_read.specs.declared.tree.Tree.{Tree}
use Rattle.fo_tree_read.specs.Tree.{kind_at, kind_down, score_in, below, block_at, leaf_at, address_of, held_of, address, held_leaf, bytes, IsGot, Got, IsFound}
use Rattle.fo_tree_read.specs.Reading.{LeafWay, most, Prepared as AllGot}
use Rattle.fo_tree_read.proofs.Parts.{values_given}
use Rattle.fo_tree_read.proofs.Walk.{told_same, hangs_looks}
use Rattle.fo_tree_look.specs.declared.ways.Kept.{Kept}
use Rattle.fo_tree_look.specs.Source.{HasBlock, IsTold, Over, NoneHeld, address_here, find_kept, or_held, seen, held_here, IsPrepared, IsKept, AllHeld, Extends, Ready, WayReady, WayGot, Prepared, IsTopCurrent, leaves_of}
use Rattle.fo_tree_look.proofs.Held.{find_more, seen_block, held_plain, seen_leaf, seen_address, address_got}

-- ---- bytes

-- lists of the values below a length
values_same : (f g : ℕ → ℕ) (len : ℕ) → ((k : ℕ) → k < len → f k ≡ g k) → map f (range_with_len 0 len) ≡ map g (range_with_len 0 len)
values_same f g len same =
    ext_get_or 0 (map f (range_with_len 0 len)) (map g (range_with_len 0 len))
    (length-map-range_with_len f 0 len ∙ sym (length-map-range_with_len g 0 len))
    (λ k lt. let below : k < len = omega (arith, lt, length-map-range_with_len f 0 len) in
    get_or-map-range_with_len f 0 len k k 0 below (omega arith) ∙ same k below ∙ sym (get_or-map-range_with_len g 0 len k k 0 below (omega arith)))

cond_true : {T : Type 0} (b : Bool) (x y : T) → b ≡ true → cond b x y ≡ x
cond_true b x y e = ap (λ c. cond c x y) e

-- below the end a leaf is that of the tree
pub address_below : (s : State) (t : Tree) (i : ℕ) → 8192 * i < t.size → address_here s t i ≡ address s t i
address_below s t i lt = cond_true (nat_lt (8192 * i) t.size) (address s t i) None (lt-ltb (8192 * i) t.size lt)

pub held_below : (s : State) (t : Tree) (i : ℕ) → 8192 * i < t.size → held_plain s t i ≡ held_leaf s t i
held_below s t i lt = cond_true (nat_lt (8192 * i) t.size) (held_leaf s t i) None (lt-ltb (8192 * i) t.size lt)

pub held_past : (s : State) (t : Tree) (kept : List Kept) (i : ℕ) → t.size ≤ 8192 * i → held_here s t kept i ≡ None
held_past s t kept i le = ap (λ b. cond b (held_leaf (seen s kept) t i) None) (le-ltb (8192 * i) t.size le)

pub address_past : (s : State) (t : Tree) (i : ℕ) → t.size ≤ 8192 * i → address_here s t i ≡ None
address_past s t i le = ap (λ b. cond b (address s t i) None) (le-ltb (8192 * i) t.size le)

-- the bytes are those that the tree reads
pub bytes_here : (s : State) (t : Tree) (kept : List Kept) → AllHeld s kept → s.tells → source_bytes (address_here s t) (held_here s t kept) s.now t.size ≡ bytes s t
bytes_here s t kept held told = values_same
    (λ k. byte_at s.now (address_here s t (k / 8192)) (held_here s t kept (k / 8192)) (k % 8192))
    (λ k. byte_at s.now (address s t (k / 8192)) (held_leaf s t (k / 8192)) (k % 8192))
    t.size
    (λ k lt.
    let below : 8192 * (k / 8192) < t.size = omega (arith, lt) in
    ap (λ (a : Option ℕ). byte_at s.now a (held_here s t kept (k / 8192)) (k % 8192)) (address_below s t (k / 8192) below)
    ∙ ap (λ (h : Option (List ℕ)). byte_at s.now (address s t (k / 8192)) h (k % 8192)) (seen_leaf s t kept held told (k / 8192) ∙ held_below s t (k / 8192) below))

-- a part of two such lists that agree there
part_same : (f g : ℕ → ℕ) (len offset n : ℕ) → ((k : ℕ) → offset ≤ k → k < offset + n → k < len → g k ≡ f k) → take n (drop offset (map g (range_with_len 0 len))) ≡ take n (drop offset (map f (range_with_len 0 len)))
part_same f g len offset n same =
    let whole : List ℕ = map g (range_with_len 0 len) in
    let is : length (take n (drop offset whole)) ≡ min n (len - offset) = omega (arith, length-take n (drop offset whole), length-drop offset whole, length-map-range_with_len g 0 len) in
    values_given f len offset n (take n (drop offset whole)) is
    (λ i lt.
    let near : i < n = omega (arith, lt, is) in
    let far : offset + i < len = omega (arith, lt, is) in
    get_or-take n (drop offset whole) i 0 near
    ∙ get_or-drop offset whole i 0
    ∙ get_or-map-range_with_len g 0 len (offset + i) (offset + i) 0 far (omega arith)
    ∙ same (offset + i) (omega arith) (omega (arith, near)) far)

-- bytes of leaves that stand on the device
pub part_here : (s : State) (t : Tree) (kept : List Kept) (offset n : ℕ) → AreLocal (address_here s t) t.size offset n → take n (drop offset (bytes s t)) ≡ take n (drop offset (source_bytes (address_here s t) (held_here s t kept) s.now t.size))
part_here s t kept offset n local = part_same
    (λ k. byte_at s.now (address_here s t (k / 8192)) (held_here s t kept (k / 8192)) (k % 8192))
    (λ k. byte_at s.now (address s t (k / 8192)) (held_leaf s t (k / 8192)) (k % 8192))
    t.size offset n
    (λ k from to lt.
    let below : 8192 * (k / 8192) < t.size = omega (arith, lt) in
    let is = local k from to lt in
    ap (λ (a : Option ℕ). byte_at s.now a (held_leaf s t (k / 8192)) (k % 8192)) (sym (address_below s t (k / 8192) below) ∙ is.1)
    ∙ sym (ap (λ (a : Option ℕ). byte_at s.now a (held_here s t kept (k / 8192)) (k % 8192)) is.1))

pub tree_local : (s : State) (t : Tree) (offset n : ℕ) → AreLocal (address_here s t) t.size offset n → AreLocal (address s t) t.size offset n
tree_local s t offset n local k from to lt = let is = local k from to lt in (is.0, sym (address_below s t (k / 8192) (omega (arith, lt))) ∙ is.1)

-- ---- what a device that tells has

module _ (a b : State) (t : Tree) (all : KeepsAll a b) (looks : Looks a b) (told : a.tells) where
  leaf_same : (i : ℕ) → leaf_at b t i ≡ leaf_at a t i
  leaf_same i = ap (λ (p : Pointer). cond (nat_lt i (409 ^ t.depth)) p Nil) (told_same all looks told t t.depth i)

  pub address_same : (i : ℕ) → address_here b t i ≡ address_here a t i
  address_same i = ap (λ (p : Pointer). cond (nat_lt (8192 * i) t.size) (address_of p) None) (leaf_same i)

  held_of_same : (p : Pointer) → held_of b (kind_at t.dir 0) p ≡ held_of a (kind_at t.dir 0) p
  held_of_same Nil = refl
  held_of_same (Local at) = refl
  held_of_same (Held score) = all.same_held score (kind_code (kind_at t.dir 0))

  plain_same : (i : ℕ) → held_plain b t i ≡ held_plain a t i
  plain_same i =
      ap (λ (p : Pointer). cond (nat_lt (8192 * i) t.size) (held_of b (kind_at t.dir 0) p) None) (leaf_same i)
      ∙ ap (λ (h : Option (List ℕ)). cond (nat_lt (8192 * i) t.size) h None) (held_of_same (leaf_at a t i))

  byte_same : (x : Option ℕ) (h : Option (List ℕ)) (k : ℕ) → byte_at b.now x h k ≡ byte_at a.now x h k
  byte_same (Some at) h k = ap (λ xs. slice_index xs k) ((looks.memory told).each at).bytes
  byte_same None (Some xs) k = refl
  byte_same None None k = refl

  module _ (kept more : List Kept) (held : AllHeld a kept) (still : AllHeld b more) where
    told_still : b.tells
    told_still = all.still_tells.1 told

    pub held_same : (i : ℕ) → held_here b t more i ≡ held_here a t kept i
    held_same i = seen_leaf b t more still told_still i ∙ plain_same i ∙ sym (seen_leaf a t kept held told i)

    pub bytes_same : source_bytes (address_here b t) (held_here b t more) b.now t.size ≡ source_bytes (address_here a t) (held_here a t kept) a.now t.size
    bytes_same = values_same
        (λ k. byte_at b.now (address_here b t (k / 8192)) (held_here b t more (k / 8192)) (k % 8192))
        (λ k. byte_at a.now (address_here a t (k / 8192)) (held_here a t kept (k / 8192)) (k % 8192))
        t.size
        (λ k lt.
        ap (λ (x : Option ℕ). byte_at b.now x (held_here b t more (k / 8192)) (k % 8192)) (address_same (k / 8192))
        ∙ ap (λ (h : Option (List ℕ)). byte_at b.now (address_here a t (k / 8192)) h (k % 8192)) (held_same (k / 8192))
        ∙ byte_same (address_here a t (k / 8192)) (held_here a t kept (k / 8192)) (k % 8192))

    -- what is seen on the way to a block
    pub seen_same : (n k : ℕ) → block_at (seen b more) t n k ≡ block_at (seen a kept) t n k
    seen_same n k = seen_block b more still told_still t n k ∙ told_same all looks told t n k ∙ sym (seen_block a kept held told t n k)

  pub blocks_back : (at : ℕ) → HasBlock b t at → HasBlock a t at
  blocks_back at has = record { down = has.down; index = has.index; within = has.within; is = sym (told_same all looks told t has.down has.index) ∙ has.is }

  pub blocks_on : (at : ℕ) → HasBlock a t at → HasBlock b t at
  blocks_on at has = record { down = has.down; index = has.index; within = has.within; is = told_same all looks told t has.down has.index ∙ has.is }

  pub reaches_on : (at : ℕ) → Reaches a.now (to_block 1) at → Reaches b.now (to_block 1) at
  reaches_on at r = record { path = r.path; leads = subst (λ (s : Slot). target s ≡ Local at) (sym (same_walk b.now a.now (λ x i. ((looks.memory told).each x).slots i) r.path (to_block 1))) r.leads }

  pub told_on : (top : Pointer) (at : ℕ) → IsTold a top at → IsTold b top at
  told_on top at is =
      let same : b.label at ≡ a.label at = looks.stays.labels at (λ n. n) in
      let epoch : (b.label at).epoch ≡ (a.label at).epoch = ap (λ (l : Label). l.epoch) same in
      let high = all.same_high in
      let up = is.up_to in
      record {
        live = ap (λ (l : Label). l.state) same ∙ is.live;
        up_to = omega (arith, epoch, high, up);
        uncovered = λ c. is.uncovered ((looks.covered.covered at).0 c);
        in_tree = λ older. reaches_on at (is.in_tree (omega (arith, epoch, high, older)));
        hung = hung_looks looks told at is.hung;
        alone = λ y h. let was = is.alone y ((looks.stays.instead y at (λ n. n) (λ n. n)).0 h) in (was.0, epoch ∙ was.1 ∙ sym high);
      }

  pub unheld_on : NoneHeld a t → NoneHeld b t
  unheld_on none i score e = none i score (sym (told_same all looks told t t.depth i) ∙ e)

pub held_on : {a b : State} → KeepsAll a b → (kept : List Kept) → AllHeld a kept → AllHeld b kept
held_on all [] held = tt
held_on all (x ∷ rest) held = (λ told. all.same_held x.score x.kind ∙ held.0 (all.still_tells.0 told), held_on all rest held.1)

-- a source that was looked at stands over the blocks
pub over_looks : {a b : State} {t : Tree} {kept : List Kept} {limit : ℕ} → KeepsAll a b → Looks a b → Over a t kept limit → Over b t kept limit
over_looks {a = a} {b = b} {t = t} {kept = kept} all looks over = record {
  hangs = hangs_looks all looks over.hangs;
  least = over.least;
  within = over.within;
  low = over.low;
  empty = over.empty;
  holds = over.holds;
  free = λ told at e.
      let before = all.still_tells.0 told in
      ⊎_elim (λ h. inl ((looks.stays.apart at (λ n. n) (λ n. n)).1 h)) (λ r. inr (reaches_on a b t all looks before at r)) (over.free before at e);
  told = λ told at has. let before = all.still_tells.0 told in told_on a b t all looks before t.top at (over.told before at (blocks_back a b t all looks before at has));
  unheld = λ told other. let before = all.still_tells.0 told in unheld_on a b t all looks before (over.unheld before other);
  held = held_on all kept over.held;
}

pub over_extends : {s : State} {t : Tree} {kept more : List Kept} {limit : ℕ} → Over s t kept limit → Extends s kept more → Over s t more limit
over_extends over grown = record {
  hangs = over.hangs;
  least = over.least;
  within = over.within;
  low = over.low;
  empty = over.empty;
  holds = over.holds;
  free = over.free;
  told = over.told;
  unheld = over.unheld;
  held = grown.held;
}

-- ---- what was prepared

nil_local : (at : ℕ) → Nil ≡ Local at → ⊥
nil_local at e = cc

held_local : (score : Score) (at : ℕ) → Held score ≡ Local at → ⊥
held_local score at e = cc

local_same : (x y : ℕ) → Local x ≡ Local y → x ≡ y
local_same x y e = cc

pub ready_block : (s : State) (t : Tree) (kept : List Kept) (down : ℕ) (p : Pointer) → Ready s t kept down p → Got s (kind_down t down) p
ready_block s t kept down Nil ready at e = absurd (nil_local at e)
ready_block s t kept down (Local x) ready at e = subst (λ y. IsGot s (kind_down t down) y) (local_same x at e) (record { is_pinned = ready.is_pinned; has_kind = ready.has_kind })
ready_block s t kept down (Held score) ready at e = absurd (held_local score at e)

pub ready_got : (s : State) (t : Tree) (kept : List Kept) (n k : ℕ) → WayReady s t kept n k → WayGot s t n k
ready_got s t kept zero k ready = (tt, ready_block s t kept zero t.top ready)
ready_got s t kept (suc n) k ready =
    let above = ready_got s t kept n (k / 409) ready.0 in
    ((above.0, above.1), address_got s (kind_down t (suc n)) (sym (seen_address s kept t (suc n) k)) (ready_block s t kept (suc n) (block_at (seen s kept) t (suc n) k) ready.1))

-- the last block of a way
pub top_ready : (s : State) (t : Tree) (kept : List Kept) (n k : ℕ) → WayReady s t kept n k → Ready s t kept n (block_at (seen s kept) t n k)
top_ready s t kept zero k ready = ready
top_ready s t kept (suc n) k ready = ready.1

module _ (a b : State) (t : Tree) (kept more : List Kept) (all : KeepsAll a b) (looks : Looks a b) (grown : Extends b kept more) where
  found_on : (score : Score) (kind : ℕ) (bytes : List ℕ) → find_kept kept score kind ≡ Some bytes → find_kept more score kind ≡ Some bytes
  found_on score kind bytes e = subst (λ (xs : List Kept). find_kept xs score kind ≡ Some bytes) (sym grown.is) (find_more kept grown.more score kind bytes e)

  pub kept_on : (score : Score) (kind : ℕ) → IsKept kept score kind → IsKept more score kind
  kept_on score kind is = (is.0, found_on score kind is.0 is.1)

  held_same_kept : (score : Score) (kind : ℕ) → IsKept kept score kind → (seen b more).held score kind ≡ (seen a kept).held score kind
  held_same_kept score kind is = ap (λ f. or_held f (b.held score kind)) (found_on score kind is.0 is.1) ∙ sym (ap (λ f. or_held f (a.held score kind)) is.1)

  block_on : (down at : ℕ) → IsPrepared a (kind_down t down) t.tag at → IsPrepared b (kind_down t down) t.tag at
  block_on down at is =
      let same : b.label at ≡ a.label at = looks.stays.labels at (λ n. n) in
      let epoch : (b.label at).epoch ≡ (a.label at).epoch = ap (λ (l : Label). l.epoch) same in
      let high = all.same_high in
      let up = is.up_to in
      record {
        is_pinned = (looks.stays.marks at (λ n. n)).0 is.is_pinned;
        live = ap (λ (l : Label). l.state) same ∙ is.live;
        has_kind = ap (λ (l : Label). l.kind) same ∙ is.has_kind;
        tagged = ap (λ (l : Label). l.tag) same ∙ is.tagged;
        up_to = omega (arith, epoch, high, up);
        long = ap (λ (xs : List ℕ). length xs) (looks.known at is.is_pinned).bytes ∙ is.long;
      }

  pub ready_on : (down : ℕ) (p : Pointer) → Ready a t kept down p → Ready b t more down p
  ready_on down Nil is = is
  ready_on down (Local at) is = block_on down at is
  ready_on down (Held score) is = (kept_on score (kind_code (kind_down t down)) is.0, is.1)

  -- where a block leads that was prepared
  below_on : (down : ℕ) (p : Pointer) (i : ℕ) → Ready a t kept down p → below (seen b more) (kind_down t down) p i ≡ below (seen a kept) (kind_down t down) p i
  below_on down Nil i is = refl
  below_on down (Local at) i is = ap (λ (s : Slot). target s) ((looks.known at is.is_pinned).slots i)
  below_on down (Held score) i is = ap (λ h. score_in h i) (held_same_kept score (kind_code (kind_down t down)) is.0)

  step_same : (n k : ℕ) → block_at (seen b more) t n (k / 409) ≡ block_at (seen a kept) t n (k / 409) → Ready a t kept n (block_at (seen a kept) t n (k / 409)) → block_at (seen b more) t (suc n) k ≡ block_at (seen a kept) t (suc n) k
  step_same n k above is =
      ap (λ (p : Pointer). below (seen b more) (kind_down t n) p (k % 409)) above
      ∙ below_on n (block_at (seen a kept) t n (k / 409)) (k % 409) is

  -- the same blocks are seen on a way that was prepared
  pub way_seen : (n k : ℕ) → WayReady a t kept n k → block_at (seen b more) t n k ≡ block_at (seen a kept) t n k
  way_seen zero k way = refl
  way_seen (suc n) k way = step_same n k (way_seen n (k / 409) way.0) (top_ready a t kept n (k / 409) way.0)

  pub block_same : (n k : ℕ) → WayReady a t kept n (k / 409) → block_at (seen b more) t (suc n) k ≡ block_at (seen a kept) t (suc n) k
  block_same n k way = step_same n k (way_seen n (k / 409) way) (top_ready a t kept n (k / 409) way)

  pub way_on : (n k : ℕ) → (way : WayReady a t kept n k) → WayReady b t more n k
  way_on zero k way = ready_on zero t.top way
  way_on (suc n) k way = (way_on n (k / 409) way.0, subst (λ (p : Pointer). Ready b t more (suc n) p) (sym (block_same n k way.0)) (ready_on (suc n) (block_at (seen a kept) t (suc n) k) way.1))

  pub prepared_on : (limit o n : ℕ) → Prepared a t kept limit o n → Prepared b t more limit o n
  prepared_on limit o n was = record {
    each = λ k from to inside. way_on t.depth (k / 8192) (was.each k from to inside);
    last = λ past some. way_on t.depth ((t.size - 1) / 8192) (was.last past some);
    end = was.end;
  }

  pub current_on : IsTopCurrent a t → IsTopCurrent b t
  current_on top = record {
    at = top.at;
    is = top.is;
    current = ap (λ (l : Label). l.epoch) (looks.stays.labels top.at (λ n. n)) ∙ top.current ∙ sym all.same_high;
  }

  -- a source was only looked at
  pub same_leaves : AllHeld a kept → (limit : ℕ) → SameLeaves a.tells (leaves_of a t kept limit) (leaves_of b t more limit)
  same_leaves held limit = record {
    bytes = λ told. bytes_same a b t all looks told kept more held grown.held;
    leaves = λ told i. (address_same a b t all looks told i, held_same a b t all looks told kept more held grown.held i);
    owns = λ told at. (blocks_back a b t all looks told at, blocks_on a b t all looks told at);
    still = prepared_on limit;
    current = current_on;
  }

pub extends_none : {a b : State} → KeepsAll a b → (kept : List Kept) → AllHeld a kept → Extends b kept kept
extends_none all kept held = record { more = []; is = sym (append-nil kept); held = held_on all kept held }

pub extends_joins : {b c : State} {old mid new : List Kept} → Extends b old mid → Extends c mid new → Extends c old new
extends_joins {old = old} {mid = mid} {new = new} first second = record {
  more = first.more ++ second.more;
  is = second.is ∙ ap (λ (xs : List Kept). xs ++ second.more) first.is ∙ append_assoc old first.more second.more;
  held = second.held;
}

-- ---- what was prepared was got

pub leaf_got : (s : State) (t : Tree) (kept : List Kept) (i : ℕ) → WayReady s t kept t.depth i → LeafWay s t i
leaf_got s t kept i ready =
    let got = ready_got s t kept t.depth i ready in
    let none : t.depth - t.depth ≡ 0 = omega arith in
    record { way = got.0; leaf = subst (λ l. Got s (kind_at t.dir l) (block_at s t t.depth i)) none got.1 }

pub all_got : {s : State} {t : Tree} {kept : List Kept} {limit o n : ℕ} → Prepared s t kept limit o n → AllGot s t o n
all_got {s = s} {t = t} {kept = kept} was = record { each = λ k from to inside. leaf_got s t kept (k / 8192) (was.each k from to inside) }

-- a leaf is found where it was prepared
pub leaf_found : (s : State) (t : Tree) (kept : List Kept) (limit i : ℕ) → t.depth ≡ depth_for t.size → 8192 * i < t.size → Finds s.tells (depth_for t.size) s.pins_left (Prepared s t kept limit (8192 * i) 8192) → IsFound s t t.depth i
leaf_found s t kept limit i least inside finds = ⊎_elim
    (λ told. inl told)
    (λ pins. inr (⊎_elim
    (λ enough. inl (subst (λ d. d ≤ s.pins_left) (sym least) enough))
    (λ was.
    let ready : WayReady s t kept t.depth ((8192 * i) / 8192) = was.each (8192 * i) (omega arith) (omega arith) inside in
    let here : (8192 * i) / 8192 ≡ i = omega arith in
    let got = ready_got s t kept t.depth i (subst (λ k. WayReady s t kept t.depth k) here ready) in
    inr (i, record { from = omega arith; to = omega arith; way = got.0 }, omega arith))
    pins))
    finds

pub dir_false : (dir : Bool) → kind_at dir 0 ≡ Data 0 → dir ≡ false
dir_false true e = absurd (let h = e in cc)
dir_false false e = refl

-- what a read of the source finds, one of its tree does
pub tree_finds : (s : State) (t : Tree) (kept : List Kept) (limit o n : ℕ) → t.depth ≡ depth_for t.size → Finds s.tells (most_for t.size n) s.pins_left (Prepared s t kept limit o n) → Finds s.tells (most t.depth n) s.pins_left (AllGot s t o n)
tree_finds s t kept limit o n least finds = ⊎_elim
    (λ told. inl told)
    (λ pins. inr (⊎_elim
    (λ enough. inl (subst (λ d. n / 8192 + n / 2 ^ 21 + 3 * (d + 1) ≤ s.pins_left) (sym least) enough))
    (λ was. inr (all_got was))
    pins))
    finds

-- ---- one block

whole_from : (n : ℕ) (xs ys : List ℕ) → n < 8192 → drop n xs ≡ drop n ys → length xs ≡ 8192 → length ys ≡ 8192
whole_from n xs ys lt e long = let same = ap (λ (zs : List ℕ). length zs) e in omega (arith, lt, same, long, length-drop n xs, length-drop n ys)

-- a block that was read is whole
pub whole : (kind : Kind) (rank : ℕ) (c : Content) (into : List ℕ) → Reads kind c into → length into ≡ 8192 → length c.bytes ≡ 8192
whole (Data zero) rank c into reads long = whole_from 0 into c.bytes (omega arith) reads.behind long
whole (Data (suc level)) rank c into reads long = whole_from 8180 into c.bytes (omega arith) reads.behind long
whole (Dir zero) rank c into reads long = whole_from 8160 into c.bytes (omega arith) reads.behind long
whole (Dir (suc level)) rank c into reads long = whole_from 8180 into c.bytes (omega arith) reads.behind long
whole Root rank c into reads long = whole_from 104 into c.bytes (omega arith) reads.behind long
