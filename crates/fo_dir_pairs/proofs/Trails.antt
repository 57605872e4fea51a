-- Paths from one top of one image that come to spots of one trail, level and index are one path. (As in fo_crash, proofs/Spots, where it is for
-- that file alone.)
use Rattle.std.proofs.Common.{◌≡◌, ◌⊎◌, inl, inr, ℕ, zero, suc, ◌+◌, ◌*◌, ◌<◌, ◌≤◌, Bool, true, false, cond, nat_eq, List, [], ◌∷◌, ◌++◌, length, refl, sym, ◌∙◌, ap, subst, arith}
use Rattle.fo_image.specs.declared.types.Kind.{Kind}
use Rattle.fo_image.specs.declared.types.Kind.TheVariants.{Data, Dir, Root}
use Rattle.fo_image.specs.declared.types.Pointer.{Pointer}
use Rattle.fo_image.specs.declared.types.Pointer.TheVariants.{Nil, Local, Score as Held}
use Rattle.fo_crash.specs.declared.slot.Slot.{Slot}
use Rattle.fo_crash.specs.declared.slot.Slot.TheVariants.{Pointer as To, Entry as Head, Prev}
use Rattle.fo_crash.specs.declared.place.Place.{Place}
use Rattle.fo_crash.specs.Images.{Image, target, local, walk, to_block, kind_of_top, depth_of}
use Rattle.fo_crash.specs.Places.{super_place, root_place, IsPlaced}
use Rattle.fo_crash.specs.Spots.{Spot, spot_below, top_spot, spot_at, slots_of, FewSlots}
use Rattle.fo_crash.proofs.Reach.{lost}

abbrev pub level_of : Kind → ℕ
level_of (Data n) = n
level_of (Dir n) = n
level_of Root = 0

abbrev pub class_of : Kind → ℕ
class_of (Data n) = 0
class_of (Dir n) = 1
class_of Root = 2

-- one level lower in the same source
pub record Inner (p : Spot) (i : ℕ) (q : Spot) : Type 0 where
  pub class : class_of q.place.kind ≡ class_of p.place.kind
  pub level : level_of p.place.kind ≡ suc (level_of q.place.kind)
  pub index : q.place.index ≡ 409 * p.place.index + i
  pub trail : q.trail ≡ p.trail
  pub few : i < 409
  pub not_root : class_of p.place.kind ≡ 2 → ⊥

-- which entry of its source a slot of a block that holds entries is
abbrev pub Holds : Spot → ℕ → ℕ → Type 0
Holds p i n = ((p.place.kind ≡ Dir 0) × (n ≡ 204 * p.place.index + i) × (i < 204)) ⊎ ((p.place.kind ≡ Root) × (n ≡ i))

-- the top of a source
pub record Outer (p : Spot) (i : ℕ) (s : Slot) (q : Spot) : Type 0 where
  pub kind : q.place.kind ≡ kind_of_top s
  pub index : q.place.index ≡ 0
  pub entry : ℕ
  pub trail : q.trail ≡ entry ∷ p.trail
  pub holds : Holds p i entry

abbrev spot : Kind → ℕ → ℕ → ℕ → List ℕ → Spot
spot kind tag index rank trail = record { place = record { kind = kind; tag = tag; index = index; rank = rank }; trail = trail }

at_kind : (kind : Kind) (tag index rank : ℕ) (trail : List ℕ) (i : ℕ) (s : Slot) → i < slots_of kind → Inner (spot kind tag index rank trail) i (spot_below (spot kind tag index rank trail) i s) ⊎ Outer (spot kind tag index rank trail) i s (spot_below (spot kind tag index rank trail) i s)
at_kind (Data zero) tag index rank trail i s few = let no : i < 0 = few in absurd (omega (arith, no))
at_kind (Data (suc l)) tag index rank trail i s few = inl (record { class = refl; level = refl; index = refl; trail = refl; few = few; not_root = λ e. let no : 0 ≡ 2 = e in omega (arith, no) })
at_kind (Dir (suc l)) tag index rank trail i s few = inl (record { class = refl; level = refl; index = refl; trail = refl; few = few; not_root = λ e. let no : 1 ≡ 2 = e in omega (arith, no) })
at_kind (Dir zero) tag index rank trail i s few = inr (record { kind = refl; index = refl; entry = 204 * index + i; trail = refl; holds = inl (refl, refl, few) })
at_kind Root tag index rank trail i s few = inr (record { kind = refl; index = refl; entry = i; trail = refl; holds = inr (refl, refl) })

level_top : (s : Slot) → level_of (kind_of_top s) ≡ depth_of s
level_top (Head e) = by e.dir e.depth
  where
    by : (b : Bool) (d : ℕ) → level_of (cond b (Dir d) (Data d)) ≡ d
    by true d = refl
    by false d = refl
level_top (To p) = refl
level_top (Prev epoch at) = refl

top_kind : (t : ℕ) → (top_spot t).place.kind ≡ Root
top_kind t = by (nat_eq t 1)
  where
    by : (b : Bool) → (cond {A = Spot} b (record { place = super_place; trail = [] }) (record { place = root_place; trail = 0 ∷ [] })).place.kind ≡ Root
    by true = refl
    by false = refl

top_index : (t : ℕ) → (top_spot t).place.index ≡ 0
top_index t = by (nat_eq t 1)
  where
    by : (b : Bool) → (cond {A = Spot} b (record { place = super_place; trail = [] }) (record { place = root_place; trail = 0 ∷ [] })).place.index ≡ 0
    by true = refl
    by false = refl

local_is : {a b : ℕ} → Local a ≡ Local b → a ≡ b
local_is e = cc

first_is : {m n : ℕ} {xs ys : List ℕ} → m ∷ xs ≡ n ∷ ys → m ≡ n
first_is e = cc

rest_is : {m n : ℕ} {xs ys : List ℕ} → m ∷ xs ≡ n ∷ ys → xs ≡ ys
rest_is e = cc

both : {i j : ℕ} {p q : List ℕ} → i ≡ j → p ≡ q → i ∷ p ≡ j ∷ q
both {i} {j} {p} {q} e f = ap (λ k. k ∷ p) e ∙ ap (λ k. j ∷ k) f

-- one entry of two blocks alike is one slot of blocks of one level and index
pub same_holder : (p q : Spot) (i j m n : ℕ) → Holds p i m → Holds q j n → m ≡ n → class_of p.place.kind ≡ class_of q.place.kind → (class_of p.place.kind ≡ 2 → p.place.index ≡ 0) → (class_of q.place.kind ≡ 2 → q.place.index ≡ 0) → (level_of p.place.kind ≡ level_of q.place.kind) × (p.place.index ≡ q.place.index) × (i ≡ j)
same_holder p q i j m n (inl x) (inl y) e class pr qr =
    let mi = x.1 in let nj = y.1 in let li = x.2 in let lj = y.2 in
    let index : p.place.index ≡ q.place.index = omega (arith, mi, nj, li, lj, e) in
    (ap level_of (x.0 ∙ sym y.0), index, omega (arith, mi, nj, e, index))
same_holder p q i j m n (inr x) (inr y) e class pr qr =
    let mi = x.1 in let nj = y.1 in
    (ap level_of (x.0 ∙ sym y.0), pr (ap class_of x.0) ∙ sym (qr (ap class_of y.0)), omega (arith, mi, nj, e))
same_holder p q i j m n (inl x) (inr y) e class pr qr =
    let no : 1 ≡ 2 = sym (ap class_of x.0) ∙ class ∙ ap class_of y.0 in absurd (omega (arith, no))
same_holder p q i j m n (inr x) (inl y) e class pr qr =
    let no : 2 ≡ 1 = sym (ap class_of x.0) ∙ class ∙ ap class_of y.0 in absurd (omega (arith, no))

-- a path turned round, before another
abbrev pub onto : List ℕ → List ℕ → List ℕ
onto [] back = back
onto (i ∷ path) back = onto path (i ∷ back)

onto_onto : (path back : List ℕ) → onto (onto path back) [] ≡ onto back path
onto_onto [] back = refl
onto_onto (i ∷ path) back = onto_onto path (i ∷ back)

-- A path from a top, its last step first, leads to this block, and comes to this spot.
unfoldable pub At : Image → ℕ → List ℕ → ℕ → Spot → Type 0
At image t [] b q = (b ≡ t) × (q ≡ top_spot t)
At image t (i ∷ path) b q = (a : ℕ) × (p : Spot) × At image t path a p × (target ((image a).slot i) ≡ Local b) × (q ≡ spot_below p i ((image a).slot i))

one_more : (image : Image) (t : ℕ) (back : List ℕ) (s : Slot) (i a c : ℕ) (p : Spot) → At image t back a p → (local image (target s)).slot i ≡ (image a).slot i → target ((local image (target s)).slot i) ≡ Local c → At image t (i ∷ back) c (spot_below p i ((local image (target s)).slot i))
unfolding At
one_more image t back s i a c p at is q = (a, p, at, ap target (sym is) ∙ q, ap (λ x. spot_below p i x) is)

-- a path with its first step first
along : (image : Image) (t : ℕ) (path back : List ℕ) (s : Slot) (a b : ℕ) (p : Spot) → target s ≡ Local a → At image t back a p → target (walk image s path) ≡ Local b → At image t (onto path back) b (spot_at image p s path)
along image t [] back s a b p to at e = subst (λ x. At image t back x p) (local_is (sym to ∙ e)) at
along image t (i ∷ path) back s a b p to at e = by (target ((local image (target s)).slot i)) refl (λ c q there. along image t path (i ∷ back) ((local image (target s)).slot i) c b (spot_below p i ((local image (target s)).slot i)) q there e)
  where
    is : (local image (target s)).slot i ≡ (image a).slot i
    is = ap (λ x. (local image x).slot i) to

    by : (x : Pointer) → target ((local image (target s)).slot i) ≡ x → ((c : ℕ) → target ((local image (target s)).slot i) ≡ Local c → At image t (i ∷ back) c (spot_below p i ((local image (target s)).slot i)) → At image t (onto path (i ∷ back)) b (spot_at image (spot_below p i ((local image (target s)).slot i)) ((local image (target s)).slot i) path)) → At image t (onto path (i ∷ back)) b (spot_at image (spot_below p i ((local image (target s)).slot i)) ((local image (target s)).slot i) path)
    by Nil q on = absurd (lost image path ((local image (target s)).slot i) (λ c h. let x : Nil ≡ Local c = sym q ∙ h in cc) b e)
    by (Held x) q on = absurd (lost image path ((local image (target s)).slot i) (λ c h. let y : Held x ≡ Local c = sym q ∙ h in cc) b e)
    by (Local c) q on = on c q (one_more image t back s i a c p at is q)

starts : (image : Image) (t : ℕ) → At image t [] t (top_spot t)
unfolding At
starts image t = (refl, refl)

pub back_at : (image : Image) (t : ℕ) (path : List ℕ) (b : ℕ) → target (walk image (to_block t) path) ≡ Local b → At image t (onto path []) b (spot_at image (top_spot t) (to_block t) path)
back_at image t path b e = along image t path [] (to_block t) t b (top_spot t) refl (starts image t) e

pub det : (image : Image) (t : ℕ) (path : List ℕ) (a b : ℕ) (p q : Spot) → At image t path a p → At image t path b q → a ≡ b
unfolding At
det image t [] a b p q x y = x.0 ∙ sym y.0
det image t (i ∷ path) a b p q (c, r, up, leads, there) (d, u, up', leads', there') =
    let above = det image t path c d r u up up' in
    local_is (sym leads ∙ ap (λ x. target ((image x).slot i)) above ∙ leads')

-- the entry from which the source of a spot hangs, on the way to it
record TopOf (image : Image) (t : ℕ) (path : List ℕ) (p : Spot) : Type 0 where
  way : List ℕ
  block : ℕ
  holder : Spot
  slot : ℕ
  entry : ℕ
  at : At image t way block holder
  shorter : length way < length path
  trail : p.trail ≡ entry ∷ holder.trail
  holds : Holds holder slot entry
  deep : level_of p.place.kind ≤ depth_of ((image block).slot slot)

-- What is known of two paths to spots of one trail.
pub record Alike (p q : List ℕ) (x y : Spot) : Type 0 where
  pub class : class_of x.place.kind ≡ class_of y.place.kind
  pub path : level_of x.place.kind ≡ level_of y.place.kind → x.place.index ≡ y.place.index → p ≡ q

-- A path goes on from a slot that is this entry, of a block at a spot with this trail.
pub record Via (image : Image) (t n : ℕ) (trail : List ℕ) : Type 0 where
  pub way : List ℕ
  pub block : ℕ
  pub holder : Spot
  pub slot : ℕ
  pub below : ℕ
  pub at : At image t way block holder
  pub trail_is : holder.trail ≡ trail
  pub holds : Holds holder slot n
  pub leads : target ((image block).slot slot) ≡ Local below

pub length_less : (xs : List ℕ) (n : ℕ) (ys : List ℕ) → length ys < length (xs ++ n ∷ ys)
length_less [] n ys = omega arith
length_less (x ∷ xs) n ys = let lt = length_less xs n ys in omega (arith, lt)

-- a path of one image in another, which leads on in the same way
pub at_too : (image other : Image) (t : ℕ) → ((a j c : ℕ) → target ((image a).slot j) ≡ Local c → (other a).slot j ≡ (image a).slot j) → (path : List ℕ) (b : ℕ) (q : Spot) → At image t path b q → At other t path b q
unfolding At
at_too image other t same [] b q at = at
at_too image other t same (i ∷ path) b q (a, p, up, leads, there) = (a, p, at_too image other t same path a p up, ap target (same a i b leads) ∙ leads, there ∙ ap (λ x. spot_below p i x) (sym (same a i b leads)))

module _ {stands : ℕ → Place → Type 0} {image : Image} {t : ℕ} (placed : IsPlaced stands image) (few : FewSlots stands image) (top_stands : stands t (top_spot t).place) where
  pub stands_at : (path : List ℕ) (a : ℕ) (p : Spot) → At image t path a p → stands a p.place
  unfolding At
  stands_at [] a p at = subst (λ (x : Spot). stands a x.place) (sym at.1) (subst (λ x. stands x (top_spot t).place) (sym at.0) top_stands)
  stands_at (i ∷ path) b q (a, p, up, leads, there) = subst (λ (x : Spot). stands b x.place) (sym there) (placed.each a i b p.place (stands_at path a p up) leads)

  -- how a spot is below another
  pub steps : (path : List ℕ) (a i b : ℕ) (p q : Spot) → At image t path a p → target ((image a).slot i) ≡ Local b → q ≡ spot_below p i ((image a).slot i) → Inner p i q ⊎ Outer p i ((image a).slot i) q
  steps path a i b p q at leads there = subst (λ x. Inner p i x ⊎ Outer p i ((image a).slot i) x) (sym there) (at_kind p.place.kind p.place.tag p.place.index p.place.rank p.trail i ((image a).slot i) (few.each a i b p.place (stands_at path a p at) leads))

  top_class : (a : ℕ) (p : Spot) → At image t [] a p → class_of p.place.kind ≡ 2
  unfolding At
  top_class a p at = ap (λ (x : Spot). class_of x.place.kind) at.1 ∙ ap class_of (top_kind t)

  -- trails grow from the top's on
  pub no_less : (path : List ℕ) (a : ℕ) (p : Spot) → At image t path a p → length (top_spot t).trail ≤ length p.trail
  unfolding At
  no_less [] a p at = let e : length p.trail ≡ length (top_spot t).trail = ap (λ (x : Spot). length x.trail) at.1 in omega (arith, e)
  no_less (i ∷ path) b q (a, p, up, leads, there) = by (steps path a i b p q up leads there) (no_less path a p up)
    where
      by : Inner p i q ⊎ Outer p i ((image a).slot i) q → length (top_spot t).trail ≤ length p.trail → length (top_spot t).trail ≤ length q.trail
      by (inl c) le = let e : length q.trail ≡ length p.trail = ap length c.trail in omega (arith, e, le)
      by (inr o) le = let e : length q.trail ≡ suc (length p.trail) = ap length o.trail in omega (arith, e, le)

  longer : (i : ℕ) (path : List ℕ) (b : ℕ) (q : Spot) → At image t (i ∷ path) b q → length (top_spot t).trail < length q.trail
  unfolding At
  longer i [] b q (a, p, up, leads, there) = by (steps [] a i b p q up leads there)
    where
      by : Inner p i q ⊎ Outer p i ((image a).slot i) q → length (top_spot t).trail < length q.trail
      by (inl c) = absurd (c.not_root (top_class a p up))
      by (inr o) = let le = no_less [] a p up in let e : length q.trail ≡ suc (length p.trail) = ap length o.trail in omega (arith, e, le)
  longer i (j ∷ path) b q (a, p, up, leads, there) = by (steps (j ∷ path) a i b p q up leads there) (longer j path a p up)
    where
      by : Inner p i q ⊎ Outer p i ((image a).slot i) q → length (top_spot t).trail < length p.trail → length (top_spot t).trail < length q.trail
      by (inl c) lt = let e : length q.trail ≡ length p.trail = ap length c.trail in omega (arith, e, lt)
      by (inr o) lt = let e : length q.trail ≡ suc (length p.trail) = ap length o.trail in omega (arith, e, lt)

  pub root_index : (path : List ℕ) (a : ℕ) (p : Spot) → At image t path a p → class_of p.place.kind ≡ 2 → p.place.index ≡ 0
  unfolding At
  root_index [] a p at is = ap (λ (x : Spot). x.place.index) at.1 ∙ top_index t
  root_index (i ∷ path) b q (a, p, up, leads, there) is = by (steps path a i b p q up leads there)
    where
      by : Inner p i q ⊎ Outer p i ((image a).slot i) q → q.place.index ≡ 0
      by (inl c) = absurd (c.not_root (sym c.class ∙ is))
      by (inr o) = o.index

  top_of : (path : List ℕ) (a : ℕ) (p : Spot) → At image t path a p → (class_of p.place.kind ≡ 2 → ⊥) → TopOf image t path p
  unfolding At
  top_of [] a p at inner = absurd (inner (top_class a p at))
  top_of (i ∷ path) b q (a, p, up, leads, there) inner = by (steps path a i b p q up leads there) (top_of path a p up)
    where
      by : Inner p i q ⊎ Outer p i ((image a).slot i) q → ((class_of p.place.kind ≡ 2 → ⊥) → TopOf image t path p) → TopOf image t (i ∷ path) q
      by (inl c) on =
          let o = on c.not_root in
          record {
            way = o.way;
            block = o.block;
            holder = o.holder;
            slot = o.slot;
            entry = o.entry;
            at = o.at;
            shorter = let s = o.shorter in omega (arith, s);
            trail = c.trail ∙ o.trail;
            holds = o.holds;
            deep = let d = o.deep in let l = c.level in omega (arith, d, l);
          }
      by (inr o) on = record {
        way = path;
        block = a;
        holder = p;
        slot = i;
        entry = o.entry;
        at = up;
        shorter = omega arith;
        trail = o.trail;
        holds = o.holds;
        deep = let l : level_of q.place.kind ≡ depth_of ((image a).slot i) = ap level_of o.kind ∙ level_top ((image a).slot i) in omega (arith, l);
      }

  -- A block at the top of a source is not at a lower level of it.
  apart_levels : (p q : List ℕ) (c d j : ℕ) (r u y : Spot) (at_r : At image t p c r) (at_u : At image t q d u) (o : TopOf image t p r) (v : Outer u j ((image d).slot j) y) → r.trail ≡ y.trail → level_of y.place.kind < level_of r.place.kind → (o.holder.trail ≡ u.trail → Alike o.way q o.holder u) → ⊥
  apart_levels p q c d j r u y at_r at_u o v e lower on =
      let pair : o.entry ∷ o.holder.trail ≡ v.entry ∷ u.trail = sym o.trail ∙ e ∙ v.trail in
      let alike = on (rest_is pair) in
      let same = same_holder o.holder u o.slot j o.entry v.entry o.holds v.holds (first_is pair) alike.class (root_index o.way o.block o.holder o.at) (root_index q d u at_u) in
      let way = alike.path same.0 same.1 in
      let block = det image t q o.block d o.holder u (subst (λ w. At image t w o.block o.holder) way o.at) at_u in
      let depth : depth_of ((image o.block).slot o.slot) ≡ depth_of ((image d).slot j) = ap (λ z. depth_of ((image z).slot o.slot)) block ∙ ap (λ z. depth_of ((image d).slot z)) same.2 in
      let level : level_of y.place.kind ≡ depth_of ((image d).slot j) = ap level_of v.kind ∙ level_top ((image d).slot j) in
      let deep = o.deep in
      omega (arith, depth, level, deep, lower)

  pub main : (n : ℕ) (p q : List ℕ) (a b : ℕ) (x y : Spot) → length p + length q ≤ n → At image t p a x → At image t q b y → x.trail ≡ y.trail → Alike p q x y
  unfolding At
  main n [] [] a b x y le at_x at_y e = record { class = top_class a x at_x ∙ sym (top_class b y at_y); path = λ l i. refl }
  main n [] (j ∷ q) a b x y le at_x at_y e =
      let lt = longer j q b y at_y in
      let l : length (top_spot t).trail ≡ length y.trail = sym (ap (λ (s : Spot). length s.trail) at_x.1) ∙ ap length e in
      absurd (omega (arith, lt, l))
  main n (i ∷ p) [] a b x y le at_x at_y e =
      let lt = longer i p a x at_x in
      let l : length x.trail ≡ length (top_spot t).trail = ap length e ∙ ap (λ (s : Spot). length s.trail) at_y.1 in
      absurd (omega (arith, lt, l))
  main zero (i ∷ p) (j ∷ q) a b x y le at_x at_y e = absurd (omega (arith, le))
  main (suc n) (i ∷ p) (j ∷ q) a b x y le (c, r, up, leads, there) (d, u, up', leads', there') e =
      by (steps p c i a r x up leads there) (steps q d j b u y up' leads' there')
      (λ same. main n p q c d r u (omega (arith, le)) up up' same)
      (λ same. main n p (j ∷ q) c b r y (omega (arith, le)) up (d, u, up', leads', there') same)
      (λ same. main n (i ∷ p) q a d x u (omega (arith, le)) (c, r, up, leads, there) up' same)
      (λ way s holder short at same. main n way q s d holder u (omega (arith, le, short)) at up' same)
      (λ way s holder short at same. main n way p s c holder r (omega (arith, le, short)) at up same)
    where
      by : Inner r i x ⊎ Outer r i ((image c).slot i) x → Inner u j y ⊎ Outer u j ((image d).slot j) y
          → (r.trail ≡ u.trail → Alike p q r u)
          → (r.trail ≡ y.trail → Alike p (j ∷ q) r y)
          → (x.trail ≡ u.trail → Alike (i ∷ p) q x u)
          → ((way : List ℕ) (s : ℕ) (holder : Spot) → length way < length p → At image t way s holder → holder.trail ≡ u.trail → Alike way q holder u)
          → ((way : List ℕ) (s : ℕ) (holder : Spot) → length way < length q → At image t way s holder → holder.trail ≡ r.trail → Alike way p holder r)
          → Alike (i ∷ p) (j ∷ q) x y
      by (inl v) (inl w) on left right wl wr =
          let alike = on (sym v.trail ∙ e ∙ w.trail) in
          record {
            class = v.class ∙ alike.class ∙ sym w.class;
            path = λ l k.
                let vi = v.index in let wi = w.index in let fi = v.few in let fj = w.few in
                let lv = v.level in let lw = w.level in
                let index : r.place.index ≡ u.place.index = omega (arith, vi, wi, k, fi, fj) in
                both (omega (arith, vi, wi, k, index)) (alike.path (omega (arith, lv, lw, l)) index);
          }
      by (inr v) (inr w) on left right wl wr =
          let pair : v.entry ∷ r.trail ≡ w.entry ∷ u.trail = sym v.trail ∙ e ∙ w.trail in
          let alike = on (rest_is pair) in
          let same = same_holder r u i j v.entry w.entry v.holds w.holds (first_is pair) alike.class (root_index p c r up) (root_index q d u up') in
          let way = alike.path same.0 same.1 in
          let block = det image t q c d r u (subst (λ z. At image t z c r) way up) up' in
          let slot : (image c).slot i ≡ (image d).slot j = ap (λ z. (image z).slot i) block ∙ ap (λ z. (image d).slot z) same.2 in
          record {
            class = ap class_of (v.kind ∙ ap kind_of_top slot ∙ sym w.kind);
            path = λ l k. both same.2 way;
          }
      by (inl v) (inr w) on left right wl wr =
          let above : r.trail ≡ y.trail = sym v.trail ∙ e in
          let alike = left above in
          let o = top_of p c r up v.not_root in
          record {
            class = v.class ∙ alike.class;
            path = λ l k. let lv = v.level in absurd (apart_levels p q c d j r u y up up' o w above (omega (arith, lv, l)) (λ same. wl o.way o.block o.holder o.shorter o.at same));
          }
      by (inr v) (inl w) on left right wl wr =
          let above : u.trail ≡ x.trail = sym w.trail ∙ sym e in
          let alike = right (sym above) in
          let o = top_of q d u up' w.not_root in
          record {
            class = alike.class ∙ sym w.class;
            path = λ l k. let lw = w.level in absurd (apart_levels q p d c i u r x up' up o v above (omega (arith, lw, l)) (λ same. wr o.way o.block o.holder o.shorter o.at same));
          }

  -- where a trail has an entry, the path goes through its slot
  pub via : (path : List ℕ) (b : ℕ) (q : Spot) → At image t path b q → (front : List ℕ) (n : ℕ) (rest : List ℕ) → q.trail ≡ front ++ n ∷ rest → length (top_spot t).trail ≤ length rest → Via image t n rest
  unfolding At
  via [] b q at front n rest e le =
      let long : length q.trail ≡ length (top_spot t).trail = ap (λ (x : Spot). length x.trail) at.1 in
      let same : length q.trail ≡ length (front ++ n ∷ rest) = ap length e in
      let lt = length_less front n rest in
      absurd (omega (arith, long, same, lt, le))
  via (i ∷ path) b q (a, p, up, leads, there) front n rest e le = by (steps path a i b p q up leads there) front e (λ more same. via path a p up more n rest same le)
    where
      by : Inner p i q ⊎ Outer p i ((image a).slot i) q → (front : List ℕ) → q.trail ≡ front ++ n ∷ rest → ((more : List ℕ) → p.trail ≡ more ++ n ∷ rest → Via image t n rest) → Via image t n rest
      by (inl c) front e above = above front (sym c.trail ∙ e)
      by (inr o) [] e above =
          let pair : o.entry ∷ p.trail ≡ n ∷ rest = sym o.trail ∙ e in
          record { way = path; block = a; holder = p; slot = i; below = b; at = up; trail_is = rest_is pair; holds = subst (λ m. Holds p i m) (first_is pair) o.holds; leads = leads }
      by (inr o) (m ∷ front) e above = above front (rest_is (sym o.trail ∙ e))

  -- one entry of one trail is one slot of one block
  pub one_holder : (p q : List ℕ) (a b i j n : ℕ) (x y : Spot) → At image t p a x → At image t q b y → x.trail ≡ y.trail → Holds x i n → Holds y j n → (a ≡ b) × (i ≡ j)
  one_holder p q a b i j n x y at_x at_y e holds held =
      let alike = main (length p + length q) p q a b x y (omega arith) at_x at_y e in
      let same = same_holder x y i j n n holds held refl alike.class (root_index p a x at_x) (root_index q b y at_y) in
      (det image t q a b x y (subst (λ w. At image t w a x) (alike.path same.0 same.1) at_x) at_y, same.2)
