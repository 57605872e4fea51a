-- What a source has stays where others change blocks.
use Rattle.std.proofs.Common.{◌≡◌, ◌+◌, ◌-◌, ◌*◌, ◌/◌, ◌%◌, ◌^◌, ◌<◌, ◌≤◌, ℕ, zero, suc, Bool, true, false, cond, nat_lt, List, Option, None, inr, refl, ⊎_elim, sym, ap, ◌∙◌, subst, arith}
use Rattle.fo_image.specs.declared.types.Kind.{Kind}
use Rattle.fo_image.specs.declared.types.Kind.TheVariants.{Dir, Root}
use Rattle.fo_image.specs.declared.types.Score.{Score}
use Rattle.fo_image.specs.declared.types.Label.{Label}
use Rattle.fo_image.specs.declared.types.Pointer.{Pointer}
use Rattle.fo_image.specs.declared.types.Pointer.TheVariants.{Nil, Local, Score as Held}
use Rattle.fo_image.specs.Format.{kind_code}
use Rattle.fo_tree_read.specs.of_crash.declared.slot.Slot.{Slot}
use Rattle.fo_tree_read.specs.of_crash.declared.place.Place.{Place}
use Rattle.fo_tree_read.specs.of_crash.Images.{target}
use Rattle.fo_tree_read.specs.of_crash.Places.{place, super_place, IsPlaced, OnePlace}
use Rattle.fo_tree_read.specs.of_ports.State.{State, KeepsAll}
use Rattle.fo_tree_read.specs.of_ports.Sources.{IsReady, StaysReady, StaysInPlace, Undisturbed}
use Rattle.fo_tree_read.proofs.of_looks.Looks.{rooted_of_hung}
use Rattle.fo_tree_read.specs.declared.tree.Tree.{Tree}
use Rattle.fo_tree_read.specs.Tree.{kind_at, kind_down, score_in, below, block_at, leaf_at, address_of, held_of}
use Rattle.fo_tree_read.proofs.Walk.{is_down}
use Rattle.fo_tree_look.specs.declared.ways.Kept.{Kept}
use Rattle.fo_tree_look.specs.Source.{HasBlock, IsTold, Over, address_here, find_kept, or_held, seen, held_here, IsPrepared, Ready, WayReady, Prepared, IsTopCurrent, leaves_of}
use Rattle.fo_tree_look.proofs.Held.{seen_leaf}
use Rattle.fo_tree_look.proofs.Shown.{held_on, top_ready}

-- a part of what is prepared is prepared
pub part_prepared : {s : State} {t : Tree} {kept : List Kept} {limit o n : ℕ} (p m : ℕ) → Prepared s t kept limit o n → o ≤ p → p + m ≤ o + n → Prepared s t kept limit p m
part_prepared p m was from to = record {
  each = λ k above below inside. was.each k (omega (arith, from, above)) (omega (arith, below, to)) inside;
  last = λ past some. was.last (omega (arith, past, to)) some;
  end = let end = was.end in omega (arith, end, to);
}

-- where a block leads whose slots stay
below_stays : (a b : State) (kind : Kind) (p : Pointer) (i : ℕ) → ((score : Score) (k : ℕ) → b.held score k ≡ a.held score k) → ((at : ℕ) → p ≡ Local at → (j : ℕ) → (b.now at).slot j ≡ (a.now at).slot j) → below b kind p i ≡ below a kind p i
below_stays a b kind Nil i held known = refl
below_stays a b kind (Local at) i held known = ap (λ (s : Slot). target s) (known at refl i)
below_stays a b kind (Held score) i held known = ap (λ h. score_in h i) (held score (kind_code kind))

inner_apart : (dir : Bool) (level : ℕ) → 0 < level → kind_at dir level ≡ Dir 0 → ⊥
inner_apart true (suc level) lt e = cc
inner_apart true zero lt e = absurd (omega (arith, lt))
inner_apart false level lt e = cc

root_apart : (dir : Bool) (level : ℕ) → kind_at dir level ≡ Root → ⊥
root_apart true level e = cc
root_apart false level e = cc

-- ---- what is prepared

module _ (t : Tree) (kept : List Kept) (a b : State) (all : KeepsAll a b)
    (stays : (at : ℕ) → IsReady t.tag a at → StaysReady a b at) where
  ready_stays : (at : ℕ) (down : ℕ) → IsPrepared a (kind_down t down) t.tag at → StaysReady a b at
  ready_stays at down was = stays at (record { is_pinned = was.is_pinned; live = was.live; tagged = was.tagged })

  slots_stay : (at down : ℕ) → down < t.depth → IsPrepared a (kind_down t down) t.tag at → (j : ℕ) → (b.now at).slot j ≡ (a.now at).slot j
  slots_stay at down lt was = ⊎_elim
      (λ leaf. absurd (inner_apart t.dir (t.depth - down) (omega (arith, lt)) (sym was.has_kind ∙ leaf)))
      (λ same. same)
      (ready_stays at down was).same_slots

  block_ready : (at down : ℕ) → IsPrepared a (kind_down t down) t.tag at → IsPrepared b (kind_down t down) t.tag at
  block_ready at down was =
      let still = ready_stays at down was in
      let epoch : (b.label at).epoch ≡ (a.label at).epoch = ap (λ (l : Label). l.epoch) still.same_label in
      let high = all.same_high in
      let up = was.up_to in
      record {
        is_pinned = still.is_pinned;
        live = ap (λ (l : Label). l.state) still.same_label ∙ was.live;
        has_kind = ap (λ (l : Label). l.kind) still.same_label ∙ was.has_kind;
        tagged = ap (λ (l : Label). l.tag) still.same_label ∙ was.tagged;
        up_to = omega (arith, epoch, high, up);
        long = still.same_length ∙ was.long;
      }

  pointer_ready : (down : ℕ) (p : Pointer) → Ready a t kept down p → Ready b t kept down p
  pointer_ready down Nil was = was
  pointer_ready down (Local at) was = block_ready at down was
  pointer_ready down (Held score) was = was

  ready_known : (down : ℕ) (p : Pointer) → down < t.depth → Ready a t kept down p → (at : ℕ) → p ≡ Local at → (j : ℕ) → (b.now at).slot j ≡ (a.now at).slot j
  ready_known down p lt was at e = slots_stay at down lt (subst (λ (q : Pointer). Ready a t kept down q) e was)

  way_same : (n k : ℕ) → n ≤ t.depth → WayReady a t kept n k → block_at (seen b kept) t n k ≡ block_at (seen a kept) t n k
  way_same zero k le way = refl
  way_same (suc n) k le way =
      ap (λ (x : Pointer). below (seen b kept) (kind_down t n) x (k % 409)) (way_same n (k / 409) (omega (arith, le)) way.0)
      ∙ below_stays (seen a kept) (seen b kept) (kind_down t n) (block_at (seen a kept) t n (k / 409)) (k % 409) (λ score kind. ap (λ h. or_held (find_kept kept score kind) h) (all.same_held score kind)) (ready_known n (block_at (seen a kept) t n (k / 409)) (omega (arith, le)) (top_ready a t kept n (k / 409) way.0))

  way_ready : (n k : ℕ) → n ≤ t.depth → WayReady a t kept n k → WayReady b t kept n k
  way_ready zero k le way = pointer_ready zero t.top way
  way_ready (suc n) k le way = (
    way_ready n (k / 409) (omega (arith, le)) way.0,
    subst (λ (p : Pointer). Ready b t kept (suc n) p) (sym (way_same (suc n) k le way)) (pointer_ready (suc n) (block_at (seen a kept) t (suc n) k) way.1),
  )

  pub source_prepared : (limit o n : ℕ) → Prepared a t kept limit o n → Prepared b t kept limit o n
  source_prepared limit o n was = record {
    each = λ k from to inside. way_ready t.depth (k / 8192) (omega arith) (was.each k from to inside);
    last = λ past some. way_ready t.depth ((t.size - 1) / 8192) (omega arith) (was.last past some);
    end = was.end;
  }

-- the current epoch stays where the label does
pub top_stays : (a b : State) (t : Tree) → KeepsAll a b → ((at : ℕ) → HasBlock a t at → b.label at ≡ a.label at) → IsTopCurrent a t → IsTopCurrent b t
top_stays a b t all same top = record {
  at = top.at;
  is = top.is;
  current = ap (λ (l : Label). l.epoch) (same top.at (record { down = 0; index = 0; within = omega arith; is = top.is })) ∙ top.current ∙ sym all.same_high;
}

-- ---- leaves

-- What a device that tells says of its places and labels.
pub record Says (s : State) : Type 0 where
  pub placed : IsPlaced s.stands s.now
  pub one : OnePlace s.stands
  pub super_stands : s.stands 1 super_place
  pub labelled : (at : ℕ) (p : Place) → (at ≡ 1 → ⊥) → s.stands at p → (s.label at).kind ≡ p.kind
  pub active : s.tops 1

module _ (a b : State) (t : Tree) (kept : List Kept) (limit : ℕ) (all : KeepsAll a b) (over : Over a t kept limit) (told : a.tells) (says : Says a)
    (still : Undisturbed (leaves_of a t kept limit) t.size a b) where
  in_place : (n k at : ℕ) → n ≤ t.depth → block_at a t n k ≡ Local at → StaysInPlace a b at
  in_place n k at le e = (still.each at (record { down = n; index = k; within = le; is = e })).0

  kind_is : (n k at : ℕ) → n ≤ t.depth → block_at a t n k ≡ Local at → (a.label at).kind ≡ kind_down t n
  kind_is n k at le e =
      let down = is_down a t says.placed over.hangs told n k at le e in
      let there = place (kind_down t n) t.tag down.index (t.rank + (t.depth - n)) in
      says.labelled at there
      (λ first. root_apart t.dir (t.depth - n) (ap (λ (p : Place). p.kind) (says.one.each 1 there super_place (subst (λ x. a.stands x there) first down.stands) says.super_stands)))
      down.stands

  slots_kept : (n k at : ℕ) → n < t.depth → block_at a t n k ≡ Local at → (j : ℕ) → (b.now at).slot j ≡ (a.now at).slot j
  slots_kept n k at lt e = ⊎_elim
      (λ leaf. absurd (inner_apart t.dir (t.depth - n) (omega (arith, lt)) (sym (kind_is n k at (omega (arith, lt)) e) ∙ leaf)))
      (λ same. same)
      (in_place n k at (omega (arith, lt)) e).same_slots

  pub block_kept : (n k : ℕ) → n ≤ t.depth → block_at b t n k ≡ block_at a t n k
  block_kept zero k le = refl
  block_kept (suc n) k le =
      ap (λ (x : Pointer). below b (kind_down t n) x (k % 409)) (block_kept n (k / 409) (omega (arith, le)))
      ∙ below_stays a b (kind_down t n) (block_at a t n (k / 409)) (k % 409) all.same_held (λ at e. slots_kept n (k / 409) at (omega (arith, le)) e)

  leaf_kept : (i : ℕ) → leaf_at b t i ≡ leaf_at a t i
  leaf_kept i = ap (λ (p : Pointer). cond (nat_lt i (409 ^ t.depth)) p Nil) (block_kept t.depth i (omega arith))

  pub address_kept : (i : ℕ) → address_here b t i ≡ address_here a t i
  address_kept i = ap (λ (p : Pointer). cond (nat_lt (8192 * i) t.size) (address_of p) None) (leaf_kept i)

  held_of_kept : (p : Pointer) → held_of b (kind_at t.dir 0) p ≡ held_of a (kind_at t.dir 0) p
  held_of_kept Nil = refl
  held_of_kept (Local at) = refl
  held_of_kept (Held score) = all.same_held score (kind_code (kind_at t.dir 0))

  pub held_kept : (i : ℕ) → held_here b t kept i ≡ held_here a t kept i
  held_kept i =
      seen_leaf b t kept (held_on all kept over.held) (all.still_tells.1 told) i
      ∙ ap (λ (p : Pointer). cond (nat_lt (8192 * i) t.size) (held_of b (kind_at t.dir 0) p) None) (leaf_kept i)
      ∙ ap (λ (h : Option (List ℕ)). cond (nat_lt (8192 * i) t.size) h None) (held_of_kept (leaf_at a t i))
      ∙ sym (seen_leaf a t kept over.held told i)

  pub blocks_back : (at : ℕ) → HasBlock b t at → HasBlock a t at
  blocks_back at has = record { down = has.down; index = has.index; within = has.within; is = sym (block_kept has.down has.index has.within) ∙ has.is }

  pub blocks_on : (at : ℕ) → HasBlock a t at → HasBlock b t at
  blocks_on at has = record { down = has.down; index = has.index; within = has.within; is = block_kept has.down has.index has.within ∙ has.is }

  told_kept : (at : ℕ) → HasBlock b t at → IsTold b t.top at
  told_kept at has =
      let was = blocks_back at has in
      let is = over.told told at was in
      let place = (still.each at was).0 in
      let epoch : (b.label at).epoch ≡ (a.label at).epoch = ap (λ (l : Label). l.epoch) place.same_label in
      let high = all.same_high in
      let up = is.up_to in
      record {
        live = ap (λ (l : Label). l.state) place.same_label ∙ is.live;
        up_to = omega (arith, epoch, high, up);
        uncovered = place.uncovered is.uncovered;
        in_tree = λ older. place.in_tree (is.in_tree (omega (arith, epoch, high, older)));
        hung = place.hung is.hung;
        alone = λ y h. let was = is.alone y (place.instead y h) in (was.0, epoch ∙ was.1 ∙ sym high);
      }

  pub over_told : Over b t kept limit
  over_told = record {
    hangs = record {
      few = over.hangs.few;
      room = over.hangs.room;
      low = over.hangs.low;
      is_one = λ at e. (all.same_blocks at).1 (over.hangs.is_one at e);
      told = λ now at e. let was = over.hangs.told told at e in let here = in_place 0 0 at (omega arith) e in (here.same_places (over.told told at (top_block at e)).hung (place (kind_at t.dir t.depth) t.tag 0 (t.rank + t.depth)) was.0, here.uncovered was.1);
      rooted = λ now at e. rooted_of_hung b ((all.same_tops 1).1 says.active) (told_kept at (top_block at e)).hung;
    };
    least = over.least;
    within = over.within;
    low = over.low;
    empty = over.empty;
    holds = over.holds;
    free = λ now at e. let here = in_place 0 0 at (omega arith) e in ⊎_elim here.linked (λ r. inr (here.in_tree r)) (over.free told at e);
    told = λ now at has. told_kept at has;
    unheld = λ now other i score e. over.unheld told other i score (sym (block_kept t.depth i (omega arith)) ∙ e);
    held = held_on all kept over.held;
  }
    where
      top_block : {s : State} (at : ℕ) → t.top ≡ Local at → HasBlock s t at
      top_block at e = record { down = 0; index = 0; within = omega arith; is = e }

-- over any device: where it tells, by what is said of it then
pub over_stays : (a b : State) (t : Tree) (kept : List Kept) (limit : ℕ) → KeepsAll a b → Over a t kept limit → (a.tells → Says a) → (a.tells → Undisturbed (leaves_of a t kept limit) t.size a b) → Over b t kept limit
over_stays a b t kept limit all over says still = record {
  hangs = record {
    few = over.hangs.few;
    room = over.hangs.room;
    low = over.hangs.low;
    is_one = λ at e. (all.same_blocks at).1 (over.hangs.is_one at e);
    told = λ now. (by (all.still_tells.0 now)).hangs.told now;
    rooted = λ now. (by (all.still_tells.0 now)).hangs.rooted now;
  };
  least = over.least;
  within = over.within;
  low = over.low;
  empty = over.empty;
  holds = over.holds;
  free = λ now. (by (all.still_tells.0 now)).free now;
  told = λ now. (by (all.still_tells.0 now)).told now;
  unheld = λ now. (by (all.still_tells.0 now)).unheld now;
  held = held_on all kept over.held;
}
  where
    by : a.tells → Over b t kept limit
    by told = over_told a b t kept limit all over told (says told) (still told)
