-- A source of which levels go may be linked.
use Rattle.std.proofs.Common.{◌≡◌, ◌≢◌, ◌+◌, ◌-◌, ◌<◌, ◌≤◌, ℕ, zero, suc, Bool, true, false, List, inl, inr, refl, sym, ◌∙◌, ap, subst, arith}
use Rattle.fo_image.specs.declared.types.Score.{Score}
use Rattle.fo_image.specs.declared.types.Pointer.{Pointer}
use Rattle.fo_image.specs.declared.types.Pointer.TheVariants.{Nil, Local, Score as Held}
use Rattle.fo_crash.specs.declared.slot.Slot.{Slot}
use Rattle.fo_crash.specs.declared.slot.Slot.TheVariants.{Entry as Head}
use Rattle.fo_crash.specs.Images.{Reaches, target, walk, local, to_block}
use Rattle.fo_crash.proofs.Reach.{reaches_on, reaches_joins, reaches_same}
use Rattle.fo_ports.specs.Blocks.{dropped, zeros}
use Rattle.fo_ports.specs.State.{State}
use Rattle.fo_tree_read.specs.declared.tree.Tree.{Tree}
use Rattle.fo_tree_read.specs.Tree.{kind_down, below, block_at}
use Rattle.fo_tree_look.specs.declared.ways.Kept.{Kept}
use Rattle.fo_tree_open.specs.Open.{NamesRank}
use Rattle.fo_tree_open.proofs.Opened.{hangs_below}
use Rattle.fo_tree_link.specs.Link.{entry_of, led_from, CanLink}
use Rattle.fo_tree_link.proofs.Linked.{Linked, from_entry, none_waits}
use Rattle.fo_tree_link.proofs.Walks.{from_slot}

nil_local : (b : ℕ) → Nil ≡ Local b → ⊥
nil_local b e = cc

-- What the first slots of blocks lead down to from a slot is the first block of that level, over any device.
pub first_of : (s : State) (t : Tree) (n m : ℕ) (q : Slot) → ((x : ℕ) → target q ≡ Local x → block_at s t m 0 ≡ Local x) → (x : ℕ) → target (walk s.now q (zeros n)) ≡ Local x → block_at s t (m + n) 0 ≡ Local x
first_of s t zero m q here x is = ap (λ y. block_at s t y 0) (let e : m + zero ≡ m = omega arith in e) ∙ here x is
first_of s t (suc n) m q here x is = ap (λ y. block_at s t y 0) (let e : m + suc n ≡ suc m + n = omega arith in e) ∙ first_of s t n (suc m) ((local s.now (target q)).slot 0) (λ z leads. by (target q) refl z leads) x is
  where
    by : (p : Pointer) → target q ≡ p → (z : ℕ) → target ((local s.now (target q)).slot 0) ≡ Local z → block_at s t (suc m) 0 ≡ Local z
    by Nil e z leads = absurd (nil_local z (sym (ap (λ (p : Pointer). target ((local s.now p).slot 0)) e) ∙ leads))
    by (Held score) e z leads = absurd (nil_local z (sym (ap (λ (p : Pointer). target ((local s.now p).slot 0)) e) ∙ leads))
    by (Local a) e z leads = ap (λ (p : Pointer). below s (kind_down t m) p 0) (here a e) ∙ sym (ap (λ (p : Pointer). target ((local s.now p).slot 0)) e) ∙ leads

-- A source that hung from its entry has fewer levels now.
pub record Lower (s : State) (t new : Tree) (kept : List Kept) (limit generation at i : ℕ) : Type 0 where
  pub was : Linked s t kept limit generation at i
  pub same : (new.dir ≡ t.dir) × (new.rank ≡ t.rank)
  pub fewer : new.depth ≤ t.depth
  pub top : new.top ≡ block_at s t (t.depth - new.depth) 0
  pub local_down : (n : ℕ) (score : Score) → n < t.depth - new.depth → block_at s t n 0 ≢ Held score
  pub settled : t.dir ≡ true → (b j : ℕ) → s.clearing b j → Reaches s.now (Head (entry_of t generation)) b → Reaches s.now (Head (entry_of new generation)) b

module _ {s : State} {t new : Tree} {kept : List Kept} {limit generation at i : ℕ} (x : Lower s t new kept limit generation at i) where
  abbrev d : ℕ
  d = t.depth - new.depth

  -- the first slots of blocks lead down the first blocks of each level
  walk_first : (n m : ℕ) (q : Slot) → m + n ≤ d → target q ≡ block_at s t m 0 → target (walk s.now q (zeros n)) ≡ block_at s t (m + n) 0
  walk_first zero m q le is = is ∙ ap (λ y. block_at s t y 0) (let e : m ≡ m + zero = omega arith in e)
  walk_first (suc n) m q le is = walk_first n (suc m) ((local s.now (target q)).slot 0) (omega (arith, le)) (by (block_at s t m 0) refl) ∙ ap (λ y. block_at s t y 0) (let e : suc m + n ≡ m + suc n = omega arith in e)
    where
      by : (p : Pointer) → block_at s t m 0 ≡ p → target ((local s.now (target q)).slot 0) ≡ block_at s t (suc m) 0
      by Nil e = ap (λ (p : Pointer). target ((local s.now p).slot 0)) (is ∙ e) ∙ sym (ap (λ (p : Pointer). below s (kind_down t m) p 0) e)
      by (Local a) e = ap (λ (p : Pointer). target ((local s.now p).slot 0)) (is ∙ e) ∙ sym (ap (λ (p : Pointer). below s (kind_down t m) p 0) e)
      by (Held score) e = absurd (x.local_down m score (omega (arith, le)) e)

  led_is : target (led_from s at i (entry_of new generation)) ≡ new.top
  led_is =
      ap (λ (q : Slot). target (walk s.now q (zeros (dropped q (Head (entry_of new generation)))))) x.was.entry
      ∙ walk_first d 0 (Head (entry_of t generation)) (omega arith) refl
      ∙ ap (λ y. block_at s t y 0) (let e : 0 + d ≡ d = omega arith in e)
      ∙ sym x.top

  -- its top is a block of the source that there was
  top_linked : (b : ℕ) → new.top ≡ Local b → Reaches s.now (to_block 1) b
  top_linked b is = x.was.linked.owned b (record { down = d; index = 0; within = omega arith; is = sym x.top ∙ is })

  leaf_linked : (n k a : ℕ) → block_at s new n k ≡ Local a → Reaches s.now (to_block 1) a
  leaf_linked n k a is =
      let f = from_slot s.now (Head (entry_of new generation)) a (hangs_below s new (Head (entry_of new generation)) refl n k a is) in
      reaches_joins (top_linked f.block f.is) f.reaches

  still : (b j : ℕ) → s.clearing b j → Reaches s.now ((s.now at).slot i) b → Reaches s.now (led_from s at i (entry_of new generation)) b
  still b j waits r = by t.dir refl
    where
      by : (p : Bool) → t.dir ≡ p → Reaches s.now (led_from s at i (entry_of new generation)) b
      by true dir = reaches_same {s = Head (entry_of new generation)} {t = led_from s at i (entry_of new generation)} (sym led_is) (x.settled dir b j waits (from_entry x.was b r))
      by false plain = absurd (none_waits x.was plain b j waits r)

  pub can_lower : CanLink s new generation at i
  can_lower = record {
    in_tree = x.was.linked.in_tree;
    ranked = λ p stands.
        subst (λ d. NamesRank p.kind p.rank i d new.rank) (sym x.same.0)
        (subst (λ r. NamesRank p.kind p.rank i t.dir r) (sym x.same.1) (x.was.linked.ranked p stands));
    comes = inr (inl (sym led_is, λ b is apart. x.was.linking.laws.apart_hangs x.was.told b apart (top_linked b is)));
    only = λ y z h r. absurd (x.was.linked.none y z h);
    names = λ dir k a j b is leads. reaches_on j (leaf_linked new.depth k a is) leads;
    down = λ some b is. (b, led_is ∙ is);
    still = λ some b j waits r. still b j waits r;
  }
