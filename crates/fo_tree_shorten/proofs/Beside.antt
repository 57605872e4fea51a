-- A source beside a block of another tag, into which a slot was put.
use Rattle.std.proofs.Common.{◌≡◌, ◌≢◌, ◌/◌, ◌%◌, ◌≤◌, ℕ, zero, suc, List, length, inr, refl, sym, ◌∙◌, ap, subst, arith}
use Rattle.fo_image.specs.declared.types.Label.{Label}
use Rattle.fo_image.specs.declared.types.Pointer.{Pointer}
use Rattle.fo_image.specs.declared.types.Pointer.TheVariants.{Nil, Local, Score as Held}
use Rattle.fo_image.specs.Format.{kind_code}
use Rattle.fo_crash.specs.declared.slot.Slot.{Slot}
use Rattle.fo_crash.specs.Images.{target}
use Rattle.fo_ports.specs.State.{State, KeepsAll}
use Rattle.fo_ports.specs.Sources.{IsReady, StaysReady, source_bytes}
use Rattle.fo_tree_read.specs.declared.tree.Tree.{Tree}
use Rattle.fo_tree_read.specs.Tree.{kind_down, below, score_in, block_at}
use Rattle.fo_tree_look.specs.declared.ways.Kept.{Kept}
use Rattle.fo_tree_look.specs.Source.{HasBlock, Over, WayReady, address_here, held_here}
use Rattle.fo_tree_look.proofs.Shown.{held_on}
use Rattle.fo_tree_link.specs.of_tree_down.Clear.{last_leaf}
use Rattle.fo_tree_link.specs.of_tree_down.Way.{IsCurrentAt, WayCurrent}
use Rattle.fo_tree_link.proofs.of_tree_down.Next.{local_seen, seen_local}
use Rattle.fo_tree_trim.specs.Trim.{OnEnd}
use Rattle.fo_tree_trim.proofs.Fronts.{bytes_same}
use Rattle.fo_tree_trim.proofs.Holding.{Holds, holds_stays}
use Rattle.fo_tree_trim.proofs.Knowing.{end_back}

-- A slot was put into this block, and all else stays.
pub record Beside (s u : State) (t : Tree) (at : ℕ) : Type 0 where
  pub all : KeepsAll s u
  pub slots : (b j : ℕ) → b ≢ at → (u.now b).slot j ≡ (s.now b).slot j
  pub bytes : (b : ℕ) → (u.now b).bytes ≡ (s.now b).bytes
  pub label : (b : ℕ) → u.label b ≡ s.label b
  pub marks : (b : ℕ) → s.pinned b → u.pinned b
  pub apart : (s.label at).tag ≢ t.tag

module _ {s u : State} {t : Tree} {at : ℕ} (x : Beside s u t at) where
  stays : (b : ℕ) → IsReady t.tag s b → StaysReady s u b
  stays b ready = record {
    is_pinned = x.marks b ready.is_pinned;
    same_label = x.label b;
    same_slots = inr (λ j. x.slots b j (λ e. x.apart (subst (λ y. (s.label y).tag ≡ t.tag) e ready.tagged)));
    same_length = ap length (x.bytes b);
  }

  module _ (kept : List Kept) where
    holds : Holds s u t kept kept
    holds = holds_stays s u t kept x.all stays

    pub ready_on : (n k : ℕ) → n ≤ t.depth → WayReady s t kept n k → WayReady u t kept n k
    ready_on n k le way = holds.ready n k le way

    current_at : (p : Pointer) → IsCurrentAt s p → IsCurrentAt u p
    current_at p c = (c.0, c.1, ap (λ (l : Label). l.epoch) (x.label c.0) ∙ c.2 ∙ sym x.all.same_high)

    pub current_on : (n k : ℕ) → n ≤ t.depth → WayReady s t kept n k → WayCurrent s t n k → WayCurrent u t n k
    current_on zero k le way c = current_at t.top c
    current_on (suc n) k le way c = (
      current_on n (k / 409) (omega (arith, le)) way.0 c.0,
      (
        c.1.0,
        seen_local u kept t (suc n) k c.1.0 (holds.step n k le way.0 ∙ local_seen s kept t (suc n) k c.1.0 c.1.1),
        ap (λ (l : Label). l.epoch) (x.label c.1.0) ∙ c.1.2 ∙ sym x.all.same_high,
      ),
    )

    -- what is above the last leaf was above it
    pub end_on : WayReady s t kept t.depth (last_leaf t.size) → (b : ℕ) → OnEnd u t b → OnEnd s t b
    end_on way b on = end_back {s = s} {u = u} t kept (record {
      each = λ a j c pinned tag e. ap (λ (q : Slot). target q) (sym (x.slots a j (λ here. x.apart (subst (λ y. (s.label y).tag ≡ t.tag) here tag)))) ∙ e;
    }) way b on

  -- where the device tells, all its blocks have its tag
  module _ (tagged : (b : ℕ) → HasBlock s t b → (s.label b).tag ≡ t.tag) where
    pub not_here : (b : ℕ) → HasBlock s t b → b ≢ at
    not_here b has e = x.apart (subst (λ y. (s.label y).tag ≡ t.tag) e (tagged b has))

    step : (n : ℕ) (p : Pointer) (i : ℕ) → ((b : ℕ) → p ≡ Local b → b ≢ at) → below u (kind_down t n) p i ≡ below s (kind_down t n) p i
    step n Nil i off = refl
    step n (Local b) i off = ap (λ (q : Slot). target q) (x.slots b i (off b refl))
    step n (Held score) i off = ap (λ h. score_in h i) (x.all.same_held score (kind_code (kind_down t n)))

    pub block_on : (n k : ℕ) → n ≤ t.depth → block_at u t n k ≡ block_at s t n k
    block_on zero k le = refl
    block_on (suc n) k le =
        ap (λ (p : Pointer). below u (kind_down t n) p (k % 409)) (block_on n (k / 409) (omega (arith, le)))
        ∙ step n (block_at s t n (k / 409)) (k % 409) (λ b e. not_here b (record { down = n; index = k / 409; within = omega (arith, le); is = e }))

    pub has_back : (b : ℕ) → HasBlock u t b → HasBlock s t b
    has_back b has = record { down = has.down; index = has.index; within = has.within; is = sym (block_on has.down has.index has.within) ∙ has.is }

    pub bytes_on : {kept : List Kept} {limit : ℕ} → s.tells → Over s t kept limit → source_bytes (address_here u t) (held_here u t kept) u.now t.size ≡ source_bytes (address_here s t) (held_here s t kept) s.now t.size
    bytes_on {kept = kept} told over = bytes_same {s = s} {u = u} {t = t} {new = t} {kept = kept} (record {
      told = told;
      now = x.all.still_tells.1 told;
      held = over.held;
      held_now = held_on x.all kept over.held;
      same_held = x.all.same_held;
      dir = refl;
      within = omega arith;
      room = over.hangs.room;
      room_now = over.hangs.room;
      each = λ i lt. block_on t.depth i (omega arith);
      content = λ i b lt e. x.bytes b;
    }) refl
