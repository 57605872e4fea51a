-- A block of pointers and a leaf were given out, and are put below the root block.
use Rattle.std.proofs.Common.{◌≡◌, ◌≢◌, ◌⊎◌, ◌-◌, ◌*◌, ◌^◌, ◌<◌, ◌≤◌, ℕ, true, false, inl, ⊎_elim, length, sym, ◌∙◌, ap, subst, arith}
use Rattle.fo_image.specs.declared.types.Entry.{Entry}
use Rattle.fo_image.specs.declared.types.Kind.{Kind}
use Rattle.fo_image.specs.declared.types.Kind.TheVariants.{Data, Dir}
use Rattle.fo_image.specs.declared.types.State.TheVariants.{Live}
use Rattle.fo_image.specs.declared.types.Label.{Label}
use Rattle.fo_image.specs.declared.types.Pointer.TheVariants.{Nil, Local}
use Rattle.fo_crash.specs.declared.slot.Slot.{Slot}
use Rattle.fo_crash.specs.declared.slot.Slot.TheVariants.{Pointer as To, Entry as Head}
use Rattle.fo_crash.specs.Images.{target}
use Rattle.fo_crash.specs.Steps.{PutsSlot}
use Rattle.fo_crash.specs.Names.{IsInUse, SameUse}
use Rattle.fo_ports.specs.Blocks.{IsEntry, SlotFits, blank, slot_count, cost, dropped, no_entry}
use Rattle.fo_ports.specs.State.{State, AddsNoWait, Frame, Gives, IsPairUsed, KeepsAll, KeepsOrder, none}
use Rattle.fo_ports.proofs.Lengths.{length_zero_bytes}
use Rattle.test_clients.specs.Found.{HasRoot, HasTree, two_leaves}

pub local_eq : {a b : ℕ} → Local a ≡ Local b → a ≡ b
local_eq e = cc

never : false ≡ true → ⊥
never e = cc

two_fit : (top : ℕ) → top < 2 ^ 32 - 1 → IsEntry (Head (two_leaves top))
two_fit top lt = (
  record {
    active_holds = (
      record {
        room = omega arith;
        least = λ n less. let zero_is : n ≡ 0 = omega (arith, less) in subst (λ x. 8192 * 409 ^ x < 16384) (sym zero_is) (omega arith);
      },
      lt,
    );
  },
  omega arith,
)

pub record Given (root top leaf : ℕ) (s t u : State) : Type 0 where
  pub is_root : root ≡ s.root
  pub had : HasRoot s
  pub first : Gives top (blank (Data 1)) (record { state = Live; kind = Data 1; tag = 40; epoch = s.high; closing = 2 ^ 32 - 1 }) s t
  pub second : Gives leaf (blank (Data 0)) (record { state = Live; kind = Data 0; tag = 40; epoch = t.high; closing = 2 ^ 32 - 1 }) t u
  pub all : KeepsAll s t
  pub more : KeepsAll t u

module _ {root top leaf : ℕ} {s t u : State} (c : Given root top leaf s t u) where
  pub ne_top : root ≢ top
  ne_top e = c.first.was.0 (ap (λ x. (s.label x).state) (sym e ∙ c.is_root) ∙ c.had.root_live)

  pub ne_leaf : root ≢ leaf
  ne_leaf e = c.second.was.0 (ap (λ x. (t.label x).state) (sym e) ∙ ap (λ (l : Label). l.state) (c.first.stays.labels root ne_top) ∙ ap (λ x. (s.label x).state) c.is_root ∙ c.had.root_live)

  pub ne_both : top ≢ leaf
  ne_both e = c.second.was.0 (ap (λ x. (t.label x).state) (sym e) ∙ ap (λ (l : Label). l.state) c.first.label)

  pub high : u.high ≡ s.high
  high = c.more.same_high ∙ c.all.same_high

  pub root_label : u.label root ≡ s.label s.root
  root_label = c.second.stays.labels root ne_leaf ∙ c.first.stays.labels root ne_top ∙ ap (λ x. s.label x) c.is_root

  pub root_pinned : u.pinned root
  root_pinned = (c.second.stays.marks root ne_leaf).0 ((c.first.stays.marks root ne_top).0 (subst (λ x. s.pinned x) (sym c.is_root) c.had.root_pinned))

  pub root_current : (u.label root).epoch ≡ u.high
  root_current = ap (λ (l : Label). l.epoch) root_label ∙ c.had.root_epoch ∙ sym high

  pub root_kind : (u.label root).kind ≡ Dir 0
  root_kind = ap (λ (l : Label). l.kind) root_label ∙ c.had.root_kind

  pub root_slot : (u.now root).slot 0 ≡ Head no_entry
  root_slot = (c.second.memory.others root ne_leaf).slots 0 ∙ (c.first.memory.others root ne_top).slots 0 ∙ ap (λ x. (s.now x).slot 0) c.is_root ∙ c.had.empty

  pub settled : (b j : ℕ) → u.clearing b j → ⊥
  settled b j w = c.had.settled b j (c.first.order.clearing b j (c.second.order.clearing b j w).1).1

  pub top_is_block : u.is_block top
  top_is_block = (c.more.same_blocks top).1 c.first.is.0

  pub top_label : u.label top ≡ record { state = Live; kind = Data 1; tag = 40; epoch = s.high; closing = 2 ^ 32 - 1 }
  top_label = c.second.stays.labels top ne_both ∙ c.first.label

  pub top_pinned : u.pinned top
  top_pinned = (c.second.stays.marks top ne_both).0 c.first.is.1

  pub top_slot : (u.now top).slot 1 ≡ To Nil
  top_slot = (c.second.memory.others top ne_both).slots 1 ∙ c.first.memory.here.slots 1

  -- the entry of the root block
  module _ (entry : Entry) (is : entry ≡ two_leaves top) (small : top < 2 ^ 32 - 1) where
    pub entry_spelled : (0 < slot_count (u.label root).kind) × SlotFits (u.label root).kind 0 (Head entry)
    entry_spelled = (
      subst (λ (k : Kind). 0 < slot_count k) (sym root_kind) (omega arith),
      subst (λ (k : Kind). SlotFits k 0 (Head entry)) (sym root_kind) (subst (λ (e : Entry). IsEntry (Head e)) (sym is) (two_fit top small)),
    )

    pub entry_use : IsPairUsed u.now root 0 → SameUse (Head entry) ((u.now root).slot 0)
    entry_use used = ⊎_elim
        (λ own. let off = subst (λ (x : Slot). IsInUse x own.0) root_slot own.1 in absurd (never off.0))
        (λ pair. let odd = pair.1 in absurd (omega (arith, odd)))
        used

    pub entry_leads : (b : ℕ) → target (Head entry) ≡ Local b → u.is_block b × (b ≢ root)
    entry_leads b e = let here : top ≡ b = local_eq (sym (ap (λ (x : Entry). x.top) is) ∙ e) in (subst (λ x. u.is_block x) here top_is_block, λ same. ne_top (sym (here ∙ same)))

    pub entry_room : cost ((u.now root).slot 0) (Head entry) ≤ u.room
    entry_room = subst (λ (x : Slot). cost x (Head entry) ≤ u.room) (sym root_slot) (subst (λ (e : Entry). cost (Head no_entry) (Head e) ≤ u.room) (sym is) (omega arith))

    pub entry_drops : (n : ℕ) → n < dropped ((u.now root).slot 0) (Head entry) → ⊥
    entry_drops n lt = let none : n < dropped (Head no_entry) (Head (two_leaves top)) = subst (λ (y : Entry). n < dropped (Head no_entry) (Head y)) is (subst (λ (y : Slot). n < dropped y (Head entry)) root_slot lt) in omega (arith, none)

-- The root block's entry was put.
pub record Linked (root top leaf : ℕ) (entry : Entry) (s t u v : State) : Type 0 where
  pub given : Given root top leaf s t u
  pub is : entry ≡ two_leaves top
  pub frame : Frame (λ b. b ≡ root) (λ b. (b ≡ root) ⊎ (target (Head entry) ≡ Local b)) (cost ((u.now root).slot 0) (Head entry)) u v
  pub order : KeepsOrder none u v
  pub no_wait : AddsNoWait none u v
  pub puts : PutsSlot root 0 (Head entry) u.now v.now
  pub later : KeepsAll u v

module _ {root top leaf : ℕ} {entry : Entry} {s t u v : State} (c : Linked root top leaf entry s t u v) where
  pub second_label : v.label top ≡ record { state = Live; kind = Data 1; tag = 40; epoch = s.high; closing = 2 ^ 32 - 1 }
  second_label = c.frame.stays.labels top (λ z. z) ∙ top_label c.given

  pub second_pinned : v.pinned top
  second_pinned = (c.frame.stays.marks top (λ z. z)).0 (top_pinned c.given)

  pub second_current : (v.label top).epoch ≡ v.high
  second_current = ap (λ (l : Label). l.epoch) second_label ∙ sym (c.later.same_high ∙ high c.given)

  pub second_kind : (v.label top).kind ≡ Data 1
  second_kind = ap (λ (l : Label). l.kind) second_label

  pub second_spelled : leaf < 2 ^ 32 - 1 → (1 < slot_count (v.label top).kind) × SlotFits (v.label top).kind 1 (To (Local leaf))
  second_spelled small = (
    subst (λ (k : Kind). 1 < slot_count k) (sym second_kind) (omega arith),
    subst (λ (k : Kind). SlotFits k 1 (To (Local leaf))) (sym second_kind) small,
  )

  pub second_settled : v.clearing top 1 → ⊥
  second_settled w = settled c.given top 1 (c.order.clearing top 1 w).1

  pub second_waits : (a : ℕ) → v.waits a top 1 → ⊥
  second_waits a w = c.given.first.is.5 a 1 (c.given.second.no_wait.each a top 1 (λ z. z) (c.no_wait.each a top 1 (λ z. z) w))

  pub leaf_is_block : v.is_block leaf
  leaf_is_block = (c.later.same_blocks leaf).1 c.given.second.is.0

  pub second_leads : (b : ℕ) → Local leaf ≡ Local b → v.is_block b × (b ≢ top)
  second_leads b e = let here : leaf ≡ b = local_eq e in (subst (λ x. v.is_block x) here leaf_is_block, λ same. ne_both c.given (sym (here ∙ same)))

  pub second_slot : (v.now top).slot 1 ≡ To Nil
  second_slot = c.puts.others top 1 (inl (λ e. ne_top c.given (sym e))) ∙ top_slot c.given

  pub second_room : cost ((v.now top).slot 1) (To (Local leaf)) ≤ v.room
  second_room = subst (λ (x : Slot). cost x (To (Local leaf)) ≤ v.room) (sym second_slot) (omega arith)

  pub second_drops : (n : ℕ) → n < dropped ((v.now top).slot 1) (To (Local leaf)) → ⊥
  second_drops n lt = let none_is : n < dropped (To Nil) (To (Local leaf)) = subst (λ (y : Slot). n < dropped y (To (Local leaf))) second_slot lt in omega (arith, none_is)

  -- The pointer was put, too.
  module _ {n : ℕ} {w : State} (frame : Frame (λ b. b ≡ top) (λ b. (b ≡ top) ⊎ (Local leaf ≡ Local b)) n v w) (order : KeepsOrder none v w) (puts : PutsSlot top 1 (To (Local leaf)) v.now w.now) (last : KeepsAll v w) where
    last_high : w.high ≡ s.high
    last_high = last.same_high ∙ c.later.same_high ∙ high c.given

    last_root : w.root ≡ root
    last_root = last.same_root ∙ c.later.same_root ∙ c.given.more.same_root ∙ c.given.all.same_root ∙ sym c.given.is_root

    last_label : (b : ℕ) → w.label b ≡ u.label b
    last_label b = frame.stays.labels b (λ z. z) ∙ c.frame.stays.labels b (λ z. z)

    last_pinned : (b : ℕ) → u.pinned b → w.pinned b
    last_pinned b h = (frame.stays.marks b (λ z. z)).0 ((c.frame.stays.marks b (λ z. z)).0 h)

    root_was : w.label w.root ≡ s.label s.root
    root_was = ap (λ x. w.label x) last_root ∙ last_label root ∙ root_label c.given

    leaf_was : w.label leaf ≡ record { state = Live; kind = Data 0; tag = 40; epoch = t.high; closing = 2 ^ 32 - 1 }
    leaf_was = last_label leaf ∙ c.given.second.label

    top_was : w.label top ≡ record { state = Live; kind = Data 1; tag = 40; epoch = s.high; closing = 2 ^ 32 - 1 }
    top_was = last_label top ∙ top_label c.given

    pub has_tree : HasTree w top leaf w.high
    has_tree = record {
      root_pinned = subst (λ x. w.pinned x) (sym last_root) (last_pinned root (root_pinned c.given));
      root_live = ap (λ (l : Label). l.state) root_was ∙ c.given.had.root_live;
      root_kind = ap (λ (l : Label). l.kind) root_was ∙ c.given.had.root_kind;
      root_epoch = ap (λ (l : Label). l.epoch) root_was ∙ c.given.had.root_epoch ∙ sym last_high;
      top_leads = ap (λ x. target ((w.now x).slot 0)) last_root ∙ ap target (puts.others root 0 (inl (ne_top c.given))) ∙ ap target c.puts.here ∙ ap (λ (e : Entry). e.top) c.is;
      top_pinned = last_pinned top (top_pinned c.given);
      top_live = ap (λ (l : Label). l.state) top_was;
      top_kind = ap (λ (l : Label). l.kind) top_was;
      top_epoch = ap (λ (l : Label). l.epoch) top_was ∙ sym last_high;
      leaf_leads = ap target puts.here;
      leaf_block = (last.same_blocks leaf).1 leaf_is_block;
      leaf_pinned = last_pinned leaf c.given.second.is.1;
      leaf_live = ap (λ (l : Label). l.state) leaf_was;
      leaf_kind = ap (λ (l : Label). l.kind) leaf_was;
      leaf_epoch = ap (λ (l : Label). l.epoch) leaf_was ∙ sym (last.same_high ∙ c.later.same_high ∙ c.given.more.same_high);
      leaf_long = ap length (puts.bytes leaf ∙ c.puts.bytes leaf ∙ c.given.second.memory.here.bytes) ∙ length_zero_bytes;
      settled = λ b j h. settled c.given b j (c.order.clearing b j (order.clearing b j h).1).1;
      apart = (λ e. c.given.had.not_one (sym (last_root ∙ c.given.is_root) ∙ e), c.given.first.was.1, c.given.second.was.1);
      beside = (λ e. ne_top c.given (sym (e ∙ last_root)), λ e. ne_leaf c.given (sym (e ∙ last_root)));
    }
