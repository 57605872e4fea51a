-- The steps of a change, one after another.
use Rattle.std.proofs.Common.{◌≡◌, ◌≢◌, ◌⊎◌, ◌-◌, ◌/◌, ◌<◌, ℕ, zero, suc, Bool, true, false, List, inl, inr, ⊎_elim, refl, sym, ap, subst, ◌∙◌, arith}
use Rattle.std.specs.Prelude.{Result, Ok, Err, IfErr}
use Rattle.fo_base.specs.Cause.{Rose}
use Rattle.fo_ports.specs.declared.error.BlockError.{BlockError}
use Rattle.fo_ports.specs.declared.error.BlockError.TheVariants.{Full, Damaged, Fault, Arena, Memory}
use Rattle.fo_ports.specs.Causes.{Caused}
use Rattle.fo_dirties.proofs.of_looks.Looks.{rose_later}
use Rattle.fo_image.specs.declared.types.Label.{Label}
use Rattle.fo_image.specs.declared.types.Kind.{Kind}
use Rattle.fo_image.specs.declared.types.Kind.TheVariants.{Data}
use Rattle.fo_image.specs.declared.types.State.{State as Living}
use Rattle.fo_image.specs.declared.types.State.TheVariants.{Free, Live, Closed}
use Rattle.fo_image.specs.declared.types.Pointer.TheVariants.{Local}
use Rattle.fo_crash.specs.declared.slot.Slot.{Slot}
use Rattle.fo_crash.specs.declared.slot.Slot.TheVariants.{Entry as Head}
use Rattle.fo_crash.specs.Images.{SameContent}
use Rattle.fo_crash.specs.Steps.{PutsSlot, cleared}
use Rattle.fo_ports.specs.Blocks.{cost}
use Rattle.fo_ports.specs.State.{State, KeepsAll, Looks, Rests, StaysKnown, KeepsSlot, Frame, KeepsOrder, AddsNoWait, none}
use Rattle.fo_ports.specs.Sources.{Made, Touched, Changes}
use Rattle.fo_tree_read.specs.declared.tree.Tree.{Tree}
use Rattle.fo_tree_read.specs.Tree.{kind_at}
use Rattle.fo_tree_look.specs.declared.ways.Kept.{Kept}
use Rattle.fo_tree_look.specs.Source.{HasBlock}
use Rattle.fo_tree_trim.specs.of_tree_down.Way.{with_top}
use Rattle.fo_tree_shorten.specs.of_tree_link.Link.{entry_of}
use Rattle.fo_tree_trim.specs.Cut.{CutSlot}
use Rattle.fo_tree_trim.proofs.Along.{Aside, on_device}
use Rattle.fo_tree_trim.proofs.Past.{index_above}
use Rattle.fo_tree_shorten.specs.Shorten.{EntryAt, Readies}
use Rattle.fo_files_write.specs.Alters.{MayChange, Alters, is_above, any_kind}

-- ---- a block that stays known

-- what has the slots that it had
pub known_same : (s u : State) (b : ℕ) → SameContent (u.now b) (s.now b) → ((k : ℕ) → s.clearing b k → u.clearing b k) → StaysKnown s u b
known_same s u b same goes_on = record { bytes = same.bytes; slots = λ k. inl (same.slots k, goes_on k) }

slot_joins : (s m u : State) (b k : ℕ) → (m.clearing b k → s.clearing b k) → (u.clearing b k → m.clearing b k) → KeepsSlot s m b k → KeepsSlot m u b k → KeepsSlot s u b k
slot_joins s m u b k back more_back first second = ⊎_elim
    (λ same. ⊎_elim
    (λ more. inl (more.0 ∙ same.0, λ h. more.1 (same.1 h)))
    (λ gone. inr (back gone.0, gone.1, gone.2 ∙ ap (λ (x : Slot). cleared x) same.0))
    second)
    (λ gone. ⊎_elim
    (λ more. inr (gone.0, λ h. gone.1 (more_back h), more.0 ∙ gone.2))
    (λ again. absurd (gone.1 again.0))
    second)
    first

known_joins : (s m u : State) (b : ℕ) → ((k : ℕ) → m.clearing b k → s.clearing b k) → ((k : ℕ) → u.clearing b k → m.clearing b k) → StaysKnown s m b → StaysKnown m u b → StaysKnown s u b
known_joins s m u b back more_back first second = record { bytes = second.bytes ∙ first.bytes; slots = λ k. slot_joins s m u b k (back k) (more_back k) (first.slots k) (second.slots k) }

-- ---- two changes

cases_live : (l : Living) → (l ≡ Live) ⊎ (l ≡ Live → ⊥)
cases_live Free = inr (λ e. cc)
cases_live Live = inl refl
cases_live Closed = inr (λ e. cc)

module _ {s m u : State} {at j tag : ℕ} {kinds : Kind → Type 0} (all : KeepsAll s m) (x : Alters at j tag kinds s m) (y : Alters at j tag kinds m u) where
  first_live : (b : ℕ) → Made s m b → Made m u b → ⊥
  first_live b first second = second.0 first.1

  made_first : (b : ℕ) → Made s m b → Made s u b
  made_first b made = (made.0, ap (λ (z : Label). z.state) (y.others b (first_live b made)).label ∙ made.1)

  made_second : (b : ℕ) → Made m u b → Made s u b
  made_second b made = (λ live. made.0 (ap (λ (z : Label). z.state) (x.others b (λ first. first.0 live)).label ∙ live), made.1)

  not_first : (b : ℕ) → (Made s u b → ⊥) → Made s m b → ⊥
  not_first b none made = none (made_first b made)

  not_second : (b : ℕ) → (Made s u b → ⊥) → Made m u b → ⊥
  not_second b none made = none (made_second b made)

  may_back : (b : ℕ) → (Made s m b → ⊥) → MayChange at tag kinds m b → MayChange at tag kinds s b
  may_back b none may = let same = (x.others b none).label in ⊎_elim
      (λ here. inl here)
      (λ own. inr (ap (λ (z : Label). z.epoch) (sym same) ∙ own.0 ∙ all.same_high, ap (λ (z : Label). z.tag) (sym same) ∙ own.1, subst kinds (ap (λ (z : Label). z.kind) same) own.2))
      may

  cases_made : (b : ℕ) → Made s u b → Made s m b ⊎ ((Made s m b → ⊥) × Made m u b)
  cases_made b made = ⊎_elim
      (λ live. inl (made.0, live))
      (λ none. inr (λ first. none first.1, (none, made.1)))
      (cases_live (m.label b).state)

  pub alters_joins : Alters at j tag kinds s u
  alters_joins = record {
    made = λ b made. ⊎_elim
        (λ first. let is = x.made b first in let stays = y.others b (first_live b first) in (
          is.0,
          ap (λ (z : Label). z.epoch) stays.label ∙ is.1,
          ap (λ (z : Label). z.tag) stays.label ∙ is.2,
          stays.is_pinned is.3,
        ))
        (λ second. let is = y.made b second.1 in (is.0, is.1 ∙ all.same_high, is.2, is.3))
        (cases_made b made);
    others = λ b none. let first = x.others b (not_first b none) in let second = y.others b (not_second b none) in record {
      label = second.label ∙ first.label;
      is_pinned = λ h. second.is_pinned (first.is_pinned h);
      still_sealed = λ h. second.still_sealed (first.still_sealed h);
    };
    memory = λ b pinned none not. known_joins s m u b (λ k h. (x.clearing b k h).1) (λ k h. (y.clearing b k h).1) (x.memory b pinned (not_first b none) not)
        (y.memory b ((x.others b (not_first b none)).is_pinned pinned) (not_second b none) (λ may. not (may_back b (not_first b none) may)));
    beside = λ k ne. slot_joins s m u at k (λ h. (x.clearing at k h).1) (λ h. (y.clearing at k h).1) (x.beside k ne) (y.beside k ne);
    bytes = y.bytes ∙ x.bytes;
    no_wait = record { each = λ a on n none h. x.no_wait.each a on n none (y.no_wait.each a on n none h) };
    clearing = λ b n h. let second = y.clearing b n h in let first = x.clearing b n second.1 in (λ made. ⊎_elim first.0 (λ z. second.0 z.1) (cases_made b made), first.1);
    usable = let first = x.usable in let second = y.usable in omega (arith, first, second);
    numbers = record { next = y.numbers.next ∙ x.numbers.next; grants = λ h. y.numbers.grants (x.numbers.grants h) };
  }

-- ---- kinds of steps

-- labels that stay give nothing out
none_made : (s u : State) → ((b : ℕ) → u.label b ≡ s.label b) → (b : ℕ) → Made s u b → ⊥
none_made s u same b made = made.0 (ap (λ (z : Label). z.state) (sym (same b)) ∙ made.1)

pub alters_none : (kinds : Kind → Type 0) (s : State) (at j tag : ℕ) → Alters at j tag kinds s s
alters_none kinds s at j tag = record {
  made = λ b made. absurd (none_made s s (λ x. refl) b made);
  others = λ b no. record { label = refl; is_pinned = λ h. h; still_sealed = λ h. h };
  memory = λ b pinned no not. record { bytes = refl; slots = λ k. inl (refl, λ h. h) };
  beside = λ k ne. inl (refl, λ h. h);
  bytes = refl;
  no_wait = record { each = λ a on n none h. h };
  clearing = λ b k h. (none_made s s (λ x. refl) b, h);
  usable = omega arith;
  numbers = record { next = refl; grants = λ h. h };
}

-- a look
pub alters_looks : (kinds : Kind → Type 0) (s u : State) (at j tag : ℕ) → Looks s u → s.pinned at → Alters at j tag kinds s u
alters_looks kinds s u at j tag looks pinned =
    let same : (b : ℕ) → u.label b ≡ s.label b = λ b. looks.stays.labels b (λ n. n) in
    record {
      made = λ b made. absurd (none_made s u same b made);
      others = λ b no. let marks = looks.stays.marks b (λ n. n) in record { label = same b; is_pinned = marks.0; still_sealed = marks.1 };
      memory = λ b is no not. known_same s u b (looks.known b is) (λ k h. looks.order.goes_on b k (λ n. n) h);
      beside = λ k ne. inl ((looks.known at pinned).slots k, λ h. looks.order.goes_on at k (λ n. n) h);
      bytes = (looks.known at pinned).bytes;
      no_wait = looks.no_wait;
      clearing = λ b k h. (none_made s u same b, (looks.order.clearing b k h).1);
      usable = let spare = looks.room.0 in let usable = looks.usable.0 in omega (arith, spare, usable);
      numbers = looks.numbers;
    }

-- The source's blocks were changed, and its entry was put.
pub record Moves (at j : ℕ) (s m u : State) (t : Tree) (slot : Slot) (mine inner : ℕ → Type 0) : Type 1 where
  pub changes : Changes t.tag mine inner s m
  pub puts : PutsSlot at j slot m.now u.now
  pub here : ℕ → Type 0
  pub put : ℕ → Type 0
  pub removals : ℕ
  pub frame : Frame here put removals m u
  pub order : KeepsOrder none m u
  pub no_wait : AddsNoWait none m u

pub alters_moves : (kinds : Kind → Type 0) (at j : ℕ) (s m u : State) (t : Tree) (generation : ℕ) (slot : Slot) (mine inner : ℕ → Type 0) → ((b : ℕ) → inner b → kinds (s.label b).kind) → EntryAt s t generation at j → Moves at j s m u t slot mine inner → Alters at j t.tag kinds s u
alters_moves kinds at j s m u t generation slot mine inner each e x =
    let c = x.changes in
    let label : (b : ℕ) → u.label b ≡ m.label b = λ b. x.frame.stays.labels b (λ h. h) in
    let made_back : (b : ℕ) → Made s u b → Made s m b = λ b made. (made.0, ap (λ (z : Label). z.state) (sym (label b)) ∙ made.1) in
    let made_on : (b : ℕ) → Made s m b → Made s u b = λ b made. (made.0, ap (λ (z : Label). z.state) (label b) ∙ made.1) in
    let at_apart : Touched s m t.tag inner at → ⊥ = λ touched. ⊎_elim (λ made. made.0 e.live) (λ own. e.apart own.2) touched in
    let at_stays : (k : ℕ) → s.clearing at k → u.clearing at k = λ k h. x.order.goes_on at k (λ n. n) (c.goes_on at k (λ made. made.0 e.live) h) in
    record {
      made = λ b made. let is = c.made b (made_back b made) in (
        is.was.0,
        ap (λ (z : Label). z.epoch) (label b) ∙ is.labelled.0,
        ap (λ (z : Label). z.tag) (label b) ∙ is.labelled.1,
        (x.frame.stays.marks b (λ h. h)).0 is.is_pinned,
      );
      others = λ b no. let was = c.others b (λ made. no (made_on b made)) in let marks = x.frame.stays.marks b (λ h. h) in record {
        label = label b ∙ was.label;
        is_pinned = λ h. marks.0 (was.marks.0 h);
        still_sealed = λ h. marks.1 (was.marks.1 h);
      };
      memory = λ b pinned no not.
          let same = c.memory b (λ touched. ⊎_elim (λ made. no (made_on b made)) (λ own. not (inr (own.1, own.2, each b own.0))) touched) in
          record {
            bytes = x.puts.bytes b ∙ same.bytes;
            slots = λ k. inl (
              x.puts.others b k (inl (λ here. not (inl here))) ∙ same.slots k,
              λ h. x.order.goes_on b k (λ n. n) (c.goes_on b k (λ made. no (made_on b made)) h),
            );
          };
      beside = λ k ne. inl (x.puts.others at k (inr ne) ∙ (c.memory at at_apart).slots k, at_stays k);
      bytes = x.puts.bytes at ∙ (c.memory at at_apart).bytes;
      no_wait = record { each = λ a on n none h. c.no_wait.each a on n none (x.no_wait.each a on n none h) };
      clearing = λ b k h. let was = c.clearing b k (x.order.clearing b k h).1 in (λ made. was.0 (made_back b made), was.1);
      usable = let first = c.usable in let spare = x.frame.uses.spare in let usable = x.frame.uses.usable in omega (arith, first, spare, usable);
      numbers = record { next = x.frame.numbers.next ∙ c.numbers.next; grants = λ h. x.frame.numbers.grants (c.numbers.grants h) };
    }

-- a settling
pub alters_rests : (kinds : Kind → Type 0) (s u : State) (at j tag : ℕ) → Rests s u → ((b : ℕ) → s.pinned b → StaysKnown s u b) → ((b : ℕ) → (u.label b ≡ s.label b) × (s.pinned b → u.pinned b) × (s.sealed b → u.sealed b)) → u.spare ≡ s.spare → s.pinned at → Alters at j tag kinds s u
alters_rests kinds s u at j tag rests known blocks spare pinned =
    let same : (b : ℕ) → u.label b ≡ s.label b = λ b. (blocks b).0 in
    record {
      made = λ b made. absurd (none_made s u same b made);
      others = λ b no. record { label = same b; is_pinned = (blocks b).1; still_sealed = (blocks b).2 };
      memory = λ b is no not. known b is;
      beside = λ k ne. (known at pinned).slots k;
      bytes = (known at pinned).bytes;
      no_wait = rests.no_wait;
      clearing = λ b k h. (none_made s u same b, rests.order b k h);
      usable = let usable = rests.usable in omega (arith, spare, usable);
      numbers = rests.numbers;
    }

local_same : {a b : ℕ} → Local a ≡ Local b → a ≡ b
local_same e = cc

kind_above : (dir : Bool) (n : ℕ) → 0 < n → dir ≡ false → kind_at dir n ≡ Data 0 → ⊥
kind_above true n some plain e = cc
kind_above false (suc n) some plain e = cc
kind_above false zero some plain e = absurd (omega (arith, some))

-- and a cut of what stands behind the end
pub alters_cuts : (s u : State) (t : Tree) (kept : List Kept) (last x generation at j : ℕ) → t.dir ≡ false → Aside s u t kept last x → EntryAt s t generation at j → Alters at j t.tag is_above s u
alters_cuts s u t kept last x generation at j plain aside e =
    let cuts = aside.cuts in
    let own : (b k : ℕ) → CutSlot s t last x b k → ((s.label b).epoch ≡ s.high) × ((s.label b).tag ≡ t.tag) × is_above (s.label b).kind = λ b k p.
    let d = on_device aside p.down (p.way / 409) p.within (index_above t.depth last p.down p.way p.is_way) in
    let here : d.at ≡ b = local_same (sym d.is ∙ p.is) in
    let within = p.within in
    (ap (λ y. (s.label y).epoch) (sym here) ∙ d.current, ap (λ y. (s.label y).tag) (sym here) ∙ d.ready.tagged, λ leaf. kind_above t.dir (t.depth - p.down) (omega (arith, within)) plain (sym d.ready.has_kind ∙ ap (λ y. (s.label y).kind) here ∙ leaf)) in
    record {
      made = λ b made. absurd (none_made s u cuts.labels b made);
      others = λ b no. let marks = cuts.marks b in record { label = cuts.labels b; is_pinned = marks.0; still_sealed = marks.1 };
      memory = λ b is no not. record {
        bytes = cuts.bytes b;
        slots = λ k. inl (⊎_elim (λ same. same) (λ cut. absurd (not (inr (own b k cut.0)))) (cuts.slots b k), (cuts.order b k).1);
      };
      beside = λ k ne. inl (⊎_elim (λ same. same) (λ cut. absurd (e.apart (own at k cut.0).1)) (cuts.slots at k), (cuts.order at k).1);
      bytes = cuts.bytes at;
      no_wait = cuts.no_wait;
      clearing = λ b k h. (none_made s u cuts.labels b, (cuts.order b k).0 h);
      usable = let spare = cuts.spare in let usable = cuts.usable in omega (arith, spare, usable);
      numbers = cuts.numbers;
    }

data_kind : (dir : Bool) → dir ≡ false → kind_at dir 0 ≡ Data 0
data_kind true plain = cc
data_kind false plain = refl

-- what makes a source ready to be cut
pub alters_readies : (s m u : State) (t : Tree) (generation at j top : ℕ) → t.dir ≡ false → EntryAt s t generation at j → Readies s m u t generation at j top → Alters at j t.tag is_above s u
alters_readies s m u t generation at j top plain e x =
    alters_moves is_above at j s m u t generation (Head (entry_of (with_top t top) generation)) (HasBlock s t) (λ b. HasBlock s t b × ((s.label b).kind ≢ kind_at t.dir 0)) (λ b own leaf. own.1 (leaf ∙ sym (data_kind t.dir plain))) e (record {
      changes = x.made;
      puts = x.linked.now;
      here = λ b. b ≡ at;
      put = λ b. (b ≡ at) ⊎ ((with_top t top).top ≡ Local b);
      removals = cost ((m.now at).slot j) (Head (entry_of (with_top t top) generation));
      frame = x.linked.frame;
      order = x.linked.order;
      no_wait = x.linked.no_wait;
    })

-- more kinds of blocks may be put into
pub alters_any : {s u : State} {at j tag : ℕ} → Alters at j tag is_above s u → Alters at j tag any_kind s u
alters_any x = record {
  made = x.made;
  others = x.others;
  memory = λ b pinned none not. x.memory b pinned none (λ may. not (⊎_elim (λ here. inl here) (λ own. inr (own.0, own.1, tt)) may));
  beside = x.beside;
  bytes = x.bytes;
  no_wait = x.no_wait;
  clearing = x.clearing;
  usable = x.usable;
  numbers = x.numbers;
}

pub pins_readies : (s m u : State) (t : Tree) (generation at j top : ℕ) → Readies s m u t generation at j top → u.pins_left ≡ s.pins_left
pins_readies s m u t generation at j top x = x.linked.frame.uses.pins ∙ x.made.pins

-- ---- calls after calls

pub keeps_two : {a b c : State} → KeepsAll a b → KeepsAll b c → KeepsAll a c
keeps_two p q = record {
  same_high = q.same_high ∙ p.same_high;
  same_low = q.same_low ∙ p.same_low;
  same_root = q.same_root ∙ p.same_root;
  same_tops = λ t. (λ h. (p.same_tops t).0 ((q.same_tops t).0 h), λ h. (q.same_tops t).1 ((p.same_tops t).1 h));
  same_blocks = λ b. (λ h. (p.same_blocks b).0 ((q.same_blocks b).0 h), λ h. (q.same_blocks b).1 ((p.same_blocks b).1 h));
  same_held = λ score kind. q.same_held score kind ∙ p.same_held score kind;
  same_limit = λ c. q.same_limit c ∙ p.same_limit c;
  same_label_blocks = λ b. q.same_label_blocks b ∙ p.same_label_blocks b;
  still_tells = (λ h. p.still_tells.0 (q.still_tells.0 h), λ h. q.still_tells.1 (p.still_tells.1 h));
  more_faults = let first = p.more_faults in let second = q.more_faults in omega (arith, first, second);
  more_arena_faults = let first = p.more_arena_faults in let second = q.more_arena_faults in omega (arith, first, second);
}

pub caused_rose : (a b c : State) → KeepsAll a b → (why : BlockError) → Caused ⊥ (λ x. ⊥) (Rose b.faults c.faults) ⊥ why → Caused ⊥ (λ x. ⊥) (Rose a.faults c.faults) ⊥ why
caused_rose a b c all Full cause = cause
caused_rose a b c all (Damaged x) cause = cause
caused_rose a b c all (Fault which) cause = rose_later a.faults b.faults c.faults all.more_faults cause
caused_rose a b c all (Arena which) cause = cause
caused_rose a b c all Memory cause = cause

-- the cause of a refusal, said of where a call before it began
pub refused_since : {A : Type 0} (a b c : State) → KeepsAll a b → (r : Result A BlockError) → IfErr r (Caused ⊥ (λ x. b.is_block x ⊎ (x ≡ 1)) (Rose b.faults c.faults) (Rose b.arena_faults c.arena_faults)) → IfErr r (Caused ⊥ (λ x. a.is_block x ⊎ (x ≡ 1)) (Rose a.faults c.faults) (Rose a.arena_faults c.arena_faults))
refused_since a b c all (Ok p) cause = cause
refused_since a b c all (Err Full) cause = cause
refused_since a b c all (Err (Damaged x)) cause = ⊎_elim (λ block. inl ((all.same_blocks x).0 block)) (λ one. inr one) cause
refused_since a b c all (Err (Fault which)) cause = rose_later a.faults b.faults c.faults all.more_faults cause
refused_since a b c all (Err (Arena which)) cause = rose_later a.arena_faults b.arena_faults c.arena_faults all.more_arena_faults cause
refused_since a b c all (Err Memory) cause = cause

-- the refusal of a settling
pub refused_settling : {A : Type 0} (a b c : State) → KeepsAll a b → (r : Result A BlockError) → IfErr r (Caused ⊥ (λ x. ⊥) (Rose b.faults c.faults) ⊥) → IfErr r (Caused ⊥ (λ x. a.is_block x ⊎ (x ≡ 1)) (Rose a.faults c.faults) (Rose a.arena_faults c.arena_faults))
refused_settling a b c all (Ok p) cause = cause
refused_settling a b c all (Err Full) cause = cause
refused_settling a b c all (Err (Damaged x)) cause = absurd cause
refused_settling a b c all (Err (Fault which)) cause = rose_later a.faults b.faults c.faults all.more_faults cause
refused_settling a b c all (Err (Arena which)) cause = absurd cause
refused_settling a b c all (Err Memory) cause = cause
