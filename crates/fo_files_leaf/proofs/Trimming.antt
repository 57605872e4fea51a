-- What stands behind the end of a source is cleared.
use Rattle.std.proofs.Common.{◌≡◌, ◌≢◌, ◌⊎◌, ◌+◌, ◌-◌, ◌*◌, ◌/◌, ◌^◌, ◌<◌, ◌≤◌, ℕ, zero, suc, Bool, true, false, List, inl, inr, ⊎_elim, sym, ap, subst, ◌∙◌, arith}
use Rattle.std.proofs.lemmas.Bool.{cases_eq, cases_lt}
use Rattle.fo_base.specs.Cause.{Rose}
use Rattle.fo_image.specs.declared.types.Label.{Label}
use Rattle.fo_image.specs.declared.types.Entry.{Entry}
use Rattle.fo_image.specs.declared.types.Pointer.TheVariants.{Local}
use Rattle.fo_crash.specs.declared.slot.Slot.TheVariants.{Entry as Head}
use Rattle.fo_crash.specs.Images.{SameContent}
use Rattle.fo_ports.specs.declared.error.BlockError.{BlockError}
use Rattle.fo_ports.specs.declared.error.BlockError.TheVariants.{Full, Damaged, Fault, Arena, Memory}
use Rattle.fo_ports.specs.Causes.{Caused}
use Rattle.fo_ports.specs.State.{State, KeepsAll, Looks, none}
use Rattle.fo_ports.specs.Sources.{Made, Touched, StaysMarked}
use Rattle.fo_dirties.proofs.of_looks.Looks.{rose_later}
use Rattle.fo_tree.specs.declared.source.Source.{Source}
use Rattle.fo_tree_read.specs.declared.tree.Tree.{Tree}
use Rattle.fo_tree_read.specs.Tree.{kind_at}
use Rattle.fo_tree_look.specs.declared.ways.Kept.{Kept}
use Rattle.fo_tree_look.specs.Source.{HasBlock, Over, WayReady}
use Rattle.fo_tree_shorten.specs.of_tree_down.Clear.{EndsClear, last_leaf}
use Rattle.fo_tree_shorten.specs.of_tree_down.Way.{IsWayIndex, with_top}
use Rattle.fo_tree_shorten.specs.of_tree_link.Link.{entry_of}
use Rattle.fo_tree_shorten.specs.of_tree_trim.Cut.{CutSlot, Cuts}
use Rattle.fo_tree_shorten.specs.of_tree_trim.Trim.{IsEndCurrent}
use Rattle.fo_tree_shorten.proofs.of_tree_trim.Above.{deep_size}
use Rattle.fo_tree_shorten.proofs.of_tree_trim.Along.{Aside, on_device}
use Rattle.fo_tree_shorten.proofs.of_tree_trim.Past.{index_above}
use Rattle.fo_tree_shorten.specs.Shorten.{EntryAt, Readies}
use Rattle.fo_tree_shorten.proofs.Settling.{Settles, current_settled}
use Rattle.fo_files_leaf.specs.declared.open.LeafOf.{LeafOf}
use Rattle.fo_files_leaf.specs.Alters.{Alters}
use Rattle.fo_files_leaf.specs.Leaf.{IsAbove, IsFor}
use Rattle.fo_files_leaf.proofs.Altering.{content_joins, not_made, known_of, same_use, alters_looks, alters_joins, alters_wider}

head_same : (a b : Entry) → Head a ≡ Head b → a ≡ b
head_same a b e = cc

-- ---- the blocks above the last leaf are made current, and the source linked

module _ {s m u : State} {t : Tree} {generation at j top : ℕ} (r : Readies s m u t generation at j top) (e : EntryAt s t generation at j) where
  label_u : (c : ℕ) → u.label c ≡ m.label c
  label_u c = r.linked.frame.stays.labels c (λ h. h)

  made_back : (c : ℕ) → Made s u c → Made s m c
  made_back c made = (made.0, ap (λ (z : Label). z.state) (sym (label_u c)) ∙ made.1)

  made_on : (c : ℕ) → Made s m c → Made s u c
  made_on c made = (made.0, ap (λ (z : Label). z.state) (label_u c) ∙ made.1)

  marked : (c : ℕ) → (Made s u c → ⊥) → StaysMarked s m c
  marked c none = r.made.others c (λ made. none (made_on c made))

  content_u : (c : ℕ) → c ≢ at → SameContent (u.now c) (m.now c)
  content_u c ne = record { bytes = r.linked.bytes c; slots = λ n. r.linked.now.others c n (inl ne) }

  at_stays : Made s u at → ⊥
  at_stays made = made.0 e.live

  at_apart : Touched s m t.tag (λ b. HasBlock s t b × ((s.label b).kind ≢ kind_at t.dir 0)) at → ⊥
  at_apart touched = ⊎_elim (λ made. made.0 e.live) (λ own. e.apart own.2) touched

  at_same : SameContent (m.now at) (s.now at)
  at_same = r.made.memory at at_apart

  at_slot : (n : ℕ) → n ≢ j → (u.now at).slot n ≡ (s.now at).slot n
  at_slot n ne = r.linked.now.others at n (inr ne) ∙ at_same.slots n

  goes_on_u : (c n : ℕ) → (Made s u c → ⊥) → s.clearing c n → u.clearing c n
  goes_on_u c n none h = r.linked.order.goes_on c n (λ no'. no') (r.made.goes_on c n (λ made. none (made_on c made)) h)

  pub readies_alters : Alters at (λ k. k ≡ j) (λ z. z ≡ t.tag) (IsAbove t.tag t.dir) none s u
  readies_alters = record {
    labels = λ c none. label_u c ∙ (marked c none).label;
    marks = λ c none. let was = (marked c none).marks in let marks = r.linked.frame.stays.marks c (λ h. h) in (λ h. marks.0 (was.0 h), λ h. marks.1 (was.1 h));
    made = λ c made. let is = r.made.made c (made_back c made) in (
      is.was.0,
      ap (λ (z : Label). z.epoch) (label_u c) ∙ is.labelled.0,
      ap (λ (z : Label). z.tag) (label_u c) ∙ is.labelled.1,
      (r.linked.frame.stays.marks c (λ h. h)).0 is.is_pinned,
    );
    known = λ c is none not_put. known_of
        (content_joins (content_u c (λ here. not_put (inl here))) (r.made.memory c (λ touched. ⊎_elim (λ made. none (made_on c made)) (λ own. not_put (inr (inl (own.1, (own.2, own.0.1))))) touched)))
        (λ n h. goes_on_u c n none h);
    bytes = r.linked.bytes at ∙ at_same.bytes;
    others = λ n ne. inl (at_slot n ne, λ h. goes_on_u at n at_stays h);
    uses = λ n still. ⊎_elim
        (λ here f is. let was = head_same f (entry_of t generation) (sym is ∙ ap (λ z. (s.now at).slot z) here ∙ e.is) in (
          entry_of (with_top t top) generation,
          ap (λ z. (u.now at).slot z) here ∙ r.linked.now.here,
          sym (ap (λ (z : Entry). z.generation) was),
          sym (ap (λ (z : Entry). z.active) was),
          sym (ap (λ (z : Entry). z.dir) was),
          sym (ap (λ (z : Entry). z.tag) was),
        ))
        (λ ne. same_use s u at n (at_slot n ne))
        (cases_eq n j);
    clearing = λ c n h. let was = r.made.clearing c n (r.linked.order.clearing c n h).1 in (λ made. was.0 (made_back c made), was.1);
    usable = let first = r.made.usable in let spare = r.linked.frame.uses.spare in let usable = r.linked.frame.uses.usable in omega (arith, first, spare, usable);
    numbers = record { next = r.linked.frame.numbers.next ∙ r.made.numbers.next; grants = λ h. r.linked.frame.numbers.grants (r.made.numbers.grants h) };
  }

-- ---- slots behind the way to the last leaf are cleared

kind_above : (dir : Bool) (n : ℕ) → 0 < n → kind_at dir n ≡ kind_at dir 0 → ⊥
kind_above true (suc n) some e = cc
kind_above false (suc n) some e = cc
kind_above dir zero some e = absurd (omega (arith, some))

local_same : (a b : ℕ) → Local a ≡ Local b → a ≡ b
local_same a b e = cc

module _ {s u : State} {t : Tree} (kept : List Kept) {generation at j x : ℕ} (cuts : Cuts (CutSlot s t (last_leaf t.size) x) s u) (all : KeepsAll s u) (deep : 0 < t.depth) (ready : WayReady s t kept t.depth (last_leaf t.size)) (current : IsEndCurrent s t) (e : EntryAt s t generation at j) where
  cut_put : (b k : ℕ) → CutSlot s t (last_leaf t.size) x b k → ((s.label b).epoch ≡ s.high) × IsAbove t.tag t.dir (s.label b)
  cut_put b k p =
      let aside : Aside s u t kept (last_leaf t.size) x = record { cuts = cuts; all = all; deep = deep; ready = ready; current = current deep } in
      let there = on_device aside p.down (p.way / 409) p.within (index_above t.depth (last_leaf t.size) p.down p.way p.is_way) in
      let same = local_same there.at b (sym there.is ∙ p.is) in
      let within = p.within in
      subst (λ z. ((s.label z).epoch ≡ s.high) × IsAbove t.tag t.dir (s.label z)) same
      (there.current, (there.ready.tagged, λ leaf. kind_above t.dir (t.depth - p.down) (omega (arith, within)) (sym there.ready.has_kind ∙ leaf)))

  at_cut : (k : ℕ) → CutSlot s t (last_leaf t.size) x at k → ⊥
  at_cut k p = e.apart (cut_put at k p).1.0

  pub cuts_alters : Alters at (λ k. k ≡ j) (λ z. z ≡ t.tag) (IsAbove t.tag t.dir) none s u
  cuts_alters = record {
    labels = λ b not. cuts.labels b;
    marks = λ b not. let marks = cuts.marks b in (marks.0, marks.1);
    made = λ b made. absurd (not_made s u b (cuts.labels b) made);
    known = λ b is not not_put. record {
      bytes = cuts.bytes b;
      slots = λ k. ⊎_elim (λ same. inl (same, λ h. (cuts.order b k).1 h)) (λ cut. absurd (not_put (inr (inl (cut_put b k cut.0))))) (cuts.slots b k);
    };
    bytes = cuts.bytes at;
    others = λ k ne. ⊎_elim (λ same. inl (same, λ h. (cuts.order at k).1 h)) (λ cut. absurd (at_cut k cut.0)) (cuts.slots at k);
    uses = λ k still. ⊎_elim (λ same. same_use s u at k same) (λ cut. absurd (at_cut k cut.0)) (cuts.slots at k);
    clearing = λ b k h. (λ made. not_made s u b (cuts.labels b) made, (cuts.order b k).0 h);
    usable = let spare = cuts.spare in let usable = cuts.usable in omega (arith, spare, usable);
    numbers = cuts.numbers;
  }

-- what is current stays so over a settling
pub end_settled : {s u : State} {t : Tree} {kept : List Kept} {limit generation at i : ℕ} → Settles s u t kept limit generation at i → WayReady s t kept t.depth (last_leaf t.size) → IsEndCurrent s t → IsEndCurrent u t
end_settled {s = s} {t = t} {kept = kept} x way current deep =
    let level : t.depth ≡ suc (t.depth - 1) = omega (arith, deep) in
    let whole : WayReady s t kept (suc (t.depth - 1)) (last_leaf t.size) = subst (λ d. WayReady s t kept d (last_leaf t.size)) level way in
    current_settled x (t.depth - 1) (last_leaf t.size / 409) (omega arith) whole.0 (current deep)

-- the same of a source of another top
pub above_same : {at j : ℕ} {s u : State} (t new : Tree) → new.tag ≡ t.tag → new.dir ≡ false → Alters at (λ k. k ≡ j) (λ z. z ≡ new.tag) (IsAbove new.tag new.dir) none s u → Alters at (λ k. k ≡ j) (λ z. z ≡ t.tag) (IsAbove t.tag false) none s u
above_same t new tag dir x = alters_wider (λ k h. h) (λ z h. h ∙ tag) (λ l h. (h.0 ∙ tag, λ e. h.1 (e ∙ sym (ap (λ d. kind_at d 0) dir)))) (λ b h. h) x

-- what was looked at, and then trimmed
pub trimmed_alters : (s m u : State) (w : LeafOf) (x : Source) → KeepsAll s m → s.pinned w.at → Looks s m → x.ways.tree.tag ≡ w.tag → w.is_dir ≡ false → Alters w.at (λ k. k ≡ w.slot) (λ t. t ≡ x.ways.tree.tag) (IsAbove x.ways.tree.tag false) none m u
    → Alters w.at (λ k. k ≡ w.slot) (λ t. t ≡ w.tag) (IsAbove w.tag w.is_dir) none s u
trimmed_alters s m u w x all pinned looks tag records cut = alters_joins all
    (alters_looks w.at (λ k. k ≡ w.slot) (λ t. t ≡ w.tag) (IsAbove w.tag w.is_dir) none s m pinned looks)
    (alters_wider (λ k h. h) (λ t h. h ∙ tag) (λ l h. (h.0 ∙ tag, λ e. h.1 (e ∙ ap (λ d. kind_at d 0) records))) (λ b h. h) cut)

-- ---- where it is done

none_behind : (n b : ℕ) → n ≡ 0 → 0 ≤ b → b < 409 ^ n → b ≡ 0
none_behind n b zero_is from lt = let less : b < 409 ^ 0 = subst (λ z. b < 409 ^ z) zero_is lt in omega (arith, less)

flat : (k n a : ℕ) (d : ℕ) → d ≡ 0 → IsWayIndex d k n a → n ≡ 0
flat k n a zero e is = is.0
flat k n a (suc d) e is = absurd (omega (arith, e))

pub way_last : (s : State) (x : Source) (i : ℕ) → IsFor s x i → x.ways.tree.size < 8192 * (i + 1) → 0 < x.ways.tree.size → WayReady s x.ways.tree x.ways.kept.items x.ways.tree.depth (last_leaf x.ways.tree.size)
way_last s x i is grows some = is.prepared.last (omega (arith, grows)) some

-- a source of one leaf has nothing behind its end
pub is_deep : (s : State) (x : Source) (i : ℕ) → IsFor s x i → x.ways.tree.size < 8192 * (i + 1) → (EndsClear s x.ways.tree x.ways.kept.items → ⊥) → 0 < x.ways.tree.depth
is_deep s x i is grows not = ⊎_elim
    (λ deep. deep)
    (λ none. let zero_is : x.ways.tree.depth ≡ 0 = omega (arith, none) in absurd (not (record {
      empty = is.over.empty;
      way = way_last s x i is grows;
      behind = λ some n a b index lt few. absurd (let at_zero = none_behind n b (flat (last_leaf x.ways.tree.size) n a x.ways.tree.depth zero_is index) (omega arith) few in omega (arith, lt, at_zero));
    })))
    (cases_lt 0 x.ways.tree.depth)

pub deep_some : (t : Tree) → (s : State) (kept : List Kept) (limit : ℕ) → Over s t kept limit → 0 < t.depth → 0 < t.size
deep_some t s kept limit over deep = let within = over.within in let low = over.low in let size = deep_size t over.least (omega (arith, within, low)) deep in omega (arith, size)

-- ---- causes

pub cut_caused : (a b c : State) → KeepsAll a b → KeepsAll b c → (why : BlockError) → Caused ⊥ (λ x. ⊥) (Rose b.faults c.faults) ⊥ why → Caused ⊥ (λ x. a.is_block x ⊎ (x ≡ 1)) (Rose a.faults c.faults) (Rose a.arena_faults c.arena_faults) why
cut_caused a b c all more Full cause = cause
cut_caused a b c all more (Damaged x) cause = absurd cause
cut_caused a b c all more (Fault which) cause = rose_later a.faults b.faults c.faults all.more_faults cause
cut_caused a b c all more (Arena which) cause = absurd cause
cut_caused a b c all more Memory cause = cause
