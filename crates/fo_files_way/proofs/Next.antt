-- The next level of a plan is owned.
use Rattle.std.proofs.Common.{◌≡◌, ◌≢◌, ◌+◌, ◌*◌, ◌<◌, ◌≤◌, ◌++◌, ℕ, zero, suc, Bool, true, false, List, [], ◌∷◌, Some, length, get_or, set, inl, inr, ⊎_elim, refl, sym, ap, subst, ◌∙◌, arith}
use Rattle.std.proofs.lemmas.Bool.{cases_lt, cases_eq}
use Rattle.std.proofs.lemmas.List.{length-set, get_or-set_same, get_or-set_other}
use Rattle.fo_image.specs.declared.types.Label.{Label}
use Rattle.fo_image.specs.declared.types.Kind.{Kind}
use Rattle.fo_image.specs.declared.types.Kind.TheVariants.{Dir}
use Rattle.fo_image.specs.declared.types.Entry.{Entry}
use Rattle.fo_crash.specs.declared.slot.Slot.TheVariants.{Entry as Head}
use Rattle.fo_crash.specs.Images.{SameContent}
use Rattle.fo_ports.specs.State.{State, KeepsAll}
use Rattle.fo_ports.specs.Sources.{Made, IsReady, StaysReady}
use Rattle.fo_files_at.specs.of_tree.declared.source.Source.{Source}
use Rattle.fo_files_at.specs.of_tree.Laws.{keeps_over, keeps_prepared}
use Rattle.fo_tree_read.specs.Tree.{kind_at}
use Rattle.fo_tree_look.specs.Source.{address_here}
use Rattle.fo_tree_shorten.specs.of_tree_link.Link.{entry_of}
use Rattle.fo_tree_shorten.specs.of_tree_open.Open.{HasEntry}
use Rattle.fo_tree_shorten.specs.Shorten.{EntryAt}
use Rattle.fo_files_way.specs.declared.plan.Level.{Level}
use Rattle.fo_files_way.specs.Plan.{IsHeld, IsLeafReady, IsEntryIn, IsLevel, AreLevels, MayOwnAll}
use Rattle.fo_files_way.specs.Owns.{OwnsOne, Carries, IsTag, IsLinked, AreLinked, SetsAt}
use Rattle.fo_files_way.proofs.Prepared.{leaf_ready}
use Rattle.fo_files_way.proofs.Stays.{address_stays}

head_tag : (a b : Source) → Head (entry_of a.ways.tree a.ways.generation) ≡ Head (entry_of b.ways.tree b.ways.generation) → a.ways.tree.tag ≡ b.ways.tree.tag
head_tag a b e = let same : entry_of a.ways.tree a.ways.generation ≡ entry_of b.ways.tree b.ways.generation = cc in ap (λ (x : Entry). x.tag) same

entry_kind : (kind : Kind) (dir : Bool) (j : ℕ) → kind ≡ kind_at dir 0 → HasEntry kind j → kind ≡ Dir 0
entry_kind kind true j is h = is
entry_kind kind false j is h = absurd (subst (λ k. HasEntry k j) is h)

linked_more : (u : State) (at : List ℕ) (n : ℕ) (done : List Level) (x : Level) → AreLinked u at n done → IsLinked u at (n + length done) x → AreLinked u at n (done ++ x ∷ [])
linked_more u at n [] x h is = (subst (λ m. IsLinked u at m x) (sum n) is, tt)
  where
    sum : (m : ℕ) → m + 0 ≡ m
    sum m = omega arith
linked_more u at n (z ∷ done) x h is = (h.0, linked_more u at (n + 1) done x h.1 (subst (λ m. IsLinked u at m x) (sum n (length done)) is))
  where
    sum : (m k : ℕ) → m + suc k ≡ m + 1 + k
    sum m k = omega arith

module _ {s u : State} {y : Source} {k leaf : ℕ} {at new tags : List ℕ} {l : Level} {rest : List Level}
    (silent : s.tells → ⊥) (all : KeepsAll s u) (may : MayOwnAll s k at tags (l ∷ rest)) (one : OwnsOne s u l.source y l.leaf (get_or at l.above 0) l.slot leaf) (sets : SetsAt at new (k + 1) leaf) where
  first : IsLevel s (λ i. get_or at i 0) (λ i. get_or tags i 0) k l
  first = may.each.0

  few : k + 1 < length at
  few = let count = may.count in omega (arith, count)

  above_few : l.above < length at
  above_few = let count = may.count in let above = first.above in omega (arith, count, above)

  -- a block with another tag than that of the level stays, but for the slot that was put
  not_made : (c : ℕ) (t : ℕ) → IsHeld s t c → Made s u c → ⊥
  not_made c t held made = made.0 held.live

  stays_held : (c t : ℕ) → IsHeld s t c → IsHeld u t c
  stays_held c t held = let same = one.owns.others c (not_made c t held) in record {
    is_pinned = same.marks.0 held.is_pinned;
    live = ap (λ (z : Label). z.state) same.label ∙ held.live;
    tagged = ap (λ (z : Label). z.tag) same.label ∙ held.tagged;
  }

  differs : (i j : ℕ) → i < length at → j < length at → i ≢ j → get_or tags i 0 ≢ get_or tags j 0
  differs i j first second ne same = ne (may.differ i j first second same)

  -- what has another tag than the level and than the block of its entry stays as it is
  content : (c t : ℕ) → IsHeld s t c → t ≢ get_or tags (k + 1) 0 → c ≢ get_or at l.above 0 → SameContent (u.now c) (s.now c)
  content c t held other away = one.owns.memory c (not_made c t held) (λ put. ⊎_elim away (λ own. other (sym held.tagged ∙ sym own.1.0 ∙ first.tagged)) put)

  apart_from : (c t : ℕ) → IsHeld s t c → t ≢ get_or tags l.above 0 → c ≢ get_or at l.above 0
  apart_from c t held other here = other (sym held.tagged ∙ ap (λ x. (s.label x).tag) here ∙ (may.held l.above above_few).tagged)

  ready_stays : (n t : ℕ) → k < n → n + 1 < length at → t ≡ get_or tags (n + 1) 0 → (c : ℕ) → IsReady t s c → StaysReady s u c
  ready_stays n t later inside is c ready =
      let held : IsHeld s t c = record { is_pinned = ready.is_pinned; live = ready.live; tagged = ready.tagged } in
      let above = first.above in
      let same = content c t held (λ e. differs (n + 1) (k + 1) inside few (λ x. omega (arith, x, later)) (sym is ∙ e)) (apart_from c t held (λ e. differs (n + 1) l.above inside above_few (λ x. omega (arith, x, later, above)) (sym is ∙ e))) in
      let marks = one.owns.others c (not_made c t held) in
      record {
        is_pinned = marks.marks.0 ready.is_pinned;
        same_label = marks.label;
        same_slots = inr (λ j. same.slots j);
        same_length = ap (λ (x : List ℕ). length x) same.bytes;
      }

  leaf_stays : (n : ℕ) (x : Source) (i c : ℕ) → k < n → n + 1 < length at → x.ways.tree.tag ≡ get_or tags (n + 1) 0 → IsLeafReady s x i c → IsLeafReady u x i c
  leaf_stays n x i c later inside is ready =
      let stays = ready_stays n x.ways.tree.tag later inside is in
      record {
        over = keeps_over s u x.ways.tree x.ways.kept.items x.ways.limit all ready.over (λ told. absurd (silent told)) (λ told. absurd (silent told));
        prepared = keeps_prepared s u x.ways.tree x.ways.kept.items x.ways.limit all stays (8192 * i) 8192 ready.prepared;
        within = ready.within;
        there = address_stays x.ways.tree x.ways.kept.items s u all stays x.ways.limit i c ready.prepared ready.there;
        other = ready.other;
      }

  -- each block has what the one had that stood there before, but for the slot that was put
  pub carried : (i : ℕ) → i < length at → Carries s u (get_or at i 0) (get_or new i 0) × ((j : ℕ) → ((l.above ≡ i) × (l.slot ≡ j) → ⊥) → (u.now (get_or new i 0)).slot j ≡ (s.now (get_or at i 0)).slot j)
  carried i inside = ⊎_elim
      (λ is. let c = one.carries (get_or at (k + 1) 0) first.ready.there in
      subst (λ n. Carries s u (get_or at n 0) (get_or new n 0) × ((j : ℕ) → ((l.above ≡ n) × (l.slot ≡ j) → ⊥) → (u.now (get_or new n 0)).slot j ≡ (s.now (get_or at n 0)).slot j)) (sym is) (
        subst (λ x. Carries s u (get_or at (k + 1) 0) x) (sym sets.here) c.0,
        λ j none. ap (λ x. (u.now x).slot j) sets.here ∙ c.1 j,
      ))
      (λ ne. subst (λ x. Carries s u (get_or at i 0) x × ((j : ℕ) → ((l.above ≡ i) × (l.slot ≡ j) → ⊥) → (u.now x).slot j ≡ (s.now (get_or at i 0)).slot j)) (sym (sets.others i ne)) (stays_there i inside ne))
      (cases_eq i (k + 1))
    where
      same_label : (n : ℕ) → n < length at → u.label (get_or at n 0) ≡ s.label (get_or at n 0)
      same_label n in_list = (one.owns.others (get_or at n 0) (not_made (get_or at n 0) (get_or tags n 0) (may.held n in_list))).label

      of_parts : (n : ℕ) → n < length at → (u.now (get_or at n 0)).bytes ≡ (s.now (get_or at n 0)).bytes → Carries s u (get_or at n 0) (get_or at n 0)
      of_parts n in_list bytes = record {
        kind = ap (λ (z : Label). z.kind) (same_label n in_list);
        tag = ap (λ (z : Label). z.tag) (same_label n in_list);
        bytes = bytes;
        clearing = λ j h. (one.owns.clearing (get_or at n 0) j h).1;
      }

      stays_there : (n : ℕ) → n < length at → n ≢ k + 1 → Carries s u (get_or at n 0) (get_or at n 0) × ((j : ℕ) → ((l.above ≡ n) × (l.slot ≡ j) → ⊥) → (u.now (get_or at n 0)).slot j ≡ (s.now (get_or at n 0)).slot j)
      stays_there n in_list ne = ⊎_elim
          (λ is. (
            of_parts n in_list (subst (λ x. (u.now (get_or at x 0)).bytes ≡ (s.now (get_or at x 0)).bytes) is one.bytes),
            λ j none. subst (λ x. (u.now (get_or at x 0)).slot j ≡ (s.now (get_or at x 0)).slot j) is (one.slots j (λ e. none (is, sym e))),
          ))
          (λ away. let same = content (get_or at n 0) (get_or tags n 0) (may.held n in_list) (differs n (k + 1) in_list few ne) (apart_from (get_or at n 0) (get_or tags n 0) (may.held n in_list) (differs n l.above in_list above_few (λ e. away (sym e)))) in
          (of_parts n in_list same.bytes, λ j none. same.slots j))
          (cases_eq l.above n)

  entry_stays : (n : ℕ) (x : Source) (above slot : ℕ) → k < n → n + 1 < length at → above < length at → x.ways.tree.tag ≡ get_or tags (n + 1) 0 → IsEntryIn s x (get_or at above 0) slot → IsEntryIn u x (get_or new above 0) slot
  entry_stays n x above slot later inside in_list is entry =
      let c = carried above in_list in
      record {
        is = c.1 slot (λ both. differs (n + 1) (k + 1) inside few (λ e. omega (arith, e, later)) (sym is ∙ head_tag x l.source (sym entry.is ∙ ap (λ j. (s.now (get_or at above 0)).slot j) (sym both.1) ∙ ap (λ m. (s.now (get_or at m 0)).slot l.slot) (sym both.0) ∙ first.entry.is) ∙ first.tagged)) ∙ entry.is;
        leaf = subst (λ kind. HasEntry kind slot) (sym c.0.kind) entry.leaf;
        settled = λ h. entry.settled (c.0.clearing slot h);
      }

  levels_stay : (n : ℕ) (rows : List Level) → k < n → n + length rows + 1 ≤ length at → AreLevels s (λ i. get_or at i 0) (λ i. get_or tags i 0) n rows → AreLevels u (λ i. get_or new i 0) (λ i. get_or tags i 0) n rows
  levels_stay n [] later fits levels = tt
  levels_stay n (x ∷ rows) later fits levels =
      let row = levels.0 in
      let above = row.above in
      let inside : n + 1 < length at = omega (arith, fits) in
      let stays = leaf_stays n x.source x.leaf (get_or at (n + 1) 0) later inside row.tagged row.ready in (
        record {
          ready = subst (λ c. IsLeafReady u x.source x.leaf c) (sym (sets.others (n + 1) (λ e. omega (arith, e, later)))) stays;
          tagged = row.tagged;
          above = row.above;
          entry = entry_stays n x.source x.above x.slot later inside (omega (arith, fits, above)) row.tagged row.entry;
        },
        levels_stay (n + 1) rows (omega (arith, later)) (omega (arith, fits)) levels.1,
      )

  -- what was prepared of a level that was owned before stays so, though its leaf may have got an entry
  earlier_ready : (n i : ℕ) (x : Source) → n < k → x.ways.tree.tag ≡ get_or tags (n + 1) 0 → IsLeafReady s x i (get_or at (n + 1) 0) → (c : ℕ) → IsReady x.ways.tree.tag s c → StaysReady s u c
  earlier_ready n i x early is ready c r =
      let held : IsHeld s x.ways.tree.tag c = record { is_pinned = r.is_pinned; live = r.live; tagged = r.tagged } in
      let f = few in
      let inside : n + 1 < length at = omega (arith, early, f) in
      let marks = one.owns.others c (not_made c x.ways.tree.tag held) in
      ⊎_elim
      (λ here.
      let index : l.above ≡ n + 1 = may.differ l.above (n + 1) above_few inside (sym (may.held l.above above_few).tagged ∙ ap (λ z. (s.label z).tag) (sym here) ∙ held.tagged ∙ is) in
      let block : c ≡ get_or at (n + 1) 0 = here ∙ ap (λ m. get_or at m 0) index in
      let kind : (s.label c).kind ≡ kind_at x.ways.tree.dir 0 = ap (λ z. (s.label z).kind) block ∙ (leaf_ready s x.ways.tree x.ways.kept.items x.ways.limit i (get_or at (n + 1) 0) ready.prepared ready.there).has_kind in
      record {
        is_pinned = marks.marks.0 r.is_pinned;
        same_label = marks.label;
        same_slots = inl (entry_kind (s.label c).kind x.ways.tree.dir l.slot kind (subst (λ z. HasEntry (s.label z).kind l.slot) (sym here) first.entry.leaf));
        same_length = ap (λ (z : List ℕ). length z) (subst (λ z. (u.now z).bytes ≡ (s.now z).bytes) (sym here) one.bytes);
      })
      (λ away.
      let same = content c x.ways.tree.tag held (λ e. differs (n + 1) (k + 1) inside few (λ z. omega (arith, z, early)) (sym is ∙ e)) away in
      record {
        is_pinned = marks.marks.0 r.is_pinned;
        same_label = marks.label;
        same_slots = inr (λ j. same.slots j);
        same_length = ap (λ (z : List ℕ). length z) same.bytes;
      })
      (cases_eq c (get_or at l.above 0))

  earlier_leaf : (n i : ℕ) (x : Source) → n < k → x.ways.tree.tag ≡ get_or tags (n + 1) 0 → IsLeafReady s x i (get_or at (n + 1) 0) → IsLeafReady u x i (get_or at (n + 1) 0)
  earlier_leaf n i x early is ready =
      let stays = earlier_ready n i x early is ready in
      record {
        over = keeps_over s u x.ways.tree x.ways.kept.items x.ways.limit all ready.over (λ told. absurd (silent told)) (λ told. absurd (silent told));
        prepared = keeps_prepared s u x.ways.tree x.ways.kept.items x.ways.limit all stays (8192 * i) 8192 ready.prepared;
        within = ready.within;
        there = address_stays x.ways.tree x.ways.kept.items s u all stays x.ways.limit i (get_or at (n + 1) 0) ready.prepared ready.there;
        other = ready.other;
      }

  earlier_entry : (n above slot : ℕ) (x : Source) → n < k → above ≤ n → x.ways.tree.tag ≡ get_or tags (n + 1) 0 → EntryAt s x.ways.tree x.ways.generation (get_or at above 0) slot → EntryAt u x.ways.tree x.ways.generation (get_or new above 0) slot
  earlier_entry n above slot x early le is e =
      let f = few in
      let inside : n + 1 < length at = omega (arith, early, f) in
      let in_list : above < length at = omega (arith, inside, le) in
      let stays : get_or new above 0 ≡ get_or at above 0 = sets.others above (λ z. omega (arith, z, early, le)) in
      let marks = one.owns.others (get_or at above 0) (not_made (get_or at above 0) (get_or tags above 0) (may.held above in_list)) in
      let same : (u.now (get_or at above 0)).slot slot ≡ (s.now (get_or at above 0)).slot slot = ap (λ z. (u.now z).slot slot) (sym stays) ∙ (carried above in_list).1 slot
      (λ both. differs (n + 1) (k + 1) inside few (λ z. omega (arith, z, early)) (sym is ∙ head_tag x l.source (sym e.is ∙ ap (λ j. (s.now (get_or at above 0)).slot j) (sym both.1) ∙ ap (λ m. (s.now (get_or at m 0)).slot l.slot) (sym both.0) ∙ first.entry.is) ∙ first.tagged)) in
      subst (λ z. EntryAt u x.ways.tree x.ways.generation z slot) (sym stays) (record {
        is = same ∙ e.is;
        is_pinned = marks.marks.0 e.is_pinned;
        live = ap (λ (z : Label). z.state) marks.label ∙ e.live;
        current = ap (λ (z : Label). z.epoch) marks.label ∙ e.current ∙ sym all.same_high;
        apart = λ t. e.apart (ap (λ (z : Label). z.tag) (sym marks.label) ∙ t);
        leaf = subst (λ (z : Label). HasEntry z.kind slot) (sym marks.label) e.leaf;
        settled = λ h. e.settled (one.owns.clearing (get_or at above 0) slot h).1;
      })

  linked_on : (n : ℕ) (x : Level) → n < k → IsLinked s at n x → IsLinked u new n x
  linked_on n x early is =
      let z = is.source in
      let f = few in
      let inside : n + 1 < length at = omega (arith, early, f) in
      let tag : z.ways.tree.tag ≡ get_or tags (n + 1) 0 = sym (leaf_ready s z.ways.tree z.ways.kept.items z.ways.limit x.leaf (get_or at (n + 1) 0) is.ready.prepared is.ready.there).tagged ∙ (may.held (n + 1) inside).tagged in
      record {
        source = z;
        form = is.form;
        above = is.above;
        entry = earlier_entry n x.above x.slot z early is.above tag is.entry;
        ready = subst (λ c. IsLeafReady u z x.leaf c) (sym (sets.others (n + 1) (λ e. omega (arith, e, early)))) (earlier_leaf n x.leaf z early tag is.ready);
      }

  all_linked : (n : ℕ) (rows : List Level) → n + length rows ≤ k → AreLinked s at n rows → AreLinked u new n rows
  all_linked n [] fits h = tt
  all_linked n (x ∷ rows) fits h = (linked_on n x (omega (arith, fits)) h.0, all_linked (n + 1) rows (omega (arith, fits)) h.1)

  -- the level hangs from the block above it, as those before do
  pub linked_next : (done : List Level) → length done ≡ k → AreLinked s at 0 done → AreLinked u new 0 (done ++ l ∷ [])
  linked_next done count h = linked_more u new 0 done l (all_linked 0 done (omega (arith, count)) h) (subst (λ n. IsLinked u new n l) (sym (from_none (length done) count)) here)
    where
      from_none : (n : ℕ) → n ≡ k → 0 + n ≡ k
      from_none n e = omega (arith, e)

      here : IsLinked u new k l
      here = record {
        source = y;
        form = one.form;
        above = first.above;
        entry = subst (λ c. EntryAt u y.ways.tree y.ways.generation c l.slot) (sym (sets.others l.above (λ e. let a = first.above in omega (arith, e, a)))) one.entry;
        ready = subst (λ c. IsLeafReady u y l.leaf c) (sym sets.here) one.ready;
      }

  -- so the rest may be owned
  pub may_next : MayOwnAll u (k + 1) new tags rest
  may_next = record {
    count = let count = may.count in let same = sets.count in omega (arith, count, same);
    tag_count = may.tag_count ∙ sym sets.count;
    held = λ i inside. ⊎_elim
        (λ is. subst (λ n. IsHeld u (get_or tags n 0) (get_or new n 0)) (sym is) (subst (λ c. IsHeld u (get_or tags (k + 1) 0) c) (sym sets.here) (subst (λ t. IsHeld u t leaf) first.tagged one.held)))
        (λ ne. subst (λ c. IsHeld u (get_or tags i 0) c) (sym (sets.others i ne)) (stays_held (get_or at i 0) (get_or tags i 0) (may.held i (subst (λ n. i < n) sets.count inside))))
        (cases_eq i (k + 1));
    differ = λ i j in_first in_second. may.differ i j (subst (λ n. i < n) sets.count in_first) (subst (λ n. j < n) sets.count in_second);
    current = λ i le. ⊎_elim
        (λ is. subst (λ n. (u.label (get_or new n 0)).epoch ≡ u.high) (sym is) (ap (λ c. (u.label c).epoch) sets.here ∙ one.current))
        (λ ne. let early : i ≤ k = before i le ne in
        ap (λ c. (u.label c).epoch) (sets.others i ne) ∙ ap (λ (z : Label). z.epoch) (one.owns.others (get_or at i 0) (not_made (get_or at i 0) (get_or tags i 0) (may.held i (let f = few in omega (arith, early, f))))).label ∙ may.current i early ∙ sym all.same_high)
        (cases_eq i (k + 1));
    each = levels_stay (k + 1) rest (omega arith) (let count = may.count in omega (arith, count)) may.each.1;
  }
    where
      before : (i : ℕ) → i ≤ k + 1 → i ≢ k + 1 → i ≤ k
      before i le ne = ⊎_elim (λ lt. omega (arith, lt)) (λ ge. absurd (ne (omega (arith, le, ge)))) (cases_lt i (k + 1))

  pub own_tag : (t : ℕ) → l.source.ways.tree.tag ≡ t → IsTag tags t
  own_tag t e = (k + 1, omega arith, (let f = few in let n = may.tag_count in omega (arith, f, n)), sym first.tagged ∙ e)

-- the next level's leaf, and how far below the end the block above it stands
pub next_level : {s : State} {k : ℕ} {at tags : List ℕ} {l : Level} {rest : List Level} → MayOwnAll s k at tags (l ∷ rest) → (address_here s l.source.ways.tree l.leaf ≡ Some (get_or at (k + 1) 0)) × (l.above < length at)
next_level {k = k} {at = at} {l = l} may =
    let level = may.each.0 in
    let count = may.count in
    let above = level.above in
    (level.ready.there, omega (arith, count, above))

-- the entry of the next level stands where it may be put
pub next_entry : {s : State} {k : ℕ} {at tags : List ℕ} {l : Level} {rest : List Level} → MayOwnAll s k at tags (l ∷ rest) → EntryAt s l.source.ways.tree l.source.ways.generation (get_or at l.above 0) l.slot
next_entry {k = k} {at = at} {l = l} may =
    let level = may.each.0 in
    let count = may.count in
    let above = level.above in
    let inside : l.above < length at = omega (arith, count, above) in
    let held = may.held l.above inside in
    record {
      is = level.entry.is;
      is_pinned = held.is_pinned;
      live = held.live;
      current = may.current l.above above;
      apart = λ e. absurd (let same : l.above ≡ k + 1 = may.differ l.above (k + 1) inside (omega (arith, count)) (sym held.tagged ∙ e ∙ level.tagged) in omega (arith, same, above));
      leaf = level.entry.leaf;
      settled = level.entry.settled;
    }

-- an address that is put into the list of blocks
pub sets_at : (old : List ℕ) (n at : ℕ) → n < length old → SetsAt old (set old n at) n at
sets_at old n at lt = record { count = length-set old n at; here = get_or-set_same old n at 0 lt; others = λ i ne. get_or-set_other old n i at 0 ne }

-- what stands in a list below its end
pub any_default : (xs : List ℕ) (i d e : ℕ) → i < length xs → get_or xs i d ≡ get_or xs i e
any_default [] i d e lt = absurd (omega (arith, lt))
any_default (x ∷ xs) zero d e lt = refl
any_default (x ∷ xs) (suc i) d e lt = any_default xs i d e (omega (arith, lt))
