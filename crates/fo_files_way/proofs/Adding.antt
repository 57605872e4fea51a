-- A level is put behind the others of a plan, and a plan stays one after a look.
use Rattle.std.proofs.Common.{◌≡◌, ◌≢◌, ◌⊎◌, ◌+◌, ◌*◌, ◌%◌, ◌<◌, ◌≤◌, ℕ, zero, suc, Bool, true, false, List, [], ◌∷◌, ◌++◌, length, get_or, inl, ⊎_elim, refl, sym, ap, subst, ◌∙◌, arith}
use Rattle.std.proofs.lemmas.Bool.{cases_lt, cases_eq}
use Rattle.fo_image.specs.declared.types.Label.{Label}
use Rattle.fo_image.specs.declared.types.Kind.{Kind}
use Rattle.fo_image.specs.declared.types.Kind.TheVariants.{Data, Dir, Root}
use Rattle.fo_ports.specs.Blocks.{slot_count}
use Rattle.fo_ports.specs.State.{State, KeepsAll, Looks}
use Rattle.fo_base.specs.Cause.{Rose}
use Rattle.fo_crash.specs.declared.slot.Slot.TheVariants.{Entry as Head}
use Rattle.fo_ports.specs.declared.error.BlockError.{BlockError}
use Rattle.fo_ports.specs.declared.error.BlockError.TheVariants.{Full, Damaged, Fault, Arena, Memory}
use Rattle.fo_ports.specs.Causes.{Caused}
use Rattle.fo_ports.specs.Sources.{most_to_own, most_for, IsPlain}
use Rattle.fo_tree_read.specs.Tree.{kind_at}
use Rattle.fo_tree_look.specs.Source.{form_of}
use Rattle.fo_tree_shorten.specs.of_tree_link.Link.{entry_of}
use Rattle.fo_tree_shorten.proofs.of_tree_trim.Least.{few_for}
use Rattle.fo_files_at.proofs.of_tree_leaf.Owning.{most_within}
use Rattle.fo_files_way.specs.declared.add.Wanted.{Wanted}
use Rattle.fo_dirties.proofs.of_looks.Looks.{ready_looks, rose_later}
use Rattle.fo_files_at.specs.of_tree.declared.source.Source.{Source}
use Rattle.fo_files_at.specs.of_tree.Laws.{keeps_prepared}
use Rattle.fo_tree_look.proofs.Shown.{over_looks}
use Rattle.fo_tree_shorten.specs.of_tree_open.Open.{HasEntry}
use Rattle.std.specs.Prelude.{Result, Ok, Err, IfOk}
use Rattle.fo_files_way.specs.declared.plan.Level.{Level}
use Rattle.fo_files_way.specs.declared.plan.Plan.{Plan}
use Rattle.fo_files_way.specs.Plan.{IsHeld, IsLeafReady, IsEntryIn, IsLevel, AreLevels, MayOwnAll, AreBlocks, Fulfils, IsAdded, IsPlanned, most_for_levels}
use Rattle.fo_files_way.proofs.Stays.{address_stays}

-- a slot that is an entry is one of the block
pub has_slots : (k : Kind) (i : ℕ) → HasEntry k i → i < slot_count k
has_slots Root i h = let h' : i < 2 = h in omega (arith, h')
has_slots (Dir zero) i h = h
has_slots (Dir (suc level)) i h = absurd h
has_slots (Data level) i h = absurd h

module _ {s u : State} (all : KeepsAll s u) (looks : Looks s u) where
  pub leaf_looks : (x : Source) (i c : ℕ) → IsLeafReady s x i c → IsLeafReady u x i c
  leaf_looks x i c ready = record {
    over = over_looks all looks ready.over;
    prepared = keeps_prepared s u x.ways.tree x.ways.kept.items x.ways.limit all (ready_looks looks) (8192 * i) 8192 ready.prepared;
    within = ready.within;
    there = address_stays x.ways.tree x.ways.kept.items s u all (ready_looks looks) x.ways.limit i c ready.prepared ready.there;
    other = ready.other;
  }

  pub entry_looks : (x : Source) (c j : ℕ) → s.pinned c → IsEntryIn s x c j → IsEntryIn u x c j
  entry_looks x c j pinned entry = record {
    is = (looks.known c pinned).slots j ∙ entry.is;
    leaf = subst (λ (l : Label). HasEntry l.kind j) (sym (looks.stays.labels c (λ n. n))) entry.leaf;
    settled = λ h. entry.settled (looks.order.clearing c j h).1;
  }

  pub held_looks : (t c : ℕ) → IsHeld s t c → IsHeld u t c
  held_looks t c held = let same = looks.stays.labels c (λ n. n) in record {
    is_pinned = (looks.stays.marks c (λ n. n)).0 held.is_pinned;
    live = ap (λ (l : Label). l.state) same ∙ held.live;
    tagged = ap (λ (l : Label). l.tag) same ∙ held.tagged;
  }

  levels_look : (at tag : ℕ → ℕ) (n k : ℕ) (rows : List Level) → ((i : ℕ) → i < n → s.pinned (at i)) → k + length rows ≤ n → AreLevels s at tag k rows → AreLevels u at tag k rows
  levels_look at tag n k [] pinned fits rows_are = tt
  levels_look at tag n k (l ∷ rows) pinned fits rows_are =
      let row = rows_are.0 in
      let above = row.above in (
        record {
          ready = leaf_looks l.source l.leaf (at (k + 1)) row.ready;
          tagged = row.tagged;
          above = row.above;
          entry = entry_looks l.source (at l.above) l.slot (pinned l.above (omega (arith, above, fits))) row.entry;
        },
        levels_look at tag n (k + 1) rows pinned (omega (arith, fits)) rows_are.1,
      )

  -- a plan stays one
  pub may_looks : (at tags : List ℕ) (levels : List Level) → MayOwnAll s 0 at tags levels → MayOwnAll u 0 at tags levels
  may_looks at tags levels may = record {
    count = may.count;
    tag_count = may.tag_count;
    held = λ i lt. held_looks (get_or tags i 0) (get_or at i 0) (may.held i lt);
    differ = may.differ;
    current = λ i le. ap (λ (l : Label). l.epoch) (looks.stays.labels (get_or at i 0) (λ n. n)) ∙ may.current i le ∙ sym all.same_high;
    each = levels_look (λ i. get_or at i 0) (λ i. get_or tags i 0) (length at) 0 levels (λ i lt. (may.held i lt).is_pinned) (let count = may.count in omega (arith, count)) may.each;
  }

pub app_left : (xs : List ℕ) (x i : ℕ) → i < length xs → get_or (xs ++ x ∷ []) i 0 ≡ get_or xs i 0
app_left [] x i lt = absurd (omega (arith, lt))
app_left (y ∷ xs) x zero lt = refl
app_left (y ∷ xs) x (suc i) lt = app_left xs x i (omega (arith, lt))

pub app_here : (xs : List ℕ) (x : ℕ) → get_or (xs ++ x ∷ []) (length xs) 0 ≡ x
app_here [] x = refl
app_here (y ∷ xs) x = app_here xs x

app_count : (xs : List ℕ) (x : ℕ) → length (xs ++ x ∷ []) ≡ length xs + 1
app_count [] x = refl
app_count (y ∷ xs) x = let more = app_count xs x in omega (arith, more)

row_count : (rows : List Level) (l : Level) → length (rows ++ l ∷ []) ≡ length rows + 1
row_count [] l = refl
row_count (r ∷ rows) l = let more = row_count rows l in omega (arith, more)

level_same : (s : State) (at tag bt tbg : ℕ → ℕ) (k : ℕ) (l : Level) → bt (k + 1) ≡ at (k + 1) → tbg (k + 1) ≡ tag (k + 1) → bt l.above ≡ at l.above → IsLevel s at tag k l → IsLevel s bt tbg k l
level_same s at tag bt tbg k l here tags above is = record {
  ready = subst (λ c. IsLeafReady s l.source l.leaf c) (sym here) is.ready;
  tagged = is.tagged ∙ sym tags;
  above = is.above;
  entry = subst (λ c. IsEntryIn s l.source c l.slot) (sym above) is.entry;
}

levels_add : (s : State) (at tag bt tbg : ℕ → ℕ) (k : ℕ) (rows : List Level) (l : Level) → ((i : ℕ) → i ≤ k + length rows → (bt i ≡ at i) × (tbg i ≡ tag i)) → AreLevels s at tag k rows → IsLevel s bt tbg (k + length rows) l → AreLevels s bt tbg k (rows ++ l ∷ [])
levels_add s at tag bt tbg k [] l same rows_are is = (subst (λ n. IsLevel s bt tbg n l) (sum k) is, tt)
  where
    sum : (n : ℕ) → n + 0 ≡ n
    sum n = omega arith
levels_add s at tag bt tbg k (r ∷ rows) l same rows_are is =
    let above = rows_are.0.above in (
      level_same s at tag bt tbg k r (same (k + 1) (omega arith)).0 (same (k + 1) (omega arith)).1 (same r.above (omega (arith, above))).0 rows_are.0,
      levels_add s at tag bt tbg (k + 1) rows l (λ i le. same i (omega (arith, le))) rows_are.1 (subst (λ n. IsLevel s bt tbg n l) (sum k (length rows)) is),
    )
  where
    sum : (n m : ℕ) → n + suc m ≡ n + 1 + m
    sum n m = omega arith

-- one level more
pub may_add : {s : State} {at tags : List ℕ} {levels : List Level} (l : Level) (a t : ℕ) → MayOwnAll s 0 at tags levels → IsHeld s t a → ((i : ℕ) → i < length tags → get_or tags i 0 ≢ t) → l.above < length at → l.source.ways.tree.tag ≡ t
    → IsLeafReady s l.source l.leaf a → IsEntryIn s l.source (get_or at l.above 0) l.slot → MayOwnAll s 0 (at ++ a ∷ []) (tags ++ t ∷ []) (levels ++ l ∷ [])
may_add {s = s} {at = at} {tags = tags} {levels = levels} l a t may held new above tagged ready entry =
    let n = length at in
    let count = may.count in
    let tag_count = may.tag_count in
    let more = app_count at a in
    record {
      count = let rows = row_count levels l in omega (arith, count, more, rows);
      tag_count = app_count tags t ∙ ap (λ x. x + 1) tag_count ∙ sym more;
      held = λ i lt. ⊎_elim
          (λ is. subst (λ x. IsHeld s (get_or (tags ++ t ∷ []) x 0) (get_or (at ++ a ∷ []) x 0)) (sym is) (subst (λ x. IsHeld s x (get_or (at ++ a ∷ []) n 0)) (sym (last_tag tag_count)) (subst (λ x. IsHeld s t x) (sym (app_here at a)) held)))
          (λ ne. let early : i < n = before i lt ne in subst (λ x. IsHeld s x (get_or (at ++ a ∷ []) i 0)) (sym (app_left tags t i (subst (λ x. i < x) (sym tag_count) early))) (subst (λ x. IsHeld s (get_or tags i 0) x) (sym (app_left at a i early)) (may.held i early)))
          (cases_eq i n);
      differ = λ i j in_i in_j same. ⊎_elim
          (λ is_i. ⊎_elim
          (λ is_j. is_i ∙ sym is_j)
          (λ ne_j. absurd (new j (subst (λ x. j < x) (sym tag_count) (before j in_j ne_j)) (sym (app_left tags t j (subst (λ x. j < x) (sym tag_count) (before j in_j ne_j))) ∙ sym same ∙ ap (λ x. get_or (tags ++ t ∷ []) x 0) is_i ∙ last_tag tag_count)))
          (cases_eq j n))
          (λ ne_i. ⊎_elim
          (λ is_j. absurd (new i (subst (λ x. i < x) (sym tag_count) (before i in_i ne_i)) (sym (app_left tags t i (subst (λ x. i < x) (sym tag_count) (before i in_i ne_i))) ∙ same ∙ ap (λ x. get_or (tags ++ t ∷ []) x 0) is_j ∙ last_tag tag_count)))
          (λ ne_j. may.differ i j (before i in_i ne_i) (before j in_j ne_j) (sym (app_left tags t i (subst (λ x. i < x) (sym tag_count) (before i in_i ne_i))) ∙ same ∙ app_left tags t j (subst (λ x. j < x) (sym tag_count) (before j in_j ne_j))))
          (cases_eq j n))
          (cases_eq i n);
      current = λ i le. ap (λ c. (s.label c).epoch) (app_left at a i (omega (arith, le, count))) ∙ may.current i le;
      each = levels_add s (λ i. get_or at i 0) (λ i. get_or tags i 0) (λ i. get_or (at ++ a ∷ []) i 0) (λ i. get_or (tags ++ t ∷ []) i 0) 0 levels l
          (λ i le. (app_left at a i (omega (arith, le, count)), app_left tags t i (omega (arith, le, count, tag_count))))
          may.each
          (record {
            ready = subst (λ c. IsLeafReady s l.source l.leaf c) (sym (ap (λ x. get_or (at ++ a ∷ []) x 0) (next count) ∙ app_here at a)) ready;
            tagged = tagged ∙ sym (ap (λ x. get_or (tags ++ t ∷ []) x 0) (next count) ∙ last_tag tag_count);
            above = omega (arith, above, count);
            entry = subst (λ c. IsEntryIn s l.source c l.slot) (sym (app_left at a l.above above)) entry;
          });
    }
  where
    last_tag : length tags ≡ length at → get_or (tags ++ t ∷ []) (length at) 0 ≡ t
    last_tag e = ap (λ x. get_or (tags ++ t ∷ []) x 0) (sym e) ∙ app_here tags t

    next : length at ≡ 0 + length levels + 1 → 0 + length levels + 1 ≡ length at
    next e = sym e

    before : (i : ℕ) → i < length (at ++ a ∷ []) → i ≢ length at → i < length at
    before i lt ne = let more = app_count at a in ⊎_elim (λ early. early) (λ late. absurd (ne (omega (arith, lt, late, more)))) (cases_lt i (length at))

-- what it takes at most to own one level more
pub most_add : (rows : List Level) (l : Level) → most_for_levels (rows ++ l ∷ []) ≡ most_for_levels rows + most_to_own l.source.ways.tree.size l.leaf
most_add [] l = omega arith
most_add (r ∷ rows) l = let more = most_add rows l in omega (arith, more)

-- the blocks of one level more
pub blocks_add : (s : State) (at : List ℕ) (a : ℕ) → AreBlocks s at → s.is_block a → AreBlocks s (at ++ a ∷ [])
blocks_add s at a blocks block i lt = ⊎_elim
    (λ is. subst (λ x. s.is_block (get_or (at ++ a ∷ []) x 0)) (sym is) (subst (λ x. s.is_block x) (sym (app_here at a)) block))
    (λ ne. let more = app_count at a in ⊎_elim
    (λ early. subst (λ x. s.is_block x) (sym (app_left at a i early)) (blocks i early))
    (λ late. absurd (ne (omega (arith, lt, late, more))))
    (cases_lt i (length at)))
    (cases_eq i (length at))

-- a level whose leaf was prepared after its source was opened
pub entry_of_same : (s : State) (x y : Source) (c j : ℕ) → y.ways.tree ≡ x.ways.tree → y.ways.generation ≡ x.ways.generation → IsEntryIn s x c j → IsEntryIn s y c j
entry_of_same s x y c j tree generation entry = record {
  is = entry.is ∙ sym (ap (λ t. Head (entry_of t y.ways.generation)) tree ∙ ap (λ n. Head (entry_of x.ways.tree n)) generation);
  leaf = entry.leaf;
  settled = entry.settled;
}

pub none_plain : (x : Source) (dir : Bool) (rank : ℕ) → x.ways.tree.dir ≡ dir → x.ways.tree.rank ≡ rank → (dir ≡ false → rank % 32 ≡ 16) → IsPlain (form_of x.ways.tree x.ways.generation x.ways.limit) → ⊥
none_plain x dir rank is_dir is_rank records plain = by x.ways.tree.dir refl
  where
    by : (d : Bool) → x.ways.tree.dir ≡ d → ⊥
    by true e = let kind : kind_at true 0 ≡ Data 0 = ap (λ z. kind_at z 0) (sym e) ∙ plain.0 in cc
    by false e = plain.1 (ap (λ n. n % 32) is_rank ∙ records (sym is_dir ∙ e))

pub failed_since : (a b c : State) → KeepsAll a b → (why : BlockError) → Caused ⊥ (λ x. (b.tells → ⊥) × b.is_block x) (Rose b.faults c.faults) ⊥ why → Caused ⊥ (λ x. a.is_block x ⊎ (x ≡ 1)) (Rose a.faults c.faults) (Rose a.arena_faults c.arena_faults) why
failed_since a b c all Full cause = cause
failed_since a b c all (Damaged x) cause = inl ((all.same_blocks x).0 cause.1)
failed_since a b c all (Fault which) cause = rose_later a.faults b.faults c.faults all.more_faults cause
failed_since a b c all (Arena which) cause = absurd cause
failed_since a b c all Memory cause = cause

-- the pins for one leaf
pub pins_for : (end pins : ℕ) → 20 ≤ pins → most_for end 8192 ≤ pins
pins_for end pins enough = let few = few_for end in omega (arith, few, enough)

pub may_with : (u : State) (more more_tags : List ℕ) (levels : List Level) (r : Result Plan BlockError) → IfOk r (λ p. (p.at.items ≡ more) × (p.tags.items ≡ more_tags) × (p.levels.items ≡ levels)) → MayOwnAll u 0 more more_tags levels → IfOk r (λ p. MayOwnAll u 0 p.at.items p.tags.items p.levels.items)
may_with u more more_tags levels (Ok p) is may = subst (λ xs. MayOwnAll u 0 xs p.tags.items p.levels.items) (sym is.0) (subst (λ xs. MayOwnAll u 0 more xs p.levels.items) (sym is.1) (subst (λ xs. MayOwnAll u 0 more more_tags xs) (sym is.2) may))
may_with u more more_tags levels (Err e) is may = tt

pub blocks_with : (u : State) (more more_tags : List ℕ) (levels : List Level) (r : Result Plan BlockError) → IfOk r (λ p. (p.at.items ≡ more) × (p.tags.items ≡ more_tags) × (p.levels.items ≡ levels)) → AreBlocks u more → IfOk r (λ p. AreBlocks u p.at.items)
blocks_with u more more_tags levels (Ok p) is blocks = subst (λ xs. AreBlocks u xs) (sym is.0) blocks
blocks_with u more more_tags levels (Err e) is blocks = tt

-- a plan of the root block alone
pub may_root : (s : State) (root tag : ℕ) (at tags : List ℕ) (levels : List Level) → at ≡ root ∷ [] → tags ≡ tag ∷ [] → levels ≡ [] → IsHeld s tag root → (s.label root).epoch ≡ s.high → MayOwnAll s 0 at tags levels
may_root s root tag at tags levels at_is tags_is none held current = subst (λ xs. MayOwnAll s 0 xs tags levels) (sym at_is) (subst (λ xs. MayOwnAll s 0 (root ∷ []) xs levels) (sym tags_is) (subst (λ xs. MayOwnAll s 0 (root ∷ []) (tag ∷ []) xs) (sym none) (record {
  count = refl;
  tag_count = refl;
  held = λ i lt. subst (λ n. IsHeld s (get_or (tag ∷ []) n 0) (get_or (root ∷ []) n 0)) (sym (zero_of i lt)) held;
  differ = λ i j in_i in_j same. zero_of i in_i ∙ sym (zero_of j in_j);
  current = λ i le. subst (λ n. (s.label (get_or (root ∷ []) n 0)).epoch ≡ s.high) (sym (zero_le i le)) current;
  each = tt;
})))
  where
    zero_of : (i : ℕ) → i < 1 → i ≡ 0
    zero_of i lt = omega (arith, lt)

    zero_le : (i : ℕ) → i ≤ 0 → i ≡ 0
    zero_le i le = omega (arith, le)

pub blocks_root : (s : State) (root : ℕ) (at : List ℕ) → at ≡ root ∷ [] → s.is_block root → AreBlocks s at
blocks_root s root at is block = subst (λ xs. AreBlocks s xs) (sym is) (λ i lt. subst (λ n. s.is_block (get_or (root ∷ []) n 0)) (sym (zero_of i lt)) block)
  where
    zero_of : (i : ℕ) → i < 1 → i ≡ 0
    zero_of i lt = omega (arith, lt)

pub added_with : (wanted : Wanted) (l : Level) (rows : List Level) (more more_tags : List ℕ) (r : Result Plan BlockError) → IfOk r (λ p. (p.at.items ≡ more) × (p.tags.items ≡ more_tags) × (p.levels.items ≡ rows ++ l ∷ [])) → Fulfils wanted l → IfOk r (λ p. IsAdded wanted rows p.levels.items)
added_with wanted l rows more more_tags (Ok p) is fulfils = record { level = l; is = is.2; fulfils = fulfils }
added_with wanted l rows more more_tags (Err e) is fulfils = tt

pub most_with : (l : Level) (rows : List Level) (more more_tags : List ℕ) (r : Result Plan BlockError) → IfOk r (λ p. (p.at.items ≡ more) × (p.tags.items ≡ more_tags) × (p.levels.items ≡ rows ++ l ∷ [])) → 8192 * (l.leaf + 1) ≤ l.source.ways.tree.size
    → IfOk r (λ p. most_for_levels p.levels.items ≤ most_for_levels rows + 5)
most_with l rows more more_tags (Ok p) is within =
    let one = most_within l.source.ways.tree.size l.leaf within in
    let few = few_for l.source.ways.tree.size in
    let sum = most_add rows l in
    subst (λ xs. most_for_levels xs ≤ most_for_levels rows + 5) (sym is.2) (omega (arith, one, few, sum))
most_with l rows more more_tags (Err e) is within = tt

same_label : (s u : State) (c d : ℕ) → Looks s u → c ≡ d → (u.label c).kind ≡ (s.label d).kind
same_label s u c d looks e = ap (λ x. (u.label x).kind) e ∙ ap (λ (l : Label). l.kind) (looks.stays.labels d (λ n. n))

-- a plan of leaves of entries with one more
pub planned_with : (s u : State) (plan : Plan) (dir : Bool) (r : Result Plan BlockError) → Looks s u → IsPlanned s plan → dir ≡ true → IfOk r (λ p. MayOwnAll u 0 p.at.items p.tags.items p.levels.items) → IfOk r (λ p. AreBlocks u p.at.items)
    → IfOk r (λ p. (a : ℕ) × (p.at.items ≡ plan.at.items ++ a ∷ []) × ((u.label a).kind ≡ kind_at dir 0)) → IfOk r (IsPlanned u)
planned_with s u plan dir (Err e) looks was is may blocks adds = tt
planned_with s u plan dir (Ok p) looks was is may blocks adds =
    let at = plan.at.items in
    let count = was.may.count in
    let some : 0 < length at = omega (arith, count) in
    let more = app_count at adds.0 in
    record {
      may = may;
      blocks = blocks;
      root = same_label s u (get_or p.at.items 0 0) (get_or at 0 0) looks (ap (λ xs. get_or xs 0 0) adds.1 ∙ app_left at adds.0 0 some) ∙ was.root;
      dirs = λ i later lt. ⊎_elim
          (λ here. ap (λ x. (u.label x).kind) (ap (λ xs. get_or xs i 0) adds.1 ∙ ap (λ n. get_or (at ++ adds.0 ∷ []) n 0) here ∙ app_here at adds.0) ∙ adds.2 ∙ ap (λ d. kind_at d 0) is)
          (λ ne. let early : i < length at = before i (subst (λ xs. i < length xs) adds.1 lt) more ne in
          same_label s u (get_or p.at.items i 0) (get_or at i 0) looks (ap (λ xs. get_or xs i 0) adds.1 ∙ app_left at adds.0 i early) ∙ was.dirs i later early)
          (cases_eq i (length at));
    }
  where
    before : (i : ℕ) → i < length (plan.at.items ++ adds.0 ∷ []) → length (plan.at.items ++ adds.0 ∷ []) ≡ length plan.at.items + 1 → i ≢ length plan.at.items → i < length plan.at.items
    before i lt more ne = ⊎_elim (λ early. early) (λ late. absurd (ne (omega (arith, lt, late, more)))) (cases_lt i (length plan.at.items))

pub more_with : (s u : State) (plan : Plan) (dir : Bool) (r : Result Plan BlockError) → IsPlanned s plan → IfOk r (λ p. (a : ℕ) × (p.at.items ≡ plan.at.items ++ a ∷ []) × ((u.label a).kind ≡ kind_at dir 0))
    → IfOk r (λ p. (length p.at.items ≡ length plan.at.items + 1) × (get_or p.at.items 0 0 ≡ get_or plan.at.items 0 0))
more_with s u plan dir (Err e) was adds = tt
more_with s u plan dir (Ok p) was adds =
    let at = plan.at.items in
    let count = was.may.count in
    (ap (λ xs. length xs) adds.1 ∙ app_count at adds.0, ap (λ xs. get_or xs 0 0) adds.1 ∙ app_left at adds.0 0 (omega (arith, count)))
