-- What the entry of a source would lead to, once its way was made current.
use Rattle.std.proofs.Common.{◌≡◌, ◌≢◌, ◌⊎◌, ◌+◌, ◌-◌, ◌*◌, ◌/◌, ◌%◌, ◌^◌, ◌<◌, ◌≤◌, ℕ, zero, suc, Bool, true, false, cond, nat_eq, List, inl, ⊎_elim, refl, sym, ◌∙◌, ap, subst, arith}
use Rattle.std.proofs.Math.Nat.{pow-succ'}
use Rattle.fo_image.specs.declared.types.Entry.{Entry}
use Rattle.fo_image.specs.declared.types.Kind.{Kind}
use Rattle.fo_image.specs.declared.types.Kind.TheVariants.{Data, Dir, Root}
use Rattle.fo_image.specs.declared.types.Label.{Label}
use Rattle.fo_image.specs.declared.types.Pointer.{Pointer}
use Rattle.fo_image.specs.declared.types.Pointer.TheVariants.{Nil, Local}
use Rattle.fo_tree_own.specs.of_crash.declared.slot.Slot.TheVariants.{Entry as Head}
use Rattle.fo_tree_own.specs.of_crash.declared.place.Place.{Place}
use Rattle.fo_tree_own.specs.of_crash.Images.{Image, SameContent, Reaches, target, to_block}
use Rattle.fo_tree_own.specs.of_crash.Places.{place, place_below, OnePlace}
use Rattle.fo_tree_own.proofs.of_crash.Reach.{lost}
use Rattle.fo_tree_own.specs.of_shown.Alike.{LeadsAlike, CanStand}
use Rattle.fo_tree_own.proofs.of_shown.Ways.{AllPlaced}
use Rattle.fo_tree_own.proofs.of_shown.Alikes.{Aside, alike_nowhere, alike_copied, alike_bare, entry_below, sure_same}
use Rattle.fo_tree_look.specs.of_ports.Blocks.{zero_bytes}
use Rattle.fo_tree_look.specs.of_ports.State.{State, KeepsAll}
use Rattle.fo_tree_look.specs.of_ports.Sources.{IsHung, Made}
use Rattle.fo_tree_look.specs.of_tree_read.declared.tree.Tree.{Tree}
use Rattle.fo_tree_look.specs.of_tree_read.Tree.{kind_at, Hangs}
use Rattle.fo_tree_look.specs.declared.ways.Kept.{Kept}
use Rattle.fo_tree_look.specs.Source.{IsPlainTree}
use Rattle.fo_tree_own.specs.Step.{IsOwn, Links}
use Rattle.fo_tree_own.proofs.Link.{Laws, local_eq}
use Rattle.fo_tree_down.specs.Way.{OnWay, Descends, Leads, with_top}
use Rattle.fo_tree_down.specs.Alike.{IsFormed, HoldsEntry, EntryAlike, KeepsAlike}
use Rattle.fo_tree_down.proofs.Next.{on_way_ranked}
use Rattle.fo_tree_down.proofs.Topping.{Topped, descends}

-- the same source
pub alike_stays : {s u : State} {t : Tree} {at : ℕ} → u ≡ s → t.top ≡ Local at → KeepsAlike s u t (with_top t at)
alike_stays {s} {u} {t} {at} e is = subst (λ z. KeepsAlike s z t (with_top t at)) (sym e) (record {
  each = λ told a i holds alike. (
    record { there = holds.there; stands = holds.stands; names = holds.names; below = holds.below; above = holds.above; in_tree = holds.in_tree; uncovered = holds.uncovered },
    λ f formed top. alike f formed (top ∙ sym is),
  );
})

-- two calls
pub alike_joins : {s m u : State} {t mid new : Tree} → KeepsAll s m → KeepsAlike s m t mid → KeepsAlike m u mid new → KeepsAlike s u t new
alike_joins all first second = record {
  each = λ told at i holds alike.
      let on = first.each told at i holds alike in
      second.each (all.still_tells.1 told) at i on.0 on.1;
}

-- ---- other levels

-- the place of a top with so many levels below slot i of a block of entries of this rank
abbrev top_at : (dir : Bool) (depth tag i high : ℕ) → Place
top_at dir depth tag i high = place (cond dir (Dir depth) (Data depth)) tag 0 (cond dir (high - 32 + depth) (cond (nat_eq (i % 2) 0) (high - 8 + depth) (high - 24 + depth)))

with_levels : (dir : Bool) (depth more tag i high rank : ℕ) → (top_at dir depth tag i high).rank ≡ rank + depth → top_at dir more tag i high ≡ place (kind_at dir more) tag 0 (rank + more)
with_levels true depth more tag i high rank e = let x : high - 32 + depth ≡ rank + depth = e in let y : high - 32 + more ≡ rank + more = omega (arith, x) in ap (λ n. place (Dir more) tag 0 n) y
with_levels false depth more tag i high rank e = ap (λ n. place (Data more) tag 0 n) (by (nat_eq (i % 2) 0) e)
  where
    by : (even : Bool) → cond even (high - 8 + depth) (high - 24 + depth) ≡ rank + depth → cond even (high - 8 + more) (high - 24 + more) ≡ rank + more
    by true h = let x : high - 8 + depth ≡ rank + depth = h in omega (arith, x)
    by false h = let x : high - 24 + depth ≡ rank + depth = h in omega (arith, x)

levels_below : (p : Place) (i : ℕ) (e : Entry) (dir : Bool) (depth more tag rank : ℕ) → (p.kind ≡ Dir 0) ⊎ (p.kind ≡ Root) → e.dir ≡ dir → e.depth ≡ more → e.tag ≡ tag → place_below p i (Head (record e { depth = depth })) ≡ place (kind_at dir depth) tag 0 (rank + depth) → place_below p i (Head e) ≡ place (kind_at dir more) tag 0 (rank + more)
levels_below p i e dir depth more tag rank names is_dir is_depth is_tag below = by p.kind p.tag p.index p.rank names below
  where
    ends : (high : ℕ) → top_at e.dir depth e.tag i high ≡ place (kind_at dir depth) tag 0 (rank + depth) → top_at e.dir e.depth e.tag i high ≡ place (kind_at dir more) tag 0 (rank + more)
    ends high h =
        ap (λ d. top_at d e.depth e.tag i high) is_dir ∙ ap (λ n. top_at dir n e.tag i high) is_depth ∙ ap (λ n. top_at dir more n i high) is_tag
        ∙ with_levels dir depth more tag i high rank (ap (λ d. (top_at d depth tag i high).rank) (sym is_dir) ∙ ap (λ (q : Place). q.rank) h)

    by : (kind : Kind) (t index high : ℕ) → (kind ≡ Dir 0) ⊎ (kind ≡ Root) → place_below (place kind t index high) i (Head (record e { depth = depth })) ≡ place (kind_at dir depth) tag 0 (rank + depth) → place_below (place kind t index high) i (Head e) ≡ place (kind_at dir more) tag 0 (rank + more)
    by (Data level) t index high h below = absurd (⊎_elim (λ x. cc) (λ x. cc) h)
    by (Dir zero) t index high h below = ends high below
    by (Dir (suc level)) t index high h below = absurd (⊎_elim (λ x. cc) (λ x. cc) h)
    by Root t index high h below = ends (high - 24) below

-- An entry stands in the same place, whatever the source's size, levels and top.
pub holds_shaped : {s : State} {t : Tree} {at i : ℕ} (depth size : ℕ) (top : Pointer) → HoldsEntry s t at i → HoldsEntry s (record t { depth = depth; size = size; top = top }) at i
holds_shaped {t = t} {i = i} depth size top holds = record {
  there = holds.there;
  stands = holds.stands;
  names = holds.names;
  below = λ e formed. levels_below holds.there i e t.dir t.depth depth t.tag t.rank holds.names formed.0 formed.1 formed.2 (holds.below (record e { depth = t.depth }) (formed.0, refl, formed.2));
  above = holds.above;
  in_tree = holds.in_tree;
  uncovered = holds.uncovered;
}

-- a source of another size
pub alike_sized : {s u : State} {t new : Tree} (size : ℕ) → KeepsAlike s u (record t { size = size }) new → KeepsAlike s u t new
alike_sized {t = t} size keeps = record { each = λ told at i holds alike. keeps.each told at i (holds_shaped t.depth size t.top holds) alike }

-- A source without a block gets another size, and other levels.
pub alike_empty : {s : State} {t : Tree} (depth size : ℕ) → t.top ≡ Nil → KeepsAlike s s t (record t { depth = depth; size = size })
alike_empty {t = t} depth size none = record {
  each = λ told at i holds alike. (
    holds_shaped depth size t.top holds,
    λ f formed to. record { each = λ image p q path b is same found finds of. absurd (lost image path (Head f) (λ c h. let x : Nil ≡ Local c = sym (to ∙ none) ∙ h in cc) b finds.leads) },
  );
}

-- ---- the entry's place

-- Blocks of a way were made current: no entry stands in one of them.
pub holds_on : {s u : State} {t : Tree} {n level : ℕ} (k top : ℕ) → Laws s → Hangs s t → u.tops 1 → n ≤ t.depth → Descends t (OnWay s t n k) level s u → s.tells → {at i : ℕ} → HoldsEntry s t at i → HoldsEntry u (with_top t top) at i
holds_on {s} {u} {t} {n} {level} k top laws hangs active within d told {at} {i} holds = record {
  there = holds.there;
  stands = d.places told at holds.there not_made not_mine free (1, inl active, reached) holds.stands;
  names = holds.names;
  below = holds.below;
  above = holds.above;
  in_tree = reached;
  uncovered = free;
}
  where
    not_made : Made s u at → ⊥
    not_made made = made.0 (laws.live at told ((d.made at made).was.0) holds.in_tree).0

    not_mine : OnWay s t n k at → ⊥
    not_mine on =
        let low = on_way_ranked s t (record { placed = laws.placed told; one = laws.one }) hangs told n k at within on in
        let same : low.there.rank ≡ holds.there.rank = ap (λ (p : Place). p.rank) (laws.one.each at low.there holds.there low.stands holds.stands) in
        let rank = low.rank in
        let above = holds.above in
        let few = hangs.few in
        omega (arith, same, rank, above, few)

    free : u.covered at → ⊥
    free = d.only at holds.uncovered not_mine

    reached : Reaches u.now (to_block 1) at
    reached = d.in_tree told at not_mine holds.in_tree

-- ---- the top

-- Every image has this block as memory has it.
abbrev pub Sure : State → ℕ → Type 0
Sure s b = (image : Image) → s.may_leave image → SameContent (image b) (s.now b)

data_level : (dir : Bool) (level : ℕ) → kind_at dir level ≡ Data 0 → level ≡ 0
data_level true level e = cc
data_level false level e = cc

module _ {t : Tree} {kept : List Kept} {l : Label} {result : ℕ} {s m : State} (x : Topped t kept l result s m) (hangs : Hangs s t) (first : AllPlaced s.stands s.may_leave) (then : AllPlaced m.stands m.may_leave) (active : m.tops 1) (one : OnePlace m.stands) where
  on : s.tells → {at i : ℕ} → HoldsEntry s t at i → HoldsEntry m (with_top t result) at i
  on told holds = holds_on {n = zero} {level = t.depth - zero} 0 result x.laws hangs active (omega arith) (descends x 0) told holds

  aside : Aside result s.may_leave m.may_leave
  aside = record {
    before = λ image is. let d = x.came.before image is in (d.other, d.was, d.same);
    apart = λ image is r. x.came.unreached image is 1 x.laws.active r;
  }

  -- a copy of the top came
  pub alike_top_copied : (top : ℕ) → t.top ≡ Local top → SameContent (m.now result) (m.now top) → Sure m top → Sure m result → KeepsAlike s m t (with_top t result)
  alike_top_copied top is same older newer = record { each = λ told at i holds alike. (on told holds, λ f formed to. each told holds alike f formed to) }
    where
      each : s.tells → {at i : ℕ} → HoldsEntry s t at i → EntryAlike s t at i → (f : Entry) → IsFormed t f → f.top ≡ Local result → LeadsAlike m.may_leave m.now at i (Head f)
      each told {at} {i} holds alike f formed to =
          let e : Entry = record f { top = Local top } in
          let ne : at ≢ result = λ h. (x.came.was.3 told).1 holds.there (subst (λ y. s.stands y holds.there) h holds.stands) in
          let old : LeadsAlike m.may_leave m.now at i (Head e) = alike_nowhere {stands = s.stands} first
          (λ image is p stands. (x.came.was.3 told).1 p stands)
          (λ image was c h. (place (kind_at t.dir t.depth) t.tag 0 (t.rank + t.depth), (hangs.told told c (is ∙ h)).0))
          aside ((x.came.others at ne).slots i) (alike e formed (sym is)) in
          alike_copied then refl to (λ p stands. entry_below p i e f refl refl refl) (sure_same {now = m.now} {next = m.now} (record { each = older }) (record { each = newer }) same) old

  -- a block came that leads to no block, of zeros, of pointers, or of a plain source
  pub alike_top_new : ((j b : ℕ) → target ((m.now result).slot j) ≢ Local b) → ((m.now result).bytes ≡ zero_bytes) ⊎ (IsPlainTree t ⊎ (0 < t.depth)) → Sure m result → KeepsAlike s m t (with_top t result)
  alike_top_new bare how newer = record { each = λ told at i holds alike. (on told holds, λ f formed to. each told (on told holds) f formed to) }
    where
      each : s.tells → {at i : ℕ} → HoldsEntry m (with_top t result) at i → (f : Entry) → IsFormed t f → f.top ≡ Local result → LeadsAlike m.may_leave m.now at i (Head f)
      each told {at} {i} holds f formed to = alike_bare then to
          (λ image is j b h. bare j b (ap target (sym ((newer image is).slots j)) ∙ h))
          (λ image is p stands kind rank.
          let there : place_below p i (Head f) ≡ place (kind_at t.dir t.depth) t.tag 0 (t.rank + t.depth) = ap (λ q. place_below q i (Head f)) (one.each at p holds.there stands holds.stands) ∙ holds.below f formed in
          (newer image is).bytes ∙ ⊎_elim
          (λ zeros. zeros)
          (λ other.
          let low : t.depth ≡ 0 = data_level t.dir t.depth (sym (ap (λ (q : Place). q.kind) there) ∙ kind) in
          let ranked : (t.rank + t.depth) % 32 ≡ 16 = subst (λ (q : Place). q.rank % 32 ≡ 16) there rank in
          absurd (⊎_elim (λ plain. plain.1 (omega (arith, low, ranked))) (λ high. omega (arith, low, high)) other))
          how)

-- ---- the way

-- The top of a way that was made current is so at its place.
pub top_own : (s u : State) (t : Tree) (kept : List Kept) (top n k at : ℕ) → k < 409 ^ n → Leads s u t kept top n k at → IsOwn u t t.depth 0 top
top_own s u t kept top zero k at few leads =
    let none : k ≡ 0 = omega (arith, few) in
    let all : t.depth - zero ≡ t.depth = omega arith in
    subst (λ i. IsOwn u t t.depth i top) none (subst (λ level. IsOwn u t level k top) all (subst (λ y. IsOwn u t (t.depth - zero) k y) leads.0 leads.1.own))
top_own s u t kept top (suc n) k at few leads =
    let more : 409 ^ suc n ≡ 409 * 409 ^ n = pow-succ' 409 n in
    top_own s u t kept top n (k / 409) leads.0.0 (omega (arith, few, more)) leads.0.1

can_stand : {m : State} {t : Tree} {top at i : ℕ} → m.tells → IsOwn m t t.depth 0 top → HoldsEntry m (with_top t top) at i → (f : Entry) → IsFormed t f → f.top ≡ Local top → CanStand m at i (Head f)
can_stand {m} {t} {top} {at} {i} told own holds f formed to =
    let is = own.told told in
    record {
      place = holds.there;
      stands = holds.stands;
      names = holds.names;
      in_tree = holds.in_tree;
      uncovered = holds.uncovered;
      leads = λ b h. subst (λ y. m.stands y (place_below holds.there i (Head f)) × IsHung m y × (m.covered y → ⊥)) (local_eq (sym to ∙ h))
          (subst (λ q. m.stands top q) (sym (holds.below f formed)) is.stands, is.hung, is.uncovered);
    }

-- A block below was made current, too.
pub alike_linked : {s m u : State} {t : Tree} {level k above i top result n depth : ℕ} {was : Pointer} (j : ℕ) → Laws s → Hangs s t → u.tops 1 → n ≤ t.depth → Descends t (OnWay s t n j) depth s u → KeepsAll s m → KeepsAlike s m t (with_top t top) → IsOwn m t t.depth 0 top → Links t level k above i was result m u → KeepsAlike s u t (with_top t top)
alike_linked {top = top} j laws hangs active within d all first own links = record {
  each = λ told at i holds alike.
      let mid = first.each told at i holds alike in
      let now = all.still_tells.1 told in (
        holds_on j top laws hangs active within d told holds,
        λ f formed to. links.alike.each now at i (Head f) (can_stand now own mid.0 f formed to) (mid.1 f formed to),
      );
}
