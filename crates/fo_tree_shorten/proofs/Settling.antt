-- A source after a settling.
use Rattle.std.proofs.Common.{◌≡◌, ◌⊎◌, ◌+◌, ◌-◌, ◌/◌, ◌%◌, ◌≤◌, ℕ, zero, suc, Bool, true, false, List, [], ◌∷◌, ◌++◌, length, inl, inr, ⊎_elim, refl, sym, ◌∙◌, ap, subst, arith}
use Rattle.std.proofs.lemmas.Bool.{cases_eq}
use Rattle.fo_image.specs.declared.types.Kind.{Kind}
use Rattle.fo_image.specs.declared.types.Kind.TheVariants.{Data, Dir, Root}
use Rattle.fo_image.specs.declared.types.Label.{Label}
use Rattle.fo_image.specs.declared.types.Pointer.{Pointer}
use Rattle.fo_image.specs.declared.types.Pointer.TheVariants.{Nil, Local, Score as Held}
use Rattle.fo_image.specs.Format.{kind_code}
use Rattle.fo_crash.specs.declared.place.Place.{Place}
use Rattle.fo_crash.specs.declared.slot.Slot.{Slot}
use Rattle.fo_crash.specs.Images.{Reaches, target, local, walk, to_block}
use Rattle.fo_crash.specs.Places.{place, super_place}
use Rattle.fo_crash.proofs.Places.{stands_below}
use Rattle.fo_crash.proofs.Reach.{lost, walk_joins, reaches_on, reaches_itself}
use Rattle.fo_ports.specs.State.{State, KeepsAll, Rests, StaysKnown, IsDoomed}
use Rattle.fo_ports.specs.Sources.{IsReady, StaysReady, StaysInPlace, Undisturbed}
use Rattle.fo_tree_read.specs.declared.tree.Tree.{Tree}
use Rattle.fo_tree_read.specs.Tree.{kind_at, kind_down, below, score_in, block_at}
use Rattle.fo_tree_read.proofs.Walk.{is_down}
use Rattle.fo_tree_look.specs.declared.ways.Kept.{Kept}
use Rattle.fo_tree_look.specs.Source.{HasBlock, Over, WayReady, leaves_of}
use Rattle.fo_tree_look.proofs.Still.{Says, over_stays}
use Rattle.fo_tree_link.specs.of_tree_down.Way.{WayCurrent}
use Rattle.fo_tree_link.proofs.of_tree_down.Next.{local_seen, seen_local}
use Rattle.fo_tree_link.proofs.of_tree_own.Link.{Laws}
use Rattle.fo_tree_link.specs.of_tree_open.Open.{HasEntry, NamesRank}
use Rattle.fo_tree_link.specs.Change.{HangsInTree}
use Rattle.fo_tree_link.proofs.Named.{leaf_not_root}
use Rattle.fo_tree_trim.proofs.Holding.{Holds, holds_stays}
use Rattle.fo_tree_shorten.specs.Shorten.{EntryAt}

kind_cases : (k : Kind) → (k ≡ Dir 0) ⊎ (k ≡ Dir 0 → ⊥)
kind_cases (Data level) = inr (λ e. cc)
kind_cases (Dir zero) = inl refl
kind_cases (Dir (suc level)) = inr (λ e. cc)
kind_cases Root = inr (λ e. cc)

no_dir : (dir : Bool) (level : ℕ) → dir ≡ false → kind_at dir level ≡ Dir 0 → ⊥
no_dir false level e is = cc
no_dir true level e is = cc

-- All was settled, and the source was linked before.
pub record Settles (s u : State) (t : Tree) (kept : List Kept) (limit generation at i : ℕ) : Type 0 where
  pub all : KeepsAll s u
  pub laws : Laws s
  pub end : Laws u
  pub says : s.tells → Says s
  pub one_stays : s.covered 1 → ⊥
  pub over : Over s t kept limit
  pub plain : t.dir ≡ false
  pub entry : EntryAt s t generation at i
  pub linked : s.tells → HangsInTree s t at i
  pub undoomed : s.tells → (b : ℕ) → (b ≡ at) ⊎ HasBlock s t b → IsDoomed s b → ⊥
  pub rests : Rests s u
  pub known : (b : ℕ) → s.pinned b → StaysKnown s u b
  pub blocks : (b : ℕ) → (u.label b ≡ s.label b) × (s.pinned b → u.pinned b) × (s.sealed b → u.sealed b)

module _ {s u : State} {t : Tree} {kept : List Kept} {limit generation at i : ℕ} (x : Settles s u t kept limit generation at i) where
  -- ---- over any device

  known_slot : (b : ℕ) → s.pinned b → (j : ℕ) → ((u.now b).slot j ≡ (s.now b).slot j) ⊎ s.clearing b j
  known_slot b pinned j = ⊎_elim (λ same. inl same.0) (λ cleared. inr cleared.0) ((x.known b pinned).slots j)

  pub entry_settled : EntryAt u t generation at i
  entry_settled =
      let same = (x.blocks at).0 in
      record {
        is = ⊎_elim (λ slot. slot ∙ x.entry.is) (λ waits. absurd (x.entry.settled waits)) (known_slot at x.entry.is_pinned i);
        is_pinned = (x.blocks at).1 x.entry.is_pinned;
        live = ap (λ (l : Label). l.state) same ∙ x.entry.live;
        current = ap (λ (l : Label). l.epoch) same ∙ x.entry.current ∙ sym x.all.same_high;
        apart = λ f. x.entry.apart (sym (ap (λ (l : Label). l.tag) same) ∙ f);
        leaf = subst (λ k. HasEntry k i) (sym (ap (λ (l : Label). l.kind) same)) x.entry.leaf;
        settled = λ h. x.entry.settled (x.rests.order at i h);
      }

  stays : (b : ℕ) → IsReady t.tag s b → StaysReady s u b
  stays b ready = record {
    is_pinned = (x.blocks b).1 ready.is_pinned;
    same_label = (x.blocks b).0;
    same_slots = ⊎_elim
        (λ leaf. inl leaf)
        (λ no. inr (λ j. ⊎_elim (λ slot. slot) (λ waits. absurd (no (x.laws.clears b j waits).0)) (known_slot b ready.is_pinned j)))
        (kind_cases (s.label b).kind);
    same_length = ap length (x.known b ready.is_pinned).bytes;
  }

  holds : Holds s u t kept kept
  holds = holds_stays s u t kept x.all stays

  pub ready_settled : (n k : ℕ) → n ≤ t.depth → WayReady s t kept n k → WayReady u t kept n k
  ready_settled n k le way = holds.ready n k le way

  pub current_settled : (n k : ℕ) → n ≤ t.depth → WayReady s t kept n k → WayCurrent s t n k → WayCurrent u t n k
  current_settled zero k le way c = (c.0, c.1, ap (λ (l : Label). l.epoch) (x.blocks c.0).0 ∙ c.2 ∙ sym x.all.same_high)
  current_settled (suc n) k le way c = (
    current_settled n (k / 409) (omega (arith, le)) way.0 c.0,
    (
      c.1.0,
      seen_local u kept t (suc n) k c.1.0 (holds.step n k le way.0 ∙ local_seen s kept t (suc n) k c.1.0 c.1.1),
      ap (λ (l : Label). l.epoch) (x.blocks c.1.0).0 ∙ c.1.2 ∙ sym x.all.same_high,
    ),
  )

  -- ---- where the device tells

  module _ (told : s.tells) where
    free : (b : ℕ) → Reaches s.now (to_block 1) b → s.covered b → ⊥
    free b r = ⊎_elim
        (λ one h. x.one_stays (subst (λ y. s.covered y) one h))
        (λ ne. (x.laws.live b told ne r).2)
        (cases_eq b 1)

    -- what is above a block that isn't doomed isn't either, and its slot on the way there stays
    step_on : (a j b : ℕ) (path : List ℕ) → Reaches s.now (to_block 1) a → (IsDoomed s b → ⊥) → target (walk s.now ((s.now a).slot j) path) ≡ Local b → (u.now a).slot j ≡ (s.now a).slot j
    step_on a j b path r not e =
        let above : IsDoomed s a → ⊥ = λ h. ⊎_elim
        (λ covered. free a r covered)
        (λ waits. not (inr (waits.0, waits.1, waits.2, record { path = waits.3.path ++ (j ∷ path); leads = joined waits.3 })))
        h in
        ⊎_elim
        (λ same. same.0)
        (λ cleared. absurd (not (inr (a, j, cleared.0, record { path = path; leads = e }))))
        ((x.rests.blocks told a above).slots j)
      where
        joined : {w : Slot} → (q : Reaches s.now w a) → target (walk s.now w (q.path ++ (j ∷ path))) ≡ Local b
        joined {w} q = ap (λ y. target y) (walk_joins s.now w q.path (j ∷ path)) ∙ ap (λ (y : Pointer). target (walk s.now ((local s.now y).slot j) path)) q.leads ∙ e

    path_on : (path : List ℕ) (w : Slot) (b : ℕ) → ((a : ℕ) → target w ≡ Local a → Reaches s.now (to_block 1) a) → (IsDoomed s b → ⊥) → target (walk s.now w path) ≡ Local b → target (walk u.now w path) ≡ Local b
    path_on [] w b h not e = e
    path_on (j ∷ path) w b h not e = on (λ next. path_on path ((local s.now (target w)).slot j) b next not e) (target w) refl
      where
        on : (((a : ℕ) → target ((local s.now (target w)).slot j) ≡ Local a → Reaches s.now (to_block 1) a) → target (walk u.now ((local s.now (target w)).slot j) path) ≡ Local b) → (p : Pointer) → target w ≡ p → target (walk u.now ((local u.now (target w)).slot j) path) ≡ Local b
        on next Nil is = absurd (lost s.now (j ∷ path) w (λ c g. let n : Nil ≡ Local c = sym is ∙ g in cc) b e)
        on next (Held score) is = absurd (lost s.now (j ∷ path) w (λ c g. let n : Held score ≡ Local c = sym is ∙ g in cc) b e)
        on next (Local a) is =
            let r = h a is in
            let after : target (walk s.now ((s.now a).slot j) path) ≡ Local b = ap (λ (y : Pointer). target (walk s.now ((local s.now y).slot j) path)) (sym is) ∙ e in
            let same = step_on a j b path r not after in
            let eq : (local u.now (target w)).slot j ≡ (local s.now (target w)).slot j = ap (λ (y : Pointer). (local u.now y).slot j) is ∙ same ∙ ap (λ (y : Pointer). (local s.now y).slot j) (sym is) in
            ap (λ (q : Slot). target (walk u.now q path)) eq
            ∙ next (λ c g. reaches_on j r (ap (λ (y : Pointer). target ((local s.now y).slot j)) (sym is) ∙ g))

    in_tree : (b : ℕ) → (IsDoomed s b → ⊥) → Reaches s.now (to_block 1) b → Reaches u.now (to_block 1) b
    in_tree b not r = record { path = r.path; leads = path_on r.path (to_block 1) b (λ a e. subst (λ y. Reaches s.now (to_block 1) y) (same e) (reaches_itself s.now 1)) not r.leads }
      where
        same : {c d : ℕ} → Local c ≡ Local d → c ≡ d
        same e = cc

    own_reached : (b : ℕ) → HasBlock s t b → Reaches s.now (to_block 1) b
    own_reached b has = (x.linked told).owned b has

    own_kind : (b : ℕ) → HasBlock s t b → (s.label b).kind ≡ Dir 0 → ⊥
    own_kind b has e =
        let down = is_down s t (x.laws.placed told) x.over.hangs told has.down has.index b has.within has.is in
        let kind : (s.label b).kind ≡ kind_down t has.down = (x.says told).labelled b (place (kind_down t has.down) t.tag down.index (t.rank + (t.depth - has.down)))
        (λ one. leaf_not_root t.dir (t.depth - has.down) (ap (λ (p : Place). p.kind) (x.laws.one.each 1 (place (kind_down t has.down) t.tag down.index (t.rank + (t.depth - has.down))) super_place (subst (λ y. s.stands y (place (kind_down t has.down) t.tag down.index (t.rank + (t.depth - has.down)))) one down.stands) (x.laws.super_stands told))))
        down.stands in
        no_dir t.dir (t.depth - has.down) x.plain (sym kind ∙ e)

    own_slot : (b : ℕ) → HasBlock s t b → (j : ℕ) → (u.now b).slot j ≡ (s.now b).slot j
    own_slot b has j = ⊎_elim
        (λ same. same.0)
        (λ cleared. absurd (own_kind b has (x.laws.clears b j cleared.0).0))
        ((x.rests.blocks told b (x.undoomed told b (inr has))).slots j)

    own_stays : (b : ℕ) → HasBlock s t b → StaysInPlace s u b
    own_stays b has =
        let still = x.rests.blocks told b (x.undoomed told b (inr has)) in
        let r = own_reached b has in
        let on = in_tree b (x.undoomed told b (inr has)) r in
        record {
          same_slots = inr (λ j. own_slot b has j);
          same_length = ap length still.bytes;
          same_label = still.label;
          same_places = λ was p stands. still.places (1, inl x.laws.active, r) p stands;
          in_tree = λ was. on;
          hung = λ was. inl on;
          linked = λ was. inr on;
          uncovered = λ was. still.uncovered;
          instead = λ y h. (x.rests.instead y b).0 h;
        }

    undisturbed : Undisturbed (leaves_of s t kept limit) t.size s u
    undisturbed = record { each = λ b own. (own_stays b own, inl (x.rests.blocks told b (x.undoomed told b (inr own))).bytes) }

    -- its blocks are those that it had
    step : (n : ℕ) (p : Pointer) (j : ℕ) → ((b : ℕ) → p ≡ Local b → HasBlock s t b) → below u (kind_down t n) p j ≡ below s (kind_down t n) p j
    step n Nil j own = refl
    step n (Local b) j own = ap (λ (q : Slot). target q) (own_slot b (own b refl) j)
    step n (Held score) j own = ap (λ h. score_in h j) (x.all.same_held score (kind_code (kind_down t n)))

    block_on : (n k : ℕ) → n ≤ t.depth → block_at u t n k ≡ block_at s t n k
    block_on zero k le = refl
    block_on (suc n) k le =
        ap (λ (p : Pointer). below u (kind_down t n) p (k % 409)) (block_on n (k / 409) (omega (arith, le)))
        ∙ step n (block_at s t n (k / 409)) (k % 409) (λ b e. record { down = n; index = k / 409; within = omega (arith, le); is = e })

    has_back : (b : ℕ) → HasBlock u t b → HasBlock s t b
    has_back b has = record { down = has.down; index = has.index; within = has.within; is = sym (block_on has.down has.index has.within) ∙ has.is }

    pub hangs_settled : HangsInTree u t at i
    hangs_settled =
        let was = x.linked told in
        let not = x.undoomed told at (inl refl) in
        let there = stands_below super_place (x.laws.placed told) (x.laws.ranked told) (x.laws.super_stands told) was.in_tree in
        record {
          in_tree = in_tree at not was.in_tree;
          ranked = λ p stands.
              let same : there.0 ≡ p = x.end.one.each at there.0 p ((x.rests.blocks told at not).places (1, inl x.laws.active, was.in_tree) there.0 there.1) stands in
              subst (λ (q : Place). NamesRank q.kind q.rank i t.dir t.rank) same (was.ranked there.0 there.1);
          owned = λ b has. let old = has_back b has in in_tree b (x.undoomed told b (inr old)) (own_reached b old);
          none = λ y z h. was.none y z ((x.rests.instead y z).0 h);
        }

  pub over_settled : Over u t kept limit
  over_settled = over_stays s u t kept limit x.all x.over x.says undisturbed
