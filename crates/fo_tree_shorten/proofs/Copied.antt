-- The blocks above the last leaf of a source were made current: which of them came, and what images have of them.
use Rattle.std.proofs.Common.{◌≡◌, ◌≢◌, ◌⊎◌, ◌+◌, ◌-◌, ◌/◌, ◌%◌, ◌^◌, ◌<◌, ◌≤◌, ℕ, zero, suc, List, ⊎_elim, refl, sym, ◌∙◌, ap, subst, arith}
use Rattle.std.proofs.lemmas.Bool.{cases_lt}
use Rattle.fo_image.specs.declared.types.Label.{Label}
use Rattle.fo_image.specs.declared.types.Pointer.{Pointer}
use Rattle.fo_image.specs.declared.types.Pointer.TheVariants.{Nil, Local, Score as Held}
use Rattle.fo_image.specs.Format.{kind_code}
use Rattle.fo_crash.specs.declared.place.Place.{Place}
use Rattle.fo_crash.specs.Images.{Image, Reaches, target, to_block}
use Rattle.fo_crash.specs.Places.{place, super_place}
use Rattle.fo_crash.specs.Steps.{IsSure}
use Rattle.fo_ports.specs.State.{State, KeepsAll}
use Rattle.fo_ports.specs.Sources.{Changes, Made, Touched}
use Rattle.fo_tree_read.specs.declared.tree.Tree.{Tree}
use Rattle.fo_tree_read.specs.Tree.{Hangs, kind_down, below, block_at}
use Rattle.fo_tree_read.proofs.Walk.{held_apart, is_down}
use Rattle.fo_tree_look.specs.declared.ways.Kept.{Kept}
use Rattle.fo_tree_look.specs.Source.{HasBlock, Over}
use Rattle.fo_tree_link.specs.of_tree_down.Way.{IsWayIndex, StaysBeside, WayCurrent, with_top}
use Rattle.fo_tree_link.proofs.of_tree_down.Beside.{index_within}
use Rattle.fo_tree_link.proofs.of_tree_down.Join.{level_same}
use Rattle.fo_tree_link.proofs.of_tree_own.Link.{Laws}
use Rattle.fo_tree_link.specs.Change.{HangsInTree}
use Rattle.fo_tree_link.proofs.Named.{leaf_not_root}
use Rattle.fo_tree_shorten.proofs.Relinking.{IsCopied}
use Rattle.fo_tree_shorten.proofs.Showing.{local_eq, nil_local}

-- A way was made current, and a new top came.
pub record Copies (s m : State) (t : Tree) (kept : List Kept) (limit at i n k top : ℕ) (inner : ℕ → Type 0) : Type 0 where
  pub told : s.tells
  pub first : Laws s
  pub mid : Laws m
  pub named : (b : ℕ) (p : Place) → b ≢ 1 → s.stands b p → (s.label b).kind ≡ p.kind
  pub named_mid : (b : ℕ) (p : Place) → b ≢ 1 → m.stands b p → (m.label b).kind ≡ p.kind
  pub all : KeepsAll s m
  pub over : Over s t kept limit
  pub hangs_mid : Hangs m (with_top t top)
  pub linked : HangsInTree s t at i
  pub changes : Changes t.tag (HasBlock s t) inner s m
  pub high : n < t.depth
  pub few : k < 409 ^ n
  pub current : WayCurrent m (with_top t top) n k
  pub beside : StaysBeside s m t (with_top t top) n k
  pub owns : (b : ℕ) → HasBlock m (with_top t top) b → HasBlock s t b ⊎ Made s m b
  pub stays : (b : ℕ) → HasBlock s t b → (s.label b).epoch ≡ s.high → HasBlock m (with_top t top) b
  pub falls : (a j b : ℕ) → a ≢ 1 → Reaches s.now (to_block 1) a → target ((s.now a).slot j) ≡ Local b → (s.label b).epoch ≤ (s.label a).epoch
  pub old_sure : (b : ℕ) → b ≢ 1 → Reaches s.now (to_block 1) b → (s.label b).epoch < s.high → IsSure s.now b s.may_leave
  pub made : Made s m top

current_at : (m : State) (t : Tree) (n k j a w : ℕ) → WayCurrent m t n k → IsWayIndex n k j a → block_at m t j a ≡ Local w → (m.label w).epoch ≡ m.high
current_at m t zero k j a w c is e =
    let top : t.top ≡ Local w = ap (λ z. block_at m t z a) (sym is.0) ∙ e in
    subst (λ z. (m.label z).epoch ≡ m.high) (local_eq (sym c.1 ∙ top)) c.2
current_at m t (suc n) k j a w c is e = ⊎_elim
    (λ here.
    let at : block_at m t (suc n) k ≡ Local w = ap (λ z. block_at m t (suc n) z) (sym here.1) ∙ ap (λ z. block_at m t z a) (sym here.0) ∙ e in
    subst (λ z. (m.label z).epoch ≡ m.high) (local_eq (sym c.1.1 ∙ at)) c.1.2)
    (λ up. current_at m t n (k / 409) j a w c.0 up e)
    is

module _ {s m : State} {t : Tree} {kept : List Kept} {limit at i n k top : ℕ} {inner : ℕ → Type 0} (c : Copies s m t kept limit at i n k top inner) where
  abbrev new : Tree
  new = with_top t top

  not_made : (b : ℕ) → HasBlock s t b → Made s m b → ⊥
  not_made b has made = made.0 (c.over.told c.told b has).live

  not_one : (b : ℕ) → HasBlock s t b → b ≢ 1
  not_one b has one =
      let down = is_down s t (c.first.placed c.told) c.over.hangs c.told has.down has.index b has.within has.is in
      leaf_not_root t.dir (t.depth - has.down) (ap (λ (p : Place). p.kind) (c.first.one.each 1 (place (kind_down t has.down) t.tag down.index (t.rank + (t.depth - has.down))) super_place (subst (λ y. s.stands y (place (kind_down t has.down) t.tag down.index (t.rank + (t.depth - has.down)))) one down.stands) (c.first.super_stands c.told)))

  -- a block that was there before, and is there after, is at one level
  one_level : (b : ℕ) → (has : HasBlock s t b) → (then : HasBlock m new b) → t.depth - has.down ≡ t.depth - then.down
  one_level b has then =
      let told = c.all.still_tells.1 c.told in
      let old = is_down s t (c.first.placed c.told) c.over.hangs c.told has.down has.index b has.within has.is in
      let now = is_down m new (c.mid.placed told) c.hangs_mid told then.down then.index b then.within then.is in
      let was : (s.label b).kind ≡ kind_down t has.down = c.named b (place (kind_down t has.down) t.tag old.index (t.rank + (t.depth - has.down))) (not_one b has) old.stands in
      let is : (m.label b).kind ≡ kind_down t then.down = c.named_mid b (place (kind_down t then.down) t.tag now.index (t.rank + (t.depth - then.down))) (not_one b has) now.stands in
      let same : m.label b ≡ s.label b = (c.changes.others b (not_made b has)).label in
      level_same t.dir (t.depth - has.down) (t.depth - then.down) (sym was ∙ ap (λ (l : Label). l.kind) (sym same) ∙ is)

  -- the top was of an older epoch: a current one would have stayed
  top_older : (b : ℕ) → t.top ≡ Local b → (s.label b).epoch < s.high
  top_older b e =
      let has : HasBlock s t b = record { down = 0; index = 0; within = omega arith; is = e } in
      let up = (c.over.told c.told b has).up_to in
      ⊎_elim
      (λ lt. lt)
      (λ ge.
      let then = c.stays b has (omega (arith, up, ge)) in
      let level = one_level b has then in
      let le = then.within in
      let none : then.down ≡ 0 = omega (arith, level, le) in
      let same : Local top ≡ Local b = ap (λ z. block_at m new z then.index) (sym none) ∙ then.is in
      absurd (not_made b has (subst (λ z. Made s m z) (local_eq same) c.made)))
      (cases_lt (s.label b).epoch s.high)

  -- and so were all its blocks
  older : (j a b : ℕ) → j ≤ t.depth → block_at s t j a ≡ Local b → (s.label b).epoch < s.high
  older zero a b le e = top_older b e
  older (suc j) a b le e = by (block_at s t j (a / 409)) refl e (λ d f. older j (a / 409) d (omega (arith, le)) f)
    where
      by : (p : Pointer) → block_at s t j (a / 409) ≡ p → below s (kind_down t j) p (a % 409) ≡ Local b → ((d : ℕ) → block_at s t j (a / 409) ≡ Local d → (s.label d).epoch < s.high) → (s.label b).epoch < s.high
      by Nil is f above = absurd (nil_local b f)
      by (Held score) is f above = absurd (held_apart (s.held score (kind_code (kind_down t j))) (a % 409) b f)
      by (Local d) is f above =
          let has : HasBlock s t d = record { down = j; index = a / 409; within = omega (arith, le); is = is } in
          let fall = c.falls d (a % 409) b (not_one d has) (c.linked.owned d has) f in
          let lt = above d is in
          omega (arith, fall, lt)

  -- all on the way came
  way_made : (j a w : ℕ) → j ≤ t.depth → IsWayIndex n k j a → block_at m new j a ≡ Local w → Made s m w
  way_made j a w le is e = ⊎_elim
      (λ has.
      let lt = older has.down has.index w has.within has.is in
      let same : (m.label w).epoch ≡ (s.label w).epoch = ap (λ (l : Label). l.epoch) ((c.changes.others w (not_made w has)).label) in
      let now = current_at m new n k j a w c.current is e in
      let high = c.all.same_high in
      absurd (omega (arith, lt, same, now, high)))
      (λ made. made)
      (c.owns w (record { down = j; index = a; within = le; is = e }))

  not_touched : (b : ℕ) → HasBlock s t b → Touched s m t.tag inner b → ⊥
  not_touched b has h = ⊎_elim (not_made b has) (λ own. let lt = older has.down has.index b has.within has.is in let e = own.1 in omega (arith, lt, e)) h

  -- Images of afterwards have what came as memory has it, and what was there as memory had it.
  pub copied_in : {x y : Image} → m.may_leave y → ((w : ℕ) → Made s m w → (j : ℕ) → (x w).slot j ≡ (m.now w).slot j) → IsCopied s m t top n k x y
  copied_in {x} {y} is sure =
      let high = c.high in
      record {
        few = c.few;
        high = high;
        beside = c.beside;
        new = λ j a w way e. sure w (way_made j a w (let le = index_within n k j a way in omega (arith, le, high)) way e);
        old = λ j a w le e l.
            let has : HasBlock s t w = record { down = j; index = a; within = le; is = e } in
            let before = c.changes.images y is in
            (before.same w (not_touched w has)).slots l ∙ ((c.old_sure w (not_one w has) (c.linked.owned w has) (older j a w le e)).each before.other before.was).slots l;
      }
