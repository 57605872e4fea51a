-- What is told of the blocks of the new tree, so that the source stands over them.
use Rattle.std.proofs.Common.{◌≡◌, ◌⊎◌, ◌+◌, ◌-◌, ◌*◌, ◌/◌, ◌%◌, ◌^◌, ◌<◌, ◌≤◌, ℕ, zero, suc, List, inl, inr, ⊎_elim, refl, sym, ◌∙◌, ap, subst, arith}
use Rattle.std.proofs.lemmas.Bool.{cases_eq}
use Rattle.std.proofs.Math.Nat.{pow-succ'}
use Rattle.fo_image.specs.declared.types.Label.{Label}
use Rattle.fo_image.specs.declared.types.Score.{Score}
use Rattle.fo_image.specs.declared.types.Pointer.{Pointer}
use Rattle.fo_image.specs.declared.types.Pointer.TheVariants.{Local, Score as Held}
use Rattle.fo_tree_own.specs.of_crash.Images.{Reaches, to_block}
use Rattle.fo_tree_own.specs.of_crash.Places.{place}
use Rattle.fo_tree_look.specs.of_ports.State.{State}
use Rattle.fo_tree_look.specs.of_ports.Sources.{Made}
use Rattle.fo_tree_look.proofs.of_looks.Looks.{rooted_of_apart}
use Rattle.fo_tree_look.specs.of_tree_read.declared.tree.Tree.{Tree}
use Rattle.fo_tree_look.specs.of_tree_read.Tree.{kind_at, kind_down, below, block_at, Hangs}
use Rattle.fo_tree_look.specs.declared.ways.Kept.{Kept}
use Rattle.fo_tree_look.specs.Source.{HasBlock, IsTold, NoneHeld, Over}
use Rattle.fo_tree_look.proofs.Shown.{held_on}
use Rattle.fo_tree_own.proofs.Here.{own_told}
use Rattle.fo_tree_down.specs.Way.{OnWay, Replaces, with_top, IsTopOf}
use Rattle.fo_tree_down.proofs.Next.{local_eq}
use Rattle.fo_tree_down.proofs.Beside.{index_cases, index_top, WentDown, stays_beside, not_mine, on_way_block}
use Rattle.fo_tree_down.proofs.Stilling.{WasOwned, way_leads}

-- ---- an index within the room of its level

abbrev index_of : ℕ → ℕ → ℕ
index_of zero j = 0
index_of (suc m) j = 409 * index_of m (j / 409) + j % 409

index_few : (m j : ℕ) → index_of m j < 409 ^ m
index_few zero j = omega arith
index_few (suc m) j =
    let more : 409 ^ suc m ≡ 409 * 409 ^ m = pow-succ' 409 m in
    let up : index_of m (j / 409) < 409 ^ m = index_few m (j / 409) in
    let rest : j % 409 < 409 = omega arith in
    less (index_of m (j / 409)) (j % 409) (409 ^ m) (409 ^ suc m) up rest more
  where
    less : (a r p q : ℕ) → a < p → r < 409 → q ≡ 409 * p → 409 * a + r < q
    less a r p q lt few is = omega (arith, lt, few, is)

-- the blocks past that room are those within
index_same : (s : State) (t : Tree) (m j : ℕ) → block_at s t m (index_of m j) ≡ block_at s t m j
index_same s t zero j = refl
index_same s t (suc m) j =
    let up : (409 * index_of m (j / 409) + j % 409) / 409 ≡ index_of m (j / 409) = omega arith in
    let rest : (409 * index_of m (j / 409) + j % 409) % 409 ≡ j % 409 = omega arith in
    ap (λ y. below s (kind_down t m) (block_at s t m y) ((409 * index_of m (j / 409) + j % 409) % 409)) up
    ∙ ap (λ y. below s (kind_down t m) (block_at s t m (index_of m (j / 409))) y) rest
    ∙ ap (λ (p : Pointer). below s (kind_down t m) p (j % 409)) (index_same s t m (j / 409))

local_held : (w : ℕ) (score : Score) → Local w ≡ Held score → ⊥
local_held w score e = cc

-- A block of the new tree came, or is one that was there and stays.
pub record IsNew (s u : State) (t : Tree) (b : ℕ) : Type 0 where
  pub down : ℕ
  pub index : ℕ
  pub within : down ≤ t.depth
  pub is : Replaces s u t down index b

pub record IsOld (s : State) (t : Tree) (n k b : ℕ) : Type 0 where
  pub has : HasBlock s t b
  pub off : OnWay s t n k b → ⊥

module _ {s u : State} {t : Tree} {kept : List Kept} {top n k at level : ℕ} (x : WentDown s u t kept top n k at level) where
  sorted : (b : ℕ) → HasBlock u (with_top t top) b → IsNew s u t b ⊎ IsOld s t n k b
  sorted b has =
      let m = has.down in
      let j = index_of m has.index in
      let few : j < 409 ^ m = index_few m has.index in
      let here : block_at u (with_top t top) m j ≡ Local b = index_same u (with_top t top) m has.index ∙ has.is in
      ⊎_elim
      (λ on.
      let w = way_leads s u t kept top n k at m j x.leads on in
      inl (record { down = m; index = j; within = has.within; is = subst (λ y. Replaces s u t m j y) (local_eq (sym w.1 ∙ here)) w.2 }))
      (λ off.
      let was : block_at s t m j ≡ Local b = sym ((stays_beside x).each m j has.within few off) ∙ here in
      inr (record { has = record { down = m; index = j; within = has.within; is = was }; off = not_mine x m j b has.within few was off }))
      (index_cases n k m j)

  old_told : (b : ℕ) → IsTold s t.top b → (OnWay s t n k b → ⊥) → IsTold u t.top b
  old_told b was off =
      let same = (x.descends.others b (λ made. made.0 was.live)).label in
      let epoch : (u.label b).epoch ≡ (s.label b).epoch = ap (λ (l : Label). l.epoch) same in
      let high = x.all.same_high in
      let up = was.up_to in
      record {
        live = ap (λ (l : Label). l.state) same ∙ was.live;
        up_to = omega (arith, epoch, high, up);
        uncovered = x.descends.only b was.uncovered off;
        in_tree = λ older. x.descends.in_tree x.told b off (was.in_tree (omega (arith, epoch, high, older)));
        hung = x.descends.hung x.told b off was.hung;
        alone = λ y h. ⊎_elim (λ old. let a = was.alone y old in (a.0, epoch ∙ a.1 ∙ sym high)) (λ new. absurd (off new.1)) (x.descends.instead y b h);
      }

  told_end : ((b : ℕ) → HasBlock s t b → IsTold s t.top b) → (b : ℕ) → HasBlock u (with_top t top) b → IsTold u t.top b
  told_end is_told b has = ⊎_elim
      (λ new. own_told new.is.own (x.all.still_tells.1 x.told))
      (λ old. old_told b (is_told b old.has) old.off)
      (sorted b has)

  pub owned_back : (b : ℕ) → HasBlock u (with_top t top) b → HasBlock s t b ⊎ Made s u b
  owned_back b has = ⊎_elim
      (λ new. ⊎_elim (λ made. inr made) (λ e. inl (record { down = new.down; index = new.index; within = new.within; is = e })) new.is.from)
      (λ old. inl old.has)
      (sorted b has)

  -- what is current stays one of the source
  pub stays_owned : (b : ℕ) → HasBlock s t b → (s.label b).epoch ≡ s.high → HasBlock u (with_top t top) b
  stays_owned b has current =
      let m = has.down in
      let j = index_of m has.index in
      let few : j < 409 ^ m = index_few m has.index in
      let was : block_at s t m j ≡ Local b = index_same s t m has.index ∙ has.is in
      record {
        down = m;
        index = j;
        within = has.within;
        is = ⊎_elim
            (λ on. let w = way_leads s u t kept top n k at m j x.leads on in w.1 ∙ ap (λ y. Local y) (w.2.kept b was current))
            (λ off. (stays_beside x).each m j has.within few off ∙ was)
            (index_cases n k m j);
      }

  unheld_end : NoneHeld s t → NoneHeld u (with_top t top)
  unheld_end none i score e =
      let j = index_of t.depth i in
      let few : j < 409 ^ t.depth = index_few t.depth i in
      let here : block_at u (with_top t top) t.depth j ≡ Held score = index_same u (with_top t top) t.depth i ∙ e in
      ⊎_elim
      (λ on. let w = way_leads s u t kept top n k at t.depth j x.leads on in local_held w.0 score (sym w.1 ∙ here))
      (λ off. none j score (sym ((stays_beside x).each t.depth j (omega arith) few off) ∙ here))
      (index_cases n k t.depth j)

-- ---- the source stands over the blocks

-- What blocks say of what is apart, before and after.
pub record SaysApart (s u : State) : Type 0 where
  pub active : u.tops 1
  pub small : (b : ℕ) → u.is_block b → b < 2 ^ 32 - 1
  pub unlinked : s.tells → (y : ℕ) → s.apart y → Reaches s.now (to_block 1) y → ⊥
  pub comes : u.tells → (y x : ℕ) → u.instead y x → u.apart y

top_told : {u : State} {p q : Pointer} {b : ℕ} → ((y : ℕ) → u.instead y b → p ≡ Local y → q ≡ Local y) → IsTold u p b → IsTold u q b
top_told same is = record { live = is.live; up_to = is.up_to; uncovered = is.uncovered; in_tree = is.in_tree; hung = is.hung; alone = λ y h. let a = is.alone y h in (same y h a.0, a.1) }

module _ {s u : State} {t : Tree} {kept : List Kept} {top n k at : ℕ} (x : WasOwned s u t kept top n k at) (is_top : IsTopOf s u t top) where
  top_stands : u.tells → (b : ℕ) → Local top ≡ Local b → u.stands b (place (kind_at t.dir t.depth) t.tag 0 (t.rank + t.depth)) × (u.covered b → ⊥)
  top_stands now b e =
      let w = way_leads s u t kept top n k at 0 0 x.leads (index_top n k x.few) in
      let told = w.2.own.told now in
      let here : w.0 ≡ b = local_eq (sym w.1 ∙ e) in
      let all : t.depth - 0 ≡ t.depth = omega arith in
      subst (λ y. u.stands y (place (kind_at t.dir t.depth) t.tag 0 (t.rank + t.depth)) × (u.covered y → ⊥)) here
      (subst (λ d. u.stands w.0 (place (kind_at t.dir d) t.tag 0 (t.rank + d))) all told.stands, told.uncovered)

  top_is : Hangs s t → (b : ℕ) → Local top ≡ Local b → u.is_block b
  top_is hangs b e = subst (λ y. u.is_block y) (local_eq e) (⊎_elim
      (λ made. (x.descends.made top made).is_one)
      (λ was. (x.all.same_blocks top).1 (hangs.is_one top was))
      is_top.from)

  -- a top that was raised over a block of the source is a current one, and stays
  top_same : {limit : ℕ} → SaysApart s u → Over s t kept limit → u.tells → (b y : ℕ) → u.instead y b → t.top ≡ Local y → Local top ≡ Local y
  top_same says over now b y h e =
      let told = x.all.still_tells.0 now in
      let is = over.told told y (record { down = 0; index = 0; within = omega arith; is = e }) in
      let w = way_leads s u t kept top n k at 0 0 x.leads (index_top n k x.few) in
      let up = is.up_to in
      ⊎_elim
      (λ current. w.1 ∙ ap (λ z. Local z) (w.2.kept y e current))
      (λ ne. absurd (says.unlinked told y ((x.descends.apart y (λ made. made.0 is.live)).0 (says.comes now y b h)) (is.in_tree (omega (arith, up, ne)))))
      (cases_eq ((s.label y).epoch) s.high)

  top_free : {limit : ℕ} → Over s t kept limit → u.tells → (b : ℕ) → Local top ≡ Local b → u.apart b ⊎ Reaches u.now (to_block 1) b
  top_free over now b e =
      let told = x.all.still_tells.0 now in
      subst (λ y. u.apart y ⊎ Reaches u.now (to_block 1) y) (local_eq e)
      (⊎_elim
      (λ made. inl (is_top.apart made))
      (λ was.
      let is = over.told told top (record { down = 0; index = 0; within = omega arith; is = was }) in
      let not : Made s u top → ⊥ = λ made. made.0 is.live in
      let current : (s.label top).epoch ≡ s.high = ap (λ (l : Label). l.epoch) (sym (x.descends.others top not).label) ∙ is_top.current ∙ x.all.same_high in
      ⊎_elim (λ h. inl ((x.descends.apart top not).1 h)) (λ r. inr (x.descends.current told top current r)) (over.free told top was))
      is_top.from)

  pub over_end : {limit level : ℕ} → SaysApart s u → (s.tells → WentDown s u t kept top n k at level) → 0 < t.size → Over s t kept limit → Over u (with_top t top) kept limit
  over_end says went some over = record {
    hangs = record {
      few = over.hangs.few;
      room = over.hangs.room;
      low = over.hangs.low;
      is_one = top_is over.hangs;
      told = top_stands;
      rooted = λ now b e. ⊎_elim (λ h. rooted_of_apart u b h) (λ r. (1, inl says.active, r)) (top_free over now b e);
    };
    least = over.least;
    within = over.within;
    low = over.low;
    empty = λ (none : t.size ≡ 0). absurd (omega (arith, none, some));
    holds = says.small top (top_is over.hangs top refl);
    free = top_free over;
    told = λ now b has. let told = x.all.still_tells.0 now in top_told (λ y h e. top_same says over now b y h e) (told_end (went told) (over.told told) b has);
    unheld = λ now other. let told = x.all.still_tells.0 now in unheld_end (went told) (over.unheld told other);
    held = held_on x.all kept over.held;
  }

-- a block of the new way is one of the source
pub given_owned : (u : State) (t : Tree) (top n k b : ℕ) → n ≤ t.depth → OnWay u (with_top t top) n k b → HasBlock u (with_top t top) b
given_owned u t top n k b within on = on_way_block u (with_top t top) n k b within on
