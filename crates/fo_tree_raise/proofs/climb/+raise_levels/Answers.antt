use Rattle.std.proofs.Common.{◌≡◌, ◌+◌, ◌-◌, ◌*◌, ◌^◌, ◌<◌, ◌≤◌, inl, inr, ⊎_elim, refl, sym, ap, ◌∙◌, subst, arith}
use Rattle.fo_image.specs.declared.types.Pointer.TheVariants.{Local}
use Rattle.fo_ports.specs.Sources.{Made, Dirties, ComesFor}
use Rattle.fo_tree_read.specs.declared.tree.Tree.{Tree}
use Rattle.fo_tree_look.specs.Source.{HasBlock, Prepared}
use Rattle.fo_tree_down.proofs.Dirtying.{dirties_same, dirties_both, dirties_most, dirties_counts, dirties_made, made_only}
use Rattle.fo_tree_down.proofs.Join.{local_cases}
use Rattle.fo_tree_down.specs.Clear.{EndsClear}
use Rattle.fo_tree_raise.specs.Raise.{CanRaise, Raises, SameBelow, Bears, raised}
use Rattle.fo_tree_raise.specs.Levels.{grown}
use Rattle.fo_tree_read.specs.Tree.{Hangs}
use Rattle.fo_tree_raise.proofs.Levels.{owned_top}
use Rattle.fo_tree_raise.proofs.Adding.{AddsMore, adds_nothing, adds_changes, added, made_top, made_back, made_on}
use Rattle.fo_tree_raise.proofs.Climbing.{grown_none, grown_more, room_more, over_by, stead_by, leaves_none, leaves_more}
use Rattle.fo_tree_raise.proofs.Keeping.{keeps_none, keeps_more}
use Rattle.fo_tree_down.proofs.of_tree_own.Showing.{nothing_shows, shows_joins}
use Rattle.fo_tree_down.specs.Alike.{KeepsAlike}
use Rattle.fo_tree_down.proofs.Alikes.{alike_joins}
use Rattle.fo_tree_raise.proofs.climb.+raise_levels.Goals as goal

-- no level

pub returns-then-levels-eq0-clause-top : goal.returns-then-levels-eq0-clause-top
returns-then-levels-eq0-clause-top g t' c = record { same = λ e. (refl, λ b h. h); new = λ lt. let none = c.if-levels-eq0.true in absurd (omega (arith, lt, none)) }

pub returns-then-levels-eq0-clause-adds : goal.returns-then-levels-eq0-clause-adds
returns-then-levels-eq0-clause-adds g t' c = adds_nothing (g.B.Blocks.state c.args.on.now)

pub returns-then-levels-eq0-clause-instead : goal.returns-then-levels-eq0-clause-instead
returns-then-levels-eq0-clause-instead g t' c = λ b at made h. absurd (made.0 made.1)

pub returns-then-levels-eq0-clause-leaves : goal.returns-then-levels-eq0-clause-leaves
returns-then-levels-eq0-clause-leaves g t' c = λ told kept some bears k few. leaves_none (g.B.Blocks.state c.args.on.now) c.args.tree.now c.args.levels c.if-levels-eq0.true k

pub returns-then-levels-eq0-clause-changes : goal.returns-then-levels-eq0-clause-changes
returns-then-levels-eq0-clause-changes g t' c = adds_changes {t = c.args.tree.now} {s = g.B.Blocks.state c.args.on.now} {u = g.B.Blocks.state c.args.on.now} (adds_nothing (g.B.Blocks.state c.args.on.now))

pub returns-then-levels-eq0-clause-again : goal.returns-then-levels-eq0-clause-again
returns-then-levels-eq0-clause-again g t' c = subst (λ (x : Tree). CanRaise (g.B.Blocks.state c.args.on.now) x) (grown_none c.args.tree.now c.args.levels c.if-levels-eq0.true) c.requires.top

pub returns-then-levels-eq0-clause-bears : goal.returns-then-levels-eq0-clause-bears
returns-then-levels-eq0-clause-bears g t' c = λ kept some b. subst (λ (x : Tree). Bears (g.B.Blocks.state c.args.on.now) x kept) (grown_none c.args.tree.now c.args.levels c.if-levels-eq0.true) b

pub returns-then-levels-eq0-clause-owns : goal.returns-then-levels-eq0-clause-owns
returns-then-levels-eq0-clause-owns g t' c = λ told kept some bears b.
    let s = g.B.Blocks.state c.args.on.now in
    let same = grown_none c.args.tree.now c.args.levels c.if-levels-eq0.true in (
      λ has. inl (subst (λ (x : Tree). HasBlock s x b) (sym same) has),
      λ h. ⊎_elim (λ made. absurd (made.0 made.1)) (λ has. subst (λ (x : Tree). HasBlock s x b) same has) h,
    )

pub returns-then-levels-eq0-clause-still : goal.returns-then-levels-eq0-clause-still
returns-then-levels-eq0-clause-still g t' c = λ kept limit o n room was. subst (λ (x : Tree). Prepared (g.B.Blocks.state c.args.on.now) x kept limit o n) (grown_none c.args.tree.now c.args.levels c.if-levels-eq0.true) was

pub returns-then-levels-eq0-clause-clear : goal.returns-then-levels-eq0-clause-clear
returns-then-levels-eq0-clause-clear g t' c = λ kept some room was. subst (λ (x : Tree). EndsClear (g.B.Blocks.state c.args.on.now) x kept) (grown_none c.args.tree.now c.args.levels c.if-levels-eq0.true) was

pub returns-then-levels-eq0-clause-spare : goal.returns-then-levels-eq0-clause-spare
returns-then-levels-eq0-clause-spare g t' c = let none = c.if-levels-eq0.true in omega (arith, none)

pub returns-then-levels-eq0-clause-comes : goal.returns-then-levels-eq0-clause-comes
returns-then-levels-eq0-clause-comes g t' c = λ told from h. h

pub returns-then-levels-eq0-clause-only : goal.returns-then-levels-eq0-clause-only
returns-then-levels-eq0-clause-only g t' c = λ told y z h. ⊎_elim (λ e. inl e) (λ ne. inr (h, ne)) (local_cases c.args.tree.now.top y)

-- one level after others

pub raise_levels-below-requires : goal.raise_levels-below-requires
raise_levels-below-requires g t' c =
    let some = c.if-levels-eq0.false in
    let level = c.requires.level in
    let spare = c.requires.spare in
    λ lifetimes sub. (omega arith, (sub, (c.requires.top, (omega (arith, level), (c.requires.low, omega (arith, spare))))))

pub raise_once-top-requires-clause-top : goal.raise_once-top-requires-clause-top
raise_once-top-requires-clause-top g t' c = subst (λ (x : Tree). CanRaise (g.B.Blocks.state c.raise_levels-below.new.on) x) (sym c.with_levels-lower.ensures) c.raise_levels-below.ensures.again

pub raise_once-top-requires-clause-level : goal.raise_once-top-requires-clause-level
raise_once-top-requires-clause-level g t' c =
    let some = c.if-levels-eq0.false in
    let level = c.requires.level in
    subst (λ (x : Tree). x.depth < 4) (sym c.with_levels-lower.ensures) (omega (arith, level, some))

pub raise_once-top-requires-clause-low : goal.raise_once-top-requires-clause-low
raise_once-top-requires-clause-low g t' c = subst (λ (x : Tree). x.rank < 2 ^ 31) (sym c.with_levels-lower.ensures) c.requires.low

pub raise_once-top-requires-clause-spare : goal.raise_once-top-requires-clause-spare
raise_once-top-requires-clause-spare g t' c =
    let some = c.if-levels-eq0.false in
    let spare = c.requires.spare in
    let left = c.raise_levels-below.ensures.spare in
    omega (arith, some, spare, left)

pub returns-clause-top : goal.returns-clause-top
returns-clause-top g t' c =
    let on = c.args.on.now in
    let mid = c.raise_levels-below.new.on in
    let end = c.raise_once-top.new.on in
    let s = g.B.Blocks.state on in
    let m = g.B.Blocks.state mid in
    let u = g.B.Blocks.state end in
    let t = c.args.tree.now in
    let top = c.raise_once-top.result in
    let lower = grown t (c.args.levels - 1) c.raise_levels-below.result in
    let e = c.with_levels-lower.ensures in
    let more = grown_more t c.args.levels top c.raise_levels-below.result (let some = c.if-levels-eq0.false in omega (arith, some)) in
    let step : Raises (grown t (c.args.levels - 1) c.raise_levels-below.result) top m u = subst (λ (x : Tree). Raises x top m u) e c.raise_once-top.ensures.raises in
    let x : AddsMore (grown t (c.args.levels - 1) c.raise_levels-below.result) (λ b. t.top ≡ Local b) top s m u = record {
      first = c.raise_levels-below.ensures.adds;
      step = step;
      all = g.met.B.Blocks.keeps_all on mid c.raise_levels-below.ensures.keeps;
      more = g.met.B.Blocks.keeps_all mid end c.raise_once-top.ensures.keeps;
      over = over_by c.requires.top c.raise_levels-below.ensures.top;
      covers_told = g.met.B.Blocks.covers_told end;
    } in
    record { same = λ none. let some = c.if-levels-eq0.false in absurd (omega (arith, some, none)); new = λ lt. (top, refl, made_top x, step.is.2) }

pub returns-clause-adds : goal.returns-clause-adds
returns-clause-adds g t' c =
    let on = c.args.on.now in
    let mid = c.raise_levels-below.new.on in
    let end = c.raise_once-top.new.on in
    let s = g.B.Blocks.state on in
    let m = g.B.Blocks.state mid in
    let u = g.B.Blocks.state end in
    let t = c.args.tree.now in
    let top = c.raise_once-top.result in
    let lower = grown t (c.args.levels - 1) c.raise_levels-below.result in
    let e = c.with_levels-lower.ensures in
    let more = grown_more t c.args.levels top c.raise_levels-below.result (let some = c.if-levels-eq0.false in omega (arith, some)) in
    let step : Raises (grown t (c.args.levels - 1) c.raise_levels-below.result) top m u = subst (λ (x : Tree). Raises x top m u) e c.raise_once-top.ensures.raises in
    let x : AddsMore (grown t (c.args.levels - 1) c.raise_levels-below.result) (λ b. t.top ≡ Local b) top s m u = record {
      first = c.raise_levels-below.ensures.adds;
      step = step;
      all = g.met.B.Blocks.keeps_all on mid c.raise_levels-below.ensures.keeps;
      more = g.met.B.Blocks.keeps_all mid end c.raise_once-top.ensures.keeps;
      over = over_by c.requires.top c.raise_levels-below.ensures.top;
      covers_told = g.met.B.Blocks.covers_told end;
    } in
    added x

pub returns-clause-instead : goal.returns-clause-instead
returns-clause-instead g t' c = λ b y made h.
    let on = c.args.on.now in
    let mid = c.raise_levels-below.new.on in
    let end = c.raise_once-top.new.on in
    let s = g.B.Blocks.state on in
    let m = g.B.Blocks.state mid in
    let u = g.B.Blocks.state end in
    let t = c.args.tree.now in
    let top = c.raise_once-top.result in
    let lower = grown t (c.args.levels - 1) c.raise_levels-below.result in
    let e = c.with_levels-lower.ensures in
    let more = grown_more t c.args.levels top c.raise_levels-below.result (let some = c.if-levels-eq0.false in omega (arith, some)) in
    let step : Raises (grown t (c.args.levels - 1) c.raise_levels-below.result) top m u = subst (λ (x : Tree). Raises x top m u) e c.raise_once-top.ensures.raises in
    let x : AddsMore (grown t (c.args.levels - 1) c.raise_levels-below.result) (λ b. t.top ≡ Local b) top s m u = record {
      first = c.raise_levels-below.ensures.adds;
      step = step;
      all = g.met.B.Blocks.keeps_all on mid c.raise_levels-below.ensures.keeps;
      more = g.met.B.Blocks.keeps_all mid end c.raise_once-top.ensures.keeps;
      over = over_by c.requires.top c.raise_levels-below.ensures.top;
      covers_told = g.met.B.Blocks.covers_told end;
    } in
    ⊎_elim
    (λ mid. c.raise_levels-below.ensures.instead b y mid (step.instead b y (λ same. step.made.0 (ap (λ z. (m.label z).state) (sym same) ∙ mid.1)) h))
    (λ own. stead_by c.requires.top c.raise_levels-below.ensures.top c.raise_levels-below.ensures.adds step c.raise_levels-below.ensures.instead y (subst (λ z. u.instead z y) own h))
    (made_back x b made)

pub returns-clause-changes : goal.returns-clause-changes
returns-clause-changes g t' c =
    let on = c.args.on.now in
    let mid = c.raise_levels-below.new.on in
    let end = c.raise_once-top.new.on in
    let s = g.B.Blocks.state on in
    let m = g.B.Blocks.state mid in
    let u = g.B.Blocks.state end in
    let t = c.args.tree.now in
    let top = c.raise_once-top.result in
    let lower = grown t (c.args.levels - 1) c.raise_levels-below.result in
    let e = c.with_levels-lower.ensures in
    let more = grown_more t c.args.levels top c.raise_levels-below.result (let some = c.if-levels-eq0.false in omega (arith, some)) in
    let step : Raises (grown t (c.args.levels - 1) c.raise_levels-below.result) top m u = subst (λ (x : Tree). Raises x top m u) e c.raise_once-top.ensures.raises in
    let x : AddsMore (grown t (c.args.levels - 1) c.raise_levels-below.result) (λ b. t.top ≡ Local b) top s m u = record {
      first = c.raise_levels-below.ensures.adds;
      step = step;
      all = g.met.B.Blocks.keeps_all on mid c.raise_levels-below.ensures.keeps;
      more = g.met.B.Blocks.keeps_all mid end c.raise_once-top.ensures.keeps;
      over = over_by c.requires.top c.raise_levels-below.ensures.top;
      covers_told = g.met.B.Blocks.covers_told end;
    } in
    adds_changes {t = t} {s = s} {u = u} (added x)

pub returns-clause-again : goal.returns-clause-again
returns-clause-again g t' c =
    let on = c.args.on.now in
    let mid = c.raise_levels-below.new.on in
    let end = c.raise_once-top.new.on in
    let s = g.B.Blocks.state on in
    let m = g.B.Blocks.state mid in
    let u = g.B.Blocks.state end in
    let t = c.args.tree.now in
    let top = c.raise_once-top.result in
    let lower = grown t (c.args.levels - 1) c.raise_levels-below.result in
    let e = c.with_levels-lower.ensures in
    let more = grown_more t c.args.levels top c.raise_levels-below.result (let some = c.if-levels-eq0.false in omega (arith, some)) in
    subst (λ (x : Tree). CanRaise u x) more (subst (λ (x : Tree). CanRaise u (raised x top)) e c.raise_once-top.ensures.again)

pub returns-clause-bears : goal.returns-clause-bears
returns-clause-bears g t' c = λ kept some b.
    let on = c.args.on.now in
    let mid = c.raise_levels-below.new.on in
    let end = c.raise_once-top.new.on in
    let s = g.B.Blocks.state on in
    let m = g.B.Blocks.state mid in
    let u = g.B.Blocks.state end in
    let t = c.args.tree.now in
    let top = c.raise_once-top.result in
    let lower = grown t (c.args.levels - 1) c.raise_levels-below.result in
    let e = c.with_levels-lower.ensures in
    let more = grown_more t c.args.levels top c.raise_levels-below.result (let some = c.if-levels-eq0.false in omega (arith, some)) in
    subst (λ (x : Tree). Bears u x kept) more ((subst (λ (x : Tree). 0 < x.size → Bears m x kept → Bears u (raised x top) kept) e (c.raise_once-top.ensures.bears kept)) some (c.raise_levels-below.ensures.bears kept some b))

pub returns-clause-leaves : goal.returns-clause-leaves
returns-clause-leaves g t' c = λ told kept some bears k few.
    let on = c.args.on.now in
    let mid = c.raise_levels-below.new.on in
    let end = c.raise_once-top.new.on in
    let s = g.B.Blocks.state on in
    let m = g.B.Blocks.state mid in
    let u = g.B.Blocks.state end in
    let t = c.args.tree.now in
    let top = c.raise_once-top.result in
    let e = c.with_levels-lower.ensures in
    let all = g.met.B.Blocks.keeps_all on mid c.raise_levels-below.ensures.keeps in
    let under = c.raise_levels-below.ensures.bears kept some bears in
    let below : SameBelow m u (grown t (c.args.levels - 1) c.raise_levels-below.result) top = (subst (λ (x : Tree). m.tells → Hangs m x → SameBelow m u x top) e c.raise_once-top.ensures.below) (all.still_tells.1 told) under.hangs in
    leaves_more s m u t c.args.levels top c.raise_levels-below.result (let more = c.if-levels-eq0.false in omega (arith, more)) below (λ j lt. c.raise_levels-below.ensures.leaves told kept some bears j lt) k few

pub returns-clause-owns : goal.returns-clause-owns
returns-clause-owns g t' c = λ told kept some bears b.
    let on = c.args.on.now in
    let mid = c.raise_levels-below.new.on in
    let end = c.raise_once-top.new.on in
    let s = g.B.Blocks.state on in
    let m = g.B.Blocks.state mid in
    let u = g.B.Blocks.state end in
    let t = c.args.tree.now in
    let top = c.raise_once-top.result in
    let lower = grown t (c.args.levels - 1) c.raise_levels-below.result in
    let e = c.with_levels-lower.ensures in
    let more = grown_more t c.args.levels top c.raise_levels-below.result (let some = c.if-levels-eq0.false in omega (arith, some)) in
    let step : Raises (grown t (c.args.levels - 1) c.raise_levels-below.result) top m u = subst (λ (x : Tree). Raises x top m u) e c.raise_once-top.ensures.raises in
    let x : AddsMore (grown t (c.args.levels - 1) c.raise_levels-below.result) (λ b. t.top ≡ Local b) top s m u = record {
      first = c.raise_levels-below.ensures.adds;
      step = step;
      all = g.met.B.Blocks.keeps_all on mid c.raise_levels-below.ensures.keeps;
      more = g.met.B.Blocks.keeps_all mid end c.raise_once-top.ensures.keeps;
      over = over_by c.requires.top c.raise_levels-below.ensures.top;
      covers_told = g.met.B.Blocks.covers_told end;
    } in
    let under = c.raise_levels-below.ensures.bears kept some bears in
    let below : SameBelow m u (grown t (c.args.levels - 1) c.raise_levels-below.result) top = (subst (λ (x : Tree). m.tells → Hangs m x → SameBelow m u x top) e c.raise_once-top.ensures.below) (x.all.still_tells.1 told) under.hangs in
    let first = c.raise_levels-below.ensures.owns told kept some bears b in (
      λ has. ⊎_elim
          (λ old. ⊎_elim (λ was. inl was) (λ made. inr (made_on x b made)) (first.0 old))
          (λ own. inr (subst (λ y. Made s u y) (sym own) (made_top x)))
          (below.back b (subst (λ (x : Tree). HasBlock u x b) (sym more) has)),
      λ h. subst (λ (x : Tree). HasBlock u x b) more (⊎_elim
          (λ made. ⊎_elim
          (λ old. below.on b (first.1 (inl old)))
          (λ own. subst (λ y. HasBlock u (raised (grown t (c.args.levels - 1) c.raise_levels-below.result) top) y) (sym own) (owned_top x.more step))
          (made_back x b made))
          (λ was. below.on b (first.1 (inr was)))
          h),
    )

pub returns-clause-still : goal.returns-clause-still
returns-clause-still g t' c = λ kept limit o n room was.
    let on = c.args.on.now in
    let mid = c.raise_levels-below.new.on in
    let end = c.raise_once-top.new.on in
    let s = g.B.Blocks.state on in
    let m = g.B.Blocks.state mid in
    let u = g.B.Blocks.state end in
    let t = c.args.tree.now in
    let top = c.raise_once-top.result in
    let lower = grown t (c.args.levels - 1) c.raise_levels-below.result in
    let e = c.with_levels-lower.ensures in
    let more = grown_more t c.args.levels top c.raise_levels-below.result (let some = c.if-levels-eq0.false in omega (arith, some)) in
    subst (λ (x : Tree). Prepared u x kept limit o n) more
    ((subst (λ (x : Tree). x.size ≤ 8192 * 409 ^ x.depth → Prepared m x kept limit o n → Prepared u (raised x top) kept limit o n) e (c.raise_once-top.ensures.still kept limit o n))
    (room_more t.size t.depth (c.args.levels - 1) room)
    (c.raise_levels-below.ensures.still kept limit o n room was))

pub returns-clause-clear : goal.returns-clause-clear
returns-clause-clear g t' c = λ kept some room was.
    let on = c.args.on.now in
    let mid = c.raise_levels-below.new.on in
    let end = c.raise_once-top.new.on in
    let s = g.B.Blocks.state on in
    let m = g.B.Blocks.state mid in
    let u = g.B.Blocks.state end in
    let t = c.args.tree.now in
    let top = c.raise_once-top.result in
    let lower = grown t (c.args.levels - 1) c.raise_levels-below.result in
    let e = c.with_levels-lower.ensures in
    let more = grown_more t c.args.levels top c.raise_levels-below.result (let some = c.if-levels-eq0.false in omega (arith, some)) in
    subst (λ (x : Tree). EndsClear u x kept) more
    ((subst (λ (x : Tree). 0 < x.size → x.size ≤ 8192 * 409 ^ x.depth → EndsClear m x kept → EndsClear u (raised x top) kept) e (c.raise_once-top.ensures.clear kept)) some
    (room_more t.size t.depth (c.args.levels - 1) room)
    (c.raise_levels-below.ensures.clear kept some room was))

pub returns-clause-spare : goal.returns-clause-spare
returns-clause-spare g t' c =
    let on = c.args.on.now in
    let mid = c.raise_levels-below.new.on in
    let end = c.raise_once-top.new.on in
    let s = g.B.Blocks.state on in
    let m = g.B.Blocks.state mid in
    let u = g.B.Blocks.state end in
    let t = c.args.tree.now in
    let top = c.raise_once-top.result in
    let lower = grown t (c.args.levels - 1) c.raise_levels-below.result in
    let e = c.with_levels-lower.ensures in
    let more = grown_more t c.args.levels top c.raise_levels-below.result (let some = c.if-levels-eq0.false in omega (arith, some)) in
    let used = c.raise_once-top.ensures.raises.spare in
    let left = c.raise_levels-below.ensures.spare in
    let some = c.if-levels-eq0.false in
    omega (arith, used, left, some)

pub returns-clause-keeps : goal.returns-clause-keeps
returns-clause-keeps g t' c = g.met.B.Blocks.keeps_joins c.args.on.now c.raise_levels-below.new.on c.raise_once-top.new.on c.raise_levels-below.ensures.keeps c.raise_once-top.ensures.keeps

pub returns-clause-comes : goal.returns-clause-comes
returns-clause-comes g t' c = λ told from h.
    let mid = c.raise_levels-below.new.on in
    let all = g.met.B.Blocks.keeps_all c.args.on.now mid c.raise_levels-below.ensures.keeps in
    c.raise_once-top.ensures.comes (all.still_tells.1 told) from
    (subst (λ (x : Tree). ComesFor (g.B.Blocks.state mid) x.top from) (sym c.with_levels-lower.ensures) (c.raise_levels-below.ensures.comes told from h))

pub returns-clause-only : goal.returns-clause-only
returns-clause-only g t' c = λ told y z h.
    let mid = c.raise_levels-below.new.on in
    let all = g.met.B.Blocks.keeps_all c.args.on.now mid c.raise_levels-below.ensures.keeps in
    ⊎_elim
    (λ e. inl (ap (λ b. Local b) (sym e)))
    (λ old. ⊎_elim
    (λ e. absurd (old.1 (ap (λ (x : Tree). x.top) c.with_levels-lower.ensures ∙ e)))
    (λ was. inr was)
    (c.raise_levels-below.ensures.only told y z old.0))
    (c.raise_once-top.ensures.only (all.still_tells.1 told) y z h)

pub returns-then-levels-eq0-clause-ways : goal.returns-then-levels-eq0-clause-ways
returns-then-levels-eq0-clause-ways g t' c = λ kept. keeps_none (g.B.Blocks.state c.args.on.now) c.args.tree.now kept c.args.levels c.if-levels-eq0.true

pub returns-clause-ways : goal.returns-clause-ways
returns-clause-ways g t' c = λ kept.
    let mid = c.raise_levels-below.new.on in
    let end = c.raise_once-top.new.on in
    let m = g.B.Blocks.state mid in
    let u = g.B.Blocks.state end in
    let t = c.args.tree.now in
    let top = c.raise_once-top.result in
    let more = c.if-levels-eq0.false in
    keeps_more {s = g.B.Blocks.state c.args.on.now} {m = m} {u = u} {t = t} {kept = kept} {levels = c.args.levels} {top = top} {p = c.raise_levels-below.result} (record {
      some = omega (arith, more);
      first = c.raise_levels-below.ensures.ways kept;
      adds = c.raise_levels-below.ensures.adds.labels;
      step = subst (λ (x : Tree). Raises x top m u) c.with_levels-lower.ensures c.raise_once-top.ensures.raises;
      more = g.met.B.Blocks.keeps_all mid end c.raise_once-top.ensures.keeps;
    })

pub returns-then-levels-eq0-clause-dirties : goal.returns-then-levels-eq0-clause-dirties
returns-then-levels-eq0-clause-dirties g t' c = dirties_same (g.B.Blocks.state c.args.on.now) (2 * c.args.levels)

pub returns-clause-dirties : goal.returns-clause-dirties
returns-clause-dirties g t' c =
    let mid = c.raise_levels-below.new.on in
    let end = c.raise_once-top.new.on in
    let m = g.B.Blocks.state mid in
    let u = g.B.Blocks.state end in
    let t = c.args.tree.now in
    let top = c.raise_once-top.result in
    let step : Raises (grown t (c.args.levels - 1) c.raise_levels-below.result) top m u = subst (λ (x : Tree). Raises x top m u) c.with_levels-lower.ensures c.raise_once-top.ensures.raises in
    let one : Dirties 2 (λ b. b ≡ top) m u = dirties_made top (g.met.B.Blocks.keeps_all mid end c.raise_once-top.ensures.keeps) (made_only m u top step.labels) step.dirty (λ b j h. (step.clearing b j h).1) in
    let some = c.if-levels-eq0.false in
    let enough : 2 * (c.args.levels - 1) + 2 ≤ 2 * c.args.levels = omega (arith, some) in
    dirties_most enough (dirties_both c.raise_levels-below.ensures.dirties (dirties_counts (λ b h. absurd h) one))

pub returns-then-levels-eq0-clause-shown : goal.returns-then-levels-eq0-clause-shown
returns-then-levels-eq0-clause-shown g t' c = nothing_shows (record { each = λ image is. is })

pub returns-clause-shown : goal.returns-clause-shown
returns-clause-shown g t' c = shows_joins c.raise_levels-below.ensures.shown c.raise_once-top.ensures.shown

pub returns-then-levels-eq0-clause-alike : goal.returns-then-levels-eq0-clause-alike
returns-then-levels-eq0-clause-alike g t' c =
    let s = g.B.Blocks.state c.args.on.now in
    subst (λ (x : Tree). KeepsAlike s s c.args.tree.now x) (grown_none c.args.tree.now c.args.levels c.if-levels-eq0.true) (record { each = λ told at i holds alike. (holds, alike) })

pub returns-clause-alike : goal.returns-clause-alike
returns-clause-alike g t' c =
    let on = c.args.on.now in
    let mid = c.raise_levels-below.new.on in
    let s = g.B.Blocks.state on in
    let m = g.B.Blocks.state mid in
    let u = g.B.Blocks.state c.raise_once-top.new.on in
    let t = c.args.tree.now in
    let some = c.if-levels-eq0.false in
    let lower = c.with_levels-lower.ensures in
    let then : KeepsAlike m u (grown t (c.args.levels - 1) c.raise_levels-below.result) (raised (grown t (c.args.levels - 1) c.raise_levels-below.result) c.raise_once-top.result) =
    subst (λ (x : Tree). KeepsAlike m u x (raised x c.raise_once-top.result)) lower c.raise_once-top.ensures.alike in
    subst (λ (x : Tree). KeepsAlike s u t x) (grown_more t c.args.levels c.raise_once-top.result c.raise_levels-below.result (omega (arith, some)))
    (alike_joins (g.met.B.Blocks.keeps_all on mid c.raise_levels-below.ensures.keeps) c.raise_levels-below.ensures.alike then)
