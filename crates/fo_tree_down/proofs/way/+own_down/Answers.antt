use Rattle.std.specs.List.{Contains}
use Rattle.std.proofs.Common.{◌≡◌, ◌≢◌, ◌⊎◌, ◌+◌, ◌-◌, ◌*◌, ◌/◌, ◌%◌, ◌^◌, ◌<◌, ◌≤◌, ℕ, suc, inl, inr, ⊎_elim, refl, sym, ap, ◌∙◌, subst, arith}
use Rattle.std.proofs.lemmas.Bool.{cases_eq}
use Rattle.std.proofs.lemmas.List.Elements.{Contains-append_left, Contains-append_right}
use Rattle.std.proofs.Math.Nat.{pow-succ'}
use Rattle.fo_image.specs.declared.types.Pointer.TheVariants.{Local}
use Rattle.fo_tree_own.specs.of_crash.Images.{target}
use Rattle.fo_tree_own.specs.of_crash.Places.{super_place, root_place}
use Rattle.fo_tree_look.specs.of_ports.Sources.{Made, Dirties}
use Rattle.fo_tree_look.specs.of_tree_read.Tree.{kind_down, below, block_at, above as hold}
use Rattle.fo_tree_look.specs.Source.{seen, IsTold, WayReady}
use Rattle.fo_tree_own.specs.Step.{IsOwn, CanOwn, Becomes, Links}
use Rattle.fo_tree_down.specs.Way.{OnWay, Comes, Leads, IsTopOf, WayCurrent, CurrentBut, HasWay, AddsWay, with_top}
use Rattle.fo_tree_down.proofs.Sparing.{but_top, but_down}
use Rattle.fo_tree_down.proofs.Next.{Says, local_seen, leads_next, current_below, leads_beside, above_own, can_next, was_below, comes_same, comes_new, not_current, replaces_same, replaces_new}
use Rattle.fo_tree_down.proofs.Leading.{block_of, leads_to, leads_on, way_was, beside_on, given_on, top_stays, way_top}
use Rattle.fo_tree_own.proofs.Link.{Laws, local_eq}
use Rattle.fo_tree_down.specs.Alike.{KeepsAlike}
use Rattle.fo_tree_down.proofs.Alikes.{top_own, alike_linked}
use Rattle.fo_tree_own.specs.of_shown.Shown.{ShowsNoMore}
use Rattle.fo_tree_own.proofs.of_shown.Showing.{shows_joins}
use Rattle.fo_tree_down.proofs.Dirtying.{CameBelow, dirties_within, dirties_counts, ways_same, ways_came, adds_same, adds_came}
use Rattle.fo_tree_down.proofs.way.+own_down.Goals as goal

pub own_top-top-requires-clause-ready : goal.own_top-top-requires-clause-ready
own_top-top-requires-clause-ready g t' c = subst (λ d. WayReady (g.B.Blocks.state c.args.on.now) c.args.tree.now c.args.kept.now d c.args.k) c.if-down-eq0.true c.requires.ready

pub own_top-top-requires-clause-told : goal.own_top-top-requires-clause-told
own_top-top-requires-clause-told g t' c =
    let s = g.B.Blocks.state c.args.on.now in
    let t = c.args.tree.now in
    subst (λ d. s.tells → (b : ℕ) → OnWay s t d c.args.k b → IsTold s t.top b) c.if-down-eq0.true c.requires.told

pub own_top-top-requires-clause-spare : goal.own_top-top-requires-clause-spare
own_top-top-requires-clause-spare g t' c =
    let s = g.B.Blocks.state c.args.on.now in
    let t = c.args.tree.now in
    let count = c.requires.spare.0 in
    let enough = c.requires.spare.2 in
    ⊎_elim (λ top. inl top) (λ some. inr (omega (arith, some, enough)))
    (but_top s t count c.args.k (subst (λ d. CurrentBut s t count d c.args.k) c.if-down-eq0.true c.requires.spare.1))

pub returns-then-down-eq0-clause-comes : goal.returns-then-down-eq0-clause-comes
returns-then-down-eq0-clause-comes g t' c =
    let s = g.B.Blocks.state c.args.on.now in
    let u = g.B.Blocks.state c.own_top-top.new.on in
    let zero = c.if-down-eq0.true in
    subst (λ d. Comes s u c.args.tree.now c.args.kept.now d c.args.k c.own_top-top.result) (sym zero)
    (c.own_top-top.ensures.comes c.args.k (subst (λ d. c.args.k < 409 ^ d) zero c.requires.down.1))

pub returns-then-down-eq0-clause-less : goal.returns-then-down-eq0-clause-less
returns-then-down-eq0-clause-less g t' c = λ top. let le = c.own_top-top.ensures.less top in omega (arith, le)

pub own_down-above-requires : goal.own_down-above-requires
own_down-above-requires g t' c =
    let s = g.B.Blocks.state c.args.on.now in
    let t = c.args.tree.now in
    let kept = c.args.kept.now in
    let k = c.args.k in
    let is : c.args.down ≡ suc (c.args.down - 1) = omega arith in
    let few : c.args.k < 409 ^ suc (c.args.down - 1) = subst (λ d. c.args.k < 409 ^ d) is c.requires.down.1 in
    let more : 409 ^ suc (c.args.down - 1) ≡ 409 * 409 ^ (c.args.down - 1) = pow-succ' 409 (c.args.down - 1) in
    let le = c.requires.down.0 in
    let some = c.if-down-eq0.false in
    let told : s.tells → (b : ℕ) → OnWay s t (suc (c.args.down - 1)) k b → IsTold s t.top b = subst (λ d. s.tells → (b : ℕ) → OnWay s t d k b → IsTold s t.top b) is c.requires.told in
    λ lifetimes sub. (
      omega arith,
      (
        sub,
        (
          c.requires.hangs,
          (
            (omega (arith, le), omega (arith, few, more)),
            (
              (subst (λ d. WayReady s t kept d k) is c.requires.ready).0,
              (
                λ is b way. told is b (inl way),
                ⊎_elim
                    (λ way. (0, way.0, omega arith))
                    (λ up. let less = up.is in let enough = c.requires.spare.2 in (up.less, up.but, omega (arith, less, enough)))
                    (but_down s t c.requires.spare.0 (c.args.down - 1) k (subst (λ d. CurrentBut s t c.requires.spare.0 d k) is c.requires.spare.1)),
              ),
            ),
          ),
        ),
      ),
    )

pub returns-then-down-eq0-clause-used : goal.returns-then-down-eq0-clause-used
returns-then-down-eq0-clause-used g t' c = λ j way le next.
    let s = g.B.Blocks.state c.args.on.now in
    let t = c.args.tree.now in
    let zero = c.if-down-eq0.true in
    let less = c.own_top-top.ensures.less (way_top s t c.args.down j way) in
    let here : c.args.k < 409 ^ 0 = subst (λ d. c.args.k < 409 ^ d) zero c.requires.down.1 in
    subst (λ d. s.spare + (j + hold d j) ≤ (g.B.Blocks.state c.own_top-top.new.on).spare + (c.args.k + hold d c.args.k)) (sym zero) (omega (arith, less, here, le))

spend : (a m u j k x y : ℕ) → j ≤ k → a + (j / 409 + x) ≤ m + (k / 409 + y) → m ≤ u → a + (j + (j / 409 + x)) ≤ u + (k + (k / 409 + y))
spend a m u j k x y le left same = omega (arith, le, left, same)

spend_one : (a m u j k x y : ℕ) → j ≤ k → j ≢ k → a + (j / 409 + x) ≤ m + (k / 409 + y) → u + 1 ≡ m → a + (j + (j / 409 + x)) ≤ u + (k + (k / 409 + y))
spend_one a m u j k x y le ne left taken = omega (arith, le, ne, left, taken)

pub own_block-at-requires-clause-above : goal.own_block-at-requires-clause-above
own_block-at-requires-clause-above g t' c =
    let on = c.args.on.now in
    let mid = c.own_down-above.new.on in
    let s = g.B.Blocks.state on in
    let m = g.B.Blocks.state mid in
    let t = c.args.tree.now in
    let kept = c.args.kept.now in
    let n = c.args.down - 1 in
    let k = c.args.k in
    let is : c.args.down ≡ suc (c.args.down - 1) = omega arith in
    let all = g.met.B.Blocks.keeps_all on mid c.own_down-above.ensures.keeps in
    let down : suc (c.args.down - 1) ≤ t.depth = subst (λ d. d ≤ t.depth) is c.requires.down.0 in
    let ready : WayReady s t kept (suc (c.args.down - 1)) k = subst (λ d. WayReady s t kept d k) is c.requires.ready in
    let says : s.tells → Says s = λ told. record { placed = g.met.B.Blocks.placed on s.now (g.met.B.Blocks.present on told); one = g.met.B.Blocks.one_place on } in
    let told : s.tells → (b : ℕ) → OnWay s t (suc (c.args.down - 1)) k b → IsTold s t.top b = subst (λ d. s.tells → (b : ℕ) → OnWay s t d k b → IsTold s t.top b) is c.requires.told in
    let above = c.own_down-above.result.at in
    let comes = c.own_down-above.ensures.comes in
    subst (λ d. IsOwn m t (suc (t.depth - d)) (k / 409) above) (sym is) (above_own s m t kept n k above all c.requires.hangs down ready comes says told)

pub own_block-at-requires-clause-below : goal.own_block-at-requires-clause-below
own_block-at-requires-clause-below g t' c =
    let on = c.args.on.now in
    let mid = c.own_down-above.new.on in
    let s = g.B.Blocks.state on in
    let m = g.B.Blocks.state mid in
    let t = c.args.tree.now in
    let kept = c.args.kept.now in
    let n = c.args.down - 1 in
    let k = c.args.k in
    let is : c.args.down ≡ suc (c.args.down - 1) = omega arith in
    let all = g.met.B.Blocks.keeps_all on mid c.own_down-above.ensures.keeps in
    let down : suc (c.args.down - 1) ≤ t.depth = subst (λ d. d ≤ t.depth) is c.requires.down.0 in
    let ready : WayReady s t kept (suc (c.args.down - 1)) k = subst (λ d. WayReady s t kept d k) is c.requires.ready in
    let says : s.tells → Says s = λ told. record { placed = g.met.B.Blocks.placed on s.now (g.met.B.Blocks.present on told); one = g.met.B.Blocks.one_place on } in
    let told : s.tells → (b : ℕ) → OnWay s t (suc (c.args.down - 1)) k b → IsTold s t.top b = subst (λ d. s.tells → (b : ℕ) → OnWay s t d k b → IsTold s t.top b) is c.requires.told in
    let above = c.own_down-above.result.at in
    let comes = c.own_down-above.ensures.comes in
    subst (λ d. CanOwn m t kept (t.depth - d) (target ((m.now above).slot (k % 409)))) (sym is) (can_next s m t kept n k above all c.requires.hangs down ready comes says told)

pub own_block-at-requires-clause-spare : goal.own_block-at-requires-clause-spare
own_block-at-requires-clause-spare g t' c =
    let on = c.args.on.now in
    let mid = c.own_down-above.new.on in
    let s = g.B.Blocks.state on in
    let m = g.B.Blocks.state mid in
    let t = c.args.tree.now in
    let kept = c.args.kept.now in
    let n = c.args.down - 1 in
    let k = c.args.k in
    let is : c.args.down ≡ suc (c.args.down - 1) = omega arith in
    let all = g.met.B.Blocks.keeps_all on mid c.own_down-above.ensures.keeps in
    let down : suc (c.args.down - 1) ≤ t.depth = subst (λ d. d ≤ t.depth) is c.requires.down.0 in
    let ready : WayReady s t kept (suc (c.args.down - 1)) k = subst (λ d. WayReady s t kept d k) is c.requires.ready in
    let says : s.tells → Says s = λ told. record { placed = g.met.B.Blocks.placed on s.now (g.met.B.Blocks.present on told); one = g.met.B.Blocks.one_place on } in
    let told : s.tells → (b : ℕ) → OnWay s t (suc (c.args.down - 1)) k b → IsTold s t.top b = subst (λ d. s.tells → (b : ℕ) → OnWay s t d k b → IsTold s t.top b) is c.requires.told in
    let above = c.own_down-above.result.at in
    let comes = c.own_down-above.ensures.comes in
    let count = c.requires.spare.0 in
    ⊎_elim
    (λ way.
    let last = way.1 in
    let leads : target ((m.now above).slot (k % 409)) ≡ Local last.0 = leads_next s m t kept n k above all c.requires.hangs down ready comes says told ∙ local_seen s kept t (suc n) k last.0 last.1 in
    inl (last.0, leads, current_below s m t kept n k above all c.requires.hangs down ready comes says told last.0 leads last.2))
    (λ up.
    let left = c.own_down-above.ensures.few up.less up.but in
    let less = up.is in
    let enough = c.requires.spare.2 in
    inr (omega (arith, left, less, enough)))
    (but_down s t count n k (subst (λ d. CurrentBut s t count d k) is c.requires.spare.1))

pub returns-clause-comes : goal.returns-clause-comes
returns-clause-comes g t' c =
    let on = c.args.on.now in
    let mid = c.own_down-above.new.on in
    let s = g.B.Blocks.state on in
    let m = g.B.Blocks.state mid in
    let t = c.args.tree.now in
    let kept = c.args.kept.now in
    let n = c.args.down - 1 in
    let k = c.args.k in
    let is : c.args.down ≡ suc (c.args.down - 1) = omega arith in
    let all = g.met.B.Blocks.keeps_all on mid c.own_down-above.ensures.keeps in
    let down : suc (c.args.down - 1) ≤ t.depth = subst (λ d. d ≤ t.depth) is c.requires.down.0 in
    let ready : WayReady s t kept (suc (c.args.down - 1)) k = subst (λ d. WayReady s t kept d k) is c.requires.ready in
    let says : s.tells → Says s = λ told. record { placed = g.met.B.Blocks.placed on s.now (g.met.B.Blocks.present on told); one = g.met.B.Blocks.one_place on } in
    let told : s.tells → (b : ℕ) → OnWay s t (suc (c.args.down - 1)) k b → IsTold s t.top b = subst (λ d. s.tells → (b : ℕ) → OnWay s t d k b → IsTold s t.top b) is c.requires.told in
    let above = c.own_down-above.result.at in
    let comes = c.own_down-above.ensures.comes in
    let end = c.own_block-at.new.on in
    let u = g.B.Blocks.state end in
    let at = c.own_block-at.result in
    let was = target ((m.now above).slot (k % 409)) in
    let step : ((was ≡ Local at) × (end ≡ mid) × IsOwn m t (t.depth - suc n) (409 * (k / 409) + k % 409) at) ⊎ Links t (t.depth - suc n) (k / 409) above (k % 409) was at m u =
    subst (λ d. ((was ≡ Local at) × (end ≡ mid) × IsOwn m t (t.depth - d) (409 * (k / 409) + k % 409) at) ⊎ Links t (t.depth - d) (k / 409) above (k % 409) was at m u) is c.own_block-at.ensures.step in
    subst (λ d. Comes s u t kept d k at) (sym is)
    (⊎_elim
    (λ same. subst (λ x. Comes s (g.B.Blocks.state x) t kept (suc n) k at) (sym same.1)
    (comes_same s m t kept n k above all c.requires.hangs down ready comes says told at same.0 same.2
    (subst (λ x. Becomes m (g.B.Blocks.state x) t kept (t.depth - suc n) was at) same.1 (subst (λ d. Becomes m u t kept (t.depth - d) was at) is c.own_block-at.ensures.content))))
    (λ links. comes_new s m t kept n k above all c.requires.hangs down ready comes says told u at (g.met.B.Blocks.keeps_all mid end c.own_block-at.ensures.keeps)
    (λ image h. (
      g.met.B.Blocks.placed on image h,
      g.met.B.Blocks.ranked on image h,
      g.met.B.Blocks.told on image h,
      λ top is_top. ⊎_elim
          (λ e. (super_place, subst (λ y. s.stands y super_place) (sym e) (g.met.B.Blocks.super_stands on (g.met.B.Blocks.told on image h))))
          (λ ne. (root_place, g.met.B.Blocks.top_stands on top (g.met.B.Blocks.told on image h) is_top ne))
          (cases_eq top 1),
    ))
    (g.met.B.Blocks.standing on)
    links
    (subst (λ d. Becomes m u t kept (t.depth - d) was at) is c.own_block-at.ensures.content))
    step)

pub returns-clause-spare : goal.returns-clause-spare
returns-clause-spare g t' c =
    let on = c.args.on.now in
    let mid = c.own_down-above.new.on in
    let s = g.B.Blocks.state on in
    let m = g.B.Blocks.state mid in
    let t = c.args.tree.now in
    let kept = c.args.kept.now in
    let n = c.args.down - 1 in
    let k = c.args.k in
    let is : c.args.down ≡ suc (c.args.down - 1) = omega arith in
    let all = g.met.B.Blocks.keeps_all on mid c.own_down-above.ensures.keeps in
    let down : suc (c.args.down - 1) ≤ t.depth = subst (λ d. d ≤ t.depth) is c.requires.down.0 in
    let ready : WayReady s t kept (suc (c.args.down - 1)) k = subst (λ d. WayReady s t kept d k) is c.requires.ready in
    let says : s.tells → Says s = λ told. record { placed = g.met.B.Blocks.placed on s.now (g.met.B.Blocks.present on told); one = g.met.B.Blocks.one_place on } in
    let told : s.tells → (b : ℕ) → OnWay s t (suc (c.args.down - 1)) k b → IsTold s t.top b = subst (λ d. s.tells → (b : ℕ) → OnWay s t d k b → IsTold s t.top b) is c.requires.told in
    let above = c.own_down-above.result.at in
    let comes = c.own_down-above.ensures.comes in
    let end = c.own_block-at.new.on in
    let u = g.B.Blocks.state end in
    let at = c.own_block-at.result in
    let was = target ((m.now above).slot (k % 409)) in
    let step : ((was ≡ Local at) × (end ≡ mid) × IsOwn m t (t.depth - suc n) (409 * (k / 409) + k % 409) at) ⊎ Links t (t.depth - suc n) (k / 409) above (k % 409) was at m u =
    subst (λ d. ((was ≡ Local at) × (end ≡ mid) × IsOwn m t (t.depth - d) (409 * (k / 409) + k % 409) at) ⊎ Links t (t.depth - d) (k / 409) above (k % 409) was at m u) is c.own_block-at.ensures.step in
    let some = c.if-down-eq0.false in
    let left = c.own_down-above.ensures.spare in
    ⊎_elim
    (λ same. let kept_spare : m.spare ≤ u.spare = subst (λ x. m.spare ≤ (g.B.Blocks.state x).spare) (sym same.1) (omega arith) in omega (arith, kept_spare, left, some))
    (λ links. let used = links.spare in omega (arith, used, left, some))
    step

pub returns-clause-less : goal.returns-clause-less
returns-clause-less g t' c =
    let on = c.args.on.now in
    let mid = c.own_down-above.new.on in
    let s = g.B.Blocks.state on in
    let m = g.B.Blocks.state mid in
    let t = c.args.tree.now in
    let kept = c.args.kept.now in
    let n = c.args.down - 1 in
    let k = c.args.k in
    let is : c.args.down ≡ suc (c.args.down - 1) = omega arith in
    let all = g.met.B.Blocks.keeps_all on mid c.own_down-above.ensures.keeps in
    let down : suc (c.args.down - 1) ≤ t.depth = subst (λ d. d ≤ t.depth) is c.requires.down.0 in
    let ready : WayReady s t kept (suc (c.args.down - 1)) k = subst (λ d. WayReady s t kept d k) is c.requires.ready in
    let says : s.tells → Says s = λ told. record { placed = g.met.B.Blocks.placed on s.now (g.met.B.Blocks.present on told); one = g.met.B.Blocks.one_place on } in
    let told : s.tells → (b : ℕ) → OnWay s t (suc (c.args.down - 1)) k b → IsTold s t.top b = subst (λ d. s.tells → (b : ℕ) → OnWay s t d k b → IsTold s t.top b) is c.requires.told in
    let above = c.own_down-above.result.at in
    let comes = c.own_down-above.ensures.comes in
    let end = c.own_block-at.new.on in
    let u = g.B.Blocks.state end in
    let at = c.own_block-at.result in
    let was = target ((m.now above).slot (k % 409)) in
    let step : ((was ≡ Local at) × (end ≡ mid) × IsOwn m t (t.depth - suc n) (409 * (k / 409) + k % 409) at) ⊎ Links t (t.depth - suc n) (k / 409) above (k % 409) was at m u =
    subst (λ d. ((was ≡ Local at) × (end ≡ mid) × IsOwn m t (t.depth - d) (409 * (k / 409) + k % 409) at) ⊎ Links t (t.depth - d) (k / 409) above (k % 409) was at m u) is c.own_block-at.ensures.step in
    let some = c.if-down-eq0.false in
    λ top.
    let left = c.own_down-above.ensures.less top in
    ⊎_elim
    (λ same. let kept_spare : m.spare ≤ u.spare = subst (λ x. m.spare ≤ (g.B.Blocks.state x).spare) (sym same.1) (omega arith) in omega (arith, kept_spare, left, some))
    (λ links. let used = links.spare in omega (arith, used, left, some))
    step

pub returns-clause-used : goal.returns-clause-used
returns-clause-used g t' c =
    let on = c.args.on.now in
    let mid = c.own_down-above.new.on in
    let s = g.B.Blocks.state on in
    let m = g.B.Blocks.state mid in
    let t = c.args.tree.now in
    let kept = c.args.kept.now in
    let n = c.args.down - 1 in
    let k = c.args.k in
    let is : c.args.down ≡ suc (c.args.down - 1) = omega arith in
    let all = g.met.B.Blocks.keeps_all on mid c.own_down-above.ensures.keeps in
    let down : suc (c.args.down - 1) ≤ t.depth = subst (λ d. d ≤ t.depth) is c.requires.down.0 in
    let ready : WayReady s t kept (suc (c.args.down - 1)) k = subst (λ d. WayReady s t kept d k) is c.requires.ready in
    let says : s.tells → Says s = λ told. record { placed = g.met.B.Blocks.placed on s.now (g.met.B.Blocks.present on told); one = g.met.B.Blocks.one_place on } in
    let told : s.tells → (b : ℕ) → OnWay s t (suc (c.args.down - 1)) k b → IsTold s t.top b = subst (λ d. s.tells → (b : ℕ) → OnWay s t d k b → IsTold s t.top b) is c.requires.told in
    let above = c.own_down-above.result.at in
    let comes = c.own_down-above.ensures.comes in
    let end = c.own_block-at.new.on in
    let u = g.B.Blocks.state end in
    let at = c.own_block-at.result in
    let was = target ((m.now above).slot (k % 409)) in
    let step : ((was ≡ Local at) × (end ≡ mid) × IsOwn m t (t.depth - suc n) (409 * (k / 409) + k % 409) at) ⊎ Links t (t.depth - suc n) (k / 409) above (k % 409) was at m u =
    subst (λ d. ((was ≡ Local at) × (end ≡ mid) × IsOwn m t (t.depth - d) (409 * (k / 409) + k % 409) at) ⊎ Links t (t.depth - d) (k / 409) above (k % 409) was at m u) is c.own_block-at.ensures.step in
    let some = c.if-down-eq0.false in
    λ j way le next.
    let before : WayCurrent s t (suc n) j = subst (λ d. WayCurrent s t d j) is way in
    let left = c.own_down-above.ensures.used (j / 409) before.0 (omega (arith, le)) (omega (arith, next)) in
    subst (λ d. s.spare + (j + hold d j) ≤ u.spare + (k + hold d k)) (sym is)
    (⊎_elim
    (λ same. let kept_spare : m.spare ≤ u.spare = subst (λ x. m.spare ≤ (g.B.Blocks.state x).spare) (sym same.1) (omega arith) in spend s.spare m.spare u.spare j k (hold n (j / 409)) (hold n (k / 409)) le left kept_spare)
    (λ links. ⊎_elim
    (λ here.
    let last = before.1 in
    let leads : target ((m.now above).slot (k % 409)) ≡ Local last.0 = leads_next s m t kept n k above all c.requires.hangs down ready comes says told ∙ local_seen s kept t (suc n) k last.0 (ap (λ y. block_at s t (suc n) y) (sym here) ∙ last.1) in
    absurd (not_current s m t kept n k above all c.requires.hangs down ready comes says told u at (g.met.B.Blocks.keeps_all mid end c.own_block-at.ensures.keeps)
    (λ image h. (
      g.met.B.Blocks.placed on image h,
      g.met.B.Blocks.ranked on image h,
      g.met.B.Blocks.told on image h,
      λ top is_top. ⊎_elim
          (λ e. (super_place, subst (λ y. s.stands y super_place) (sym e) (g.met.B.Blocks.super_stands on (g.met.B.Blocks.told on image h))))
          (λ ne. (root_place, g.met.B.Blocks.top_stands on top (g.met.B.Blocks.told on image h) is_top ne))
          (cases_eq top 1),
    ))
    (g.met.B.Blocks.standing on)
    links last.0 leads last.2))
    (λ ne. let taken = links.spare in spend_one s.spare m.spare u.spare j k (hold n (j / 409)) (hold n (k / 409)) le ne left taken)
    (cases_eq j k))
    step)

pub returns-then-down-eq0-clause-few : goal.returns-then-down-eq0-clause-few
returns-then-down-eq0-clause-few g t' c = λ count but.
    let s = g.B.Blocks.state c.args.on.now in
    let t = c.args.tree.now in
    ⊎_elim
    (λ top. let less = c.own_top-top.ensures.less top in omega (arith, less))
    (λ some. let one = c.own_top-top.ensures.spare in omega (arith, one, some))
    (but_top s t count c.args.k (subst (λ d. CurrentBut s t count d c.args.k) c.if-down-eq0.true but))

pub returns-clause-few : goal.returns-clause-few
returns-clause-few g t' c = λ count but.
    let on = c.args.on.now in
    let mid = c.own_down-above.new.on in
    let s = g.B.Blocks.state on in
    let m = g.B.Blocks.state mid in
    let t = c.args.tree.now in
    let n = c.args.down - 1 in
    let k = c.args.k in
    let is : c.args.down ≡ suc (c.args.down - 1) = omega arith in
    let above = c.own_down-above.result.at in
    let end = c.own_block-at.new.on in
    let u = g.B.Blocks.state end in
    let at = c.own_block-at.result in
    let was = target ((m.now above).slot (k % 409)) in
    let step : ((was ≡ Local at) × (end ≡ mid) × IsOwn m t (t.depth - suc n) (409 * (k / 409) + k % 409) at) ⊎ Links t (t.depth - suc n) (k / 409) above (k % 409) was at m u =
    subst (λ d. ((was ≡ Local at) × (end ≡ mid) × IsOwn m t (t.depth - d) (409 * (k / 409) + k % 409) at) ⊎ Links t (t.depth - d) (k / 409) above (k % 409) was at m u) is c.own_block-at.ensures.step in
    ⊎_elim
    (λ way. let used = returns-clause-used g t' c k (subst (λ d. WayCurrent s t d k) (sym is) way) (omega arith) (omega arith) in omega (arith, used))
    (λ up.
    let left = c.own_down-above.ensures.few up.less up.but in
    let less = up.is in
    ⊎_elim
    (λ same. let kept_spare : m.spare ≤ u.spare = subst (λ x. m.spare ≤ (g.B.Blocks.state x).spare) (sym same.1) (omega arith) in omega (arith, kept_spare, left, less))
    (λ links. let used = links.spare in omega (arith, used, left, less))
    step)
    (but_down s t count n k (subst (λ d. CurrentBut s t count d k) is but))

pub returns-clause-keeps : goal.returns-clause-keeps
returns-clause-keeps g t' c =
    g.met.B.Blocks.keeps_joins c.args.on.now c.own_down-above.new.on c.own_block-at.new.on c.own_down-above.ensures.keeps c.own_block-at.ensures.keeps

pub returns-then-down-eq0-clause-leads : goal.returns-then-down-eq0-clause-leads
returns-then-down-eq0-clause-leads g t' c =
    let u = g.B.Blocks.state c.own_top-top.new.on in
    let zero = c.if-down-eq0.true in
    let few = subst (λ d. c.args.k < 409 ^ d) zero c.requires.down.1 in
    subst (λ d. Leads (g.B.Blocks.state c.args.on.now) u c.args.tree.now c.args.kept.now c.own_top-top.result d c.args.k c.own_top-top.result) (sym zero) (
      refl,
      record {
        own = (c.own_top-top.ensures.comes c.args.k few).own;
        from = ⊎_elim (λ made. inl made) (λ is. inr is.0) (c.own_top-top.ensures.comes c.args.k few).from;
        kept = c.own_top-top.ensures.same;
      },
    )

pub returns-then-down-eq0-clause-top : goal.returns-then-down-eq0-clause-top
returns-then-down-eq0-clause-top g t' c =
    c.own_top-top.ensures.top

pub returns-clause-leads : goal.returns-clause-leads
returns-clause-leads g t' c =
    let on = c.args.on.now in
    let mid = c.own_down-above.new.on in
    let s = g.B.Blocks.state on in
    let m = g.B.Blocks.state mid in
    let t = c.args.tree.now in
    let kept = c.args.kept.now in
    let n = c.args.down - 1 in
    let k = c.args.k in
    let is : c.args.down ≡ suc (c.args.down - 1) = omega arith in
    let all = g.met.B.Blocks.keeps_all on mid c.own_down-above.ensures.keeps in
    let down : suc (c.args.down - 1) ≤ t.depth = subst (λ d. d ≤ t.depth) is c.requires.down.0 in
    let ready : WayReady s t kept (suc (c.args.down - 1)) k = subst (λ d. WayReady s t kept d k) is c.requires.ready in
    let says : s.tells → Says s = λ told. record { placed = g.met.B.Blocks.placed on s.now (g.met.B.Blocks.present on told); one = g.met.B.Blocks.one_place on } in
    let told : s.tells → (b : ℕ) → OnWay s t (suc (c.args.down - 1)) k b → IsTold s t.top b = subst (λ d. s.tells → (b : ℕ) → OnWay s t d k b → IsTold s t.top b) is c.requires.told in
    let above = c.own_down-above.result.at in
    let comes = c.own_down-above.ensures.comes in
    let end = c.own_block-at.new.on in
    let u = g.B.Blocks.state end in
    let at = c.own_block-at.result in
    let was = target ((m.now above).slot (k % 409)) in
    let step : ((was ≡ Local at) × (end ≡ mid) × IsOwn m t (t.depth - suc n) (409 * (k / 409) + k % 409) at) ⊎ Links t (t.depth - suc n) (k / 409) above (k % 409) was at m u =
    subst (λ d. ((was ≡ Local at) × (end ≡ mid) × IsOwn m t (t.depth - d) (409 * (k / 409) + k % 409) at) ⊎ Links t (t.depth - d) (k / 409) above (k % 409) was at m u) is c.own_block-at.ensures.step in
    let top = c.own_down-above.result.top in
    let beside : (j : ℕ) → j < 409 → target ((m.now above).slot j) ≡ below (seen s kept) (kind_down t n) (block_at (seen s kept) t n (k / 409)) j = leads_beside s m t kept n k above all c.requires.hangs down ready comes says told in
    subst (λ d. Leads s u t kept top d k at) (sym is)
    (⊎_elim
    (λ same. subst (λ x. Leads s (g.B.Blocks.state x) t kept top (suc n) k at) (sym same.1)
    ((above, c.own_down-above.ensures.leads, same.0, λ j few ne. beside j few), replaces_same s m t kept n k above all c.requires.hangs down ready comes says told at same.2 same.0))
    (λ links. (
      (
        above,
        leads_on s m u t kept top n above (k % 409) at (t.depth - suc n) (k / 409) (omega (arith, down)) (block_of n (k / 409) above comes.own) was (was_below s m t kept n k above all c.requires.hangs down ready comes says told) (g.met.B.Blocks.keeps_all mid end c.own_block-at.ensures.keeps) links (g.met.B.Blocks.active end).0 n (k / 409) above (omega arith) c.own_down-above.ensures.leads,
        links.leads,
        beside_on s m u t kept top n above (k % 409) at (t.depth - suc n) (k / 409) (omega (arith, down)) (block_of n (k / 409) above comes.own) was (was_below s m t kept n k above all c.requires.hangs down ready comes says told) (g.met.B.Blocks.keeps_all mid end c.own_block-at.ensures.keeps) links (g.met.B.Blocks.active end).0 (k / 409) (λ j few ne. beside j few),
      ),
      replaces_new s m t kept n k above all c.requires.hangs down ready comes says told u at (g.met.B.Blocks.keeps_all mid end c.own_block-at.ensures.keeps)
          (λ image h. (
            g.met.B.Blocks.placed on image h,
            g.met.B.Blocks.ranked on image h,
            g.met.B.Blocks.told on image h,
            λ top is_top. ⊎_elim
                (λ e. (super_place, subst (λ y. s.stands y super_place) (sym e) (g.met.B.Blocks.super_stands on (g.met.B.Blocks.told on image h))))
                (λ ne. (root_place, g.met.B.Blocks.top_stands on top (g.met.B.Blocks.told on image h) is_top ne))
                (cases_eq top 1),
          ))
          (g.met.B.Blocks.standing on)
          links,
    ))
    step)

pub returns-clause-top : goal.returns-clause-top
returns-clause-top g t' c =
    let on = c.args.on.now in
    let mid = c.own_down-above.new.on in
    let s = g.B.Blocks.state on in
    let m = g.B.Blocks.state mid in
    let t = c.args.tree.now in
    let n = c.args.down - 1 in
    let k = c.args.k in
    let is : c.args.down ≡ suc (c.args.down - 1) = omega arith in
    let above = c.own_down-above.result.at in
    let end = c.own_block-at.new.on in
    let u = g.B.Blocks.state end in
    let at = c.own_block-at.result in
    let was = target ((m.now above).slot (k % 409)) in
    let step : ((was ≡ Local at) × (end ≡ mid) × IsOwn m t (t.depth - suc n) (409 * (k / 409) + k % 409) at) ⊎ Links t (t.depth - suc n) (k / 409) above (k % 409) was at m u =
    subst (λ d. ((was ≡ Local at) × (end ≡ mid) × IsOwn m t (t.depth - d) (409 * (k / 409) + k % 409) at) ⊎ Links t (t.depth - d) (k / 409) above (k % 409) was at m u) is c.own_block-at.ensures.step in
    ⊎_elim
    (λ same. subst (λ x. IsTopOf s (g.B.Blocks.state x) t c.own_down-above.result.top) (sym same.1) c.own_down-above.ensures.top)
    (λ links. top_stays (g.met.B.Blocks.keeps_all on mid c.own_down-above.ensures.keeps) (g.met.B.Blocks.keeps_all mid end c.own_block-at.ensures.keeps) c.own_down-above.ensures.top links)
    step

pub returns-then-down-eq0-clause-given : goal.returns-then-down-eq0-clause-given
returns-then-down-eq0-clause-given g t' c = λ b made.
    let u = g.B.Blocks.state c.own_top-top.new.on in
    subst (λ d. OnWay u (with_top c.args.tree.now c.own_top-top.result) d c.args.k b) (sym c.if-down-eq0.true) (ap (λ y. Local y) (sym (c.own_top-top.ensures.given b made)))

pub returns-clause-given : goal.returns-clause-given
returns-clause-given g t' c =
    let on = c.args.on.now in
    let mid = c.own_down-above.new.on in
    let s = g.B.Blocks.state on in
    let m = g.B.Blocks.state mid in
    let t = c.args.tree.now in
    let kept = c.args.kept.now in
    let n = c.args.down - 1 in
    let k = c.args.k in
    let is : c.args.down ≡ suc (c.args.down - 1) = omega arith in
    let all = g.met.B.Blocks.keeps_all on mid c.own_down-above.ensures.keeps in
    let down : suc (c.args.down - 1) ≤ t.depth = subst (λ d. d ≤ t.depth) is c.requires.down.0 in
    let ready : WayReady s t kept (suc (c.args.down - 1)) k = subst (λ d. WayReady s t kept d k) is c.requires.ready in
    let says : s.tells → Says s = λ told. record { placed = g.met.B.Blocks.placed on s.now (g.met.B.Blocks.present on told); one = g.met.B.Blocks.one_place on } in
    let told : s.tells → (b : ℕ) → OnWay s t (suc (c.args.down - 1)) k b → IsTold s t.top b = subst (λ d. s.tells → (b : ℕ) → OnWay s t d k b → IsTold s t.top b) is c.requires.told in
    let above = c.own_down-above.result.at in
    let comes = c.own_down-above.ensures.comes in
    let end = c.own_block-at.new.on in
    let u = g.B.Blocks.state end in
    let at = c.own_block-at.result in
    let was = target ((m.now above).slot (k % 409)) in
    let step : ((was ≡ Local at) × (end ≡ mid) × IsOwn m t (t.depth - suc n) (409 * (k / 409) + k % 409) at) ⊎ Links t (t.depth - suc n) (k / 409) above (k % 409) was at m u =
    subst (λ d. ((was ≡ Local at) × (end ≡ mid) × IsOwn m t (t.depth - d) (409 * (k / 409) + k % 409) at) ⊎ Links t (t.depth - d) (k / 409) above (k % 409) was at m u) is c.own_block-at.ensures.step in
    let top = c.own_down-above.result.top in
    subst (λ d. (b : ℕ) → Made s u b → OnWay u (with_top t top) d k b) (sym is)
    (⊎_elim
    (λ same. subst (λ x. (b : ℕ) → Made s (g.B.Blocks.state x) b → OnWay (g.B.Blocks.state x) (with_top t top) (suc n) k b) (sym same.1) (λ b made. inl (c.own_down-above.ensures.given b made)))
    (λ links. given_on s m u t kept top n above (k % 409) at (t.depth - suc n) (k / 409) (omega (arith, down)) (block_of n (k / 409) above comes.own) was (was_below s m t kept n k above all c.requires.hangs down ready comes says told)
    (g.met.B.Blocks.keeps_all mid end c.own_block-at.ensures.keeps) links (g.met.B.Blocks.active end).0 k c.own_down-above.ensures.leads links.leads c.own_down-above.ensures.given)
    step)

pub returns-clause-stead : goal.returns-clause-stead
returns-clause-stead g t' c = λ x made h.
    let on = c.args.on.now in
    let mid = c.own_down-above.new.on in
    let s = g.B.Blocks.state on in
    let m = g.B.Blocks.state mid in
    let t = c.args.tree.now in
    let k = c.args.k in
    let above = c.own_down-above.result.at in
    let end = c.own_block-at.new.on in
    let u = g.B.Blocks.state end in
    let at = c.own_block-at.result in
    let top = c.own_down-above.result.top in
    let was = target ((m.now above).slot (k % 409)) in
    let step : ((was ≡ Local at) × (end ≡ mid) × IsOwn m t (t.depth - c.args.down) (409 * (k / 409) + k % 409) at) ⊎ Links t (t.depth - c.args.down) (k / 409) above (k % 409) was at m u = c.own_block-at.ensures.step in
    let first : Made s m top = (made.0, c.own_down-above.ensures.top.live) in
    ⊎_elim
    (λ same. c.own_down-above.ensures.stead x first (subst (λ b. (g.B.Blocks.state b).instead top x) same.1 h))
    (λ links. c.own_down-above.ensures.stead x first (links.instead top x h))
    step

pub returns-then-down-eq0-clause-dirties : goal.returns-then-down-eq0-clause-dirties
returns-then-down-eq0-clause-dirties g t' c =
    let s = g.B.Blocks.state c.args.on.now in
    let u = g.B.Blocks.state c.own_top-top.new.on in
    let top = c.own_top-top.result in
    subst (λ d. Dirties (2 * (d + 1)) (λ b. OnWay u (with_top c.args.tree.now top) d c.args.k b) s u) (sym c.if-down-eq0.true)
    (dirties_counts (λ b on. sym (local_eq on)) c.own_top-top.ensures.dirties)

pub returns-then-down-eq0-clause-dirties_used : goal.returns-then-down-eq0-clause-dirties_used
returns-then-down-eq0-clause-dirties_used g t' c = λ blocks j way has le next.
    let s = g.B.Blocks.state c.args.on.now in
    let u = g.B.Blocks.state c.own_top-top.new.on in
    let t = c.args.tree.now in
    let k = c.args.k in
    let top = c.own_top-top.result in
    let zero = c.if-down-eq0.true in
    let first : WayCurrent s t 0 j = subst (λ d. WayCurrent s t d j) zero way in
    let same : top ≡ first.0 = c.own_top-top.ensures.same first.0 first.1 first.2 in
    let here : Contains blocks first.0 = subst (λ d. HasWay blocks s t d j) zero has first.0 first.1 in
    let none = c.own_top-top.ensures.dirties_less (way_top s t c.args.down j way) in
    subst (λ d. AddsWay (2 * (k + hold d k - (j + hold d j))) blocks s u (with_top t top) d k) (sym zero) (record {
      more = none.blocks;
      few = let few = none.few in omega (arith, few);
      within = dirties_within (λ b h. Contains-append_left none.blocks blocks b h) none.within;
      way = λ b on. Contains-append_right none.blocks blocks b (subst (λ x. Contains blocks x) (sym same ∙ local_eq on) here);
    })

pub returns-clause-dirties : goal.returns-clause-dirties
returns-clause-dirties g t' c =
    let on = c.args.on.now in
    let mid = c.own_down-above.new.on in
    let s = g.B.Blocks.state on in
    let m = g.B.Blocks.state mid in
    let t = c.args.tree.now in
    let kept = c.args.kept.now in
    let n = c.args.down - 1 in
    let k = c.args.k in
    let is : c.args.down ≡ suc (c.args.down - 1) = omega arith in
    let all = g.met.B.Blocks.keeps_all on mid c.own_down-above.ensures.keeps in
    let down : suc (c.args.down - 1) ≤ t.depth = subst (λ d. d ≤ t.depth) is c.requires.down.0 in
    let ready : WayReady s t kept (suc (c.args.down - 1)) k = subst (λ d. WayReady s t kept d k) is c.requires.ready in
    let says : s.tells → Says s = λ told. record { placed = g.met.B.Blocks.placed on s.now (g.met.B.Blocks.present on told); one = g.met.B.Blocks.one_place on } in
    let told : s.tells → (b : ℕ) → OnWay s t (suc (c.args.down - 1)) k b → IsTold s t.top b = subst (λ d. s.tells → (b : ℕ) → OnWay s t d k b → IsTold s t.top b) is c.requires.told in
    let above = c.own_down-above.result.at in
    let comes = c.own_down-above.ensures.comes in
    let leads = c.own_down-above.ensures.leads in
    let end = c.own_block-at.new.on in
    let u = g.B.Blocks.state end in
    let at = c.own_block-at.result in
    let top = c.own_down-above.result.top in
    let was = target ((m.now above).slot (k % 409)) in
    let step : ((was ≡ Local at) × (end ≡ mid) × IsOwn m t (t.depth - suc n) (409 * (k / 409) + k % 409) at) ⊎ Links t (t.depth - suc n) (k / 409) above (k % 409) was at m u =
    subst (λ d. ((was ≡ Local at) × (end ≡ mid) × IsOwn m t (t.depth - d) (409 * (k / 409) + k % 409) at) ⊎ Links t (t.depth - d) (k / 409) above (k % 409) was at m u) is c.own_block-at.ensures.step in
    let here : block_at m (with_top t top) n (k / 409) ≡ Local above = leads_to s m t kept top n (k / 409) above leads in
    subst (λ d. Dirties (2 * (d + 1)) (λ b. OnWay u (with_top t top) d k b) s u) (sym is)
    (⊎_elim
    (λ same. subst (λ x. Dirties (2 * (suc n + 1)) (λ b. OnWay (g.B.Blocks.state x) (with_top t top) (suc n) k b) s (g.B.Blocks.state x)) (sym same.1) (ways_same t top n k above at c.own_down-above.ensures.dirties here same.0))
    (λ links.
    let more = g.met.B.Blocks.keeps_all mid end c.own_block-at.ensures.keeps in
    let own = block_of n (k / 409) above comes.own in
    let active = (g.met.B.Blocks.active end).0 in
    let below_was = was_below s m t kept n k above all c.requires.hangs down ready comes says told in
    let lower : suc n ≤ t.depth = omega (arith, down) in
    let came : CameBelow m u t top n k above at (t.depth - suc n) was = record {
      all = more;
      links = links;
      first = here;
      last = leads_to s u t kept top n (k / 409) above (leads_on s m u t kept top n above (k % 409) at (t.depth - suc n) (k / 409) lower own was below_was more links active n (k / 409) above (omega arith) leads);
      same = λ b on. way_was s m u t kept top n above (k % 409) at (t.depth - suc n) (k / 409) lower own was below_was more links active n (k / 409) above b (omega arith) leads on;
    } in
    ways_came came c.own_down-above.ensures.dirties)
    step)

pub returns-clause-dirties_used : goal.returns-clause-dirties_used
returns-clause-dirties_used g t' c = λ blocks j way has le next.
    let on = c.args.on.now in
    let mid = c.own_down-above.new.on in
    let s = g.B.Blocks.state on in
    let m = g.B.Blocks.state mid in
    let t = c.args.tree.now in
    let kept = c.args.kept.now in
    let n = c.args.down - 1 in
    let k = c.args.k in
    let is : c.args.down ≡ suc (c.args.down - 1) = omega arith in
    let all = g.met.B.Blocks.keeps_all on mid c.own_down-above.ensures.keeps in
    let down : suc (c.args.down - 1) ≤ t.depth = subst (λ d. d ≤ t.depth) is c.requires.down.0 in
    let ready : WayReady s t kept (suc (c.args.down - 1)) k = subst (λ d. WayReady s t kept d k) is c.requires.ready in
    let says : s.tells → Says s = λ told. record { placed = g.met.B.Blocks.placed on s.now (g.met.B.Blocks.present on told); one = g.met.B.Blocks.one_place on } in
    let told : s.tells → (b : ℕ) → OnWay s t (suc (c.args.down - 1)) k b → IsTold s t.top b = subst (λ d. s.tells → (b : ℕ) → OnWay s t d k b → IsTold s t.top b) is c.requires.told in
    let above = c.own_down-above.result.at in
    let comes = c.own_down-above.ensures.comes in
    let leads = c.own_down-above.ensures.leads in
    let end = c.own_block-at.new.on in
    let u = g.B.Blocks.state end in
    let at = c.own_block-at.result in
    let top = c.own_down-above.result.top in
    let was = target ((m.now above).slot (k % 409)) in
    let step : ((was ≡ Local at) × (end ≡ mid) × IsOwn m t (t.depth - suc n) (409 * (k / 409) + k % 409) at) ⊎ Links t (t.depth - suc n) (k / 409) above (k % 409) was at m u =
    subst (λ d. ((was ≡ Local at) × (end ≡ mid) × IsOwn m t (t.depth - d) (409 * (k / 409) + k % 409) at) ⊎ Links t (t.depth - d) (k / 409) above (k % 409) was at m u) is c.own_block-at.ensures.step in
    let before : WayCurrent s t (suc n) j = subst (λ d. WayCurrent s t d j) is way in
    let held : HasWay blocks s t (suc n) j = subst (λ d. HasWay blocks s t d j) is has in
    let p = c.own_down-above.ensures.dirties_used blocks (j / 409) before.0 (λ b on. held b (inl on)) (omega (arith, le)) (omega (arith, next)) in
    let here : block_at m (with_top t top) n (k / 409) ≡ Local above = leads_to s m t kept top n (k / 409) above leads in
    let last = before.1 in
    let was_last : j ≡ k → was ≡ Local last.0 = λ e. leads_next s m t kept n k above all c.requires.hangs down ready comes says told ∙ local_seen s kept t (suc n) k last.0 (ap (λ i. block_at s t (suc n) i) (sym e) ∙ last.1) in
    subst (λ d. AddsWay (2 * (k + hold d k - (j + hold d j))) blocks s u (with_top t top) d k) (sym is)
    (⊎_elim
    (λ same. subst (λ z. AddsWay (2 * (k + hold (suc n) k - (j + hold (suc n) j))) blocks s (g.B.Blocks.state z) (with_top t top) (suc n) k) (sym same.1)
    (adds_same t top n k above at j blocks le p here same.0 (λ e. subst (λ z. Contains blocks z) (local_eq (sym (was_last e) ∙ same.0)) (held last.0 (inr last.1)))))
    (λ links.
    let more = g.met.B.Blocks.keeps_all mid end c.own_block-at.ensures.keeps in
    let own = block_of n (k / 409) above comes.own in
    let active = (g.met.B.Blocks.active end).0 in
    let below_was = was_below s m t kept n k above all c.requires.hangs down ready comes says told in
    let lower : suc n ≤ t.depth = omega (arith, down) in
    let came : CameBelow m u t top n k above at (t.depth - suc n) was = record {
      all = more;
      links = links;
      first = here;
      last = leads_to s u t kept top n (k / 409) above (leads_on s m u t kept top n above (k % 409) at (t.depth - suc n) (k / 409) lower own was below_was more links active n (k / 409) above (omega arith) leads);
      same = λ b on. way_was s m u t kept top n above (k % 409) at (t.depth - suc n) (k / 409) lower own was below_was more links active n (k / 409) above b (omega arith) leads on;
    } in
    ⊎_elim
    (λ e. absurd (not_current s m t kept n k above all c.requires.hangs down ready comes says told u at more
    (λ image h. (
      g.met.B.Blocks.placed on image h,
      g.met.B.Blocks.ranked on image h,
      g.met.B.Blocks.told on image h,
      λ top is_top. ⊎_elim
          (λ e. (super_place, subst (λ y. s.stands y super_place) (sym e) (g.met.B.Blocks.super_stands on (g.met.B.Blocks.told on image h))))
          (λ ne. (root_place, g.met.B.Blocks.top_stands on top (g.met.B.Blocks.told on image h) is_top ne))
          (cases_eq top 1),
    ))
    (g.met.B.Blocks.standing on)
    links last.0 (was_last e) last.2))
    (λ ne. adds_came j blocks came le ne p)
    (cases_eq j k))
    step)

pub returns-clause-shown : goal.returns-clause-shown
returns-clause-shown g t' c =
    let s = g.B.Blocks.state c.args.on.now in
    ⊎_elim
    (λ same. subst (λ x. ShowsNoMore s.may_leave (g.B.Blocks.state x).may_leave) (sym same.1) c.own_down-above.ensures.shown)
    (λ links. shows_joins c.own_down-above.ensures.shown links.shown)
    c.own_block-at.ensures.step

pub returns-clause-alike : goal.returns-clause-alike
returns-clause-alike g t' c =
    let on = c.args.on.now in
    let mid = c.own_down-above.new.on in
    let end = c.own_block-at.new.on in
    let s = g.B.Blocks.state on in
    let m = g.B.Blocks.state mid in
    let t = c.args.tree.now in
    let n = c.args.down - 1 in
    let k = c.args.k in
    let top = c.own_down-above.result.top in
    let is : c.args.down ≡ suc (c.args.down - 1) = omega arith in
    let few : k < 409 ^ suc (c.args.down - 1) = subst (λ d. k < 409 ^ d) is c.requires.down.1 in
    let more : 409 ^ suc (c.args.down - 1) ≡ 409 * 409 ^ (c.args.down - 1) = pow-succ' 409 (c.args.down - 1) in
    let laws : Laws s = record { present = g.met.B.Blocks.present on; active = (g.met.B.Blocks.active on).0; not_one = (g.met.B.Blocks.active on).1; one = g.met.B.Blocks.one_place on; super_stands = g.met.B.Blocks.super_stands on; placed = λ told. g.met.B.Blocks.placed on s.now (g.met.B.Blocks.present on told); ranked = λ told. g.met.B.Blocks.ranked on s.now (g.met.B.Blocks.present on told); live = λ y told ne r. g.met.B.Blocks.live on y told ne r; clears = g.met.B.Blocks.clears_entries on; waits_within = g.met.B.Blocks.waits_within on; covers_told = g.met.B.Blocks.covers_told on; within = g.met.B.Blocks.within on; spelled = g.met.B.Blocks.spelled on; apart_hangs = λ told w is r. g.met.B.Blocks.apart_hangs on s.now 1 w is (g.met.B.Blocks.present on told) (g.met.B.Blocks.active on).0 r; small = g.met.B.Blocks.small on } in
    ⊎_elim
    (λ same. subst (λ x. KeepsAlike s (g.B.Blocks.state x) t (with_top t top)) (sym same.1) c.own_down-above.ensures.alike)
    (λ links. alike_linked k laws c.requires.hangs (g.met.B.Blocks.active end).0 c.requires.down.0 (returns-clause-comes g t' c).descends
    (g.met.B.Blocks.keeps_all on mid c.own_down-above.ensures.keeps) c.own_down-above.ensures.alike
    (top_own s m t c.args.kept.now top n (k / 409) c.own_down-above.result.at (omega (arith, few, more)) c.own_down-above.ensures.leads) links)
    c.own_block-at.ensures.step
