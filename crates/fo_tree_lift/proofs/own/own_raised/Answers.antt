use Rattle.std.proofs.Common.{◌≡◌, ◌⊎◌, ◌+◌, ◌-◌, ◌*◌, ◌/◌, ◌<◌, ◌≤◌, inl, inr, ⊎_elim, sym, ◌∙◌, ap, subst, arith}
use Rattle.fo_sparse.specs.Written.{resized}
use Rattle.fo_ports.specs.Sources.{Dirties, Grows, Owned, depth_for}
use Rattle.fo_tree_read.specs.declared.tree.Tree.{Tree}
use Rattle.fo_tree_look.specs.Source.{Over, HasBlock, WayReady, IsTopCurrent, form_of, leaves_of}
use Rattle.fo_tree_grow.specs.of_tree_down.Way.{with_top}
use Rattle.fo_tree_grow.proofs.of_tree_down.Dirtying.{dirties_both, dirties_most, dirties_end}
use Rattle.fo_tree_grow.specs.of_tree_down.Clear.{EndsClear, last_leaf}
use Rattle.fo_tree_grow.specs.Grow.{shaped}
use Rattle.fo_tree_grow.proofs.Empty.{least_for, few_for}
use Rattle.fo_tree_lift.proofs.Lifting.{top_ready}
use Rattle.fo_tree_lift.proofs.Ending.{IsRaised, WayCame, taller, over_mid, way_mid, current_mid, clear_mid, over_end, changes_end, instead_end, owned_end, bytes_end, grows_end, top_end, stays_end, tree_end, covered_end, new_end, current_end, room_end}
use Rattle.fo_tree_lift.proofs.own.own_raised.Given as given
use Rattle.fo_tree_grow.proofs.of_tree_own.Showing.{shows_joins}
use Rattle.fo_tree_grow.specs.of_tree_raise.Levels.{grown}
use Rattle.fo_tree_grow.specs.of_tree_down.Alike.{KeepsAlike}
use Rattle.fo_tree_grow.proofs.of_tree_down.Alikes.{alike_joins, alike_sized}
use Rattle.fo_tree_lift.proofs.own.own_raised.Goals as goal

pub overflow_sub-depth : goal.overflow_sub-depth
overflow_sub-depth g c =
    let end = c.requires.over.2.end in
    let low = c.requires.over.1.low in
    let same = c.least_depth-depth.ensures.only (depth_for (8192 * (c.args.i + 1))) (least_for (8192 * (c.args.i + 1)) (omega (arith, end, low))) in
    let lt = c.requires.levels in
    omega (arith, same, lt)

levels_first : (g : given.Over) (c : goal.After-lift-arg-1 g) → c.least_depth-depth.result ≡ depth_for (8192 * (c.args.i + 1))
levels_first g c =
    let end = c.requires.over.2.end in
    let low = c.requires.over.1.low in
    sym (c.least_depth-depth.ensures.only (depth_for (8192 * (c.args.i + 1))) (least_for (8192 * (c.args.i + 1)) (omega (arith, end, low))))

pub lift-top-requires-clause-some : goal.lift-top-requires-clause-some
lift-top-requires-clause-some g c = let same = levels_first g c in let lt = c.requires.levels in (c.requires.some, omega (arith, same, lt))

pub lift-top-requires-clause-level : goal.lift-top-requires-clause-level
lift-top-requires-clause-level g c =
    let same = levels_first g c in
    let lt = c.requires.levels in
    let few = few_for (8192 * (c.args.i + 1)) in
    omega (arith, same, lt, few)

pub lift-top-requires-clause-ready : goal.lift-top-requires-clause-ready
lift-top-requires-clause-ready g c =
    let t = c.args.tree.now in
    top_ready (g.B.Blocks.state c.args.on.now) t c.args.kept.now t.depth ((t.size - 1) / 8192) (c.requires.clear.way c.requires.some)

pub lift-top-requires-clause-spare : goal.lift-top-requires-clause-spare
lift-top-requires-clause-spare g c =
    let same = levels_first g c in
    let lt = c.requires.levels in
    ⊎_elim
    (λ top. let enough = top.1 in inl (top.0, omega (arith, same, lt, enough)))
    (λ enough. inr (omega (arith, same, lt, enough)))
    c.requires.spare

levels_mid : (g : given.Over) (c : goal.After-own_way-arg-1 g) → c.least_depth-depth.result ≡ depth_for (8192 * (c.args.i + 1))
levels_mid g c =
    let end = c.requires.over.2.end in
    let low = c.requires.over.1.low in
    sym (c.least_depth-depth.ensures.only (depth_for (8192 * (c.args.i + 1))) (least_for (8192 * (c.args.i + 1)) (omega (arith, end, low))))

deep_mid : (g : given.Over) (c : goal.After-own_way-arg-1 g) → c.least_depth-depth.result ≡ c.args.tree.now.depth + (c.least_depth-depth.result - c.args.tree.now.depth)
deep_mid g c = let same = levels_mid g c in let lt = c.requires.levels in omega (arith, same, lt)

raised_mid : (g : given.Over) (c : goal.After-own_way-arg-1 g) → IsRaised (g.B.Blocks.state c.args.on.now) (g.B.Blocks.state c.lift-top.new.on) c.args.tree.now c.args.kept.now (c.least_depth-depth.result - c.args.tree.now.depth) c.lift-top.result c.args.i
raised_mid g c =
    let end = c.requires.over.2.end in
    let same = levels_mid g c in
    let lt = c.requires.levels in
    record {
      lifts = c.lift-top.ensures.lifts;
      most = c.requires.over.0;
      over = c.requires.over.1;
      end = omega (arith, end);
      some = c.requires.some;
      more = omega (arith, same, lt);
      depth = omega (arith, same, lt);
      all = g.met.B.Blocks.keeps_all c.args.on.now c.lift-top.new.on c.lift-top.ensures.keeps;
    }

grown_mid : (g : given.Over) (c : goal.After-own_way-arg-1 g) → c.with_levels-grown.result ≡ taller c.args.tree.now (c.least_depth-depth.result - c.args.tree.now.depth) c.lift-top.result c.args.i
grown_mid g c = c.with_levels-grown.ensures ∙ ap (λ d. record c.args.tree.now { depth = d; size = 8192 * (c.args.i + 1); top = c.lift-top.result }) (deep_mid g c)

pub own_way-requires-clause-over : goal.own_way-requires-clause-over
own_way-requires-clause-over g c =
    let m = g.B.Blocks.state c.lift-top.new.on in
    let kept = c.args.kept.now in
    let end = c.requires.over.2.end in
    (c.requires.over.0, subst (λ (x : Tree). Over m x kept c.requires.over.0) (sym (grown_mid g c)) (over_mid (raised_mid g c) c.requires.over.0 (omega (arith, end)) c.requires.over.1.low))

pub own_way-requires-clause-ready : goal.own_way-requires-clause-ready
own_way-requires-clause-ready g c =
    let m = g.B.Blocks.state c.lift-top.new.on in
    let t = c.args.tree.now in
    let kept = c.args.kept.now in
    let levels = c.least_depth-depth.result - c.args.tree.now.depth in
    subst (λ (x : Tree). WayReady m x kept c.least_depth-depth.result c.args.i) (sym (grown_mid g c))
    (subst (λ d. WayReady m (taller t levels c.lift-top.result c.args.i) kept d c.args.i) (sym (deep_mid g c)) (way_mid (raised_mid g c)))

pub own_way-requires-clause-spare : goal.own_way-requires-clause-spare
own_way-requires-clause-spare g c =
    let m = g.B.Blocks.state c.lift-top.new.on in
    let same = levels_mid g c in
    let lt = c.requires.levels in
    let current = subst (λ (x : Tree). IsTopCurrent m x) (sym (grown_mid g c)) (current_mid (raised_mid g c)) in
    ⊎_elim
    (λ top. let enough = top.1 in let used = c.lift-top.ensures.less top.0 in inl (current, omega (arith, same, lt, enough, used)))
    (λ enough. let used = c.lift-top.ensures.spare in inl (current, omega (arith, same, lt, enough, used)))
    c.requires.spare

levels_last : (g : given.Over) (c : goal.After-own_way g) → c.least_depth-depth.result ≡ depth_for (8192 * (c.args.i + 1))
levels_last g c =
    let end = c.requires.over.2.end in
    let low = c.requires.over.1.low in
    sym (c.least_depth-depth.ensures.only (depth_for (8192 * (c.args.i + 1))) (least_for (8192 * (c.args.i + 1)) (omega (arith, end, low))))

deep_last : (g : given.Over) (c : goal.After-own_way g) → c.least_depth-depth.result ≡ c.args.tree.now.depth + (c.least_depth-depth.result - c.args.tree.now.depth)
deep_last g c = let same = levels_last g c in let lt = c.requires.levels in omega (arith, same, lt)

raised_last : (g : given.Over) (c : goal.After-own_way g) → IsRaised (g.B.Blocks.state c.args.on.now) (g.B.Blocks.state c.lift-top.new.on) c.args.tree.now c.args.kept.now (c.least_depth-depth.result - c.args.tree.now.depth) c.lift-top.result c.args.i
raised_last g c =
    let end = c.requires.over.2.end in
    let same = levels_last g c in
    let lt = c.requires.levels in
    record {
      lifts = c.lift-top.ensures.lifts;
      most = c.requires.over.0;
      over = c.requires.over.1;
      end = omega (arith, end);
      some = c.requires.some;
      more = omega (arith, same, lt);
      depth = omega (arith, same, lt);
      all = g.met.B.Blocks.keeps_all c.args.on.now c.lift-top.new.on c.lift-top.ensures.keeps;
    }

grown_last : (g : given.Over) (c : goal.After-own_way g) → c.with_levels-grown.result ≡ taller c.args.tree.now (c.least_depth-depth.result - c.args.tree.now.depth) c.lift-top.result c.args.i
grown_last g c = c.with_levels-grown.ensures ∙ ap (λ d. record c.args.tree.now { depth = d; size = 8192 * (c.args.i + 1); top = c.lift-top.result }) (deep_last g c)

way_last : (g : given.Over) (c : goal.After-own_way g) → WayCame (g.B.Blocks.state c.lift-top.new.on) (g.B.Blocks.state c.own_way.new.on) (taller c.args.tree.now (c.least_depth-depth.result - c.args.tree.now.depth) c.lift-top.result c.args.i) c.args.kept.now (c.args.tree.now.depth + (c.least_depth-depth.result - c.args.tree.now.depth)) c.args.i c.own_way.result.top c.own_way.result.at
way_last g c =
    let m = g.B.Blocks.state c.lift-top.new.on in
    let u = g.B.Blocks.state c.own_way.new.on in
    let t = c.args.tree.now in
    let kept = c.args.kept.now in
    let levels = c.least_depth-depth.result - c.args.tree.now.depth in
    let i = c.args.i in
    let r = c.own_way.result in
    let e = c.own_way.ensures in
    subst (λ d. WayCame m u (taller t levels c.lift-top.result i) kept d i r.top r.at) (deep_last g c)
    (subst (λ (x : Tree). WayCame m u x kept c.least_depth-depth.result i r.top r.at) (grown_last g c) (record {
      comes = e.comes;
      leads = e.leads;
      replaces = e.replaces;
      top_of = e.top;
      beside = e.beside;
      over = e.over;
      owns = e.owns;
      stays = e.stays;
      still = e.still;
      more = g.met.B.Blocks.keeps_all c.lift-top.new.on c.own_way.new.on e.keeps;
    }))

pub returns-clause-owned : goal.returns-clause-owned
returns-clause-owned g c = λ generation limit.
    let s = g.B.Blocks.state c.args.on.now in
    let u = g.B.Blocks.state c.own_way.new.on in
    let t = c.args.tree.now in
    let kept = c.args.kept.now in
    let r = c.own_way.result in
    subst (λ d. Owned (form_of t generation limit) t.size c.args.i r.at s u (leaves_of s t kept limit) (leaves_of u (with_top (shaped t d (8192 * (c.args.i + 1))) r.top) kept limit)) (raised_last g c).depth
    (owned_end (raised_last g c) (way_last g c) c.requires.tail generation limit)

pub returns-clause-bytes : goal.returns-clause-bytes
returns-clause-bytes g c = λ told ends limit.
    let s = g.B.Blocks.state c.args.on.now in
    let u = g.B.Blocks.state c.own_way.new.on in
    let t = c.args.tree.now in
    let kept = c.args.kept.now in
    let r = c.own_way.result in
    subst (λ d. (leaves_of u (with_top (shaped t d (8192 * (c.args.i + 1))) r.top) kept limit).bytes ≡ resized ((leaves_of s t kept limit).bytes) (8192 * (c.args.i + 1))) (raised_last g c).depth
    (bytes_end (raised_last g c) (way_last g c) c.requires.tail limit told ends)

pub returns-clause-top : goal.returns-clause-top
returns-clause-top g c = top_end (raised_last g c) (way_last g c)

pub returns-clause-over : goal.returns-clause-over
returns-clause-over g c = λ limit within over.
    let u = g.B.Blocks.state c.own_way.new.on in
    let t = c.args.tree.now in
    let kept = c.args.kept.now in
    let r = c.own_way.result in
    subst (λ d. Over u (with_top (shaped t d (8192 * (c.args.i + 1))) r.top) kept limit) (raised_last g c).depth
    (over_end (raised_last g c) (way_last g c) limit within over)

pub returns-clause-grows : goal.returns-clause-grows
returns-clause-grows g c = λ limit.
    let s = g.B.Blocks.state c.args.on.now in
    let u = g.B.Blocks.state c.own_way.new.on in
    let t = c.args.tree.now in
    let kept = c.args.kept.now in
    let r = c.own_way.result in
    subst (λ d. Grows s u (leaves_of s t kept limit) (leaves_of u (with_top (shaped t d (8192 * (c.args.i + 1))) r.top) kept limit)) (raised_last g c).depth
    (grows_end (raised_last g c) (way_last g c) limit)

pub returns-clause-changes : goal.returns-clause-changes
returns-clause-changes g c = changes_end (raised_last g c) (way_last g c)

pub returns-clause-instead : goal.returns-clause-instead
returns-clause-instead g c = λ b x h. instead_end (raised_last g c) (way_last g c) b x h

used_last : (g : given.Over) (c : goal.After-own_way g) → (g.B.Blocks.state c.lift-top.new.on).spare ≤ (g.B.Blocks.state c.own_way.new.on).spare + c.least_depth-depth.result
used_last g c = c.own_way.ensures.less (subst (λ (x : Tree). IsTopCurrent (g.B.Blocks.state c.lift-top.new.on) x) (sym (grown_last g c)) (current_mid (raised_last g c)))

pub returns-clause-spare : goal.returns-clause-spare
returns-clause-spare g c =
    let same = levels_last g c in
    let lt = c.requires.levels in
    let first = c.lift-top.ensures.spare in
    let last = used_last g c in
    omega (arith, same, lt, first, last)

pub returns-clause-less : goal.returns-clause-less
returns-clause-less g c = λ top.
    let same = levels_last g c in
    let lt = c.requires.levels in
    let first = c.lift-top.ensures.less top in
    let last = used_last g c in
    omega (arith, same, lt, first, last)

pub returns-clause-room : goal.returns-clause-room
returns-clause-room g c = room_end (raised_last g c) (way_last g c)

pub returns-clause-current : goal.returns-clause-current
returns-clause-current g c =
    let u = g.B.Blocks.state c.own_way.new.on in
    let t = c.args.tree.now in
    subst (λ d. IsTopCurrent u (with_top (shaped t d (8192 * (c.args.i + 1))) c.own_way.result.top)) (raised_last g c).depth (current_end (raised_last g c) (way_last g c))

pub returns-clause-clear : goal.returns-clause-clear
returns-clause-clear g c =
    let m = g.B.Blocks.state c.lift-top.new.on in
    let u = g.B.Blocks.state c.own_way.new.on in
    let t = c.args.tree.now in
    let kept = c.args.kept.now in
    let r = c.own_way.result in
    subst (λ d. EndsClear u (with_top (shaped t d (8192 * (c.args.i + 1))) r.top) kept) (raised_last g c).depth
    ((subst (λ (x : Tree). c.least_depth-depth.result ≡ x.depth → 8192 * c.args.i < x.size → m.tells ⊎ (c.args.i ≡ last_leaf x.size) → EndsClear m x kept → EndsClear u (with_top x r.top) kept) (grown_last g c) c.own_way.ensures.clear)
    (deep_last g c) (omega arith) (inr (omega arith)) (clear_mid (raised_last g c)))

pub returns-clause-stays : goal.returns-clause-stays
returns-clause-stays g c = λ told b has current.
    let u = g.B.Blocks.state c.own_way.new.on in
    let t = c.args.tree.now in
    subst (λ d. HasBlock u (with_top (shaped t d (8192 * (c.args.i + 1))) c.own_way.result.top) b) (raised_last g c).depth (stays_end (raised_last g c) (way_last g c) told b has current)

pub returns-clause-in_tree : goal.returns-clause-in_tree
returns-clause-in_tree g c = λ told b r. tree_end (raised_last g c) (way_last g c) told b r

pub returns-clause-covers : goal.returns-clause-covers
returns-clause-covers g c = λ b not h. covered_end (raised_last g c) (way_last g c) b not h

pub returns-clause-made : goal.returns-clause-made
returns-clause-made g c = new_end (raised_last g c) (way_last g c)

-- the way in the source with its levels
way_dirties : (g : given.Over) (c : goal.After-own_way g) → Dirties (2 * (c.least_depth-depth.result + 1)) (λ b. b ≡ c.own_way.result.at) (g.B.Blocks.state c.lift-top.new.on) (g.B.Blocks.state c.own_way.new.on)
way_dirties g c = dirties_end (with_top c.with_levels-grown.result c.own_way.result.top) c.least_depth-depth.result c.args.i c.own_way.result.at c.own_way.ensures.leads c.own_way.ensures.dirties

pub returns-clause-dirties : goal.returns-clause-dirties
returns-clause-dirties g c =
    let same = levels_last g c in
    let lt = c.requires.levels in
    let enough : 2 * (c.least_depth-depth.result - c.args.tree.now.depth + 1) + 2 * (c.least_depth-depth.result + 1) ≤ 2 * (2 * depth_for (8192 * (c.args.i + 1)) + 2 - c.args.tree.now.depth) = omega (arith, same, lt) in
    dirties_most enough (dirties_both c.lift-top.ensures.dirties (way_dirties g c))

pub returns-clause-dirties_less : goal.returns-clause-dirties_less
returns-clause-dirties_less g c = λ top.
    let same = levels_last g c in
    let lt = c.requires.levels in
    let enough : 2 * (c.least_depth-depth.result - c.args.tree.now.depth) + 2 * (c.least_depth-depth.result + 1) ≤ 2 * (2 * depth_for (8192 * (c.args.i + 1)) + 1 - c.args.tree.now.depth) = omega (arith, same, lt) in
    dirties_most enough (dirties_both (c.lift-top.ensures.dirties_less top) (way_dirties g c))

pub returns-clause-shown : goal.returns-clause-shown
returns-clause-shown g c = shows_joins c.lift-top.ensures.shown c.own_way.ensures.shown

pub returns-clause-alike : goal.returns-clause-alike
returns-clause-alike g c =
    let mid = c.lift-top.new.on in
    let m = g.B.Blocks.state mid in
    let u = g.B.Blocks.state c.own_way.new.on in
    let t = c.args.tree.now in
    let top = c.lift-top.result in
    let z = 8192 * (c.args.i + 1) in
    let most = c.least_depth-depth.result in
    let end = c.own_way.result.top in
    let deep = levels_last g c in
    let lt = c.requires.levels in
    let same : c.least_depth-depth.result ≡ c.args.tree.now.depth + (c.least_depth-depth.result - c.args.tree.now.depth) = omega (arith, deep, lt) in
    let way : KeepsAlike m u (record (shaped t most (8192 * (c.args.i + 1))) { top = top }) (with_top (shaped t most (8192 * (c.args.i + 1))) end) = subst (λ (x : Tree). KeepsAlike m u x (with_top x end)) c.with_levels-grown.ensures c.own_way.ensures.alike in
    let last : KeepsAlike m u (record (shaped t most z) { top = top }) (with_top (shaped t (depth_for z) z) end) = subst (λ d. KeepsAlike m u (record (shaped t most z) { top = top }) (with_top (shaped t d z) end)) deep way in
    let over : KeepsAlike m u (record (shaped t (t.depth + (most - t.depth)) z) { top = top }) (with_top (shaped t (depth_for z) z) end) = subst (λ d. KeepsAlike m u (record (shaped t d z) { top = top }) (with_top (shaped t (depth_for z) z) end)) same last in
    alike_joins (g.met.B.Blocks.keeps_all c.args.on.now mid c.lift-top.ensures.keeps) c.lift-top.ensures.alike (alike_sized {t = grown t (most - t.depth) top} z over)
