use Rattle.std.proofs.Common.{◌≡◌, ◌≢◌, ◌⊎◌, ◌+◌, ◌-◌, ◌*◌, ◌%◌, ◌^◌, ◌<◌, ◌≤◌, ℕ, inl, ⊎_elim, sym, ap, ◌∙◌, subst, arith}
use Rattle.std.proofs.lemmas.Bool.{cases_eq, cases_lt}
use Rattle.fo_sparse.specs.Written.{resized}
use Rattle.fo_image.specs.declared.types.State.TheVariants.{Live}
use Rattle.fo_image.specs.Format.{IsDepth}
use Rattle.fo_ports.specs.of_crash.Places.{super_place, root_place}
use Rattle.fo_ports.specs.Sources.{Changes, Dirties, Grows, Owned, depth_for, most_to_own}
use Rattle.fo_tree_read.specs.declared.tree.Tree.{Tree}
use Rattle.fo_tree_read.specs.Tree.{kind_at}
use Rattle.fo_tree_look.specs.Source.{Over, HasBlock, IsPlainTree, Prepared, IsTopCurrent, form_of, leaves_of}
use Rattle.fo_tree_clear.specs.of_tree_down.Way.{OnWay, Descends, IsTopOf, with_top}
use Rattle.fo_tree_clear.specs.of_tree_down.Clear.{EndsClear}
use Rattle.fo_image.specs.declared.types.Pointer.TheVariants.{Local}
use Rattle.fo_ports.specs.State.{none}
use Rattle.fo_ports.specs.Sources.{Made}
use Rattle.fo_tree_lift.specs.Lift.{InSteadOf}
use Rattle.fo_tree_lift.specs.of_tree_grow.Grow.{sized, shaped}
use Rattle.fo_tree_lift.proofs.of_tree_grow.Empty.{least_for}
use Rattle.fo_tree_lift.proofs.of_tree_grow.Sizing.{room_for}
use Rattle.fo_tree_lift.specs.Owns.{with_leaf}
use Rattle.fo_tree_lift.proofs.Choosing.{max_right, leaf_next, leaf_past, most_past, ends_past, changes_wide}
use Rattle.fo_tree_clear.proofs.of_tree_down.Dirtying.{dirties_both, dirties_most}
use Rattle.fo_tree_clear.proofs.Putting.{changes_wider}
use Rattle.fo_tree_clear.proofs.of_tree_own.Showing.{shows_joins}
use Rattle.fo_tree_clear.specs.of_tree_down.Alike.{KeepsAlike}
use Rattle.fo_tree_clear.proofs.of_tree_down.Alikes.{alike_joins}
use Rattle.fo_tree_grown.specs.Zeroed.{OwnsZeroed}
use Rattle.fo_tree_grown.proofs.Leaves.{owned_end}
use Rattle.fo_tree_grown.proofs.Tops.{Twice, top_end, grows_end}
use Rattle.fo_tree_grown.proofs.Joining.{steps_first, changes_next}
use Rattle.fo_tree_grown.proofs.Raising.{changes_raised}
use Rattle.fo_tree_grown.proofs.leaf.own_past.Goals as goal

pub own_next-requires-clause-over : goal.own_next-requires-clause-over
own_next-requires-clause-over g c =
    let m = g.B.Blocks.state c.clear_tail-cleared.new.on in
    let kept = c.args.kept.now in
    let e = c.in-Some.ensures in
    let limit = c.requires.over.0 in
    subst (λ (x : Tree). (limit : ℕ) × Over m x kept limit × Prepared m x kept limit (8192 * c.args.i) 8192) (sym c.below_top-here.ensures)
    (limit, e.over limit c.requires.over.1, (e.grows limit).still (8192 * c.args.i) 8192 c.requires.over.2)

pub own_raised-requires-clause-over : goal.own_raised-requires-clause-over
own_raised-requires-clause-over g c =
    let m = g.B.Blocks.state c.clear_tail-cleared.new.on in
    let kept = c.args.kept.now in
    let e = c.in-Some.ensures in
    let limit = c.requires.over.0 in
    subst (λ (x : Tree). (limit : ℕ) × Over m x kept limit × Prepared m x kept limit (8192 * c.args.i) 8192) (sym c.below_top-here.ensures)
    (limit, e.over limit c.requires.over.1, (e.grows limit).still (8192 * c.args.i) 8192 c.requires.over.2)

pub returns-in-None-clause-owns : goal.returns-in-None-clause-owns
returns-in-None-clause-owns g c =
    let on = c.args.on.now in
    let mid = c.clear_tail-cleared.new.on in
    let u = g.B.Blocks.state c.own_leaf.new.on in
    let t = c.args.tree.now in
    let kept = c.args.kept.now in
    let i = c.args.i in
    let r = c.own_leaf.result in
    let e = c.own_leaf.ensures in
    subst (λ b. OwnsZeroed (g.B.Blocks.state b) u t (with_leaf t i r.top) kept i r.top r.at) c.in-None.ensures.cleared (record {
      owned = e.owned;
      bytes = e.bytes;
      top_of = e.top;
      over = e.over;
      grows = e.grows;
      changes = λ generation limit. changes_wider (λ b inner. inl inner) e.changes;
      most = e.spare.0;
      dirties = e.dirties;
      less = e.spare.1;
      current = e.current;
      clear = e.clear;
      room = e.room;
    })

pub returns-then-least_depth-tree-clause-keeps : goal.returns-then-least_depth-tree-clause-keeps
returns-then-least_depth-tree-clause-keeps g c = g.met.B.Blocks.keeps_joins c.args.on.now c.clear_tail-cleared.new.on c.own_next.new.on c.in-Some.ensures.keeps c.own_next.ensures.keeps

pub returns-then-least_depth-tree-clause-owns : goal.returns-then-least_depth-tree-clause-owns
returns-then-least_depth-tree-clause-owns g c =
    let on = c.args.on.now in
    let mid = c.clear_tail-cleared.new.on in
    let end = c.own_next.new.on in
    let s = g.B.Blocks.state on in
    let m = g.B.Blocks.state mid in
    let u = g.B.Blocks.state end in
    let t = c.args.tree.now in
    let kept = c.args.kept.now in
    let i = c.args.i in
    let z = 8192 * (c.args.i + 1) in
    let ctop = c.in-Some.end.top in
    let f = c.in-Some.ensures in
    let e = c.own_next.ensures in
    let r = c.own_next.result in
    let limit = c.requires.over.0 in
    let over = c.requires.over.1 in
    let here = c.below_top-here.ensures in
    let lt = c.requires.past in
    let within = c.requires.over.2.end in
    let low = over.low in
    let all = g.met.B.Blocks.keeps_all on mid f.keeps in
    let more = g.met.B.Blocks.keeps_all mid end e.keeps in
    let levels : t.depth ≡ depth_for z =
    sym (c.least_depth.ensures.only (depth_for z) (subst (λ n. IsDepth n (depth_for z)) (sym c.end_of.ensures) (least_for z (omega (arith, within, low)))) ∙ c.if-least_depth-tree.true) in
    let owned_two = subst (λ (x : Tree). (generation limit : ℕ) → Owned (form_of x generation limit) x.size i r.at m u (leaves_of m x kept limit) (leaves_of u (with_top (sized x z) r.top) kept limit)) here e.owned in
    let changes_two = subst (λ (x : Tree). Changes x.tag (HasBlock m x) (λ b. HasBlock m x b × ((m.label b).kind ≡ kind_at x.dir 0 → ⊥)) m u) here e.changes in
    let top_two = subst (λ (x : Tree). IsTopOf m u x r.top) here e.top in
    let grows_two = subst (λ (x : Tree). (limit : ℕ) → Grows m u (leaves_of m x kept limit) (leaves_of u (with_top (sized x z) r.top) kept limit)) here e.grows in
    let over_two = subst (λ (x : Tree). (limit : ℕ) → z ≤ limit → Over m x kept limit → Over u (with_top (sized x z) r.top) kept limit) here e.over in
    let stays_two = subst (λ (x : Tree). m.tells → (b : ℕ) → HasBlock m x b → (m.label b).epoch ≡ m.high → HasBlock u (with_top (sized x z) r.top) b) here e.stays in
    let bytes_two = subst (λ (x : Tree). m.tells → IsPlainTree x ⊎ (x.size % 8192 ≡ 0) → (l : ℕ) → (leaves_of u (with_top (sized x z) r.top) kept l).bytes ≡ resized ((leaves_of m x kept l).bytes) z) here e.bytes in
    let descends_two = subst (λ (x : Tree). Descends (sized x z) (OnWay m (sized x z) x.depth i) 0 m u) here e.descends in
    let used = (subst (λ (x : Tree). IsTopCurrent m x → m.spare ≤ u.spare + x.depth) here e.less) f.top.1 in
    let dirties_two : Dirties (2 * (t.depth + 1)) (λ b. b ≡ r.at) m u = subst (λ (x : Tree). Dirties (2 * (x.depth + 1)) (λ b. b ≡ r.at) m u) here e.dirties in
    let steps = f.step.1 in
    let past = most_past t.size i c.requires.past in
    let twice : Twice s m u t (with_top (sized t z) r.top) kept ctop r.top = record {
      all = all;
      labels = λ b not. (steps.steps.others b not).label;
      more = λ b not. (changes_two.others b not).label;
      current = λ b made. (steps.steps.made b made).labelled.0;
      top_one = f.top.0;
      top_two = top_two;
      apart = λ same h. (descends_two.apart r.top (λ made. made.0 (subst (λ y. (m.label y).state ≡ Live) same f.top.0.live))).1 h;
      grows_one = f.grows;
      grows_two = grows_two;
      stays = stays_two;
    } in
    subst (λ (x : Tree). OwnsZeroed s u t x kept i r.top r.at) (leaf_next t i r.top c.requires.past levels) (record {
      owned = λ generation l. owned_end {s = s} {m = m} {u = u} {t = t} {new = with_top (sized t z) r.top} {kept = kept} {limit = limit} {top = ctop} {at = c.in-Some.end.at} {i = i} {end = r.at} (record {
        all = all;
        plain = f.step.0.plain;
        some = f.step.0.within;
        there = f.step.2;
        owned = (f.cleared 0 limit over).1;
        labels = λ b not. (steps.steps.others b not).label;
      }) (record { owned = owned_two 0 limit; changes = changes_two }) c.requires.past generation l;
      bytes = λ told ends l. bytes_two (all.still_tells.1 told) (ends_past t.size z c.requires.past ends) l ∙ ap (λ xs. resized xs z) (f.bytes told l) ∙ ap (λ n. resized ((leaves_of s t kept l).bytes) n) (max_right t.size z (omega (arith, lt)));
      top_of = top_end twice;
      over = λ l within was. over_two l within (f.over l was);
      grows = λ l. grows_end twice l;
      changes = λ generation l. changes_next {s = s} {m = m} {u = u} {t = t} {kept = kept} {limit = limit} {top = ctop} {i = i} (record {
        begun = record { over = over; plain = f.step.0.plain; some = f.step.0.within; past = c.requires.past; clear = c.requires.clear; step = steps };
        mid = f.over limit over;
        few = let room = room_for z (omega (arith, within, low)) in let room_here : z ≤ 8192 * 409 ^ t.depth = subst (λ d. z ≤ 8192 * 409 ^ d) (sym levels) room in omega (arith, room_here);
        second = descends_two;
        free = λ told b made. ((over_two limit (omega (arith, within)) (f.over limit over)).told (more.still_tells.1 told) b (((grows_two limit).owns told b).1 made)).uncovered;
        all = g.met.B.Blocks.keeps_all on end (g.met.B.Blocks.keeps_joins on mid end f.keeps e.keeps);
        more = more;
        placed = λ image is. g.met.B.Blocks.placed on image is;
        ranked = λ image is. g.met.B.Blocks.ranked on image is;
        top_stands = λ image is up is_top. ⊎_elim
            (λ first. (super_place, subst (λ y. s.stands y super_place) (sym first) (g.met.B.Blocks.super_stands on (g.met.B.Blocks.told on image is))))
            (λ ne. (root_place, g.met.B.Blocks.top_stands on up (g.met.B.Blocks.told on image is) is_top ne))
            (cases_eq up 1);
        told = λ image is. g.met.B.Blocks.told on image is;
        standing = g.met.B.Blocks.standing on;
      }) generation l;
      most = let first = f.spare in omega (arith, past, levels, first, used);
      dirties = let enough : 2 * (t.depth + 1) + 2 * (t.depth + 1) ≤ 2 * most_to_own t.size i = omega (arith, past, levels) in dirties_most enough (dirties_both f.dirties dirties_two);
      less = λ top. let first = f.less top in omega (arith, past, levels, first, used);
      current = subst (λ (x : Tree). IsTopCurrent u (with_top (sized x z) r.top)) here e.current;
      clear = λ which was. subst (λ (x : Tree). EndsClear u (with_top (sized x z) r.top) kept) here e.clear;
      room = e.room ∙ f.room;
    })

-- a source that has other levels than it needs to end there has fewer
deeper : (size z depth : ℕ) → z ≤ 2 ^ 47 → depth ≡ depth_for size → size < z → depth ≢ depth_for z → depth < depth_for z
deeper size z depth small least lt other = ⊎_elim
    (λ less. less)
    (λ ge. ⊎_elim
    (λ e. absurd (other e))
    (λ ne.
    let room = room_for z small in
    let more = (least_for size (omega (arith, small, lt))).least (depth_for z) (omega (arith, ge, ne, least)) in
    absurd (omega (arith, room, more, lt)))
    (cases_eq depth (depth_for z)))
    (cases_lt depth (depth_for z))

pub own_raised-requires-clause-levels : goal.own_raised-requires-clause-levels
own_raised-requires-clause-levels g c =
    let t = c.args.tree.now in
    let z = 8192 * (c.args.i + 1) in
    let over = c.requires.over.1 in
    let within = c.requires.over.2.end in
    let low = over.low in
    let small : z ≤ 2 ^ 47 = omega (arith, within, low) in
    let same : depth_for z ≡ c.least_depth.result = c.least_depth.ensures.only (depth_for z) (subst (λ n. IsDepth n (depth_for z)) (sym c.end_of.ensures) (least_for z small)) in
    subst (λ (x : Tree). x.depth < depth_for z) (sym c.below_top-here.ensures) (deeper t.size z t.depth small over.least c.requires.past (λ e. c.if-least_depth-tree.false (sym same ∙ sym e)))

pub returns-else-least_depth-tree-clause-owns : goal.returns-else-least_depth-tree-clause-owns
returns-else-least_depth-tree-clause-owns g c =
    let on = c.args.on.now in
    let mid = c.clear_tail-cleared.new.on in
    let end = c.own_raised.new.on in
    let s = g.B.Blocks.state on in
    let m = g.B.Blocks.state mid in
    let u = g.B.Blocks.state end in
    let t = c.args.tree.now in
    let kept = c.args.kept.now in
    let i = c.args.i in
    let z = 8192 * (c.args.i + 1) in
    let d = depth_for (8192 * (c.args.i + 1)) in
    let ctop = c.in-Some.end.top in
    let f = c.in-Some.ensures in
    let e = c.own_raised.ensures in
    let r = c.own_raised.result in
    let limit = c.requires.over.0 in
    let over = c.requires.over.1 in
    let here = c.below_top-here.ensures in
    let lt = c.requires.past in
    let within = c.requires.over.2.end in
    let all = g.met.B.Blocks.keeps_all on mid f.keeps in
    let more = g.met.B.Blocks.keeps_all mid end e.keeps in
    let owned_two = subst (λ (x : Tree). (generation limit : ℕ) → Owned (form_of x generation limit) x.size i r.at m u (leaves_of m x kept limit) (leaves_of u (with_top (shaped x d z) r.top) kept limit)) here e.owned in
    let changes_two = subst (λ (x : Tree). Changes x.tag (λ b. x.top ≡ Local b) none m u) here e.changes in
    let top_two = subst (λ (x : Tree). IsTopOf m u x r.top) here e.top in
    let grows_two = subst (λ (x : Tree). (limit : ℕ) → Grows m u (leaves_of m x kept limit) (leaves_of u (with_top (shaped x d z) r.top) kept limit)) here e.grows in
    let over_two = subst (λ (x : Tree). (limit : ℕ) → z ≤ limit → Over m x kept limit → Over u (with_top (shaped x d z) r.top) kept limit) here e.over in
    let stays_two = subst (λ (x : Tree). m.tells → (b : ℕ) → HasBlock m x b → (m.label b).epoch ≡ m.high → HasBlock u (with_top (shaped x d z) r.top) b) here e.stays in
    let bytes_two = subst (λ (x : Tree). m.tells → IsPlainTree x ⊎ (x.size % 8192 ≡ 0) → (l : ℕ) → (leaves_of u (with_top (shaped x d z) r.top) kept l).bytes ≡ resized ((leaves_of m x kept l).bytes) z) here e.bytes in
    let instead_two = subst (λ (x : Tree). (b y : ℕ) → u.instead b y → m.instead b y ⊎ (Made m u b × InSteadOf m x y)) here e.instead in
    let used = (subst (λ (x : Tree). IsTopCurrent m x → m.spare + x.depth ≤ u.spare + 2 * d) here e.less) f.top.1 in
    let dirties_two : Dirties (2 * (2 * d + 1 - t.depth)) (λ b. b ≡ r.at) m u = (subst (λ (x : Tree). IsTopCurrent m x → Dirties (2 * (2 * d + 1 - x.depth)) (λ b. b ≡ r.at) m u) here e.dirties_less) f.top.1 in
    let low = over.low in
    let small : z ≤ 2 ^ 47 = omega (arith, within, low) in
    let same : depth_for z ≡ c.least_depth.result = c.least_depth.ensures.only (depth_for z) (subst (λ n. IsDepth n (depth_for z)) (sym c.end_of.ensures) (least_for z small)) in
    let deep = deeper t.size z t.depth small over.least c.requires.past (λ e. c.if-least_depth-tree.false (sym same ∙ sym e)) in
    let steps = f.step.1 in
    let past = most_past t.size i c.requires.past in
    let twice : Twice s m u t (with_top (shaped t d z) r.top) kept ctop r.top = record {
      all = all;
      labels = λ b not. (steps.steps.others b not).label;
      more = λ b not. (changes_two.others b not).label;
      current = λ b made. (steps.steps.made b made).labelled.0;
      top_one = f.top.0;
      top_two = top_two;
      apart = λ same h. absurd (e.made.0 (subst (λ y. (m.label y).state ≡ Live) same f.top.0.live));
      grows_one = f.grows;
      grows_two = grows_two;
      stays = stays_two;
    } in
    subst (λ (x : Tree). OwnsZeroed s u t x kept i r.top r.at) (leaf_past t i r.top c.requires.past) (record {
      owned = λ generation l. owned_end {s = s} {m = m} {u = u} {t = t} {new = with_top (shaped t d z) r.top} {kept = kept} {limit = limit} {top = ctop} {at = c.in-Some.end.at} {i = i} {end = r.at} (record {
        all = all;
        plain = f.step.0.plain;
        some = f.step.0.within;
        there = f.step.2;
        owned = (f.cleared 0 limit over).1;
        labels = λ b not. (steps.steps.others b not).label;
      }) (record { owned = owned_two 0 limit; changes = changes_wide changes_two }) c.requires.past generation l;
      bytes = λ told ends l. bytes_two (all.still_tells.1 told) (ends_past t.size z c.requires.past ends) l ∙ ap (λ xs. resized xs z) (f.bytes told l) ∙ ap (λ n. resized ((leaves_of s t kept l).bytes) n) (max_right t.size z (omega (arith, lt)));
      top_of = top_end twice;
      over = λ l within was. over_two l within (f.over l was);
      grows = λ l. grows_end twice l;
      changes = λ generation l. changes_raised {s = s} {m = m} {u = u} {t = t} {top = ctop} (record {
        first = steps_first {limit = limit} {top = ctop} (record { over = over; plain = f.step.0.plain; some = f.step.0.within; past = c.requires.past; clear = c.requires.clear; step = steps }) generation l;
        second = changes_two;
        instead = instead_two;
        tree = e.in_tree;
        covers = e.covers;
        all = all;
        more = more;
        from = f.top.0.from;
        is_apart = f.top.0.apart;
        stead = steps.stead;
        placed = λ image is. g.met.B.Blocks.placed on image is;
        ranked = λ image is. g.met.B.Blocks.ranked on image is;
        top_stands = λ image is up is_top. ⊎_elim
            (λ first. (super_place, subst (λ y. s.stands y super_place) (sym first) (g.met.B.Blocks.super_stands on (g.met.B.Blocks.told on image is))))
            (λ ne. (root_place, g.met.B.Blocks.top_stands on up (g.met.B.Blocks.told on image is) is_top ne))
            (cases_eq up 1);
        told = λ image is. g.met.B.Blocks.told on image is;
        standing = g.met.B.Blocks.standing on;
      });
      most = let first = f.spare in omega (arith, past, first, used);
      dirties = let enough : 2 * (t.depth + 1) + 2 * (2 * d + 1 - t.depth) ≤ 2 * most_to_own t.size i = omega (arith, past, deep) in dirties_most enough (dirties_both f.dirties dirties_two);
      less = λ top. let first = f.less top in omega (arith, past, first, used);
      current = subst (λ (x : Tree). IsTopCurrent u (with_top (shaped x d z) r.top)) here e.current;
      clear = λ which was. subst (λ (x : Tree). EndsClear u (with_top (shaped x d z) r.top) kept) here e.clear;
      room = e.room ∙ f.room;
    })

pub returns-in-None-clause-shown : goal.returns-in-None-clause-shown
returns-in-None-clause-shown g c = shows_joins c.in-None.ensures.shown c.own_leaf.ensures.shown

pub returns-then-least_depth-tree-clause-shown : goal.returns-then-least_depth-tree-clause-shown
returns-then-least_depth-tree-clause-shown g c = shows_joins c.in-Some.ensures.shown c.own_next.ensures.shown

pub returns-else-least_depth-tree-clause-shown : goal.returns-else-least_depth-tree-clause-shown
returns-else-least_depth-tree-clause-shown g c = shows_joins c.in-Some.ensures.shown c.own_raised.ensures.shown

pub returns-in-None-clause-alike : goal.returns-in-None-clause-alike
returns-in-None-clause-alike g c =
    let u = g.B.Blocks.state c.own_leaf.new.on in
    let t = c.args.tree.now in
    subst (λ b. KeepsAlike (g.B.Blocks.state b) u t (with_leaf t c.args.i c.own_leaf.result.top)) c.in-None.ensures.cleared c.own_leaf.ensures.alike

pub returns-then-least_depth-tree-clause-alike : goal.returns-then-least_depth-tree-clause-alike
returns-then-least_depth-tree-clause-alike g c =
    let on = c.args.on.now in
    let mid = c.clear_tail-cleared.new.on in
    let s = g.B.Blocks.state on in
    let m = g.B.Blocks.state mid in
    let u = g.B.Blocks.state c.own_next.new.on in
    let t = c.args.tree.now in
    let i = c.args.i in
    let z = 8192 * (c.args.i + 1) in
    let f = c.in-Some.ensures in
    let e = c.own_next.ensures in
    let r = c.own_next.result in
    let within = c.requires.over.2.end in
    let low = c.requires.over.1.low in
    let levels : t.depth ≡ depth_for z =
    sym (c.least_depth.ensures.only (depth_for z) (subst (λ n. IsDepth n (depth_for z)) (sym c.end_of.ensures) (least_for z (omega (arith, within, low)))) ∙ c.if-least_depth-tree.true) in
    let then = subst (λ (x : Tree). KeepsAlike m u x (with_top (sized x z) r.top)) c.below_top-here.ensures e.alike in
    subst (λ (x : Tree). KeepsAlike s u t x) (leaf_next t i r.top c.requires.past levels) (alike_joins (g.met.B.Blocks.keeps_all on mid f.keeps) f.alike then)

pub returns-else-least_depth-tree-clause-alike : goal.returns-else-least_depth-tree-clause-alike
returns-else-least_depth-tree-clause-alike g c =
    let on = c.args.on.now in
    let mid = c.clear_tail-cleared.new.on in
    let s = g.B.Blocks.state on in
    let m = g.B.Blocks.state mid in
    let u = g.B.Blocks.state c.own_raised.new.on in
    let t = c.args.tree.now in
    let i = c.args.i in
    let z = 8192 * (c.args.i + 1) in
    let d = depth_for (8192 * (c.args.i + 1)) in
    let f = c.in-Some.ensures in
    let e = c.own_raised.ensures in
    let r = c.own_raised.result in
    let then = subst (λ (x : Tree). KeepsAlike m u x (with_top (shaped x d z) r.top)) c.below_top-here.ensures e.alike in
    subst (λ (x : Tree). KeepsAlike s u t x) (leaf_past t i r.top c.requires.past) (alike_joins (g.met.B.Blocks.keeps_all on mid f.keeps) f.alike then)
