use Rattle.std.proofs.Common.{◌≡◌, ◌⊎◌, ◌+◌, ◌-◌, ◌*◌, ◌/◌, ◌<◌, ◌≤◌, ℕ, inl, inr, ⊎_elim, sym, subst, arith}
use Rattle.std.proofs.lemmas.Bool.{cases_eq}
use Rattle.fo_crash.specs.Places.{super_place, root_place}
use Rattle.fo_ports.specs.State.{none}
use Rattle.fo_ports.specs.Sources.{Dirties, depth_for}
use Rattle.fo_tree_read.specs.declared.tree.Tree.{Tree}
use Rattle.fo_tree_look.specs.Source.{HasBlock, Over, IsPlainTree, IsTopCurrent}
use Rattle.fo_tree_clear.specs.of_tree_down.Way.{with_top}
use Rattle.fo_tree_clear.specs.of_tree_down.Clear.{EndsClear}
use Rattle.fo_tree_clear.proofs.of_tree_down.Dirtying.{dirties_both, dirties_most}
use Rattle.fo_tree_clear.proofs.of_tree_down.Beside.{on_way_block}
use Rattle.fo_tree_clear.specs.Put.{byte_here}
use Rattle.fo_tree_clear.proofs.Stepping.{steps_none}
use Rattle.fo_tree_clear.proofs.of_tree_own.Showing.{shows_joins}
use Rattle.fo_tree_append.specs.Append.{ended, OnEnd}
use Rattle.fo_tree_append.specs.Grown.{RaisedTo}
use Rattle.fo_tree_append.proofs.Rising.{OfThenAdds, ThenAdds, rises, steps_wider, top_since}
use Rattle.fo_tree_append.proofs.Seeing.{Zeroed, depth_more, grown_none, grown_more}
use Rattle.fo_tree_append.proofs.grow.grow_to.Goals as goal

pub clear_tail-cleared-requires-clause-over : goal.clear_tail-cleared-requires-clause-over
clear_tail-cleared-requires-clause-over g c = (c.requires.over.0, c.requires.over.1)

pub clear_tail-cleared-requires-clause-ready : goal.clear_tail-cleared-requires-clause-ready
clear_tail-cleared-requires-clause-ready g c = c.requires.clear.way

pub clear_tail-cleared-requires-clause-spare : goal.clear_tail-cleared-requires-clause-spare
clear_tail-cleared-requires-clause-spare g c =
    let end = c.requires.over.2 in
    let low = c.requires.over.1.low in
    let least = c.requires.over.1.least in
    let more = depth_more c.args.tree.now.size c.args.size (omega (arith, end, low)) c.requires.past in
    let enough = c.requires.spare in
    inr (omega (arith, least, more, enough))

-- ---- there was no such leaf

pub raise_to-requires-clause-over : goal.raise_to-requires-clause-over
raise_to-requires-clause-over g c = subst (λ b. (limit : ℕ) × Over (g.B.Blocks.state b) c.args.tree.now c.args.kept.now limit × (c.args.size ≤ limit)) (sym c.in-None.ensures.cleared) c.requires.over

pub raise_to-requires-clause-clear : goal.raise_to-requires-clause-clear
raise_to-requires-clause-clear g c = subst (λ b. EndsClear (g.B.Blocks.state b) c.args.tree.now c.args.kept.now) (sym c.in-None.ensures.cleared) c.requires.clear

pub raise_to-requires-clause-spare : goal.raise_to-requires-clause-spare
raise_to-requires-clause-spare g c =
    let enough = c.requires.spare in
    let here : depth_for c.args.size < (g.B.Blocks.state c.clear_tail-cleared.new.on).spare = subst (λ b. depth_for c.args.size < (g.B.Blocks.state b).spare) (sym c.in-None.ensures.cleared) enough in
    inr (omega (arith, here))

pub returns-in-None-clause-grown : goal.returns-in-None-clause-grown
returns-in-None-clause-grown g c =
    let on = c.args.on.now in
    let end = c.raise_to.new.on in
    let s = g.B.Blocks.state on in
    let u = g.B.Blocks.state end in
    let t = c.args.tree.now in
    let kept = c.args.kept.now in
    let same = c.in-None.ensures.cleared in
    let raised : RaisedTo s u t c.raise_to.result kept = subst (λ b. RaisedTo (g.B.Blocks.state b) u t c.raise_to.result kept) same c.raise_to.ensures.raised in
    let keeps = subst (λ b. g.B.Blocks.keeps b end) same c.raise_to.ensures.keeps in
    let all = g.met.B.Blocks.keeps_all on end keeps in
    let then : ThenAdds s s u t t = record {
      first = steps_none t.tag (HasBlock s t) (HasBlock s t) s (g.met.B.Blocks.keeps_all on on (g.met.B.Blocks.keeps_at_once on));
      second = raised.adds;
      stead = raised.stead;
      from = λ b e. inr e;
      more = all;
      all = all;
      placed = λ image is. g.met.B.Blocks.placed on image is;
      ranked = λ image is. g.met.B.Blocks.ranked on image is;
      top_stands = λ image is up is_top. ⊎_elim
          (λ first. (super_place, subst (λ y. s.stands y super_place) (sym first) (g.met.B.Blocks.super_stands on (g.met.B.Blocks.told on image is))))
          (λ ne. (root_place, g.met.B.Blocks.top_stands on up (g.met.B.Blocks.told on image is) is_top ne))
          (cases_eq up 1);
      told = λ image is. g.met.B.Blocks.told on image is;
      standing = g.met.B.Blocks.standing on;
    } in
    grown_none raised
    (λ told k past. (subst (λ b. (k : ℕ) → t.size ≤ k → byte_here (g.B.Blocks.state b) t kept k ≡ 0) same (c.in-None.ensures.zeros c.requires.plain)) k past)
    (rises then)

pub returns-in-None-clause-by_end : goal.returns-in-None-clause-by_end
returns-in-None-clause-by_end g c =
    let on = c.args.on.now in
    let end = c.raise_to.new.on in
    let s = g.B.Blocks.state on in
    let u = g.B.Blocks.state end in
    let t = c.args.tree.now in
    let kept = c.args.kept.now in
    let same = c.in-None.ensures.cleared in
    let raised : RaisedTo s u t c.raise_to.result kept = subst (λ b. RaisedTo (g.B.Blocks.state b) u t c.raise_to.result kept) same c.raise_to.ensures.raised in
    let all = g.met.B.Blocks.keeps_all on end (subst (λ b. g.B.Blocks.keeps b end) same c.raise_to.ensures.keeps) in
    let then : OfThenAdds s s u t t (OnEnd s t) = record {
      first = steps_none t.tag (HasBlock s t) (OnEnd s t) s (g.met.B.Blocks.keeps_all on on (g.met.B.Blocks.keeps_at_once on));
      second = raised.adds;
      stead = raised.stead;
      from = λ b e. inr e;
      more = all;
      all = all;
      placed = λ image is. g.met.B.Blocks.placed on image is;
      ranked = λ image is. g.met.B.Blocks.ranked on image is;
      top_stands = λ image is up is_top. ⊎_elim
          (λ first. (super_place, subst (λ y. s.stands y super_place) (sym first) (g.met.B.Blocks.super_stands on (g.met.B.Blocks.told on image is))))
          (λ ne. (root_place, g.met.B.Blocks.top_stands on up (g.met.B.Blocks.told on image is) is_top ne))
          (cases_eq up 1);
      told = λ image is. g.met.B.Blocks.told on image is;
      standing = g.met.B.Blocks.standing on;
    } in
    rises then

-- ---- it was zeroed

pub raise_to-requires-in-Some-clause-over : goal.raise_to-requires-in-Some-clause-over
raise_to-requires-in-Some-clause-over g c =
    let m = g.B.Blocks.state c.clear_tail-cleared.new.on in
    let limit = c.requires.over.0 in
    subst (λ (x : Tree). (limit : ℕ) × Over m x c.args.kept.now limit × (c.args.size ≤ limit)) (sym c.below_top-here.ensures) (limit, c.in-Some.ensures.over limit c.requires.over.1, c.requires.over.2)

pub raise_to-requires-in-Some-clause-plain : goal.raise_to-requires-in-Some-clause-plain
raise_to-requires-in-Some-clause-plain g c = subst (λ (x : Tree). IsPlainTree x) (sym c.below_top-here.ensures) c.requires.plain

pub raise_to-requires-in-Some-clause-past : goal.raise_to-requires-in-Some-clause-past
raise_to-requires-in-Some-clause-past g c = subst (λ (x : Tree). x.size < c.args.size) (sym c.below_top-here.ensures) c.requires.past

pub raise_to-requires-in-Some-clause-clear : goal.raise_to-requires-in-Some-clause-clear
raise_to-requires-in-Some-clause-clear g c = subst (λ (x : Tree). EndsClear (g.B.Blocks.state c.clear_tail-cleared.new.on) x c.args.kept.now) (sym c.below_top-here.ensures) (c.in-Some.ensures.clear c.requires.clear)

pub raise_to-requires-in-Some-clause-spare : goal.raise_to-requires-in-Some-clause-spare
raise_to-requires-in-Some-clause-spare g c =
    let m = g.B.Blocks.state c.clear_tail-cleared.new.on in
    let taken = c.in-Some.ensures.spare in
    let enough = c.requires.spare in
    subst (λ (x : Tree). (IsTopCurrent m x × (depth_for c.args.size ≤ m.spare + x.depth)) ⊎ (depth_for c.args.size < m.spare + x.depth)) (sym c.below_top-here.ensures)
    (inl (c.in-Some.ensures.top.1, omega (arith, taken, enough)))

pub returns-in-Some-clause-is : goal.returns-in-Some-clause-is
returns-in-Some-clause-is g c = subst (λ (x : Tree). c.raise_to-in-Some.result ≡ ended x c.args.size c.raise_to-in-Some.result.top) c.below_top-here.ensures c.raise_to-in-Some.ensures.is

pub returns-in-Some-clause-keeps : goal.returns-in-Some-clause-keeps
returns-in-Some-clause-keeps g c = g.met.B.Blocks.keeps_joins c.args.on.now c.clear_tail-cleared.new.on c.raise_to-in-Some.new.on c.in-Some.ensures.keeps c.raise_to-in-Some.ensures.keeps

pub returns-in-Some-clause-grown : goal.returns-in-Some-clause-grown
returns-in-Some-clause-grown g c =
    let on = c.args.on.now in
    let mid = c.clear_tail-cleared.new.on in
    let end = c.raise_to-in-Some.new.on in
    let s = g.B.Blocks.state on in
    let m = g.B.Blocks.state mid in
    let u = g.B.Blocks.state end in
    let t = c.args.tree.now in
    let kept = c.args.kept.now in
    let top = c.in-Some.end.top in
    let f = c.in-Some.ensures in
    let raised : RaisedTo m u (with_top t top) c.raise_to-in-Some.result kept = subst (λ (x : Tree). RaisedTo m u x c.raise_to-in-Some.result kept) c.below_top-here.ensures c.raise_to-in-Some.ensures.raised in
    let keeps = g.met.B.Blocks.keeps_joins on mid end f.keeps c.raise_to-in-Some.ensures.keeps in
    let step = f.step.1 in
    let then : ThenAdds s m u t (with_top t top) = record {
      first = steps_wider (λ b way. on_way_block s t t.depth (t.size / 8192) b (omega arith) way) (λ b way. on_way_block s t t.depth (t.size / 8192) b (omega arith) way) step.steps;
      second = raised.adds;
      stead = raised.stead;
      from = top_since f.top.0 (λ y made h. step.stead y made h);
      more = g.met.B.Blocks.keeps_all mid end c.raise_to-in-Some.ensures.keeps;
      all = g.met.B.Blocks.keeps_all on end keeps;
      placed = λ image is. g.met.B.Blocks.placed on image is;
      ranked = λ image is. g.met.B.Blocks.ranked on image is;
      top_stands = λ image is up is_top. ⊎_elim
          (λ first. (super_place, subst (λ y. s.stands y super_place) (sym first) (g.met.B.Blocks.super_stands on (g.met.B.Blocks.told on image is))))
          (λ ne. (root_place, g.met.B.Blocks.top_stands on up (g.met.B.Blocks.told on image is) is_top ne))
          (cases_eq up 1);
      told = λ image is. g.met.B.Blocks.told on image is;
      standing = g.met.B.Blocks.standing on;
    } in
    let zeroed : Zeroed s m t kept top = record {
      all = g.met.B.Blocks.keeps_all on mid f.keeps;
      step = step;
      top_of = f.top.0;
      current = f.top.1;
      over = f.over;
      clear = f.clear c.requires.clear;
      grows = f.grows;
      bytes = f.bytes;
      zeros = f.zeros c.requires.plain;
      spare = f.spare;
      told = c.requires.over.1.told;
    } in
    grown_more zeroed raised (rises then)

pub returns-in-Some-clause-by_end : goal.returns-in-Some-clause-by_end
returns-in-Some-clause-by_end g c =
    let on = c.args.on.now in
    let mid = c.clear_tail-cleared.new.on in
    let end = c.raise_to-in-Some.new.on in
    let s = g.B.Blocks.state on in
    let m = g.B.Blocks.state mid in
    let u = g.B.Blocks.state end in
    let t = c.args.tree.now in
    let kept = c.args.kept.now in
    let f = c.in-Some.ensures in
    let top = c.in-Some.end.top in
    let raised : RaisedTo m u (with_top t top) c.raise_to-in-Some.result kept = subst (λ (x : Tree). RaisedTo m u x c.raise_to-in-Some.result kept) c.below_top-here.ensures c.raise_to-in-Some.ensures.raised in
    let step = f.step.1 in
    let then : OfThenAdds s m u t (with_top t top) (OnEnd s t) = record {
      first = steps_wider (λ b way. on_way_block s t t.depth (t.size / 8192) b (omega arith) way) (λ b way. record { within = f.step.0.within; on = way }) step.steps;
      second = raised.adds;
      stead = raised.stead;
      from = top_since f.top.0 (λ y made h. step.stead y made h);
      more = g.met.B.Blocks.keeps_all mid end c.raise_to-in-Some.ensures.keeps;
      all = g.met.B.Blocks.keeps_all on end (g.met.B.Blocks.keeps_joins on mid end f.keeps c.raise_to-in-Some.ensures.keeps);
      placed = λ image is. g.met.B.Blocks.placed on image is;
      ranked = λ image is. g.met.B.Blocks.ranked on image is;
      top_stands = λ image is up is_top. ⊎_elim
          (λ first. (super_place, subst (λ y. s.stands y super_place) (sym first) (g.met.B.Blocks.super_stands on (g.met.B.Blocks.told on image is))))
          (λ ne. (root_place, g.met.B.Blocks.top_stands on up (g.met.B.Blocks.told on image is) is_top ne))
          (cases_eq up 1);
      told = λ image is. g.met.B.Blocks.told on image is;
      standing = g.met.B.Blocks.standing on;
    } in
    rises then

pub returns-in-None-clause-dirties : goal.returns-in-None-clause-dirties
returns-in-None-clause-dirties g c =
    let u = g.B.Blocks.state c.raise_to.new.on in
    let n = depth_for c.args.size - c.args.tree.now.depth + 1 in
    dirties_most (omega arith) (subst (λ b. Dirties (2 * n) none (g.B.Blocks.state b) u) c.in-None.ensures.cleared c.raise_to.ensures.dirties)

pub returns-in-Some-clause-dirties : goal.returns-in-Some-clause-dirties
returns-in-Some-clause-dirties g c =
    let m = g.B.Blocks.state c.clear_tail-cleared.new.on in
    let u = g.B.Blocks.state c.raise_to-in-Some.new.on in
    let t = c.args.tree.now in
    let f = c.in-Some.ensures in
    let end = c.requires.over.2 in
    let low = c.requires.over.1.low in
    let least = c.requires.over.1.least in
    let more = depth_more c.args.tree.now.size c.args.size (omega (arith, end, low)) c.requires.past in
    let levels = subst (λ (x : Tree). IsTopCurrent m x → Dirties (2 * (depth_for c.args.size - x.depth)) none m u) c.below_top-here.ensures c.raise_to-in-Some.ensures.levels in
    dirties_most (omega (arith, least, more)) (dirties_both f.dirties (levels f.top.1))

pub returns-in-None-clause-shown : goal.returns-in-None-clause-shown
returns-in-None-clause-shown g c = shows_joins c.in-None.ensures.shown c.raise_to.ensures.shown

pub returns-in-Some-clause-shown : goal.returns-in-Some-clause-shown
returns-in-Some-clause-shown g c = shows_joins c.in-Some.ensures.shown c.raise_to-in-Some.ensures.shown
