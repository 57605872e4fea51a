use Rattle.std.proofs.Common.{◌≡◌, ◌+◌, ◌-◌, ◌*◌, ◌<◌, ◌≤◌, ◌^◌, inl, inr, ⊎_elim, sym, ap, ◌∙◌, subst, arith}
use Rattle.fo_image.specs.declared.types.Pointer.{Pointer}
use Rattle.fo_image.specs.declared.types.Pointer.TheVariants.{Local}
use Rattle.fo_ports.specs.Sources.{Made, ComesFor}
use Rattle.fo_tree_read.specs.declared.tree.Tree.{Tree}
use Rattle.fo_tree_look.specs.Source.{HasBlock}
use Rattle.fo_tree_grow.specs.of_tree_own.Step.{Becomes}
use Rattle.fo_tree_grow.specs.of_tree_down.Way.{with_top}
use Rattle.fo_tree_grow.proofs.of_tree_down.Dirtying.{dirties_both, dirties_most}
use Rattle.fo_tree_grow.specs.of_tree_raise.Raise.{CanRaise}
use Rattle.fo_tree_grow.proofs.of_tree_raise.Bearing.{bears}
use Rattle.fo_tree_lift.proofs.Join.{Follows, adds_join, made_first, made_second, made_either}
use Rattle.fo_tree_lift.proofs.Lifting.{Copied, Raised, new_top, copied_back, copied_on, copied_top, leaf_copied, new_copied, ways_copied, instead_copied}
use Rattle.fo_tree_grow.proofs.of_tree_own.Showing.{shows_joins}
use Rattle.fo_tree_grow.specs.of_tree_raise.Levels.{grown}
use Rattle.fo_tree_grow.specs.of_tree_down.Alike.{KeepsAlike}
use Rattle.fo_tree_grow.proofs.of_tree_down.Alikes.{alike_joins}
use Rattle.fo_tree_lift.proofs.levels.lift_copy.Goals as goal

pub copy_top-copy-requires-clause-spare : goal.copy_top-copy-requires-clause-spare
copy_top-copy-requires-clause-spare g c = let enough = c.requires.spare in omega (arith, enough)

pub raise_levels-requires-clause-top : goal.raise_levels-requires-clause-top
raise_levels-requires-clause-top g c = subst (λ (x : Tree). CanRaise (g.B.Blocks.state c.copy_top-copy.new.on) x) (sym c.below_copy-below.ensures) c.copy_top-copy.ensures.under

pub raise_levels-requires-clause-level : goal.raise_levels-requires-clause-level
raise_levels-requires-clause-level g c = subst (λ (x : Tree). x.depth + c.args.levels ≤ 4) (sym c.below_copy-below.ensures) c.requires.level

pub raise_levels-requires-clause-low : goal.raise_levels-requires-clause-low
raise_levels-requires-clause-low g c = subst (λ (x : Tree). x.rank < 2 ^ 31) (sym c.below_copy-below.ensures) c.requires.over.1.hangs.low

pub raise_levels-requires-clause-spare : goal.raise_levels-requires-clause-spare
raise_levels-requires-clause-spare g c = let enough = c.requires.spare in let used = c.copy_top-copy.ensures.spare in omega (arith, enough, used)

pub returns-clause-lifts : goal.returns-clause-lifts
returns-clause-lifts g c =
    let on = c.args.on.now in
    let mid = c.copy_top-copy.new.on in
    let end = c.raise_levels.new.on in
    let s = g.B.Blocks.state on in
    let b = g.B.Blocks.state mid in
    let m = g.B.Blocks.state end in
    let t = c.args.tree.now in
    let kept = c.args.kept.now in
    let levels = c.args.levels in
    let copy = c.copy_top-copy.result in
    let top = c.raise_levels.result in
    let e = c.copy_top-copy.ensures in
    let f = c.raise_levels.ensures in
    let over = c.requires.over.1 in
    let some = c.requires.some.0 in
    let first : Copied s b t c.args.at copy = record {
      all = g.met.B.Blocks.keeps_all on mid e.keeps;
      is = c.requires.is;
      older = c.requires.older;
      long = c.requires.ready.long;
      made = e.made.0;
      given = e.given;
      adds = e.adds;
      content = subst (λ (p : Pointer). Becomes s b t kept (t.depth - 0) p copy) c.requires.is e.comes.content;
      live = λ told y has. (over.told told y has).live;
    } in
    let last : Raised b m (with_top t copy) kept levels top = subst (λ (x : Tree). Raised b m x kept levels top) c.below_copy-below.ensures (record {
      top_of = f.top;
      adds = f.adds;
      instead = f.instead;
      bears = f.bears kept;
      leaves = λ told. f.leaves told kept;
      owns = λ told. f.owns told kept;
      still = f.still kept;
      clear = f.clear kept;
      ways = f.ways kept;
    }) in
    let follows : Follows t (λ y. t.top ≡ Local y) copy s b m = record {
      first = e.adds;
      second = last.adds;
      made = e.made.0;
      is_apart = e.made.1;
      instead = last.instead;
      all = first.all;
      more = g.met.B.Blocks.keeps_all mid end f.keeps;
    } in
    let new = new_top c.requires.some.1 last.top_of in
    let below = bears (e.over c.requires.over.0 over) in
    record {
      adds = adds_join follows;
      new = new_copied first follows new;
      instead = instead_copied first follows;
      comes = λ told from h. f.comes (first.all.still_tells.1 told) from (subst (λ (x : Tree). ComesFor b x.top from) (sym c.below_copy-below.ensures) (e.top.comes told from h));
      only = λ told y z h. ⊎_elim
          (λ new. inl new)
          (λ old. ⊎_elim
          (λ own. absurd (old.1 (ap (λ (x : Tree). x.top) c.below_copy-below.ensures ∙ ap (λ w. Local w) (sym own))))
          (λ was. inr was)
          (e.top.only told y z old.0))
          (f.only (first.all.still_tells.1 told) y z h);
      bears = last.bears some below;
      still = λ limit o n was. last.still limit o n over.hangs.room (e.still limit o n was);
      clear = last.clear some over.hangs.room (e.clear c.requires.clear);
      ways = ways_copied first follows new kept levels e.ways last.ways;
      owns = λ told y.
          let both = last.owns (first.all.still_tells.1 told) some below y in (
            λ has. ⊎_elim
                (λ old. ⊎_elim (λ was. inl was) (λ own. inr (subst (λ z. Made s m z) (sym own) (made_first follows copy e.made.0))) (copied_back first told y old))
                (λ made. inr (made_second follows y made))
                (both.0 has),
            λ made. both.1 (⊎_elim
                (λ old. inr (subst (λ z. HasBlock b (with_top t copy) z) (sym (e.given y old)) (copied_top b t copy)))
                (λ more. inl more)
                (made_either follows y made)),
          );
      stays = λ told y has current. (last.owns (first.all.still_tells.1 told) some below y).1 (inr (copied_on first told y has current));
      leaves = λ told k few. leaf_copied first follows new levels told k (last.leaves (first.all.still_tells.1 told) some below k few);
    }

pub returns-clause-dirties : goal.returns-clause-dirties
returns-clause-dirties g c =
    let enough : 2 + 2 * c.args.levels ≤ 2 * (c.args.levels + 1) = omega arith in
    dirties_most enough (dirties_both c.copy_top-copy.ensures.dirties c.raise_levels.ensures.dirties)

pub returns-clause-shown : goal.returns-clause-shown
returns-clause-shown g c = shows_joins c.copy_top-copy.ensures.shown c.raise_levels.ensures.shown

pub returns-clause-alike : goal.returns-clause-alike
returns-clause-alike g c =
    let mid = c.copy_top-copy.new.on in
    let b = g.B.Blocks.state mid in
    let m = g.B.Blocks.state c.raise_levels.new.on in
    let then = subst (λ (x : Tree). KeepsAlike b m x (grown x c.args.levels c.raise_levels.result)) c.below_copy-below.ensures c.raise_levels.ensures.alike in
    alike_joins (g.met.B.Blocks.keeps_all c.args.on.now mid c.copy_top-copy.ensures.keeps) c.copy_top-copy.ensures.alike then
