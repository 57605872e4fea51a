use Rattle.std.proofs.Common.{◌≡◌, ◌+◌, ◌-◌, ◌*◌, ◌/◌, ◌<◌, Bool, true, false, inl, inr, ⊎_elim, sym, ap, ◌∙◌, subst, arith}
use Rattle.std.proofs.lemmas.Bool.{cases_eq}
use Rattle.fo_image.specs.declared.types.Kind.TheVariants.{Data}
use Rattle.fo_ports.specs.State.{none}
use Rattle.fo_ports.specs.Sources.{Dirties, depth_for}
use Rattle.fo_tree_read.specs.declared.tree.Tree.{Tree}
use Rattle.fo_tree_read.specs.Tree.{kind_at}
use Rattle.fo_tree_append.proofs.of_tree_grow.Empty.{least_for, few_for}
use Rattle.fo_tree_append.proofs.of_tree_lift.Lifting.{top_ready}
use Rattle.fo_tree_down.proofs.Dirtying.{dirties_same}
use Rattle.fo_tree_trim.proofs.of_tree_own.Showing.{nothing_shows}
use Rattle.fo_tree_append.specs.Append.{ended}
use Rattle.fo_tree_append.specs.Grown.{RaisedTo}
use Rattle.fo_tree_append.proofs.Seeing.{depth_more, raised_none, raised_more}
use Rattle.fo_tree_set.proofs.raise.raise_to.Given as given
use Rattle.fo_tree_set.proofs.raise.raise_to.Goals as goal

plain_dir : (dir : Bool) → kind_at dir 0 ≡ Data 0 → dir ≡ true → ⊥
plain_dir true is e = cc
plain_dir false is e = cc

pub with_end-requires : goal.with_end-requires
with_end-requires g c = let end = c.requires.over.2 in let low = c.requires.over.1.low in omega (arith, end, low)

pub with_end-requires-2 : goal.with_end-requires-2
with_end-requires-2 g c = let end = c.requires.over.2 in let low = c.requires.over.1.low in omega (arith, end, low)

pub returns-then-has_room-clause-is : goal.returns-then-has_room-clause-is
returns-then-has_room-clause-is g c = c.with_end.ensures ∙ ap (λ (x : Tree). ended c.args.tree.now c.args.size x.top) (sym c.with_end.ensures)

pub returns-then-has_room-clause-raised : goal.returns-then-has_room-clause-raised
returns-then-has_room-clause-raised g c =
    let s = g.B.Blocks.state c.args.on.now in
    let t = c.args.tree.now in
    let kept = c.args.kept.now in
    let end = c.requires.over.2 in
    let low = c.requires.over.1.low in
    let same = sym (c.least_depth-depth.ensures.only (depth_for c.args.size) (least_for c.args.size (omega (arith, end, low)))) in
    let which = c.has_room.ensures.yes c.if-has_room.true in
    subst (λ (x : Tree). RaisedTo s s t x kept) (sym c.with_end.ensures)
    (raised_none s t kept c.args.size c.requires.over.0 c.requires.over.1 end c.requires.past (⊎_elim (λ levels. inl (levels ∙ same)) (λ empty. inr empty) which) c.requires.clear)

-- ---- levels are put

levels_at : (g : given.Over) (c : goal.After-lift-arg-1 g) → (c.least_depth-depth.result ≡ depth_for c.args.size) × (c.args.tree.now.depth < c.least_depth-depth.result)
levels_at g c =
    let end = c.requires.over.2 in
    let low = c.requires.over.1.low in
    let least = c.requires.over.1.least in
    let same = sym (c.least_depth-depth.ensures.only (depth_for c.args.size) (least_for c.args.size (omega (arith, end, low)))) in
    let more = depth_more c.args.tree.now.size c.args.size (omega (arith, end, low)) c.requires.past in
    let not = (c.has_room.ensures.not c.if-has_room.false).0 in
    (same, omega (arith, same, least, more, not))

begun : (g : given.Over) (c : goal.After-lift-arg-1 g) → 0 < c.args.tree.now.size
begun g c = ⊎_elim
    (λ none. absurd ((c.has_room.ensures.not c.if-has_room.false).1 (c.requires.over.1.empty none)))
    (λ some. omega (arith, some))
    (cases_eq c.args.tree.now.size 0)

pub overflow_sub-depth : goal.overflow_sub-depth
overflow_sub-depth g c =
    let end = c.requires.over.2 in
    let low = c.requires.over.1.low in
    let least = c.requires.over.1.least in
    let same = sym (c.least_depth-depth.ensures.only (depth_for c.args.size) (least_for c.args.size (omega (arith, end, low)))) in
    let more = depth_more c.args.tree.now.size c.args.size (omega (arith, end, low)) c.requires.past in
    let not = (c.has_room.ensures.not c.if-has_room.false).0 in
    omega (arith, same, least, more, not)

pub lift-top-requires-clause-over : goal.lift-top-requires-clause-over
lift-top-requires-clause-over g c = (c.requires.over.0, c.requires.over.1)

pub lift-top-requires-clause-some : goal.lift-top-requires-clause-some
lift-top-requires-clause-some g c = let levels = levels_at g c in let lt = levels.1 in (begun g c, omega (arith, lt))

pub lift-top-requires-clause-level : goal.lift-top-requires-clause-level
lift-top-requires-clause-level g c =
    let levels = levels_at g c in
    let same = levels.0 in
    let lt = levels.1 in
    let few = few_for c.args.size in
    omega (arith, same, lt, few)

pub lift-top-requires-clause-ready : goal.lift-top-requires-clause-ready
lift-top-requires-clause-ready g c =
    let t = c.args.tree.now in
    top_ready (g.B.Blocks.state c.args.on.now) t c.args.kept.now t.depth ((t.size - 1) / 8192) (c.requires.clear.way (begun g c))

pub lift-top-requires-clause-linked : goal.lift-top-requires-clause-linked
lift-top-requires-clause-linked g c = λ told dir. absurd (plain_dir c.args.tree.now.dir c.requires.plain.0 dir)

pub lift-top-requires-clause-spare : goal.lift-top-requires-clause-spare
lift-top-requires-clause-spare g c =
    let levels = levels_at g c in
    let same = levels.0 in
    let lt = levels.1 in
    ⊎_elim
    (λ top. let enough = top.1 in inl (top.0, omega (arith, same, lt, enough)))
    (λ enough. inr (omega (arith, same, lt, enough)))
    c.requires.spare

pub returns-clause-is : goal.returns-clause-is
returns-clause-is g c = c.with_end-2.ensures ∙ ap (λ (x : Tree). ended c.args.tree.now c.args.size x.top) (sym c.with_end-2.ensures)

pub returns-clause-raised : goal.returns-clause-raised
returns-clause-raised g c =
    let s = g.B.Blocks.state c.args.on.now in
    let m = g.B.Blocks.state c.lift-top.new.on in
    let t = c.args.tree.now in
    let kept = c.args.kept.now in
    let end = c.requires.over.2 in
    let low = c.requires.over.1.low in
    let least = c.requires.over.1.least in
    let same = sym (c.least_depth-depth.ensures.only (depth_for c.args.size) (least_for c.args.size (omega (arith, end, low)))) in
    let more = depth_more c.args.tree.now.size c.args.size (omega (arith, end, low)) c.requires.past in
    let not = c.has_room.ensures.not c.if-has_room.false in
    let differs = not.0 in
    subst (λ (x : Tree). RaisedTo s m t x kept) (sym c.with_end-2.ensures)
    (raised_more (record {
      lifts = c.lift-top.ensures.lifts;
      most = c.requires.over.0;
      over = c.requires.over.1;
      end = end;
      past = c.requires.past;
      some = ⊎_elim (λ none. absurd (not.1 (c.requires.over.1.empty none))) (λ some. omega (arith, some)) (cases_eq c.args.tree.now.size 0);
      depth = omega (arith, same, least, more, differs);
      all = g.met.B.Blocks.keeps_all c.args.on.now c.lift-top.new.on c.lift-top.ensures.keeps;
    }) c.lift-top.ensures.spare c.lift-top.ensures.less)

pub returns-then-has_room-clause-dirties : goal.returns-then-has_room-clause-dirties
returns-then-has_room-clause-dirties g c = dirties_same (g.B.Blocks.state c.args.on.now) (2 * (depth_for c.args.size - c.args.tree.now.depth + 1))

pub returns-then-has_room-clause-levels : goal.returns-then-has_room-clause-levels
returns-then-has_room-clause-levels g c = λ top. dirties_same (g.B.Blocks.state c.args.on.now) (2 * (depth_for c.args.size - c.args.tree.now.depth))

pub returns-clause-dirties : goal.returns-clause-dirties
returns-clause-dirties g c =
    let s = g.B.Blocks.state c.args.on.now in
    let m = g.B.Blocks.state c.lift-top.new.on in
    let end = c.requires.over.2 in
    let low = c.requires.over.1.low in
    let same = sym (c.least_depth-depth.ensures.only (depth_for c.args.size) (least_for c.args.size (omega (arith, end, low)))) in
    subst (λ d. Dirties (2 * (d - c.args.tree.now.depth + 1)) none s m) same c.lift-top.ensures.dirties

pub returns-clause-levels : goal.returns-clause-levels
returns-clause-levels g c = λ top.
    let s = g.B.Blocks.state c.args.on.now in
    let m = g.B.Blocks.state c.lift-top.new.on in
    let end = c.requires.over.2 in
    let low = c.requires.over.1.low in
    let same = sym (c.least_depth-depth.ensures.only (depth_for c.args.size) (least_for c.args.size (omega (arith, end, low)))) in
    subst (λ d. Dirties (2 * (d - c.args.tree.now.depth)) none s m) same (c.lift-top.ensures.dirties_less top)

pub returns-then-has_room-clause-shown : goal.returns-then-has_room-clause-shown
returns-then-has_room-clause-shown g c = nothing_shows (record { each = λ image is. is })

pub returns-clause-shown : goal.returns-clause-shown
returns-clause-shown g c = c.lift-top.ensures.shown
