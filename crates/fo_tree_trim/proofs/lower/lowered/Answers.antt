use Rattle.std.proofs.Common.{◌≡◌, ◌-◌, ℕ, sym, ◌∙◌, ap, subst, arith, refl}
use Rattle.fo_image.specs.declared.types.Pointer.{Pointer}
use Rattle.fo_ports.specs.Sources.{depth_for}
use Rattle.fo_tree_read.specs.declared.tree.Tree.{Tree}
use Rattle.fo_tree_read.specs.Tree.{block_at}
use Rattle.fo_tree_look.specs.Source.{WayReady, seen}
use Rattle.fo_tree_trim.specs.Trim.{lower_tree}
use Rattle.fo_tree_trim.proofs.Fronts.{bytes_front}
use Rattle.fo_tree_trim.proofs.Least.{least_for}
use Rattle.fo_tree_trim.proofs.Lowering.{Lowers, end_small, tops_ready, tops_pinned, low_over, low_ready, low_leaves, low_linked}
use Rattle.fo_tree_trim.proofs.lower.lowered.Goals as goal

pub returns-clause-over : goal.returns-clause-over
returns-clause-over g c = λ limit over.
    let on = c.args.on.now in
    let s = g.B.Blocks.state on in
    let t = c.args.tree.now in
    let x : Lowers s t c.args.kept.now c.args.end limit = record {
      over = over;
      some = c.requires.end.0;
      within = c.requires.end.1;
      ready = c.requires.ready;
      linked = c.requires.linked;
      placed = λ told. g.met.B.Blocks.placed on s.now (g.met.B.Blocks.present on told);
      active = (g.met.B.Blocks.active on).0;
      is_block = g.met.B.Blocks.within on;
      spelled = g.met.B.Blocks.spelled on;
      alone = λ told y b h r. g.met.B.Blocks.apart_hangs on s.now 1 y (g.met.B.Blocks.instead_of on y b b told h).0 (g.met.B.Blocks.present on told) (g.met.B.Blocks.active on).0 r;
    } in
    low_over x

pub pointer_here-top-requires-clause-ready : goal.pointer_here-top-requires-clause-ready
pointer_here-top-requires-clause-ready g c =
    let on = c.args.on.now in
    let s = g.B.Blocks.state on in
    let t = c.args.tree.now in
    let kept = c.args.kept.now in
    let end = c.args.end in
    let x : Lowers s t kept end c.requires.over.0 = record {
      over = c.requires.over.1;
      some = c.requires.end.0;
      within = c.requires.end.1;
      ready = c.requires.ready;
      linked = c.requires.linked;
      placed = λ told. g.met.B.Blocks.placed on s.now (g.met.B.Blocks.present on told);
      active = (g.met.B.Blocks.active on).0;
      is_block = g.met.B.Blocks.within on;
      spelled = g.met.B.Blocks.spelled on;
      alone = λ told y b h r. g.met.B.Blocks.apart_hangs on s.now 1 y (g.met.B.Blocks.instead_of on y b b told h).0 (g.met.B.Blocks.present on told) (g.met.B.Blocks.active on).0 r;
    } in
    let depth : depth_for end ≡ c.least_depth-depth.result = c.least_depth-depth.ensures.only (depth_for end) (least_for end (end_small x)) in
    subst (λ n. WayReady s t kept (t.depth - n) 0) depth (tops_ready x (t.depth - depth_for end) (omega arith))

abbrev same_shape : Tree → ℕ → Pointer → ℕ → Tree
same_shape t depth top size = record { dir = t.dir; tag = t.tag; rank = t.rank; depth = depth; size = size; top = top }

pub returns-clause-tree : goal.returns-clause-tree
returns-clause-tree g c =
    let on = c.args.on.now in
    let s = g.B.Blocks.state on in
    let t = c.args.tree.now in
    let kept = c.args.kept.now in
    let end = c.args.end in
    let x : Lowers s t kept end c.requires.over.0 = record {
      over = c.requires.over.1;
      some = c.requires.end.0;
      within = c.requires.end.1;
      ready = c.requires.ready;
      linked = c.requires.linked;
      placed = λ told. g.met.B.Blocks.placed on s.now (g.met.B.Blocks.present on told);
      active = (g.met.B.Blocks.active on).0;
      is_block = g.met.B.Blocks.within on;
      spelled = g.met.B.Blocks.spelled on;
      alone = λ told y b h r. g.met.B.Blocks.apart_hangs on s.now 1 y (g.met.B.Blocks.instead_of on y b b told h).0 (g.met.B.Blocks.present on told) (g.met.B.Blocks.active on).0 r;
    } in
    let depth : depth_for end ≡ c.least_depth-depth.result = c.least_depth-depth.ensures.only (depth_for end) (least_for end (end_small x)) in
    let top : c.pointer_here-top.result ≡ block_at (seen s kept) t (t.depth - depth_for end) 0 = c.pointer_here-top.ensures ∙ ap (λ n. block_at (seen s kept) t (t.depth - n) 0) (sym depth) in
    ap (λ n. same_shape t n c.pointer_here-top.result end) (sym depth) ∙ ap (λ p. same_shape t (depth_for end) p end) top

pub returns-clause-leaves : goal.returns-clause-leaves
returns-clause-leaves g c = λ told i few.
    let on = c.args.on.now in
    let s = g.B.Blocks.state on in
    let t = c.args.tree.now in
    let kept = c.args.kept.now in
    let end = c.args.end in
    let x : Lowers s t kept end c.requires.over.0 = record {
      over = c.requires.over.1;
      some = c.requires.end.0;
      within = c.requires.end.1;
      ready = c.requires.ready;
      linked = c.requires.linked;
      placed = λ told. g.met.B.Blocks.placed on s.now (g.met.B.Blocks.present on told);
      active = (g.met.B.Blocks.active on).0;
      is_block = g.met.B.Blocks.within on;
      spelled = g.met.B.Blocks.spelled on;
      alone = λ told y b h r. g.met.B.Blocks.apart_hangs on s.now 1 y (g.met.B.Blocks.instead_of on y b b told h).0 (g.met.B.Blocks.present on told) (g.met.B.Blocks.active on).0 r;
    } in
    low_leaves x told i few

pub returns-clause-ready : goal.returns-clause-ready
returns-clause-ready g c =
    let on = c.args.on.now in
    let s = g.B.Blocks.state on in
    let t = c.args.tree.now in
    let kept = c.args.kept.now in
    let end = c.args.end in
    let x : Lowers s t kept end c.requires.over.0 = record {
      over = c.requires.over.1;
      some = c.requires.end.0;
      within = c.requires.end.1;
      ready = c.requires.ready;
      linked = c.requires.linked;
      placed = λ told. g.met.B.Blocks.placed on s.now (g.met.B.Blocks.present on told);
      active = (g.met.B.Blocks.active on).0;
      is_block = g.met.B.Blocks.within on;
      spelled = g.met.B.Blocks.spelled on;
      alone = λ told y b h r. g.met.B.Blocks.apart_hangs on s.now 1 y (g.met.B.Blocks.instead_of on y b b told h).0 (g.met.B.Blocks.present on told) (g.met.B.Blocks.active on).0 r;
    } in
    low_ready x

pub returns-clause-linked : goal.returns-clause-linked
returns-clause-linked g c = λ told b e.
    let on = c.args.on.now in
    let s = g.B.Blocks.state on in
    let t = c.args.tree.now in
    let kept = c.args.kept.now in
    let end = c.args.end in
    let x : Lowers s t kept end c.requires.over.0 = record {
      over = c.requires.over.1;
      some = c.requires.end.0;
      within = c.requires.end.1;
      ready = c.requires.ready;
      linked = c.requires.linked;
      placed = λ told. g.met.B.Blocks.placed on s.now (g.met.B.Blocks.present on told);
      active = (g.met.B.Blocks.active on).0;
      is_block = g.met.B.Blocks.within on;
      spelled = g.met.B.Blocks.spelled on;
      alone = λ told y b h r. g.met.B.Blocks.apart_hangs on s.now 1 y (g.met.B.Blocks.instead_of on y b b told h).0 (g.met.B.Blocks.present on told) (g.met.B.Blocks.active on).0 r;
    } in
    low_linked x told b e

pub returns-clause-tops : goal.returns-clause-tops
returns-clause-tops g c = λ n b lt e.
    let on = c.args.on.now in
    let s = g.B.Blocks.state on in
    let t = c.args.tree.now in
    let kept = c.args.kept.now in
    let end = c.args.end in
    let x : Lowers s t kept end c.requires.over.0 = record {
      over = c.requires.over.1;
      some = c.requires.end.0;
      within = c.requires.end.1;
      ready = c.requires.ready;
      linked = c.requires.linked;
      placed = λ told. g.met.B.Blocks.placed on s.now (g.met.B.Blocks.present on told);
      active = (g.met.B.Blocks.active on).0;
      is_block = g.met.B.Blocks.within on;
      spelled = g.met.B.Blocks.spelled on;
      alone = λ told y b h r. g.met.B.Blocks.apart_hangs on s.now 1 y (g.met.B.Blocks.instead_of on y b b told h).0 (g.met.B.Blocks.present on told) (g.met.B.Blocks.active on).0 r;
    } in
    tops_pinned x n b lt e

pub returns-clause-bytes : goal.returns-clause-bytes
returns-clause-bytes g c = λ told limit.
    let on = c.args.on.now in
    let s = g.B.Blocks.state on in
    let t = c.args.tree.now in
    let kept = c.args.kept.now in
    let end = c.args.end in
    let x : Lowers s t kept end c.requires.over.0 = record {
      over = c.requires.over.1;
      some = c.requires.end.0;
      within = c.requires.end.1;
      ready = c.requires.ready;
      linked = c.requires.linked;
      placed = λ told. g.met.B.Blocks.placed on s.now (g.met.B.Blocks.present on told);
      active = (g.met.B.Blocks.active on).0;
      is_block = g.met.B.Blocks.within on;
      spelled = g.met.B.Blocks.spelled on;
      alone = λ told y b h r. g.met.B.Blocks.apart_hangs on s.now 1 y (g.met.B.Blocks.instead_of on y b b told h).0 (g.met.B.Blocks.present on told) (g.met.B.Blocks.active on).0 r;
    } in
    let over = c.requires.over.1 in
    let lower = low_over x in
    let some = c.requires.end.0 in
    let room = lower.hangs.room in
    bytes_front {s = s} {u = s} {t = t} {new = lower_tree s t kept end} {kept = kept} (record {
      told = told;
      now = told;
      held = over.held;
      held_now = over.held;
      same_held = λ score kind. refl;
      dir = refl;
      within = c.requires.end.1;
      room = over.hangs.room;
      room_now = room;
      each = λ i lt. low_leaves x told i (omega (arith, lt, room));
      content = λ i b lt e. refl;
    })
