use Rattle.std.proofs.Common.{◌+◌, ◌-◌, ◌^◌, inr, refl, sym, ap, ◌∙◌, subst, arith}
use Rattle.fo_image.specs.declared.types.State.TheVariants.{Live}
use Rattle.fo_image.specs.declared.types.Pointer.{Pointer}
use Rattle.fo_tree_own.specs.of_crash.declared.place.Place.{Place}
use Rattle.fo_tree_own.specs.of_crash.Places.{place}
use Rattle.fo_tree_look.specs.of_ports.Blocks.{blank, IsLevel}
use Rattle.fo_tree_look.specs.of_ports.State.{Gives}
use Rattle.fo_tree_look.proofs.of_looks.Looks.{rooted_of_apart}
use Rattle.fo_tree_look.specs.of_tree_read.Tree.{kind_at}
use Rattle.fo_tree_own.specs.Step.{Becomes}
use Rattle.fo_tree_own.proofs.Link.{blank_leads, came, came_filled, came_shows}
use Rattle.fo_tree_own.proofs.Filling.{bare_gives}
use Rattle.fo_tree_down.proofs.Topping.{comes_topped, top_topped, came_made, level_at, held_local}
use Rattle.fo_tree_down.proofs.Alikes.{alike_top_new}
use Rattle.fo_tree_down.proofs.Dirtying.{dirties_made, dirties_filled}
use Rattle.fo_tree_down.proofs.top.kept_top.Goals as goal

pub new_block-made-requires-clause-level : goal.new_block-made-requires-clause-level
new_block-made-requires-clause-level g c =
    subst (λ q. IsLevel q) (sym c.kind_at-kind.ensures) (level_at c.args.tree.now.dir c.args.tree.now.depth c.requires.hangs.few)

pub fill_kept-requires-clause-bare : goal.fill_kept-requires-clause-bare
fill_kept-requires-clause-bare g c =
    let on = c.args.on.now in
    let raw = c.new_block-made.new.self in
    let s = g.B.Blocks.state on in
    let r = g.B.Blocks.state raw in
    let t = c.args.tree.now in
    let e = c.new_block-made.ensures in
    let gives = subst (λ q. Gives c.new_block-made.result (blank q) (record { state = Live; kind = q; tag = t.tag; epoch = s.high; closing = 2 ^ 32 - 1 }) s r) c.kind_at-kind.ensures e.gives in
    let first = g.met.B.Blocks.keeps_all on raw e.keeps in
    let there : s.tells → r.stands c.new_block-made.result (place (kind_at t.dir t.depth) t.tag 0 (t.rank + t.depth)) = λ told. subst (λ q. r.stands c.new_block-made.result (place q t.tag 0 (t.rank + t.depth))) c.kind_at-kind.ensures (e.place told) in
    bare_gives first gives refl refl (blank_leads t.dir t.depth)

pub fill_kept-requires-clause-place : goal.fill_kept-requires-clause-place
fill_kept-requires-clause-place g c =
    let on = c.args.on.now in
    let raw = c.new_block-made.new.self in
    let s = g.B.Blocks.state on in
    let r = g.B.Blocks.state raw in
    let t = c.args.tree.now in
    let e = c.new_block-made.ensures in
    let gives = subst (λ q. Gives c.new_block-made.result (blank q) (record { state = Live; kind = q; tag = t.tag; epoch = s.high; closing = 2 ^ 32 - 1 }) s r) c.kind_at-kind.ensures e.gives in
    let first = g.met.B.Blocks.keeps_all on raw e.keeps in
    let there : s.tells → r.stands c.new_block-made.result (place (kind_at t.dir t.depth) t.tag 0 (t.rank + t.depth)) = λ told. subst (λ q. r.stands c.new_block-made.result (place q t.tag 0 (t.rank + t.depth))) c.kind_at-kind.ensures (e.place told) in
    λ told p stands. ap (λ (q : Place). q.rank) ((g.met.B.Blocks.one_place raw).each c.new_block-made.result p (place (kind_at t.dir t.depth) t.tag 0 (t.rank + t.depth)) stands (there (first.still_tells.0 told)))

pub fill_kept-requires-clause-kind : goal.fill_kept-requires-clause-kind
fill_kept-requires-clause-kind g c =
    let on = c.args.on.now in
    let raw = c.new_block-made.new.self in
    let s = g.B.Blocks.state on in
    let r = g.B.Blocks.state raw in
    let t = c.args.tree.now in
    let e = c.new_block-made.ensures in
    let gives = subst (λ q. Gives c.new_block-made.result (blank q) (record { state = Live; kind = q; tag = t.tag; epoch = s.high; closing = 2 ^ 32 - 1 }) s r) c.kind_at-kind.ensures e.gives in
    let first = g.met.B.Blocks.keeps_all on raw e.keeps in
    let there : s.tells → r.stands c.new_block-made.result (place (kind_at t.dir t.depth) t.tag 0 (t.rank + t.depth)) = λ told. subst (λ q. r.stands c.new_block-made.result (place q t.tag 0 (t.rank + t.depth))) c.kind_at-kind.ensures (e.place told) in
    λ told p stands. ap (λ (q : Place). q.kind) ((g.met.B.Blocks.one_place raw).each c.new_block-made.result p (place (kind_at t.dir t.depth) t.tag 0 (t.rank + t.depth)) stands (there (first.still_tells.0 told)))

pub returns-clause-comes : goal.returns-clause-comes
returns-clause-comes g c =
    let on = c.args.on.now in
    let raw = c.new_block-made.new.self in
    let s = g.B.Blocks.state on in
    let r = g.B.Blocks.state raw in
    let t = c.args.tree.now in
    let e = c.new_block-made.ensures in
    let gives = subst (λ q. Gives c.new_block-made.result (blank q) (record { state = Live; kind = q; tag = t.tag; epoch = s.high; closing = 2 ^ 32 - 1 }) s r) c.kind_at-kind.ensures e.gives in
    let first = g.met.B.Blocks.keeps_all on raw e.keeps in
    let there : s.tells → r.stands c.new_block-made.result (place (kind_at t.dir t.depth) t.tag 0 (t.rank + t.depth)) = λ told. subst (λ q. r.stands c.new_block-made.result (place q t.tag 0 (t.rank + t.depth))) c.kind_at-kind.ensures (e.place told) in
    let mid = c.fill_kept.new.on in
    let m = g.B.Blocks.state mid in
    let then = g.met.B.Blocks.keeps_all raw mid c.fill_kept.ensures.keeps in
    let joined = g.met.B.Blocks.keeps_joins on raw mid e.keeps c.fill_kept.ensures.keeps in
    let filled = c.fill_kept.ensures.filled in
    comes_topped {s = s} {m = m} (record {
      came = came_filled first then (came gives) filled;
      all = g.met.B.Blocks.keeps_all on mid joined;
      laws = record { present = g.met.B.Blocks.present on; active = (g.met.B.Blocks.active on).0; not_one = (g.met.B.Blocks.active on).1; one = g.met.B.Blocks.one_place on; super_stands = g.met.B.Blocks.super_stands on; placed = λ told. g.met.B.Blocks.placed on s.now (g.met.B.Blocks.present on told); ranked = λ told. g.met.B.Blocks.ranked on s.now (g.met.B.Blocks.present on told); live = λ y told ne r. g.met.B.Blocks.live on y told ne r; clears = g.met.B.Blocks.clears_entries on; waits_within = g.met.B.Blocks.waits_within on; covers_told = g.met.B.Blocks.covers_told on; within = g.met.B.Blocks.within on; spelled = g.met.B.Blocks.spelled on; apart_hangs = λ told w is r. g.met.B.Blocks.apart_hangs on s.now 1 w is (g.met.B.Blocks.present on told) (g.met.B.Blocks.active on).0 r; small = g.met.B.Blocks.small on };
      is_live = refl;
      is_current = refl;
      has_kind = refl;
      tagged = refl;
      long = c.fill_kept.ensures.bare.long;
      raised = λ y h. absurd (e.instead y ((filled.instead c.new_block-made.result y).0 h));
      raises = λ y e. absurd (held_local c.args.score.now y (sym c.requires.is ∙ e));
      was = λ told y e. absurd (held_local c.args.score.now y (sym c.requires.is ∙ e));
      made_apart = λ told y z h. (g.met.B.Blocks.instead_of on y z z told h).0;
      raised_old = λ y h. absurd (e.instead y ((filled.instead c.new_block-made.result y).0 h));
      stands = λ told. filled.places (first.still_tells.1 told) c.new_block-made.result (place (kind_at t.dir t.depth) t.tag 0 (t.rank + t.depth)) c.fill_kept.ensures.bare.uncovered (rooted_of_apart m c.new_block-made.result c.fill_kept.ensures.bare.is_apart) (there told);
      content = subst (λ (p : Pointer). Becomes s m t c.args.kept.now t.depth p c.new_block-made.result) (sym c.requires.is) c.fill_kept.ensures.content;
    })

pub returns-clause-given : goal.returns-clause-given
returns-clause-given g c =
    let first = g.met.B.Blocks.keeps_all c.args.on.now c.new_block-made.new.self c.new_block-made.ensures.keeps in
    let then = g.met.B.Blocks.keeps_all c.new_block-made.new.self c.fill_kept.new.on c.fill_kept.ensures.keeps in
    came_made (came_filled first then (came c.new_block-made.ensures.gives) c.fill_kept.ensures.filled)

pub returns-clause-spare : goal.returns-clause-spare
returns-clause-spare g c =
    let used = c.new_block-made.ensures.gives.uses.spare in let more = c.fill_kept.ensures.filled.uses.spare in omega (arith, used, more)

pub returns-clause-keeps : goal.returns-clause-keeps
returns-clause-keeps g c =
    g.met.B.Blocks.keeps_joins c.args.on.now c.new_block-made.new.self c.fill_kept.new.on c.new_block-made.ensures.keeps c.fill_kept.ensures.keeps

pub returns-clause-top : goal.returns-clause-top
returns-clause-top g c =
    let on = c.args.on.now in
    let raw = c.new_block-made.new.self in
    let s = g.B.Blocks.state on in
    let r = g.B.Blocks.state raw in
    let t = c.args.tree.now in
    let e = c.new_block-made.ensures in
    let gives = subst (λ q. Gives c.new_block-made.result (blank q) (record { state = Live; kind = q; tag = t.tag; epoch = s.high; closing = 2 ^ 32 - 1 }) s r) c.kind_at-kind.ensures e.gives in
    let first = g.met.B.Blocks.keeps_all on raw e.keeps in
    let there : s.tells → r.stands c.new_block-made.result (place (kind_at t.dir t.depth) t.tag 0 (t.rank + t.depth)) = λ told. subst (λ q. r.stands c.new_block-made.result (place q t.tag 0 (t.rank + t.depth))) c.kind_at-kind.ensures (e.place told) in
    let mid = c.fill_kept.new.on in
    let m = g.B.Blocks.state mid in
    let then = g.met.B.Blocks.keeps_all raw mid c.fill_kept.ensures.keeps in
    let joined = g.met.B.Blocks.keeps_joins on raw mid e.keeps c.fill_kept.ensures.keeps in
    let filled = c.fill_kept.ensures.filled in
    top_topped {kept = c.args.kept.now} {s = s} {m = m} (record {
      came = came_filled first then (came gives) filled;
      all = g.met.B.Blocks.keeps_all on mid joined;
      laws = record { present = g.met.B.Blocks.present on; active = (g.met.B.Blocks.active on).0; not_one = (g.met.B.Blocks.active on).1; one = g.met.B.Blocks.one_place on; super_stands = g.met.B.Blocks.super_stands on; placed = λ told. g.met.B.Blocks.placed on s.now (g.met.B.Blocks.present on told); ranked = λ told. g.met.B.Blocks.ranked on s.now (g.met.B.Blocks.present on told); live = λ y told ne r. g.met.B.Blocks.live on y told ne r; clears = g.met.B.Blocks.clears_entries on; waits_within = g.met.B.Blocks.waits_within on; covers_told = g.met.B.Blocks.covers_told on; within = g.met.B.Blocks.within on; spelled = g.met.B.Blocks.spelled on; apart_hangs = λ told w is r. g.met.B.Blocks.apart_hangs on s.now 1 w is (g.met.B.Blocks.present on told) (g.met.B.Blocks.active on).0 r; small = g.met.B.Blocks.small on };
      is_live = refl;
      is_current = refl;
      has_kind = refl;
      tagged = refl;
      long = c.fill_kept.ensures.bare.long;
      raised = λ y h. absurd (e.instead y ((filled.instead c.new_block-made.result y).0 h));
      raises = λ y e. absurd (held_local c.args.score.now y (sym c.requires.is ∙ e));
      was = λ told y e. absurd (held_local c.args.score.now y (sym c.requires.is ∙ e));
      made_apart = λ told y z h. (g.met.B.Blocks.instead_of on y z z told h).0;
      raised_old = λ y h. absurd (e.instead y ((filled.instead c.new_block-made.result y).0 h));
      stands = λ told. filled.places (first.still_tells.1 told) c.new_block-made.result (place (kind_at t.dir t.depth) t.tag 0 (t.rank + t.depth)) c.fill_kept.ensures.bare.uncovered (rooted_of_apart m c.new_block-made.result c.fill_kept.ensures.bare.is_apart) (there told);
      content = subst (λ (p : Pointer). Becomes s m t c.args.kept.now t.depth p c.new_block-made.result) (sym c.requires.is) c.fill_kept.ensures.content;
    })

pub returns-clause-stead : goal.returns-clause-stead
returns-clause-stead g c = λ x made h. absurd (c.new_block-made.ensures.instead x ((c.fill_kept.ensures.filled.instead c.new_block-made.result x).0 h))

pub returns-clause-dirties : goal.returns-clause-dirties
returns-clause-dirties g c =
    let e = c.new_block-made.ensures in
    let first = g.met.B.Blocks.keeps_all c.args.on.now c.new_block-made.new.self e.keeps in
    let then = g.met.B.Blocks.keeps_all c.new_block-made.new.self c.fill_kept.new.on c.fill_kept.ensures.keeps in
    dirties_filled c.new_block-made.result (dirties_made c.new_block-made.result first (came_made (came e.gives)) e.gives.dirty (λ b j h. (e.gives.order.clearing b j h).1)) then c.fill_kept.ensures.filled

pub returns-clause-shown : goal.returns-clause-shown
returns-clause-shown g c =
    let first = g.met.B.Blocks.keeps_all c.args.on.now c.new_block-made.new.self c.new_block-made.ensures.keeps in
    let then = g.met.B.Blocks.keeps_all c.new_block-made.new.self c.fill_kept.new.on c.fill_kept.ensures.keeps in
    came_shows (g.met.B.Blocks.active c.args.on.now).0 (came_filled first then (came c.new_block-made.ensures.gives) c.fill_kept.ensures.filled)

pub returns-clause-alike : goal.returns-clause-alike
returns-clause-alike g c =
    let on = c.args.on.now in
    let raw = c.new_block-made.new.self in
    let s = g.B.Blocks.state on in
    let r = g.B.Blocks.state raw in
    let t = c.args.tree.now in
    let e = c.new_block-made.ensures in
    let gives = subst (λ q. Gives c.new_block-made.result (blank q) (record { state = Live; kind = q; tag = t.tag; epoch = s.high; closing = 2 ^ 32 - 1 }) s r) c.kind_at-kind.ensures e.gives in
    let first = g.met.B.Blocks.keeps_all on raw e.keeps in
    let there : s.tells → r.stands c.new_block-made.result (place (kind_at t.dir t.depth) t.tag 0 (t.rank + t.depth)) = λ told. subst (λ q. r.stands c.new_block-made.result (place q t.tag 0 (t.rank + t.depth))) c.kind_at-kind.ensures (e.place told) in
    let mid = c.fill_kept.new.on in
    let m = g.B.Blocks.state mid in
    let then = g.met.B.Blocks.keeps_all raw mid c.fill_kept.ensures.keeps in
    let joined = g.met.B.Blocks.keeps_joins on raw mid e.keeps c.fill_kept.ensures.keeps in
    let filled = c.fill_kept.ensures.filled in
    alike_top_new {kept = c.args.kept.now} {s = s} {m = m} (record {
      came = came_filled first then (came gives) filled;
      all = g.met.B.Blocks.keeps_all on mid joined;
      laws = record { present = g.met.B.Blocks.present on; active = (g.met.B.Blocks.active on).0; not_one = (g.met.B.Blocks.active on).1; one = g.met.B.Blocks.one_place on; super_stands = g.met.B.Blocks.super_stands on; placed = λ told. g.met.B.Blocks.placed on s.now (g.met.B.Blocks.present on told); ranked = λ told. g.met.B.Blocks.ranked on s.now (g.met.B.Blocks.present on told); live = λ y told ne r. g.met.B.Blocks.live on y told ne r; clears = g.met.B.Blocks.clears_entries on; waits_within = g.met.B.Blocks.waits_within on; covers_told = g.met.B.Blocks.covers_told on; within = g.met.B.Blocks.within on; spelled = g.met.B.Blocks.spelled on; apart_hangs = λ told w is r. g.met.B.Blocks.apart_hangs on s.now 1 w is (g.met.B.Blocks.present on told) (g.met.B.Blocks.active on).0 r; small = g.met.B.Blocks.small on };
      is_live = refl;
      is_current = refl;
      has_kind = refl;
      tagged = refl;
      long = c.fill_kept.ensures.bare.long;
      raised = λ y h. absurd (e.instead y ((filled.instead c.new_block-made.result y).0 h));
      raises = λ y e. absurd (held_local c.args.score.now y (sym c.requires.is ∙ e));
      was = λ told y e. absurd (held_local c.args.score.now y (sym c.requires.is ∙ e));
      made_apart = λ told y z h. (g.met.B.Blocks.instead_of on y z z told h).0;
      raised_old = λ y h. absurd (e.instead y ((filled.instead c.new_block-made.result y).0 h));
      stands = λ told. filled.places (first.still_tells.1 told) c.new_block-made.result (place (kind_at t.dir t.depth) t.tag 0 (t.rank + t.depth)) c.fill_kept.ensures.bare.uncovered (rooted_of_apart m c.new_block-made.result c.fill_kept.ensures.bare.is_apart) (there told);
      content = subst (λ (p : Pointer). Becomes s m t c.args.kept.now t.depth p c.new_block-made.result) (sym c.requires.is) c.fill_kept.ensures.content;
    }) c.requires.hangs
    (record { super_at = λ image is. g.met.B.Blocks.super_stands on (g.met.B.Blocks.told on image is); each = λ image is. g.met.B.Blocks.placed on image is })
    (record { super_at = λ image is. g.met.B.Blocks.super_stands mid (g.met.B.Blocks.told mid image is); each = λ image is. g.met.B.Blocks.placed mid image is })
    (g.met.B.Blocks.active mid).0 (g.met.B.Blocks.one_place mid)
    c.fill_kept.ensures.bare.bare (inr c.requires.plain)
    (g.met.B.Blocks.sure mid c.new_block-made.result (inr ((filled.marks c.new_block-made.result).2 gives.is.2))).each
