use Rattle.std.proofs.Common.{◌+◌, ◌-◌, ◌^◌, inl, inr, length, refl, sym, ap, ◌∙◌, subst, arith}
use Rattle.fo_image.specs.declared.types.State.TheVariants.{Live}
use Rattle.fo_image.specs.declared.types.Pointer.{Pointer}
use Rattle.fo_tree_own.specs.of_crash.Images.{target}
use Rattle.fo_tree_own.specs.of_crash.Places.{place}
use Rattle.fo_tree_look.specs.of_ports.Blocks.{blank, IsLevel}
use Rattle.fo_tree_look.specs.of_ports.State.{Gives}
use Rattle.fo_tree_look.proofs.of_ports.Lengths.{length_zero_bytes}
use Rattle.fo_tree_look.specs.of_tree_read.Tree.{kind_at}
use Rattle.fo_tree_own.specs.Step.{Becomes}
use Rattle.fo_tree_own.proofs.Link.{blank_leads, came, came_shows}
use Rattle.fo_tree_down.proofs.Topping.{comes_topped, top_topped, came_made, level_at, nil_local}
use Rattle.fo_tree_down.proofs.Alikes.{alike_top_new}
use Rattle.fo_tree_down.proofs.Dirtying.{dirties_made}
use Rattle.fo_tree_down.proofs.top.new_top.Goals as goal

pub new_block-requires-clause-level : goal.new_block-requires-clause-level
new_block-requires-clause-level g c =
    subst (λ q. IsLevel q) (sym c.kind_at-kind.ensures) (level_at c.args.tree.now.dir c.args.tree.now.depth c.requires.hangs.few)

pub returns-clause-comes : goal.returns-clause-comes
returns-clause-comes g c =
    let on = c.args.on.now in
    let raw = c.new_block.new.self in
    let s = g.B.Blocks.state on in
    let r = g.B.Blocks.state raw in
    let t = c.args.tree.now in
    let e = c.new_block.ensures in
    let gives = subst (λ q. Gives c.new_block.result (blank q) (record { state = Live; kind = q; tag = t.tag; epoch = s.high; closing = 2 ^ 32 - 1 }) s r) c.kind_at-kind.ensures e.gives in
    let first = g.met.B.Blocks.keeps_all on raw e.keeps in
    let there : s.tells → r.stands c.new_block.result (place (kind_at t.dir t.depth) t.tag 0 (t.rank + t.depth)) = λ told. subst (λ q. r.stands c.new_block.result (place q t.tag 0 (t.rank + t.depth))) c.kind_at-kind.ensures (e.place told) in
    comes_topped {s = s} {m = r} (record {
      came = came gives;
      all = first;
      laws = record { present = g.met.B.Blocks.present on; active = (g.met.B.Blocks.active on).0; not_one = (g.met.B.Blocks.active on).1; one = g.met.B.Blocks.one_place on; super_stands = g.met.B.Blocks.super_stands on; placed = λ told. g.met.B.Blocks.placed on s.now (g.met.B.Blocks.present on told); ranked = λ told. g.met.B.Blocks.ranked on s.now (g.met.B.Blocks.present on told); live = λ y told ne r. g.met.B.Blocks.live on y told ne r; clears = g.met.B.Blocks.clears_entries on; waits_within = g.met.B.Blocks.waits_within on; covers_told = g.met.B.Blocks.covers_told on; within = g.met.B.Blocks.within on; spelled = g.met.B.Blocks.spelled on; apart_hangs = λ told w is r. g.met.B.Blocks.apart_hangs on s.now 1 w is (g.met.B.Blocks.present on told) (g.met.B.Blocks.active on).0 r; small = g.met.B.Blocks.small on };
      is_live = refl;
      is_current = refl;
      has_kind = refl;
      tagged = refl;
      long = ap length gives.memory.here.bytes ∙ length_zero_bytes;
      raised = λ y h. absurd (e.instead y h);
      raises = λ y e. absurd (nil_local y (sym c.requires.is ∙ e));
      was = λ told y e. absurd (nil_local y (sym c.requires.is ∙ e));
      made_apart = λ told y z h. (g.met.B.Blocks.instead_of on y z z told h).0;
      raised_old = λ y h. absurd (e.instead y h);
      stands = there;
      content = subst (λ (p : Pointer). Becomes s r t c.args.kept.now t.depth p c.new_block.result) (sym c.requires.is) gives.memory.here;
    })

pub returns-clause-given : goal.returns-clause-given
returns-clause-given g c = came_made (came c.new_block.ensures.gives)

pub returns-clause-spare : goal.returns-clause-spare
returns-clause-spare g c =
    let used = c.new_block.ensures.gives.uses.spare in omega (arith, used)

pub returns-clause-top : goal.returns-clause-top
returns-clause-top g c =
    let on = c.args.on.now in
    let raw = c.new_block.new.self in
    let s = g.B.Blocks.state on in
    let r = g.B.Blocks.state raw in
    let t = c.args.tree.now in
    let e = c.new_block.ensures in
    let gives = subst (λ q. Gives c.new_block.result (blank q) (record { state = Live; kind = q; tag = t.tag; epoch = s.high; closing = 2 ^ 32 - 1 }) s r) c.kind_at-kind.ensures e.gives in
    let first = g.met.B.Blocks.keeps_all on raw e.keeps in
    let there : s.tells → r.stands c.new_block.result (place (kind_at t.dir t.depth) t.tag 0 (t.rank + t.depth)) = λ told. subst (λ q. r.stands c.new_block.result (place q t.tag 0 (t.rank + t.depth))) c.kind_at-kind.ensures (e.place told) in
    top_topped {kept = c.args.kept.now} {s = s} {m = r} (record {
      came = came gives;
      all = first;
      laws = record { present = g.met.B.Blocks.present on; active = (g.met.B.Blocks.active on).0; not_one = (g.met.B.Blocks.active on).1; one = g.met.B.Blocks.one_place on; super_stands = g.met.B.Blocks.super_stands on; placed = λ told. g.met.B.Blocks.placed on s.now (g.met.B.Blocks.present on told); ranked = λ told. g.met.B.Blocks.ranked on s.now (g.met.B.Blocks.present on told); live = λ y told ne r. g.met.B.Blocks.live on y told ne r; clears = g.met.B.Blocks.clears_entries on; waits_within = g.met.B.Blocks.waits_within on; covers_told = g.met.B.Blocks.covers_told on; within = g.met.B.Blocks.within on; spelled = g.met.B.Blocks.spelled on; apart_hangs = λ told w is r. g.met.B.Blocks.apart_hangs on s.now 1 w is (g.met.B.Blocks.present on told) (g.met.B.Blocks.active on).0 r; small = g.met.B.Blocks.small on };
      is_live = refl;
      is_current = refl;
      has_kind = refl;
      tagged = refl;
      long = ap length gives.memory.here.bytes ∙ length_zero_bytes;
      raised = λ y h. absurd (e.instead y h);
      raises = λ y e. absurd (nil_local y (sym c.requires.is ∙ e));
      was = λ told y e. absurd (nil_local y (sym c.requires.is ∙ e));
      made_apart = λ told y z h. (g.met.B.Blocks.instead_of on y z z told h).0;
      raised_old = λ y h. absurd (e.instead y h);
      stands = there;
      content = subst (λ (p : Pointer). Becomes s r t c.args.kept.now t.depth p c.new_block.result) (sym c.requires.is) gives.memory.here;
    })

pub returns-clause-stead : goal.returns-clause-stead
returns-clause-stead g c = λ x made h. absurd (c.new_block.ensures.instead x h)

pub returns-clause-dirties : goal.returns-clause-dirties
returns-clause-dirties g c =
    let e = c.new_block.ensures in
    dirties_made c.new_block.result (g.met.B.Blocks.keeps_all c.args.on.now c.new_block.new.self e.keeps) (came_made (came e.gives)) e.gives.dirty (λ b j h. (e.gives.order.clearing b j h).1)

pub returns-clause-shown : goal.returns-clause-shown
returns-clause-shown g c = came_shows (g.met.B.Blocks.active c.args.on.now).0 (came c.new_block.ensures.gives)

pub returns-clause-alike : goal.returns-clause-alike
returns-clause-alike g c =
    let on = c.args.on.now in
    let raw = c.new_block.new.self in
    let s = g.B.Blocks.state on in
    let r = g.B.Blocks.state raw in
    let t = c.args.tree.now in
    let e = c.new_block.ensures in
    let gives = subst (λ q. Gives c.new_block.result (blank q) (record { state = Live; kind = q; tag = t.tag; epoch = s.high; closing = 2 ^ 32 - 1 }) s r) c.kind_at-kind.ensures e.gives in
    let first = g.met.B.Blocks.keeps_all on raw e.keeps in
    let there : s.tells → r.stands c.new_block.result (place (kind_at t.dir t.depth) t.tag 0 (t.rank + t.depth)) = λ told. subst (λ q. r.stands c.new_block.result (place q t.tag 0 (t.rank + t.depth))) c.kind_at-kind.ensures (e.place told) in
    alike_top_new {kept = c.args.kept.now} {s = s} {m = r} (record {
      came = came gives;
      all = first;
      laws = record { present = g.met.B.Blocks.present on; active = (g.met.B.Blocks.active on).0; not_one = (g.met.B.Blocks.active on).1; one = g.met.B.Blocks.one_place on; super_stands = g.met.B.Blocks.super_stands on; placed = λ told. g.met.B.Blocks.placed on s.now (g.met.B.Blocks.present on told); ranked = λ told. g.met.B.Blocks.ranked on s.now (g.met.B.Blocks.present on told); live = λ y told ne r. g.met.B.Blocks.live on y told ne r; clears = g.met.B.Blocks.clears_entries on; waits_within = g.met.B.Blocks.waits_within on; covers_told = g.met.B.Blocks.covers_told on; within = g.met.B.Blocks.within on; spelled = g.met.B.Blocks.spelled on; apart_hangs = λ told w is r. g.met.B.Blocks.apart_hangs on s.now 1 w is (g.met.B.Blocks.present on told) (g.met.B.Blocks.active on).0 r; small = g.met.B.Blocks.small on };
      is_live = refl;
      is_current = refl;
      has_kind = refl;
      tagged = refl;
      long = ap length gives.memory.here.bytes ∙ length_zero_bytes;
      raised = λ y h. absurd (e.instead y h);
      raises = λ y e. absurd (nil_local y (sym c.requires.is ∙ e));
      was = λ told y e. absurd (nil_local y (sym c.requires.is ∙ e));
      made_apart = λ told y z h. (g.met.B.Blocks.instead_of on y z z told h).0;
      raised_old = λ y h. absurd (e.instead y h);
      stands = there;
      content = subst (λ (p : Pointer). Becomes s r t c.args.kept.now t.depth p c.new_block.result) (sym c.requires.is) gives.memory.here;
    }) c.requires.hangs
    (record { super_at = λ image is. g.met.B.Blocks.super_stands on (g.met.B.Blocks.told on image is); each = λ image is. g.met.B.Blocks.placed on image is })
    (record { super_at = λ image is. g.met.B.Blocks.super_stands raw (g.met.B.Blocks.told raw image is); each = λ image is. g.met.B.Blocks.placed raw image is })
    (g.met.B.Blocks.active raw).0 (g.met.B.Blocks.one_place raw)
    (λ j b h. nil_local b (sym (blank_leads t.dir t.depth j) ∙ sym (ap target (gives.memory.here.slots j)) ∙ h)) (inl gives.memory.here.bytes)
    (g.met.B.Blocks.sure raw c.new_block.result (inr gives.is.2)).each
