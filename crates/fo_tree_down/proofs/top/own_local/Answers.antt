use Rattle.std.proofs.Common.{◌≡◌, ◌≢◌, ◌<◌, ◌+◌, ◌-◌, ◌^◌, inr, length, refl, sym, ap, ◌∙◌, subst, arith}
use Rattle.fo_image.specs.declared.types.State.TheVariants.{Live}
use Rattle.fo_image.specs.declared.types.Label.{Label}
use Rattle.fo_image.specs.declared.types.Pointer.{Pointer}
use Rattle.fo_image.specs.declared.types.Pointer.TheVariants.{Local}
use Rattle.fo_tree_own.specs.of_crash.Images.{Image}
use Rattle.fo_tree_own.specs.of_crash.Places.{place}
use Rattle.fo_tree_look.specs.of_tree_read.Tree.{kind_at}
use Rattle.fo_tree_own.specs.Step.{Becomes}
use Rattle.fo_tree_own.proofs.Link.{came, came_shows}
use Rattle.fo_tree_own.proofs.of_shown.Showing.{nothing_shows}
use Rattle.fo_tree_down.proofs.Topping.{Topped, in_tree as came_in_tree, comes_topped, top_topped, top_here, came_made, own_here, local_eq}
use Rattle.fo_tree_down.proofs.Next.{comes_top}
use Rattle.fo_tree_down.proofs.Alikes.{alike_stays, alike_top_copied}
use Rattle.fo_tree_down.proofs.Dirtying.{dirties_same, dirties_kept, dirties_made}
use Rattle.fo_tree_down.proofs.top.own_local.Goals as goal

pub copy-requires-clause-in_tree : goal.copy-requires-clause-in_tree
copy-requires-clause-in_tree g c =
    λ told. (c.requires.told told).in_tree (c.is_current.ensures.older c.if-is_current.false)

pub returns-then-is_current-clause-comes : goal.returns-then-is_current-clause-comes
returns-then-is_current-clause-comes g c =
    let on = c.args.on.now in
    let s = g.B.Blocks.state on in
    let t = c.args.tree.now in
    λ k few. comes_top s t c.args.kept.now k c.args.at c.requires.is few (own_here s t c.args.at c.requires.hangs c.requires.is c.requires.ready c.requires.told (c.is_current.ensures.yes c.if-is_current.true)) (λ made. made.0 made.1)

pub returns-else-is_current-clause-comes : goal.returns-else-is_current-clause-comes
returns-else-is_current-clause-comes g c =
    let on = c.args.on.now in
    let raw = c.copy.new.self in
    let s = g.B.Blocks.state on in
    let r = g.B.Blocks.state raw in
    let t = c.args.tree.now in
    let e = c.copy.ensures in
    comes_topped {s = s} {m = r} (record {
      came = came e.gives;
      all = g.met.B.Blocks.keeps_all on raw e.keeps;
      laws = record { present = g.met.B.Blocks.present on; active = (g.met.B.Blocks.active on).0; not_one = (g.met.B.Blocks.active on).1; one = g.met.B.Blocks.one_place on; super_stands = g.met.B.Blocks.super_stands on; placed = λ told. g.met.B.Blocks.placed on s.now (g.met.B.Blocks.present on told); ranked = λ told. g.met.B.Blocks.ranked on s.now (g.met.B.Blocks.present on told); live = λ y told ne r. g.met.B.Blocks.live on y told ne r; clears = g.met.B.Blocks.clears_entries on; waits_within = g.met.B.Blocks.waits_within on; covers_told = g.met.B.Blocks.covers_told on; within = g.met.B.Blocks.within on; spelled = g.met.B.Blocks.spelled on; apart_hangs = λ told w is r. g.met.B.Blocks.apart_hangs on s.now 1 w is (g.met.B.Blocks.present on told) (g.met.B.Blocks.active on).0 r; small = g.met.B.Blocks.small on };
      is_live = refl;
      is_current = refl;
      has_kind = c.requires.ready.has_kind;
      tagged = c.requires.ready.tagged;
      long = ap length e.gives.memory.here.bytes ∙ c.requires.ready.long;
      raised_old = λ y h. subst (λ b. (s.label b).epoch < s.high) (sym ((e.instead y).0 h)) (c.is_current.ensures.older c.if-is_current.false);
      raised = λ y h. c.requires.is ∙ ap (λ b. Local b) (sym ((e.instead y).0 h));
      raises = λ y h. (e.instead y).1 (local_eq (sym h ∙ c.requires.is));
      was = λ told y h. let same : c.args.at ≡ y = local_eq (sym c.requires.is ∙ h) in subst (λ b. ((s.label b).state ≡ Live) × ((s.label b).epoch < s.high) × (s.apart b → ⊥)) same (c.requires.ready.live, c.is_current.ensures.older c.if-is_current.false, λ apart. g.met.B.Blocks.apart_hangs on s.now 1 c.args.at apart (g.met.B.Blocks.present on told) (g.met.B.Blocks.active on).0 ((c.requires.told told).in_tree (c.is_current.ensures.older c.if-is_current.false)));
      made_apart = λ told y z h. (g.met.B.Blocks.instead_of on y z z told h).0;
      stands = λ told. e.place told (place (kind_at t.dir t.depth) t.tag 0 (t.rank + t.depth)) (c.requires.hangs.told told c.args.at c.requires.is).0;
      content = subst (λ (p : Pointer). Becomes s r t c.args.kept.now t.depth p c.copy.result) (sym c.requires.is) e.gives.memory.here;
    })

pub returns-then-is_current-clause-given : goal.returns-then-is_current-clause-given
returns-then-is_current-clause-given g c = λ b made. absurd (made.0 made.1)

pub returns-else-is_current-clause-given : goal.returns-else-is_current-clause-given
returns-else-is_current-clause-given g c = came_made (came c.copy.ensures.gives)

pub returns-else-is_current-clause-spare : goal.returns-else-is_current-clause-spare
returns-else-is_current-clause-spare g c =
    let used = c.copy.ensures.gives.uses.spare in omega (arith, used)

pub returns-else-is_current-clause-less : goal.returns-else-is_current-clause-less
returns-else-is_current-clause-less g c =
    λ current.
    let older = c.is_current.ensures.older c.if-is_current.false in
    absurd (omega (arith, older, current))

pub returns-else-is_current-clause-same : goal.returns-else-is_current-clause-same
returns-else-is_current-clause-same g c =
    λ current.
    let older = c.is_current.ensures.older c.if-is_current.false in
    absurd (omega (arith, older, current))

pub returns-else-is_current-clause-top : goal.returns-else-is_current-clause-top
returns-else-is_current-clause-top g c =
    let on = c.args.on.now in
    let raw = c.copy.new.self in
    let s = g.B.Blocks.state on in
    let r = g.B.Blocks.state raw in
    let t = c.args.tree.now in
    let e = c.copy.ensures in
    top_topped {kept = c.args.kept.now} {s = s} {m = r} (record {
      came = came e.gives;
      all = g.met.B.Blocks.keeps_all on raw e.keeps;
      laws = record { present = g.met.B.Blocks.present on; active = (g.met.B.Blocks.active on).0; not_one = (g.met.B.Blocks.active on).1; one = g.met.B.Blocks.one_place on; super_stands = g.met.B.Blocks.super_stands on; placed = λ told. g.met.B.Blocks.placed on s.now (g.met.B.Blocks.present on told); ranked = λ told. g.met.B.Blocks.ranked on s.now (g.met.B.Blocks.present on told); live = λ y told ne r. g.met.B.Blocks.live on y told ne r; clears = g.met.B.Blocks.clears_entries on; waits_within = g.met.B.Blocks.waits_within on; covers_told = g.met.B.Blocks.covers_told on; within = g.met.B.Blocks.within on; spelled = g.met.B.Blocks.spelled on; apart_hangs = λ told w is r. g.met.B.Blocks.apart_hangs on s.now 1 w is (g.met.B.Blocks.present on told) (g.met.B.Blocks.active on).0 r; small = g.met.B.Blocks.small on };
      is_live = refl;
      is_current = refl;
      has_kind = c.requires.ready.has_kind;
      tagged = c.requires.ready.tagged;
      long = ap length e.gives.memory.here.bytes ∙ c.requires.ready.long;
      raised_old = λ y h. subst (λ b. (s.label b).epoch < s.high) (sym ((e.instead y).0 h)) (c.is_current.ensures.older c.if-is_current.false);
      raised = λ y h. c.requires.is ∙ ap (λ b. Local b) (sym ((e.instead y).0 h));
      raises = λ y h. (e.instead y).1 (local_eq (sym h ∙ c.requires.is));
      was = λ told y h. let same : c.args.at ≡ y = local_eq (sym c.requires.is ∙ h) in subst (λ b. ((s.label b).state ≡ Live) × ((s.label b).epoch < s.high) × (s.apart b → ⊥)) same (c.requires.ready.live, c.is_current.ensures.older c.if-is_current.false, λ apart. g.met.B.Blocks.apart_hangs on s.now 1 c.args.at apart (g.met.B.Blocks.present on told) (g.met.B.Blocks.active on).0 ((c.requires.told told).in_tree (c.is_current.ensures.older c.if-is_current.false)));
      made_apart = λ told y z h. (g.met.B.Blocks.instead_of on y z z told h).0;
      stands = λ told. e.place told (place (kind_at t.dir t.depth) t.tag 0 (t.rank + t.depth)) (c.requires.hangs.told told c.args.at c.requires.is).0;
      content = subst (λ (p : Pointer). Becomes s r t c.args.kept.now t.depth p c.copy.result) (sym c.requires.is) e.gives.memory.here;
    })

pub returns-then-is_current-clause-top : goal.returns-then-is_current-clause-top
returns-then-is_current-clause-top g c =
    top_here (g.B.Blocks.state c.args.on.now) c.args.tree.now c.args.at c.requires.is c.requires.ready.live (c.is_current.ensures.yes c.if-is_current.true)

pub returns-then-is_current-clause-stead : goal.returns-then-is_current-clause-stead
returns-then-is_current-clause-stead g c = λ x made h. absurd (made.0 made.1)

pub returns-else-is_current-clause-stead : goal.returns-else-is_current-clause-stead
returns-else-is_current-clause-stead g c = λ x made h. c.requires.is ∙ ap (λ b. Local b) (sym ((c.copy.ensures.instead x).0 h))

pub returns-then-is_current-clause-dirties : goal.returns-then-is_current-clause-dirties
returns-then-is_current-clause-dirties g c = dirties_kept (g.B.Blocks.state c.args.on.now) c.args.at

pub returns-then-is_current-clause-dirties_less : goal.returns-then-is_current-clause-dirties_less
returns-then-is_current-clause-dirties_less g c = λ current. dirties_same (g.B.Blocks.state c.args.on.now) 0

pub returns-else-is_current-clause-dirties : goal.returns-else-is_current-clause-dirties
returns-else-is_current-clause-dirties g c =
    let e = c.copy.ensures in
    dirties_made c.copy.result (g.met.B.Blocks.keeps_all c.args.on.now c.copy.new.self e.keeps) (came_made (came e.gives)) e.gives.dirty (λ b j h. (e.gives.order.clearing b j h).1)

pub returns-else-is_current-clause-dirties_less : goal.returns-else-is_current-clause-dirties_less
returns-else-is_current-clause-dirties_less g c =
    λ current.
    let older = c.is_current.ensures.older c.if-is_current.false in
    absurd (omega (arith, older, current))

pub returns-then-is_current-clause-shown : goal.returns-then-is_current-clause-shown
returns-then-is_current-clause-shown g c = nothing_shows (record { each = λ image is. is })

pub returns-else-is_current-clause-shown : goal.returns-else-is_current-clause-shown
returns-else-is_current-clause-shown g c = came_shows (g.met.B.Blocks.active c.args.on.now).0 (came c.copy.ensures.gives)

pub returns-then-is_current-clause-alike : goal.returns-then-is_current-clause-alike
returns-then-is_current-clause-alike g c = alike_stays refl c.requires.is

pub returns-else-is_current-clause-alike : goal.returns-else-is_current-clause-alike
returns-else-is_current-clause-alike g c =
    let on = c.args.on.now in
    let raw = c.copy.new.self in
    let s = g.B.Blocks.state on in
    let r = g.B.Blocks.state raw in
    let t = c.args.tree.now in
    let e = c.copy.ensures in
    let older = c.is_current.ensures.older c.if-is_current.false in
    let ne : c.args.at ≢ c.copy.result = λ same. e.gives.was.0 (ap (λ b. (s.label b).state) (sym same) ∙ c.requires.ready.live) in
    let other = e.gives.memory.others c.args.at ne in
    let topped : Topped t c.args.kept.now (record { state = Live; kind = (s.label c.args.at).kind; tag = (s.label c.args.at).tag; epoch = s.high; closing = 2 ^ 32 - 1 }) c.copy.result s r = record {
      came = came e.gives;
      all = g.met.B.Blocks.keeps_all on raw e.keeps;
      laws = record { present = g.met.B.Blocks.present on; active = (g.met.B.Blocks.active on).0; not_one = (g.met.B.Blocks.active on).1; one = g.met.B.Blocks.one_place on; super_stands = g.met.B.Blocks.super_stands on; placed = λ told. g.met.B.Blocks.placed on s.now (g.met.B.Blocks.present on told); ranked = λ told. g.met.B.Blocks.ranked on s.now (g.met.B.Blocks.present on told); live = λ y told ne r. g.met.B.Blocks.live on y told ne r; clears = g.met.B.Blocks.clears_entries on; waits_within = g.met.B.Blocks.waits_within on; covers_told = g.met.B.Blocks.covers_told on; within = g.met.B.Blocks.within on; spelled = g.met.B.Blocks.spelled on; apart_hangs = λ told w is r. g.met.B.Blocks.apart_hangs on s.now 1 w is (g.met.B.Blocks.present on told) (g.met.B.Blocks.active on).0 r; small = g.met.B.Blocks.small on };
      is_live = refl;
      is_current = refl;
      has_kind = c.requires.ready.has_kind;
      tagged = c.requires.ready.tagged;
      long = ap length e.gives.memory.here.bytes ∙ c.requires.ready.long;
      raised_old = λ y h. subst (λ b. (s.label b).epoch < s.high) (sym ((e.instead y).0 h)) (c.is_current.ensures.older c.if-is_current.false);
      raised = λ y h. c.requires.is ∙ ap (λ b. Local b) (sym ((e.instead y).0 h));
      raises = λ y h. (e.instead y).1 (local_eq (sym h ∙ c.requires.is));
      was = λ told y h. let same : c.args.at ≡ y = local_eq (sym c.requires.is ∙ h) in subst (λ b. ((s.label b).state ≡ Live) × ((s.label b).epoch < s.high) × (s.apart b → ⊥)) same (c.requires.ready.live, c.is_current.ensures.older c.if-is_current.false, λ apart. g.met.B.Blocks.apart_hangs on s.now 1 c.args.at apart (g.met.B.Blocks.present on told) (g.met.B.Blocks.active on).0 ((c.requires.told told).in_tree (c.is_current.ensures.older c.if-is_current.false)));
      made_apart = λ told y z h. (g.met.B.Blocks.instead_of on y z z told h).0;
      stands = λ told. e.place told (place (kind_at t.dir t.depth) t.tag 0 (t.rank + t.depth)) (c.requires.hangs.told told c.args.at c.requires.is).0;
      content = subst (λ (p : Pointer). Becomes s r t c.args.kept.now t.depth p c.copy.result) (sym c.requires.is) e.gives.memory.here;
    } in
    let told_old : (image : Image) → r.may_leave image → s.tells = λ image is. topped.all.still_tells.0 (g.met.B.Blocks.told raw image is) in
    let still : (r.label c.args.at).epoch < r.high = subst (λ n. (r.label c.args.at).epoch < n) (sym topped.all.same_high) (subst (λ (q : Label). q.epoch < s.high) (sym (e.gives.stays.labels c.args.at ne)) older) in
    let not_one : c.args.at ≢ 1 = λ one. topped.laws.not_one (subst (λ y. s.is_block y) one (c.requires.hangs.is_one c.args.at c.requires.is)) in
    alike_top_copied topped c.requires.hangs
    (record { super_at = λ image is. g.met.B.Blocks.super_stands on (g.met.B.Blocks.told on image is); each = λ image is. g.met.B.Blocks.placed on image is })
    (record { super_at = λ image is. g.met.B.Blocks.super_stands raw (g.met.B.Blocks.told raw image is); each = λ image is. g.met.B.Blocks.placed raw image is })
    (g.met.B.Blocks.active raw).0 (g.met.B.Blocks.one_place raw) c.args.at c.requires.is
    (record { bytes = e.gives.memory.here.bytes ∙ sym other.bytes; slots = λ j. e.gives.memory.here.slots j ∙ sym (other.slots j) })
    (λ image is. (g.met.B.Blocks.old_is_sure raw 1 c.args.at (g.met.B.Blocks.active raw).0 not_one (came_in_tree topped (told_old image is) c.args.at ((c.requires.told (told_old image is)).in_tree older)) still).each image is)
    (g.met.B.Blocks.sure raw c.copy.result (inr e.gives.is.2)).each
