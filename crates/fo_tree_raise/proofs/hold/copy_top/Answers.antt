use Rattle.std.proofs.Common.{◌≡◌, ◌≢◌, ◌+◌, ◌-◌, ◌^◌, ◌<◌, ℕ, length, inl, inr, ⊎_elim, refl, sym, ◌∙◌, ap, subst, arith}
use Rattle.std.proofs.lemmas.Bool.{cases_eq}
use Rattle.fo_image.specs.declared.types.State.TheVariants.{Live}
use Rattle.fo_image.specs.declared.types.Label.{Label}
use Rattle.fo_image.specs.declared.types.Pointer.{Pointer}
use Rattle.fo_image.specs.declared.types.Pointer.TheVariants.{Nil, Local}
use Rattle.fo_crash.specs.Images.{Image}
use Rattle.fo_crash.specs.Places.{place}
use Rattle.fo_tree_read.specs.Tree.{kind_at}
use Rattle.fo_tree_look.specs.Source.{IsPrepared, WayReady, Ready}
use Rattle.fo_tree_down.specs.of_tree_own.Step.{Becomes}
use Rattle.fo_tree_down.proofs.of_tree_own.Link.{Laws, came, came_shows, local_eq}
use Rattle.fo_tree_down.specs.Way.{Comes}
use Rattle.fo_tree_down.proofs.Dirtying.{dirties_made}
use Rattle.fo_tree_down.proofs.Topping.{Topped, in_tree as came_in_tree, comes_topped, top_topped, came_made}
use Rattle.fo_tree_down.proofs.Join.{changes_of}
use Rattle.fo_tree_down.proofs.Beside.{WentDown, last_leads, on_way_block}
use Rattle.fo_tree_down.proofs.Stilling.{WasOwned, prepared_still, way_still, way_from}
use Rattle.fo_tree_down.proofs.Telling.{over_end}
use Rattle.fo_tree_raise.proofs.Holding.{Holding, made_result, made_is, adds_copy, can_copy, clear_copy}
use Rattle.fo_tree_down.proofs.Alikes.{alike_top_copied}
use Rattle.fo_tree_raise.proofs.hold.copy_top.Given as given
use Rattle.fo_tree_raise.proofs.hold.copy_top.Goals as goal

laws_of : (g : given.Over) (b : g.row.B.Denot) → Laws (g.B.Blocks.state b)
laws_of g b =
    let s = g.B.Blocks.state b in
    record { present = g.met.B.Blocks.present b; active = (g.met.B.Blocks.active b).0; not_one = (g.met.B.Blocks.active b).1; one = g.met.B.Blocks.one_place b; super_stands = g.met.B.Blocks.super_stands b; placed = λ told. g.met.B.Blocks.placed b s.now (g.met.B.Blocks.present b told); ranked = λ told. g.met.B.Blocks.ranked b s.now (g.met.B.Blocks.present b told); live = λ y told ne r. g.met.B.Blocks.live b y told ne r; clears = g.met.B.Blocks.clears_entries b; waits_within = g.met.B.Blocks.waits_within b; covers_told = g.met.B.Blocks.covers_told b; within = g.met.B.Blocks.within b; spelled = g.met.B.Blocks.spelled b; apart_hangs = λ told w is r. g.met.B.Blocks.apart_hangs b s.now 1 w is (g.met.B.Blocks.present b told) (g.met.B.Blocks.active b).0 r; small = g.met.B.Blocks.small b }

pub copy-requires-clause-in_tree : goal.copy-requires-clause-in_tree
copy-requires-clause-in_tree g c = λ told. (c.requires.over.1.told told c.args.at (record { down = 0; index = 0; within = omega arith; is = c.requires.is })).in_tree c.requires.older

abbrev label_at : (g : given.Over) (c : goal.After-copy g) → Label
label_at g c = record ((g.B.Blocks.state c.args.on.now).label c.args.at) { state = Live; epoch = (g.B.Blocks.state c.args.on.now).high; closing = 2 ^ 32 - 1 }

holding : (g : given.Over) (c : goal.After-copy g) → Holding c.args.tree.now c.args.at (label_at g c) c.copy.result (g.B.Blocks.state c.args.on.now) (g.B.Blocks.state c.copy.new.self)
holding g c =
    let on = c.args.on.now in
    let end = c.copy.new.self in
    let t = c.args.tree.now in
    let e = c.copy.ensures in
    let over = c.requires.over.1 in
    record {
      came = came e.gives;
      all = g.met.B.Blocks.keeps_all on end e.keeps;
      laws = laws_of g on;
      later = laws_of g end;
      is_live = refl;
      is_current = refl;
      tagged = c.requires.ready.tagged;
      top = c.requires.is;
      was_live = c.requires.ready.live;
      in_tree = λ told. (over.told told c.args.at (record { down = 0; index = 0; within = omega arith; is = c.requires.is })).in_tree c.requires.older;
      stood = λ told. (over.hangs.told told c.args.at c.requires.is).0;
      here = e.gives.memory.here;
      instead = λ y h. (e.instead y).0 h;
      stands = λ told. e.place told (place (kind_at t.dir t.depth) t.tag 0 (t.rank + t.depth)) (over.hangs.told told c.args.at c.requires.is).0;
    }

topped : (g : given.Over) (c : goal.After-copy g) → Topped c.args.tree.now c.args.kept.now (label_at g c) c.copy.result (g.B.Blocks.state c.args.on.now) (g.B.Blocks.state c.copy.new.self)
topped g c =
    let on = c.args.on.now in
    let s = g.B.Blocks.state c.args.on.now in
    let m = g.B.Blocks.state c.copy.new.self in
    let t = c.args.tree.now in
    let e = c.copy.ensures in
    let x = holding g c in
    record {
      came = x.came;
      all = x.all;
      laws = x.laws;
      is_live = refl;
      is_current = refl;
      has_kind = c.requires.ready.has_kind;
      tagged = c.requires.ready.tagged;
      long = ap length e.gives.memory.here.bytes ∙ c.requires.ready.long;
      raised = λ y h. c.requires.is ∙ ap (λ b. Local b) (sym ((e.instead y).0 h));
      raises = λ y h. (e.instead y).1 (local_eq (sym h ∙ c.requires.is));
      was = λ told y h.
          let same : c.args.at ≡ y = local_eq (sym c.requires.is ∙ h) in
          subst (λ b. ((s.label b).state ≡ Live) × ((s.label b).epoch < s.high) × (s.apart b → ⊥)) same
          (c.requires.ready.live, c.requires.older, λ apart. x.laws.apart_hangs told c.args.at apart (x.in_tree told));
      made_apart = λ told y z h. (g.met.B.Blocks.instead_of on y z z told h).0;
      raised_old = λ y h. subst (λ b. (s.label b).epoch < s.high) (sym ((e.instead y).0 h)) c.requires.older;
      stands = x.stands;
      content = subst (λ (p : Pointer). Becomes s m t c.args.kept.now t.depth p c.copy.result) (sym c.requires.is) e.gives.memory.here;
    }

comes : (g : given.Over) (c : goal.After-copy g) → Comes (g.B.Blocks.state c.args.on.now) (g.B.Blocks.state c.copy.new.self) c.args.tree.now c.args.kept.now 0 0 c.copy.result
comes g c = comes_topped (topped g c) 0 (omega arith)

ready : (g : given.Over) (c : goal.After-copy g) → WayReady (g.B.Blocks.state c.args.on.now) c.args.tree.now c.args.kept.now 0 0
ready g c =
    let s = g.B.Blocks.state c.args.on.now in
    let t = c.args.tree.now in
    let all : t.depth ≡ t.depth - 0 = omega arith in
    subst (λ (p : Pointer). Ready s t c.args.kept.now 0 p) (sym c.requires.is) (subst (λ d. IsPrepared s (kind_at t.dir d) t.tag c.args.at) all c.requires.ready)

owned : (g : given.Over) (c : goal.After-copy g) → WasOwned (g.B.Blocks.state c.args.on.now) (g.B.Blocks.state c.copy.new.self) c.args.tree.now c.args.kept.now c.copy.result 0 0 c.copy.result
owned g c =
    let s = g.B.Blocks.state c.args.on.now in
    let m = g.B.Blocks.state c.copy.new.self in
    let t = c.args.tree.now in
    let is = comes g c in
    record {
      all = (holding g c).all;
      within = omega arith;
      few = omega arith;
      ready = ready g c;
      leads = (
        refl,
        record {
          own = is.own;
          from = inl (made_result (holding g c));
          kept = λ b e current.
              let older = c.requires.older in
              let same : b ≡ c.args.at = local_eq (sym e ∙ c.requires.is) in
              let here : (s.label c.args.at).epoch ≡ s.high = subst (λ y. (s.label y).epoch ≡ s.high) same current in
              absurd (omega (arith, older, here));
        },
      );
      last = last_leads s m t c.args.kept.now 0 0 c.copy.result (ready g c) is;
      descends = is.descends;
    }

pub returns-clause-comes : goal.returns-clause-comes
returns-clause-comes g c = comes g c

pub returns-clause-top : goal.returns-clause-top
returns-clause-top g c = top_topped (topped g c)

pub returns-clause-made : goal.returns-clause-made
returns-clause-made g c = (made_result (holding g c), (holding g c).came.is.3)

pub returns-clause-given : goal.returns-clause-given
returns-clause-given g c = λ b made. made_is (holding g c) b made

pub returns-clause-adds : goal.returns-clause-adds
returns-clause-adds g c = adds_copy (holding g c)

pub returns-clause-under : goal.returns-clause-under
returns-clause-under g c = can_copy (holding g c)

nil_top : (at : ℕ) → Nil ≡ Local at → ⊥
nil_top at e = cc

pub returns-clause-over : goal.returns-clause-over
returns-clause-over g c = λ limit whole.
    let on = c.args.on.now in
    let s = g.B.Blocks.state on in
    let m = g.B.Blocks.state c.copy.new.self in
    let t = c.args.tree.now in
    let kept = c.args.kept.now in
    let is = comes g c in
    let o = owned g c in
    let went : s.tells → WentDown s m t kept c.copy.result 0 0 c.copy.result (t.depth - 0) = λ told. record {
      all = o.all;
      hangs = whole.hangs;
      told = told;
      says = record { placed = g.met.B.Blocks.placed on s.now (g.met.B.Blocks.present on told); one = g.met.B.Blocks.one_place on };
      held = whole.held;
      live = λ b has. (whole.told told b has).live;
      within = omega arith;
      few = omega arith;
      leads = o.leads;
      last = o.last;
      descends = is.descends;
    } in
    let some : 0 < t.size = ⊎_elim (λ none. absurd (nil_top c.args.at (sym (whole.empty none) ∙ c.requires.is))) (λ ne. omega (arith, ne)) (cases_eq t.size 0) in
    over_end o (top_topped (topped g c)) (record {
      small = (laws_of g c.copy.new.self).small;
      active = (g.met.B.Blocks.active c.copy.new.self).0;
      unlinked = (laws_of g on).apart_hangs;
      comes = λ now y z h. (g.met.B.Blocks.instead_of c.copy.new.self y z z now h).0;
    }) went some whole

pub returns-clause-still : goal.returns-clause-still
returns-clause-still g c = λ limit o n was. prepared_still (owned g c) limit o n was

pub returns-clause-clear : goal.returns-clause-clear
returns-clause-clear g c = λ clear. clear_copy (holding g c) c.args.kept.now (λ limit o n was. prepared_still (owned g c) limit o n was) clear

pub returns-clause-spare : goal.returns-clause-spare
returns-clause-spare g c = c.copy.ensures.gives.uses.spare

pub returns-clause-changes : goal.returns-clause-changes
returns-clause-changes g c = changes_of (λ b on. on_way_block (g.B.Blocks.state c.args.on.now) c.args.tree.now 0 0 b (omega arith) on) (comes g c).descends

pub returns-clause-ways : goal.returns-clause-ways
returns-clause-ways g c = λ j b way.
    let t = c.args.tree.now in (way_still (owned g c) t.depth j (omega arith) way, way_from (owned g c) t.depth j b (omega arith) way)

pub returns-clause-dirties : goal.returns-clause-dirties
returns-clause-dirties g c =
    let e = c.copy.ensures in
    dirties_made c.copy.result (g.met.B.Blocks.keeps_all c.args.on.now c.copy.new.self e.keeps) (came_made (came e.gives)) e.gives.dirty (λ b j h. (e.gives.order.clearing b j h).1)

pub returns-clause-shown : goal.returns-clause-shown
returns-clause-shown g c = came_shows (g.met.B.Blocks.active c.args.on.now).0 (came c.copy.ensures.gives)

pub returns-clause-alike : goal.returns-clause-alike
returns-clause-alike g c =
    let on = c.args.on.now in
    let end = c.copy.new.self in
    let s = g.B.Blocks.state on in
    let m = g.B.Blocks.state end in
    let e = c.copy.ensures in
    let x = topped g c in
    let hangs = c.requires.over.1.hangs in
    let ne : c.args.at ≢ c.copy.result = λ same. e.gives.was.0 (ap (λ b. (s.label b).state) (sym same) ∙ c.requires.ready.live) in
    let other = e.gives.memory.others c.args.at ne in
    let told_old : (image : Image) → m.may_leave image → s.tells = λ image is. x.all.still_tells.0 (g.met.B.Blocks.told end image is) in
    let still : (m.label c.args.at).epoch < m.high = subst (λ n. (m.label c.args.at).epoch < n) (sym x.all.same_high) (subst (λ (q : Label). q.epoch < s.high) (sym (e.gives.stays.labels c.args.at ne)) c.requires.older) in
    let not_one : c.args.at ≢ 1 = λ one. x.laws.not_one (subst (λ y. s.is_block y) one (hangs.is_one c.args.at c.requires.is)) in
    alike_top_copied x hangs
    (record { super_at = λ image is. g.met.B.Blocks.super_stands on (g.met.B.Blocks.told on image is); each = λ image is. g.met.B.Blocks.placed on image is })
    (record { super_at = λ image is. g.met.B.Blocks.super_stands end (g.met.B.Blocks.told end image is); each = λ image is. g.met.B.Blocks.placed end image is })
    (g.met.B.Blocks.active end).0 (g.met.B.Blocks.one_place end) c.args.at c.requires.is
    (record { bytes = e.gives.memory.here.bytes ∙ sym other.bytes; slots = λ j. e.gives.memory.here.slots j ∙ sym (other.slots j) })
    (λ image is. (g.met.B.Blocks.old_is_sure end 1 c.args.at (g.met.B.Blocks.active end).0 not_one (came_in_tree x (told_old image is) c.args.at ((holding g c).in_tree (told_old image is))) still).each image is)
    (g.met.B.Blocks.sure end c.copy.result (inr e.gives.is.2)).each
