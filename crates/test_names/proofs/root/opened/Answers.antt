use Rattle.std.proofs.Common.{◌≡◌, ◌∙◌, sym, ap, subst, rules}
use Rattle.fo_image.specs.declared.types.Kind.TheVariants.{Root}
use Rattle.fo_looks.proofs.Looks.{looks_joins}
use Rattle.fo_tree_look.specs.Source.{NoneHeld}
use Rattle.fo_tree_open.specs.Open.{HasEntry, CanOpen, tree_of}
use Rattle.test_names.specs.Parts.{slot_of, is_dir_of, rank_of}
use Rattle.test_names.proofs.Opening.{can_open, source_given}
use Rattle.test_names.specs.Root.{IsInMemory}
use Rattle.test_names.proofs.Ground.{Ground, has_entry, none_looks}
use Rattle.test_names.proofs.root.opened.Given as given
use Rattle.test_names.proofs.root.opened.Goals as goal

ground_of : (g : given.Over) (b : g.row.B.Denot) → IsInMemory (g.B.Blocks.state b) → Ground (g.B.Blocks.state b)
ground_of g b memory =
    let s = g.B.Blocks.state b in
    let told = memory.told in
    record {
      told = told;
      active = (g.met.B.Blocks.active b).0;
      not_one = (g.met.B.Blocks.active b).1;
      placed = g.met.B.Blocks.placed b s.now (g.met.B.Blocks.present b told);
      ranked = g.met.B.Blocks.ranked b s.now (g.met.B.Blocks.present b told);
      one = g.met.B.Blocks.one_place b;
      super_stands = g.met.B.Blocks.super_stands b told;
      labelled = λ y q ne stands. g.met.B.Blocks.labelled b y q told ne stands;
      live = λ y ne r. g.met.B.Blocks.live b y told ne r;
      root_named = g.met.B.Blocks.root_named b told;
      root_block = (g.met.B.Blocks.root_is b).0;
      root_is = (g.met.B.Blocks.root_is b).1 told;
    }

pub returns-in_err-is_unheld-clause-looks : goal.returns-in_err-is_unheld-clause-looks
returns-in_err-is_unheld-clause-looks g c = looks_joins (g.met.B.Blocks.keeps_all c.args.on.now c.pinned_root.new.on c.pinned_root.ensures.keeps) c.pinned_root.ensures.looks c.is_unheld.ensures.looks

pub returns-then-not-branch-clause-looks : goal.returns-then-not-branch-clause-looks
returns-then-not-branch-clause-looks g c = looks_joins (g.met.B.Blocks.keeps_all c.args.on.now c.pinned_root.new.on c.pinned_root.ensures.keeps) c.pinned_root.ensures.looks c.is_unheld.ensures.looks

pub returns-clause-looks : goal.returns-clause-looks
returns-clause-looks g c = looks_joins (g.met.B.Blocks.keeps_all c.args.on.now c.pinned_root.new.on c.pinned_root.ensures.keeps) c.pinned_root.ensures.looks c.is_unheld.ensures.looks

pub open-requires-clause-leaf : goal.open-requires-clause-leaf
open-requires-clause-leaf g c =
    let mid = c.pinned_root.new.on in
    let end = c.is_unheld.new.on in
    let u = g.B.Blocks.state end in
    let ground = ground_of g end (c.requires.memory end) in
    let at_root : c.in_ok-root.root ≡ u.root = c.in_ok-root.ensures.root.0 ∙ sym (g.met.B.Blocks.keeps_all mid end c.is_unheld.ensures.keeps).same_root in
    let kind : (u.label c.in_ok-root.root).kind ≡ Root = ap (λ b. (u.label b).kind) at_root ∙ ground.root_is.1 in
    subst (λ i. HasEntry (u.label c.in_ok-root.root).kind i) (sym c.slot.ensures) (subst (λ k. HasEntry k (slot_of c.args.part)) (sym kind) (has_entry c.args.part))

pub open-requires-clause-told : goal.open-requires-clause-told
open-requires-clause-told g c = λ told.
    let mid = c.pinned_root.new.on in
    let end = c.is_unheld.new.on in
    let u = g.B.Blocks.state end in
    let p = c.args.part in
    let e = c.in-Some.entry in
    let ground = ground_of g end (c.requires.memory end) in
    let at_root : c.in_ok-root.root ≡ u.root = c.in_ok-root.ensures.root.0 ∙ sym (g.met.B.Blocks.keeps_all mid end c.is_unheld.ensures.keeps).same_root in
    let comes = none_looks c.is_unheld.ensures.looks (none_looks c.pinned_root.ensures.looks c.requires.none) in
    let dir : e.dir ≡ is_dir_of p = search rules in
    let unheld : NoneHeld u (tree_of e (rank_of p)) = search rules in
    subst (λ b. CanOpen u b c.slot.result e c.rank.result) (sym at_root)
    (subst (λ i. CanOpen u u.root i e c.rank.result) (sym c.slot.ensures)
    (subst (λ r. CanOpen u u.root (slot_of p) e r) (sym c.rank.ensures)
    (can_open ground comes p e dir unheld)))

pub returns-clause-source : goal.returns-clause-source
returns-clause-source g c =
    let mid = c.pinned_root.new.on in
    let end = c.is_unheld.new.on in
    let u = g.B.Blocks.state end in
    let p = c.args.part in
    let e = c.in-Some.entry in
    let root = c.in_ok-root.root in
    let told = (c.requires.memory end).told in
    let looks = c.is_unheld.ensures.looks in
    let at_root : root ≡ u.root = c.in_ok-root.ensures.root.0 ∙ sym (g.met.B.Blocks.keeps_all mid end c.is_unheld.ensures.keeps).same_root in
    let comes = none_looks looks (none_looks c.pinned_root.ensures.looks c.requires.none) in
    let slot = ((looks.memory (c.requires.memory mid).told).each root).slots (slot_of p) ∙ c.in-Some.ensures in
    let dir : e.dir ≡ is_dir_of p = search rules in
    source_given u p e root c.slot.result c.tag.result c.rank.result c.limit.result c.open.result c.slot.ensures c.tag.ensures c.rank.ensures c.limit.ensures at_root ((looks.stays.marks root (λ n. n)).0 c.in_ok-root.ensures.root.1) slot dir comes told
    c.open.ensures.fits c.open.ensures.is c.open.ensures.over c.open.ensures.linked
