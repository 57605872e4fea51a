use Rattle.std.proofs.Common.{◌≡◌, ◌*◌, ◌/◌, ℕ, List, ⊎_elim, sym, ◌∙◌, ap, subst, arith}
use Rattle.std.proofs.lemmas.Bool.{cases_eq}
use Rattle.fo_image.specs.declared.types.Pointer.TheVariants.{Local}
use Rattle.fo_tree_read.specs.declared.tree.Tree.{Tree}
use Rattle.fo_tree_look.specs.declared.ways.Kept.{Kept}
use Rattle.fo_tree_look.specs.Source.{Over}
use Rattle.fo_tree_link.specs.of_tree_down.Clear.{last_leaf}
use Rattle.fo_tree_trim.proofs.Along.{Aside, on_device}
use Rattle.fo_tree_trim.proofs.Ending.{end_few}
use Rattle.fo_tree_trim.proofs.Linked.{may_cut_is}
use Rattle.fo_tree_trim.proofs.Past.{Said, index_above}
use Rattle.fo_tree_shorten.proofs.Entries.{entry_cut}
use Rattle.fo_tree_shorten.proofs.Hanging.{hangs_on}
use Rattle.fo_tree_shorten.proofs.Standing.{not_both}
use Rattle.fo_tree_shorten.proofs.behind.cut.Given as given
use Rattle.fo_tree_shorten.proofs.behind.cut.Goals as goal

local_same : {a b : ℕ} → Local a ≡ Local b → a ≡ b
local_same e = cc

said_of : (g : given.Over) (b : g.row.B.Denot) {t : Tree} {kept : List Kept} {limit : ℕ} → (g.B.Blocks.state b).tells → Over (g.B.Blocks.state b) t kept limit → Said (g.B.Blocks.state b) t (last_leaf t.size)
said_of g b {t = t} told over =
    let s = g.B.Blocks.state b in
    record {
      told = told;
      hangs = over.hangs;
      placed = g.met.B.Blocks.placed b s.now (g.met.B.Blocks.present b told);
      ranked = g.met.B.Blocks.ranked b s.now (g.met.B.Blocks.present b told);
      slots = g.met.B.Blocks.few b s.now (g.met.B.Blocks.present b told);
      one = g.met.B.Blocks.one_place b;
      few = end_few t over.hangs.room;
      super_stands = g.met.B.Blocks.super_stands b told;
      kinds = λ y p ne stands. (g.met.B.Blocks.labelled b y p told ne stands).1;
    }

pub cut_ways-requires-clause-may : goal.cut_ways-requires-clause-may
cut_ways-requires-clause-may g c = λ now. may_cut_is {s = g.B.Blocks.state c.args.on.now} {t = c.args.ways.now.tree} {last = last_leaf c.args.ways.now.tree.size} (record {
  said = said_of g c.args.on.now {t = c.args.ways.now.tree} now c.requires.over;
  linked = λ b e. (c.requires.linked now).owned b (record { down = 0; index = 0; within = omega arith; is = e });
  told = c.requires.over.told now;
  aside = λ y b is r. (c.requires.linked now).none y b is;
  clears = λ b j h. (g.met.B.Blocks.clears_entries c.args.on.now b j h).0;
  alone = λ dir. absurd (not_both dir c.requires.data);
  settled = λ dir. absurd (not_both dir c.requires.data);
})

pub returns-clause-entry : goal.returns-clause-entry
returns-clause-entry g c =
    let put = c.args.on.now in
    let end = c.cut_ways.new.on in
    let u = g.B.Blocks.state put in
    let v = g.B.Blocks.state end in
    let at = c.args.at in
    let i = c.args.i in
    let ways = c.args.ways.now in
    let t = ways.tree in
    let last = g.met.B.Blocks.keeps_all put end c.cut_ways.ensures.keeps in
    let aside : Aside u v t ways.kept.items (last_leaf t.size) (409 * t.depth) = record { cuts = c.cut_ways.ensures.cuts; all = last; deep = c.requires.deep; ready = c.requires.ready; current = c.requires.current c.requires.deep } in
    let standing = c.requires.entry in
    entry_cut standing last (aside.cuts.labels at)
    (⊎_elim
    (λ slot. slot)
    (λ cut.
    let p = cut.0 in
    let d = on_device aside p.down (p.way / 409) p.within (index_above t.depth (last_leaf t.size) p.down p.way p.is_way) in
    let here : d.at ≡ at = local_same (sym d.is ∙ p.is) in
    absurd (standing.apart (ap (λ y. (u.label y).tag) (sym here) ∙ d.ready.tagged)))
    (aside.cuts.slots at i))
    (aside.cuts.marks at).0
    (λ h. (aside.cuts.order at i).0 h)

pub returns-clause-linked : goal.returns-clause-linked
returns-clause-linked g c = λ told.
    let put = c.args.on.now in
    let end = c.cut_ways.new.on in
    let u = g.B.Blocks.state put in
    let v = g.B.Blocks.state end in
    let at = c.args.at in
    let i = c.args.i in
    let ways = c.args.ways.now in
    let t = ways.tree in
    let last = g.met.B.Blocks.keeps_all put end c.cut_ways.ensures.keeps in
    let aside : Aside u v t ways.kept.items (last_leaf t.size) (409 * t.depth) = record { cuts = c.cut_ways.ensures.cuts; all = last; deep = c.requires.deep; ready = c.requires.ready; current = c.requires.current c.requires.deep } in
    let over = c.requires.over in
    let hangs = c.requires.linked told in
    hangs_on {u = u} {v = v} {t = t} {kept = ways.kept.items} {last = last_leaf t.size} {at = at} {i = i} (record {
      trims = record {
        aside = aside;
        few = end_few t over.hangs.room;
        said = λ now. said_of g put {t = t} now over;
        may = λ now. may_cut_is {s = g.B.Blocks.state c.args.on.now} {t = c.args.ways.now.tree} {last = last_leaf c.args.ways.now.tree.size} (record {
          said = said_of g c.args.on.now {t = c.args.ways.now.tree} now c.requires.over;
          linked = λ b e. (c.requires.linked now).owned b (record { down = 0; index = 0; within = omega arith; is = e });
          told = c.requires.over.told now;
          aside = λ y b is r. (c.requires.linked now).none y b is;
          clears = λ b j h. (g.met.B.Blocks.clears_entries c.args.on.now b j h).0;
          alone = λ dir. absurd (not_both dir c.requires.data);
          settled = λ dir. absurd (not_both dir c.requires.data);
        });
      };
      told = told;
      active = (g.met.B.Blocks.active end).0;
      hangs = hangs;
      few = over.hangs.few;
      uncovered = ⊎_elim
          (λ one h. g.met.B.Blocks.one_stays put (subst (λ y. u.covered y) one h))
          (λ ne h. (g.met.B.Blocks.live put at told ne hangs.in_tree).2 h)
          (cases_eq at 1);
      end = g.met.B.Blocks.one_place end;
    })
