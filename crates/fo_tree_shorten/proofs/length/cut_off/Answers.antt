use Rattle.std.proofs.Common.{◌≡◌, ◌-◌, ◌<◌, ◌≤◌, ℕ, List, take, refl, sym, ap, subst, arith}
use Rattle.fo_image.specs.declared.types.Pointer.TheVariants.{Nil}
use Rattle.fo_ports.specs.Sources.{depth_for}
use Rattle.fo_tree_read.specs.declared.tree.Tree.{Tree}
use Rattle.fo_tree_look.specs.declared.ways.Kept.{Kept}
use Rattle.fo_tree_look.specs.Source.{Over, WayReady, leaves_of}
use Rattle.fo_tree_look.proofs.Held.{seen_block}
use Rattle.fo_tree_link.specs.of_tree_down.Clear.{last_leaf}
use Rattle.fo_tree_link.proofs.of_tree_own.Link.{Laws}
use Rattle.fo_tree_link.specs.Link.{CanLink}
use Rattle.fo_tree_link.specs.Change.{HangsInTree}
use Rattle.fo_tree_link.proofs.Emptied.{can_empty}
use Rattle.fo_tree_link.proofs.Linked.{Linked, same_link}
use Rattle.fo_tree_link.proofs.Lowered.{can_lower}
use Rattle.fo_tree_trim.specs.Trim.{lower_tree}
use Rattle.fo_tree_trim.proofs.Above.{deep_size}
use Rattle.fo_tree_trim.proofs.Lowering.{Lowers, least_le, tops_pinned}
use Rattle.fo_tree_shorten.specs.Shorten.{EntryAt}
use Rattle.fo_tree_shorten.proofs.Standing.{not_both}
use Rattle.fo_tree_shorten.proofs.length.cut_off.Given as given
use Rattle.fo_tree_shorten.proofs.length.cut_off.Goals as goal

laws_of : (g : given.Over) (b : g.row.B.Denot) → Laws (g.B.Blocks.state b)
laws_of g b =
    let s = g.B.Blocks.state b in
    record { present = g.met.B.Blocks.present b; active = (g.met.B.Blocks.active b).0; not_one = (g.met.B.Blocks.active b).1; one = g.met.B.Blocks.one_place b; super_stands = g.met.B.Blocks.super_stands b; placed = λ told. g.met.B.Blocks.placed b s.now (g.met.B.Blocks.present b told); ranked = λ told. g.met.B.Blocks.ranked b s.now (g.met.B.Blocks.present b told); live = λ y told ne r. g.met.B.Blocks.live b y told ne r; clears = g.met.B.Blocks.clears_entries b; waits_within = g.met.B.Blocks.waits_within b; covers_told = g.met.B.Blocks.covers_told b; within = g.met.B.Blocks.within b; spelled = g.met.B.Blocks.spelled b; apart_hangs = λ told w is r. g.met.B.Blocks.apart_hangs b s.now 1 w is (g.met.B.Blocks.present b told) (g.met.B.Blocks.active b).0 r; small = g.met.B.Blocks.small b }

linked_of : (g : given.Over) (on : g.row.B.Denot) {t : Tree} {kept : List Kept} {limit generation at i : ℕ} → (g.B.Blocks.state on).tells → Over (g.B.Blocks.state on) t kept limit → EntryAt (g.B.Blocks.state on) t generation at i → ((g.B.Blocks.state on).tells → HangsInTree (g.B.Blocks.state on) t at i) → Linked (g.B.Blocks.state on) t kept limit generation at i
linked_of g on {kept = kept} {limit = limit} told over entry linked =
    let s = g.B.Blocks.state on in
    record {
      linking = record {
        laws = laws_of g on;
        few = λ tells. g.met.B.Blocks.few on s.now (g.met.B.Blocks.present on tells);
        falls = λ tells b j below ne r leads. g.met.B.Blocks.falls on 1 b j below tells (g.met.B.Blocks.active on).0 ne r leads;
        one_stays = g.met.B.Blocks.one_stays on;
        over = over;
        leaf = entry.leaf;
        told = λ tells. same_link {kept = kept} {limit = limit} (laws_of g on) (g.met.B.Blocks.one_stays on) (g.met.B.Blocks.keeps_all on on (g.met.B.Blocks.keeps_at_once on)) over entry.is tells (linked tells);
      };
      says = record { placed = g.met.B.Blocks.placed on s.now (g.met.B.Blocks.present on told); one = g.met.B.Blocks.one_place on; active = (g.met.B.Blocks.active on).0; super_stands = g.met.B.Blocks.super_stands on told; labelled = λ b p ne stands. (g.met.B.Blocks.labelled on b p told ne stands).1 };
      told = told;
      entry = entry.is;
      linked = linked told;
    }

lowers_of : (g : given.Over) (on : g.row.B.Denot) {t : Tree} {kept : List Kept} (end : ℕ) {limit at i : ℕ} → Over (g.B.Blocks.state on) t kept limit → 0 < end → end ≤ t.size → WayReady (g.B.Blocks.state on) t kept t.depth (last_leaf end) → ((g.B.Blocks.state on).tells → HangsInTree (g.B.Blocks.state on) t at i) → Lowers (g.B.Blocks.state on) t kept end limit
lowers_of g on end over some within ready linked =
    let s = g.B.Blocks.state on in
    record {
      over = over;
      some = some;
      within = within;
      ready = ready;
      linked = λ told b e. (linked told).owned b (record { down = 0; index = 0; within = omega arith; is = e });
      placed = λ told. g.met.B.Blocks.placed on s.now (g.met.B.Blocks.present on told);
      active = (g.met.B.Blocks.active on).0;
      is_block = g.met.B.Blocks.within on;
      spelled = g.met.B.Blocks.spelled on;
      alone = λ told y b h r. g.met.B.Blocks.apart_hangs on s.now 1 y (g.met.B.Blocks.instead_of on y b b told h).0 (g.met.B.Blocks.present on told) (g.met.B.Blocks.active on).0 r;
    }

abbrev empty_tree : Tree → Tree
empty_tree t = record t { depth = 0; size = 0; top = Nil }

pub returns-then-end-eq0-clause-can : goal.returns-then-end-eq0-clause-can
returns-then-end-eq0-clause-can g c = λ told.
    let on = c.args.on.now in
    let s = g.B.Blocks.state on in
    let t = c.args.tree.now in
    let kept = c.args.kept.now in
    subst (λ (y : Tree). CanLink s y c.args.generation c.args.at c.args.i) (sym c.emptied.ensures) (can_empty {t = t} {new = empty_tree t} {kept = kept} {limit = c.requires.over.0} (record {
      was = linked_of g on told c.requires.over.1 c.requires.entry c.requires.linked;
      same = (refl, refl);
      empty = (refl, refl, refl);
      settled = λ dir. absurd (not_both dir c.requires.data);
    }))

pub returns-then-end-eq0-clause-tops : goal.returns-then-end-eq0-clause-tops
returns-then-end-eq0-clause-tops g c = λ n b lt is.
    let on = c.args.on.now in
    let s = g.B.Blocks.state on in
    let t = c.args.tree.now in
    let kept = c.args.kept.now in
    let over = c.requires.over.1 in
    let none = c.if-end-eq0.true in
    let deep : 0 < t.depth = omega (arith, lt) in
    let size = deep_size t over.least (omega (arith, over.within, over.low)) deep in
    let first : last_leaf c.args.end ≡ last_leaf 1 = ap last_leaf none in
    let ready : WayReady s t kept t.depth (last_leaf 1) = subst (λ k. WayReady s t kept t.depth k) first (c.requires.ready (omega (arith, size))) in
    tops_pinned (lowers_of g on {t = t} {kept = kept} 1 over (omega arith) (omega (arith, size)) ready c.requires.linked) n b (omega (arith, lt)) is

pub lowered-requires-clause-linked : goal.lowered-requires-clause-linked
lowered-requires-clause-linked g c = λ told b e. (c.requires.linked told).owned b (record { down = 0; index = 0; within = omega arith; is = e })

pub returns-clause-over : goal.returns-clause-over
returns-clause-over g c = λ limit over.
    let s = g.B.Blocks.state c.args.on.now in
    subst (λ (y : Tree). Over s y c.args.kept.now limit) (sym c.lowered.ensures.tree) (c.lowered.ensures.over limit over)

pub returns-clause-can : goal.returns-clause-can
returns-clause-can g c = λ told.
    let on = c.args.on.now in
    let s = g.B.Blocks.state on in
    let t = c.args.tree.now in
    let kept = c.args.kept.now in
    let end = c.args.end in
    let over = c.requires.over.1 in
    let some = c.if-end-eq0.false in
    let within = c.requires.end in
    let lowers = lowers_of g on {t = t} {kept = kept} end over (omega (arith, some)) within (c.requires.ready (omega (arith, some, within))) c.requires.linked in
    subst (λ (y : Tree). CanLink s y c.args.generation c.args.at c.args.i) (sym c.lowered.ensures.tree) (can_lower {t = t} {new = lower_tree s t kept end} {kept = kept} {limit = c.requires.over.0} (record {
      was = linked_of g on told over c.requires.entry c.requires.linked;
      same = (refl, refl);
      fewer = least_le lowers;
      top = seen_block s kept over.held told t (t.depth - depth_for end) 0;
      local_down = c.requires.local_down told;
      settled = λ dir. absurd (not_both dir c.requires.data);
    }))

pub returns-clause-bytes : goal.returns-clause-bytes
returns-clause-bytes g c = λ told limit.
    let s = g.B.Blocks.state c.args.on.now in
    let t = c.args.tree.now in
    let kept = c.args.kept.now in
    subst (λ (y : Tree). (leaves_of s y kept limit).bytes ≡ take c.args.end (leaves_of s t kept limit).bytes) (sym c.lowered.ensures.tree) (c.lowered.ensures.bytes told limit)
