use Rattle.std.proofs.Common.{◌≡◌, ◌+◌, ℕ, false, List, take, sym, ◌∙◌, ap, subst, arith}
use Rattle.fo_image.specs.declared.types.Pointer.TheVariants.{Local}
use Rattle.fo_crash.specs.declared.slot.Slot.{Slot}
use Rattle.fo_crash.specs.Images.{target, depth_of}
use Rattle.fo_ports.specs.Sources.{depth_for}
use Rattle.fo_tree_read.specs.declared.tree.Tree.{Tree}
use Rattle.fo_tree_read.specs.Tree.{block_at}
use Rattle.fo_tree_look.specs.declared.ways.Kept.{Kept}
use Rattle.fo_tree_look.specs.Source.{Over, WayReady, leaves_of}
use Rattle.fo_tree_link.specs.of_tree_down.Clear.{last_leaf}
use Rattle.fo_tree_link.proofs.of_tree_own.Link.{Laws}
use Rattle.fo_tree_link.specs.Change.{HangsInTree}
use Rattle.fo_tree_link.proofs.Linked.{Linked, same_link}
use Rattle.fo_tree_link.proofs.Lowered.{first_of}
use Rattle.fo_tree_shorten.specs.Shorten.{EntryAt}
use Rattle.fo_tree_shorten.proofs.Beside.{Beside, ready_on, bytes_on}
use Rattle.fo_tree_shorten.proofs.Entries.{beside_put}
use Rattle.fo_tree_shorten.proofs.Showing.{data_shows, top_stands}
use Rattle.fo_tree_shorten.proofs.Standing.{Labelled, tagged}
use Rattle.fo_tree_shorten.proofs.Through.{through_own}
use Rattle.fo_tree_shorten.proofs.length.shorten.Given as given
use Rattle.fo_tree_shorten.proofs.length.shorten.Goals as goal

laws_of : (g : given.Over) (b : g.row.B.Denot) → Laws (g.B.Blocks.state b)
laws_of g b =
    let s = g.B.Blocks.state b in
    record { present = g.met.B.Blocks.present b; active = (g.met.B.Blocks.active b).0; not_one = (g.met.B.Blocks.active b).1; one = g.met.B.Blocks.one_place b; super_stands = g.met.B.Blocks.super_stands b; placed = λ told. g.met.B.Blocks.placed b s.now (g.met.B.Blocks.present b told); ranked = λ told. g.met.B.Blocks.ranked b s.now (g.met.B.Blocks.present b told); live = λ y told ne r. g.met.B.Blocks.live b y told ne r; clears = g.met.B.Blocks.clears_entries b; waits_within = g.met.B.Blocks.waits_within b; covers_told = g.met.B.Blocks.covers_told b; within = g.met.B.Blocks.within b; spelled = g.met.B.Blocks.spelled b; apart_hangs = λ told w is r. g.met.B.Blocks.apart_hangs b s.now 1 w is (g.met.B.Blocks.present b told) (g.met.B.Blocks.active b).0 r; small = g.met.B.Blocks.small b }

linked_of : (g : given.Over) (on : g.row.B.Denot) {t : Tree} {kept : List Kept} {limit generation at i : ℕ} → (g.B.Blocks.state on).tells → Over (g.B.Blocks.state on) t kept limit → EntryAt (g.B.Blocks.state on) t generation at i → ((g.B.Blocks.state on).tells → HangsInTree (g.B.Blocks.state on) t at i) → Linked (g.B.Blocks.state on) t kept limit generation at i
linked_of g on {kept = kept} {limit = limit} told over entry linked =
    let s = g.B.Blocks.state on in
    record {
      linking = record {
        laws = laws_of g on;
        few = λ tells. g.met.B.Blocks.few on s.now (g.met.B.Blocks.present on tells);
        falls = λ tells b j below ne r leads. g.met.B.Blocks.falls on 1 b j below tells (g.met.B.Blocks.active on).0 ne r leads;
        one_stays = g.met.B.Blocks.one_stays on;
        over = over;
        leaf = entry.leaf;
        told = λ tells. same_link {kept = kept} {limit = limit} (laws_of g on) (g.met.B.Blocks.one_stays on) (g.met.B.Blocks.keeps_all on on (g.met.B.Blocks.keeps_at_once on)) over entry.is tells (linked tells);
      };
      says = record { placed = g.met.B.Blocks.placed on s.now (g.met.B.Blocks.present on told); one = g.met.B.Blocks.one_place on; active = (g.met.B.Blocks.active on).0; super_stands = g.met.B.Blocks.super_stands on told; labelled = λ b p ne stands. (g.met.B.Blocks.labelled on b p told ne stands).1 };
      told = told;
      entry = entry.is;
      linked = linked told;
    }

labelled_of : (g : given.Over) (b : g.row.B.Denot) → (g.B.Blocks.state b).tells → Labelled (g.B.Blocks.state b)
labelled_of g b told =
    let s = g.B.Blocks.state b in
    record { told = told; placed = g.met.B.Blocks.placed b s.now (g.met.B.Blocks.present b told); one = g.met.B.Blocks.one_place b; super_stands = g.met.B.Blocks.super_stands b told; tags = λ y p ne stands. (g.met.B.Blocks.labelled b y p told ne stands).2 }

pub link-requires-clause-over : goal.link-requires-clause-over
link-requires-clause-over g c =
    let s = g.B.Blocks.state c.args.on.now in
    let ways = c.args.ways.now in
    subst (λ (k : List Kept). Over s ways.tree k ways.limit → Over s c.cut_off-ways.result k ways.limit) c.deref.ensures.value (c.cut_off-ways.ensures.over ways.limit) c.requires.over

pub link-requires-clause-tops : goal.link-requires-clause-tops
link-requires-clause-tops g c = λ n x lt leads.
    let s = g.B.Blocks.state c.args.on.now in
    let t = c.args.ways.now.tree in
    let at = c.args.at in
    let i = c.args.i in
    let none : 0 + n ≡ n = omega arith in
    let was : depth_of ((s.now at).slot i) ≡ t.depth = ap depth_of c.requires.entry.is in
    let is : c.cut_off-ways.result.depth ≡ depth_for c.args.end = ap (λ (y : Tree). y.depth) c.cut_off-ways.ensures.is in
    let block : block_at s t n 0 ≡ Local x = ap (λ y. block_at s t y 0) (sym none) ∙ first_of s t n 0 ((s.now at).slot i) (λ z e. sym (ap (λ (q : Slot). target q) c.requires.entry.is) ∙ e) x leads in
    c.cut_off-ways.ensures.tops n x (omega (arith, lt, was, is)) block

pub returns-clause-ready : goal.returns-clause-ready
returns-clause-ready g c = λ some.
    let first = c.args.on.now in
    let s = g.B.Blocks.state first in
    let u = g.B.Blocks.state c.link.new.on in
    let ways = c.args.ways.now in
    let new = c.cut_off-ways.result in
    let all = g.met.B.Blocks.keeps_all first c.link.new.on c.link.ensures.keeps in
    let tag : new.tag ≡ ways.tree.tag = ap (λ (y : Tree). y.tag) c.cut_off-ways.ensures.is in
    let beside : Beside s u new c.args.at = beside_put {new = new} c.requires.entry tag all c.link.ensures.now c.link.ensures.frame in
    ready_on beside ways.kept.items new.depth (last_leaf c.args.end) (omega arith) (subst (λ (k : List Kept). WayReady s new k new.depth (last_leaf c.args.end)) c.deref.ensures.value (c.cut_off-ways.ensures.ready some))

pub returns-clause-bytes : goal.returns-clause-bytes
returns-clause-bytes g c = λ told.
    let first = c.args.on.now in
    let s = g.B.Blocks.state first in
    let u = g.B.Blocks.state c.link.new.on in
    let ways = c.args.ways.now in
    let new = c.cut_off-ways.result in
    let all = g.met.B.Blocks.keeps_all first c.link.new.on c.link.ensures.keeps in
    let tag : new.tag ≡ ways.tree.tag = ap (λ (y : Tree). y.tag) c.cut_off-ways.ensures.is in
    let beside : Beside s u new c.args.at = beside_put {new = new} c.requires.entry tag all c.link.ensures.now c.link.ensures.frame in
    let over : Over s new ways.kept.items ways.limit = subst (λ (k : List Kept). Over s ways.tree k ways.limit → Over s new k ways.limit) c.deref.ensures.value (c.cut_off-ways.ensures.over ways.limit) c.requires.over in
    bytes_on beside (tagged (labelled_of g first told) over.hangs) told over
    ∙ subst (λ (k : List Kept). (leaves_of s new k ways.limit).bytes ≡ take c.args.end (leaves_of s ways.tree k ways.limit).bytes) c.deref.ensures.value (c.cut_off-ways.ensures.bytes told ways.limit)

pub returns-clause-leaves : goal.returns-clause-leaves
returns-clause-leaves g c = λ told b has away.
    let first = c.args.on.now in
    let linked = linked_of g first told c.requires.over c.requires.entry c.requires.linked in
    (c.link.ensures.covers told).leaves b (through_own linked c.requires.data b has) ((c.requires.linked told).owned b has) away

pub returns-clause-dirties : goal.returns-clause-dirties
returns-clause-dirties g c = c.link.ensures.dirties

pub returns-clause-shown : goal.returns-clause-shown
returns-clause-shown g c = λ plain.
    let put = c.link.new.on in
    let t = c.args.ways.now.tree in
    let new = c.cut_off-ways.result in
    let rank : new.rank ≡ t.rank = ap (λ (y : Tree). y.rank) c.cut_off-ways.ensures.is in
    let dir : new.dir ≡ false = ap (λ (y : Tree). y.dir) c.cut_off-ways.ensures.is ∙ c.requires.data in
    data_shows (record {
      images = c.link.ensures.images;
      top = λ image is b e. (new.tag, new.depth, 0, top_stands new dir rank c.link.ensures.over.hangs (g.met.B.Blocks.told put image is) b e);
      plain = plain;
      placed = λ image is. g.met.B.Blocks.placed put image is;
      few = λ image is. g.met.B.Blocks.few put image is;
      one = g.met.B.Blocks.one_place put;
      super_at = λ image is. g.met.B.Blocks.super_stands put (g.met.B.Blocks.told put image is);
    })
