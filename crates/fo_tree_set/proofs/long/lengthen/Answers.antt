use Rattle.std.proofs.Common.{◌≡◌, ℕ, false, inl, ⊎_elim, refl, sym, ◌∙◌, ap, subst, arith}
use Rattle.fo_image.specs.declared.types.Pointer.TheVariants.{Local}
use Rattle.fo_crash.specs.declared.slot.Slot.TheVariants.{Entry as Head}
use Rattle.fo_crash.specs.Names.{SameUse}
use Rattle.fo_ports.specs.Sources.{IsReady, StaysReady, depth_for}
use Rattle.fo_tree_read.specs.declared.tree.Tree.{Tree}
use Rattle.fo_tree_look.specs.Source.{Ready}
use Rattle.fo_tree_down.specs.Clear.{last_leaf}
use Rattle.fo_tree_down.proofs.of_tree_own.Link.{Laws}
use Rattle.fo_tree_link.specs.Link.{CanLink, entry_of}
use Rattle.fo_tree_link.proofs.Changed.{can_link}
use Rattle.fo_tree_trim.proofs.Counting.{adds_beside}
use Rattle.fo_tree_trim.proofs.Holding.{clear_on, holds_stays}
use Rattle.fo_tree_append.proofs.Joining.{rises_changes}
use Rattle.fo_tree_trim.proofs.of_tree_own.Showing.{shows_joins}
use Rattle.fo_tree_shorten.specs.Shorten.{Links}
use Rattle.fo_tree_shorten.proofs.Beside.{Beside, bytes_on}
use Rattle.fo_tree_shorten.proofs.Entries.{entry_owned, entry_put, beside_put}
use Rattle.fo_tree_shorten.proofs.Showing.{data_shows, top_stands}
use Rattle.fo_tree_shorten.proofs.Standing.{Labelled, not_both, tagged}
use Rattle.fo_tree_set.proofs.Lengths.{way_top, none_dropped, cost_few}
use Rattle.fo_tree_set.proofs.long.lengthen.Given as given
use Rattle.fo_tree_set.proofs.long.lengthen.Goals as goal

laws_of : (g : given.Over) (b : g.row.B.Denot) → Laws (g.B.Blocks.state b)
laws_of g b =
    let s = g.B.Blocks.state b in
    record { present = g.met.B.Blocks.present b; active = (g.met.B.Blocks.active b).0; not_one = (g.met.B.Blocks.active b).1; one = g.met.B.Blocks.one_place b; super_stands = g.met.B.Blocks.super_stands b; placed = λ told. g.met.B.Blocks.placed b s.now (g.met.B.Blocks.present b told); ranked = λ told. g.met.B.Blocks.ranked b s.now (g.met.B.Blocks.present b told); live = λ y told ne r. g.met.B.Blocks.live b y told ne r; clears = g.met.B.Blocks.clears_entries b; waits_within = g.met.B.Blocks.waits_within b; covers_told = g.met.B.Blocks.covers_told b; within = g.met.B.Blocks.within b; spelled = g.met.B.Blocks.spelled b; apart_hangs = λ told w is r. g.met.B.Blocks.apart_hangs b s.now 1 w is (g.met.B.Blocks.present b told) (g.met.B.Blocks.active b).0 r; small = g.met.B.Blocks.small b }

labelled_of : (g : given.Over) (b : g.row.B.Denot) → (g.B.Blocks.state b).tells → Labelled (g.B.Blocks.state b)
labelled_of g b told =
    let s = g.B.Blocks.state b in
    record { told = told; placed = g.met.B.Blocks.placed b s.now (g.met.B.Blocks.present b told); one = g.met.B.Blocks.one_place b; super_stands = g.met.B.Blocks.super_stands b told; tags = λ y p ne stands. (g.met.B.Blocks.labelled b y p told ne stands).2 }

-- ---- what a link asks

pub link-requires-clause-pinned : goal.link-requires-clause-pinned
link-requires-clause-pinned g c = (entry_owned c.requires.entry (rises_changes c.grow_ways.ensures.grown.rises) c.grow_ways.ensures.grown.rises.all).is_pinned

pub link-requires-clause-current : goal.link-requires-clause-current
link-requires-clause-current g c = (entry_owned c.requires.entry (rises_changes c.grow_ways.ensures.grown.rises) c.grow_ways.ensures.grown.rises.all).current

pub link-requires-clause-leaf : goal.link-requires-clause-leaf
link-requires-clause-leaf g c = (entry_owned c.requires.entry (rises_changes c.grow_ways.ensures.grown.rises) c.grow_ways.ensures.grown.rises.all).leaf

pub link-requires-clause-settled : goal.link-requires-clause-settled
link-requires-clause-settled g c = (entry_owned c.requires.entry (rises_changes c.grow_ways.ensures.grown.rises) c.grow_ways.ensures.grown.rises.all).settled

pub link-requires-clause-same_use : goal.link-requires-clause-same_use
link-requires-clause-same_use g c =
    let own = c.grow_ways.ensures in
    let w = c.grow_ways.new.ways in
    let e = entry_owned c.requires.entry (rises_changes own.grown.rises) own.grown.rises.all in
    subst (λ q. SameUse (Head (entry_of w.tree w.generation)) q) (sym e.is) (own.is.0, refl, ap (λ (t : Tree). t.dir) own.tree, ap (λ (t : Tree). t.tag) own.tree)

pub link-requires-clause-other : goal.link-requires-clause-other
link-requires-clause-other g c = λ b is here.
    let m = g.B.Blocks.state c.grow_ways.new.on in
    let own = c.grow_ways.ensures in
    let w = c.grow_ways.new.ways in
    let e = entry_owned c.requires.entry (rises_changes own.grown.rises) own.grown.rises.all in
    let size : w.tree.size ≡ c.args.len = ap (λ (t : Tree). t.size) own.tree in
    let more = c.requires.more.0 in
    let top : Ready m w.tree w.kept.items 0 w.tree.top = way_top m w.tree w.kept.items w.tree.depth (last_leaf w.tree.size) (own.clear.way (omega (arith, size, more))) in
    let ready : Ready m w.tree w.kept.items 0 (Local b) = subst (λ p. Ready m w.tree w.kept.items 0 p) is top in
    e.apart (sym (ap (λ z. (m.label z).tag) here) ∙ ready.tagged ∙ ap (λ (t : Tree). t.tag) own.tree)

pub link-requires-clause-room : goal.link-requires-clause-room
link-requires-clause-room g c =
    let m = g.B.Blocks.state c.grow_ways.new.on in
    let own = c.grow_ways.ensures in
    let w = c.grow_ways.new.ways in
    let t = c.args.ways.now.tree in
    let e = entry_owned c.requires.entry (rises_changes own.grown.rises) own.grown.rises.all in
    let few = cost_few ((m.now c.args.at).slot c.args.i) t w.tree c.args.ways.now.generation w.generation e.is own.grown.sees.deeper in
    let same = own.grown.rises.room in
    let room = c.requires.room in
    omega (arith, few, same, room)

pub link-requires-clause-tops : goal.link-requires-clause-tops
link-requires-clause-tops g c = λ n x lt leads.
    let m = g.B.Blocks.state c.grow_ways.new.on in
    let own = c.grow_ways.ensures in
    let w = c.grow_ways.new.ways in
    let t = c.args.ways.now.tree in
    let e = entry_owned c.requires.entry (rises_changes own.grown.rises) own.grown.rises.all in
    let none = none_dropped ((m.now c.args.at).slot c.args.i) t w.tree c.args.ways.now.generation w.generation e.is own.grown.sees.deeper in
    absurd (omega (arith, lt, none))

pub link-requires-clause-told : goal.link-requires-clause-told
link-requires-clause-told g c = λ now.
    let first = c.args.on.now in
    let mid = c.grow_ways.new.on in
    let s = g.B.Blocks.state first in
    let m = g.B.Blocks.state mid in
    let ways = c.args.ways.now in
    let t = ways.tree in
    let own = c.grow_ways.ensures in
    let w = c.grow_ways.new.ways in
    let all = own.grown.rises.all in
    let told = all.still_tells.0 now in
    let changes = rises_changes own.grown.rises in
    let e = entry_owned c.requires.entry changes all in
    subst (λ n. CanLink m w.tree n c.args.at c.args.i) (sym own.is.0) (can_link {s = s} {u = m} {t = t} {new = w.tree} {kept = ways.kept.items} {limit = ways.limit} (record {
      laws = laws_of g first;
      end = laws_of g mid;
      one_stays = g.met.B.Blocks.one_stays mid;
      all = all;
      over = c.requires.over;
      entry = e.is;
      same = record { dir = ap (λ (y : Tree). y.dir) own.tree; rank = ap (λ (y : Tree). y.rank) own.tree; more = own.grown.sees.deeper };
      comes = λ from h. own.grown.sees.comes told from h;
      only = λ y z h. own.grown.sees.only told y z h;
      others = record {
        made = λ b made. (changes.made b made).was.0;
        places = λ tells b p not other free r stands. changes.places tells b p not other free r stands;
        rooted = changes.rooted;
        in_tree = λ tells b other r. changes.in_tree tells b other r;
      };
      told = told;
      linked = c.requires.linked told;
      leaves = record { each = λ dir. absurd (not_both dir c.requires.data.0) };
    }))

-- ---- once it is linked

beside : (g : given.Over) (c : goal.After-link g) → Beside (g.B.Blocks.state c.grow_ways.new.on) (g.B.Blocks.state c.link.new.on) c.grow_ways.new.ways.tree c.args.at
beside g c =
    let own = c.grow_ways.ensures in
    let k = c.link.ensures in
    let e = entry_owned c.requires.entry (rises_changes own.grown.rises) own.grown.rises.all in
    beside_put {new = c.grow_ways.new.ways.tree} e (ap (λ (t : Tree). t.tag) own.tree) (g.met.B.Blocks.keeps_all c.grow_ways.new.on c.link.new.on k.keeps) k.now k.frame

pub returns-clause-entry : goal.returns-clause-entry
returns-clause-entry g c =
    let own = c.grow_ways.ensures in
    let k = c.link.ensures in
    let e = entry_owned c.requires.entry (rises_changes own.grown.rises) own.grown.rises.all in
    entry_put {new = c.grow_ways.new.ways.tree} e (ap (λ (t : Tree). t.tag) own.tree) (g.met.B.Blocks.keeps_all c.grow_ways.new.on c.link.new.on k.keeps) k.now k.frame k.order

pub returns-clause-linked : goal.returns-clause-linked
returns-clause-linked g c = λ told.
    let m = g.B.Blocks.state c.grow_ways.new.on in
    let own = c.grow_ways.ensures in
    let new = c.grow_ways.new.ways.tree in
    let only : (y z : ℕ) → m.instead y z → new.top ≡ Local y = λ y z h. ⊎_elim
    (λ here. here)
    (λ old. absurd ((c.requires.linked told).none y z old.0))
    (own.grown.sees.only told y z h) in
    c.link.ensures.again (own.grown.rises.all.still_tells.1 told) only

pub returns-clause-clear : goal.returns-clause-clear
returns-clause-clear g c =
    let m = g.B.Blocks.state c.grow_ways.new.on in
    let u = g.B.Blocks.state c.link.new.on in
    let own = c.grow_ways.ensures in
    let w = c.grow_ways.new.ways in
    let k = c.link.ensures in
    let x = beside g c in
    let stays : (b : ℕ) → IsReady w.tree.tag m b → StaysReady m u b = λ b ready. k.ready b (inl (λ here. x.apart (subst (λ y. (m.label y).tag ≡ w.tree.tag) here ready.tagged))) ready.is_pinned in
    clear_on (holds_stays m u w.tree w.kept.items x.all stays) own.clear

pub returns-clause-bytes : goal.returns-clause-bytes
returns-clause-bytes g c = λ told.
    let mid = c.grow_ways.new.on in
    let own = c.grow_ways.ensures in
    let told_mid = own.grown.rises.all.still_tells.1 told in
    bytes_on (beside g c) (tagged (labelled_of g mid told_mid) own.over.hangs) told_mid own.over ∙ own.bytes told

pub returns-clause-grows : goal.returns-clause-grows
returns-clause-grows g c =
    let m = g.B.Blocks.state c.grow_ways.new.on in
    let u = g.B.Blocks.state c.link.new.on in
    let own = c.grow_ways.ensures in
    let w = c.grow_ways.new.ways in
    let k = c.link.ensures in
    let links : Links m u w.tree w.generation c.args.at c.args.i = record {
      now = k.now;
      images = k.images;
      instead = k.instead;
      in_tree = k.in_tree;
      in_place = k.in_place;
      ready = k.ready;
      bytes = k.bytes;
      frame = k.frame;
      hangs = k.hangs;
      order = k.order;
      no_wait = k.no_wait;
      covers = k.covers;
    } in
    record {
      is = own.tree;
      grown = c.grow_ways.new.on;
      grows = own.grown;
      links = subst (λ n. Links m u w.tree n c.args.at c.args.i) own.is.0 links;
    }

pub returns-clause-spare : goal.returns-clause-spare
returns-clause-spare g c =
    let own = c.grow_ways.ensures in
    let level : c.grow_ways.new.ways.tree.depth ≡ depth_for c.args.len = ap (λ (t : Tree). t.depth) own.tree in
    let same = c.link.ensures.frame.uses.spare in
    ⊎_elim
    (λ none. omega (arith, none, same))
    (λ some. let taken = some.1 in omega (arith, level, taken, same))
    own.grown.spent

pub returns-clause-room : goal.returns-clause-room
returns-clause-room g c =
    let m = g.B.Blocks.state c.grow_ways.new.on in
    let own = c.grow_ways.ensures in
    let w = c.grow_ways.new.ways in
    let t = c.args.ways.now.tree in
    let e = entry_owned c.requires.entry (rises_changes own.grown.rises) own.grown.rises.all in
    let few = cost_few ((m.now c.args.at).slot c.args.i) t w.tree c.args.ways.now.generation w.generation e.is own.grown.sees.deeper in
    let same = own.grown.rises.room in
    let used = c.link.ensures.frame.uses.room in
    omega (arith, few, same, used)

pub returns-clause-pins : goal.returns-clause-pins
returns-clause-pins g c = c.link.ensures.frame.uses.pins ∙ c.grow_ways.ensures.grown.rises.pins

pub returns-clause-keeps : goal.returns-clause-keeps
returns-clause-keeps g c = g.met.B.Blocks.keeps_joins c.args.on.now c.grow_ways.new.on c.link.new.on c.grow_ways.ensures.keeps c.link.ensures.keeps

pub returns-clause-dirties : goal.returns-clause-dirties
returns-clause-dirties g c = λ before blocks counted here. adds_beside c.grow_ways.ensures.dirties counted here (λ list within has. c.link.ensures.dirties before list within has)

pub returns-clause-shown : goal.returns-clause-shown
returns-clause-shown g c =
    let put = c.link.new.on in
    let t = c.args.ways.now.tree in
    let new = c.grow_ways.new.ways.tree in
    let own = c.grow_ways.ensures in
    let rank : new.rank ≡ t.rank = ap (λ (y : Tree). y.rank) own.tree in
    let dir : new.dir ≡ false = ap (λ (y : Tree). y.dir) own.tree ∙ c.requires.data.0 in
    shows_joins own.shown (data_shows (record {
      images = c.link.ensures.images;
      top = λ image is b e. (new.tag, new.depth, 0, top_stands new dir rank c.link.ensures.over.hangs (g.met.B.Blocks.told put image is) b e);
      plain = c.requires.data.1;
      placed = λ image is. g.met.B.Blocks.placed put image is;
      few = λ image is. g.met.B.Blocks.few put image is;
      one = g.met.B.Blocks.one_place put;
      super_at = λ image is. g.met.B.Blocks.super_stands put (g.met.B.Blocks.told put image is);
    }))
