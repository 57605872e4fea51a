use Rattle.std.proofs.Common.{◌≡◌, ◌≢◌, ◌⊎◌, ◌+◌, ◌-◌, ◌*◌, ◌/◌, ◌^◌, ◌<◌, ℕ, suc, inl, inr, ⊎_elim, refl, sym, ◌∙◌, ap, subst, arith}
use Rattle.std.proofs.Math.Nat.{pow-succ'}
use Rattle.fo_image.specs.declared.types.Kind.TheVariants.{Data}
use Rattle.fo_image.specs.declared.types.State.TheVariants.{Live}
use Rattle.fo_image.specs.declared.types.Pointer.TheVariants.{Local}
use Rattle.fo_crash.specs.declared.slot.Slot.TheVariants.{Entry as Head}
use Rattle.fo_crash.specs.declared.place.Place.{Place}
use Rattle.fo_crash.specs.Images.{target, with_slot}
use Rattle.fo_crash.specs.Places.{place, place_below}
use Rattle.fo_crash.specs.Spots.{spot_below}
use Rattle.fo_crash.proofs.Updates.{slot_bytes, slot_here, slot_other}
use Rattle.fo_ports.specs.Sources.{Made}
use Rattle.fo_tree_read.specs.declared.tree.Tree.{Tree}
use Rattle.fo_tree_read.specs.Tree.{Hangs, kind_at}
use Rattle.fo_tree_look.specs.Source.{HasBlock, WayReady}
use Rattle.fo_tree_link.specs.of_tree_down.Clear.{last_leaf}
use Rattle.fo_tree_link.specs.of_tree_down.Way.{StaysBeside, with_top}
use Rattle.fo_tree_link.proofs.of_tree_own.Link.{Laws}
use Rattle.fo_tree_link.specs.Link.{CanLink, entry_of}
use Rattle.fo_tree_link.proofs.Changed.{can_link}
use Rattle.fo_tree_trim.proofs.Counting.{ends_beside}
use Rattle.fo_tree_shorten.specs.Shorten.{Links}
use Rattle.fo_tree_shorten.proofs.Beside.{Beside, ready_on, current_on, end_on, bytes_on}
use Rattle.fo_tree_shorten.proofs.Entries.{entry_owned, entry_put, beside_put}
use Rattle.fo_tree_shorten.proofs.Showing.{top_stands}
use Rattle.fo_tree_shorten.proofs.Standing.{Labelled, not_both, tagged}
use Rattle.fo_tree_trim.specs.Trim.{IsEndCurrent}
use Rattle.fo_tree_trim.proofs.Ending.{end_few}
use Rattle.fo_tree_shorten.proofs.Copied.{Copies, copied_in}
use Rattle.fo_tree_shorten.proofs.Relinking.{entry_spot, relinked_shows}
use Rattle.fo_tree_trim.proofs.of_tree_own.Showing.{shows_joins}
use Rattle.fo_tree_shorten.proofs.behind.make_ready.Given as given
use Rattle.fo_tree_shorten.proofs.behind.make_ready.Goals as goal

laws_of : (g : given.Over) (b : g.row.B.Denot) → Laws (g.B.Blocks.state b)
laws_of g b =
    let s = g.B.Blocks.state b in
    record { present = g.met.B.Blocks.present b; active = (g.met.B.Blocks.active b).0; not_one = (g.met.B.Blocks.active b).1; one = g.met.B.Blocks.one_place b; super_stands = g.met.B.Blocks.super_stands b; placed = λ told. g.met.B.Blocks.placed b s.now (g.met.B.Blocks.present b told); ranked = λ told. g.met.B.Blocks.ranked b s.now (g.met.B.Blocks.present b told); live = λ y told ne r. g.met.B.Blocks.live b y told ne r; clears = g.met.B.Blocks.clears_entries b; waits_within = g.met.B.Blocks.waits_within b; covers_told = g.met.B.Blocks.covers_told b; within = g.met.B.Blocks.within b; spelled = g.met.B.Blocks.spelled b; apart_hangs = λ told w is r. g.met.B.Blocks.apart_hangs b s.now 1 w is (g.met.B.Blocks.present b told) (g.met.B.Blocks.active b).0 r; small = g.met.B.Blocks.small b }

labelled_of : (g : given.Over) (b : g.row.B.Denot) → (g.B.Blocks.state b).tells → Labelled (g.B.Blocks.state b)
labelled_of g b told =
    let s = g.B.Blocks.state b in
    record { told = told; placed = g.met.B.Blocks.placed b s.now (g.met.B.Blocks.present b told); one = g.met.B.Blocks.one_place b; super_stands = g.met.B.Blocks.super_stands b told; tags = λ y p ne stands. (g.met.B.Blocks.labelled b y p told ne stands).2 }

pub link-requires-clause-told : goal.link-requires-clause-told
link-requires-clause-told g c = λ now.
    let first = c.args.on.now in
    let mid = c.own_ways.new.on in
    let s = g.B.Blocks.state first in
    let m = g.B.Blocks.state mid in
    let ways = c.args.ways.now in
    let t = ways.tree in
    let new = c.own_ways.new.ways.tree in
    let own = c.own_ways.ensures in
    let top = own.top.0 in
    let is : new ≡ with_top t top = own.top.1 in
    let all = g.met.B.Blocks.keeps_all first mid own.keeps in
    let told = all.still_tells.0 now in
    subst (λ n. CanLink m new n c.args.at c.args.i) (sym own.is.0) (subst (λ (y : Tree). CanLink m y ways.generation c.args.at c.args.i) (sym is) (can_link {s = s} {u = m} {t = t} {new = with_top t top} {kept = ways.kept.items} {limit = ways.limit} (record {
      laws = laws_of g first;
      end = laws_of g mid;
      one_stays = g.met.B.Blocks.one_stays mid;
      all = all;
      over = c.requires.over;
      entry = (entry_owned c.requires.entry own.changes all).is;
      same = record { dir = refl; rank = refl; more = omega arith };
      comes = λ from h. own.top.2.comes told from h;
      only = λ y z h. ⊎_elim (λ here. inl (ap (λ w. Local w) (sym here))) (λ old. inr old) (own.top.2.only told y z h);
      others = record {
        made = λ b made. (own.changes.made b made).was.0;
        places = λ tells b p not other free r stands. own.changes.places tells b p not other free r stands;
        rooted = own.changes.rooted;
        in_tree = λ tells b other r. own.changes.in_tree tells b other r;
      };
      told = told;
      linked = c.requires.linked told;
      leaves = record { each = λ dir. absurd (not_both dir c.requires.data) };
    })))

pub returns-clause-entry : goal.returns-clause-entry
returns-clause-entry g c =
    let first = c.args.on.now in
    let mid = c.own_ways.new.on in
    let put = c.link.new.on in
    let s = g.B.Blocks.state first in
    let m = g.B.Blocks.state mid in
    let u = g.B.Blocks.state put in
    let at = c.args.at in
    let i = c.args.i in
    let t = c.args.ways.now.tree in
    let ways = c.own_ways.new.ways in
    let new = ways.tree in
    let own = c.own_ways.ensures in
    let all = g.met.B.Blocks.keeps_all first mid own.keeps in
    let more = g.met.B.Blocks.keeps_all mid put c.link.ensures.keeps in
    let tag : new.tag ≡ t.tag = ap (λ (y : Tree). y.tag) own.top.1 in
    let owned = entry_owned c.requires.entry own.changes all in
    let beside : Beside m u new at = beside_put {new = new} owned tag more c.link.ensures.now c.link.ensures.frame in
    entry_put {new = new} owned tag more c.link.ensures.now c.link.ensures.frame c.link.ensures.order

pub returns-clause-ready : goal.returns-clause-ready
returns-clause-ready g c =
    let first = c.args.on.now in
    let mid = c.own_ways.new.on in
    let put = c.link.new.on in
    let s = g.B.Blocks.state first in
    let m = g.B.Blocks.state mid in
    let u = g.B.Blocks.state put in
    let at = c.args.at in
    let i = c.args.i in
    let t = c.args.ways.now.tree in
    let ways = c.own_ways.new.ways in
    let new = ways.tree in
    let own = c.own_ways.ensures in
    let all = g.met.B.Blocks.keeps_all first mid own.keeps in
    let more = g.met.B.Blocks.keeps_all mid put c.link.ensures.keeps in
    let tag : new.tag ≡ t.tag = ap (λ (y : Tree). y.tag) own.top.1 in
    let owned = entry_owned c.requires.entry own.changes all in
    let beside : Beside m u new at = beside_put {new = new} owned tag more c.link.ensures.now c.link.ensures.frame in
    ready_on beside ways.kept.items new.depth (last_leaf new.size) (omega arith) own.ready

pub returns-clause-current : goal.returns-clause-current
returns-clause-current g c = λ deep.
    let first = c.args.on.now in
    let mid = c.own_ways.new.on in
    let put = c.link.new.on in
    let s = g.B.Blocks.state first in
    let m = g.B.Blocks.state mid in
    let u = g.B.Blocks.state put in
    let at = c.args.at in
    let i = c.args.i in
    let t = c.args.ways.now.tree in
    let ways = c.own_ways.new.ways in
    let new = ways.tree in
    let own = c.own_ways.ensures in
    let all = g.met.B.Blocks.keeps_all first mid own.keeps in
    let more = g.met.B.Blocks.keeps_all mid put c.link.ensures.keeps in
    let tag : new.tag ≡ t.tag = ap (λ (y : Tree). y.tag) own.top.1 in
    let owned = entry_owned c.requires.entry own.changes all in
    let beside : Beside m u new at = beside_put {new = new} owned tag more c.link.ensures.now c.link.ensures.frame in
    let level : new.depth ≡ suc (new.depth - 1) = omega (arith, deep) in
    let way : WayReady m new ways.kept.items (suc (new.depth - 1)) (last_leaf new.size) = subst (λ d. WayReady m new ways.kept.items d (last_leaf new.size)) level own.ready in
    current_on beside ways.kept.items (new.depth - 1) (last_leaf new.size / 409) (omega arith) way.0 (own.current deep)

pub returns-clause-linked : goal.returns-clause-linked
returns-clause-linked g c = λ told.
    let first = c.args.on.now in
    let mid = c.own_ways.new.on in
    let put = c.link.new.on in
    let s = g.B.Blocks.state first in
    let m = g.B.Blocks.state mid in
    let u = g.B.Blocks.state put in
    let at = c.args.at in
    let i = c.args.i in
    let t = c.args.ways.now.tree in
    let ways = c.own_ways.new.ways in
    let new = ways.tree in
    let own = c.own_ways.ensures in
    let all = g.met.B.Blocks.keeps_all first mid own.keeps in
    let more = g.met.B.Blocks.keeps_all mid put c.link.ensures.keeps in
    let tag : new.tag ≡ t.tag = ap (λ (y : Tree). y.tag) own.top.1 in
    let owned = entry_owned c.requires.entry own.changes all in
    let beside : Beside m u new at = beside_put {new = new} owned tag more c.link.ensures.now c.link.ensures.frame in
    let only : (y z : ℕ) → m.instead y z → new.top ≡ Local y = λ y z h. ⊎_elim
    (λ here. ap (λ (w : Tree). w.top) own.top.1 ∙ ap (λ w. Local w) (sym here))
    (λ old. absurd ((c.requires.linked told).none y z old.0))
    (own.top.2.only told y z h) in
    c.link.ensures.again (all.still_tells.1 told) only

pub returns-clause-bytes : goal.returns-clause-bytes
returns-clause-bytes g c = λ told.
    let first = c.args.on.now in
    let mid = c.own_ways.new.on in
    let put = c.link.new.on in
    let s = g.B.Blocks.state first in
    let m = g.B.Blocks.state mid in
    let u = g.B.Blocks.state put in
    let at = c.args.at in
    let i = c.args.i in
    let t = c.args.ways.now.tree in
    let ways = c.own_ways.new.ways in
    let new = ways.tree in
    let own = c.own_ways.ensures in
    let all = g.met.B.Blocks.keeps_all first mid own.keeps in
    let more = g.met.B.Blocks.keeps_all mid put c.link.ensures.keeps in
    let tag : new.tag ≡ t.tag = ap (λ (y : Tree). y.tag) own.top.1 in
    let owned = entry_owned c.requires.entry own.changes all in
    let beside : Beside m u new at = beside_put {new = new} owned tag more c.link.ensures.now c.link.ensures.frame in
    let told_mid = all.still_tells.1 told in
    bytes_on beside (tagged (labelled_of g mid told_mid) own.over.hangs) told_mid own.over ∙ own.bytes told

pub returns-clause-steps : goal.returns-clause-steps
returns-clause-steps g c =
    let m = g.B.Blocks.state c.own_ways.new.on in
    let u = g.B.Blocks.state c.link.new.on in
    let own = c.own_ways.ensures in
    let new = c.own_ways.new.ways.tree in
    let k = c.link.ensures in
    let links : Links m u new c.own_ways.new.ways.generation c.args.at c.args.i = record {
      now = k.now;
      images = k.images;
      instead = k.instead;
      in_tree = k.in_tree;
      in_place = k.in_place;
      ready = k.ready;
      bytes = k.bytes;
      frame = k.frame;
      hangs = k.hangs;
      order = k.order;
      no_wait = k.no_wait;
      covers = k.covers;
    } in (
      own.top.0,
      own.top.1,
      (
        c.own_ways.new.on,
        record {
          made = own.changes;
          top_is = own.top.2;
          linked = subst (λ (y : Tree). Links m u y c.args.ways.now.generation c.args.at c.args.i) own.top.1 (subst (λ n. Links m u new n c.args.at c.args.i) own.is.0 links);
        },
      ),
    )

pub returns-clause-dirties : goal.returns-clause-dirties
returns-clause-dirties g c = λ before blocks counted here.
    let first = c.args.on.now in
    let mid = c.own_ways.new.on in
    let put = c.link.new.on in
    let m = g.B.Blocks.state mid in
    let u = g.B.Blocks.state put in
    let at = c.args.at in
    let t = c.args.ways.now.tree in
    let ways = c.own_ways.new.ways in
    let new = ways.tree in
    let own = c.own_ways.ensures in
    let all = g.met.B.Blocks.keeps_all first mid own.keeps in
    let more = g.met.B.Blocks.keeps_all mid put c.link.ensures.keeps in
    let tag : new.tag ≡ t.tag = ap (λ (y : Tree). y.tag) own.top.1 in
    let owned = entry_owned c.requires.entry own.changes all in
    let beside : Beside m u new at = beside_put {new = new} owned tag more c.link.ensures.now c.link.ensures.frame in
    ends_beside own.dirties counted here (λ list within has. c.link.ensures.dirties before list within has) (end_on beside ways.kept.items own.ready)

pub returns-clause-shown : goal.returns-clause-shown
returns-clause-shown g c =
    let first = c.args.on.now in
    let mid = c.own_ways.new.on in
    let put = c.link.new.on in
    let s = g.B.Blocks.state first in
    let m = g.B.Blocks.state mid in
    let u = g.B.Blocks.state put in
    let at = c.args.at in
    let i = c.args.i in
    let ways = c.args.ways.now in
    let t = ways.tree in
    let new = c.own_ways.new.ways.tree in
    let n = t.depth - 1 in
    let k = last_leaf t.size / 409 in
    let own = c.own_ways.ensures in
    let top = own.top.0 in
    let is : new ≡ with_top t top = own.top.1 in
    let deep = c.requires.deep in
    let all = g.met.B.Blocks.keeps_all first mid own.keeps in
    let more = g.met.B.Blocks.keeps_all mid put c.link.ensures.keeps in
    let owned = entry_owned c.requires.entry own.changes all in
    let level : 409 ^ t.depth ≡ 409 * 409 ^ n = ap (λ d. 409 ^ d) (let l : t.depth ≡ suc (t.depth - 1) = omega (arith, deep) in l) ∙ pow-succ' 409 n in
    let last = end_few t c.requires.over.hangs.room in
    let few : k < 409 ^ n = omega (arith, level, last) in
    let copies : s.tells → Made s m top → Copies s m t ways.kept.items ways.limit at i n k top (λ b. HasBlock s t b × ((s.label b).kind ≢ kind_at t.dir 0)) = λ told made. record {
      told = told;
      first = laws_of g first;
      mid = laws_of g mid;
      named = λ b p ne stands. (g.met.B.Blocks.labelled first b p told ne stands).1;
      named_mid = λ b p ne stands. (g.met.B.Blocks.labelled mid b p (all.still_tells.1 told) ne stands).1;
      all = all;
      over = c.requires.over;
      hangs_mid = subst (λ (y : Tree). Hangs m y) is own.over.hangs;
      linked = c.requires.linked told;
      changes = own.changes;
      high = omega (arith, deep);
      few = few;
      current = subst (λ (y : Tree). IsEndCurrent m y) is own.current deep;
      beside = subst (λ (y : Tree). StaysBeside s m t y n k) is (own.beside told);
      owns = subst (λ (y : Tree). (b : ℕ) → HasBlock m y b → HasBlock s t b ⊎ Made s m b) is (own.owns told);
      stays = subst (λ (y : Tree). (b : ℕ) → HasBlock s t b → (s.label b).epoch ≡ s.high → HasBlock m y b) is (own.stays told);
      falls = λ a j b ne r leads. g.met.B.Blocks.falls first 1 a j b told (g.met.B.Blocks.active first).0 ne r leads;
      old_sure = λ b ne r lt. g.met.B.Blocks.old_is_sure first 1 b (g.met.B.Blocks.active first).0 ne r lt;
      made = made;
    } in
    shows_joins own.shown (relinked_shows u.stands s m u t top n k c.link.ensures.images (λ image there here was.
    let told_put = g.met.B.Blocks.told put image there in
    let told = all.still_tells.0 (more.still_tells.0 told_put) in
    let before = (m.now at).slot i in
    let leads : target ((image at).slot i) ≡ Local top = ap target here ∙ ap (λ (y : Tree). y.top) is in
    let kept : (with_slot image at i before at).slot i ≡ Head (entry_of t ways.generation) = slot_here image at i before ∙ owned.is in
    let placed = g.met.B.Blocks.placed put image there in
    record {
      bytes = λ b. sym (slot_bytes image at i before b);
      slots = λ b j apart. sym (slot_other image at i before b j apart);
      here = leads;
      there = ap target kept;
      spot = λ p stands.
          ap (λ q. spot_below p i q) here
          ∙ ap (λ (y : Tree). spot_below p i (Head (entry_of y c.own_ways.new.ways.generation))) is
          ∙ entry_spot p i top c.own_ways.new.ways.generation ways.generation t
          ∙ ap (λ q. spot_below p i q) (sym kept);
      kind = λ p stands.
          let stood = top_stands new (ap (λ (y : Tree). y.dir) is ∙ c.requires.data) refl c.link.ensures.over.hangs told_put top (ap (λ (y : Tree). y.top) is) in
          ap (λ (q : Place). q.kind) ((g.met.B.Blocks.one_place put).each top (place_below p.place i ((image at).slot i)) (place (Data new.depth) new.tag 0 (new.rank + new.depth)) (placed.each at i top p.place stands leads) stood)
          ∙ ap (λ (y : Tree). Data y.depth) is;
      how = ⊎_elim
          (λ made. inr (copied_in (copies told made) was (λ w came j.
          ((g.met.B.Blocks.sure put w (inr ((c.link.ensures.frame.stays.marks w (λ h. h)).2 ((own.changes.made w came).is_fresh)))).each image there).slots j
          ∙ c.link.ensures.now.others w j (inl (λ e. came.0 (subst (λ y. (s.label y).state ≡ Live) (sym e) c.requires.entry.live))))))
          (λ same. inl same)
          own.top.2.from;
      placed = placed;
      few = g.met.B.Blocks.few put image there;
      super_at = g.met.B.Blocks.super_stands put told_put;
    }))
