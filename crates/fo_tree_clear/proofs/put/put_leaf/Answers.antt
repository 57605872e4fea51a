use Rattle.std.proofs.Common.{◌≡◌, ◌≢◌, ◌+◌, ◌-◌, ◌%◌, ℕ, List, length, inl, inr, ⊎_elim, refl, sym, ◌∙◌, ap, subst, arith}
use Rattle.fo_image.specs.declared.types.Label.{Label}
use Rattle.fo_image.specs.declared.types.Kind.{Kind}
use Rattle.fo_image.specs.declared.types.Kind.TheVariants.{Data}
use Rattle.fo_image.specs.declared.types.Pointer.TheVariants.{Local}
use Rattle.fo_ports.specs.of_crash.Images.{Image, with_bytes}
use Rattle.fo_ports.specs.of_crash.Steps.{AddsBytes}
use Rattle.fo_ports.specs.of_crash.Names.{SameUse}
use Rattle.fo_ports.specs.State.{State}
use Rattle.fo_ports.specs.of_crash.declared.place.Place.{Place}
use Rattle.fo_ports.specs.of_crash.Places.{place, super_place, IsPlaced}
use Rattle.fo_ports.specs.Blocks.{MayPut, IsFormed, put_at}
use Rattle.fo_ports.proofs.Lengths.{length_put_at}
use Rattle.fo_tree_leaf.specs.of_tree_read.Tree.{kind_at}
use Rattle.fo_tree_leaf.specs.of_tree_look.Source.{Over}
use Rattle.fo_tree_leaf.proofs.of_tree_look.Shown.{top_ready}
use Rattle.fo_tree_leaf.specs.of_tree_down.Way.{with_top}
use Rattle.fo_tree_leaf.proofs.Owning.{top_current}
use Rattle.fo_tree_leaf.specs.of_tree_own.Shown.{ShowsNoMore}
use Rattle.fo_tree_leaf.proofs.of_tree_own.Showing.{bytes_show, shows_joins}
use Rattle.fo_tree_clear.specs.Put.{IsInnerOr}
use Rattle.fo_tree_leaf.proofs.of_tree_down.Next.{on_way_last}
use Rattle.fo_tree_clear.proofs.Same.{has_back, has_on, way_back, current_on}
use Rattle.fo_tree_clear.proofs.Counting.{way_put, ways_put}
use Rattle.fo_tree_clear.proofs.Descending.{steps_down, steps_put}
use Rattle.fo_tree_clear.proofs.Putting.{BytesPut, same_slots, label_same, comes_on, only_on, over_put, prepared_put, clear_put, changes_put}
use Rattle.fo_tree_clear.proofs.Leaf.{PieceCame, puts_end, leaf_put}
use Rattle.fo_tree_clear.proofs.Alikes.{alike_put}
use Rattle.fo_tree_clear.proofs.put.put_leaf.Given as given
use Rattle.fo_tree_clear.proofs.put.put_leaf.Goals as goal

pub own_near-current-requires-clause-down : goal.own_near-current-requires-clause-down
own_near-current-requires-clause-down g c =
    let room = c.requires.over.1.hangs.room in
    let lt = c.requires.inside in
    (omega arith, omega (arith, room, lt))

pub put_bytes-requires-clause-pinned : goal.put_bytes-requires-clause-pinned
put_bytes-requires-clause-pinned g c = c.own_near-current.ensures.replaces.own.is_pinned

pub put_bytes-requires-clause-current : goal.put_bytes-requires-clause-current
put_bytes-requires-clause-current g c = c.own_near-current.ensures.replaces.own.current

pub put_bytes-requires-clause-within : goal.put_bytes-requires-clause-within
put_bytes-requires-clause-within g c = let long = c.own_near-current.ensures.replaces.own.long in let part = c.requires.part in omega (arith, long, part)

pub put_bytes-requires-clause-place : goal.put_bytes-requires-clause-place
put_bytes-requires-clause-place g c =
    let t = c.args.tree.now in
    let none : t.depth - t.depth ≡ 0 = omega arith in
    let is : ((g.B.Blocks.state c.own_near-current.new.on).label c.own_near-current.result.at).kind ≡ Data 0 = c.own_near-current.ensures.replaces.own.has_kind ∙ ap (λ l. kind_at t.dir l) none ∙ c.requires.plain.0 in
    subst (λ (k : Kind). MayPut k c.args.from (c.args.from + length c.args.piece.now)) (sym is) (omega arith)

plain_formed : (kind : Kind) (rank : ℕ) (bytes : List ℕ) → kind ≡ Data 0 → rank % 32 ≢ 16 → length bytes ≡ 8192 → IsFormed kind rank bytes
plain_formed kind rank bytes is plain long = subst (λ k. IsFormed k rank bytes) (sym is) (long, λ e. absurd (plain e))

pub put_bytes-requires-clause-formed : goal.put_bytes-requires-clause-formed
put_bytes-requires-clause-formed g c = λ told p stands.
    let t = c.args.tree.now in
    let mid = c.own_near-current.new.on in
    let own = c.own_near-current.ensures.replaces.own in
    let here : Place = place (kind_at t.dir (t.depth - t.depth)) t.tag c.args.i (t.rank + (t.depth - t.depth)) in
    let same : p ≡ here = (g.met.B.Blocks.one_place mid).each c.own_near-current.result.at p here stands (own.told told).stands in
    let none : t.depth - t.depth ≡ 0 = omega arith in
    let rank : t.rank + (t.depth - t.depth) ≡ t.rank = omega arith in
    let old = ((g.B.Blocks.state mid).now c.own_near-current.result.at).bytes in
    let long = own.long in
    let part = c.requires.part in
    plain_formed p.kind p.rank (put_at c.args.from c.args.piece.now old)
    (ap (λ (q : Place). q.kind) same ∙ ap (λ l. kind_at t.dir l) none ∙ c.requires.plain.0)
    (subst (λ r. r % 32 ≢ 16) (sym (ap (λ (q : Place). q.rank) same ∙ rank)) c.requires.plain.1)
    (length_put_at c.args.from c.args.piece.now old (omega (arith, long, part)) ∙ long)

-- what an image has beside the bytes that were put
abbrev Waited : State → ℕ → Image → Type 0
Waited u at = λ image. (on j : ℕ) → u.waits at on j → (u.clearing on j → ⊥) → SameUse ((image on).slot j) ((u.now on).slot j)

bytes_put : (g : given.Over) (c : goal.After-put_bytes g) → BytesPut c.own_near-current.result.at (put_at c.args.from c.args.piece.now (((g.B.Blocks.state c.own_near-current.new.on).now c.own_near-current.result.at).bytes)) (Waited (g.B.Blocks.state c.own_near-current.new.on) c.own_near-current.result.at) (g.B.Blocks.state c.own_near-current.new.on) (g.B.Blocks.state c.put_bytes.new.self)
bytes_put g c =
    let e = c.put_bytes.ensures in
    let long = c.own_near-current.ensures.replaces.own.long in
    let part = c.requires.part in
    record {
      puts = e.now;
      images = e.images;
      calm = e.calm;
      no_wait = e.no_wait;
      all = g.met.B.Blocks.keeps_all c.own_near-current.new.on c.put_bytes.new.self e.keeps;
      long = length_put_at c.args.from c.args.piece.now (((g.B.Blocks.state c.own_near-current.new.on).now c.own_near-current.result.at).bytes) (omega (arith, long, part));
    }

came : (g : given.Over) (c : goal.After-put_bytes g) (limit : ℕ) → Over (g.B.Blocks.state c.args.on.now) c.args.tree.now c.args.kept.now limit → PieceCame (g.B.Blocks.state c.args.on.now) (g.B.Blocks.state c.own_near-current.new.on) (g.B.Blocks.state c.put_bytes.new.self) c.args.tree.now c.args.kept.now limit c.own_near-current.result.top c.args.i c.own_near-current.result.at c.args.from c.args.piece.now (Waited (g.B.Blocks.state c.own_near-current.new.on) c.own_near-current.result.at)
came g c limit over =
    let s = g.B.Blocks.state c.args.on.now in
    let mid = c.own_near-current.new.on in
    let t = c.args.tree.now in
    let kept = c.args.kept.now in
    let e = c.own_near-current.ensures in
    let lt = c.requires.inside in
    let all = g.met.B.Blocks.keeps_all c.args.on.now mid e.keeps in
    record {
      came = record {
        all = all;
        over = over;
        end = e.over (omega (arith, lt)) limit over;
        inside = c.requires.inside;
        comes = e.comes;
        replaces = e.replaces;
        leads = e.leads;
        ready = top_ready s t kept t.depth c.args.i c.requires.ready;
        beside = e.beside;
      };
      put = bytes_put g c;
      part = c.requires.part;
      placed = λ told. g.met.B.Blocks.placed mid (g.B.Blocks.state mid).now (g.met.B.Blocks.present mid (all.still_tells.1 told));
      one = λ told. g.met.B.Blocks.one_place mid;
    }

pub returns-clause-put : goal.returns-clause-put
returns-clause-put g c = λ generation limit over. leaf_put (came g c limit over) generation

pub returns-clause-bytes : goal.returns-clause-bytes
returns-clause-bytes g c = λ told. puts_end (came g c c.requires.over.0 c.requires.over.1) told

pub returns-clause-over : goal.returns-clause-over
returns-clause-over g c = λ limit over. let lt = c.requires.inside in over_put (bytes_put g c) (with_top c.args.tree.now c.own_near-current.result.top) c.args.kept.now limit (c.own_near-current.ensures.over (omega (arith, lt)) limit over)

pub returns-clause-top : goal.returns-clause-top
returns-clause-top g c =
    let is = c.own_near-current.ensures.top in
    let same = label_same (bytes_put g c) c.own_near-current.result.top in
    let first = g.met.B.Blocks.keeps_all c.args.on.now c.own_near-current.new.on c.own_near-current.ensures.keeps in
    let more = g.met.B.Blocks.keeps_all c.own_near-current.new.on c.put_bytes.new.self c.put_bytes.ensures.keeps in
    record {
      from = ⊎_elim (λ made. inl (made.0, ap (λ l. l.state) same ∙ made.1)) (λ e. inr e) is.from;
      apart = λ made.
          let stays = (bytes_put g c).calm.frame.stays.apart c.own_near-current.result.top (λ z. z) (λ z. z) in
          stays.1 (is.apart (made.0, ap (λ (l : Label). l.state) (sym same) ∙ made.1));
      comes = λ told from h. comes_on (bytes_put g c) (first.still_tells.1 told) (Local c.own_near-current.result.top) from (is.comes told from h);
      only = λ told y z h. is.only told y z (only_on (bytes_put g c) y z h);
      live = ap (λ l. l.state) same ∙ is.live;
      current = ap (λ l. l.epoch) same ∙ is.current ∙ sym more.same_high;
    }

pub returns-clause-grows : goal.returns-clause-grows
returns-clause-grows g c = λ limit.
    let t = c.args.tree.now in
    let new = with_top t c.own_near-current.result.top in
    let put = bytes_put g c in
    record {
      owns = λ told b. (
        λ has. ⊎_elim (λ old. inl old) (λ made. inr (made.0, ap (λ l. l.state) (label_same put b) ∙ made.1)) ((c.own_near-current.ensures.owns told b).0 (has_back (same_slots put) new b has)),
        λ made. has_on (same_slots put) new b ((c.own_near-current.ensures.owns told b).1 (made.0, ap (λ l. l.state) (sym (label_same put b)) ∙ made.1)),
      );
      still = λ o n was. prepared_put put new c.args.kept.now limit o n (c.own_near-current.ensures.still limit o n was);
    }

pub returns-clause-changes : goal.returns-clause-changes
returns-clause-changes g c =
    let s = g.B.Blocks.state c.args.on.now in
    let u = g.B.Blocks.state c.own_near-current.new.on in
    let t = c.args.tree.now in
    let at = c.own_near-current.result.at in
    let all = g.met.B.Blocks.keeps_all c.args.on.now c.own_near-current.new.on c.own_near-current.ensures.keeps in
    let own = c.own_near-current.ensures.replaces.own in
    changes_put {outer = IsInnerOr s t c.args.i} all c.own_near-current.ensures.changes (bytes_put g c) (λ b h. inl h)
    (⊎_elim
    (λ made. inl made)
    (λ is.
    let same = (c.own_near-current.ensures.comes.descends.others at is.1).label in
    inr (
      inr is.0,
      record { down = t.depth; index = c.args.i; within = omega arith; is = is.0 },
      ap (λ l. l.epoch) (sym same) ∙ own.current ∙ all.same_high,
      ap (λ l. l.tag) (sym same) ∙ own.tagged,
    ))
    c.own_near-current.ensures.comes.from)

pub returns-clause-spare : goal.returns-clause-spare
returns-clause-spare g c = let used = c.own_near-current.ensures.spare in let same = c.put_bytes.ensures.calm.frame.uses.spare in omega (arith, used, same)

pub returns-clause-less : goal.returns-clause-less
returns-clause-less g c = λ top. let used = c.own_near-current.ensures.less top in let same = c.put_bytes.ensures.calm.frame.uses.spare in omega (arith, used, same)

pub returns-clause-room : goal.returns-clause-room
returns-clause-room g c = let first = c.own_near-current.ensures.comes.descends.room in let same = c.put_bytes.ensures.calm.frame.uses.room in omega (arith, first, same)

pub returns-clause-current : goal.returns-clause-current
returns-clause-current g c = top_current (returns-clause-top g c)

pub returns-clause-steps : goal.returns-clause-steps
returns-clause-steps g c =
    let on = c.args.on.now in
    let mid = c.own_near-current.new.on in
    let new = c.put_bytes.new.self in
    let s = g.B.Blocks.state on in
    let t = c.args.tree.now in
    let at = c.own_near-current.result.at in
    let first = g.met.B.Blocks.keeps_all on mid c.own_near-current.ensures.keeps in
    let own = c.own_near-current.ensures.replaces.own in
    let lt = c.requires.inside in
    let end = c.own_near-current.ensures.over (omega (arith, lt)) c.requires.over.0 c.requires.over.1 in
    steps_put (g.met.B.Blocks.keeps_all on new (g.met.B.Blocks.keeps_joins on mid new c.own_near-current.ensures.keeps c.put_bytes.ensures.keeps))
    (steps_down first c.own_near-current.ensures.comes.descends (λ told b made. (end.told (first.still_tells.1 told) b ((c.own_near-current.ensures.owns told b).1 made)).uncovered))
    (bytes_put g c)
    (⊎_elim
    (λ made. inl made)
    (λ is.
    let same = (c.own_near-current.ensures.comes.descends.others at is.1).label in
    inr (
      on_way_last s t t.depth c.args.i at is.0,
      ap (λ l. l.epoch) (sym same) ∙ own.current ∙ first.same_high,
      ap (λ l. l.tag) (sym same) ∙ own.tagged,
    ))
    c.own_near-current.ensures.comes.from)

pub returns-clause-ways : goal.returns-clause-ways
returns-clause-ways g c = λ j b way on_way.
    let put = bytes_put g c in
    ⊎_elim
    (λ old. inl old)
    (λ made. inr (made.0, ap (λ l. l.state) (label_same put b) ∙ made.1))
    (c.own_near-current.ensures.ways j b way (way_back (same_slots put) (with_top c.args.tree.now c.own_near-current.result.top) c.args.tree.now.depth j b on_way))

pub returns-clause-stays : goal.returns-clause-stays
returns-clause-stays g c = λ told b has current. has_on (same_slots (bytes_put g c)) (with_top c.args.tree.now c.own_near-current.result.top) b (c.own_near-current.ensures.stays told b has current)

pub returns-clause-way : goal.returns-clause-way
returns-clause-way g c =
    let put = bytes_put g c in
    let more = g.met.B.Blocks.keeps_all c.own_near-current.new.on c.put_bytes.new.self c.put_bytes.ensures.keeps in
    current_on (same_slots put) (λ b. label_same put b) more.same_high (with_top c.args.tree.now c.own_near-current.result.top) c.args.tree.now.depth c.args.i c.own_near-current.ensures.current

pub returns-clause-used : goal.returns-clause-used
returns-clause-used g c = λ j way le next. let used = c.own_near-current.ensures.used j way le next in let same = c.put_bytes.ensures.calm.frame.uses.spare in omega (arith, used, same)

pub returns-clause-clear : goal.returns-clause-clear
returns-clause-clear g c = λ which was. let lt = c.requires.inside in clear_put (bytes_put g c) (with_top c.args.tree.now c.own_near-current.result.top) c.args.kept.now (c.own_near-current.ensures.clear refl (omega (arith, lt)) which was)

pub returns-clause-stead : goal.returns-clause-stead
returns-clause-stead g c = λ x made h.
    let put = bytes_put g c in
    let top = c.own_near-current.result.top in
    c.own_near-current.ensures.stead x (made.0, ap (λ (l : Label). l.state) (sym (label_same put top)) ∙ made.1) (only_on put top x h)

pub returns-clause-dirties : goal.returns-clause-dirties
returns-clause-dirties g c = way_put (bytes_put g c) (with_top c.args.tree.now c.own_near-current.result.top) c.args.tree.now.depth c.args.i c.own_near-current.ensures.leads c.own_near-current.ensures.dirties

pub returns-clause-dirties_used : goal.returns-clause-dirties_used
returns-clause-dirties_used g c = λ blocks j now has le next. ways_put (bytes_put g c) (with_top c.args.tree.now c.own_near-current.result.top) c.args.tree.now.depth c.args.i c.own_near-current.ensures.leads (c.own_near-current.ensures.dirties_used blocks j now has le next)

-- Bytes were put into a block that is no leaf of records, as far as there are images.
put_shows : {stands : ℕ → Place → Type 0} {now : Image} {at : ℕ} {bytes : List ℕ} {beside : Image → Type 0} {old new : Image → Type 0} → ((image : Image) → old image → stands 1 super_place) → ((image : Image) → old image → IsPlaced stands image) → ((image : Image) → old image → (p : Place) → stands at p → (p.kind ≡ Data 0) × (p.rank % 32 ≡ 16) → ⊥) → AddsBytes now at bytes beside old new → ShowsNoMore old new
put_shows {now = now} {at = at} {old = old} super_at placed elsewhere adds = record {
  each = λ p shown of is.
      let other : (image : Image) × old image = ⊎_elim (λ was. (is.image, was)) (λ put. (with_bytes is.image at ((now at).bytes), put.1)) (adds.each is.image is.is) in
      (bytes_show (record { super_at = super_at; each = placed }) (elsewhere other.0 other.1) adds).each p shown of is;
}

pub returns-clause-shown : goal.returns-clause-shown
returns-clause-shown g c =
    let t = c.args.tree.now in
    let mid = c.own_near-current.new.on in
    let at = c.own_near-current.result.at in
    let here : Place = place (kind_at t.dir (t.depth - t.depth)) t.tag c.args.i (t.rank + (t.depth - t.depth)) in
    shows_joins c.own_near-current.ensures.shown
    (put_shows {stands = (g.B.Blocks.state mid).stands}
    (λ image is. g.met.B.Blocks.super_stands mid (g.met.B.Blocks.told mid image is))
    (λ image is. g.met.B.Blocks.placed mid image is)
    (λ image is p stands of.
    let same : p ≡ here = (g.met.B.Blocks.one_place mid).each at p here stands (c.own_near-current.ensures.replaces.own.told (g.met.B.Blocks.told mid image is)).stands in
    let rank = ap (λ (q : Place). q.rank) same in
    let of_records = of.1 in
    c.requires.plain.1 (omega (arith, rank, of_records)))
    c.put_bytes.ensures.images)

pub returns-clause-alike : goal.returns-clause-alike
returns-clause-alike g c =
    let t = c.args.tree.now in
    let mid = c.own_near-current.new.on in
    let at = c.own_near-current.result.at in
    let e = c.own_near-current.ensures in
    let lt = c.requires.inside in
    let here : Place = place (kind_at t.dir (t.depth - t.depth)) t.tag c.args.i (t.rank + (t.depth - t.depth)) in
    alike_put (bytes_put g c) (g.met.B.Blocks.keeps_all c.args.on.now mid e.keeps)
    (e.over (omega (arith, lt)) c.requires.over.0 c.requires.over.1).hangs (g.met.B.Blocks.active mid).0
    (record {
      super_at = λ image is. g.met.B.Blocks.super_stands mid (g.met.B.Blocks.told mid image is);
      each = λ image is. g.met.B.Blocks.placed mid image is;
    })
    (g.met.B.Blocks.one_place mid)
    (λ image is p stands of.
    let same : p ≡ here = (g.met.B.Blocks.one_place mid).each at p here stands (e.replaces.own.told (g.met.B.Blocks.told mid image is)).stands in
    let rank = ap (λ (q : Place). q.rank) same in
    let of_records = of.1 in
    c.requires.plain.1 (omega (arith, rank, of_records)))
    e.alike
