use Rattle.std.proofs.Common.{◌≡◌, ◌⊎◌, ℕ, inr, ◌∙◌, ap, subst, arith}
use Rattle.fo_ports.specs.State.{IsDoomed}
use Rattle.fo_tree_read.proofs.of_looks.Dirtied.{dirties_joins, dirties_rests}
use Rattle.fo_tree_read.specs.declared.tree.Tree.{Tree}
use Rattle.fo_tree_look.specs.Source.{HasBlock}
use Rattle.fo_tree_down.specs.Clear.{last_leaf}
use Rattle.fo_tree_down.proofs.of_tree_own.Link.{Laws}
use Rattle.fo_tree_trim.proofs.Counting.{ends_settled}
use Rattle.fo_tree_trim.proofs.Knowing.{end_known}
use Rattle.fo_tree_trim.proofs.of_tree_own.Showing.{nothing_shows, shows_joins}
use Rattle.fo_tree_shorten.specs.Shorten.{EntryAt}
use Rattle.fo_tree_shorten.proofs.Settling.{Settles, entry_settled, ready_settled, hangs_settled, over_settled}
use Rattle.fo_tree_set.proofs.Resting.{undoomed, bytes_settled, current_after}
use Rattle.fo_tree_set.proofs.Lengths.{if_ok, rose_since}
use Rattle.fo_tree_set.proofs.trim.rest.Given as given
use Rattle.fo_tree_set.proofs.trim.rest.Goals as goal

laws_of : (g : given.Over) (b : g.row.B.Denot) → Laws (g.B.Blocks.state b)
laws_of g b =
    let s = g.B.Blocks.state b in
    record { present = g.met.B.Blocks.present b; active = (g.met.B.Blocks.active b).0; not_one = (g.met.B.Blocks.active b).1; one = g.met.B.Blocks.one_place b; super_stands = g.met.B.Blocks.super_stands b; placed = λ told. g.met.B.Blocks.placed b s.now (g.met.B.Blocks.present b told); ranked = λ told. g.met.B.Blocks.ranked b s.now (g.met.B.Blocks.present b told); live = λ y told ne r. g.met.B.Blocks.live b y told ne r; clears = g.met.B.Blocks.clears_entries b; waits_within = g.met.B.Blocks.waits_within b; covers_told = g.met.B.Blocks.covers_told b; within = g.met.B.Blocks.within b; spelled = g.met.B.Blocks.spelled b; apart_hangs = λ told w is r. g.met.B.Blocks.apart_hangs b s.now 1 w is (g.met.B.Blocks.present b told) (g.met.B.Blocks.active b).0 r; small = g.met.B.Blocks.small b }

pub make_ready-requires-clause-spare : goal.make_ready-requires-clause-spare
make_ready-requires-clause-spare g c = inr c.requires.spare

pub settle-requires : goal.settle-requires
settle-requires g c =
    let all = g.met.B.Blocks.keeps_all c.args.on.now c.make_ready.new.on c.make_ready.ensures.keeps in
    record { apart = λ told y z h doomed. (c.make_ready.ensures.linked (all.still_tells.0 told)).none y z h }

calm_mid : (g : given.Over) (c : goal.After-settle g) → (g.B.Blocks.state c.args.on.now).tells → (b j : ℕ) → (g.B.Blocks.state c.make_ready.new.on).clearing b j → ⊥
calm_mid g c told b j h =
    let ready = c.make_ready.ensures.steps.2.1 in
    c.requires.calm told b j (ready.made.clearing b j (ready.linked.order.clearing b j h).1).1

safe_mid : (g : given.Over) (c : goal.After-settle g) → (g.B.Blocks.state c.make_ready.new.on).tells → (b : ℕ) → (b ≡ c.args.at) ⊎ HasBlock (g.B.Blocks.state c.make_ready.new.on) c.make_ready.new.ways.tree b → IsDoomed (g.B.Blocks.state c.make_ready.new.on) b → ⊥
safe_mid g c told b own =
    let mid = c.make_ready.new.on in
    let all = g.met.B.Blocks.keeps_all c.args.on.now mid c.make_ready.ensures.keeps in
    let before = all.still_tells.0 told in
    undoomed {s = g.B.Blocks.state mid} {t = c.make_ready.new.ways.tree} {at = c.args.at} {i = c.args.i} (laws_of g mid) (g.met.B.Blocks.one_stays mid) told (c.make_ready.ensures.linked before) (calm_mid g c before) b own

settled : (g : given.Over) (c : goal.After-settle g) → Settles (g.B.Blocks.state c.make_ready.new.on) (g.B.Blocks.state c.settle.new.self) c.make_ready.new.ways.tree c.make_ready.new.ways.kept.items c.make_ready.new.ways.limit c.make_ready.new.ways.generation c.args.at c.args.i
settled g c =
    let mid = c.make_ready.new.on in
    let end = c.settle.new.self in
    let u = g.B.Blocks.state mid in
    let k = c.make_ready.ensures in
    let q = c.settle.ensures in
    let all = g.met.B.Blocks.keeps_all c.args.on.now mid k.keeps in
    record {
      all = g.met.B.Blocks.keeps_all mid end q.keeps;
      laws = laws_of g mid;
      end = laws_of g end;
      says = λ told. record { placed = g.met.B.Blocks.placed mid u.now (g.met.B.Blocks.present mid told); one = g.met.B.Blocks.one_place mid; active = (g.met.B.Blocks.active mid).0; super_stands = g.met.B.Blocks.super_stands mid told; labelled = λ b p ne stands. (g.met.B.Blocks.labelled mid b p told ne stands).1 };
      one_stays = g.met.B.Blocks.one_stays mid;
      over = k.over;
      plain = ap (λ (t : Tree). t.dir) k.steps.1 ∙ c.requires.data;
      entry = k.entry;
      linked = λ told. k.linked (all.still_tells.0 told);
      undoomed = λ told b own. safe_mid g c told b own;
      rests = q.rests;
      known = q.known;
      blocks = q.blocks;
    }

pub returns-clause-over : goal.returns-clause-over
returns-clause-over g c = over_settled (settled g c)

pub returns-clause-entry : goal.returns-clause-entry
returns-clause-entry g c = entry_settled (settled g c)

pub returns-clause-ready : goal.returns-clause-ready
returns-clause-ready g c =
    let t = c.make_ready.new.ways.tree in
    ready_settled (settled g c) t.depth (last_leaf t.size) (omega arith) c.make_ready.ensures.ready

pub returns-clause-current : goal.returns-clause-current
returns-clause-current g c = λ deep. current_after (settled g c) deep c.make_ready.ensures.ready c.make_ready.ensures.current

pub returns-clause-linked : goal.returns-clause-linked
returns-clause-linked g c = λ told.
    let all = g.met.B.Blocks.keeps_all c.args.on.now c.make_ready.new.on c.make_ready.ensures.keeps in
    hangs_settled (settled g c) (all.still_tells.1 told)

pub returns-clause-bytes : goal.returns-clause-bytes
returns-clause-bytes g c = λ told.
    let mid = c.make_ready.new.on in
    let end = c.settle.new.self in
    let s = g.B.Blocks.state mid in
    let u = g.B.Blocks.state end in
    let t = c.make_ready.new.ways.tree in
    let all = g.met.B.Blocks.keeps_all c.args.on.now mid c.make_ready.ensures.keeps in
    let now = all.still_tells.1 told in
    bytes_settled {s = s} {u = u} {t = t} now (g.met.B.Blocks.keeps_all mid end c.settle.ensures.keeps) c.settle.ensures.rests (calm_mid g c told) (λ b has. safe_mid g c now b (inr has)) {kept = c.make_ready.new.ways.kept.items} {limit = c.make_ready.new.ways.limit} c.make_ready.ensures.over
    ∙ c.make_ready.ensures.bytes told

pub returns-clause-settled : goal.returns-clause-settled
returns-clause-settled g c = if_ok c.settle.result _ c.settle.ensures.all

pub returns-clause-steps : goal.returns-clause-steps
returns-clause-steps g c =
    let first = c.args.on.now in
    let mid = c.make_ready.new.on in
    let u = g.B.Blocks.state mid in
    let e = c.make_ready.ensures in
    let k = e.steps in
    let q = c.settle.ensures in
    let entry = subst (λ (t : Tree). EntryAt u t c.args.ways.now.generation c.args.at c.args.i) k.1 (subst (λ n. EntryAt u c.make_ready.new.ways.tree n c.args.at c.args.i) e.is.0 e.entry) in
    (k.0, k.1, (k.2.0, (mid, record { ready = k.2.1; entry = entry; kept = g.met.B.Blocks.keeps_all first mid e.keeps; settled = g.met.B.Blocks.keeps_all mid c.settle.new.self q.keeps; rests = q.rests; known = q.known; blocks = q.blocks; units = (q.room.0, q.room.1, q.room.2) })))

pub returns-clause-spare : goal.returns-clause-spare
returns-clause-spare g c = let first = c.make_ready.ensures.spare in let same = c.settle.ensures.room.0 in omega (arith, first, same)

pub returns-clause-room : goal.returns-clause-room
returns-clause-room g c = c.settle.ensures.room.2 ∙ c.make_ready.ensures.room

pub returns-clause-pins : goal.returns-clause-pins
returns-clause-pins g c =
    let ready = c.make_ready.ensures.steps.2.1 in
    c.settle.ensures.room.1 ∙ ready.linked.frame.uses.pins ∙ ready.made.pins

pub returns-clause-cause : goal.returns-clause-cause
returns-clause-cause g c =
    let first = c.args.on.now in
    let mid = c.make_ready.new.on in
    rose_since (g.B.Blocks.state first) (g.B.Blocks.state mid) (g.B.Blocks.state c.settle.new.self) (g.met.B.Blocks.keeps_all first mid c.make_ready.ensures.keeps) c.settle.result c.settle.ensures.cause

pub returns-clause-keeps : goal.returns-clause-keeps
returns-clause-keeps g c = g.met.B.Blocks.keeps_joins c.args.on.now c.make_ready.new.on c.settle.new.self c.make_ready.ensures.keeps c.settle.ensures.keeps

pub returns-clause-dirties : goal.returns-clause-dirties
returns-clause-dirties g c = λ before blocks counted here.
    let mid = c.make_ready.new.on in
    let end = c.settle.new.self in
    let u = g.B.Blocks.state mid in
    let v = g.B.Blocks.state end in
    let w = c.make_ready.new.ways in
    let q = c.settle.ensures in
    ends_settled (c.make_ready.ensures.dirties before blocks counted here)
    (λ list within. dirties_joins within (dirties_rests u v (g.met.B.Blocks.keeps_all mid end q.keeps) q.rests))
    (end_known u v w.tree w.kept.items c.make_ready.ensures.ready q.known)

pub returns-clause-shown : goal.returns-clause-shown
returns-clause-shown g c = shows_joins c.make_ready.ensures.shown (nothing_shows c.settle.ensures.rests.images)
