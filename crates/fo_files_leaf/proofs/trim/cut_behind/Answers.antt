use Rattle.std.proofs.Common.{◌≡◌, ◌<◌, ℕ, false, List, inr, refl, sym, ◌∙◌, ap, subst, arith, [], ◌∷◌, ◌++◌}
use Rattle.fo_ports.specs.State.{KeepsAll, Rests, StaysKnown, none}
use Rattle.fo_tree_read.specs.declared.tree.Tree.{Tree}
use Rattle.fo_tree_look.specs.declared.ways.Kept.{Kept}
use Rattle.fo_tree_look.specs.Source.{Over}
use Rattle.fo_tree_shorten.specs.of_tree_down.Clear.{last_leaf}
use Rattle.fo_tree_shorten.proofs.of_tree_own.Link.{Laws}
use Rattle.fo_tree_shorten.specs.Shorten.{EntryAt}
use Rattle.fo_tree_shorten.proofs.Settling.{Settles, entry_settled, ready_settled, over_settled}
use Rattle.fo_files_leaf.specs.Leaf.{IsAbove}
use Rattle.fo_files_leaf.proofs.Altering.{alters_settled, alters_joins}
use Rattle.fo_files_leaf.proofs.Trimming.{readies_alters, cuts_alters, above_same, end_settled}
use Rattle.fo_files_leaf.proofs.trim.cut_behind.Given as given
use Rattle.fo_files_leaf.proofs.trim.cut_behind.Goals as goal
use Rattle.fo_dirties.proofs.Adding.{dirties_quiet}
use Rattle.fo_dirties.proofs.Putting.{dirties_at_once, first_among}
use Rattle.fo_dirties.proofs.Dirtied.{dirties_rests}
use Rattle.fo_tree_shorten.proofs.of_tree_trim.Knowing.{end_known}

laws_of : (g : given.Over) (b : g.row.B.Denot) → Laws (g.B.Blocks.state b)
laws_of g b =
    let s = g.B.Blocks.state b in
    record { present = g.met.B.Blocks.present b; active = (g.met.B.Blocks.active b).0; not_one = (g.met.B.Blocks.active b).1; one = g.met.B.Blocks.one_place b; super_stands = g.met.B.Blocks.super_stands b; placed = λ told. g.met.B.Blocks.placed b s.now (g.met.B.Blocks.present b told); ranked = λ told. g.met.B.Blocks.ranked b s.now (g.met.B.Blocks.present b told); live = λ y told ne r. g.met.B.Blocks.live b y told ne r; clears = g.met.B.Blocks.clears_entries b; waits_within = g.met.B.Blocks.waits_within b; covers_told = g.met.B.Blocks.covers_told b; within = g.met.B.Blocks.within b; spelled = g.met.B.Blocks.spelled b; apart_hangs = λ told w is r. g.met.B.Blocks.apart_hangs b s.now 1 w is (g.met.B.Blocks.present b told) (g.met.B.Blocks.active b).0 r; small = g.met.B.Blocks.small b }

settles_of : (g : given.Over) (a b : g.row.B.Denot) (t : Tree) (kept : List Kept) (limit generation at i : ℕ) → KeepsAll (g.B.Blocks.state a) (g.B.Blocks.state b) → ((g.B.Blocks.state a).tells → ⊥) → Over (g.B.Blocks.state a) t kept limit → t.dir ≡ false → EntryAt (g.B.Blocks.state a) t generation at i
    → Rests (g.B.Blocks.state a) (g.B.Blocks.state b) → ((x : ℕ) → (g.B.Blocks.state a).pinned x → StaysKnown (g.B.Blocks.state a) (g.B.Blocks.state b) x)
    → ((x : ℕ) → ((g.B.Blocks.state b).label x ≡ (g.B.Blocks.state a).label x) × ((g.B.Blocks.state a).pinned x → (g.B.Blocks.state b).pinned x) × ((g.B.Blocks.state a).sealed x → (g.B.Blocks.state b).sealed x)) → Settles (g.B.Blocks.state a) (g.B.Blocks.state b) t kept limit generation at i
settles_of g a b t kept limit generation at i all silent over plain entry rests known blocks = record {
  all = all;
  laws = laws_of g a;
  end = laws_of g b;
  says = λ told. absurd (silent told);
  one_stays = g.met.B.Blocks.one_stays a;
  over = over;
  plain = plain;
  entry = entry;
  linked = λ told. absurd (silent told);
  undoomed = λ told. absurd (silent told);
  rests = rests;
  known = known;
  blocks = blocks;
}

pub make_ready-requires-clause-spare : goal.make_ready-requires-clause-spare
make_ready-requires-clause-spare g c = let few = c.requires.over.hangs.few in let spare = c.requires.spare in inr (omega (arith, few, spare))

pub cut-requires-clause-over : goal.cut-requires-clause-over
cut-requires-clause-over g c =
    let m = c.make_ready.ensures in
    let w = c.make_ready.new.ways in
    let all = g.met.B.Blocks.keeps_all c.args.on.now c.make_ready.new.on m.keeps in
    let e = c.settle.ensures in
    over_settled (settles_of g c.make_ready.new.on c.settle.new.self w.tree w.kept.items w.limit w.generation c.args.at c.args.slot (g.met.B.Blocks.keeps_all c.make_ready.new.on c.settle.new.self e.keeps) (λ h. c.requires.silent (all.still_tells.0 h)) m.over (ap (λ (t : Tree). t.dir) m.steps.1 ∙ c.requires.data) m.entry e.rests e.known e.blocks)

pub cut-requires-clause-data : goal.cut-requires-clause-data
cut-requires-clause-data g c = ap (λ (t : Tree). t.dir) c.make_ready.ensures.steps.1 ∙ c.requires.data

pub cut-requires-clause-deep : goal.cut-requires-clause-deep
cut-requires-clause-deep g c = subst (λ (t : Tree). 0 < t.depth) (sym c.make_ready.ensures.steps.1) c.requires.deep

pub cut-requires-clause-entry : goal.cut-requires-clause-entry
cut-requires-clause-entry g c =
    let m = c.make_ready.ensures in
    let w = c.make_ready.new.ways in
    let all = g.met.B.Blocks.keeps_all c.args.on.now c.make_ready.new.on m.keeps in
    let e = c.settle.ensures in
    entry_settled (settles_of g c.make_ready.new.on c.settle.new.self w.tree w.kept.items w.limit w.generation c.args.at c.args.slot (g.met.B.Blocks.keeps_all c.make_ready.new.on c.settle.new.self e.keeps) (λ h. c.requires.silent (all.still_tells.0 h)) m.over (ap (λ (t : Tree). t.dir) m.steps.1 ∙ c.requires.data) m.entry e.rests e.known e.blocks)

pub cut-requires-clause-ready : goal.cut-requires-clause-ready
cut-requires-clause-ready g c =
    let m = c.make_ready.ensures in
    let w = c.make_ready.new.ways in
    let all = g.met.B.Blocks.keeps_all c.args.on.now c.make_ready.new.on m.keeps in
    let e = c.settle.ensures in
    ready_settled (settles_of g c.make_ready.new.on c.settle.new.self w.tree w.kept.items w.limit w.generation c.args.at c.args.slot (g.met.B.Blocks.keeps_all c.make_ready.new.on c.settle.new.self e.keeps) (λ h. c.requires.silent (all.still_tells.0 h)) m.over (ap (λ (t : Tree). t.dir) m.steps.1 ∙ c.requires.data) m.entry e.rests e.known e.blocks) w.tree.depth (last_leaf w.tree.size) (omega arith) m.ready

pub cut-requires-clause-current : goal.cut-requires-clause-current
cut-requires-clause-current g c =
    let m = c.make_ready.ensures in
    let w = c.make_ready.new.ways in
    let all = g.met.B.Blocks.keeps_all c.args.on.now c.make_ready.new.on m.keeps in
    let e = c.settle.ensures in
    end_settled (settles_of g c.make_ready.new.on c.settle.new.self w.tree w.kept.items w.limit w.generation c.args.at c.args.slot (g.met.B.Blocks.keeps_all c.make_ready.new.on c.settle.new.self e.keeps) (λ h. c.requires.silent (all.still_tells.0 h)) m.over (ap (λ (t : Tree). t.dir) m.steps.1 ∙ c.requires.data) m.entry e.rests e.known e.blocks) m.ready m.current

pub returns-in-Err-clause-entry : goal.returns-in-Err-clause-entry
returns-in-Err-clause-entry g c =
    let m = c.make_ready.ensures in
    let w = c.make_ready.new.ways in
    let all = g.met.B.Blocks.keeps_all c.args.on.now c.make_ready.new.on m.keeps in
    let e = c.settle.ensures in
    entry_settled (settles_of g c.make_ready.new.on c.settle.new.self w.tree w.kept.items w.limit w.generation c.args.at c.args.slot (g.met.B.Blocks.keeps_all c.make_ready.new.on c.settle.new.self e.keeps) (λ h. c.requires.silent (all.still_tells.0 h)) m.over (ap (λ (t : Tree). t.dir) m.steps.1 ∙ c.requires.data) m.entry e.rests e.known e.blocks)

pub returns-in-Err-clause-alters : goal.returns-in-Err-clause-alters
returns-in-Err-clause-alters g c =
    let m = c.make_ready.ensures in
    let w = c.make_ready.new.ways in
    let all = g.met.B.Blocks.keeps_all c.args.on.now c.make_ready.new.on m.keeps in
    let e = c.settle.ensures in
    let t = c.args.source.now.ways.tree in
    let a = g.B.Blocks.state c.make_ready.new.on in
    let b = g.B.Blocks.state c.settle.new.self in
    alters_joins all (above_same t t refl c.requires.data (readies_alters m.steps.2.1 c.requires.entry))
    (alters_settled c.args.at (λ k. k ≡ c.args.slot) (λ z. z ≡ t.tag) (IsAbove t.tag false) none a b m.entry.is_pinned e.rests e.known e.blocks e.room.0)

pub returns-in-Ok-clause-alters : goal.returns-in-Ok-clause-alters
returns-in-Ok-clause-alters g c =
    let m = c.make_ready.ensures in
    let w = c.make_ready.new.ways in
    let all = g.met.B.Blocks.keeps_all c.args.on.now c.make_ready.new.on m.keeps in
    let e = c.settle.ensures in
    let t = c.args.source.now.ways.tree in
    let a = g.B.Blocks.state c.make_ready.new.on in
    let b = g.B.Blocks.state c.settle.new.self in
    let dir = ap (λ (y : Tree). y.dir) m.steps.1 ∙ c.requires.data in
    let settles = (settles_of g c.make_ready.new.on c.settle.new.self w.tree w.kept.items w.limit w.generation c.args.at c.args.slot (g.met.B.Blocks.keeps_all c.make_ready.new.on c.settle.new.self e.keeps) (λ h. c.requires.silent (all.still_tells.0 h)) m.over (ap (λ (t : Tree). t.dir) m.steps.1 ∙ c.requires.data) m.entry e.rests e.known e.blocks) in
    let deep = subst (λ (y : Tree). 0 < y.depth) (sym m.steps.1) c.requires.deep in
    let ready = ready_settled settles w.tree.depth (last_leaf w.tree.size) (omega arith) m.ready in
    let more = g.met.B.Blocks.keeps_all c.make_ready.new.on c.settle.new.self e.keeps in
    let last = g.met.B.Blocks.keeps_all c.settle.new.self c.cut.new.on c.cut.ensures.keeps in
    alters_joins all (above_same t t refl c.requires.data (readies_alters m.steps.2.1 c.requires.entry))
    (alters_joins more (alters_settled c.args.at (λ k. k ≡ c.args.slot) (λ z. z ≡ t.tag) (IsAbove t.tag false) none a b m.entry.is_pinned e.rests e.known e.blocks e.room.0)
    (above_same t w.tree (ap (λ (y : Tree). y.tag) m.steps.1) dir (cuts_alters w.kept.items c.cut.ensures.cuts last deep ready (end_settled settles m.ready m.current) (entry_settled settles))))

pub returns-in-Err-clause-dirties : goal.returns-in-Err-clause-dirties
returns-in-Err-clause-dirties g c =
    let m = c.make_ready.ensures.dirties c.args.on.now (c.args.at ∷ []) (dirties_at_once (g.B.Blocks.state c.args.on.now) (c.args.at ∷ [])) (first_among c.args.at []) in
    let settled = dirties_rests (g.B.Blocks.state c.make_ready.new.on) (g.B.Blocks.state c.settle.new.self) (g.met.B.Blocks.keeps_all c.make_ready.new.on c.settle.new.self c.settle.ensures.keeps) c.settle.ensures.rests in
    record { more = m.more; few = m.few; within = dirties_quiet m.within settled; here = m.here }

pub returns-in-Ok-clause-dirties : goal.returns-in-Ok-clause-dirties
returns-in-Ok-clause-dirties g c =
    let m = c.make_ready.ensures.dirties c.args.on.now (c.args.at ∷ []) (dirties_at_once (g.B.Blocks.state c.args.on.now) (c.args.at ∷ [])) (first_among c.args.at []) in
    let settled = dirties_rests (g.B.Blocks.state c.make_ready.new.on) (g.B.Blocks.state c.settle.new.self) (g.met.B.Blocks.keeps_all c.make_ready.new.on c.settle.new.self c.settle.ensures.keeps) c.settle.ensures.rests in
    let known = end_known (g.B.Blocks.state c.make_ready.new.on) (g.B.Blocks.state c.settle.new.self) c.make_ready.new.ways.tree c.make_ready.new.ways.kept.items c.make_ready.ensures.ready c.settle.ensures.known in
    let cut = c.cut.ensures.dirties c.args.on.now (m.more ++ c.args.at ∷ []) (dirties_quiet m.within settled) (λ b h. m.end b (known b h)) in
    record { more = m.more; few = m.few; within = cut; here = m.here }
