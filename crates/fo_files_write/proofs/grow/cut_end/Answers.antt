use Rattle.std.proofs.Common.{◌≡◌, ◌-◌, ◌*◌, ◌/◌, ◌<◌, ℕ, suc, false, List, inr, sym, ap, subst, ◌∙◌, arith, [], ◌∷◌, ◌++◌}
use Rattle.fo_ports.specs.State.{State, Rests, StaysKnown}
use Rattle.fo_tree_read.specs.declared.tree.Tree.{Tree}
use Rattle.fo_tree_look.specs.declared.ways.Kept.{Kept}
use Rattle.fo_tree_look.specs.declared.ways.Ways.{Ways}
use Rattle.fo_tree_look.specs.Source.{Over, WayReady}
use Rattle.fo_tree_trim.specs.of_tree_down.Clear.{last_leaf}
use Rattle.fo_tree_trim.specs.of_tree_down.Way.{WayCurrent, with_top}
use Rattle.fo_tree_trim.proofs.of_tree_own.Link.{Laws}
use Rattle.fo_tree_trim.specs.Trim.{IsEndCurrent}
use Rattle.fo_tree_trim.proofs.Along.{Aside}
use Rattle.fo_tree_shorten.specs.Shorten.{EntryAt}
use Rattle.fo_tree_shorten.proofs.Settling.{Settles, entry_settled, ready_settled, current_settled, over_settled}
use Rattle.fo_files_write.specs.Alters.{Alters, is_above}
use Rattle.fo_files_write.specs.Data.{SameData}
use Rattle.fo_files_write.proofs.Steps.{keeps_two, caused_rose, alters_joins, alters_readies, alters_rests, alters_cuts, pins_readies}
use Rattle.fo_files_write.proofs.grow.cut_end.Given as given
use Rattle.fo_files_write.proofs.grow.cut_end.Goals as goal
use Rattle.fo_dirties.proofs.Adding.{dirties_quiet}
use Rattle.fo_dirties.proofs.Putting.{dirties_at_once, first_among}
use Rattle.fo_dirties.proofs.Dirtied.{dirties_rests}
use Rattle.fo_tree_trim.proofs.Knowing.{end_known}

laws_of : (g : given.Over) (b : g.row.B.Denot) → Laws (g.B.Blocks.state b)
laws_of g b =
    let s = g.B.Blocks.state b in
    record { present = g.met.B.Blocks.present b; active = (g.met.B.Blocks.active b).0; not_one = (g.met.B.Blocks.active b).1; one = g.met.B.Blocks.one_place b; super_stands = g.met.B.Blocks.super_stands b; placed = λ told. g.met.B.Blocks.placed b s.now (g.met.B.Blocks.present b told); ranked = λ told. g.met.B.Blocks.ranked b s.now (g.met.B.Blocks.present b told); live = λ y told ne r. g.met.B.Blocks.live b y told ne r; clears = g.met.B.Blocks.clears_entries b; waits_within = g.met.B.Blocks.waits_within b; covers_told = g.met.B.Blocks.covers_told b; within = g.met.B.Blocks.within b; spelled = g.met.B.Blocks.spelled b; apart_hangs = λ told w is r. g.met.B.Blocks.apart_hangs b s.now 1 w is (g.met.B.Blocks.present b told) (g.met.B.Blocks.active b).0 r; small = g.met.B.Blocks.small b }

settled : (g : given.Over) (a b : g.row.B.Denot) (w : Ways) (at j : ℕ) → ((g.B.Blocks.state a).tells → ⊥) → g.B.Blocks.keeps a b → Over (g.B.Blocks.state a) w.tree w.kept.items w.limit → w.tree.dir ≡ false → EntryAt (g.B.Blocks.state a) w.tree w.generation at j
    → Rests (g.B.Blocks.state a) (g.B.Blocks.state b) → ((x : ℕ) → (g.B.Blocks.state a).pinned x → StaysKnown (g.B.Blocks.state a) (g.B.Blocks.state b) x)
    → ((x : ℕ) → ((g.B.Blocks.state b).label x ≡ (g.B.Blocks.state a).label x) × ((g.B.Blocks.state a).pinned x → (g.B.Blocks.state b).pinned x) × ((g.B.Blocks.state a).sealed x → (g.B.Blocks.state b).sealed x))
    → Settles (g.B.Blocks.state a) (g.B.Blocks.state b) w.tree w.kept.items w.limit w.generation at j
settled g a b w at j silent keeps over plain entry rests known blocks = record {
  all = g.met.B.Blocks.keeps_all a b keeps;
  laws = laws_of g a;
  end = laws_of g b;
  says = λ told. absurd (silent told);
  one_stays = g.met.B.Blocks.one_stays a;
  over = over;
  plain = plain;
  entry = entry;
  linked = λ told. absurd (silent told);
  undoomed = λ told. absurd (silent told);
  rests = rests;
  known = known;
  blocks = blocks;
}

pub make_ready-requires-clause-spare : goal.make_ready-requires-clause-spare
make_ready-requires-clause-spare g c = let few = c.requires.over.hangs.few in let spare = c.requires.spare in inr (omega (arith, few, spare))

same_top : (t new : Tree) (top : ℕ) → new ≡ with_top t top → SameData t new
same_top t new top is = record { dir = ap (λ (y : Tree). y.dir) is; tag = ap (λ (y : Tree). y.tag) is; rank = ap (λ (y : Tree). y.rank) is; size = ap (λ (y : Tree). y.size) is }

current_after : {s u : State} {t : Tree} {kept : List Kept} {limit generation at j : ℕ} → Settles s u t kept limit generation at j → 0 < t.depth → WayReady s t kept t.depth (last_leaf t.size) → IsEndCurrent s t → WayCurrent u t (t.depth - 1) (last_leaf t.size / 409)
current_after {s = s} {t = t} {kept = kept} x deep way current =
    let level : t.depth ≡ suc (t.depth - 1) = omega (arith, deep) in
    let whole : WayReady s t kept (suc (t.depth - 1)) (last_leaf t.size) = subst (λ d. WayReady s t kept d (last_leaf t.size)) level way in
    current_settled x (t.depth - 1) (last_leaf t.size / 409) (omega arith) whole.0 (current deep)

pub make_ready-requires-clause-linked : goal.make_ready-requires-clause-linked
make_ready-requires-clause-linked g c = λ told. absurd (c.requires.silent told)

pub settle-requires : goal.settle-requires
settle-requires g c =
    let first = c.args.on.now in
    let mid = c.make_ready.new.on in
    let s = g.B.Blocks.state first in
    let u = g.B.Blocks.state mid in
    let at = c.args.at in
    let j = c.args.slot in
    let old = c.args.ways.now in
    let w = c.make_ready.new.ways in
    let k = c.make_ready.ensures in
    let all = g.met.B.Blocks.keeps_all first mid k.keeps in
    let same : SameData old.tree w.tree = same_top old.tree w.tree k.steps.0 k.steps.1 in
    let level : w.tree.depth ≡ old.tree.depth = ap (λ (t : Tree). t.depth) k.steps.1 in
    record { apart = λ told. absurd (c.requires.silent (all.still_tells.0 told)) }

pub cut-requires-clause-over : goal.cut-requires-clause-over
cut-requires-clause-over g c =
    let first = c.args.on.now in
    let mid = c.make_ready.new.on in
    let s = g.B.Blocks.state first in
    let u = g.B.Blocks.state mid in
    let at = c.args.at in
    let j = c.args.slot in
    let old = c.args.ways.now in
    let w = c.make_ready.new.ways in
    let k = c.make_ready.ensures in
    let all = g.met.B.Blocks.keeps_all first mid k.keeps in
    let same : SameData old.tree w.tree = same_top old.tree w.tree k.steps.0 k.steps.1 in
    let level : w.tree.depth ≡ old.tree.depth = ap (λ (t : Tree). t.depth) k.steps.1 in
    let end = c.settle.new.self in
    let v = g.B.Blocks.state end in
    let q = c.settle.ensures in
    let x = settled g mid end w at j (λ told. c.requires.silent (all.still_tells.0 told)) q.keeps k.over (same.dir ∙ c.requires.data) k.entry q.rests q.known q.blocks in
    let next = g.met.B.Blocks.keeps_all mid end q.keeps in
    let moved = alters_joins all (alters_readies s (g.B.Blocks.state k.steps.2.0) u old.tree old.generation at j k.steps.0 c.requires.data c.requires.entry k.steps.2.1) (alters_rests is_above u v at j old.tree.tag q.rests q.known q.blocks q.room.0 k.entry.is_pinned) in
    let pins = pins_readies s (g.B.Blocks.state k.steps.2.0) u old.tree old.generation at j k.steps.0 k.steps.2.1 in
    let few = c.requires.over.hangs.few in
    over_settled x

pub cut-requires-clause-data : goal.cut-requires-clause-data
cut-requires-clause-data g c =
    let first = c.args.on.now in
    let mid = c.make_ready.new.on in
    let s = g.B.Blocks.state first in
    let u = g.B.Blocks.state mid in
    let at = c.args.at in
    let j = c.args.slot in
    let old = c.args.ways.now in
    let w = c.make_ready.new.ways in
    let k = c.make_ready.ensures in
    let all = g.met.B.Blocks.keeps_all first mid k.keeps in
    let same : SameData old.tree w.tree = same_top old.tree w.tree k.steps.0 k.steps.1 in
    let level : w.tree.depth ≡ old.tree.depth = ap (λ (t : Tree). t.depth) k.steps.1 in
    let end = c.settle.new.self in
    let v = g.B.Blocks.state end in
    let q = c.settle.ensures in
    let x = settled g mid end w at j (λ told. c.requires.silent (all.still_tells.0 told)) q.keeps k.over (same.dir ∙ c.requires.data) k.entry q.rests q.known q.blocks in
    let next = g.met.B.Blocks.keeps_all mid end q.keeps in
    let moved = alters_joins all (alters_readies s (g.B.Blocks.state k.steps.2.0) u old.tree old.generation at j k.steps.0 c.requires.data c.requires.entry k.steps.2.1) (alters_rests is_above u v at j old.tree.tag q.rests q.known q.blocks q.room.0 k.entry.is_pinned) in
    let pins = pins_readies s (g.B.Blocks.state k.steps.2.0) u old.tree old.generation at j k.steps.0 k.steps.2.1 in
    let few = c.requires.over.hangs.few in
    same.dir ∙ c.requires.data

pub cut-requires-clause-deep : goal.cut-requires-clause-deep
cut-requires-clause-deep g c =
    let first = c.args.on.now in
    let mid = c.make_ready.new.on in
    let s = g.B.Blocks.state first in
    let u = g.B.Blocks.state mid in
    let at = c.args.at in
    let j = c.args.slot in
    let old = c.args.ways.now in
    let w = c.make_ready.new.ways in
    let k = c.make_ready.ensures in
    let all = g.met.B.Blocks.keeps_all first mid k.keeps in
    let same : SameData old.tree w.tree = same_top old.tree w.tree k.steps.0 k.steps.1 in
    let level : w.tree.depth ≡ old.tree.depth = ap (λ (t : Tree). t.depth) k.steps.1 in
    let end = c.settle.new.self in
    let v = g.B.Blocks.state end in
    let q = c.settle.ensures in
    let x = settled g mid end w at j (λ told. c.requires.silent (all.still_tells.0 told)) q.keeps k.over (same.dir ∙ c.requires.data) k.entry q.rests q.known q.blocks in
    let next = g.met.B.Blocks.keeps_all mid end q.keeps in
    let moved = alters_joins all (alters_readies s (g.B.Blocks.state k.steps.2.0) u old.tree old.generation at j k.steps.0 c.requires.data c.requires.entry k.steps.2.1) (alters_rests is_above u v at j old.tree.tag q.rests q.known q.blocks q.room.0 k.entry.is_pinned) in
    let pins = pins_readies s (g.B.Blocks.state k.steps.2.0) u old.tree old.generation at j k.steps.0 k.steps.2.1 in
    let few = c.requires.over.hangs.few in
    subst (λ d. 0 < d) (sym level) c.requires.deep

pub cut-requires-clause-entry : goal.cut-requires-clause-entry
cut-requires-clause-entry g c =
    let first = c.args.on.now in
    let mid = c.make_ready.new.on in
    let s = g.B.Blocks.state first in
    let u = g.B.Blocks.state mid in
    let at = c.args.at in
    let j = c.args.slot in
    let old = c.args.ways.now in
    let w = c.make_ready.new.ways in
    let k = c.make_ready.ensures in
    let all = g.met.B.Blocks.keeps_all first mid k.keeps in
    let same : SameData old.tree w.tree = same_top old.tree w.tree k.steps.0 k.steps.1 in
    let level : w.tree.depth ≡ old.tree.depth = ap (λ (t : Tree). t.depth) k.steps.1 in
    let end = c.settle.new.self in
    let v = g.B.Blocks.state end in
    let q = c.settle.ensures in
    let x = settled g mid end w at j (λ told. c.requires.silent (all.still_tells.0 told)) q.keeps k.over (same.dir ∙ c.requires.data) k.entry q.rests q.known q.blocks in
    let next = g.met.B.Blocks.keeps_all mid end q.keeps in
    let moved = alters_joins all (alters_readies s (g.B.Blocks.state k.steps.2.0) u old.tree old.generation at j k.steps.0 c.requires.data c.requires.entry k.steps.2.1) (alters_rests is_above u v at j old.tree.tag q.rests q.known q.blocks q.room.0 k.entry.is_pinned) in
    let pins = pins_readies s (g.B.Blocks.state k.steps.2.0) u old.tree old.generation at j k.steps.0 k.steps.2.1 in
    let few = c.requires.over.hangs.few in
    entry_settled x

pub cut-requires-clause-ready : goal.cut-requires-clause-ready
cut-requires-clause-ready g c =
    let first = c.args.on.now in
    let mid = c.make_ready.new.on in
    let s = g.B.Blocks.state first in
    let u = g.B.Blocks.state mid in
    let at = c.args.at in
    let j = c.args.slot in
    let old = c.args.ways.now in
    let w = c.make_ready.new.ways in
    let k = c.make_ready.ensures in
    let all = g.met.B.Blocks.keeps_all first mid k.keeps in
    let same : SameData old.tree w.tree = same_top old.tree w.tree k.steps.0 k.steps.1 in
    let level : w.tree.depth ≡ old.tree.depth = ap (λ (t : Tree). t.depth) k.steps.1 in
    let end = c.settle.new.self in
    let v = g.B.Blocks.state end in
    let q = c.settle.ensures in
    let x = settled g mid end w at j (λ told. c.requires.silent (all.still_tells.0 told)) q.keeps k.over (same.dir ∙ c.requires.data) k.entry q.rests q.known q.blocks in
    let next = g.met.B.Blocks.keeps_all mid end q.keeps in
    let moved = alters_joins all (alters_readies s (g.B.Blocks.state k.steps.2.0) u old.tree old.generation at j k.steps.0 c.requires.data c.requires.entry k.steps.2.1) (alters_rests is_above u v at j old.tree.tag q.rests q.known q.blocks q.room.0 k.entry.is_pinned) in
    let pins = pins_readies s (g.B.Blocks.state k.steps.2.0) u old.tree old.generation at j k.steps.0 k.steps.2.1 in
    let few = c.requires.over.hangs.few in
    ready_settled x w.tree.depth (last_leaf w.tree.size) (omega arith) k.ready

pub cut-requires-clause-current : goal.cut-requires-clause-current
cut-requires-clause-current g c =
    let first = c.args.on.now in
    let mid = c.make_ready.new.on in
    let s = g.B.Blocks.state first in
    let u = g.B.Blocks.state mid in
    let at = c.args.at in
    let j = c.args.slot in
    let old = c.args.ways.now in
    let w = c.make_ready.new.ways in
    let k = c.make_ready.ensures in
    let all = g.met.B.Blocks.keeps_all first mid k.keeps in
    let same : SameData old.tree w.tree = same_top old.tree w.tree k.steps.0 k.steps.1 in
    let level : w.tree.depth ≡ old.tree.depth = ap (λ (t : Tree). t.depth) k.steps.1 in
    let end = c.settle.new.self in
    let v = g.B.Blocks.state end in
    let q = c.settle.ensures in
    let x = settled g mid end w at j (λ told. c.requires.silent (all.still_tells.0 told)) q.keeps k.over (same.dir ∙ c.requires.data) k.entry q.rests q.known q.blocks in
    let next = g.met.B.Blocks.keeps_all mid end q.keeps in
    let moved = alters_joins all (alters_readies s (g.B.Blocks.state k.steps.2.0) u old.tree old.generation at j k.steps.0 c.requires.data c.requires.entry k.steps.2.1) (alters_rests is_above u v at j old.tree.tag q.rests q.known q.blocks q.room.0 k.entry.is_pinned) in
    let pins = pins_readies s (g.B.Blocks.state k.steps.2.0) u old.tree old.generation at j k.steps.0 k.steps.2.1 in
    let few = c.requires.over.hangs.few in
    λ deep. current_after x deep k.ready k.current

pub cut-requires-clause-linked : goal.cut-requires-clause-linked
cut-requires-clause-linked g c =
    let first = c.args.on.now in
    let mid = c.make_ready.new.on in
    let s = g.B.Blocks.state first in
    let u = g.B.Blocks.state mid in
    let at = c.args.at in
    let j = c.args.slot in
    let old = c.args.ways.now in
    let w = c.make_ready.new.ways in
    let k = c.make_ready.ensures in
    let all = g.met.B.Blocks.keeps_all first mid k.keeps in
    let same : SameData old.tree w.tree = same_top old.tree w.tree k.steps.0 k.steps.1 in
    let level : w.tree.depth ≡ old.tree.depth = ap (λ (t : Tree). t.depth) k.steps.1 in
    let end = c.settle.new.self in
    let v = g.B.Blocks.state end in
    let q = c.settle.ensures in
    let x = settled g mid end w at j (λ told. c.requires.silent (all.still_tells.0 told)) q.keeps k.over (same.dir ∙ c.requires.data) k.entry q.rests q.known q.blocks in
    let next = g.met.B.Blocks.keeps_all mid end q.keeps in
    let moved = alters_joins all (alters_readies s (g.B.Blocks.state k.steps.2.0) u old.tree old.generation at j k.steps.0 c.requires.data c.requires.entry k.steps.2.1) (alters_rests is_above u v at j old.tree.tag q.rests q.known q.blocks q.room.0 k.entry.is_pinned) in
    let pins = pins_readies s (g.B.Blocks.state k.steps.2.0) u old.tree old.generation at j k.steps.0 k.steps.2.1 in
    let few = c.requires.over.hangs.few in
    λ told. absurd (c.requires.silent (all.still_tells.0 (next.still_tells.0 told)))

pub cut-requires-clause-room : goal.cut-requires-clause-room
cut-requires-clause-room g c =
    let first = c.args.on.now in
    let mid = c.make_ready.new.on in
    let s = g.B.Blocks.state first in
    let u = g.B.Blocks.state mid in
    let at = c.args.at in
    let j = c.args.slot in
    let old = c.args.ways.now in
    let w = c.make_ready.new.ways in
    let k = c.make_ready.ensures in
    let all = g.met.B.Blocks.keeps_all first mid k.keeps in
    let same : SameData old.tree w.tree = same_top old.tree w.tree k.steps.0 k.steps.1 in
    let level : w.tree.depth ≡ old.tree.depth = ap (λ (t : Tree). t.depth) k.steps.1 in
    let end = c.settle.new.self in
    let v = g.B.Blocks.state end in
    let q = c.settle.ensures in
    let x = settled g mid end w at j (λ told. c.requires.silent (all.still_tells.0 told)) q.keeps k.over (same.dir ∙ c.requires.data) k.entry q.rests q.known q.blocks in
    let next = g.met.B.Blocks.keeps_all mid end q.keeps in
    let moved = alters_joins all (alters_readies s (g.B.Blocks.state k.steps.2.0) u old.tree old.generation at j k.steps.0 c.requires.data c.requires.entry k.steps.2.1) (alters_rests is_above u v at j old.tree.tag q.rests q.known q.blocks q.room.0 k.entry.is_pinned) in
    let pins = pins_readies s (g.B.Blocks.state k.steps.2.0) u old.tree old.generation at j k.steps.0 k.steps.2.1 in
    let few = c.requires.over.hangs.few in
    let room = c.requires.room in let first = k.room in let second = q.room.2 in omega (arith, few, level, room, first, second)

pub returns-in-Ok-clause-same : goal.returns-in-Ok-clause-same
returns-in-Ok-clause-same g c =
    let first = c.args.on.now in
    let mid = c.make_ready.new.on in
    let s = g.B.Blocks.state first in
    let u = g.B.Blocks.state mid in
    let at = c.args.at in
    let j = c.args.slot in
    let old = c.args.ways.now in
    let w = c.make_ready.new.ways in
    let k = c.make_ready.ensures in
    let all = g.met.B.Blocks.keeps_all first mid k.keeps in
    let same : SameData old.tree w.tree = same_top old.tree w.tree k.steps.0 k.steps.1 in
    let level : w.tree.depth ≡ old.tree.depth = ap (λ (t : Tree). t.depth) k.steps.1 in
    (same, k.is.0, k.is.1)

pub returns-in-Err-clause-same : goal.returns-in-Err-clause-same
returns-in-Err-clause-same g c =
    let first = c.args.on.now in
    let mid = c.make_ready.new.on in
    let s = g.B.Blocks.state first in
    let u = g.B.Blocks.state mid in
    let at = c.args.at in
    let j = c.args.slot in
    let old = c.args.ways.now in
    let w = c.make_ready.new.ways in
    let k = c.make_ready.ensures in
    let all = g.met.B.Blocks.keeps_all first mid k.keeps in
    let same : SameData old.tree w.tree = same_top old.tree w.tree k.steps.0 k.steps.1 in
    let level : w.tree.depth ≡ old.tree.depth = ap (λ (t : Tree). t.depth) k.steps.1 in
    (same, k.is.0, k.is.1)

pub returns-in-Ok-clause-alters : goal.returns-in-Ok-clause-alters
returns-in-Ok-clause-alters g c =
    let first = c.args.on.now in
    let mid = c.make_ready.new.on in
    let s = g.B.Blocks.state first in
    let u = g.B.Blocks.state mid in
    let at = c.args.at in
    let j = c.args.slot in
    let old = c.args.ways.now in
    let w = c.make_ready.new.ways in
    let k = c.make_ready.ensures in
    let all = g.met.B.Blocks.keeps_all first mid k.keeps in
    let same : SameData old.tree w.tree = same_top old.tree w.tree k.steps.0 k.steps.1 in
    let level : w.tree.depth ≡ old.tree.depth = ap (λ (t : Tree). t.depth) k.steps.1 in
    let end = c.settle.new.self in
    let v = g.B.Blocks.state end in
    let q = c.settle.ensures in
    let x = settled g mid end w at j (λ told. c.requires.silent (all.still_tells.0 told)) q.keeps k.over (same.dir ∙ c.requires.data) k.entry q.rests q.known q.blocks in
    let next = g.met.B.Blocks.keeps_all mid end q.keeps in
    let moved = alters_joins all (alters_readies s (g.B.Blocks.state k.steps.2.0) u old.tree old.generation at j k.steps.0 c.requires.data c.requires.entry k.steps.2.1) (alters_rests is_above u v at j old.tree.tag q.rests q.known q.blocks q.room.0 k.entry.is_pinned) in
    let pins = pins_readies s (g.B.Blocks.state k.steps.2.0) u old.tree old.generation at j k.steps.0 k.steps.2.1 in
    let few = c.requires.over.hangs.few in
    let done = c.cut.new.on in
    let z = g.B.Blocks.state done in
    let e = c.cut.ensures in
    let last = g.met.B.Blocks.keeps_all end done e.keeps in
    let deep = subst (λ d. 0 < d) (sym level) c.requires.deep in
    let ready = ready_settled x w.tree.depth (last_leaf w.tree.size) (omega arith) k.ready in
    let aside : Aside v z w.tree w.kept.items (last_leaf w.tree.size) (409 * w.tree.depth) = record { cuts = e.cuts; all = last; deep = deep; ready = ready; current = current_after x deep k.ready k.current } in
    alters_joins (keeps_two all next) moved (subst (λ tag. Alters at j tag is_above v z) same.tag (alters_cuts v z w.tree w.kept.items (last_leaf w.tree.size) (409 * w.tree.depth) w.generation at j x.plain aside (entry_settled x)))

pub returns-in-Ok-clause-spare : goal.returns-in-Ok-clause-spare
returns-in-Ok-clause-spare g c =
    let first = c.args.on.now in
    let mid = c.make_ready.new.on in
    let s = g.B.Blocks.state first in
    let u = g.B.Blocks.state mid in
    let at = c.args.at in
    let j = c.args.slot in
    let old = c.args.ways.now in
    let w = c.make_ready.new.ways in
    let k = c.make_ready.ensures in
    let all = g.met.B.Blocks.keeps_all first mid k.keeps in
    let same : SameData old.tree w.tree = same_top old.tree w.tree k.steps.0 k.steps.1 in
    let level : w.tree.depth ≡ old.tree.depth = ap (λ (t : Tree). t.depth) k.steps.1 in
    let end = c.settle.new.self in
    let v = g.B.Blocks.state end in
    let q = c.settle.ensures in
    let x = settled g mid end w at j (λ told. c.requires.silent (all.still_tells.0 told)) q.keeps k.over (same.dir ∙ c.requires.data) k.entry q.rests q.known q.blocks in
    let next = g.met.B.Blocks.keeps_all mid end q.keeps in
    let moved = alters_joins all (alters_readies s (g.B.Blocks.state k.steps.2.0) u old.tree old.generation at j k.steps.0 c.requires.data c.requires.entry k.steps.2.1) (alters_rests is_above u v at j old.tree.tag q.rests q.known q.blocks q.room.0 k.entry.is_pinned) in
    let pins = pins_readies s (g.B.Blocks.state k.steps.2.0) u old.tree old.generation at j k.steps.0 k.steps.2.1 in
    let few = c.requires.over.hangs.few in
    let done = c.cut.new.on in
    let z = g.B.Blocks.state done in
    let e = c.cut.ensures in
    let last = g.met.B.Blocks.keeps_all end done e.keeps in
    let deep = subst (λ d. 0 < d) (sym level) c.requires.deep in
    let ready = ready_settled x w.tree.depth (last_leaf w.tree.size) (omega arith) k.ready in
    let aside : Aside v z w.tree w.kept.items (last_leaf w.tree.size) (409 * w.tree.depth) = record { cuts = e.cuts; all = last; deep = deep; ready = ready; current = current_after x deep k.ready k.current } in
    let first = k.spare in let second = q.room.0 in let third = e.cuts.spare in omega (arith, few, first, second, third)

pub returns-in-Ok-clause-room : goal.returns-in-Ok-clause-room
returns-in-Ok-clause-room g c =
    let first = c.args.on.now in
    let mid = c.make_ready.new.on in
    let s = g.B.Blocks.state first in
    let u = g.B.Blocks.state mid in
    let at = c.args.at in
    let j = c.args.slot in
    let old = c.args.ways.now in
    let w = c.make_ready.new.ways in
    let k = c.make_ready.ensures in
    let all = g.met.B.Blocks.keeps_all first mid k.keeps in
    let same : SameData old.tree w.tree = same_top old.tree w.tree k.steps.0 k.steps.1 in
    let level : w.tree.depth ≡ old.tree.depth = ap (λ (t : Tree). t.depth) k.steps.1 in
    let end = c.settle.new.self in
    let v = g.B.Blocks.state end in
    let q = c.settle.ensures in
    let x = settled g mid end w at j (λ told. c.requires.silent (all.still_tells.0 told)) q.keeps k.over (same.dir ∙ c.requires.data) k.entry q.rests q.known q.blocks in
    let next = g.met.B.Blocks.keeps_all mid end q.keeps in
    let moved = alters_joins all (alters_readies s (g.B.Blocks.state k.steps.2.0) u old.tree old.generation at j k.steps.0 c.requires.data c.requires.entry k.steps.2.1) (alters_rests is_above u v at j old.tree.tag q.rests q.known q.blocks q.room.0 k.entry.is_pinned) in
    let pins = pins_readies s (g.B.Blocks.state k.steps.2.0) u old.tree old.generation at j k.steps.0 k.steps.2.1 in
    let few = c.requires.over.hangs.few in
    let done = c.cut.new.on in
    let z = g.B.Blocks.state done in
    let e = c.cut.ensures in
    let last = g.met.B.Blocks.keeps_all end done e.keeps in
    let deep = subst (λ d. 0 < d) (sym level) c.requires.deep in
    let ready = ready_settled x w.tree.depth (last_leaf w.tree.size) (omega arith) k.ready in
    let aside : Aside v z w.tree w.kept.items (last_leaf w.tree.size) (409 * w.tree.depth) = record { cuts = e.cuts; all = last; deep = deep; ready = ready; current = current_after x deep k.ready k.current } in
    let first = k.room in let second = q.room.2 in let third = e.room in omega (arith, few, level, first, second, third)

pub returns-in-Ok-clause-pins : goal.returns-in-Ok-clause-pins
returns-in-Ok-clause-pins g c =
    let first = c.args.on.now in
    let mid = c.make_ready.new.on in
    let s = g.B.Blocks.state first in
    let u = g.B.Blocks.state mid in
    let at = c.args.at in
    let j = c.args.slot in
    let old = c.args.ways.now in
    let w = c.make_ready.new.ways in
    let k = c.make_ready.ensures in
    let all = g.met.B.Blocks.keeps_all first mid k.keeps in
    let same : SameData old.tree w.tree = same_top old.tree w.tree k.steps.0 k.steps.1 in
    let level : w.tree.depth ≡ old.tree.depth = ap (λ (t : Tree). t.depth) k.steps.1 in
    let end = c.settle.new.self in
    let v = g.B.Blocks.state end in
    let q = c.settle.ensures in
    let x = settled g mid end w at j (λ told. c.requires.silent (all.still_tells.0 told)) q.keeps k.over (same.dir ∙ c.requires.data) k.entry q.rests q.known q.blocks in
    let next = g.met.B.Blocks.keeps_all mid end q.keeps in
    let moved = alters_joins all (alters_readies s (g.B.Blocks.state k.steps.2.0) u old.tree old.generation at j k.steps.0 c.requires.data c.requires.entry k.steps.2.1) (alters_rests is_above u v at j old.tree.tag q.rests q.known q.blocks q.room.0 k.entry.is_pinned) in
    let pins = pins_readies s (g.B.Blocks.state k.steps.2.0) u old.tree old.generation at j k.steps.0 k.steps.2.1 in
    let few = c.requires.over.hangs.few in
    let done = c.cut.new.on in
    let z = g.B.Blocks.state done in
    let e = c.cut.ensures in
    let last = g.met.B.Blocks.keeps_all end done e.keeps in
    let deep = subst (λ d. 0 < d) (sym level) c.requires.deep in
    let ready = ready_settled x w.tree.depth (last_leaf w.tree.size) (omega arith) k.ready in
    let aside : Aside v z w.tree w.kept.items (last_leaf w.tree.size) (409 * w.tree.depth) = record { cuts = e.cuts; all = last; deep = deep; ready = ready; current = current_after x deep k.ready k.current } in
    e.cuts.pins ∙ q.room.1 ∙ pins

pub returns-in-Ok-clause-keeps : goal.returns-in-Ok-clause-keeps
returns-in-Ok-clause-keeps g c =
    g.met.B.Blocks.keeps_joins c.args.on.now c.settle.new.self c.cut.new.on (g.met.B.Blocks.keeps_joins c.args.on.now c.make_ready.new.on c.settle.new.self c.make_ready.ensures.keeps c.settle.ensures.keeps) c.cut.ensures.keeps

pub returns-in-Err-clause-over : goal.returns-in-Err-clause-over
returns-in-Err-clause-over g c =
    let first = c.args.on.now in
    let mid = c.make_ready.new.on in
    let s = g.B.Blocks.state first in
    let u = g.B.Blocks.state mid in
    let at = c.args.at in
    let j = c.args.slot in
    let old = c.args.ways.now in
    let w = c.make_ready.new.ways in
    let k = c.make_ready.ensures in
    let all = g.met.B.Blocks.keeps_all first mid k.keeps in
    let same : SameData old.tree w.tree = same_top old.tree w.tree k.steps.0 k.steps.1 in
    let level : w.tree.depth ≡ old.tree.depth = ap (λ (t : Tree). t.depth) k.steps.1 in
    let end = c.settle.new.self in
    let v = g.B.Blocks.state end in
    let q = c.settle.ensures in
    let x = settled g mid end w at j (λ told. c.requires.silent (all.still_tells.0 told)) q.keeps k.over (same.dir ∙ c.requires.data) k.entry q.rests q.known q.blocks in
    let next = g.met.B.Blocks.keeps_all mid end q.keeps in
    let moved = alters_joins all (alters_readies s (g.B.Blocks.state k.steps.2.0) u old.tree old.generation at j k.steps.0 c.requires.data c.requires.entry k.steps.2.1) (alters_rests is_above u v at j old.tree.tag q.rests q.known q.blocks q.room.0 k.entry.is_pinned) in
    let pins = pins_readies s (g.B.Blocks.state k.steps.2.0) u old.tree old.generation at j k.steps.0 k.steps.2.1 in
    let few = c.requires.over.hangs.few in
    over_settled x

pub returns-in-Err-clause-entry : goal.returns-in-Err-clause-entry
returns-in-Err-clause-entry g c =
    let first = c.args.on.now in
    let mid = c.make_ready.new.on in
    let s = g.B.Blocks.state first in
    let u = g.B.Blocks.state mid in
    let at = c.args.at in
    let j = c.args.slot in
    let old = c.args.ways.now in
    let w = c.make_ready.new.ways in
    let k = c.make_ready.ensures in
    let all = g.met.B.Blocks.keeps_all first mid k.keeps in
    let same : SameData old.tree w.tree = same_top old.tree w.tree k.steps.0 k.steps.1 in
    let level : w.tree.depth ≡ old.tree.depth = ap (λ (t : Tree). t.depth) k.steps.1 in
    let end = c.settle.new.self in
    let v = g.B.Blocks.state end in
    let q = c.settle.ensures in
    let x = settled g mid end w at j (λ told. c.requires.silent (all.still_tells.0 told)) q.keeps k.over (same.dir ∙ c.requires.data) k.entry q.rests q.known q.blocks in
    let next = g.met.B.Blocks.keeps_all mid end q.keeps in
    let moved = alters_joins all (alters_readies s (g.B.Blocks.state k.steps.2.0) u old.tree old.generation at j k.steps.0 c.requires.data c.requires.entry k.steps.2.1) (alters_rests is_above u v at j old.tree.tag q.rests q.known q.blocks q.room.0 k.entry.is_pinned) in
    let pins = pins_readies s (g.B.Blocks.state k.steps.2.0) u old.tree old.generation at j k.steps.0 k.steps.2.1 in
    let few = c.requires.over.hangs.few in
    entry_settled x

pub returns-in-Err-clause-alters : goal.returns-in-Err-clause-alters
returns-in-Err-clause-alters g c =
    let first = c.args.on.now in
    let mid = c.make_ready.new.on in
    let s = g.B.Blocks.state first in
    let u = g.B.Blocks.state mid in
    let at = c.args.at in
    let j = c.args.slot in
    let old = c.args.ways.now in
    let w = c.make_ready.new.ways in
    let k = c.make_ready.ensures in
    let all = g.met.B.Blocks.keeps_all first mid k.keeps in
    let same : SameData old.tree w.tree = same_top old.tree w.tree k.steps.0 k.steps.1 in
    let level : w.tree.depth ≡ old.tree.depth = ap (λ (t : Tree). t.depth) k.steps.1 in
    let end = c.settle.new.self in
    let v = g.B.Blocks.state end in
    let q = c.settle.ensures in
    let x = settled g mid end w at j (λ told. c.requires.silent (all.still_tells.0 told)) q.keeps k.over (same.dir ∙ c.requires.data) k.entry q.rests q.known q.blocks in
    let next = g.met.B.Blocks.keeps_all mid end q.keeps in
    let moved = alters_joins all (alters_readies s (g.B.Blocks.state k.steps.2.0) u old.tree old.generation at j k.steps.0 c.requires.data c.requires.entry k.steps.2.1) (alters_rests is_above u v at j old.tree.tag q.rests q.known q.blocks q.room.0 k.entry.is_pinned) in
    let pins = pins_readies s (g.B.Blocks.state k.steps.2.0) u old.tree old.generation at j k.steps.0 k.steps.2.1 in
    let few = c.requires.over.hangs.few in
    moved

pub returns-in-Err-clause-spare : goal.returns-in-Err-clause-spare
returns-in-Err-clause-spare g c =
    let first = c.args.on.now in
    let mid = c.make_ready.new.on in
    let s = g.B.Blocks.state first in
    let u = g.B.Blocks.state mid in
    let at = c.args.at in
    let j = c.args.slot in
    let old = c.args.ways.now in
    let w = c.make_ready.new.ways in
    let k = c.make_ready.ensures in
    let all = g.met.B.Blocks.keeps_all first mid k.keeps in
    let same : SameData old.tree w.tree = same_top old.tree w.tree k.steps.0 k.steps.1 in
    let level : w.tree.depth ≡ old.tree.depth = ap (λ (t : Tree). t.depth) k.steps.1 in
    let end = c.settle.new.self in
    let v = g.B.Blocks.state end in
    let q = c.settle.ensures in
    let x = settled g mid end w at j (λ told. c.requires.silent (all.still_tells.0 told)) q.keeps k.over (same.dir ∙ c.requires.data) k.entry q.rests q.known q.blocks in
    let next = g.met.B.Blocks.keeps_all mid end q.keeps in
    let moved = alters_joins all (alters_readies s (g.B.Blocks.state k.steps.2.0) u old.tree old.generation at j k.steps.0 c.requires.data c.requires.entry k.steps.2.1) (alters_rests is_above u v at j old.tree.tag q.rests q.known q.blocks q.room.0 k.entry.is_pinned) in
    let pins = pins_readies s (g.B.Blocks.state k.steps.2.0) u old.tree old.generation at j k.steps.0 k.steps.2.1 in
    let few = c.requires.over.hangs.few in
    let first = k.spare in let second = q.room.0 in omega (arith, few, first, second)

pub returns-in-Err-clause-room : goal.returns-in-Err-clause-room
returns-in-Err-clause-room g c =
    let first = c.args.on.now in
    let mid = c.make_ready.new.on in
    let s = g.B.Blocks.state first in
    let u = g.B.Blocks.state mid in
    let at = c.args.at in
    let j = c.args.slot in
    let old = c.args.ways.now in
    let w = c.make_ready.new.ways in
    let k = c.make_ready.ensures in
    let all = g.met.B.Blocks.keeps_all first mid k.keeps in
    let same : SameData old.tree w.tree = same_top old.tree w.tree k.steps.0 k.steps.1 in
    let level : w.tree.depth ≡ old.tree.depth = ap (λ (t : Tree). t.depth) k.steps.1 in
    let end = c.settle.new.self in
    let v = g.B.Blocks.state end in
    let q = c.settle.ensures in
    let x = settled g mid end w at j (λ told. c.requires.silent (all.still_tells.0 told)) q.keeps k.over (same.dir ∙ c.requires.data) k.entry q.rests q.known q.blocks in
    let next = g.met.B.Blocks.keeps_all mid end q.keeps in
    let moved = alters_joins all (alters_readies s (g.B.Blocks.state k.steps.2.0) u old.tree old.generation at j k.steps.0 c.requires.data c.requires.entry k.steps.2.1) (alters_rests is_above u v at j old.tree.tag q.rests q.known q.blocks q.room.0 k.entry.is_pinned) in
    let pins = pins_readies s (g.B.Blocks.state k.steps.2.0) u old.tree old.generation at j k.steps.0 k.steps.2.1 in
    let few = c.requires.over.hangs.few in
    let first = k.room in let second = q.room.2 in omega (arith, first, second)

pub returns-in-Err-clause-pins : goal.returns-in-Err-clause-pins
returns-in-Err-clause-pins g c =
    let first = c.args.on.now in
    let mid = c.make_ready.new.on in
    let s = g.B.Blocks.state first in
    let u = g.B.Blocks.state mid in
    let at = c.args.at in
    let j = c.args.slot in
    let old = c.args.ways.now in
    let w = c.make_ready.new.ways in
    let k = c.make_ready.ensures in
    let all = g.met.B.Blocks.keeps_all first mid k.keeps in
    let same : SameData old.tree w.tree = same_top old.tree w.tree k.steps.0 k.steps.1 in
    let level : w.tree.depth ≡ old.tree.depth = ap (λ (t : Tree). t.depth) k.steps.1 in
    let end = c.settle.new.self in
    let v = g.B.Blocks.state end in
    let q = c.settle.ensures in
    let x = settled g mid end w at j (λ told. c.requires.silent (all.still_tells.0 told)) q.keeps k.over (same.dir ∙ c.requires.data) k.entry q.rests q.known q.blocks in
    let next = g.met.B.Blocks.keeps_all mid end q.keeps in
    let moved = alters_joins all (alters_readies s (g.B.Blocks.state k.steps.2.0) u old.tree old.generation at j k.steps.0 c.requires.data c.requires.entry k.steps.2.1) (alters_rests is_above u v at j old.tree.tag q.rests q.known q.blocks q.room.0 k.entry.is_pinned) in
    let pins = pins_readies s (g.B.Blocks.state k.steps.2.0) u old.tree old.generation at j k.steps.0 k.steps.2.1 in
    let few = c.requires.over.hangs.few in
    q.room.1 ∙ pins

pub returns-in-Err-clause-keeps : goal.returns-in-Err-clause-keeps
returns-in-Err-clause-keeps g c =
    g.met.B.Blocks.keeps_joins c.args.on.now c.make_ready.new.on c.settle.new.self c.make_ready.ensures.keeps c.settle.ensures.keeps

pub returns-in-Err-clause-cause : goal.returns-in-Err-clause-cause
returns-in-Err-clause-cause g c =
    let first = c.args.on.now in
    let mid = c.make_ready.new.on in
    let s = g.B.Blocks.state first in
    let u = g.B.Blocks.state mid in
    let at = c.args.at in
    let j = c.args.slot in
    let old = c.args.ways.now in
    let w = c.make_ready.new.ways in
    let k = c.make_ready.ensures in
    let all = g.met.B.Blocks.keeps_all first mid k.keeps in
    let same : SameData old.tree w.tree = same_top old.tree w.tree k.steps.0 k.steps.1 in
    let level : w.tree.depth ≡ old.tree.depth = ap (λ (t : Tree). t.depth) k.steps.1 in
    caused_rose s u (g.B.Blocks.state c.settle.new.self) all c.in-Err.why c.in-Err.ensures.cause

pub returns-in-Err-clause-dirties : goal.returns-in-Err-clause-dirties
returns-in-Err-clause-dirties g c =
    let m = c.make_ready.ensures.dirties c.args.on.now (c.args.at ∷ []) (dirties_at_once (g.B.Blocks.state c.args.on.now) (c.args.at ∷ [])) (first_among c.args.at []) in
    let settled = dirties_rests (g.B.Blocks.state c.make_ready.new.on) (g.B.Blocks.state c.settle.new.self) (g.met.B.Blocks.keeps_all c.make_ready.new.on c.settle.new.self c.settle.ensures.keeps) c.settle.ensures.rests in
    let few = c.requires.over.hangs.few in let less = m.few in
    record { more = m.more; few = omega (arith, few, less); within = dirties_quiet m.within settled; here = m.here }

pub returns-in-Ok-clause-dirties : goal.returns-in-Ok-clause-dirties
returns-in-Ok-clause-dirties g c =
    let m = c.make_ready.ensures.dirties c.args.on.now (c.args.at ∷ []) (dirties_at_once (g.B.Blocks.state c.args.on.now) (c.args.at ∷ [])) (first_among c.args.at []) in
    let settled = dirties_rests (g.B.Blocks.state c.make_ready.new.on) (g.B.Blocks.state c.settle.new.self) (g.met.B.Blocks.keeps_all c.make_ready.new.on c.settle.new.self c.settle.ensures.keeps) c.settle.ensures.rests in
    let known = end_known (g.B.Blocks.state c.make_ready.new.on) (g.B.Blocks.state c.settle.new.self) c.make_ready.new.ways.tree c.make_ready.new.ways.kept.items c.make_ready.ensures.ready c.settle.ensures.known in
    let cut = c.cut.ensures.dirties c.args.on.now (m.more ++ c.args.at ∷ []) (dirties_quiet m.within settled) (λ b h. m.end b (known b h)) in
    let few = c.requires.over.hangs.few in let less = m.few in
    record { more = m.more; few = omega (arith, few, less); within = cut; here = m.here }
