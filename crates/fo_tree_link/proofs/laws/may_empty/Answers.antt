use Rattle.std.proofs.Common.{◌≡◌, ℕ, List}
use Rattle.fo_crash.specs.declared.slot.Slot.TheVariants.{Entry as Head}
use Rattle.fo_tree_read.specs.declared.tree.Tree.{Tree}
use Rattle.fo_tree_look.specs.declared.ways.Kept.{Kept}
use Rattle.fo_tree_look.specs.Source.{Over}
use Rattle.fo_tree_open.specs.Open.{HasEntry}
use Rattle.fo_tree_link.specs.Change.{HangsInTree}
use Rattle.fo_tree_down.proofs.of_tree_own.Link.{Laws}
use Rattle.fo_tree_link.specs.Link.{entry_of}
use Rattle.fo_tree_link.proofs.Emptied.{can_empty, over_empty}
use Rattle.fo_tree_link.proofs.Linked.{Linked, same_link}
use Rattle.fo_tree_link.proofs.laws.may_empty.Given as given
use Rattle.fo_tree_link.proofs.laws.may_empty.Goals as goal

laws_of : (g : given.Over) (b : g.row.B.Denot) → Laws (g.B.Blocks.state b)
laws_of g b =
    let s = g.B.Blocks.state b in
    record { present = g.met.B.Blocks.present b; active = (g.met.B.Blocks.active b).0; not_one = (g.met.B.Blocks.active b).1; one = g.met.B.Blocks.one_place b; super_stands = g.met.B.Blocks.super_stands b; placed = λ told. g.met.B.Blocks.placed b s.now (g.met.B.Blocks.present b told); ranked = λ told. g.met.B.Blocks.ranked b s.now (g.met.B.Blocks.present b told); live = λ y told ne r. g.met.B.Blocks.live b y told ne r; clears = g.met.B.Blocks.clears_entries b; waits_within = g.met.B.Blocks.waits_within b; covers_told = g.met.B.Blocks.covers_told b; within = g.met.B.Blocks.within b; spelled = g.met.B.Blocks.spelled b; apart_hangs = λ told w is r. g.met.B.Blocks.apart_hangs b s.now 1 w is (g.met.B.Blocks.present b told) (g.met.B.Blocks.active b).0 r; small = g.met.B.Blocks.small b }

linked_of : (g : given.Over) (on : g.row.B.Denot) {t : Tree} {kept : List Kept} {limit generation at i : ℕ} → (g.B.Blocks.state on).tells → Over (g.B.Blocks.state on) t kept limit → HasEntry ((g.B.Blocks.state on).label at).kind i → ((g.B.Blocks.state on).now at).slot i ≡ Head (entry_of t generation) → ((g.B.Blocks.state on).tells → HangsInTree (g.B.Blocks.state on) t at i) → Linked (g.B.Blocks.state on) t kept limit generation at i
linked_of g on {kept = kept} {limit = limit} told over leaf entry linked =
    let s = g.B.Blocks.state on in
    record {
      linking = record {
        laws = laws_of g on;
        few = λ tells. g.met.B.Blocks.few on s.now (g.met.B.Blocks.present on tells);
        falls = λ tells b j below ne r leads. g.met.B.Blocks.falls on 1 b j below tells (g.met.B.Blocks.active on).0 ne r leads;
        one_stays = g.met.B.Blocks.one_stays on;
        over = over;
        leaf = leaf;
        told = λ tells. same_link {kept = kept} {limit = limit} (laws_of g on) (g.met.B.Blocks.one_stays on) (g.met.B.Blocks.keeps_all on on (g.met.B.Blocks.keeps_at_once on)) over entry tells (linked tells);
      };
      says = record { placed = g.met.B.Blocks.placed on s.now (g.met.B.Blocks.present on told); one = g.met.B.Blocks.one_place on; active = (g.met.B.Blocks.active on).0; super_stands = g.met.B.Blocks.super_stands on told; labelled = λ b p ne stands. (g.met.B.Blocks.labelled on b p told ne stands).1 };
      told = told;
      entry = entry;
      linked = linked told;
    }

pub returns-clause-over : goal.returns-clause-over
returns-clause-over g c = λ limit over. over_empty over c.requires.same.1 c.requires.empty

pub returns-clause-can : goal.returns-clause-can
returns-clause-can g c = λ told.
    can_empty {t = c.args.tree.now} {kept = c.args.kept.now} {limit = c.requires.over.0} (record {
      was = linked_of g c.args.on.now told c.requires.over.1 c.requires.leaf c.requires.entry c.requires.linked;
      same = c.requires.same;
      empty = c.requires.empty;
      settled = c.requires.settled told;
    })
