use Rattle.std.proofs.Common.{◌≡◌, ◌⊎◌, ◌<◌, ℕ, List, inl, sym, subst}
use Rattle.fo_image.specs.declared.types.Entry.{Entry}
use Rattle.fo_crash.specs.declared.slot.Slot.TheVariants.{Entry as Head}
use Rattle.fo_crash.specs.Steps.{AddsSlot, PutsSlot}
use Rattle.fo_ports.specs.Blocks.{cost, slot_count, SlotFits}
use Rattle.fo_ports.specs.State.{Frame, Hangs, MayPutSlot}
use Rattle.fo_crash.specs.Images.{target}
use Rattle.fo_image.specs.declared.types.Pointer.TheVariants.{Local}
use Rattle.fo_shown.proofs.Linking.{linked_shows}
use Rattle.fo_tree_read.proofs.of_looks.Dirtied.{dirties_put}
use Rattle.fo_tree_read.specs.declared.tree.Tree.{Tree}
use Rattle.fo_tree_look.specs.declared.ways.Kept.{Kept}
use Rattle.fo_tree_look.specs.Source.{Over}
use Rattle.fo_tree_down.proofs.of_tree_own.Link.{Laws}
use Rattle.fo_tree_open.specs.Open.{HasEntry}
use Rattle.fo_tree_link.specs.Link.{entry_of, CanLink}
use Rattle.fo_tree_link.proofs.May.{Linking, may_spell, may_put}
use Rattle.fo_tree_link.proofs.After.{WasPut, again_end, comes_end, owned_end, only_end, in_tree_end, linked_end, in_place_end, over_end}
use Rattle.fo_tree_link.proofs.put.link.Given as given
use Rattle.fo_tree_link.proofs.put.link.Goals as goal

laws_of : (g : given.Over) (b : g.row.B.Denot) → Laws (g.B.Blocks.state b)
laws_of g b =
    let s = g.B.Blocks.state b in
    record { present = g.met.B.Blocks.present b; active = (g.met.B.Blocks.active b).0; not_one = (g.met.B.Blocks.active b).1; one = g.met.B.Blocks.one_place b; super_stands = g.met.B.Blocks.super_stands b; placed = λ told. g.met.B.Blocks.placed b s.now (g.met.B.Blocks.present b told); ranked = λ told. g.met.B.Blocks.ranked b s.now (g.met.B.Blocks.present b told); live = λ y told ne r. g.met.B.Blocks.live b y told ne r; clears = g.met.B.Blocks.clears_entries b; waits_within = g.met.B.Blocks.waits_within b; covers_told = g.met.B.Blocks.covers_told b; within = g.met.B.Blocks.within b; spelled = g.met.B.Blocks.spelled b; apart_hangs = λ told w is r. g.met.B.Blocks.apart_hangs b s.now 1 w is (g.met.B.Blocks.present b told) (g.met.B.Blocks.active b).0 r; small = g.met.B.Blocks.small b }

linking : (g : given.Over) (on : g.row.B.Denot) {t : Tree} {kept : List Kept} {limit generation at i : ℕ} → Over (g.B.Blocks.state on) t kept limit → HasEntry ((g.B.Blocks.state on).label at).kind i → ((g.B.Blocks.state on).tells → CanLink (g.B.Blocks.state on) t generation at i) → Linking (g.B.Blocks.state on) t kept limit generation at i
linking g on over leaf told =
    let s = g.B.Blocks.state on in
    record {
      laws = laws_of g on;
      few = λ tells. g.met.B.Blocks.few on s.now (g.met.B.Blocks.present on tells);
      falls = λ tells b j below ne r leads. g.met.B.Blocks.falls on 1 b j below tells (g.met.B.Blocks.active on).0 ne r leads;
      one_stays = g.met.B.Blocks.one_stays on;
      over = over;
      leaf = leaf;
      told = told;
    }

was_put : (g : given.Over) (on end : g.row.B.Denot) {t : Tree} {kept : List Kept} {limit generation at i : ℕ} (e : Entry) → e ≡ entry_of t generation → Linking (g.B.Blocks.state on) t kept limit generation at i → g.B.Blocks.keeps on end
    → PutsSlot at i (Head e) (g.B.Blocks.state on).now (g.B.Blocks.state end).now
    → Frame (λ b. b ≡ at) (λ b. (b ≡ at) ⊎ (target (Head e) ≡ Local b)) (cost (((g.B.Blocks.state on).now at).slot i) (Head e)) (g.B.Blocks.state on) (g.B.Blocks.state end)
    → Hangs at i (Head e) (g.B.Blocks.state on) (g.B.Blocks.state end)
    → WasPut (g.B.Blocks.state on) (g.B.Blocks.state end) t kept limit generation at i (cost (((g.B.Blocks.state on).now at).slot i) (Head (entry_of t generation)))
was_put g on end {at = at} {i = i} e is before keeps puts frame hangs =
    let s = g.B.Blocks.state on in
    let u = g.B.Blocks.state end in
    record {
      before = before;
      says = λ tells. record { placed = g.met.B.Blocks.placed on s.now (g.met.B.Blocks.present on tells); one = g.met.B.Blocks.one_place on; active = (g.met.B.Blocks.active on).0; super_stands = g.met.B.Blocks.super_stands on tells; labelled = λ b p ne stands. (g.met.B.Blocks.labelled on b p tells ne stands).1 };
      puts = subst (λ q. PutsSlot at i (Head q) s.now u.now) is puts;
      frame = subst (λ q. Frame (λ b. b ≡ at) (λ b. (b ≡ at) ⊎ (target (Head q) ≡ Local b)) (cost ((s.now at).slot i) (Head q)) s u) is frame;
      hangs = subst (λ q. Hangs at i (Head q) s u) is hangs;
      all = g.met.B.Blocks.keeps_all on end keeps;
      end = laws_of g end;
      one_stays = g.met.B.Blocks.one_stays end;
    }

pub put_slot-requires-clause-spelled : goal.put_slot-requires-clause-spelled
put_slot-requires-clause-spelled g c =
    let s = g.B.Blocks.state c.args.on.now in
    subst (λ e. (c.args.i < slot_count (s.label c.args.at).kind) × SlotFits (s.label c.args.at).kind c.args.i (Head e)) (sym c.entry_of-entry.ensures)
    (may_spell (linking g c.args.on.now {generation = c.args.ways.now.generation} c.requires.over c.requires.leaf c.requires.told))

pub put_slot-requires-clause-may : goal.put_slot-requires-clause-may
put_slot-requires-clause-may g c = λ told.
    subst (λ e. MayPutSlot (g.B.Blocks.state c.args.on.now) c.args.at c.args.i (Head e)) (sym c.entry_of-entry.ensures)
    (may_put (linking g c.args.on.now c.requires.over c.requires.leaf c.requires.told) told)

pub returns-clause-over : goal.returns-clause-over
returns-clause-over g c =
    let p = c.put_slot.ensures in
    over_end (was_put g c.args.on.now c.put_slot.new.self c.entry_of-entry.result c.entry_of-entry.ensures (linking g c.args.on.now c.requires.over c.requires.leaf c.requires.told) p.keeps p.now p.frame p.hangs)

pub returns-clause-instead : goal.returns-clause-instead
returns-clause-instead g c =
    let p = c.put_slot.ensures in
    only_end (was_put g c.args.on.now c.put_slot.new.self c.entry_of-entry.result c.entry_of-entry.ensures (linking g c.args.on.now c.requires.over c.requires.leaf c.requires.told) p.keeps p.now p.frame p.hangs)

pub returns-clause-linked : goal.returns-clause-linked
returns-clause-linked g c =
    let p = c.put_slot.ensures in
    linked_end (was_put g c.args.on.now c.put_slot.new.self c.entry_of-entry.result c.entry_of-entry.ensures (linking g c.args.on.now c.requires.over c.requires.leaf c.requires.told) p.keeps p.now p.frame p.hangs)

pub returns-clause-in_tree : goal.returns-clause-in_tree
returns-clause-in_tree g c =
    let p = c.put_slot.ensures in
    in_tree_end (was_put g c.args.on.now c.put_slot.new.self c.entry_of-entry.result c.entry_of-entry.ensures (linking g c.args.on.now c.requires.over c.requires.leaf c.requires.told) p.keeps p.now p.frame p.hangs)

pub returns-clause-in_place : goal.returns-clause-in_place
returns-clause-in_place g c =
    let p = c.put_slot.ensures in
    in_place_end (was_put g c.args.on.now c.put_slot.new.self c.entry_of-entry.result c.entry_of-entry.ensures (linking g c.args.on.now c.requires.over c.requires.leaf c.requires.told) p.keeps p.now p.frame p.hangs)

pub returns-clause-comes : goal.returns-clause-comes
returns-clause-comes g c =
    let p = c.put_slot.ensures in
    comes_end (was_put g c.args.on.now c.put_slot.new.self c.entry_of-entry.result c.entry_of-entry.ensures (linking g c.args.on.now c.requires.over c.requires.leaf c.requires.told) p.keeps p.now p.frame p.hangs)

pub returns-clause-owned : goal.returns-clause-owned
returns-clause-owned g c =
    let p = c.put_slot.ensures in
    owned_end (was_put g c.args.on.now c.put_slot.new.self c.entry_of-entry.result c.entry_of-entry.ensures (linking g c.args.on.now c.requires.over c.requires.leaf c.requires.told) p.keeps p.now p.frame p.hangs)

pub returns-clause-again : goal.returns-clause-again
returns-clause-again g c =
    let p = c.put_slot.ensures in
    again_end (was_put g c.args.on.now c.put_slot.new.self c.entry_of-entry.result c.entry_of-entry.ensures (linking g c.args.on.now c.requires.over c.requires.leaf c.requires.told) p.keeps p.now p.frame p.hangs)

pub returns-clause-frame : goal.returns-clause-frame
returns-clause-frame g c =
    let p = c.put_slot.ensures in
    (was_put g c.args.on.now c.put_slot.new.self c.entry_of-entry.result c.entry_of-entry.ensures (linking g c.args.on.now c.requires.over c.requires.leaf c.requires.told) p.keeps p.now p.frame p.hangs).frame

pub returns-clause-dirties : goal.returns-clause-dirties
returns-clause-dirties g c = λ first blocks before here.
    let p = c.put_slot.ensures in
    dirties_put c.args.at (g.met.B.Blocks.keeps_all c.args.on.now c.put_slot.new.self p.keeps) before here (λ x d. p.frame.dirty x d) (λ x. p.frame.stays.labels x (λ h. h)) (λ x j h. inl (p.order.clearing x j h).1)

pub returns-clause-shown : goal.returns-clause-shown
returns-clause-shown g c = λ alike.
    let end = c.put_slot.new.self in
    linked_shows (g.met.B.Blocks.one_place end)
    (record {
      super_at = λ image is. g.met.B.Blocks.super_stands end (g.met.B.Blocks.told end image is);
      placed = λ image is. g.met.B.Blocks.placed end image is;
      falls = λ image is. g.met.B.Blocks.ranked end image is;
    })
    (subst (λ e. AddsSlot (g.B.Blocks.state c.args.on.now).now c.args.at c.args.i (Head e) (λ image. Unit {0}) (g.B.Blocks.state c.args.on.now).may_leave (g.B.Blocks.state end).may_leave) c.entry_of-entry.ensures c.put_slot.ensures.images)
    alike
