use Rattle.std.proofs.Common.{◌≡◌, ap, arith}
use Rattle.fo_crash.specs.declared.slot.Slot.{Slot}
use Rattle.fo_ports.specs.State.{none}
use Rattle.fo_files_change.specs.of_files_leaf.Leaf.{IsAbove}
use Rattle.fo_files_change.proofs.of_files_leaf.Altering.{alters_looks}
use Rattle.fo_files_change.proofs.of_files_leaf.Readying.{entry_at, readied_alters}
use Rattle.fo_files_ready.specs.Ready.{size_in}
use Rattle.fo_files_ready.proofs.Sizes.{dirties_way, took_way}
use Rattle.fo_files_ready.proofs.own.own_few.Goals as goal
use Rattle.fo_dirties.proofs.Adding.{adds_after, adds_more}
use Rattle.fo_dirties.proofs.Putting.{dirties_looks}

pub own_grown-requires-clause-entry : goal.own_grown-requires-clause-entry
own_grown-requires-clause-entry g c =
    let e = c.in-Ok.ensures in
    entry_at (g.B.Blocks.state c.args.on.now) (g.B.Blocks.state c.source_for.new.on) c.args.wanted c.in-Ok.source (g.met.B.Blocks.keeps_all c.args.on.now c.source_for.new.on e.looks.1) e.looks.0 c.requires.holder e.entry e.is.0 e.apart

pub returns-clause-readied : goal.returns-clause-readied
returns-clause-readied g c =
    let e = c.in-Ok.ensures in (
      c.source_for.new.on,
      record {
        before = c.in-Ok.source;
        after = c.own_grown.new.source;
        looks = e.looks.0;
        entry = e.entry;
        tag_is = e.is.0;
        dir_is = e.is.1;
        rank_is = e.is.2;
        within = e.within;
        owned = c.own_grown.ensures.owned;
      },
    )

pub returns-clause-alters : goal.returns-clause-alters
returns-clause-alters g c =
    let s = g.B.Blocks.state c.args.on.now in
    let m = g.B.Blocks.state c.source_for.new.on in
    let u = g.B.Blocks.state c.own_grown.new.on in
    let e = c.in-Ok.ensures in
    let all = g.met.B.Blocks.keeps_all c.args.on.now c.source_for.new.on e.looks.1 in
    readied_alters s m u c.args.wanted c.in-Ok.source c.own_grown.new.source c.own_grown.result all c.requires.holder.is_pinned e.looks.0 e.is.0 e.is.1 c.own_grown.ensures.owned

pub returns-in-Err-clause-alters : goal.returns-in-Err-clause-alters
returns-in-Err-clause-alters g c =
    let w = c.args.wanted in
    alters_looks w.at (λ k. k ≡ w.slot) (λ t. t ≡ w.tag) (IsAbove w.tag w.is_dir) none (g.B.Blocks.state c.args.on.now) (g.B.Blocks.state c.source_for.new.on) c.requires.holder.is_pinned c.in-Err.ensures.looks.0

pub returns-then-not-may_grow-clause-alters : goal.returns-then-not-may_grow-clause-alters
returns-then-not-may_grow-clause-alters g c =
    let w = c.args.wanted in
    alters_looks w.at (λ k. k ≡ w.slot) (λ t. t ≡ w.tag) (IsAbove w.tag w.is_dir) none (g.B.Blocks.state c.args.on.now) (g.B.Blocks.state c.source_for.new.on) c.requires.holder.is_pinned c.in-Ok.ensures.looks.0

pub returns-then-not-is_few-clause-alters : goal.returns-then-not-is_few-clause-alters
returns-then-not-is_few-clause-alters g c =
    let w = c.args.wanted in
    alters_looks w.at (λ k. k ≡ w.slot) (λ t. t ≡ w.tag) (IsAbove w.tag w.is_dir) none (g.B.Blocks.state c.args.on.now) (g.B.Blocks.state c.source_for.new.on) c.requires.holder.is_pinned c.in-Ok.ensures.looks.0

pub returns-clause-dirties : goal.returns-clause-dirties
returns-clause-dirties g c =
    let e = c.in-Ok.ensures in
    let few = c.is_few.ensures.few c.if-not-is_few.false in
    adds_after (dirties_looks (g.met.B.Blocks.keeps_all c.args.on.now c.source_for.new.on e.looks.1) e.looks.0) (adds_more (omega (arith, few)) c.own_grown.ensures.dirties)

pub returns-clause-dirties_fewer : goal.returns-clause-dirties_fewer
returns-clause-dirties_fewer g c = λ same.
    let s = g.B.Blocks.state c.args.on.now in
    let m = g.B.Blocks.state c.source_for.new.on in
    let u = g.B.Blocks.state c.own_grown.new.on in
    let w = c.args.wanted in
    let e = c.in-Ok.ensures in
    adds_after (dirties_looks (g.met.B.Blocks.keeps_all c.args.on.now c.source_for.new.on e.looks.1) e.looks.0)
    (dirties_way (size_in ((s.now w.at).slot w.slot)) c.in-Ok.source.ways.tree.size w.leaf w.at c.own_grown.result m u (ap (λ (z : Slot). size_in z) e.entry.is) (c.is_few.ensures.has c.if-not-is_few.false same) c.own_grown.ensures.dirties)

pub returns-clause-fewer : goal.returns-clause-fewer
returns-clause-fewer g c = λ same.
    let s = g.B.Blocks.state c.args.on.now in
    let m = g.B.Blocks.state c.source_for.new.on in
    let u = g.B.Blocks.state c.own_grown.new.on in
    let w = c.args.wanted in
    let e = c.in-Ok.ensures in
    took_way (size_in ((s.now w.at).slot w.slot)) c.in-Ok.source.ways.tree.size w.leaf s.spare m.spare u.spare (ap (λ (z : Slot). size_in z) e.entry.is) (c.is_few.ensures.has c.if-not-is_few.false same) e.looks.0.room.0 c.own_grown.ensures.spare
