use Rattle.std.proofs.Common.{◌≡◌, arith}
use Rattle.fo_ports.specs.State.{none}
use Rattle.fo_files_leaf.specs.Leaf.{IsAbove}
use Rattle.fo_files_leaf.proofs.Altering.{alters_looks}
use Rattle.fo_files_leaf.proofs.Readying.{entry_at, enough_ten, readied_alters, most_ten}
use Rattle.fo_files_leaf.proofs.ready.ready_leaf.Goals as goal
use Rattle.fo_dirties.proofs.Adding.{adds_after, adds_more}
use Rattle.fo_dirties.proofs.Putting.{dirties_looks}

pub own_grown-requires-clause-entry : goal.own_grown-requires-clause-entry
own_grown-requires-clause-entry g c =
    let e = c.in-Ok.ensures in
    entry_at (g.B.Blocks.state c.args.on.now) (g.B.Blocks.state c.source_for.new.on) c.args.wanted c.in-Ok.source (g.met.B.Blocks.keeps_all c.args.on.now c.source_for.new.on e.looks.1) e.looks.0 c.requires.holder e.entry e.is.0 e.apart

pub own_grown-requires-clause-spare : goal.own_grown-requires-clause-spare
own_grown-requires-clause-spare g c =
    enough_ten c.in-Ok.source.ways.tree.size c.args.wanted.leaf (g.B.Blocks.state c.args.on.now).spare (g.B.Blocks.state c.source_for.new.on).spare c.requires.spare c.in-Ok.ensures.looks.0.room.0

pub returns-clause-readied : goal.returns-clause-readied
returns-clause-readied g c =
    let e = c.in-Ok.ensures in (
      c.source_for.new.on,
      record {
        before = c.in-Ok.source;
        after = c.own_grown.new.source;
        looks = e.looks.0;
        entry = e.entry;
        tag_is = e.is.0;
        dir_is = e.is.1;
        rank_is = e.is.2;
        within = e.within;
        owned = c.own_grown.ensures.owned;
      },
    )

pub returns-clause-alters : goal.returns-clause-alters
returns-clause-alters g c =
    let s = g.B.Blocks.state c.args.on.now in
    let m = g.B.Blocks.state c.source_for.new.on in
    let u = g.B.Blocks.state c.own_grown.new.on in
    let e = c.in-Ok.ensures in
    let all = g.met.B.Blocks.keeps_all c.args.on.now c.source_for.new.on e.looks.1 in
    readied_alters s m u c.args.wanted c.in-Ok.source c.own_grown.new.source c.own_grown.result all c.requires.holder.is_pinned e.looks.0 e.is.0 e.is.1 c.own_grown.ensures.owned

pub returns-in-Err-clause-alters : goal.returns-in-Err-clause-alters
returns-in-Err-clause-alters g c =
    let w = c.args.wanted in
    alters_looks w.at (λ k. k ≡ w.slot) (λ t. t ≡ w.tag) (IsAbove w.tag w.is_dir) none (g.B.Blocks.state c.args.on.now) (g.B.Blocks.state c.source_for.new.on) c.requires.holder.is_pinned c.in-Err.ensures.looks.0

pub returns-then-not-may_grow-clause-alters : goal.returns-then-not-may_grow-clause-alters
returns-then-not-may_grow-clause-alters g c =
    let w = c.args.wanted in
    alters_looks w.at (λ k. k ≡ w.slot) (λ t. t ≡ w.tag) (IsAbove w.tag w.is_dir) none (g.B.Blocks.state c.args.on.now) (g.B.Blocks.state c.source_for.new.on) c.requires.holder.is_pinned c.in-Ok.ensures.looks.0

pub returns-clause-dirties : goal.returns-clause-dirties
returns-clause-dirties g c =
    let e = c.in-Ok.ensures in
    let most = most_ten c.in-Ok.source.ways.tree.size c.args.wanted.leaf in
    adds_after (dirties_looks (g.met.B.Blocks.keeps_all c.args.on.now c.source_for.new.on e.looks.1) e.looks.0) (adds_more (omega (arith, most)) c.own_grown.ensures.dirties)
