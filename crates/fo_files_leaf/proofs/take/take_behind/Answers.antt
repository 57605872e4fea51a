use Rattle.std.proofs.Common.{◌≡◌, inl, inr, ap, arith}
use Rattle.fo_ports.specs.State.{none}
use Rattle.fo_dirties.proofs.Adding.{adds_idle, adds_none, first_of, dirties_after}
use Rattle.fo_dirties.proofs.Putting.{dirties_looks}
use Rattle.fo_files_leaf.specs.Leaf.{IsAbove}
use Rattle.fo_files_leaf.proofs.Altering.{alters_looks}
use Rattle.fo_files_leaf.proofs.Readying.{entry_at, looked_alters}
use Rattle.fo_tree_read.specs.declared.tree.Tree.{Tree}
use Rattle.fo_files_leaf.proofs.Taking.{taken_in}
use Rattle.fo_files_leaf.proofs.take.take_behind.Goals as goal

pub returns-then-may_grow-clause-trimmed : goal.returns-then-may_grow-clause-trimmed
returns-then-may_grow-clause-trimmed g c =
    let e = c.in-Ok.ensures in
    record {
      source = c.in-Ok.source;
      entry = entry_at (g.B.Blocks.state c.args.on.now) (g.B.Blocks.state c.source_for.new.on) c.args.wanted c.in-Ok.source (g.met.B.Blocks.keeps_all c.args.on.now c.source_for.new.on e.looks.1) e.looks.0 c.requires.holder e.entry e.is.0 e.apart;
      may = c.may_grow.ensures.may c.if-may_grow.true;
    }

pub take_in-requires-clause-entry : goal.take_in-requires-clause-entry
take_in-requires-clause-entry g c =
    let e = c.in-Ok.ensures in
    entry_at (g.B.Blocks.state c.args.on.now) (g.B.Blocks.state c.source_for.new.on) c.args.wanted c.in-Ok.source (g.met.B.Blocks.keeps_all c.args.on.now c.source_for.new.on e.looks.1) e.looks.0 c.requires.holder e.entry e.is.0 e.apart

pub returns-in-Ok-take_in-clause-trimmed : goal.returns-in-Ok-take_in-clause-trimmed
returns-in-Ok-take_in-clause-trimmed g c = record {
  source = c.take_in.new.source;
  entry = c.take_in.ensures.entry;
  may = λ short. let size = ap (λ (t : Tree). t.size) c.take_in.ensures.tree in absurd (omega (arith, short, size));
}

pub returns-then-may_grow-clause-taken : goal.returns-then-may_grow-clause-taken
returns-then-may_grow-clause-taken g c = inl c.in-Ok.ensures.looks.0

pub returns-in-Ok-take_in-clause-taken : goal.returns-in-Ok-take_in-clause-taken
returns-in-Ok-take_in-clause-taken g c =
    let t = c.take_in.ensures in
    let e = c.in-Ok.ensures in
    inr (taken_in (g.B.Blocks.state c.args.on.now) (g.B.Blocks.state c.take_in.new.on) c.args.wanted c.in-Ok.source c.take_in.new.source e.entry (c.may_grow.ensures.not c.if-may_grow.false).0 t.tree t.generation t.entry, c.in-Ok-take_in.ensures.settled)

pub returns-in-Err-clause-refused : goal.returns-in-Err-clause-refused
returns-in-Err-clause-refused g c = inl c.in-Err.ensures.looks.0

pub returns-then-not-has_place-clause-refused : goal.returns-then-not-has_place-clause-refused
returns-then-not-has_place-clause-refused g c = inl c.in-Ok.ensures.looks.0

pub returns-clause-refused : goal.returns-clause-refused
returns-clause-refused g c =
    let t = c.take_in.ensures in
    let e = c.in-Ok.ensures in
    inr (taken_in (g.B.Blocks.state c.args.on.now) (g.B.Blocks.state c.take_in.new.on) c.args.wanted c.in-Ok.source c.take_in.new.source e.entry (c.may_grow.ensures.not c.if-may_grow.false).0 t.tree t.generation t.entry)

pub returns-then-not-has_place-clause-alters : goal.returns-then-not-has_place-clause-alters
returns-then-not-has_place-clause-alters g c =
    let w = c.args.wanted in
    alters_looks w.at (λ k. k ≡ w.slot) (λ t. t ≡ w.tag) (IsAbove w.tag w.is_dir) none (g.B.Blocks.state c.args.on.now) (g.B.Blocks.state c.source_for.new.on) c.requires.holder.is_pinned c.in-Ok.ensures.looks.0

pub returns-in-Ok-take_in-clause-alters : goal.returns-in-Ok-take_in-clause-alters
returns-in-Ok-take_in-clause-alters g c =
    let e = c.in-Ok.ensures in
    looked_alters (g.B.Blocks.state c.args.on.now) (g.B.Blocks.state c.source_for.new.on) (g.B.Blocks.state c.take_in.new.on) c.args.wanted c.in-Ok.source (g.met.B.Blocks.keeps_all c.args.on.now c.source_for.new.on e.looks.1) c.requires.holder.is_pinned e.looks.0 e.is.0 e.is.1 c.take_in.ensures.alters

pub returns-clause-alters : goal.returns-clause-alters
returns-clause-alters g c =
    let e = c.in-Ok.ensures in
    looked_alters (g.B.Blocks.state c.args.on.now) (g.B.Blocks.state c.source_for.new.on) (g.B.Blocks.state c.take_in.new.on) c.args.wanted c.in-Ok.source (g.met.B.Blocks.keeps_all c.args.on.now c.source_for.new.on e.looks.1) c.requires.holder.is_pinned e.looks.0 e.is.0 e.is.1 c.take_in.ensures.alters

pub returns-in-Err-clause-dirties : goal.returns-in-Err-clause-dirties
returns-in-Err-clause-dirties g c = adds_idle 0 first_of (dirties_looks (g.met.B.Blocks.keeps_all c.args.on.now c.source_for.new.on c.in-Err.ensures.looks.1) c.in-Err.ensures.looks.0)

pub returns-then-may_grow-clause-dirties : goal.returns-then-may_grow-clause-dirties
returns-then-may_grow-clause-dirties g c = adds_idle 0 first_of (dirties_looks (g.met.B.Blocks.keeps_all c.args.on.now c.source_for.new.on c.in-Ok.ensures.looks.1) c.in-Ok.ensures.looks.0)

pub returns-then-not-has_place-clause-dirties : goal.returns-then-not-has_place-clause-dirties
returns-then-not-has_place-clause-dirties g c = adds_idle 0 first_of (dirties_looks (g.met.B.Blocks.keeps_all c.args.on.now c.source_for.new.on c.in-Ok.ensures.looks.1) c.in-Ok.ensures.looks.0)

pub returns-in-Ok-take_in-clause-dirties : goal.returns-in-Ok-take_in-clause-dirties
returns-in-Ok-take_in-clause-dirties g c = adds_none 0 first_of (dirties_after (dirties_looks (g.met.B.Blocks.keeps_all c.args.on.now c.source_for.new.on c.in-Ok.ensures.looks.1) c.in-Ok.ensures.looks.0) c.take_in.ensures.dirties)

pub returns-clause-dirties : goal.returns-clause-dirties
returns-clause-dirties g c = adds_none 0 first_of (dirties_after (dirties_looks (g.met.B.Blocks.keeps_all c.args.on.now c.source_for.new.on c.in-Ok.ensures.looks.1) c.in-Ok.ensures.looks.0) c.take_in.ensures.dirties)
