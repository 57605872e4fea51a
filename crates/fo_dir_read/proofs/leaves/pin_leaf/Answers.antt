use Rattle.std.proofs.Common.{◌∙◌, inl, sym, subst, MatchOption}
use Rattle.fo_ports.specs.State.{Looks}
use Rattle.fo_ports.specs.Sources.{SameLeaves}
use Rattle.fo_looks.proofs.Looks.{looks_joins, looks_undisturbed, same_leaves_joins, source_looks, ready_looks}
use Rattle.fo_dir_read.proofs.Looking.{looked_later}
use Rattle.fo_dir_read.proofs.leaves.pin_leaf.Given as given
use Rattle.fo_dir_read.proofs.leaves.pin_leaf.Goals as goal

-- a source stays over a look at a block
still : (g : given.Over) (s : _) (a b : _) → g.S.Bytes.is_over s a → g.B.Blocks.keeps a b → Looks (g.B.Blocks.state a) (g.B.Blocks.state b)
    → g.S.Bytes.is_over s b × SameLeaves (g.B.Blocks.state a).tells (g.S.Bytes.leaves s a) (g.S.Bytes.leaves s b)
still g s a b over keeps looks =
    let stays = g.met.S.Bytes.stays s a b over keeps (λ told. looks_undisturbed looks (g.met.B.Blocks.active b).0 told (λ at own. (g.met.S.Bytes.live s a at over told own).2)) in (
      stays.0,
      source_looks (g.S.Bytes.size s) looks (g.met.S.Bytes.bytes_are s a over) (g.met.S.Bytes.bytes_are s b stays.0) stays.1
          (λ o n h. g.met.S.Bytes.still_prepared s a b o n over stays.0 keeps (λ at ready. ready_looks looks at ready) h)
          (λ h. g.met.S.Bytes.still_current s a b over stays.0 keeps (λ at ready. ready_looks looks at ready) (λ at own. looks.stays.labels at (λ n. n)) h),
    )

pub returns-in-Ok-clause-shows : goal.returns-in-Ok-clause-shows
returns-in-Ok-clause-shows g c = λ told.
    let all = g.met.B.Blocks.keeps_all c.args.on.now c.leaf.new.on c.leaf.ensures.looks.1 in
    let there = still g c.leaf.new.self c.leaf.new.on c.pin.new.self c.leaf.ensures.over c.pin.ensures.keeps c.pin.ensures.looks in
    (there.1.leaves (all.still_tells.1 told) c.args.i).0 ∙ sym (c.in_ok-at.ensures.at (inl told)) ∙ c.in-Some.is

pub returns-in-Ok-clause-over : goal.returns-in-Ok-clause-over
returns-in-Ok-clause-over g c = (still g c.leaf.new.self c.leaf.new.on c.pin.new.self c.leaf.ensures.over c.pin.ensures.keeps c.pin.ensures.looks).0

pub returns-in-Ok-clause-same : goal.returns-in-Ok-clause-same
returns-in-Ok-clause-same g c =
    let all = g.met.B.Blocks.keeps_all c.args.on.now c.leaf.new.on c.leaf.ensures.looks.1 in
    let there = still g c.leaf.new.self c.leaf.new.on c.pin.new.self c.leaf.ensures.over c.pin.ensures.keeps c.pin.ensures.looks in
    (c.leaf.ensures.same.0, c.leaf.ensures.same.1, same_leaves_joins all.still_tells.1 c.leaf.ensures.same.2 there.1)

pub returns-in-Ok-clause-looks : goal.returns-in-Ok-clause-looks
returns-in-Ok-clause-looks g c = looks_joins (g.met.B.Blocks.keeps_all c.args.on.now c.leaf.new.on c.leaf.ensures.looks.1) c.leaf.ensures.looks.0 c.pin.ensures.looks

pub returns-in-Err-clause-over : goal.returns-in-Err-clause-over
returns-in-Err-clause-over g c = (still g c.leaf.new.self c.leaf.new.on c.pin.new.self c.leaf.ensures.over c.pin.ensures.keeps c.pin.ensures.looks).0

pub returns-in-Err-clause-same : goal.returns-in-Err-clause-same
returns-in-Err-clause-same g c =
    let all = g.met.B.Blocks.keeps_all c.args.on.now c.leaf.new.on c.leaf.ensures.looks.1 in
    let there = still g c.leaf.new.self c.leaf.new.on c.pin.new.self c.leaf.ensures.over c.pin.ensures.keeps c.pin.ensures.looks in
    (c.leaf.ensures.same.0, c.leaf.ensures.same.1, same_leaves_joins all.still_tells.1 c.leaf.ensures.same.2 there.1)

pub returns-in-Err-clause-looks : goal.returns-in-Err-clause-looks
returns-in-Err-clause-looks g c = looks_joins (g.met.B.Blocks.keeps_all c.args.on.now c.leaf.new.on c.leaf.ensures.looks.1) c.leaf.ensures.looks.0 c.pin.ensures.looks

pub returns-in-Err-clause-cause : goal.returns-in-Err-clause-cause
returns-in-Err-clause-cause g c =
    let all = g.met.B.Blocks.keeps_all c.args.on.now c.leaf.new.on c.leaf.ensures.looks.1 in
    looked_later (g.B.Blocks.state c.args.on.now) (g.B.Blocks.state c.leaf.new.on) (g.B.Blocks.state c.pin.new.self) c.in-Some.at all ((all.same_blocks c.in-Some.at).0 (subst (λ o. MatchOption o (Unit {0}) (λ b. (g.B.Blocks.state c.leaf.new.on).is_block b)) c.in-Some.is c.in_ok-at.ensures.block))
    (λ told. g.met.S.Bytes.leaf_stands c.leaf.new.self c.leaf.new.on c.args.i c.in-Some.at c.leaf.ensures.over (all.still_tells.1 told) (sym (c.in_ok-at.ensures.at (inl told)) ∙ c.in-Some.is)) c.in-Err.why (c.in-Err.ensures.cause)
