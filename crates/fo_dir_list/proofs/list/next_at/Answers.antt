use Rattle.std.proofs.Common.{◌⊎◌, ◌≤◌, IfSome, ◌∙◌, subst}
use Rattle.fo_image.specs.declared.types.Kind.TheVariants.{Data}
use Rattle.fo_ports.specs.Sources.{depth_for}
use Rattle.fo_dir_read.proofs.of_looks.Looks.{looks_joins, same_leaves_joins}
use Rattle.fo_dir_read.specs.Pinned.{IsPinned}
use Rattle.fo_dir_read.proofs.Looking.{any_caused_later, pins_behind, each_ok}
use Rattle.fo_dir_list.proofs.list.next_at.Goals as goal

pub returns-in-None-clause-next : goal.returns-in-None-clause-next
returns-in-None-clause-next g c =
    let all = g.met.B.Blocks.keeps_all c.args.on.now c.pin_leaf.new.on c.pin_leaf.ensures.keeps in
    each_ok c.copied_next.result (λ x f told. f (all.still_tells.1 told) c.args.i (c.in_ok-at.ensures.shows told ∙ c.in-Some.is)) c.copied_next.ensures.next

pub returns-in-None-clause-same : goal.returns-in-None-clause-same
returns-in-None-clause-same g c =
    let all = g.met.B.Blocks.keeps_all c.args.on.now c.pin_leaf.new.on c.pin_leaf.ensures.keeps in
    let s = c.pin_leaf.ensures.same in
    (s.0, s.1, same_leaves_joins all.still_tells.1 s.2 c.copied_next.ensures.same)

pub returns-in-None-clause-pins : goal.returns-in-None-clause-pins
returns-in-None-clause-pins g c = pins_behind (g.B.Blocks.state c.args.on.now).pins_left (g.B.Blocks.state c.pin_leaf.new.on).pins_left (g.B.Blocks.state c.copied_next.new.on).pins_left (depth_for (g.S.Bytes.size c.args.records.now)) c.pin_leaf.ensures.pins
    (subst (λ o. IfSome o (λ b. IsPinned (g.B.Blocks.state c.pin_leaf.new.on) (Data 0) b ⊎ ((g.B.Blocks.state c.args.on.now).pins_left ≤ depth_for (g.S.Bytes.size c.args.records.now)))) c.in-Some.is c.in_ok-at.ensures.pinned) c.copied_next.ensures.again

pub returns-in-None-clause-looks : goal.returns-in-None-clause-looks
returns-in-None-clause-looks g c = looks_joins (g.met.B.Blocks.keeps_all c.args.on.now c.pin_leaf.new.on c.pin_leaf.ensures.keeps) c.pin_leaf.ensures.looks c.copied_next.ensures.looks

pub returns-in-None-clause-cause : goal.returns-in-None-clause-cause
returns-in-None-clause-cause g c = any_caused_later (g.B.Blocks.state c.args.on.now) (g.B.Blocks.state c.pin_leaf.new.on) (g.B.Blocks.state c.copied_next.new.on) (g.met.B.Blocks.keeps_all c.args.on.now c.pin_leaf.new.on c.pin_leaf.ensures.keeps) c.copied_next.result c.copied_next.ensures.cause
