use Rattle.std.proofs.Common.{◌⊎◌, ◌≤◌, IfSome, ◌∙◌, subst}
use Rattle.fo_image.specs.declared.types.Kind.TheVariants.{Dir}
use Rattle.fo_ports.specs.Sources.{depth_for}
use Rattle.fo_looks.proofs.Looks.{looks_joins, same_leaves_joins}
use Rattle.fo_dir_read.specs.Pinned.{IsPinned}
use Rattle.fo_dir_read.proofs.Looking.{any_caused_later, pins_behind, each_ok}
use Rattle.fo_dir_read.proofs.Pairs.{pair_is, pair_leads}
use Rattle.fo_dir_read.proofs.entries.pair.Goals as goal

pub returns-in-None-clause-pair : goal.returns-in-None-clause-pair
returns-in-None-clause-pair g c =
    let all = g.met.B.Blocks.keeps_all c.args.on.now c.pin_leaf.new.on c.pin_leaf.ensures.keeps in
    each_ok c.copied_pair.result (λ x f told. f (all.still_tells.1 told)) c.copied_pair.ensures.pair

pub returns-in-Some-lend-clause-pair : goal.returns-in-Some-lend-clause-pair
returns-in-Some-lend-clause-pair g c = λ told.
    let on = c.pin_leaf.new.on in
    pair_is (g.B.Blocks.state on).now (g.S.Bytes.leaves c.pin_leaf.new.source on) c.args.k c.in-Some.at c.pair_in.result.0 c.pair_in.result.1 c.in-Some-lend.leaf.now (c.in_ok-at.ensures.shows told ∙ c.in-Some.is) c.in-Some-lend.ensures.bytes.2 c.pair_in.ensures.first c.pair_in.ensures.second

pub returns-in-Some-lend-clause-leads : goal.returns-in-Some-lend-clause-leads
returns-in-Some-lend-clause-leads g c = pair_leads (g.B.Blocks.state c.pin_leaf.new.on) c.in-Some.at c.args.k c.pair_in.result.0 c.pair_in.result.1 c.in-Some-lend.leaf.now c.in-Some-lend.ensures.bytes.2 c.in-Some-lend.ensures.names c.pair_in.ensures.first c.pair_in.ensures.second

pub returns-in-None-clause-same : goal.returns-in-None-clause-same
returns-in-None-clause-same g c =
    let all = g.met.B.Blocks.keeps_all c.args.on.now c.pin_leaf.new.on c.pin_leaf.ensures.keeps in
    let s = c.pin_leaf.ensures.same in
    (s.0, s.1, same_leaves_joins all.still_tells.1 s.2 c.copied_pair.ensures.same)

pub returns-in-None-clause-pins : goal.returns-in-None-clause-pins
returns-in-None-clause-pins g c = pins_behind (g.B.Blocks.state c.args.on.now).pins_left (g.B.Blocks.state c.pin_leaf.new.on).pins_left (g.B.Blocks.state c.copied_pair.new.on).pins_left (depth_for (g.S.Bytes.size c.args.entries.now)) c.pin_leaf.ensures.pins
    (subst (λ o. IfSome o (λ b. IsPinned (g.B.Blocks.state c.pin_leaf.new.on) (Dir 0) b ⊎ ((g.B.Blocks.state c.args.on.now).pins_left ≤ depth_for (g.S.Bytes.size c.args.entries.now)))) c.in-Some.is c.in_ok-at.ensures.pinned) c.copied_pair.ensures.again

pub returns-in-None-clause-looks : goal.returns-in-None-clause-looks
returns-in-None-clause-looks g c = looks_joins (g.met.B.Blocks.keeps_all c.args.on.now c.pin_leaf.new.on c.pin_leaf.ensures.keeps) c.pin_leaf.ensures.looks c.copied_pair.ensures.looks

pub returns-in-None-clause-cause : goal.returns-in-None-clause-cause
returns-in-None-clause-cause g c = any_caused_later (g.B.Blocks.state c.args.on.now) (g.B.Blocks.state c.pin_leaf.new.on) (g.B.Blocks.state c.copied_pair.new.on) (g.met.B.Blocks.keeps_all c.args.on.now c.pin_leaf.new.on c.pin_leaf.ensures.keeps) c.copied_pair.result c.copied_pair.ensures.cause
