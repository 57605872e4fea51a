use Rattle.std.proofs.Common.{◌≡◌, ◌+◌, ◌*◌, ◌≤◌, subst, [], ◌∷◌}
use Rattle.fo_files_change.specs.of_files_leaf.declared.open.LeafOf.{LeafOf}
use Rattle.fo_files_change.specs.of_files_leaf.Leaf.{Readied}
use Rattle.fo_files_change.proofs.Records.{records_ready}
use Rattle.fo_files_ready.proofs.Steps.{wanted_holder, wanted_is, wanted_alters, wanted_own, unchanged}
use Rattle.fo_files_ready.proofs.leaf.leaf_at.Goals as goal
use Rattle.fo_ports.specs.Sources.{AddsDirty, way_for}
use Rattle.fo_files_ready.specs.Ready.{size_in}

pub own_few-requires-clause-holder : goal.own_few-requires-clause-holder
own_few-requires-clause-holder g c = wanted_holder (g.B.Blocks.state c.args.on.now) c.args.dir c.args.i c.in-Some.wanted c.in-Some.ensures.is c.requires.dir

pub own_few-requires-clause-wanted : goal.own_few-requires-clause-wanted
own_few-requires-clause-wanted g c = wanted_is (g.B.Blocks.state c.args.on.now) c.args.dir c.args.i c.in-Some.wanted c.in-Some.ensures.is c.requires.dir

pub returns-in_default-clause-alters : goal.returns-in_default-clause-alters
returns-in_default-clause-alters g c = unchanged (g.B.Blocks.state c.args.on.now) c.args.dir

pub returns-in-Ok-clause-own : goal.returns-in-Ok-clause-own
returns-in-Ok-clause-own g c = wanted_own (g.B.Blocks.state c.own_few.new.on) c.args.dir c.args.i c.in-Ok.leaf c.in-Some.wanted c.in-Some.ensures.is c.in-Ok.ensures.own

pub returns-in-Ok-clause-leaf : goal.returns-in-Ok-clause-leaf
returns-in-Ok-clause-leaf g c =
    let all = g.met.B.Blocks.keeps_all c.args.on.now c.own_few.new.on c.own_few.ensures.keeps in
    records_ready _ c.in-Ok.leaf (λ h. c.requires.silent (all.still_tells.0 h)) (λ h. g.met.B.Blocks.covers_told c.own_few.new.on c.in-Ok.leaf h) (wanted_own (g.B.Blocks.state c.own_few.new.on) c.args.dir c.args.i c.in-Ok.leaf c.in-Some.wanted c.in-Some.ensures.is c.in-Ok.ensures.own)

pub returns-in-Ok-clause-readied : goal.returns-in-Ok-clause-readied
returns-in-Ok-clause-readied g c =
    let r = c.in-Ok.ensures.readied in
    (r.0, subst (λ (w : LeafOf). Readied (g.B.Blocks.state c.args.on.now) (g.B.Blocks.state r.0) (g.B.Blocks.state c.own_few.new.on) w c.in-Ok.leaf) c.in-Some.ensures.is r.1)

pub returns-in-Ok-clause-alters : goal.returns-in-Ok-clause-alters
returns-in-Ok-clause-alters g c = wanted_alters (g.B.Blocks.state c.args.on.now) (g.B.Blocks.state c.own_few.new.on) c.args.dir c.args.i c.in-Some.wanted c.in-Some.ensures.is c.own_few.ensures.alters

pub returns-in-Err-clause-alters : goal.returns-in-Err-clause-alters
returns-in-Err-clause-alters g c = wanted_alters (g.B.Blocks.state c.args.on.now) (g.B.Blocks.state c.own_few.new.on) c.args.dir c.args.i c.in-Some.wanted c.in-Some.ensures.is c.own_few.ensures.alters

pub returns-in-Ok-clause-dirties : goal.returns-in-Ok-clause-dirties
returns-in-Ok-clause-dirties g c = subst (λ (w : LeafOf). AddsDirty 12 (w.at ∷ []) c.in-Ok.leaf (g.B.Blocks.state c.args.on.now) (g.B.Blocks.state c.own_few.new.on)) c.in-Some.ensures.is c.in-Ok.ensures.dirties

pub returns-in-Ok-clause-dirties_fewer : goal.returns-in-Ok-clause-dirties_fewer
returns-in-Ok-clause-dirties_fewer g c = λ same. subst (λ (w : LeafOf). AddsDirty (2 * way_for (size_in (((g.B.Blocks.state c.args.on.now).now w.at).slot w.slot))) (w.at ∷ []) c.in-Ok.leaf (g.B.Blocks.state c.args.on.now) (g.B.Blocks.state c.own_few.new.on)) c.in-Some.ensures.is (c.in-Ok.ensures.dirties_fewer same)

pub returns-in-Ok-clause-fewer : goal.returns-in-Ok-clause-fewer
returns-in-Ok-clause-fewer g c = λ same. subst (λ (w : LeafOf). (g.B.Blocks.state c.args.on.now).spare ≤ (g.B.Blocks.state c.own_few.new.on).spare + way_for (size_in (((g.B.Blocks.state c.args.on.now).now w.at).slot w.slot))) c.in-Some.ensures.is (c.own_few.ensures.fewer same)

pub returns-in-Err-clause-fewer : goal.returns-in-Err-clause-fewer
returns-in-Err-clause-fewer g c = λ same. subst (λ (w : LeafOf). (g.B.Blocks.state c.args.on.now).spare ≤ (g.B.Blocks.state c.own_few.new.on).spare + way_for (size_in (((g.B.Blocks.state c.args.on.now).now w.at).slot w.slot))) c.in-Some.ensures.is (c.own_few.ensures.fewer same)

pub returns-in-Ok-clause-same : goal.returns-in-Ok-clause-same
returns-in-Ok-clause-same g c = λ same. subst (λ (w : LeafOf). size_in (((g.B.Blocks.state c.own_few.new.on).now w.at).slot w.slot) ≡ size_in (((g.B.Blocks.state c.args.on.now).now w.at).slot w.slot)) c.in-Some.ensures.is (c.in-Ok.ensures.same same)
