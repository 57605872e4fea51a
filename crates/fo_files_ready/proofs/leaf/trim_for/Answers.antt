use Rattle.fo_files_ready.proofs.Steps.{wanted_holder, wanted_is, wanted_records, wanted_alters, unchanged}
use Rattle.fo_files_ready.proofs.leaf.trim_for.Goals as goal
use Rattle.std.proofs.Common.{subst, sym, [], ◌∷◌, ◌<◌, ◌^◌}
use Rattle.fo_ports.specs.Sources.{AddsDirty}
use Rattle.fo_files_change.specs.of_files_leaf.declared.open.LeafOf.{LeafOf}
use Rattle.fo_dirties.proofs.Adding.{adds_idle, first_of}
use Rattle.fo_dirties.proofs.Putting.{dirties_at_once}

pub trim_records-requires-clause-holder : goal.trim_records-requires-clause-holder
trim_records-requires-clause-holder g c = wanted_holder (g.B.Blocks.state c.args.on.now) c.args.dir c.args.i c.in-Some.wanted c.in-Some.ensures.is c.requires.dir

pub trim_records-requires-clause-wanted : goal.trim_records-requires-clause-wanted
trim_records-requires-clause-wanted g c = wanted_is (g.B.Blocks.state c.args.on.now) c.args.dir c.args.i c.in-Some.wanted c.in-Some.ensures.is c.requires.dir

pub trim_records-requires-clause-records : goal.trim_records-requires-clause-records
trim_records-requires-clause-records g c = wanted_records c.in-Some.wanted c.args.dir c.args.i c.in-Some.ensures.is

pub returns-in_default-clause-alters : goal.returns-in_default-clause-alters
returns-in_default-clause-alters g c = unchanged (g.B.Blocks.state c.args.on.now) c.args.dir

pub returns-in-Ok-clause-alters : goal.returns-in-Ok-clause-alters
returns-in-Ok-clause-alters g c = wanted_alters (g.B.Blocks.state c.args.on.now) (g.B.Blocks.state c.trim_records.new.on) c.args.dir c.args.i c.in-Some.wanted c.in-Some.ensures.is c.trim_records.ensures.alters

pub returns-in-Err-clause-alters : goal.returns-in-Err-clause-alters
returns-in-Err-clause-alters g c = wanted_alters (g.B.Blocks.state c.args.on.now) (g.B.Blocks.state c.trim_records.new.on) c.args.dir c.args.i c.in-Some.wanted c.in-Some.ensures.is c.trim_records.ensures.alters

pub returns-in-Ok-clause-dirties : goal.returns-in-Ok-clause-dirties
returns-in-Ok-clause-dirties g c = subst (λ (w : LeafOf). AddsDirty 8 (w.at ∷ []) w.at (g.B.Blocks.state c.args.on.now) (g.B.Blocks.state c.trim_records.new.on)) c.in-Some.ensures.is c.trim_records.ensures.dirties

pub returns-in-Err-clause-dirties : goal.returns-in-Err-clause-dirties
returns-in-Err-clause-dirties g c = subst (λ (w : LeafOf). AddsDirty 8 (w.at ∷ []) w.at (g.B.Blocks.state c.args.on.now) (g.B.Blocks.state c.trim_records.new.on)) c.in-Some.ensures.is c.trim_records.ensures.dirties

pub returns-in-Ok-clause-dirties_few : goal.returns-in-Ok-clause-dirties_few
returns-in-Ok-clause-dirties_few g c = λ small. subst (λ (w : LeafOf). AddsDirty 4 (w.at ∷ []) w.at (g.B.Blocks.state c.args.on.now) (g.B.Blocks.state c.trim_records.new.on)) c.in-Some.ensures.is (c.trim_records.ensures.dirties_few (subst (λ (w : LeafOf). w.leaf < 409 ^ 2) (sym c.in-Some.ensures.is) small))

pub returns-in-Err-clause-dirties_few : goal.returns-in-Err-clause-dirties_few
returns-in-Err-clause-dirties_few g c = λ small. subst (λ (w : LeafOf). AddsDirty 4 (w.at ∷ []) w.at (g.B.Blocks.state c.args.on.now) (g.B.Blocks.state c.trim_records.new.on)) c.in-Some.ensures.is (c.trim_records.ensures.dirties_few (subst (λ (w : LeafOf). w.leaf < 409 ^ 2) (sym c.in-Some.ensures.is) small))

pub returns-in_default-clause-dirties : goal.returns-in_default-clause-dirties
returns-in_default-clause-dirties g c = adds_idle 8 first_of (dirties_at_once (g.B.Blocks.state c.args.on.now) [])

pub returns-in_default-clause-dirties_few : goal.returns-in_default-clause-dirties_few
returns-in_default-clause-dirties_few g c = λ small. adds_idle 4 first_of (dirties_at_once (g.B.Blocks.state c.args.on.now) [])
