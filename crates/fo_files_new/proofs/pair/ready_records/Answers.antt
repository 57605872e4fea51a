use Rattle.fo_files_leaf.proofs.Altering.{alters_joins}
use Rattle.fo_files_new.proofs.Dirs.{records_holder, records_wanted, alters_records, own_as, leaf_apart, same_alters, dir_on}
use Rattle.fo_files_new.proofs.Putting.{caused_after}
use Rattle.fo_files_new.proofs.pair.ready_records.Goals as goal
use Rattle.fo_dirties.proofs.Adding.{adds_idle, first_of, adds_joins, adds_more, adds_still, cons_of, none_of}
use Rattle.fo_dirties.proofs.Putting.{dirties_looks, dirties_at_once}
use Rattle.std.proofs.Common.{subst, [], ◌∷◌, arith}
use Rattle.fo_ports.specs.Sources.{AddsDirty}

pub trim_records-requires-clause-holder : goal.trim_records-requires-clause-holder
trim_records-requires-clause-holder g c = records_holder (g.B.Blocks.state c.args.on.now) c.args.dir c.args.leaf c.in-Some.wanted c.requires.dir c.in-Some.ensures.is.0

pub trim_records-requires-clause-wanted : goal.trim_records-requires-clause-wanted
trim_records-requires-clause-wanted g c = records_wanted (g.B.Blocks.state c.args.on.now) c.args.dir c.args.leaf c.in-Some.wanted c.requires.dir c.in-Some.ensures.is.0

pub ready_leaf-requires-clause-holder : goal.ready_leaf-requires-clause-holder
ready_leaf-requires-clause-holder g c =
    let s = g.B.Blocks.state c.args.on.now in
    let m = g.B.Blocks.state c.trim_records.new.on in
    let w = c.in-Some.wanted in
    let is = c.in-Some.ensures.is.0 in
    let x = alters_records s m c.args.dir c.args.leaf w is c.trim_records.ensures.alters in
    records_holder m c.args.dir c.args.leaf w (dir_on s m c.args.dir _ (g.met.B.Blocks.keeps_all c.args.on.now c.trim_records.new.on c.trim_records.ensures.keeps) x c.requires.dir) is

pub ready_leaf-requires-clause-wanted : goal.ready_leaf-requires-clause-wanted
ready_leaf-requires-clause-wanted g c = records_wanted (g.B.Blocks.state c.args.on.now) c.args.dir c.args.leaf c.in-Some.wanted c.requires.dir c.in-Some.ensures.is.0

pub returns-in-Ok-ready_leaf-clause-own : goal.returns-in-Ok-ready_leaf-clause-own
returns-in-Ok-ready_leaf-clause-own g c =
    let w = c.in-Some.wanted in
    let is = c.in-Some.ensures.is.0 in
    own_as (g.B.Blocks.state c.ready_leaf.new.on) w.tag _ c.in-Ok-ready_leaf.at w.is_dir _ is.tag is.kind c.in-Ok-ready_leaf.ensures.own

pub returns-in-Ok-ready_leaf-clause-apart : goal.returns-in-Ok-ready_leaf-clause-apart
returns-in-Ok-ready_leaf-clause-apart g c =
    let s = g.B.Blocks.state c.args.on.now in
    let m = g.B.Blocks.state c.trim_records.new.on in
    let u = g.B.Blocks.state c.ready_leaf.new.on in
    let w = c.in-Some.wanted in
    let is = c.in-Some.ensures.is.0 in
    let x = alters_records s m c.args.dir c.args.leaf w is c.trim_records.ensures.alters in
    leaf_apart m u c.args.dir w c.in-Ok-ready_leaf.at (dir_on s m c.args.dir _ (g.met.B.Blocks.keeps_all c.args.on.now c.trim_records.new.on c.trim_records.ensures.keeps) x c.requires.dir) is.at_is (alters_records m u c.args.dir c.args.leaf w is c.ready_leaf.ensures.alters) c.in-Ok-ready_leaf.ensures.apart c.in-Ok-ready_leaf.ensures.own

pub returns-in-Ok-ready_leaf-clause-readied : goal.returns-in-Ok-ready_leaf-clause-readied
returns-in-Ok-ready_leaf-clause-readied g c =
    let s = g.B.Blocks.state c.args.on.now in
    let m = g.B.Blocks.state c.trim_records.new.on in
    let w = c.in-Some.wanted in
    let is = c.in-Some.ensures.is.0 in
    record {
      wanted = w;
      is_wanted = is;
      trimmed = c.trim_records.new.on;
      trims = alters_records s m c.args.dir c.args.leaf w is c.trim_records.ensures.alters;
      looked = c.in-Ok-ready_leaf.ensures.readied.0;
      ready = c.in-Ok-ready_leaf.ensures.readied.1;
    }

pub returns-in-Ok-ready_leaf-clause-alters : goal.returns-in-Ok-ready_leaf-clause-alters
returns-in-Ok-ready_leaf-clause-alters g c =
    let s = g.B.Blocks.state c.args.on.now in
    let m = g.B.Blocks.state c.trim_records.new.on in
    let w = c.in-Some.wanted in
    let is = c.in-Some.ensures.is.0 in
    let first = alters_records s m c.args.dir c.args.leaf w is c.trim_records.ensures.alters in
    let u = g.B.Blocks.state c.ready_leaf.new.on in
    alters_joins (g.met.B.Blocks.keeps_all c.args.on.now c.trim_records.new.on c.trim_records.ensures.keeps) first (alters_records m u c.args.dir c.args.leaf w is c.ready_leaf.ensures.alters)

pub returns-in-Err-ready_leaf-clause-alters : goal.returns-in-Err-ready_leaf-clause-alters
returns-in-Err-ready_leaf-clause-alters g c =
    let s = g.B.Blocks.state c.args.on.now in
    let m = g.B.Blocks.state c.trim_records.new.on in
    let w = c.in-Some.wanted in
    let is = c.in-Some.ensures.is.0 in
    let first = alters_records s m c.args.dir c.args.leaf w is c.trim_records.ensures.alters in
    let u = g.B.Blocks.state c.ready_leaf.new.on in
    alters_joins (g.met.B.Blocks.keeps_all c.args.on.now c.trim_records.new.on c.trim_records.ensures.keeps) first (alters_records m u c.args.dir c.args.leaf w is c.ready_leaf.ensures.alters)

pub returns-in-Err-clause-alters : goal.returns-in-Err-clause-alters
returns-in-Err-clause-alters g c =
    let s = g.B.Blocks.state c.args.on.now in
    let m = g.B.Blocks.state c.trim_records.new.on in
    let w = c.in-Some.wanted in
    let is = c.in-Some.ensures.is.0 in
    let first = alters_records s m c.args.dir c.args.leaf w is c.trim_records.ensures.alters in
    first

pub returns-in_default-clause-alters : goal.returns-in_default-clause-alters
returns-in_default-clause-alters g c = same_alters (g.B.Blocks.state c.args.on.now) c.args.dir

pub returns-in-Err-ready_leaf-clause-cause : goal.returns-in-Err-ready_leaf-clause-cause
returns-in-Err-ready_leaf-clause-cause g c = caused_after (g.B.Blocks.state c.args.on.now) (g.B.Blocks.state c.trim_records.new.on) (g.B.Blocks.state c.ready_leaf.new.on) (g.met.B.Blocks.keeps_all c.args.on.now c.trim_records.new.on c.trim_records.ensures.keeps) (g.met.B.Blocks.keeps_all c.trim_records.new.on c.ready_leaf.new.on c.ready_leaf.ensures.keeps) c.in-Err-ready_leaf.why c.in-Err-ready_leaf.ensures.cause

pub returns-in-Ok-ready_leaf-clause-dirties : goal.returns-in-Ok-ready_leaf-clause-dirties
returns-in-Ok-ready_leaf-clause-dirties g c =
    let leaf = subst (λ a. AddsDirty 20 (a ∷ []) c.in-Ok-ready_leaf.at (g.B.Blocks.state c.trim_records.new.on) (g.B.Blocks.state c.ready_leaf.new.on)) c.in-Some.ensures.is.0.at_is c.in-Ok-ready_leaf.ensures.dirties in
    adds_joins (subst (λ a. AddsDirty 8 (a ∷ []) a (g.B.Blocks.state c.args.on.now) (g.B.Blocks.state c.trim_records.new.on)) c.in-Some.ensures.is.0.at_is c.trim_records.ensures.dirties) leaf (cons_of first_of none_of)

pub returns-in-Err-ready_leaf-clause-dirties_refused : goal.returns-in-Err-ready_leaf-clause-dirties_refused
returns-in-Err-ready_leaf-clause-dirties_refused g c = adds_more (omega arith) (adds_still (subst (λ a. AddsDirty 8 (a ∷ []) a (g.B.Blocks.state c.args.on.now) (g.B.Blocks.state c.trim_records.new.on)) c.in-Some.ensures.is.0.at_is c.trim_records.ensures.dirties) (dirties_looks (g.met.B.Blocks.keeps_all c.trim_records.new.on c.ready_leaf.new.on c.ready_leaf.ensures.keeps) c.in-Err-ready_leaf.ensures.nothing))

pub returns-in-Err-clause-dirties_refused : goal.returns-in-Err-clause-dirties_refused
returns-in-Err-clause-dirties_refused g c = adds_more (omega arith) (subst (λ a. AddsDirty 8 (a ∷ []) a (g.B.Blocks.state c.args.on.now) (g.B.Blocks.state c.trim_records.new.on)) c.in-Some.ensures.is.0.at_is c.trim_records.ensures.dirties)

pub returns-in_default-clause-dirties_refused : goal.returns-in_default-clause-dirties_refused
returns-in_default-clause-dirties_refused g c = adds_idle 28 first_of (dirties_at_once (g.B.Blocks.state c.args.on.now) [])
