use Rattle.fo_files_leaf.proofs.Altering.{alters_joins}
use Rattle.fo_files_new.proofs.Dirs.{entries_holder, entries_wanted, alters_entries, own_as, leaf_apart, same_alters, dir_on}
use Rattle.fo_files_new.proofs.Putting.{caused_after}
use Rattle.fo_files_new.proofs.pair.ready_entries.Goals as goal
use Rattle.fo_dirties.proofs.Adding.{adds_idle, first_of, adds_joins, adds_more, adds_still, cons_of, none_of}
use Rattle.fo_dirties.proofs.Putting.{dirties_looks, dirties_at_once}
use Rattle.std.proofs.Common.{inl, inr, ⊎_elim, subst, [], ◌∷◌, arith}
use Rattle.fo_ports.specs.Sources.{AddsDirty}

pub take_behind-requires-clause-holder : goal.take_behind-requires-clause-holder
take_behind-requires-clause-holder g c = entries_holder (g.B.Blocks.state c.args.on.now) c.args.dir c.args.pair c.in-Some.wanted c.requires.dir c.in-Some.ensures.is.0

pub take_behind-requires-clause-wanted : goal.take_behind-requires-clause-wanted
take_behind-requires-clause-wanted g c = entries_wanted (g.B.Blocks.state c.args.on.now) c.args.dir c.args.pair c.in-Some.wanted c.requires.dir c.in-Some.ensures.is.0

pub ready_leaf-requires-clause-holder : goal.ready_leaf-requires-clause-holder
ready_leaf-requires-clause-holder g c =
    let s = g.B.Blocks.state c.args.on.now in
    let m = g.B.Blocks.state c.take_behind.new.on in
    let w = c.in-Some.wanted in
    let is = c.in-Some.ensures.is.0 in
    let x = alters_entries s m c.args.dir c.args.pair w is c.take_behind.ensures.alters in
    entries_holder m c.args.dir c.args.pair w (dir_on s m c.args.dir _ (g.met.B.Blocks.keeps_all c.args.on.now c.take_behind.new.on c.take_behind.ensures.keeps) x c.requires.dir) is

pub ready_leaf-requires-clause-wanted : goal.ready_leaf-requires-clause-wanted
ready_leaf-requires-clause-wanted g c = entries_wanted (g.B.Blocks.state c.args.on.now) c.args.dir c.args.pair c.in-Some.wanted c.requires.dir c.in-Some.ensures.is.0

pub returns-in-Ok-ready_leaf-clause-own : goal.returns-in-Ok-ready_leaf-clause-own
returns-in-Ok-ready_leaf-clause-own g c =
    let w = c.in-Some.wanted in
    let is = c.in-Some.ensures.is.0 in
    own_as (g.B.Blocks.state c.ready_leaf.new.on) w.tag _ c.in-Ok-ready_leaf.leaf w.is_dir _ is.tag is.kind c.in-Ok-ready_leaf.ensures.own

pub returns-in-Ok-ready_leaf-clause-apart : goal.returns-in-Ok-ready_leaf-clause-apart
returns-in-Ok-ready_leaf-clause-apart g c =
    let s = g.B.Blocks.state c.args.on.now in
    let m = g.B.Blocks.state c.take_behind.new.on in
    let u = g.B.Blocks.state c.ready_leaf.new.on in
    let w = c.in-Some.wanted in
    let is = c.in-Some.ensures.is.0 in
    let x = alters_entries s m c.args.dir c.args.pair w is c.take_behind.ensures.alters in
    leaf_apart m u c.args.dir w c.in-Ok-ready_leaf.leaf (dir_on s m c.args.dir _ (g.met.B.Blocks.keeps_all c.args.on.now c.take_behind.new.on c.take_behind.ensures.keeps) x c.requires.dir) is.at_is (alters_entries m u c.args.dir c.args.pair w is c.ready_leaf.ensures.alters) c.in-Ok-ready_leaf.ensures.apart c.in-Ok-ready_leaf.ensures.own

pub returns-in-Ok-ready_leaf-clause-readied : goal.returns-in-Ok-ready_leaf-clause-readied
returns-in-Ok-ready_leaf-clause-readied g c =
    let s = g.B.Blocks.state c.args.on.now in
    let m = g.B.Blocks.state c.take_behind.new.on in
    let w = c.in-Some.wanted in
    let is = c.in-Some.ensures.is.0 in
    record {
      wanted = w;
      is_wanted = is;
      behind = c.take_behind.new.on;
      taken = record { alters = alters_entries s m c.args.dir c.args.pair w is c.take_behind.ensures.alters; taken = ⊎_elim inl (λ t. inr (w, is, t.0, t.1)) c.in-Ok.ensures.taken };
      looked = c.in-Ok-ready_leaf.ensures.readied.0;
      ready = c.in-Ok-ready_leaf.ensures.readied.1;
    }

pub returns-in-Ok-ready_leaf-clause-alters : goal.returns-in-Ok-ready_leaf-clause-alters
returns-in-Ok-ready_leaf-clause-alters g c =
    let s = g.B.Blocks.state c.args.on.now in
    let m = g.B.Blocks.state c.take_behind.new.on in
    let u = g.B.Blocks.state c.ready_leaf.new.on in
    let w = c.in-Some.wanted in
    let is = c.in-Some.ensures.is.0 in
    alters_joins (g.met.B.Blocks.keeps_all c.args.on.now c.take_behind.new.on c.take_behind.ensures.keeps) (alters_entries s m c.args.dir c.args.pair w is c.take_behind.ensures.alters) (alters_entries m u c.args.dir c.args.pair w is c.ready_leaf.ensures.alters)

pub returns-in-Err-ready_leaf-clause-alters : goal.returns-in-Err-ready_leaf-clause-alters
returns-in-Err-ready_leaf-clause-alters g c =
    let s = g.B.Blocks.state c.args.on.now in
    let m = g.B.Blocks.state c.take_behind.new.on in
    let u = g.B.Blocks.state c.ready_leaf.new.on in
    let w = c.in-Some.wanted in
    let is = c.in-Some.ensures.is.0 in
    alters_joins (g.met.B.Blocks.keeps_all c.args.on.now c.take_behind.new.on c.take_behind.ensures.keeps) (alters_entries s m c.args.dir c.args.pair w is c.take_behind.ensures.alters) (alters_entries m u c.args.dir c.args.pair w is c.ready_leaf.ensures.alters)

pub returns-in-Err-clause-alters : goal.returns-in-Err-clause-alters
returns-in-Err-clause-alters g c = alters_entries (g.B.Blocks.state c.args.on.now) (g.B.Blocks.state c.take_behind.new.on) c.args.dir c.args.pair c.in-Some.wanted c.in-Some.ensures.is.0 c.take_behind.ensures.alters

pub returns-in_default-clause-alters : goal.returns-in_default-clause-alters
returns-in_default-clause-alters g c = same_alters (g.B.Blocks.state c.args.on.now) c.args.dir

pub returns-in-Err-ready_leaf-clause-cause : goal.returns-in-Err-ready_leaf-clause-cause
returns-in-Err-ready_leaf-clause-cause g c = caused_after (g.B.Blocks.state c.args.on.now) (g.B.Blocks.state c.take_behind.new.on) (g.B.Blocks.state c.ready_leaf.new.on) (g.met.B.Blocks.keeps_all c.args.on.now c.take_behind.new.on c.take_behind.ensures.keeps) (g.met.B.Blocks.keeps_all c.take_behind.new.on c.ready_leaf.new.on c.ready_leaf.ensures.keeps) c.in-Err-ready_leaf.why c.in-Err-ready_leaf.ensures.cause

pub returns-in-Ok-ready_leaf-clause-dirties : goal.returns-in-Ok-ready_leaf-clause-dirties
returns-in-Ok-ready_leaf-clause-dirties g c =
    let leaf = subst (λ a. AddsDirty 20 (a ∷ []) c.in-Ok-ready_leaf.leaf (g.B.Blocks.state c.take_behind.new.on) (g.B.Blocks.state c.ready_leaf.new.on)) c.in-Some.ensures.is.0.at_is c.in-Ok-ready_leaf.ensures.dirties in
    adds_joins (subst (λ a. AddsDirty 0 (a ∷ []) a (g.B.Blocks.state c.args.on.now) (g.B.Blocks.state c.take_behind.new.on)) c.in-Some.ensures.is.0.at_is c.take_behind.ensures.dirties) leaf (cons_of first_of none_of)

pub returns-in-Err-ready_leaf-clause-dirties_refused : goal.returns-in-Err-ready_leaf-clause-dirties_refused
returns-in-Err-ready_leaf-clause-dirties_refused g c = adds_more (omega arith) (adds_still (subst (λ a. AddsDirty 0 (a ∷ []) a (g.B.Blocks.state c.args.on.now) (g.B.Blocks.state c.take_behind.new.on)) c.in-Some.ensures.is.0.at_is c.take_behind.ensures.dirties) (dirties_looks (g.met.B.Blocks.keeps_all c.take_behind.new.on c.ready_leaf.new.on c.ready_leaf.ensures.keeps) c.in-Err-ready_leaf.ensures.nothing))

pub returns-in-Err-clause-dirties_refused : goal.returns-in-Err-clause-dirties_refused
returns-in-Err-clause-dirties_refused g c = adds_more (omega arith) (subst (λ a. AddsDirty 0 (a ∷ []) a (g.B.Blocks.state c.args.on.now) (g.B.Blocks.state c.take_behind.new.on)) c.in-Some.ensures.is.0.at_is c.take_behind.ensures.dirties)

pub returns-in_default-clause-dirties_refused : goal.returns-in_default-clause-dirties_refused
returns-in_default-clause-dirties_refused g c = adds_idle 20 first_of (dirties_at_once (g.B.Blocks.state c.args.on.now) [])
