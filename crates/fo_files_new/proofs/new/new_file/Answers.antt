use Rattle.std.proofs.Common.{inl}
use Rattle.fo_files_leaf.proofs.Altering.{alters_joins}
use Rattle.fo_files_new.proofs.Dirs.{dir_on, alters_leaves}
use Rattle.fo_files_new.proofs.Putting.{look_alters, caused_after, caused_wider}
use Rattle.fo_files_new.proofs.new.new_file.Goals as goal
use Rattle.fo_dirties.proofs.Adding.{dirties_after, dirties_idle}
use Rattle.fo_files_new.proofs.Dirtying.{leaves_then}

pub settle_for-requires-clause-dir : goal.settle_for-requires-clause-dir
settle_for-requires-clause-dir g c = (dir_on (g.B.Blocks.state c.args.on.now) (g.B.Blocks.state c.ready_both.new.on) c.args.dir _ (g.met.B.Blocks.keeps_all c.args.on.now c.ready_both.new.on c.ready_both.ensures.keeps) c.ready_both.ensures.alters c.requires.dir)

pub put_new-requires-clause-dir : goal.put_new-requires-clause-dir
put_new-requires-clause-dir g c = (dir_on (g.B.Blocks.state c.ready_both.new.on) (g.B.Blocks.state c.settle_for.new.on) c.args.dir _ (g.met.B.Blocks.keeps_all c.ready_both.new.on c.settle_for.new.on c.settle_for.ensures.keeps) c.settle_for.ensures.alters (dir_on (g.B.Blocks.state c.args.on.now) (g.B.Blocks.state c.ready_both.new.on) c.args.dir _ (g.met.B.Blocks.keeps_all c.args.on.now c.ready_both.new.on c.ready_both.ensures.keeps) c.ready_both.ensures.alters c.requires.dir))

pub returns-in-Ok-put_new-clause-new : goal.returns-in-Ok-put_new-clause-new
returns-in-Ok-put_new-clause-new g c =
    record {
      leaves = c.in-Ok.leaves;
      readied = c.ready_both.new.on;
      ready = c.in-Ok.ensures.readied;
      settled = c.settle_for.new.on;
      settles = c.settle_for.ensures.alters;
      in_place = c.in-Ok-settle_for.ensures.in_place;
      looked = c.in-Ok-put_new.ensures.put.0;
      put = c.in-Ok-put_new.ensures.put.1;
    }

pub returns-in-Ok-put_new-clause-alters : goal.returns-in-Ok-put_new-clause-alters
returns-in-Ok-put_new-clause-alters g c =
    let put = c.in-Ok-put_new.ensures.put.1 in
    (c.in-Ok.leaves, alters_joins (g.met.B.Blocks.keeps_all c.args.on.now c.ready_both.new.on c.ready_both.ensures.keeps) (alters_leaves (g.B.Blocks.state c.args.on.now) (g.B.Blocks.state c.ready_both.new.on) c.args.dir c.in-Ok.leaves c.ready_both.ensures.alters) (alters_joins (g.met.B.Blocks.keeps_all c.ready_both.new.on c.settle_for.new.on c.settle_for.ensures.keeps) (alters_leaves (g.B.Blocks.state c.ready_both.new.on) (g.B.Blocks.state c.settle_for.new.on) c.args.dir c.in-Ok.leaves c.settle_for.ensures.alters) put.alters), put.own)

pub returns-in-Ok-put_new-clause-dir : goal.returns-in-Ok-put_new-clause-dir
returns-in-Ok-put_new-clause-dir g c = dir_on (g.B.Blocks.state c.settle_for.new.on) (g.B.Blocks.state c.put_new.new.on) c.args.dir _ (g.met.B.Blocks.keeps_all c.settle_for.new.on c.put_new.new.on c.put_new.ensures.keeps) c.in-Ok-put_new.ensures.put.1.alters (dir_on (g.B.Blocks.state c.ready_both.new.on) (g.B.Blocks.state c.settle_for.new.on) c.args.dir _ (g.met.B.Blocks.keeps_all c.ready_both.new.on c.settle_for.new.on c.settle_for.ensures.keeps) c.settle_for.ensures.alters (dir_on (g.B.Blocks.state c.args.on.now) (g.B.Blocks.state c.ready_both.new.on) c.args.dir _ (g.met.B.Blocks.keeps_all c.args.on.now c.ready_both.new.on c.ready_both.ensures.keeps) c.ready_both.ensures.alters c.requires.dir))

pub returns-in-Err-put_new-clause-dir : goal.returns-in-Err-put_new-clause-dir
returns-in-Err-put_new-clause-dir g c =
    dir_on (g.B.Blocks.state c.settle_for.new.on) (g.B.Blocks.state c.put_new.new.on) c.args.dir _ (g.met.B.Blocks.keeps_all c.settle_for.new.on c.put_new.new.on c.put_new.ensures.keeps) (look_alters (g.B.Blocks.state c.settle_for.new.on) (g.B.Blocks.state c.put_new.new.on) c.args.dir (dir_on (g.B.Blocks.state c.ready_both.new.on) (g.B.Blocks.state c.settle_for.new.on) c.args.dir _ (g.met.B.Blocks.keeps_all c.ready_both.new.on c.settle_for.new.on c.settle_for.ensures.keeps) c.settle_for.ensures.alters (dir_on (g.B.Blocks.state c.args.on.now) (g.B.Blocks.state c.ready_both.new.on) c.args.dir _ (g.met.B.Blocks.keeps_all c.args.on.now c.ready_both.new.on c.ready_both.ensures.keeps) c.ready_both.ensures.alters c.requires.dir)).pair.is_pinned c.in-Err-put_new.ensures.nothing) (dir_on (g.B.Blocks.state c.ready_both.new.on) (g.B.Blocks.state c.settle_for.new.on) c.args.dir _ (g.met.B.Blocks.keeps_all c.ready_both.new.on c.settle_for.new.on c.settle_for.ensures.keeps) c.settle_for.ensures.alters (dir_on (g.B.Blocks.state c.args.on.now) (g.B.Blocks.state c.ready_both.new.on) c.args.dir _ (g.met.B.Blocks.keeps_all c.args.on.now c.ready_both.new.on c.ready_both.ensures.keeps) c.ready_both.ensures.alters c.requires.dir))

pub returns-in-Err-settle_for-clause-dir : goal.returns-in-Err-settle_for-clause-dir
returns-in-Err-settle_for-clause-dir g c = (dir_on (g.B.Blocks.state c.ready_both.new.on) (g.B.Blocks.state c.settle_for.new.on) c.args.dir _ (g.met.B.Blocks.keeps_all c.ready_both.new.on c.settle_for.new.on c.settle_for.ensures.keeps) c.settle_for.ensures.alters (dir_on (g.B.Blocks.state c.args.on.now) (g.B.Blocks.state c.ready_both.new.on) c.args.dir _ (g.met.B.Blocks.keeps_all c.args.on.now c.ready_both.new.on c.ready_both.ensures.keeps) c.ready_both.ensures.alters c.requires.dir))

pub returns-in-Err-clause-dir : goal.returns-in-Err-clause-dir
returns-in-Err-clause-dir g c = (dir_on (g.B.Blocks.state c.args.on.now) (g.B.Blocks.state c.ready_both.new.on) c.args.dir _ (g.met.B.Blocks.keeps_all c.args.on.now c.ready_both.new.on c.ready_both.ensures.keeps) c.ready_both.ensures.alters c.requires.dir)

pub returns-in-Err-settle_for-clause-nothing : goal.returns-in-Err-settle_for-clause-nothing
returns-in-Err-settle_for-clause-nothing g c = alters_joins (g.met.B.Blocks.keeps_all c.args.on.now c.ready_both.new.on c.ready_both.ensures.keeps) c.ready_both.ensures.alters c.settle_for.ensures.alters

pub returns-in-Err-put_new-clause-nothing : goal.returns-in-Err-put_new-clause-nothing
returns-in-Err-put_new-clause-nothing g c =
    alters_joins (g.met.B.Blocks.keeps_all c.args.on.now c.ready_both.new.on c.ready_both.ensures.keeps) c.ready_both.ensures.alters (alters_joins (g.met.B.Blocks.keeps_all c.ready_both.new.on c.settle_for.new.on c.settle_for.ensures.keeps) c.settle_for.ensures.alters (look_alters (g.B.Blocks.state c.settle_for.new.on) (g.B.Blocks.state c.put_new.new.on) c.args.dir (dir_on (g.B.Blocks.state c.ready_both.new.on) (g.B.Blocks.state c.settle_for.new.on) c.args.dir _ (g.met.B.Blocks.keeps_all c.ready_both.new.on c.settle_for.new.on c.settle_for.ensures.keeps) c.settle_for.ensures.alters (dir_on (g.B.Blocks.state c.args.on.now) (g.B.Blocks.state c.ready_both.new.on) c.args.dir _ (g.met.B.Blocks.keeps_all c.args.on.now c.ready_both.new.on c.ready_both.ensures.keeps) c.ready_both.ensures.alters c.requires.dir)).pair.is_pinned c.in-Err-put_new.ensures.nothing))

pub returns-in-Err-settle_for-clause-cause : goal.returns-in-Err-settle_for-clause-cause
returns-in-Err-settle_for-clause-cause g c =
    caused_after (g.B.Blocks.state c.args.on.now) (g.B.Blocks.state c.ready_both.new.on) (g.B.Blocks.state c.settle_for.new.on) (g.met.B.Blocks.keeps_all c.args.on.now c.ready_both.new.on c.ready_both.ensures.keeps) (g.met.B.Blocks.keeps_all c.ready_both.new.on c.settle_for.new.on c.settle_for.ensures.keeps) c.in-Err-settle_for.why (caused_wider (g.B.Blocks.state c.ready_both.new.on) (g.B.Blocks.state c.settle_for.new.on) (λ x. ⊥) (λ x h. absurd h) c.in-Err-settle_for.why c.in-Err-settle_for.ensures.cause)

pub returns-in-Err-put_new-clause-cause : goal.returns-in-Err-put_new-clause-cause
returns-in-Err-put_new-clause-cause g c =
    caused_after (g.B.Blocks.state c.args.on.now) (g.B.Blocks.state c.settle_for.new.on) (g.B.Blocks.state c.put_new.new.on) (g.met.B.Blocks.keeps_all c.args.on.now c.settle_for.new.on (g.met.B.Blocks.keeps_joins c.args.on.now c.ready_both.new.on c.settle_for.new.on c.ready_both.ensures.keeps c.settle_for.ensures.keeps)) (g.met.B.Blocks.keeps_all c.settle_for.new.on c.put_new.new.on c.put_new.ensures.keeps) c.in-Err-put_new.why (caused_wider (g.B.Blocks.state c.settle_for.new.on) (g.B.Blocks.state c.put_new.new.on) (λ x. (g.B.Blocks.state c.settle_for.new.on).is_block x) (λ x h. inl h) c.in-Err-put_new.why c.in-Err-put_new.ensures.cause)

pub settle_for-requires-clause-silent : goal.settle_for-requires-clause-silent
settle_for-requires-clause-silent g c = λ h. c.requires.silent ((g.met.B.Blocks.keeps_all c.args.on.now c.ready_both.new.on c.ready_both.ensures.keeps).still_tells.0 h)

pub returns-in-Err-settle_for-clause-keeps : goal.returns-in-Err-settle_for-clause-keeps
returns-in-Err-settle_for-clause-keeps g c = g.met.B.Blocks.keeps_joins c.args.on.now c.ready_both.new.on c.settle_for.new.on c.ready_both.ensures.keeps c.settle_for.ensures.keeps

pub returns-in-Ok-put_new-clause-keeps : goal.returns-in-Ok-put_new-clause-keeps
returns-in-Ok-put_new-clause-keeps g c = g.met.B.Blocks.keeps_joins c.args.on.now c.settle_for.new.on c.put_new.new.on (g.met.B.Blocks.keeps_joins c.args.on.now c.ready_both.new.on c.settle_for.new.on c.ready_both.ensures.keeps c.settle_for.ensures.keeps) c.put_new.ensures.keeps

pub returns-in-Err-put_new-clause-keeps : goal.returns-in-Err-put_new-clause-keeps
returns-in-Err-put_new-clause-keeps g c = g.met.B.Blocks.keeps_joins c.args.on.now c.settle_for.new.on c.put_new.new.on (g.met.B.Blocks.keeps_joins c.args.on.now c.ready_both.new.on c.settle_for.new.on c.ready_both.ensures.keeps c.settle_for.ensures.keeps) c.put_new.ensures.keeps

pub returns-in-Err-clause-dirties : goal.returns-in-Err-clause-dirties
returns-in-Err-clause-dirties g c = c.in-Err.ensures.dirties_refused

pub returns-in-Err-settle_for-clause-dirties : goal.returns-in-Err-settle_for-clause-dirties
returns-in-Err-settle_for-clause-dirties g c = leaves_then c.in-Ok.ensures.dirties (dirties_idle c.settle_for.ensures.dirties)

pub returns-in-Ok-put_new-clause-dirties : goal.returns-in-Ok-put_new-clause-dirties
returns-in-Ok-put_new-clause-dirties g c = leaves_then c.in-Ok.ensures.dirties (dirties_after c.settle_for.ensures.dirties c.put_new.ensures.dirties)

pub returns-in-Err-put_new-clause-dirties : goal.returns-in-Err-put_new-clause-dirties
returns-in-Err-put_new-clause-dirties g c = leaves_then c.in-Ok.ensures.dirties (dirties_after c.settle_for.ensures.dirties c.put_new.ensures.dirties)

pub put_new-requires-clause-silent : goal.put_new-requires-clause-silent
put_new-requires-clause-silent g c = λ h.
    c.requires.silent ((g.met.B.Blocks.keeps_all c.args.on.now c.ready_both.new.on c.ready_both.ensures.keeps).still_tells.0
    ((g.met.B.Blocks.keeps_all c.ready_both.new.on c.settle_for.new.on c.settle_for.ensures.keeps).still_tells.0 h))
