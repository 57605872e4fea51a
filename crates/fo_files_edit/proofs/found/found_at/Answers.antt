use Rattle.std.proofs.Common.{inl, inr, sym, ◌∙◌}
use Rattle.fo_looks.proofs.Looks.{looks_joins}
use Rattle.fo_files_into.proofs.of_files_at.Ways.{way_stays}
use Rattle.fo_files_edit.specs.Asks.{changes_nothing}
use Rattle.fo_files_edit.proofs.Refusing.{not_true, not_false}
use Rattle.fo_files_edit.proofs.found.found_at.Goals as goal

pub returns-in-Err-clause-refused : goal.returns-in-Err-clause-refused
returns-in-Err-clause-refused g c = inl c.in-Err.ensures.unfound

pub sought-requires-clause-silent : goal.sought-requires-clause-silent
sought-requires-clause-silent g c = λ h. c.requires.may.silent ((g.met.B.Blocks.keeps_all c.args.on.now c.way_at.new.on c.way_at.ensures.looks.1).still_tells.0 h)

pub ready_way-requires-clause-way : goal.ready_way-requires-clause-way
ready_way-requires-clause-way g c =
    way_stays (g.B.Blocks.state c.way_at.new.on) (g.B.Blocks.state c.sought.new.on) c.args.root c.args.at.now.trail c.in-Ok.way (g.met.B.Blocks.keeps_all c.way_at.new.on c.sought.new.on c.sought.ensures.looks.1) c.in-Ok.ensures.way

pub returns-in-Ok-ready_way-clause-other : goal.returns-in-Ok-ready_way-clause-other
returns-in-Ok-ready_way-clause-other g c =
    let keeps = g.met.B.Blocks.keeps_joins c.way_at.new.on c.sought.new.on c.ready_way.new.on c.sought.ensures.looks.1 c.ready_way.ensures.looks.1 in
    let w = c.in-Ok.way in
    record {
      way = w;
      found = way_stays (g.B.Blocks.state c.way_at.new.on) (g.B.Blocks.state c.ready_way.new.on) c.args.root c.args.at.now.trail w (g.met.B.Blocks.keeps_all c.way_at.new.on c.ready_way.new.on keeps) c.in-Ok.ensures.way;
      active = c.in-Ok-true.ensures.granted.0;
      other = not_true (changes_nothing c.args.what.now w.file.named.name w.file.dir) (sym c.in-Ok-true.field-0-test ∙ c.in-Ok-true.ensures.changes);
      awake = c.in-Ok-true.ensures.awake c.in-Ok-true.field-0-test;
      within = c.in-Ok-true.ensures.granted.1;
      same_steps = c.in-Ok-ready_way.ensures.is.0;
      new_is = c.in-Ok-ready_way.ensures.is.1;
      name_is = c.in-Ok-ready_way.ensures.is.2;
      is_way = c.in-Ok-ready_way.ensures.way;
    }

pub returns-in-Ok-false-clause-same : goal.returns-in-Ok-false-clause-same
returns-in-Ok-false-clause-same g c = λ none.
    let w = c.in-Ok.way in (
      w,
      way_stays (g.B.Blocks.state c.way_at.new.on) (g.B.Blocks.state c.sought.new.on) c.args.root c.args.at.now.trail w (g.met.B.Blocks.keeps_all c.way_at.new.on c.sought.new.on c.sought.ensures.looks.1) c.in-Ok.ensures.way,
      c.in-Ok-false.ensures.granted.0,
      not_false (changes_nothing c.args.what.now w.file.named.name w.file.dir) (sym c.in-Ok-false.field-0-test ∙ c.in-Ok-false.ensures.changes),
    )

pub returns-in-Err-sought-clause-refused : goal.returns-in-Err-sought-clause-refused
returns-in-Err-sought-clause-refused g c = inr (c.way_at.new.on, c.in-Ok.way, c.in-Ok.ensures.way, c.in-Err-sought.ensures.refused)

pub returns-in-Ok-ready_way-clause-looks : goal.returns-in-Ok-ready_way-clause-looks
returns-in-Ok-ready_way-clause-looks g c =
    let first = c.way_at.ensures.looks in
    let second = c.sought.ensures.looks in
    let last = c.ready_way.ensures.looks in (
      looks_joins (g.met.B.Blocks.keeps_all c.args.on.now c.way_at.new.on first.1) first.0 (looks_joins (g.met.B.Blocks.keeps_all c.way_at.new.on c.sought.new.on second.1) second.0 last.0),
      g.met.B.Blocks.keeps_joins c.args.on.now c.way_at.new.on c.ready_way.new.on first.1 (g.met.B.Blocks.keeps_joins c.way_at.new.on c.sought.new.on c.ready_way.new.on second.1 last.1),
    )

pub returns-in-Err-ready_way-clause-looks : goal.returns-in-Err-ready_way-clause-looks
returns-in-Err-ready_way-clause-looks g c =
    let first = c.way_at.ensures.looks in
    let second = c.sought.ensures.looks in
    let last = c.ready_way.ensures.looks in (
      looks_joins (g.met.B.Blocks.keeps_all c.args.on.now c.way_at.new.on first.1) first.0 (looks_joins (g.met.B.Blocks.keeps_all c.way_at.new.on c.sought.new.on second.1) second.0 last.0),
      g.met.B.Blocks.keeps_joins c.args.on.now c.way_at.new.on c.ready_way.new.on first.1 (g.met.B.Blocks.keeps_joins c.way_at.new.on c.sought.new.on c.ready_way.new.on second.1 last.1),
    )

pub returns-in-Ok-false-clause-looks : goal.returns-in-Ok-false-clause-looks
returns-in-Ok-false-clause-looks g c =
    let first = c.way_at.ensures.looks in
    let second = c.sought.ensures.looks in (
      looks_joins (g.met.B.Blocks.keeps_all c.args.on.now c.way_at.new.on first.1) first.0 second.0,
      g.met.B.Blocks.keeps_joins c.args.on.now c.way_at.new.on c.sought.new.on first.1 second.1,
    )

pub returns-in-Err-sought-clause-looks : goal.returns-in-Err-sought-clause-looks
returns-in-Err-sought-clause-looks g c =
    let first = c.way_at.ensures.looks in
    let second = c.sought.ensures.looks in (
      looks_joins (g.met.B.Blocks.keeps_all c.args.on.now c.way_at.new.on first.1) first.0 second.0,
      g.met.B.Blocks.keeps_joins c.args.on.now c.way_at.new.on c.sought.new.on first.1 second.1,
    )
