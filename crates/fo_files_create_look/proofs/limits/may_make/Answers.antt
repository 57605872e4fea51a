use Rattle.std.proofs.Common.{true, subst}
use Rattle.fo_looks.proofs.Looks.{looks_joins}
use Rattle.fo_files_along.proofs.of_files_look.Telling.{cause_since}
use Rattle.fo_files_create_look.specs.Refused.{IsRefused}
use Rattle.fo_files_create_look.proofs.Refusing.{at_on}
use Rattle.fo_files_create_look.proofs.limits.may_make.Goals as goal

pub returns-in-Err-clause-refused : goal.returns-in-Err-clause-refused
returns-in-Err-clause-refused g c =
    subst (λ n. IsRefused g.B.Blocks.state c.args.root c.args.at.now n c.args.named.now.mode c.args.halted ⊥ ⊥ c.in-Err.why) c.as_slice.ensures (c.in-Err.ensures.refused c.args.named.now.mode c.args.halted)

pub takes_more-requires-clause-dir : goal.takes_more-requires-clause-dir
takes_more-requires-clause-dir g c =
    at_on (g.B.Blocks.state c.args.on.now) (g.B.Blocks.state c.is_free.new.on) c.args.root c.args.at.now.trail true c.args.dir.now (g.met.B.Blocks.keeps_all c.args.on.now c.is_free.new.on c.is_free.ensures.looks.1) c.requires.dir

pub returns-in-Ok-takes_more-clause-looks : goal.returns-in-Ok-takes_more-clause-looks
returns-in-Ok-takes_more-clause-looks g c = (
  looks_joins (g.met.B.Blocks.keeps_all c.args.on.now c.is_free.new.on c.is_free.ensures.looks.1) c.is_free.ensures.looks.0 c.takes_more.ensures.looks.0,
  g.met.B.Blocks.keeps_joins c.args.on.now c.is_free.new.on c.takes_more.new.on c.is_free.ensures.looks.1 c.takes_more.ensures.looks.1,
)

pub returns-in-Err-takes_more-clause-refused : goal.returns-in-Err-takes_more-clause-refused
returns-in-Err-takes_more-clause-refused g c = c.in-Err-takes_more.ensures.refused c.args.named.now.name c.args.named.now.mode c.args.halted c.in-Ok-within_limits.ensures

pub returns-in-Err-takes_more-clause-looks : goal.returns-in-Err-takes_more-clause-looks
returns-in-Err-takes_more-clause-looks g c = (
  looks_joins (g.met.B.Blocks.keeps_all c.args.on.now c.is_free.new.on c.is_free.ensures.looks.1) c.is_free.ensures.looks.0 c.takes_more.ensures.looks.0,
  g.met.B.Blocks.keeps_joins c.args.on.now c.is_free.new.on c.takes_more.new.on c.is_free.ensures.looks.1 c.takes_more.ensures.looks.1,
)

pub returns-in-Err-takes_more-clause-cause : goal.returns-in-Err-takes_more-clause-cause
returns-in-Err-takes_more-clause-cause g c = cause_since (g.B.Blocks.state c.args.on.now) (g.B.Blocks.state c.is_free.new.on) (g.B.Blocks.state c.takes_more.new.on) (g.met.B.Blocks.keeps_all c.args.on.now c.is_free.new.on c.is_free.ensures.looks.1) c.in-Err-takes_more.why c.in-Err-takes_more.ensures.cause
