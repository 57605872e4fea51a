use Rattle.fo_files_request.proofs.Refusing.{told_refused, told_cause}
use Rattle.fo_files_request.proofs.found.unwritten.Goals as goal

pub returns-in-Err-told-clause-refused : goal.returns-in-Err-told-clause-refused
returns-in-Err-told-clause-refused g c = λ view offset n halted is. told_refused view offset n halted _ _ c.args.bar c.in-Err-told.why (let f = c.in-Ok.ensures.found in (c.seen.new.on, f.0, f.1, f.2)) is c.in-Err-told.ensures.told

pub returns-in-Err-told-clause-cause : goal.returns-in-Err-told-clause-cause
returns-in-Err-told-clause-cause g c = told_cause (g.B.Blocks.state c.args.on.now) (g.B.Blocks.state c.seen.new.on) (λ n. ⊥) 0 c.args.bar c.in-Err-told.why c.in-Err-told.ensures.told

pub returns-in-Err-clause-refused : goal.returns-in-Err-clause-refused
returns-in-Err-clause-refused g c = λ view offset n halted is. c.in-Err.ensures.refused view offset n halted
