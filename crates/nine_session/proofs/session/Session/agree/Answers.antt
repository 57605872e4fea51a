use Rattle.std.proofs.Common.{ap, ◌∙◌, refl, inr, arith}
use Rattle.fo_world.specs.declared.error.FileError.TheVariants as failure
use Rattle.nine_fids.specs.Fids.{restarted}
use Rattle.nine_session.specs.Attempting.{state}
use Rattle.nine_session.proofs.Starts.{answer_fits, version_agreed, version_small}
use Rattle.nine_session.proofs.session.Session.agree.Goals as goal

pub returns-then-msize-lt-LEAST-clause-attempts : goal.returns-then-msize-lt-LEAST-clause-attempts
returns-then-msize-lt-LEAST-clause-attempts c = λ w.
    rw (version_small (state c.args.self.now c.args.exclusive.now.items w) c.args.msize c.args.version.now c.if-msize-lt-LEAST.true, c.new.ensures, c.restart.ensures w) refl

pub returns-in_default-clause-attempts : goal.returns-in_default-clause-attempts
returns-in_default-clause-attempts c = λ w.
    (inr (failure.Memory, refl, refl), c.restart-in_default.ensures w ∙ ap (λ m. restarted (state c.args.self.now c.args.exclusive.now.items w) m) (ap (λ s. s.msize) c.self.view_is))

pub returns-clause-attempts : goal.returns-clause-attempts
returns-clause-attempts c = λ w.
    rw (version_agreed (state c.args.self.now c.args.exclusive.now.items w) c.args.msize c.args.version.now c.if-msize-lt-LEAST.false, c.restart-2.ensures w, c.agreed_size.ensures, c.in-Ok.ensures, c.answer_text.ensures, c.is_known-known.ensures, c.as_slice.ensures, c.min-msize.ensures) refl

pub returns-clause-sends : goal.returns-clause-sends
returns-clause-sends c =
    (rw (c.in-Ok.ensures, c.answer_text.ensures) (answer_fits c.is_known-known.result), omega (arith, c.min-msize.ensures))
