use Rattle.std.proofs.Common.{◌≡◌, Bool, true, refl, sym, ◌∙◌, ap, subst}
use Rattle.std.specs.Prelude.{Result, is_err, not}
use Rattle.std.proofs.lemmas.Result.{err_from_is_err_and}
use Rattle.fo_cells.specs.Device.{Stepped}
use Rattle.fo_cells.specs.Buffers.{mind_of, note}
use Rattle.fo_cells.proofs.Calls.{may_write}
use Rattle.fo_cells.proofs.Buffering.{all_grown}
use Rattle.fo_cells.proofs.buffers.Buffers.flush_ready.Goals as goal

pub returns-then-not-are_grown-clause-step : goal.returns-then-not-are_grown-clause-step
returns-then-not-are_grown-clause-step g c = λ rest written here may. absurd (written refl)

pub returns-in_err-flush-clause-step : goal.returns-in_err-flush-clause-step
returns-in_err-flush-clause-step g c = λ rest written here may.
    let all = c.args.self.now.all.items in
    let grown = all_grown all c.args.targets.now (sym c.are_grown.ensures ∙ c.if-not-are_grown.false) in
    let step = c.flush.ensures.step rest here (may_write may grown) in
    let was : is_err c.flush.result ≡ true = ap is_err c.in_err-flush.was in
    let is : is_err c.from_residual.result ≡ true = ap is_err (err_from_is_err_and c.from_residual.result c.from_residual.ensures.1).1 in
    subst (λ (v : Bool). Stepped (mind_of rest all) (mind_of (note c.args.at (not v) rest) c.flush.new.self.all.items) (g.D.Disk.state c.args.disk.now).unsure (g.D.Disk.state c.flush.new.disk).unsure (g.D.Disk.state c.args.disk.now).holds (g.D.Disk.state c.flush.new.disk).holds) (was ∙ sym is) step

pub returns-clause-step : goal.returns-clause-step
returns-clause-step g c = λ rest written here may.
    let all = c.args.self.now.all.items in
    let grown = all_grown all c.args.targets.now (sym c.are_grown.ensures ∙ c.if-not-are_grown.false) in
    let step = c.flush.ensures.step rest here (may_write may grown) in
    subst (λ (r : Result Unit _). Stepped (mind_of rest all) (mind_of (note c.args.at (not (is_err r)) rest) c.flush.new.self.all.items) (g.D.Disk.state c.args.disk.now).unsure (g.D.Disk.state c.flush.new.disk).unsure (g.D.Disk.state c.args.disk.now).holds (g.D.Disk.state c.flush.new.disk).holds) c.in_ok-flush.was step
