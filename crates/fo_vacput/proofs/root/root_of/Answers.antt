use Rattle.std.proofs.Common.{◌∙◌, ap, refl, ℕ, arith}
use Rattle.std.proofs.lemmas.Option.{same_Some}
use Rattle.fo_vacput.proofs.Entries.{same_score}
use Rattle.fo_vacput.proofs.Roots.{root_at}
use Rattle.fo_vacput.proofs.root.root_of.Goals as goal

pub returns-in_err-epoch : goal.returns-in_err-epoch
returns-in_err-epoch c = λ r s.
    let at = root_at c.args.bytes.now r s in
    let h = c.in_err-epoch.ensures r.epoch r.time (let e = s.holds.epoch_is.1 in omega (arith, e)) s.holds.time_fits at.name in
    absurd (cc)

pub returns : goal.returns
returns c = λ r s.
    let at = root_at c.args.bytes.now r s in
    let times = c.in_ok-epoch.ensures r.epoch r.time (let e = s.holds.epoch_is.1 in omega (arith, e)) s.holds.time_fits at.name in
    let top = same_score c.score_at.result r.top (c.score_at.ensures ∙ at.top) in
    let prev = c.prev_at.ensures r.prev s.holds.prev_is at.prev in
    let pair = same_Some _ _ times in
    rw (ap (λ (p : ℕ × ℕ). p.0) pair, ap (λ (p : ℕ × ℕ). p.1) pair, top, prev) refl
