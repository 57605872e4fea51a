use Rattle.std.proofs.Common.{◌≡◌, ◌⊎◌, [], sym, subst}
use Rattle.fo_disk.specs.Disk.{DiskState, IsContent}
use Rattle.fo_check.specs.Answer.{IsOutside}
use Rattle.fo_starting.proofs.Exits.{main_outside}
use Rattle.fo_starting.proofs.opening.open_both.Goals as goal

pub returns-in-Ok-open-clause-opened : goal.returns-in-Ok-open-clause-opened
returns-in-Ok-open-clause-opened g c =
    rw (c.new.ensures.cache, c.new.ensures.arena)
    (record { opens = c.in-Ok-open.ensures.opens; main_is = c.in-Ok-open.ensures.state; vault_opens = c.in-Ok.ensures.answer; stored_is = c.in-Ok.ensures.kept })

pub returns-in-Err-open-clause-outside : goal.returns-in-Err-open-clause-outside
returns-in-Err-open-clause-outside g c = λ image vault s root shows vaults may.
    let size = g.D.Disk.size c.in-Err-open.refused.main in
    let content = subst (λ (d : DiskState). (d.holds ≡ []) ⊎ IsContent size d.holds) c.in-Err-open.ensures.state (g.met.D.Disk.is_content c.in-Err-open.refused.main) in
    subst IsOutside (sym c.main_why.ensures)
    (main_outside (g.D.Disk.state c.args.main).holds image vault s root (g.D.Disk.size c.args.main) size c.in-Err-open.refused.why shows content c.requires.size c.in-Err-open.ensures.fixed c.in-Err-open.ensures.refuses may)
