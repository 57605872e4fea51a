use Rattle.std.proofs.Common.{◌≡◌, ◌+◌, ◌-◌, ◌*◌, take, drop, sym, subst, ◌∙◌, arith}
use Rattle.fo_vacput.specs.Vac.{SpellsVacEntry}
use Rattle.fo_vac_open.proofs.Entries.{entry_is_read}
use Rattle.fo_vac_walk.proofs.leaf.source_in.Goals as goal

pub returns-in-Ok : goal.returns-in-Ok
returns-in-Ok c =
    let from = 40 * c.args.i in
    let len : from + 40 - from ≡ 40 = omega arith in
    let spelled = subst (λ n. SpellsVacEntry c.in-Ok.entry (take n (drop from c.args.block.now))) len c.in-Ok.ensures.found in
    (c.new.ensures.holder, c.new.ensures.entry ∙ sym (entry_is_read (take 40 (drop from c.args.block.now)) c.in-Ok.entry spelled))
