use Rattle.std.proofs.Common.{◌≡◌, ◌∙◌, ◌+◌, ◌-◌, refl, sym, arith, take, drop}
use Rattle.std.proofs.lemmas.Option.{same_Some}
use Rattle.fo_image.specs.Field.{Spells}
use Rattle.fo_image.specs.Record.{RecordHolds, record_len, record_fields}
use Rattle.fo_image.proofs.RecordLemmas.{root_at}
use Rattle.fo_image.proofs.roots.root_of.Goals as goal

pub returns-then-end-gt-BLOCK : goal.returns-then-end-gt-BLOCK
returns-then-end-gt-BLOCK c = λ r s. let at = root_at c.args.block.now r s in absurd (omega (arith, c.u16_at.ensures, at.len, at.short))

pub returns-in_default : goal.returns-in_default
returns-in_default c = λ r s.
    let at = root_at c.args.block.now r s in
    let n : 104 + c.u16_at.result - 104 ≡ record_len r.own = omega (arith, c.u16_at.ensures, at.len) in
    let own_at : Spells (record_len r.own) record_fields RecordHolds r.own (take (104 + c.u16_at.result - 104) (drop 104 c.args.block.now)) = rw n at.own in
    let own = c.in_ok-own.ensures r.own own_at in
    cc

pub returns : goal.returns
returns c = λ r s.
    let at = root_at c.args.block.now r s in
    let n : 104 + c.u16_at.result - 104 ≡ record_len r.own = omega (arith, c.u16_at.ensures, at.len) in
    let own_at : Spells (record_len r.own) record_fields RecordHolds r.own (take (104 + c.u16_at.result - 104) (drop 104 c.args.block.now)) = rw n at.own in
    let own = same_Some c.in-Some.own r.own (sym c.in-Some.is ∙ c.in_ok-own.ensures r.own own_at) in
    rw (c.u32_at.ensures ∙ at.epoch, c.u32_at-2.ensures ∙ at.time, c.u32_at-3.ensures ∙ at.prev_epoch, c.u32_at-4.ensures ∙ at.prev, c.entry_of.ensures r.entries at.entries, c.entry_of-2.ensures r.meta at.meta, own) refl
