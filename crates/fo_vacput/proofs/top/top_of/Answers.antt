use Rattle.std.proofs.Common.{◌≡◌, ◌+◌, ◌-◌, refl, subst, arith, take, drop}
use Rattle.fo_image.specs.Field.{Spells}
use Rattle.fo_image.specs.Record.{RecordHolds, SpellsRecord, RefusedBy, record_len, record_fields}
use Rattle.fo_vacput.proofs.Tops.{top_at}
use Rattle.fo_vacput.proofs.top.top_of.Goals as goal

pub returns-then-end-gt-BLOCK-clause-only : goal.returns-then-end-gt-BLOCK-clause-only
returns-then-end-gt-BLOCK-clause-only c = λ t s. let at = top_at c.args.block.now t s in absurd (omega (arith, c.u16_at.ensures, at.len, at.short))

pub returns-in-Ok-clause-only : goal.returns-in-Ok-clause-only
returns-in-Ok-clause-only c = λ t s.
    let at = top_at c.args.block.now t s in
    let n : 80 + c.u16_at.result - 80 ≡ record_len t.own = omega (arith, c.u16_at.ensures, at.len) in
    let own_at : Spells (record_len t.own) record_fields RecordHolds t.own (take (80 + c.u16_at.result - 80) (drop 80 c.args.block.now)) = rw n at.own in
    rw (c.entry_of-entries.ensures t.entries at.entries, c.entry_of-meta.ensures t.meta at.meta, c.in-Ok.ensures.only t.own own_at) refl

pub returns-in-Err-Bad-clause-only : goal.returns-in-Err-Bad-clause-only
returns-in-Err-Bad-clause-only c = λ t s.
    let at = top_at c.args.block.now t s in
    let n : 80 + c.u16_at.result - 80 ≡ record_len t.own = omega (arith, c.u16_at.ensures, at.len) in
    let own_at : Spells (record_len t.own) record_fields RecordHolds t.own (take (80 + c.u16_at.result - 80) (drop 80 c.args.block.now)) = rw n at.own in
    let refused = subst (λ e. RefusedBy (λ r. SpellsRecord r (take (80 + c.u16_at.result - 80) (drop 80 c.args.block.now))) e) c.in-Err-Bad.field-0-is c.in-Err-Bad.ensures.refused in
    absurd (refused.1 t.own own_at)
