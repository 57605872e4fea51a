use Rattle.std.proofs.Common.{◌≡◌, ◌*◌, ◌<◌, length, refl, sym, ◌∙◌, ap, subst, arith}
use Rattle.std.proofs.lemmas.Bool.{false≢true}
use Rattle.fo_image.specs.declared.types.State.TheVariants.{Free}
use Rattle.fo_image.specs.Format.{SpellsLabel}
use Rattle.fo_image.specs.Place.{label_blocks}
use Rattle.fo_sound.specs.Image.{is_zero, IsDataBlock, HasLabel}
use Rattle.fo_check_labels.specs.Known.{fresh}
use Rattle.fo_check_labels.specs.Table.BreaksTable.{label, other}
use Rattle.fo_check_labels.proofs.Scanning.{scanned_more, scanned_push, listed_last, listed_free, table_added}
use Rattle.fo_check_labels.proofs.Marking.{few_upto, few_more}
use Rattle.fo_check_labels.proofs.labels.Labels.add_label.Goals.{then-address-first_data-via-then-address-first_data, then-address-first_data-via-else-address-first_data+then-blocks-address}
use Rattle.fo_check_labels.proofs.labels.Labels.add_label.Goals as goal

pub returns-then-is_zero-clause-table : goal.returns-then-is_zero-clause-table
returns-then-is_zero-clause-table c image seen len is scan =
    let none : ¬ IsDataBlock (length image) c.args.address = λ p. elim c.then-address-first_data.branch [ then-address-first_data-via-then-address-first_data w ↦ omega (arith, w.if-address-first_data.true, p.from, len, c.first_data.ensures) | then-address-first_data-via-else-address-first_data+then-blocks-address w ↦ omega (arith, w.if-blocks-address.true, p.to, len) ] in
    scanned_more (λ p. absurd (none p)) (λ _. ap is_zero (sym is) ∙ sym c.is_zero.ensures ∙ c.if-is_zero.true) scan

pub returns-then-address-first_data-clause-table : goal.returns-then-address-first_data-clause-table
returns-then-address-first_data-clause-table c image seen len is scan =
    let none : ¬ IsDataBlock (length image) c.args.address = λ p. elim c.then-address-first_data.branch [ then-address-first_data-via-then-address-first_data w ↦ omega (arith, w.if-address-first_data.true, p.from, len, c.first_data.ensures) | then-address-first_data-via-else-address-first_data+then-blocks-address w ↦ omega (arith, w.if-blocks-address.true, p.to, len) ] in
    let place : c.args.address < 585 * label_blocks (length image) = omega (arith, len, c.requires.place) in
    other c.args.address place none c.label_place.ensures.block (λ zero. false≢true (sym c.if-is_zero.false ∙ c.is_zero.ensures ∙ ap is_zero is ∙ zero))

pub returns-in-Err-clause-table : goal.returns-in-Err-clause-table
returns-in-Err-clause-table c image seen len is scan =
    let place : IsDataBlock (length image) c.args.address = record { from = omega (arith, c.if-address-first_data.false, len, c.first_data.ensures); to = omega (arith, c.if-blocks-address.false, len) } in
    label place (λ l h. c.in-Err.ensures.refused.1 l (subst (SpellsLabel l) (sym is) h.spelled))

pub returns-in-Ok-clause-table : goal.returns-in-Ok-clause-table
returns-in-Ok-clause-table c image seen len is scan =
    let place : IsDataBlock (length image) c.args.address = record { from = omega (arith, c.if-address-first_data.false, len, c.first_data.ensures); to = omega (arith, c.if-blocks-address.false, len) } in
    let has : HasLabel image c.args.address c.in-Ok.label = record { spelled = subst (SpellsLabel c.in-Ok.label) is c.in-Ok.ensures.found } in
    scanned_more (λ _. listed_free c.args.self.now.known.items has (c.is_free.ensures.0 c.if-is_free.true)) (λ isnt. absurd (isnt place)) scan

pub returns-in-Ok-2-clause-table : goal.returns-in-Ok-2-clause-table
returns-in-Ok-2-clause-table c image seen len is scan =
    let place : IsDataBlock (length image) c.args.address = record { from = omega (arith, c.if-address-first_data.false, len, c.first_data.ensures); to = omega (arith, c.if-blocks-address.false, len) } in
    let l = c.in-Ok.label in
    let known = c.args.self.now.known.items in
    let has : HasLabel image c.args.address l = record { spelled = subst (SpellsLabel l) is c.in-Ok.ensures.found } in
    let used : l.state ≡ Free → ⊥ = λ free. false≢true (sym c.if-is_free.false ∙ c.is_free.ensures.1 free) in
    let k = fresh c.args.address l in
    table_added known c.add_known.new.self.known.items c.args.address l c.add_known.result c.add_known.ensures.added c.add_known.ensures.memory
    (scanned_more (λ _. listed_last known k has (record { address_is = refl; label_is = refl })) (λ isnt. absurd (isnt place)) (scanned_push k (record { place = place; has = has; used = used; fresh = refl }) scan))

pub returns-then-is_zero-clause-few : goal.returns-then-is_zero-clause-few
returns-then-is_zero-clause-few c f = few_upto c.args.self.now.known.items (omega arith) f

pub returns-in-Ok-clause-few : goal.returns-in-Ok-clause-few
returns-in-Ok-clause-few c f = few_upto c.args.self.now.known.items (omega arith) f

pub returns-in-Ok-2-clause-few : goal.returns-in-Ok-2-clause-few
returns-in-Ok-2-clause-few c f =
    few_more c.args.self.now.known.items c.add_known.new.self.known.items c.args.address c.in-Ok.label c.add_known.result
    (omega (arith, c.if-address-first_data.false, c.first_data.ensures)) (omega (arith, c.if-blocks-address.false)) f c.add_known.ensures.added
