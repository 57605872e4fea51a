use Rattle.std.proofs.Common.{◌<◌, length, [], ◌∷◌, ◌++◌, sym, ap, ◌∙◌, subst, arith}
use Rattle.atomic_table.specs.Table.{opening}
use Rattle.fo_gate.specs.History.{epochs_word}
use Rattle.fo_gate.specs.Rule.{first_view, IsKept}
use Rattle.fo_gate.specs.declared.rule.Start.{Start}
use Rattle.fo_gate.specs.declared.rule.Slot.TheVariants.{In}
use Rattle.fo_gate.proofs.Keeps.{opens, length-first, apart_first}
use Rattle.fo_gate.proofs.gate.Gate.new.Goals as goal

pub new-made-requires : goal.new-made-requires
new-made-requires g c =
    let low = g.S.Turned.low in
    let high = g.S.Turned.high in
    let key : Start g.row.S.Denot = record { state = c.of.result; seats = c.args.seats } in
    let e = c.epochs-low.ensures in
    let is = c.of.ensures in
    let p = c.epochs_word-word.ensures in
    let low_is = e.0 ∙ ap low (sym is) in
    let high_is = e.1 ∙ ap high (sym is) in
    let items = c.push_reserved.ensures.items ∙ ap (λ l. l ++ In c.args.state 0 ∷ []) c.in-Ok.ensures.items ∙ ap (λ a. In a 0 ∷ []) (sym is) in
    subst (λ xs. IsKept g.S.Turned.turns low high key (opening (0 ∷ 0 ∷ 0 ∷ c.epochs_word-word.result ∷ []) xs (first_view key))) (sym items)
    (opens g.S.Turned.turns low high key c.epochs_word-word.result (omega (arith, c.ranges.seats.fits)) (subst (λ n. n < 4294967296) low_is p.small.0) (subst (λ n. n < 4294967296) high_is p.small.1) (p.word ∙ (λ k. epochs_word (low_is k) (high_is k))))

pub invariant_of-seat : goal.invariant_of-seat
invariant_of-seat g c =
    let me = c.in-Ok-made.ensures.ok.4 in
    record { idle = (ap (λ m. m.1) me, (ap (λ m. m.0.tickets) me, ap (λ m. m.0.holds) me, ap (λ m. m.0.owes) me)); counted = (sym (ap (λ m. length m.0.numbers) me ∙ length-first c.args.seats), c.requires); apart = apart_first _ _ _ me }
