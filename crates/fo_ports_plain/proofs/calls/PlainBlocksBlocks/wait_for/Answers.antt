use Rattle.std.proofs.Common.{◌≡◌, [], ◌∷◌, ◌++◌, sym, ◌∙◌, ap, subst}
use Rattle.fo_ports.specs.State.{WaitsForPairs, AddsNoWait, Calm, none}
use Rattle.fo_ports_plain.specs.Meaning.{state_of}
use Rattle.fo_ports_plain.specs.Parts.{parts}
use Rattle.fo_ports_plain.proofs.Waiting.{waits_for, wait_calm}
use Rattle.fo_ports_plain.proofs.calls.PlainBlocksBlocks.wait_for.Goals as goal

pub returns-clause-waits : goal.returns-clause-waits
returns-clause-waits c =
    let p = parts c.args.self.now in
    let w = c.add_wait.ensures.waits in
    let room = c.add_wait.new.self.room in
    let is : parts c.add_wait.new.self ≡ record p { waits = p.waits ++ w.0 ∷ []; room = room } = c.add_wait.ensures.rest ∙ ap (λ ws. record p { waits = ws; room = room }) w.1 in
    subst (λ z. WaitsForPairs c.args.at c.args.on (state_of p) (state_of z) × AddsNoWait (λ a. a ≡ c.args.at) (state_of p) (state_of z)) (sym is)
    (waits_for p w.0 c.args.at c.args.on room w.2 w.3 w.4)

pub returns-clause-calm : goal.returns-clause-calm
returns-clause-calm c =
    let p = parts c.args.self.now in
    let w = c.add_wait.ensures.waits in
    let room = c.add_wait.new.self.room in
    let is : parts c.add_wait.new.self ≡ record p { waits = p.waits ++ w.0 ∷ []; room = room } = c.add_wait.ensures.rest ∙ ap (λ ws. record p { waits = ws; room = room }) w.1 in
    subst (λ z. Calm none 1 (state_of p) (state_of z)) (sym is)
    (wait_calm p w.0 c.args.at c.args.on room w.2 w.3 w.4 c.add_wait.ensures.room)
