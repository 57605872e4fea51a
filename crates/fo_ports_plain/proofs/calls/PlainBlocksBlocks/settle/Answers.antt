use Rattle.std.proofs.Common.{◌≡◌, [], sym, ◌∙◌, ap, subst}
use Rattle.fo_ports.specs.State.{Rests}
use Rattle.fo_ports_plain.specs.Meaning.{state_of}
use Rattle.fo_ports_plain.specs.Parts.{parts}
use Rattle.fo_ports_plain.proofs.Passing.{settled_rests}
use Rattle.fo_ports_plain.proofs.calls.PlainBlocksBlocks.settle.Goals as goal

pub returns-clause-rests : goal.returns-clause-rests
returns-clause-rests c =
    let p = parts c.args.self.now in
    let seen = c.pass.new.self.seen.items in
    let is : parts c.pass.new.self ≡ record p { waits = []; seen = seen } = c.pass.ensures.rest ∙ ap (λ ws. record p { waits = ws; seen = seen }) c.clear.ensures.items in
    subst (λ z. Rests (state_of p) (state_of z)) (sym is) (settled_rests p seen c.pass.ensures.seen)
