use Rattle.std.proofs.Common.{Some, sym, ap, ◌∙◌}
use Rattle.std.specs.Option.{option_copied}
use Rattle.fo_buffers.specs.Held.{held_at}
use Rattle.fo_bring.proofs.Bringing.{gets_in}
use Rattle.fo_bring.proofs.Copying.{good_lent, if_some, ranks_of}
use Rattle.fo_bring.proofs.copies.lend_held.Goals as goal

pub if_formed-requires-clause-slots : goal.if_formed-requires-clause-slots
if_formed-requires-clause-slots c = (good_lent c.args.first c.args.count c.args.kind (held_at c.args.buffers.now c.args.at) c.bytes.result.now (ap Some c.bytes.ensures.value ∙ ap option_copied (sym c.in-Some.is) ∙ c.block.ensures.value) c.requires).slots

pub if_formed-requires-clause-zeros : goal.if_formed-requires-clause-zeros
if_formed-requires-clause-zeros c = (good_lent c.args.first c.args.count c.args.kind (held_at c.args.buffers.now c.args.at) c.bytes.result.now (ap Some c.bytes.ensures.value ∙ ap option_copied (sym c.in-Some.is) ∙ c.block.ensures.value) c.requires).zeros

pub returns-in-Some-clause-lent : goal.returns-in-Some-clause-lent
returns-in-Some-clause-lent c = if_some c.if_formed.result (λ b g. gets_in c.args.kind c.args.rank (held_at c.args.buffers.now c.args.at) c.bytes.result.now b.now (ap Some c.bytes.ensures.value ∙ ap option_copied (sym c.in-Some.is) ∙ c.block.ensures.value) g) c.if_formed.ensures.lent

pub returns-in-Some-clause-again : goal.returns-in-Some-clause-again
returns-in-Some-clause-again c = λ ranked. c.if_formed.ensures.again (ranks_of c.args.kind c.args.rank (held_at c.args.buffers.now c.args.at) c.bytes.result.now (ap Some c.bytes.ensures.value ∙ ap option_copied (sym c.in-Some.is) ∙ c.block.ensures.value) ranked)
