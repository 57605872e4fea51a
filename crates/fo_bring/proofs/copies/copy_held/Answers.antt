use Rattle.std.proofs.Common.{sym, ap, ◌∙◌}
use Rattle.std.specs.Option.{option_copied}
use Rattle.fo_buffers.specs.Held.{held_at}
use Rattle.fo_bring.proofs.Bringing.{gets_in}
use Rattle.fo_bring.proofs.Copying.{good_held, ranks_of}
use Rattle.fo_bring.proofs.copies.copy_held.Goals as goal

pub copy_formed-requires-clause-slots : goal.copy_formed-requires-clause-slots
copy_formed-requires-clause-slots c = (good_held c.args.first c.args.count c.args.kind (held_at c.args.buffers.now c.args.at) c.in-Some.bytes.now (ap option_copied (sym c.in-Some.is) ∙ c.bytes.ensures.value) c.requires.good).slots

pub copy_formed-requires-clause-zeros : goal.copy_formed-requires-clause-zeros
copy_formed-requires-clause-zeros c = (good_held c.args.first c.args.count c.args.kind (held_at c.args.buffers.now c.args.at) c.in-Some.bytes.now (ap option_copied (sym c.in-Some.is) ∙ c.bytes.ensures.value) c.requires.good).zeros

pub returns-in-Some-clause-copied : goal.returns-in-Some-clause-copied
returns-in-Some-clause-copied c = λ yes. gets_in c.args.kind c.args.rank (held_at c.args.buffers.now c.args.at) c.in-Some.bytes.now _ (ap option_copied (sym c.in-Some.is) ∙ c.bytes.ensures.value) (c.copy_formed.ensures.copied yes)

pub returns-in-Some-clause-again : goal.returns-in-Some-clause-again
returns-in-Some-clause-again c = λ ranked. c.copy_formed.ensures.again (ranks_of c.args.kind c.args.rank (held_at c.args.buffers.now c.args.at) c.in-Some.bytes.now (ap option_copied (sym c.in-Some.is) ∙ c.bytes.ensures.value) ranked)
